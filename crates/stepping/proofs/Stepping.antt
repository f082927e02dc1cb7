-- What start, refusals and step need of the rules: the first thread, the room of a call that nothing refuses, a step by its two ways.
use Prim.Native.Nat.{ℕ, zero, suc, ◌+◌, ◌<◌}
use mathlib.Core.Path.{◌≡◌, refl, sym, ap, ◌∙◌}
use mathlib.Core.Logic.{◌≢◌}
use mathlib.Core.Bool.{true, false}
use mathlib.Core.List.{List, [], ◌∷◌}
use native.Mathlib.Omega.{arith}
use lib.Dec.{ltb}
use lib.ListN.{length}
use borrow.Author.Tests.{leb-false}
use Rattle.rules.specs.Lists.{any, insert}
use Rattle.rules.specs.Numbers.{devices, full_slice}
use Rattle.laws.specs.Words.{Limits}
use Rattle.rules.specs.Tables.{Tables, with_runner, with_threads, live, new_thread, me, start}
use Rattle.rules.specs.Waking.{Outcome, ◌handing◌, blocks_used, accepts}
use Rattle.rules.specs.Send.{message, decides}
use Rattle.rules.specs.Dispatch.{dispatch}
use Rattle.rules.specs.Events.{decode}
use Rattle.rules.specs.Refusals.{first_of, no_thread_free, ends_nobody, call_rules, refusal}
use Rattle.rules.specs.Refused.{refusal_number}
use Rattle.rules.specs.Step.{Stepped, serve, act, decided, settle, step}
use Rattle.rules.specs.declared.refusal.Refusal.{Refusal}
use Rattle.rules.specs.declared.refusal.Refusal.TheVariants.{Over, Malformed, NobodyRuns, NotLive, NoBlockFree, NoThreadFree}
use Rattle.rules.specs.declared.refusal.Refusal.TheVariants.{BrotherOfFirst, DeviceTaken, NoDecision, OwnName, NoTables, BufferShort}
use Rattle.rules.specs.declared.refusal.Refusal.TheVariants.{RoomShort, CutShort, OutOfOrder, OutOfRange, NamesNobody, TableRule}
use Rattle.laws.specs.Words.{Running, NoParent, Thread, Answer, Nothing, Runner, Runs, Target, Call, Send, CreateBrother}
use Rattle.laws.specs.Words.{CreateSon, Terminate, WaitForIo, Event, Decision}
use Rattle.laws.specs.Types.{Ruled}
use Rattle.laws.specs.Decoded.{ProperCall, Proper}
use Rattle.laws.proofs.Room.{messages_room, clock_room}
use Rattle.laws.proofs.Steps.{passed, called}
use Rattle.laws.proofs.PlacesKept.{runner_live, act_inv}
use Rattle.laws.proofs.Kept.{step_ruled}
use Rattle.store.specs.Store.{limits, tables, nothing, Holding, Leaves, Hands}
use Rattle.store.proofs.Limits.{names_left}
use Rattle.handling.specs.Standing.{MidEvent, AtRest}
use Rattle.stepping.specs.Stepping.{Steps, event_of, Asks}
use Rattle.stepping.specs.declared.refusals.Accepted.TheVariants.{ByRunner}

-- ---- the start

-- there is room for a first thread
pub first_fits : (m : List ℕ) (L : Limits) → (tables m ≡ nothing) × (limits m ≡ L) × Holding m → 0 < L.threads → (n : ℕ) →
    Holding m × (length (tables m).threads < (limits m).threads) × (live n (tables m) ≡ false)
unfolding any
first_fits m L s h n = (s.2, rw (s.0, s.1) h, rw s.0)

-- it is put in, and runs
pub started : {m₁ m₂ m₃ : List ℕ} {t : Thread} (L : Limits) →
    (tables m₁ ≡ nothing) × (limits m₁ ≡ L) × Holding m₁ →
    t ≡ new_thread 0 NoParent Running →
    Leaves m₁ m₂ (with_threads (insert (λ u. ltb u.name t.name) t (tables m₁).threads) (tables m₁)) →
    Leaves m₂ m₃ (with_runner (Runs 0 full_slice) (tables m₂)) →
    (tables m₃ ≡ start) × (limits m₃ ≡ L) × Holding m₃
unfolding insert
started {t = t} L s e a r =
    let alone = ap (λ (T : Tables). with_threads (insert (λ u. ltb u.name t.name) t T.threads) T) s.0
    ∙ ap (λ (u : Thread). with_threads (u ∷ []) nothing) e in
    (r.says ∙ ap (with_runner (Runs 0 full_slice)) (a.says ∙ alone), r.same ∙ a.same ∙ s.1, r.holding)

-- ---- a call that nothing refuses

module _ {L : Limits} {T : Tables} (R : Ruled L T) (n : ℕ) (c : Call) (f : first_of (call_rules L T n c) ≡ 0) where
  -- where a block is needed, one is free
  pub message_room : (to w : ℕ) → c ≡ Send to w → decides n to T ≡ false → any (accepts (message to n w)) T.threads ≡ false →
      length T.messages < L.threads + L.blocks
  unfolding call_rules
  message_room to w e d a =
      let free = (passed _ 4 _ (passed _ 8 _ (passed _ 3 _ (rw e at f)).1).1).0 in
      omega (arith, leb-false L.blocks (blocks_used T) (rw (d, a) at free), messages_room L T R.fits, R.inv.few)

  free_thread : no_thread_free L T ≡ false → length T.threads < L.threads
  free_thread e = leb-false _ _ e

  pub brother_room : c ≡ CreateBrother → length T.threads < L.threads
  unfolding call_rules
  brother_room e = free_thread (passed _ 5 _ (passed _ 6 _ (rw e at f)).1).0

  pub son_room : c ≡ CreateSon → length T.threads < L.threads
  unfolding call_rules
  son_room e = free_thread (passed _ 5 _ (rw e at f)).0

  pub ends_somebody : (who : Target) → c ≡ Terminate who → ends_nobody T who ≡ false
  unfolding call_rules
  ends_somebody who e = (passed _ 3 _ (rw e at f)).0

module _ {L : Limits} {T : Tables} (R : Ruled L T) (n : ℕ) (runs : (s : ℕ) × (T.runner ≡ Runs n s)) where
  pub caller_lives : live n T ≡ true
  caller_lives = runner_live R.inv n runs.0 runs.1

  pub waiting_room : length T.clock < L.threads
  waiting_room = omega (arith, clock_room L T R.inv n runs.0 runs.1, R.inv.few)

-- devices are below 48
pub device_known : {c : Call} (d : ℕ) → c ≡ WaitForIo d → ProperCall c → d < devices
unfolding ProperCall
device_known d e p = rw e at p

-- ---- an accepted event

-- a call is the runner's own, and passes its own rules
pub called_by : (L : Limits) (T : Tables) (n : ℕ) (c : Call) → Asks T (ByRunner n c) → refusal L T (event_of (ByRunner n c)) ≡ 0 →
    Proper (event_of (ByRunner n c)) → ((s : ℕ) × (T.runner ≡ Runs n s)) × (first_of (call_rules L T n c) ≡ 0) × ProperCall c
unfolding Asks event_of Proper
called_by L T n c a f p =
    let k = called L T c f in
    let own : k.name ≡ n = cc in
    (a, rw own at k.passes, p)

-- and what serves it is what the event does
pub serves : (T : Tables) (n : ℕ) (c : Call) → Asks T (ByRunner n c) → serve n T c ≡ act T (event_of (ByRunner n c))
unfolding Asks event_of act me
serves T n c a = ap (λ (r : Runner). serve (me r) T c) (sym a.1)

-- refusals count from 1
pub some_number : (r : Refusal) → refusal_number r ≢ 0
unfolding refusal_number
some_number Over e = omega (arith, e)
some_number Malformed e = omega (arith, e)
some_number NobodyRuns e = omega (arith, e)
some_number NotLive e = omega (arith, e)
some_number NoBlockFree e = omega (arith, e)
some_number NoThreadFree e = omega (arith, e)
some_number BrotherOfFirst e = omega (arith, e)
some_number DeviceTaken e = omega (arith, e)
some_number NoDecision e = omega (arith, e)
some_number OwnName e = omega (arith, e)
some_number NoTables e = omega (arith, e)
some_number BufferShort e = omega (arith, e)
some_number RoomShort e = omega (arith, e)
some_number CutShort e = omega (arith, e)
some_number OutOfOrder e = omega (arith, e)
some_number OutOfRange e = omega (arith, e)
some_number NamesNobody e = omega (arith, e)
some_number TableRule e = omega (arith, e)

-- ---- a step

-- what an accepted event leaves can be dispatched
pub acted : {m m' : List ℕ} {a : Answer} (e : Event) → AtRest m → refusal (limits m) (tables m) e ≡ 0 → Hands m m' a (act (tables m) e) →
    MidEvent m'
acted {m} e S f h = record {
  holding = h.holding;
  inv = rw (h.same, ap (λ (o : Outcome). o.tables) h.says) (act_inv e (names_left m S.holding.shaped) f S.ruled.inv);
}

refuses : (n : ℕ) (T : Tables) (e : Event) → n ≢ 0 → decided n (T handing Nothing) ≡ settle n T e
unfolding settle
refuses zero T e d = absurd (d refl)
refuses (suc n) T e d = refl

-- the event that the bytes mean, and its refusal
module _ {m : List ℕ} (S : AtRest m) (bytes : List ℕ) (e : Event) (means : e ≡ decode bytes) (n : ℕ)
    (gets : n ≡ refusal (limits m) (tables m) e) where
  settles : settle n (tables m) e ≡ step (limits m) (tables m) bytes
  unfolding step
  settles = rw (gets, means)

  -- what is left is what the rules say
  left : (m' : List ℕ) (a : Answer) (d : Decision) (k : ℕ) → d ≡ (decided k (tables m' handing a)).decision →
      decided k (tables m' handing a) ≡ settle n (tables m) e → limits m' ≡ limits m → Holding m' → (k ≢ 0 → m' ≡ m) →
      Steps m m' d (step (limits m) (tables m) bytes)
  left m' a d k x y l h z =
      let w = y ∙ settles in
      let t : tables m' ≡ (step (limits m) (tables m) bytes).tables = ap (λ (s : Stepped). s.tables) w in
      record {
        decides = x ∙ ap (λ (s : Stepped). s.decision) w;
        leaves = t;
        same = l;
        at_rest = record { holding = h; ruled = rw (l, t) (step_ruled bytes (names_left m S.holding.shaped) S.ruled) };
        keeps = λ i. z (λ j. i (ap (λ (q : Decision). q.refusal) x ∙ j));
      }

  pub accepted : {m₁ m₂ : List ℕ} {a b : Answer} (d : Decision) → n ≡ 0 → Hands m m₁ a (act (tables m) e) →
      Hands m₁ m₂ b (dispatch (tables m₁ handing a)) → d ≡ (decided 0 (tables m₂ handing b)).decision →
      Steps m m₂ d (step (limits m) (tables m) bytes)
  unfolding settle
  accepted {m₁} {m₂} {a} {b} d z g h x =
      left m₂ b d 0 x (rw z (ap (decided 0) (h.says ∙ ap dispatch g.says))) (h.same ∙ g.same) h.holding (λ i. absurd (i refl))

  pub refused : (d : Decision) → n ≢ 0 → d ≡ (decided n (tables m handing Nothing)).decision → Steps m m d (step (limits m) (tables m) bytes)
  refused d z x = left m Nothing d n x (refuses n (tables m) e z) refl S.holding (λ _. refl)
