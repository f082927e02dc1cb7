-- Send, decisions, receive and traps: each exit's tables are what the rules say, and what is woken or told has room.
use Rattle.std.proofs.Common.{Option, Some, None, is_some}
use Prim.Native.Nat.{ℕ, zero, suc, ◌+◌, ◌≤◌, ◌<◌}
use mathlib.Core.Path.{◌≡◌, refl, sym, ap, ◌∙◌}
use mathlib.Core.Logic.{◌≢◌}
use mathlib.Core.Bool.{Bool, true, false, not, true≢false, false≢true}
use mathlib.Core.List.{List}
use native.Mathlib.Omega.{arith}
use lib.ListN.{length}
use Rattle.rules.specs.Lists.{Pulled, missing, pulled, pull, keep, count}
use Rattle.laws.specs.Words.{Limits}
use Rattle.rules.specs.Words.{by_manager}
use Rattle.rules.specs.Tables.{Tables, with_messages, named, live, of_thread, change, manager}
use Rattle.rules.specs.States.{is_running, is_ready, on_clock, trapped_on, awaits}
use Rattle.rules.specs.Waking.{◌handing◌, wake, notice_of, handed, deliver, stop}
use Rattle.rules.specs.Ending.{end}
use Rattle.rules.specs.Send.{message, waits_for_decision, decides, decide, send}
use Rattle.rules.specs.Receive.{wanted_by, received, receive}
use Rattle.rules.specs.Trap.{notice, trap}
use Rattle.laws.specs.Words.{TrapKind, Wanted, Receiving, Trapped, Answer, Nothing, Manager, Unset, Set, Gone, Message, Runs}
use Rattle.laws.proofs.Tests.{and_left, and_right}
use Rattle.laws.proofs.Tally.{any_member, member_any}
use Rattle.laws.proofs.Places.{asleep}
use Rattle.laws.proofs.PlacesKept.{runner_live, stop_inv}
use Rattle.laws.proofs.Single.{any_place, of_at, of_none, decides_at, decides_none, decide_continues}
use Rattle.laws.proofs.Room.{notice_room}
use Rattle.store.specs.Store.{limits, tables, Holding, Leaves, Hands, Takes}
use Rattle.handling.specs.Standing.{MidEvent, AtRest}
use Rattle.handling.proofs.Leaving.{in_words, and_then, and_hands, carried, still_holds, holds}
use Rattle.handling.proofs.Moving.{woken_room}

-- ---- who decides

-- whether the receiver waits for the sender's decision is what it says; a receiver that is not there says no
pub decides_by : (T : Tables) → ((n : ℕ) → count (named n) T.threads ≤ 1) → (me to : ℕ) →
    of_thread false (awaits me) to T.threads ≡ decides me to T
decides_by T once me to = go (live to T) refl
  where
    go : (b : Bool) → live to T ≡ b → of_thread false (awaits me) to T.threads ≡ decides me to T
    go true e =
        let r = any_place (named to) T.threads e in
        of_at T once r.1 r.0 r.2 false (awaits me) to r.3 ∙ sym (decides_at T once r.1 r.0 r.2 me to r.3)
    go false e = of_none T false (awaits me) to e ∙ sym (decides_none T me to e)

-- ---- a decision

module _ {m : List ℕ} (H : MidEvent m) (me to : ℕ) (yes : decides me to (tables m) ≡ true) where
  abbrev T : Tables
  T = tables m

  -- who is decided about lives
  pub decided_live : live to T ≡ true
  decided_live =
      let r = any_member (waits_for_decision me to) T.threads yes in
      member_any (named to) T.threads r.0 r.1 (and_left (named to r.0) _ r.2)

  -- it is not ready, so there is room in the ready queue
  pub decided_room : {m₁ : List ℕ} (ms : List Message) → Leaves m m₁ (with_messages ms T) →
      Holding m₁ × (length (tables m₁).ready < (limits m₁).threads)
  unfolding trapped_on
  decided_room ms a = (
    a.holding,
    carried (λ (L : Limits) (U : Tables). length U.ready < L.threads) a
        (woken_room T H.inv (waits_for_decision me to) (λ t k. (asleep _ _ _ t.state (and_right (named to t) _ k)).1) yes),
  )

  pub decided_on : {m₁ m₂ : List ℕ} (w : ℕ) → w ≡ 0 → Leaves m m₁ (with_messages (keep (λ x. not (notice_of to x)) T.messages) T) →
      Leaves m₁ m₂ (wake to Nothing (tables m₁)) → Leaves m m₂ (decide me to w T)
  decided_on w z a b =
      in_words (sym (decide_continues T H.holding.once me to yes) ∙ ap (λ (n : ℕ). decide me to n T) (sym z))
      (and_then (wake to Nothing) a b)

pub decided_over : (T : Tables) (me to w : ℕ) → w ≢ 0 → end to T ≡ decide me to w T
unfolding decide
decided_over T me to zero d = absurd (d refl)
decided_over T me to (suc w) d = refl

-- ---- send

module _ (T : Tables) (me to w : ℕ) where
  pub sent_decides : decides me to T ≡ true → decide me to w T ≡ send me to w T
  unfolding send
  sent_decides e = rw e

  pub sent_delivers : (x : Message) → x ≡ message to me w → decides me to T ≡ false → deliver x T ≡ send me to w T
  unfolding send
  sent_delivers x q e = rw (e, q)

-- ---- receive

module _ {m m₁ : List ℕ} (me : ℕ) (w : Wanted) {g : Option Message} (t : Takes m m₁ g (pull (wanted_by me w) (tables m).messages)) where
  abbrev inbox : Pulled Message
  inbox = pull (wanted_by me w) (tables m).messages

  -- a message that was taken is handed over
  pub taken_hands : (x : Message) → g ≡ Some x → (a : Answer) → a ≡ handed x → Hands m m₁ a (receive me w (tables m))
  unfolding receive received
  taken_hands x e a h = go inbox refl
    where
      go : (p : Pulled Message) → inbox ≡ p → Hands m m₁ a (received me w (tables m) p)
      go missing q = absurd (false≢true (ap is_some (sym (t.none q).0 ∙ e)))
      go (pulled y ms) q =
          let r = t.one y ms q in
          and_hands r.1 (ap (λ (b : Answer). with_messages ms (tables m) handing b) (h ∙ ap handed (let same : x ≡ y = cc in same)))

  -- without one the runner waits
  pub missing_waits : {m₂ : List ℕ} → g ≡ None → Leaves m₁ m₂ (stop me (Receiving w) (tables m₁)) →
      Hands m m₂ Nothing (receive me w (tables m))
  unfolding receive received
  missing_waits {m₂} e b = go inbox refl
    where
      go : (p : Pulled Message) → inbox ≡ p → Hands m m₂ Nothing (received me w (tables m) p)
      go missing q = and_hands (and_then (stop me (Receiving w)) (t.none q).1 b) refl
      go (pulled y ms) q = absurd (true≢false (ap is_some (sym (t.one y ms q).0 ∙ e)))

  -- whatever was taken, what is left holds
  pub taken_holds : Holding m₁
  taken_holds = go inbox refl
    where
      go : (p : Pulled Message) → inbox ≡ p → Holding m₁
      go missing q = (t.none q).1.holding
      go (pulled y ms) q = (t.one y ms q).1.holding

-- ---- trap

-- by the manager of that kind
pub trap_by : (T : Tables) (me : ℕ) (k : TrapKind) (cause : ℕ) (g : Manager) →
    g ≡ of_thread Unset (λ t. manager k t.managers) me T.threads →
    by_manager (end me T) (λ n. deliver (notice n me cause) (stop me (Trapped k) T)) g ≡ trap me k cause T
unfolding trap
trap_by T me k cause g e = rw e

-- with none the thread ends
pub trap_ends : (T : Tables) (me : ℕ) (k : TrapKind) (cause : ℕ) (g : Manager) →
    g ≡ of_thread Unset (λ t. manager k t.managers) me T.threads → ((n : ℕ) → g ≡ Set n → ⊥) → end me T ≡ trap me k cause T
trap_ends T me k cause Unset e h = trap_by T me k cause Unset e
trap_ends T me k cause (Set n) e h = absurd (h n refl)
trap_ends T me k cause Gone e h = trap_by T me k cause Gone e

module _ {m : List ℕ} (me s : ℕ) (S : AtRest m) (runs : (tables m).runner ≡ Runs me s) where
  -- where it ends, it lives
  pub runner_ends : MidEvent m × (live me (tables m) ≡ true)
  runner_ends = (holds S, runner_live S.ruled.inv me s runs)

  -- where it is trapped, threads and queues agree still, and there is room for its notice
  module _ {m₁ : List ℕ} (k : TrapKind) (a : Leaves m m₁ (stop me (Trapped k) (tables m))) where
    pub trapped_holds : MidEvent m₁
    unfolding is_running is_ready on_clock
    trapped_holds = still_holds a (stop_inv me s runs (Trapped k) (refl, refl, refl) S.ruled.inv)

    pub trapped_room : length (tables m₁).messages < (limits m₁).threads + (limits m₁).blocks
    unfolding stop change
    trapped_room =
        carried (λ (L : Limits) (U : Tables). length U.messages < L.threads + L.blocks) a
        (omega (arith, notice_room (limits m) (tables m) S.ruled.inv S.ruled.fits me s runs))

    pub trapped_told : {m₂ : List ℕ} (x : Message) (n cause : ℕ) → x ≡ notice n me cause → Leaves m₁ m₂ (deliver x (tables m₁)) →
        Leaves m m₂ (deliver (notice n me cause) (stop me (Trapped k) (tables m)))
    trapped_told x n cause e b = and_then (deliver (notice n me cause)) a (in_words (ap (λ (y : Message). deliver y (tables m₁)) e) b)
