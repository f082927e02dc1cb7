-- No late answer: what a thread is handed was sent to it, by the sender that is named, in this very life of the thread.
use Prim.Native.Nat.{ℕ, zero, suc, ◌≤◌, ◌<◌}
use mathlib.Core.Path.{◌≡◌, refl, sym, ap, ◌∙◌, subst}
use mathlib.Core.Logic.{⊎_elim}
use mathlib.Core.Bool.{Bool, true, false, false≢true}
use mathlib.Core.List.{List, [], ◌∷◌, ◌++◌, append-nil, append_assoc, Memᴰ}
use native.Mathlib.Omega.{arith}
use borrow.Author.Tests.{eqb-true}
use Rattle.rules.specs.Lists.{has}
use Rattle.rules.specs.Numbers.{names}
use Rattle.laws.specs.Words.{Limits}
use Rattle.rules.specs.Tables.{Tables, named, live, manager, start}
use Rattle.rules.specs.Ending.{ended_set, end}
use Rattle.rules.specs.Dispatch.{dispatch}
use Rattle.rules.specs.Events.{decode}
use Rattle.rules.specs.Refusals.{refusal}
use Rattle.rules.specs.Step.{act, settle, step}
use Rattle.rules.specs.Runs.{Input, run}
use Rattle.laws.specs.Words.{Answer, Nothing, SenderGone, Unset, Thread, Event}
use Rattle.laws.specs.Late.{from_a_thread, Sends, a_message, a_notice, Owed, sent, still, SentIn, Told, ended, still_told}
use Rattle.laws.specs.Types.{Entry, Detail, Ruled}
use Rattle.laws.proofs.Tests.{clash}
use Rattle.laws.proofs.Tally.{none_any}
use Rattle.laws.proofs.Members.{last_same, ends_in}
use Rattle.laws.proofs.Threads.{looked_up}
use Rattle.laws.proofs.Steps.{run_append, run_last}
use Rattle.laws.proofs.Kept.{run_ruled, start_ruled}
use Rattle.laws.proofs.Ending.{ending_forgets}
use Rattle.laws.proofs.Refusals.{decision_gives_it}
use Rattle.laws.proofs.Passing.{accepted_send, Gives, dispatch_names, After, handed_over}

-- ---- what is said

-- who is sent something is live
pub receiver_live : {L : Limits} (T : Tables) → Ruled L T → (bytes : List ℕ) {n : ℕ} {a : Answer} → Sends L T bytes n a → live n T ≡ true
unfolding Entry
receiver_live {L} T R bytes (a_message {n = n} {w = w} r i d u) =
    accepted_send L T n w (ap (refusal L T) (sym d) ∙ sym (decision_gives_it L T bytes) ∙ r)
receiver_live {L} T R bytes (a_notice {s = s} {n = n} {k = k} r i d g) =
    ⊎_elim (λ e. let z : ◌≡◌ {A = ℕ} 0 1 = cc in absurd (omega arith))
    (λ x. (subst (Entry T.threads x.0.name) (sym x.3 ∙ g) ((R.fits.threads x.0 x.1).entries k)).0)
    (looked_up Unset (λ t. manager k t.managers) s T.threads)

-- ---- what is from a thread is owed

abbrev Sure : Limits → Input → ℕ → Answer → Type 0
Sure L es n a = from_a_thread a ≡ true → Owed L es n a

sure_nothing : (L : Limits) (es : Input) (n : ℕ) → Sure L es n Nothing
unfolding from_a_thread
sure_nothing L es n h = absurd (false≢true h)

sure_gives : (L : Limits) (es : Input) (e : List ℕ) → (step L (run L start es) e).decision.refusal ≡ 0 →
    Gives (After (Sure L) L es e) (run L start es) (decode e)
unfolding from_a_thread
sure_gives L es e r = record {
  nothing = λ n l h. absurd (false≢true h);
  result = λ n w l h. absurd (false≢true h);
  by_send = λ s q n w i d u l h. sent es e (a_message r i d u) l;
  by_trap = λ s q n c k i d g l h. sent es e (a_notice r i d g) l;
  by_end = λ x m t i j k g l h. absurd (false≢true h);
}

-- ---- since a time at which no thread n lived

module _ (L : Limits) (es : Input) (n : ℕ) (dead : live n (run L start es) ≡ false) where
  -- the last event came after that time
  pub last_since : (ds : Input) (c : List ℕ) (gs : Input) → ds ++ (c ∷ []) ≡ es ++ gs → live n (run L start (ds ++ (c ∷ []))) ≡ true →
      (hs : Input) × (ds ≡ es ++ hs) × (gs ≡ hs ++ (c ∷ []))
  last_since ds c gs i l =
      ⊎_elim (λ e. absurd (clash l (ap (λ (x : Input). live n (run L start x)) (i ∙ ap (λ (x : Input). es ++ x) e ∙ append-nil es) ∙ dead)))
      (λ r.
      let k = last_same ds (es ++ r.0) (i ∙ ap (λ (x : Input). es ++ x) r.2 ∙ sym (append_assoc es r.0 (r.1 ∷ []))) in
      (r.0, k.0, r.2 ∙ ap (λ (x : List ℕ). r.0 ++ (x ∷ [])) (sym k.1)))
      (ends_in gs)

  since : {a : Answer} (xs gs : Input) → xs ≡ es ++ gs → Owed L xs n a → SentIn L (run L start es) gs n a
  since {a} xs gs i (sent ds c s l) =
      let r = last_since ds c gs i l in
      record {
        earlier = r.0;
        event = c;
        later = [];
        among = r.2;
        sends = subst (λ (T : Tables). Sends L T c n a) (ap (run L start) r.1 ∙ run_append L start es r.0) s;
      }
  since xs gs i (still ds c s l) =
      let r = last_since ds c gs i l in
      let k = since ds r.0 r.1 s in
      record {
        earlier = k.earlier;
        event = k.event;
        later = k.later ++ (c ∷ []);
        among = r.2 ∙ ap (λ (x : Input). x ++ (c ∷ [])) k.among ∙ append_assoc k.earlier (k.event ∷ k.later) (c ∷ []);
        sends = k.sends;
      }

-- ---- who is told that a sender is gone

-- what dispatch leaves after an ending has no member of the ended set
ended_dead : (T : Tables) (e : Event) (x m : ℕ) → (act T e).tables ≡ end x T → has m (ended_set T.threads x) ≡ true →
    live m (dispatch (act T e)).tables ≡ false
ended_dead T e x m i h = none_any (named m) (dispatch (act T e)).tables.threads (λ u j. out u (dispatch_names (act T e) u j))
  where
    out : (u : Thread) → (t : Thread) × Memᴰ t (act T e).tables.threads × (u.name ≡ t.name) → named m u ≡ false
    out u r = go (named m u) refl
      where
        go : (b : Bool) → named m u ≡ b → b ≡ false
        go false k = refl
        go true k =
            absurd (clash h (ap (λ (y : ℕ). has y (ended_set T.threads x)) (eqb-true m u.name k ∙ r.2)
            ∙ (ending_forgets x T).threads r.0 (subst (λ (U : Tables). Memᴰ r.0 U.threads) i r.1)))

step_accepted : (L : Limits) (T : Tables) (bytes : List ℕ) → (step L T bytes).decision.refusal ≡ 0 →
    (step L T bytes).tables ≡ (dispatch (act T (decode bytes))).tables
unfolding step settle
step_accepted L T bytes = go (refusal L T (decode bytes))
  where
    go : (r : ℕ) → (settle r T (decode bytes)).decision.refusal ≡ 0 →
        (settle r T (decode bytes)).tables ≡ (dispatch (act T (decode bytes))).tables
    go zero e = refl
    go (suc r) e = absurd (omega arith)

abbrev Known : Limits → Input → ℕ → Answer → Type 0
Known L es n a = (m : ℕ) → a ≡ SenderGone m → Told L es n m

known_gives : (L : Limits) → 1 ≤ L.threads → L.threads < names → (es : Input) (e : List ℕ) →
    (step L (run L start es) e).decision.refusal ≡ 0 → Gives (After (Known L) L es e) (run L start es) (decode e)
unfolding Detail
known_gives L p q es e r = record {
  nothing = λ n l m i. absurd (let z : ◌≡◌ {A = ℕ} 0 1 = cc in omega arith);
  result = λ n w l m i. absurd (let z : ◌≡◌ {A = ℕ} 0 1 = cc in omega arith);
  by_send = λ s x n w j d u l m i. absurd (let z : ◌≡◌ {A = ℕ} 0 1 = cc i in omega arith);
  by_trap = λ s x n c k j d g l m i. absurd (let z : ◌≡◌ {A = ℕ} 0 1 = cc i in omega arith);
  by_end = λ x m t i j k g l o h.
      let wanted = subst (Detail T.threads T.messages t.name t.managers) k
      ((run_ruled start es q (start_ruled L p)).fits.threads t j).detail in
      let dead = ap (live m) (run_last L start es e ∙ step_accepted L T e r) ∙ ended_dead T (decode e) x m i g in
      let w : m ≡ o = cc in
      subst (λ (y : ℕ). Told L (es ++ (e ∷ [])) t.name y) w (ended es e t j refl k wanted.0 dead l);
}
  where
    T : Tables
    T = run L start es

known_nothing : (L : Limits) (es : Input) (n : ℕ) → Known L es n Nothing
known_nothing L es n m i = absurd (let z : ◌≡◌ {A = ℕ} 0 1 = cc in omega arith)

-- ---- the laws

-- What has been sent to a thread in its present life has been sent to a live thread.
pub owed_lives : {L : Limits} {es : Input} {n : ℕ} {a : Answer} → Owed L es n a → live n (run L start es) ≡ true
owed_lives (sent es e s l) = l
owed_lives (still es e o l) = l

-- So nothing is owed to a thread that has ended, or to a name that nobody has had.
pub nothing_owed_to_the_ended : {L : Limits} (es : Input) (n : ℕ) {a : Answer} → live n (run L start es) ≡ false → Owed L es n a → ⊥
nothing_owed_to_the_ended es n d o = clash (owed_lives o) d

-- Nothing is owed to a newcomer: to a thread that was not live before the last event.
pub newcomer_is_owed_nothing : (L : Limits) → 1 ≤ L.threads → L.threads < names → (es : Input) (e : List ℕ) (n : ℕ) {a : Answer} →
    live n (run L start es) ≡ false → Owed L (es ++ (e ∷ [])) n a → ⊥
newcomer_is_owed_nothing L p q es e n {a} d o = go (es ++ (e ∷ [])) refl o
  where
    go : (xs : Input) → xs ≡ es ++ (e ∷ []) → Owed L xs n a → ⊥
    go xs i (sent ds c s l) =
        let k = last_same ds es i in
        clash (receiver_live (run L start ds) (run_ruled start ds q (start_ruled L p)) c s)
        (ap (λ (x : Input). live n (run L start x)) k.0 ∙ d)
    go xs i (still ds c s l) = nothing_owed_to_the_ended ds n (ap (λ (x : Input). live n (run L start x)) (last_same ds es i).0 ∙ d) s

-- A message or notice that an event hands to thread n has been sent to thread n in its present life.
pub handed_was_owed : (L : Limits) → 1 ≤ L.threads → L.threads < names → (es : Input) (e : List ℕ) (n : ℕ) (a : Answer) →
    (step L (run L start es) e).decision.runner ≡ n → (step L (run L start es) e).decision.answer ≡ a → from_a_thread a ≡ true →
    Owed L (es ++ (e ∷ [])) n a
handed_was_owed L p q es e n a r i f =
    subst (Owed L (es ++ (e ∷ [])) n) i (subst (λ (x : ℕ). Sure L (es ++ (e ∷ [])) x (step L (run L start es) e).decision.answer) r
    (handed_over (Sure L) L p q (sure_nothing L) (λ ds d m b o l h. still ds d (o h) l) (sure_gives L) es e) (ap from_a_thread i ∙ f))

-- What is owed to thread n was sent after any time at which no thread n lived.
pub owed_since : (L : Limits) (es fs : Input) (n : ℕ) {a : Answer} → live n (run L start es) ≡ false → Owed L (es ++ fs) n a →
    SentIn L (run L start es) fs n a
owed_since L es fs n d o = since L es n d (es ++ fs) fs refl o

-- If at some time no thread n lived, then every message or notice that a later thread n is handed was sent to it after that time.
pub no_late_answer : (L : Limits) → 1 ≤ L.threads → L.threads < names → (es fs : Input) (e : List ℕ) (n : ℕ) (a : Answer) →
    live n (run L start es) ≡ false →
    (step L (run L start (es ++ fs)) e).decision.runner ≡ n → (step L (run L start (es ++ fs)) e).decision.answer ≡ a →
    from_a_thread a ≡ true → SentIn L (run L start es) (fs ++ (e ∷ [])) n a
no_late_answer L p q es fs e n a d r i f =
    since L es n d (es ++ fs ++ (e ∷ [])) (fs ++ (e ∷ [])) (append_assoc es fs (e ∷ [])) (handed_was_owed L p q (es ++ fs) e n a r i f)

-- A thread that is handed "sender gone" was receiving from that sender, in its present life, when an event ended the sender.
pub gone_was_waited_for : (L : Limits) → 1 ≤ L.threads → L.threads < names → (es : Input) (e : List ℕ) (n m : ℕ) →
    (step L (run L start es) e).decision.runner ≡ n → (step L (run L start es) e).decision.answer ≡ SenderGone m →
    Told L (es ++ (e ∷ [])) n m
gone_was_waited_for L p q es e n m r i =
    subst (λ (x : ℕ). Told L (es ++ (e ∷ [])) x m) r
    (handed_over (Known L) L p q (known_nothing L) (λ ds d x b k l y j. still_told ds d (k y j) l) (known_gives L p q) es e m i)
