-- The incident, whole. A late answer was handed to a thread that had the name of an ended one. Here: when a name is given again its thread
-- has ended and at least 253 − (threads − 1) others have been created since it was given, and whatever the newcomer is handed comes from
-- something that happened in its own life.
use Prim.Native.Nat.{ℕ, ◌≤◌, ◌<◌}
use mathlib.Core.Path.{◌≡◌, refl, sym, ap, ◌∙◌, subst}
use mathlib.Core.Logic.{⊎_elim}
use mathlib.Core.Bool.{true, false}
use mathlib.Core.List.{List, [], ◌∷◌, ◌++◌, append_assoc}
use native.Mathlib.Omega.{arith}
use Rattle.rules.specs.Numbers.{small, names}
use Rattle.laws.specs.Words.{Limits}
use Rattle.rules.specs.Tables.{Tables, live, start}
use Rattle.rules.specs.Step.{step}
use Rattle.rules.specs.Runs.{Input, run}
use Rattle.laws.specs.Words.{Answer, Nothing, FromMessage, FromNotice, SenderGone, Result}
use Rattle.laws.specs.Incident.{Gets, a_word, an_end, at_once, by_waking, OfThese, none, one, GivenAgain, ANewLife}
use Rattle.laws.specs.Types.{Ruled}
use Rattle.laws.specs.Late.{SentIn, Told, ended, still_told}
use Rattle.laws.specs.Handed.{AskedIn, Cause, a_message, a_notice, sender_gone, a_result}
use Rattle.laws.specs.Givings.{givings, by_a_start}
use Rattle.laws.specs.Rest.{others, rest}
use Rattle.laws.proofs.Tests.{clash}
use Rattle.laws.proofs.Threads.{member_live}
use Rattle.laws.proofs.Steps.{run_append, run_last}
use Rattle.laws.proofs.Names.{name_free}
use Rattle.laws.proofs.PlacesKept.{runner_live}
use Rattle.laws.proofs.Kept.{run_ruled, start_ruled}
use Rattle.laws.proofs.Late.{receiver_live, last_since, owed_since}
use Rattle.laws.proofs.Handed.{asked_since, whatever_is_handed}
use Rattle.laws.proofs.Givings.{givings_last, gives_it}
use Rattle.laws.proofs.Rest.{a_name_rests}

-- ---- since a time at which no thread n lived

-- who gets an answer is there before the event
gets_lives : {L : Limits} (T : Tables) → Ruled L T → (bytes : List ℕ) (n : ℕ) {a : Answer} → Gets L T bytes n a → live n T ≡ true
gets_lives T R bytes n (a_word s) = receiver_live T R bytes s
gets_lives T R bytes n (an_end t m e s l d) = ap (λ (x : ℕ). live x T) (sym e) ∙ member_live T.threads t m
gets_lives T R bytes n (at_once a) = runner_live R.inv n a.slice a.runs
gets_lives T R bytes n (by_waking w) = ap (λ (x : ℕ). live x T) (sym w.name) ∙ member_live T.threads w.thread w.there

module _ (L : Limits) (es : Input) (n : ℕ) (dead : live n (run L start es) ≡ false) where
  told_since : (m : ℕ) (xs gs : Input) → xs ≡ es ++ gs → Told L xs n m → OfThese L (run L start es) gs n (SenderGone m)
  told_since m xs gs i (ended ds c t j e s l d a) =
      let r = last_since L es n dead ds c gs i a in
      one r.0 c [] r.2 (subst (λ (T : Tables). Gets L T c n (SenderGone m)) (ap (run L start) r.1 ∙ run_append L start es r.0)
      (an_end t j e s l (ap (live m) (sym (run_last L start ds c)) ∙ d)))
  told_since m xs gs i (still_told ds c k a) = let r = last_since L es n dead ds c gs i a in
      further r.0 c r.2 (told_since m ds r.0 r.1 k)
    where
      further : (hs : Input) (c : List ℕ) → gs ≡ hs ++ (c ∷ []) → OfThese L (run L start es) hs n (SenderGone m) →
          OfThese L (run L start es) gs n (SenderGone m)
      further hs c e (one earlier event later i g) =
          one earlier event (later ++ (c ∷ [])) (e ∙ ap (λ (x : Input). x ++ (c ∷ [])) i ∙ append_assoc earlier (event ∷ later) (c ∷ [])) g

  sent_in : (gs : Input) (a : Answer) → SentIn L (run L start es) gs n a → OfThese L (run L start es) gs n a
  sent_in gs a s = one s.earlier s.event s.later s.among (a_word s.sends)

  asked_in : (gs : Input) (w : ℕ) → AskedIn L (run L start es) gs n w → OfThese L (run L start es) gs n (Result w)
  asked_in gs w s = one s.earlier s.event s.later s.among (⊎_elim at_once by_waking s.how)

  -- what a later thread n is handed comes from an event after that time
  caused_since : (gs : Input) (a : Answer) → Cause L (es ++ gs) n a → OfThese L (run L start es) gs n a
  caused_since gs Nothing c = none
  caused_since gs (FromMessage s w) (a_message o) = sent_in gs _ (owed_since L es gs n dead o)
  caused_since gs (FromNotice s w) (a_notice o) = sent_in gs _ (owed_since L es gs n dead o)
  caused_since gs (SenderGone m) (sender_gone t) = told_since m (es ++ gs) gs refl t
  caused_since gs (Result w) (a_result k) = asked_in gs w (asked_since L es (es ++ gs) gs n w dead refl k)

  -- the first event after that time is not it: n was not there
  not_the_first : Ruled L (run L start es) → (c : List ℕ) (gs : Input) (a : Answer) → OfThese L (run L start es) (c ∷ gs) n a →
      OfThese L (run L start (es ++ (c ∷ []))) gs n a
  unfolding run
  not_the_first R c gs a none = none
  not_the_first R c gs a (one [] event later i g) = absurd (clash (gets_lives (run L start es) R event n g) dead)
  not_the_first R c gs a (one (x ∷ earlier) event later i g) =
      let q : x ≡ c = cc in
      let r : gs ≡ earlier ++ (event ∷ later) = cc in
      one earlier event later r (subst (λ (T : Tables). Gets L (run L T earlier) event n a)
      (ap (λ (y : List ℕ). (step L (run L start es) y).tables) q ∙ sym (run_last L start es c)) g)

-- ---- the laws

-- When a name is given again its earlier thread has ended, at least 253 − (threads − 1) threads of other names have been created since it
-- was given, and whatever the newcomer is handed comes from its own life.
pub newcomer_gets_its_own : (L : Limits) → 1 ≤ L.threads → L.threads < names →
    (es : Input) (event : List ℕ) (n : ℕ) (g : GivenAgain L es event n) → ANewLife L (rest L) es event n g.between
newcomer_gets_its_own L o l es c n g = record { ended_before = dead; rested = enough; own = own }
  where
    R : Ruled L (run L start es)
    R = run_ruled start es l (start_ruled L o)

    dead : live n (run L start es) ≡ false
    dead = ap (λ (x : ℕ). live x (run L start es)) (sym (gives_it L (run L start es) c n g.again).next)
        ∙ name_free L (run L start es) l R.inv.last R.inv.few

    twice : 0 ∷ givings L start (es ++ (c ∷ [])) ≡ g.earlier ++ (n ∷ (g.between ++ (n ∷ [])))
    twice =
        ap (λ (x : List ℕ). 0 ∷ x) (givings_last L start es c ∙ ap (λ (x : List ℕ). givings L start es ++ x) g.again)
        ∙ ap (λ (x : List ℕ). x ++ (n ∷ [])) g.given ∙ append_assoc g.earlier (n ∷ g.between) (n ∷ [])

    enough : rest L ≤ others n g.between
    enough = a_name_rests L o l by_a_start (es ++ (c ∷ [])) n
        (record { earlier = g.earlier; between = g.between; later = []; among = twice })

    own : (fs : Input) (e : List ℕ) → (step L (run L start (es ++ (c ∷ fs))) e).decision.runner ≡ n →
        OfThese L (run L start (es ++ (c ∷ []))) (fs ++ (e ∷ [])) n (step L (run L start (es ++ (c ∷ fs))) e).decision.answer
    own fs e r =
        let a = (step L (run L start (es ++ (c ∷ fs))) e).decision.answer in
        let C = subst (λ (x : ℕ). Cause L ((es ++ (c ∷ fs)) ++ (e ∷ [])) x a) r (whatever_is_handed L o l (es ++ (c ∷ fs)) e) in
        not_the_first L es n dead R c (fs ++ (e ∷ [])) a
        (caused_since L es n dead (c ∷ (fs ++ (e ∷ []))) a (subst (λ (x : Input). Cause L x n a) (append_assoc es (c ∷ fs) (e ∷ [])) C))

-- For small tables: after 234 others at least.
pub newcomer_gets_its_own_after_234 : (es : Input) (event : List ℕ) (n : ℕ) (g : GivenAgain small es event n) →
    ANewLife small 234 es event n g.between
newcomer_gets_its_own_after_234 = newcomer_gets_its_own small (omega arith) (omega arith)
