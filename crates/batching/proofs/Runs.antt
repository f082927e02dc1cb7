-- From the code to the demands, with batches: whatever a start, single steps and batches leave, call after call, the memory stands for
-- the rules' run of the events that were run, and each decision told is that of the rules. So the laws on runs speak of batches too.
use Prim.Native.Nat.{ℕ, ◌≤◌}
use mathlib.Core.Path.{◌≡◌, refl, sym, ap, ap₂, ◌∙◌, subst}
use mathlib.Core.Logic.{◌↔◌}
use mathlib.Core.Bool.{true, false}
use mathlib.Core.List.{List, [], ◌∷◌, ◌++◌}
use native.Mathlib.Omega.{arith}
use lib.ListN.{length, drop}
use Rattle.rules.specs.Lists.{any, all}
use Rattle.rules.specs.Numbers.{small}
use Rattle.rules.specs.Tables.{Tables, start}
use Rattle.rules.specs.Dispatch.{status}
use Rattle.rules.specs.TableRules.{table_rules}
use Rattle.rules.specs.Step.{step}
use Rattle.rules.specs.Runs.{Input, run, decisions}
use Rattle.rules.specs.Batch.{numbers, taken}
use Rattle.laws.specs.Words.{NoRunner, Panicked, Event}
use Rattle.laws.proofs.Steps.{run_append, run_last}
use Rattle.laws.proofs.Kept.{rules_hold_in_runs}
use Rattle.laws.specs.Wait.{became_ready, ticks_accepted, served_by}
use Rattle.laws.proofs.Wait.{ready_thread_waits_at_most_95}
use Rattle.laws.specs.Outside.{from_outside, some_ready, outside}
use Rattle.laws.proofs.Idle.{panicked_exactly}
use Rattle.laws.specs.Handed.{Cause}
use Rattle.laws.proofs.Handed.{whatever_is_handed}
use Rattle.laws.proofs.Batch.{decisions_append}
use Rattle.store.specs.Store.{tables}
use Rattle.lending.specs.Lent.{valid}
use Rattle.batching.specs.Batching.{decided, numbers_after, Served}
use Rattle.batching.specs.Runs.{Series, started, stepped, batched}

-- It stands for the rules' run of those events.
pub stands_for_the_run : {es : Input} {m : List ℕ} → Series es m → (valid m ≡ true) × (tables m ≡ run small start es)
unfolding run
stands_for_the_run (started m s) = (s.valid, s.says)
stands_for_the_run (stepped es m e m' d s a) =
    let i = stands_for_the_run s in
    let j = a.leaves i.0 in
    (j.0, j.1 ∙ (ap (λ (T : Tables). (step small T e).tables) i.1 ∙ sym (run_last small start es e)))
stands_for_the_run (batched es m bytes before m' after n s b) =
    let i = stands_for_the_run s in
    let j = b.leaves i.0 in
    let fs = (taken (length before) bytes).events in
    (j.0, j.1 ∙ (ap (λ (T : Tables). run small T fs) i.1 ∙ sym (run_append small start es fs)))

module _ {es : Input} {m : List ℕ} (s : Series es m) where
  -- Demand 2: the next batch tells the rules' decisions, in order.
  pub told_by_the_rules : {bytes before m' after : List ℕ} {n : ℕ} → Served m bytes before m' after n →
      let ds = decisions small (run small start es) (taken (length before) bytes).events in
      after ≡ numbers ds ++ drop (length (numbers ds)) before
  unfolding decided numbers_after
  told_by_the_rules {bytes} {before} b =
      let i = stands_for_the_run s in
      let fs = (taken (length before) bytes).events in
      rw i.0 at b.numbers ∙ ap (λ (T : Tables). let ds = decisions small T fs in
      numbers ds ++ drop (length (numbers ds)) before) i.1

  -- Whatever it hands over has its cause: the decision of each event of the batch, wherever that stands in it, hands over what the events
  -- up to it have made due.
  pub handed_has_its_cause : (fs gs : Input) (e : List ℕ) →
      let d = (step small (run small start (es ++ fs)) e).decision in
      (decisions small (run small start es) (fs ++ (e ∷ gs))
      ≡ decisions small (run small start es) fs ++ (d ∷ decisions small (run small start ((es ++ fs) ++ (e ∷ []))) gs))
      × Cause small ((es ++ fs) ++ (e ∷ [])) d.runner d.answer
  unfolding decisions
  handed_has_its_cause fs gs e = (
    decisions_append small (run small start es) fs (e ∷ gs)
        ∙ ap₂ (λ (T U : Tables). decisions small (run small start es) fs ++ ((step small T e).decision ∷ decisions small U gs)) here
        (ap (λ (T : Tables). (step small T e).tables) here ∙ sym (run_last small start (es ++ fs) e)),
    whatever_is_handed small (omega arith) (omega arith) (es ++ fs) e,
  )
    where
      here : run small (run small start es) fs ≡ run small start (es ++ fs)
      here = sym (run_append small start es fs)

  -- Demand 3: a thread that an event of the next batch makes ready, wherever that stands in it, has run or ended by the 95th tick
  -- accepted after it: of the ticks behind it in the batch, and of those that come later.
  pub waits_at_most_95 : {bytes before m' after : List ℕ} {k : ℕ} → Served m bytes before m' after k →
      (fs gs : Input) (e : List ℕ) → (taken (length before) bytes).events ≡ fs ++ (e ∷ gs) → (more : Input) (n : ℕ) →
      let T = run small (tables m) fs in
      let U = (step small T e).tables in
      (tables m' ≡ run small U gs)
      × (became_ready small T e n ≡ true → 95 ≤ ticks_accepted small U (gs ++ more) → served_by small 95 n U (gs ++ more) ≡ true)
  waits_at_most_95 {m' = m'} b fs gs e c more n = (
    (b.leaves i.0).1 ∙ (ap (run small (tables m)) c ∙ (run_append small (tables m) fs (e ∷ gs) ∙ behind (run small (tables m) fs))),
    subst Waits (sym here) (ready_thread_waits_at_most_95 (es ++ fs) e (gs ++ more) n),
  )
    where
      i : (valid m ≡ true) × (tables m ≡ run small start es)
      i = stands_for_the_run s

      here : run small (tables m) fs ≡ run small start (es ++ fs)
      here = ap (λ (T : Tables). run small T fs) i.1 ∙ sym (run_append small start es fs)

      behind : (T : Tables) → run small T (e ∷ gs) ≡ run small (step small T e).tables gs
      behind T = unfold run in refl

      Waits : Tables → Type 0
      Waits T = became_ready small T e n ≡ true → 95 ≤ ticks_accepted small (step small T e).tables (gs ++ more)
          → served_by small 95 n (step small T e).tables (gs ++ more) ≡ true

  -- Demand 3: with threads and nobody to run, it is panicked exactly if no series of ticks and interrupts makes any thread ready.
  pub panics_exactly : (tables m).runner ≡ NoRunner → any (λ t. true) (tables m).threads ≡ true →
      (status (tables m) ≡ Panicked) ↔ ((os : List Event) → all from_outside os ≡ true → some_ready (outside (tables m) os) ≡ false)
  panics_exactly r some =
      let i = stands_for_the_run s in
      panicked_exactly small (tables m)
      (subst (λ (T : Tables). table_rules small T ≡ true) (sym i.1) (rules_hold_in_runs small es (omega arith) (omega arith))) r some
