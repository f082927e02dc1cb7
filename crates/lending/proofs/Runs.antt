-- From the code to the demands. Whatever the public start and step leave, call after call, the memory stands for the rules' run of those
-- events, and each decision is that of the rules. So the laws on runs speak of the code.
use Prim.Native.Nat.{ℕ, ◌≤◌}
use mathlib.Core.Path.{◌≡◌, sym, ap, ◌∙◌, subst}
use mathlib.Core.Logic.{◌↔◌}
use mathlib.Core.Bool.{true, false}
use mathlib.Core.List.{List, [], ◌∷◌, ◌++◌}
use native.Mathlib.Omega.{arith}
use Rattle.rules.specs.Lists.{any, all}
use Rattle.rules.specs.Numbers.{small}
use Rattle.rules.specs.Tables.{Tables, start}
use Rattle.rules.specs.Dispatch.{status}
use Rattle.rules.specs.TableRules.{table_rules}
use Rattle.rules.specs.Step.{step}
use Rattle.rules.specs.Runs.{Input, run}
use Rattle.rules.specs.declared.Decision.{Decision}
use Rattle.laws.specs.Words.{NoRunner, Panicked, Event}
use Rattle.laws.proofs.Steps.{run_last}
use Rattle.laws.proofs.Kept.{rules_hold_in_runs}
use Rattle.laws.specs.Wait.{became_ready, ticks_accepted, served_by}
use Rattle.laws.proofs.Wait.{ready_thread_waits_at_most_95}
use Rattle.laws.specs.Outside.{from_outside, some_ready, outside}
use Rattle.laws.proofs.Idle.{panicked_exactly}
use Rattle.laws.specs.Handed.{Cause}
use Rattle.laws.proofs.Handed.{whatever_is_handed}
use Rattle.store.specs.Store.{tables}
use Rattle.lending.specs.Lent.{valid, Answered}
use Rattle.lending.specs.Runs.{Series, started, stepped}

-- It stands for the rules' run of those events.
pub stands_for_the_run : {es : Input} {m : List ℕ} → Series es m → (valid m ≡ true) × (tables m ≡ run small start es)
unfolding run
stands_for_the_run (started m s) = (s.valid, s.says)
stands_for_the_run (stepped es m e m' d s a) =
    let i = stands_for_the_run s in
    let j = a.leaves i.0 in
    (j.0, j.1 ∙ ap (λ (T : Tables). (step small T e).tables) i.1 ∙ sym (run_last small start es e))

module _ {es : Input} {m : List ℕ} (s : Series es m) where
  -- Demand 2: the next decision is that of the rules.
  pub decided_by_the_rules : (e m' : List ℕ) (d : Decision) → Answered m e m' d → d ≡ (step small (run small start es) e).decision
  decided_by_the_rules e m' d a =
      let i = stands_for_the_run s in
      a.decides i.0 ∙ ap (λ (T : Tables). (step small T e).decision) i.1

  -- Whatever it hands over has its cause in these events.
  pub handed_has_its_cause : (e m' : List ℕ) (d : Decision) → Answered m e m' d → Cause small (es ++ (e ∷ [])) d.runner d.answer
  handed_has_its_cause e m' d a =
      subst (λ (x : Decision). Cause small (es ++ (e ∷ [])) x.runner x.answer) (sym (decided_by_the_rules e m' d a))
      (whatever_is_handed small (omega arith) (omega arith) es e)

  -- Demand 3: a thread that the next event makes ready has run or ended by the 95th tick accepted after it.
  pub waits_at_most_95 : (e m' : List ℕ) (d : Decision) → Answered m e m' d → (after : Input) (n : ℕ) →
      became_ready small (tables m) e n ≡ true → 95 ≤ ticks_accepted small (tables m') after → served_by small 95 n (tables m') after ≡ true
  waits_at_most_95 e m' d a after n b t =
      let i = stands_for_the_run s in
      let now : tables m' ≡ (step small (run small start es) e).tables =
      (a.leaves i.0).1 ∙ ap (λ (T : Tables). (step small T e).tables) i.1 in
      subst (λ (T : Tables). served_by small 95 n T after ≡ true) (sym now)
      (ready_thread_waits_at_most_95 es e after n
      (subst (λ (T : Tables). became_ready small T e n ≡ true) i.1 b)
      (subst (λ (T : Tables). 95 ≤ ticks_accepted small T after) now t))

  -- Demand 3: with threads and nobody to run, it is panicked exactly if no series of ticks and interrupts makes any thread ready.
  pub panics_exactly : (tables m).runner ≡ NoRunner → any (λ t. true) (tables m).threads ≡ true →
      (status (tables m) ≡ Panicked) ↔ ((os : List Event) → all from_outside os ≡ true → some_ready (outside (tables m) os) ≡ false)
  panics_exactly r some =
      let i = stands_for_the_run s in
      panicked_exactly small (tables m)
      (subst (λ (T : Tables). table_rules small T ≡ true) (sym i.1) (rules_hold_in_runs small es (omega arith) (omega arith))) r some
