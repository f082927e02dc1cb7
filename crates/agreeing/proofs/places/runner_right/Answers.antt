-- `places::runner_right` meets its contract: by whether anybody runs.
use Rattle.std.proofs.Common.{◌==◌, ℕ, sym, ap, ◌∙◌}
use Rattle.memory.proofs.Sizes.{ready_count}
use Rattle.store.specs.Store.{Shaped, tables}
use Rattle.agreeing.proofs.places.runner_right.Goals as goal

pub returns-in-NoRunner : goal.returns-in-NoRunner
unfolding tables Shaped
returns-in-NoRunner c = rw (← c.runner.ensures, c.in-NoRunner.is)
    (ap (λ (n : ℕ). n == 0) (c.readies.ensures ∙ sym (ready_count c.args.m.now _ c.requires)))
