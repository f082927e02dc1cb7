-- `threads::add_tick` meets its contract.
use Rattle.std.proofs.Common.{ℕ, get_or, set, refl, ap, ◌∙◌}
use Rattle.rules.specs.Tables.{with_ticks}
use Rattle.rules.specs.Tick.{one_more}
use Rattle.laws.specs.Words.{Thread}
use Rattle.memory.specs.Rows.{no_thread, put_threads}
use Rattle.memory.specs.Memory.{rows_of}
use Rattle.store.proofs.Searched.{changed, unchanged}
use Rattle.store.proofs.threads.add_tick.Goals as goal

pub returns-in-Some : goal.returns-in-Some
returns-in-Some c =
    let r = rows_of c.args.m.now in
    changed c.args.m.now c.requires _ c.find.ensures (λ t. with_ticks (one_more t.ticks) t) (λ t. refl) c.in-Some.is
    (c.set_ticks.ensures
    ∙ ap (λ (n : ℕ). put_threads (set r.threads c.in-Some.i (with_ticks (one_more n) (get_or r.threads c.in-Some.i no_thread))) r)
    (c.ticks-n.ensures ∙ ap (λ (t : Thread). t.ticks) c.record.ensures))

pub returns-in_default : goal.returns-in_default
returns-in_default c =
    unchanged c.args.m.now c.requires _ c.find.ensures (λ t. with_ticks (one_more t.ticks) t) (λ t. refl) c.in_default.not-Some
