-- `ranges::ranges` meets its contract: words are in their range by their type, and the rest is tested.
use Rattle.std.proofs.Common.{◌≡◌, ◌∙◌, ◌&&◌, ltb, arith}
use Rattle.std.proofs.lemmas.Grind.{common_steps}
use Rattle.rules.specs.Lists.{all}
use Rattle.rules.specs.Numbers.{names, beat_ticks, devices}
use Rattle.rules.specs.TableRules.{state_in_range}
use Rattle.memory.specs.Memory.{rows_of}
use Rattle.memory.specs.Rows.{view}
use Rattle.store.specs.Store.{tables}
use Rattle.indexing.proofs.Wraps.{ranges_told}
use Rattle.ranging.proofs.ranges.ranges.Goals as goal

pub returns-then-threads_in_range : goal.returns-then-threads_in_range
unfolding tables
returns-then-threads_in_range c = let r = rows_of c.args.m.now in
    let e : c.held_told.result ≡ (ltb r.last names && ltb r.since beat_ticks && all (λ t. state_in_range t.state) (view r).threads
    && all (λ h. ltb h.device devices) r.held) = grind (arith, common_steps) in
    e ∙ ranges_told c.args.m.now (λ k. omega (arith, c.type_inv.m k))

pub returns-else-threads_in_range : goal.returns-else-threads_in_range
unfolding tables
returns-else-threads_in_range c = let r = rows_of c.args.m.now in
    let e : c.if-since-lt-BEAT.value ≡ (ltb r.last names && ltb r.since beat_ticks && all (λ t. state_in_range t.state) (view r).threads
    && all (λ h. ltb h.device devices) r.held) = grind (arith, common_steps) in
    e ∙ ranges_told c.args.m.now (λ k. omega (arith, c.type_inv.m k))
