-- `NamePlaces::of` meets its contract. The loop: the threads from i on have their places.
use Rattle.std.proofs.Common.{ap, ◌∙◌, arith}
use Rattle.laws.specs.Words.{Thread}
use Rattle.memory.specs.Rows.{no_thread}
use Rattle.store.specs.Store.{tables}
use Rattle.indexing.proofs.Indexing.{fill_starts, fill_read, fill_ends}
use Rattle.indexing.proofs.Passing.{threads_whole, read_length}
use Rattle.indexing.proofs.index.NamePlaces.of.Goals as goal

pub loop-i-init : goal.loop-i-init
loop-i-init c = rw c.count-count.ensures (fill_starts _ _ (threads_whole c.args.m.now c.requires))

pub loop-i-preserved : goal.loop-i-preserved
loop-i-preserved c = fill_read _ _ _ _ _ no_thread c.loop-i.invariant c.loop-i-test.true
    (c.from.ensures ∙ c.name.ensures ∙ ap (λ (t : Thread). t.name) c.record.ensures) (omega arith)

pub invariant_of-result : goal.invariant_of-result
unfolding tables
invariant_of-result c = record {
  shaped = c.requires;
  indexed = fill_ends _ _ _ _ c.loop-i.invariant c.loop-i-test.false;
  many = read_length c.args.m.now c.requires _ c.count-count.ensures;
}
