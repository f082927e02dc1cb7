-- `parents::parents_right_by_places` meets its contract: every place leads above all exactly if the rule holds.
use Rattle.std.proofs.Common.{◌≡◌, ℕ, List, length, sym, ap, ◌∙◌, arith}
use Rattle.std.proofs.Math.Seq.{length-take-le}
use Rattle.store.specs.Store.{tables}
use Rattle.ranging.proofs.Climbing.{decided}
use Rattle.ranging.proofs.Raising.{upward_cut}
use Rattle.indexing.proofs.Passing.{few, counted, read_length}
use Rattle.ranging.proofs.parents.parents_right_by_places.Goals as goal

pub returns : goal.returns
unfolding tables
returns c =
    let T = tables c.args.x.now in
    let n : length T.threads ≡ c.count-n.result = ap (λ (v : List ℕ). length (tables v).threads) (sym c.words.ensures.same)
    ∙ read_length c.words.result.now c.words.ensures.shaped _ c.count-n.ensures in
    decided T c.requires _ (upward_cut _ _ _ n c.upward.ensures) _ (n ∙ sym (length-take-le _ c.upward.result (omega (
      arith,
      c.count-n.ensures,
      counted c.words.result.now c.words.ensures.shaped,
      few c.words.result.now c.words.ensures.shaped,
    )))) _ c.all_lead.ensures
