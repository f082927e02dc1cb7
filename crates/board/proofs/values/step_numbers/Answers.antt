-- `values::step_numbers` meets its contract: that of `step_value`, its decision as numbers.
use mathlib.Core.Path.{ap, ◌∙◌}
use Rattle.board.specs.declared.Report.{Report}
use Rattle.board.specs.Board.{report_of}
use Rattle.board.proofs.values.step_numbers.Goals as goal

pub returns : goal.returns
unfolding report_of
returns c =
    let a = c.step_value-s.ensures in
    let e = c.report-given.ensures in
    record {
      decides = λ v. e ∙ ap report_of (a.decides v);
      leaves = a.leaves;
      refuses = λ v. e ∙ ap report_of (a.refuses v);
      keeps = λ n. a.keeps (λ z. n (ap (λ (r : Report). r.refusal) e ∙ z));
    }
