-- `values::report` meets its contract: number by number.
use Rattle.board.specs.Board.{report_of}
use Rattle.board.proofs.values.report.Goals as goal

pub returns : goal.returns
unfolding report_of
returns c =
    let d = c.args.d in
    λ i. record {
      refusal = d.refusal;
      status = d.status;
      runner = d.runner;
      kind = c.kind.ensures i;
      sender = c.sender.ensures i;
      word = c.word.ensures i;
    }
