-- `writing::write_head` meets its contract: the beats stand behind the other bytes.
use Rattle.std.proofs.Common.{refl, ap, ◌∙◌}
use Rattle.rules.specs.Tables.{me}
use Rattle.rules.specs.Codes.{status_code, slice_code}
use Rattle.store.specs.Store.{tables}
use Rattle.buffer.proofs.Putting.{behind, counted, said}
use Rattle.dumping.proofs.Parts.{head_bytes}
use Rattle.dumping.proofs.writing.write_head.Goals as goal

pub returns : goal.returns
returns c =
    said (counted (behind (counted c.put_bytes.ensures 8 refl) c.put_word.ensures) 12 refl)
    (head_bytes
    (tables c.args.m.now)
    (c.from-status.ensures
    ∙ ap status_code
    c.status-s.ensures)
    c.last-last.ensures
    (c.name-runner.ensures
    ∙ ap me c.runner-r.ensures)
    (c.slice-slice.ensures
    ∙ ap slice_code
    c.runner-r.ensures)
    c.since-since.ensures
    c.beats-beats.ensures)
