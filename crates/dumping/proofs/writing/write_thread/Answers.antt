-- `writing::write_thread` meets its contract: each put stands behind the one before.
use Rattle.std.proofs.Common.{refl, ap, ◌∙◌}
use Rattle.rules.specs.Dump.{field, thread_value}
use Rattle.laws.specs.Words.{Thread}
use Rattle.buffer.proofs.Putting.{behind, counted, said}
use Rattle.dumping.proofs.Showing.{thread_bytes}
use Rattle.dumping.proofs.writing.write_thread.Goals as goal

pub returns : goal.returns
returns c =
    let front = counted (behind (counted c.put_bytes.ensures 10 refl) c.put_word.ensures) 14 refl in
    said (counted (behind front c.write_answer.ensures) 20 refl)
    (thread_bytes
    c.words-w.result.now
    c.byte-name.ensures
    c.byte-parent.ensures
    c.state_bytes.ensures
    c.manager_number-program.ensures
    c.manager_number-tlb.ensures
    c.manager_number-sysbp.ensures
    ∙ ap (λ (t : Thread). field 2 (thread_value t)) c.words-w.ensures.1)
