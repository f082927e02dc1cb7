-- `write_thread` writes eleven words that say the thread.
use Rattle.std.proofs.Common.{◌∙◌, rules}
use Rattle.words.proofs.Said.{byte_same}
use Rattle.words.specs.Saying.{thread_in}
use Rattle.words.proofs.saying.write_thread.Goals as goal

pub returns : goal.returns
unfolding thread_in
returns c = rw c.copy_from_slice.ensures.after (λ i. record {
  name = (byte_same _ (search rules) ∙ c.from.ensures) i;
  parent = c.parent_word.ensures i;
  state = c.state_words-state.ensures i;
  managers = record { program = c.manager_word.ensures i; tlb = c.manager_word-2.ensures i; sysbp = c.manager_word-3.ensures i };
  ticks = c.args.t.ticks;
  answer = c.answer_words-kind.ensures i;
})
