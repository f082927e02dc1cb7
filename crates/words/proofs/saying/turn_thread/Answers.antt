-- `turn_thread` leaves words that say the thread in its new state, with its new answer.
use Rattle.words.proofs.Said.{turned_said}
use Rattle.words.proofs.saying.turn_thread.Goals as goal

pub returns : goal.returns
returns c = turned_said c.args.w.now c.args.s c.args.a _ _ _ _ _ c.requires c.state_words-state.ensures c.answer_words-kind.ensures
