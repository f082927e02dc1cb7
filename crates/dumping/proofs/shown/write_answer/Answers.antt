-- `shown::write_answer` meets its contract: the words as they stand, or as the answer that they say.
use Rattle.std.proofs.Common.{refl, sym, ◌∙◌, ◌∷◌}
use Rattle.rules.specs.Lists.{four_bytes}
use Rattle.buffer.proofs.Putting.{behind, counted, said}
use Rattle.dumping.proofs.Showing.{answer_shown, answer_else}
use Rattle.dumping.proofs.shown.write_answer.Goals as goal

pub returns-then-answer_right : goal.returns-then-answer_right
returns-then-answer_right c =
    said (counted (behind (counted c.put_bytes.ensures 2 refl) c.put_word.ensures) 6 refl)
    ((λ i. c.byte.ensures i ∷ c.sender_number.ensures i ∷ four_bytes c.args.w)
    ∙ answer_shown _ _ _ (sym c.answer_right.ensures ∙ c.if-answer_right.true))

pub returns-else-answer_right : goal.returns-else-answer_right
returns-else-answer_right c =
    said (counted c.put_bytes-else-answer_right.ensures 6 refl) (answer_else _ _ _ (sym c.answer_right.ensures ∙ c.if-answer_right.false))
