-- `tables::put_word` meets its contract: one line, or none where no word is held.
use Rattle.dumping.proofs.Puttings.{no_word, one_word, word_room}
use Rattle.lines.proofs.tables.put_word.Goals as goal

pub returns-in_default : goal.returns-in_default
returns-in_default c = no_word _ _ _ c.word_held.ensures c.in_default.is _

pub put_numbers-requires : goal.put_numbers-requires
put_numbers-requires c = word_room _ _ c.word_held.ensures c.in-Some.is c.requires.2

pub returns : goal.returns
returns c = one_word _ _ _ c.word_held.ensures c.in-Some.is c.put_numbers.ensures
