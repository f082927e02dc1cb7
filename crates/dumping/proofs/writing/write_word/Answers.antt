-- `writing::write_word` meets its contract: nothing, or the word behind tag, length and device.
use Rattle.std.proofs.Common.{refl, arith}
use Rattle.rules.specs.Dump.{held_value}
use Rattle.store.specs.Store.{tables}
use Rattle.buffer.proofs.Putting.{behind, counted, room}
use Rattle.dumping.proofs.Puttings.{no_word, one_word, word_room}
use Rattle.dumping.proofs.writing.write_word.Goals as goal

pub returns-in_default : goal.returns-in_default
unfolding tables
returns-in_default c = no_word _ _ _ c.held.ensures c.in_default.is _

pub put_bytes-requires : goal.put_bytes-requires
unfolding tables
put_bytes-requires c = omega (arith, word_room _ _ c.held.ensures c.in-Some.is c.requires.2)

pub put_word-requires : goal.put_word-requires
unfolding tables
put_word-requires c = omega (arith, word_room _ _ c.held.ensures c.in-Some.is c.requires.2, room (counted c.put_bytes.ensures 4 refl))

pub returns : goal.returns
unfolding tables held_value
returns c =
    one_word _ _ _ c.held.ensures c.in-Some.is
    (counted (behind (counted c.put_bytes.ensures 4 refl) c.put_word.ensures) 8 refl)
