-- `writing::write_message` meets its contract: the word stands behind the other bytes.
use Rattle.std.proofs.Common.{refl}
use Rattle.rules.specs.Dump.{message_value}
use Rattle.buffer.proofs.Putting.{behind, counted}
use Rattle.dumping.proofs.writing.write_message.Goals as goal

pub returns : goal.returns
unfolding message_value
returns c = rw (← c.from-kind.ensures) (counted (behind (counted c.put_bytes.ensures 6 refl) c.put_word.ensures) 10 refl)
