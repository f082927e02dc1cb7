-- `memory::records::messages` meets its contract.
use Rattle.std.proofs.Common.{◌+◌, ◌*◌, ap, ◌∙◌, arith}
use Rattle.words.specs.Saying.{word}
use Rattle.memory.specs.Memory.{rows_of}
use Rattle.memory.specs.Records.{entries, message_first}
use Rattle.memory.proofs.Walks.{rest, messages_walked}
use Rattle.memory.proofs.records.messages.Goals as goal

pub returns : goal.returns
unfolding rows_of
returns c = ap (entries message_first 4 (word c.args.m.now 10)) (rest (176 + word c.args.m.now 0 * 16) c.args.m.now) ∙ messages_walked c.args.m.now (word c.args.m.now 10) (omega arith)
