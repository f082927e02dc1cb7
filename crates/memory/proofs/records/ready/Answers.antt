-- `memory::records::ready` meets its contract.
use Rattle.std.proofs.Common.{ap, ◌∙◌, arith}
use Rattle.words.specs.Saying.{word}
use Rattle.memory.specs.Memory.{rows_of}
use Rattle.memory.specs.Records.{entries, name_first}
use Rattle.memory.proofs.Walks.{rest, ready_walked}
use Rattle.memory.proofs.records.ready.Goals as goal

pub returns : goal.returns
unfolding rows_of
returns c = ap (entries (name_first 12) 16 (word c.args.m.now 8)) (rest 176 c.args.m.now) ∙ ready_walked c.args.m.now (word c.args.m.now 8) (omega arith)
