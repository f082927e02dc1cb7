-- `memory::records::clock` meets its contract.
use Rattle.std.proofs.Common.{ap, ◌∙◌, arith}
use Rattle.words.specs.Saying.{word}
use Rattle.memory.specs.Memory.{rows_of}
use Rattle.memory.specs.Records.{entries, name_first}
use Rattle.memory.proofs.Walks.{rest, clock_walked}
use Rattle.memory.proofs.records.clock.Goals as goal

pub returns : goal.returns
unfolding rows_of
returns c = ap (entries (name_first 13) 16 (word c.args.m.now 9)) (rest 176 c.args.m.now) ∙ clock_walked c.args.m.now (word c.args.m.now 9) (omega arith)
