-- `memory::records::threads` meets its contract.
use Rattle.std.proofs.Common.{ap, ◌∙◌, arith}
use Rattle.words.specs.Saying.{word}
use Rattle.memory.specs.Memory.{rows_of}
use Rattle.memory.specs.Records.{entries, thread_first}
use Rattle.memory.proofs.Walks.{rest, threads_walked}
use Rattle.memory.proofs.records.threads.Goals as goal

pub returns : goal.returns
unfolding rows_of
returns c = ap (entries thread_first 16 (word c.args.m.now 7)) (rest 176 c.args.m.now) ∙ threads_walked c.args.m.now (word c.args.m.now 7) (omega arith)
