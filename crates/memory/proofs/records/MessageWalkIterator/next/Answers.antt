-- `memory::records::MessageWalkIterator::next` meets its contract.
use Rattle.std.proofs.Common.{rules}
use Rattle.memory.specs.Records.{message_first}
use Rattle.memory.proofs.Walks.{entries_split}
use Rattle.memory.proofs.records.MessageWalkIterator.next.Goals as goal

pub returns-clause-steps : goal.returns-clause-steps
returns-clause-steps c = entries_split message_first 4 c.self.inside.left c.self.inside.words.now c.self.view_is c.if-self-eq0.false

pub returns-clause-goes : goal.returns-clause-goes
returns-clause-goes c =
    let e = entries_split message_first 4 c.self.inside.left c.self.inside.words.now c.self.view_is c.if-self-eq0.false in rw e (search rules)
