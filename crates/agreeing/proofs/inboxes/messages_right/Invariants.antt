-- `inboxes::messages_right` meets its contract. The loop: both ends of the messages passed live, and so many of them were ordinary.
use Rattle.std.proofs.Common.{◌≡◌, ◌++◌}
use Rattle.store.specs.Store.{tables}
use Rattle.agreeing.proofs.Lettering.{Lettered}
use Rattle.agreeing.proofs.inboxes.messages_right.Given as goal

abbrev pub invariant-loop-l : goal.invariant-loop-l
invariant-loop-l l = Lettered (tables l.m) l.used l.yielded × (l.yielded ++ l.l-iterator ≡ (tables l.m).messages)
