-- `inboxes::notices_right_by_places` meets its contract. The loop: the notices passed are right, and the marks say of whom they were.
use Rattle.std.proofs.Common.{◌≡◌, ◌++◌}
use Rattle.store.specs.Store.{tables}
use Rattle.agreeing.proofs.Noticing.{Noticed}
use Rattle.agreeing.proofs.inboxes.notices_right_by_places.Given as goal

abbrev pub invariant-loop-l : goal.invariant-loop-l
invariant-loop-l l = Noticed (tables l.m) l.seen l.yielded × (l.yielded ++ l.l-iterator ≡ (tables l.m).messages)
