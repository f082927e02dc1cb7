-- `moving::members::joins` meets its contract.
use Rattle.std.proofs.Common.{get_or, take, sym, ◌∙◌}
use Rattle.memory.specs.Memory.{rows_of}
use Rattle.memory.specs.Rows.{no_thread, members}
use Rattle.moving.proofs.Sets.{joins_child, joins_trapped}
use Rattle.moving.proofs.members.joins.Goals as goal

pub returns-then-is_child : goal.returns-then-is_child
returns-then-is_child c =
    let l = members (rows_of c.args.m.now) in
    let t = get_or (rows_of c.args.m.now).threads c.args.i no_thread in
    let n = sym (rw (c.name.ensures, c.record-t.ensures) at (c.has.ensures l c.requires.3)) ∙ c.if-not-has.true in
    let p = sym (rw (c.parent.ensures, c.record-t.ensures) at (c.is_child.ensures l c.requires.3)) ∙ c.if-is_child.true in
    c.if-is_child.true ∙ joins_child (take c.args.n l) t n p

pub returns-else-is_child : goal.returns-else-is_child
returns-else-is_child c =
    let l = members (rows_of c.args.m.now) in
    let t = get_or (rows_of c.args.m.now).threads c.args.i no_thread in
    let n = sym (rw (c.name.ensures, c.record-t.ensures) at (c.has.ensures l c.requires.3)) ∙ c.if-not-has.true in
    let p = sym (rw (c.parent.ensures, c.record-t.ensures) at (c.is_child.ensures l c.requires.3)) ∙ c.if-is_child.false in
    joins_trapped (take c.args.n l) t _ n p c.is_trapped_on.ensures
