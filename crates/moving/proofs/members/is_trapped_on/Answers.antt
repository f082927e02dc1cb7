-- `moving::members::is_trapped_on` meets its contract. It asks of the one manager that the thread waits for, not of each member.
use Rattle.std.proofs.Common.{◌≡◌, get_or, take, sym, ap, ◌∙◌}
use Rattle.rules.specs.States.{trapped_on}
use Rattle.laws.specs.Words.{Thread, Trapped}
use Rattle.memory.specs.Memory.{rows_of}
use Rattle.memory.specs.Rows.{members, no_thread}
use Rattle.moving.proofs.Sets.{not_trapped, managed}
use Rattle.moving.proofs.members.is_trapped_on.Goals as goal

pub returns-in-Trapped : goal.returns-in-Trapped
unfolding trapped_on
returns-in-Trapped c =
    let l = take c.args.n (members (rows_of c.args.m.now)) in
    let s : c.record-t.result.state ≡ Trapped c.in-Trapped.k = sym c.state.ensures ∙ c.in-Trapped.is in
    rw (← c.record-t.ensures, s, ← c.manager.ensures)
    (c.is_managed.ensures (members (rows_of c.args.m.now)) c.requires.3 ∙ sym (managed l c.manager.result))

pub returns-in_default : goal.returns-in_default
returns-in_default c =
    let t = get_or (rows_of c.args.m.now).threads c.args.i no_thread in
    not_trapped (take c.args.n (members (rows_of c.args.m.now))) t
    (λ k e. c.in_default.not-Trapped k (c.state.ensures ∙ ap (λ (x : Thread). x.state) c.record-t.ensures ∙ e))
