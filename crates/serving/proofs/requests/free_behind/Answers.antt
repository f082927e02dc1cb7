-- `requests::free_behind` meets its contract. The loop: with the name that the walk has come to, the threads that are left give what all
-- of them give, and have no lower name.
use Rattle.serving.proofs.Naming.{sets_out, moves_on, is_free, is_last}
use Rattle.serving.proofs.requests.free_behind.Goals as goal

pub loop-i-init : goal.loop-i-init
loop-i-init c = sets_out c.args.m.now _ _ _ c.successor-name.ensures c.place_of-first.ensures

pub returns-then-name_at-name : goal.returns-then-name_at-name
returns-then-name_at-name c =
    is_free c.args.m.now c.requires _ _ _ _ c.thread_count-i-end.ensures
    c.loop-i.invariant c.loop-i-test.true _ _ c.name_at.ensures c.if-name_at-name.true

pub loop-i-preserved : goal.loop-i-preserved
loop-i-preserved c =
    moves_on c.args.m.now c.requires _ _ _ _ c.thread_count-i-end.ensures
    c.loop-i.invariant c.loop-i-test.true _ _ c.name_at.ensures
    c.if-name_at-name.false _ c.successor-name-in-loop-i.ensures

pub returns : goal.returns
returns c =
    is_last c.args.m.now c.requires _ _ _ _ c.thread_count-i-end.ensures c.loop-i.invariant
    c.loop-i-test.false
