-- `told` meets its contract: the names of the fields so far are marked.
use Rattle.std.proofs.Common.{◌≡◌, sym, ◌∙◌, get_or, arith, rules}
use Rattle.faults.proofs.Naming.{mark_starts, mark_skips, mark_next, mark_ends}
use Rattle.faults.proofs.names.Living.told.Goals as goal

pub loop-f-init : goal.loop-f-init
loop-f-init c = mark_starts c.args.bytes c.into_iter-f-iterator.result (c.into_iter-f-iterator.ensures.into_iter_gives ∙ c.new-f-items.ensures)

pub loop-f-preserved-then-tag-eq-THREAD : goal.loop-f-preserved-then-tag-eq-THREAD
loop-f-preserved-then-tag-eq-THREAD c =
    let name : c.from.result ≡ get_or c.in-Some.f.field.value 0 0 = search rules in
    mark_next _ _ _ _ c.loop-f.invariant _ c.in-Some.ensures.steps (sym c.tag.ensures ∙ c.if-tag-eq-THREAD.true) _ name (omega (arith, c.from.ensures, c.unwrap_or-name.type_inv))

pub loop-f-preserved : goal.loop-f-preserved
loop-f-preserved c =
    mark_skips _ _ _ _ c.loop-f.invariant _ c.in-Some.ensures.steps (λ e. c.if-tag-eq-THREAD.false (c.tag.ensures ∙ e))

pub returns : goal.returns
returns c = mark_ends _ _ _ _ c.loop-f.invariant c.in-None.ensures.steps
