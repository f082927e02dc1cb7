-- `parents::upward` meets its contract. The loop: there is an entry for each thread passed.
use Rattle.std.proofs.Common.{◌≡◌, ℕ, List, get_or, sym, ap, ap₂, ◌∙◌, arith}
use Rattle.std.proofs.Math.ListN.{length-replicate}
use Rattle.laws.specs.Words.{Thread, Parent}
use Rattle.memory.specs.Rows.{view, no_thread}
use Rattle.memory.specs.Memory.{rows_of}
use Rattle.store.specs.Store.{tables}
use Rattle.ranging.specs.Upward.{above}
use Rattle.indexing.proofs.Passing.{few, counted, threads_whole}
use Rattle.ranging.proofs.Raising.{raise_starts, raise_next, raise_low, raise_ends}
use Rattle.ranging.proofs.parents.upward.Goals as goal

pub loop-i-init : goal.loop-i-init
loop-i-init c = let m = c.words-m.result.now in
    raise_starts _ _ _ (threads_whole m c.words-m.ensures.shaped)
    (omega (arith, length-replicate {A = ℕ} 256 0, counted m c.words-m.ensures.shaped, few m c.words-m.ensures.shaped))

-- what stands above the thread that was read
above_read : (c : goal.After-above) → c.above.result ≡ above (view (rows_of c.words-m.result.now)).threads c.loop-i.i
    (get_or (rows_of c.words-m.result.now).threads c.loop-i.i no_thread).name
    (get_or (rows_of c.words-m.result.now).threads c.loop-i.i no_thread).parent
unfolding tables
above_read c =
    let m = c.words-m.result.now in
    c.above.ensures
    ∙ ap (λ (v : List ℕ). above (view (rows_of v)).threads c.loop-i.i c.name.result c.parent.result) (sym c.words-m.ensures.same)
    ∙ ap₂ (λ (k : ℕ) (p : Parent). above (view (rows_of m)).threads c.loop-i.i k p)
    (c.name.ensures ∙ ap (λ (t : Thread). t.name) c.record-t.ensures)
    (c.parent.ensures ∙ ap (λ (t : Thread). t.parent) c.record-t.ensures)

pub overflow_cast-up : goal.overflow_cast-up
overflow_cast-up c = omega (
  arith,
  raise_low _ _ _ c.loop-i.i _ no_thread c.loop-i.invariant (omega (arith, c.loop-i-test.true, c.count-i-end.ensures)) (above_read c),
  counted c.words-m.result.now c.words-m.ensures.shaped,
  few c.words-m.result.now c.words-m.ensures.shaped,
)

pub loop-i-preserved : goal.loop-i-preserved
loop-i-preserved c =
    raise_next _ _ _ c.loop-i.i _ no_thread c.loop-i.invariant (omega (arith, c.loop-i-test.true, c.count-i-end.ensures)) (above_read c)

pub returns : goal.returns
unfolding tables
returns c = rw (← c.words-m.ensures.same) (raise_ends _ _ _ _ c.loop-i.invariant (omega (arith, c.loop-i-test.false, c.count-i-end.ensures)))
