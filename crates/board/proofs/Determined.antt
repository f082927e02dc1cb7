-- Determinacy of the step on lent tables: any two outcomes that its promise allows agree. For start, check, dump, load, pick and sizes
-- the promise is an equality, or that of the function by value (crates/lending/proofs/Determined.antt).
use Prim.Native.Nat.{ℕ}
use mathlib.Core.Path.{◌≡◌, refl, ap, ◌∙◌}
use mathlib.Core.Logic.{◌≢◌}
use mathlib.Core.Bool.{Bool, true, false}
use mathlib.Core.List.{List}
use Rattle.rules.specs.Dump.{dump}
use Rattle.laws.proofs.Determinacy.{determined}
use Rattle.store.specs.Store.{tables}
use Rattle.lending.specs.Lent.{valid}
use Rattle.board.specs.Board.{Steps}
use Rattle.board.specs.declared.Report.{Report}

module _ {before bytes after after' : List ℕ} {r r' : Report} (p : Steps before bytes after r) (q : Steps before bytes after' r') where
  pub report_determined : r ≡ r'
  report_determined = go (valid before) refl
    where
      go : (v : Bool) → valid before ≡ v → r ≡ r'
      go true e = determined (p.decides e) (q.decides e)
      go false e = determined (p.refuses e) (q.refuses e)

  -- They agree in the report; in the tables and their dump, where the lent ones are valid; in every word, where the step is refused.
  pub nucleus_step_determined : (r ≡ r')
      × (valid before ≡ true → (tables after ≡ tables after') × (dump (tables after) ≡ dump (tables after')))
      × (r.refusal ≢ 0 → after ≡ after')
  nucleus_step_determined = (
    report_determined,
    (λ v. let e = determined (p.leaves v).1 (q.leaves v).1 in (e, ap dump e)),
    (λ n. determined (p.keeps n) (q.keeps (λ z. n (ap (λ (d : Report). d.refusal) report_determined ∙ z)))),
  )
