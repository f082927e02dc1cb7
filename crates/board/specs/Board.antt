-- What an entry for a board promises of the words that stand behind a reference.
use Rattle.std.specs.Prelude.{ℕ, true, false, ◌≡◌, ◌≢◌, List}
use Rattle.rules.specs.Numbers.{small}
use Rattle.rules.specs.Codes.{answer_numbers}
use Rattle.rules.specs.Step.{step}
use Rattle.rules.specs.declared.Decision.{Decision}
use Rattle.store.specs.Store.{tables}
use Rattle.lending.specs.Lent.{valid, no_tables}
use Rattle.board.specs.declared.Report.{Report}

-- "A decision has refusal, status .., runner or 255, and the answer now handed over: kind .., sender and word."
unfoldable pub report_of : Decision → Report
report_of d = let a = answer_numbers d.answer in
    record { refusal = d.refusal; status = d.status; runner = d.runner; kind = a.kind; sender = a.sender; word = a.word }

-- a step on the words that are lent: what stands behind the reference at entry and at exit; refused, every word is as it was
pub record Steps (before bytes after : List ℕ) (r : Report) : Type 0 where
  pub decides : valid before ≡ true → r ≡ report_of (step small (tables before) bytes).decision
  pub leaves : valid before ≡ true → (valid after ≡ true) × (tables after ≡ (step small (tables before) bytes).tables)
  pub refuses : valid before ≡ false → r ≡ report_of no_tables
  pub keeps : r.refusal ≢ 0 → after ≡ before
