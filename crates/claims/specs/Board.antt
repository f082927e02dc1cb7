-- The calls for C: what follows from their contracts.
use Rattle.std.specs.Prelude.{ℕ, ◌≤◌, List, [], map, ◌∷◌, ◌++◌, ◌≡◌, true, false, ◌≢◌, ◌↔◌, length}
use Rattle.rules.specs.Dump.{dump}
use Rattle.rules.specs.Lists.{any, all}
use Rattle.rules.specs.Numbers.{small}
use Rattle.rules.specs.Runs.{Input, run, lines}
use Rattle.rules.specs.Step.{step}
use Rattle.rules.specs.Tables.{start}
use Rattle.laws.specs.Words.{NoRunner, Event}
use Rattle.laws.specs.Handed.{Cause}
use Rattle.laws.specs.Outside.{from_outside, some_ready, outside}
use Rattle.laws.specs.Wait.{became_ready, served_by}
use Rattle.batching.specs.Runs as batches
use Rattle.board.specs.Board.{report_of, Steps}
use Rattle.board.specs.Gathered as gathered
use Rattle.board.specs.Layout.{sizes_of}
use Rattle.board.specs.Runs.{FromStart, line_of, answer_of, Calls, ticks_told}
use Rattle.board.specs.declared.Report.{Report}
use Rattle.lending.specs.Lent.{valid}
use Rattle.lending.specs.Runs.{Series}
use Rattle.store.specs.Store.{tables}
use Rattle.board.proofs.Runs as board_runs
use Rattle.board.proofs.Gathered as board_gathered
use Rattle.board.proofs.Determined as board_determined
use Rattle.board.proofs.DumpRoom as board_dump_room

module _ {es : Input} {rs : List Report} {m : List ℕ} (f : FromStart es rs m) where
  -- Calls of nucleus_start and nucleus_step, known by what their contracts say alone, are a series of start_in and step_in.
  pub is_a_series : Series es m
  is_a_series = board_runs.is_a_series f

  -- What is lent stands for the rules' run of those events.
  pub stands_for_the_run : (valid m ≡ true) × (tables m ≡ run small start es)
  stands_for_the_run = board_runs.stands_for_the_run f

  -- The reports are the rules' lines of those events.
  pub reports_are_the_lines : map line_of rs ≡ lines small start es
  reports_are_the_lines = board_runs.reports_are_the_lines f

  module _ {e m' : List ℕ} {r : Report} (c : Steps m e m' r) where
    -- The next report is that of the rules' decision.
    pub reported_by_the_rules : r ≡ report_of (step small (run small start es) e).decision
    reported_by_the_rules = board_runs.reported_by_the_rules f c

    -- A call that reports a refusal changes no word, and the run stays where it was.
    pub refused_changes_nothing : r.refusal ≢ 0 → (m' ≡ m) × (run small start (es ++ (e ∷ [])) ≡ run small start es)
    refused_changes_nothing = board_runs.refused_changes_nothing f c

    -- Whatever the next report hands over has its cause in these events.
    pub handed_has_its_cause : Cause small (es ++ (e ∷ [])) r.runner (answer_of r)
    handed_has_its_cause = board_runs.handed_has_its_cause f c

    -- A thread that the next event makes ready has run or ended by the 95th tick that the reports behind it call accepted.
    pub waits_at_most_95 : {after : Input} {qs : List Report} {m'' : List ℕ} → Calls m' after qs m'' → (n : ℕ) →
        became_ready small (tables m) e n ≡ true → 95 ≤ ticks_told after qs → served_by small 95 n (tables m') after ≡ true
    waits_at_most_95 = board_runs.waits_at_most_95 f c

    -- With threads and nobody to run: the report says 3, panicked, exactly if no series of ticks and interrupts makes any thread ready.
    pub panics_exactly : (tables m').runner ≡ NoRunner → any (λ t. true) (tables m').threads ≡ true →
        (r.status ≡ 3) ↔ ((os : List Event) → all from_outside os ≡ true → some_ready (outside (tables m') os) ≡ false)
    panics_exactly = board_runs.panics_exactly f c

-- Calls of nucleus_start, nucleus_step and nucleus_batch in any mix are a series of steps and batches.
pub gathered_is_a_series : {es : Input} {m : List ℕ} → gathered.Calls es m → batches.Series es m
gathered_is_a_series = board_gathered.is_a_series

-- Any two outcomes of `nucleus_step` that its promise allows agree: in the report, in tables and dump, and in every word where it is
-- refused.
pub nucleus_step_determined : {before bytes after after' : List ℕ} {r r' : Report} → Steps before bytes after r →
    Steps before bytes after' r' →
    (r ≡ r')
    × (valid before ≡ true → (tables after ≡ tables after') × (dump (tables after) ≡ dump (tables after')))
    × (r.refusal ≢ 0 → after ≡ after')
nucleus_step_determined = board_determined.nucleus_step_determined

-- The number that `nucleus_sizes` gives for a dump suffices for the dump of any valid tables.
pub dump_has_room : (m : List ℕ) → valid m ≡ true → length (dump (tables m)) ≤ sizes_of.dump
dump_has_room = board_dump_room.dump_has_room
