-- From the C entries to the demands. Calls of nucleus_start and nucleus_step, known by what their contracts say alone, are a series in
-- the sense of crates/lending/proofs/Runs.antt: each contract of a step has a decision that the report tells. So what is lent stands for
-- the rules' run of those events, the reports are the lines of that run, and the laws there speak of what the entries report.
use Prim.Native.Nat.{ℕ, ◌≤◌}
use mathlib.Core.Path.{◌≡◌, refl, sym, ap, ◌∙◌, subst}
use mathlib.Core.Logic.{◌≢◌, ◌↔◌}
use mathlib.Core.Bool.{Bool, true, false}
use mathlib.Core.List.{List, [], ◌∷◌, ◌++◌, map, append-nil, append_assoc}
use native.Mathlib.Omega.{arith}
use Rattle.rules.specs.Lists.{any, all}
use Rattle.rules.specs.Numbers.{small}
use Rattle.rules.specs.Tables.{Tables, start}
use Rattle.rules.specs.Codes.{status_code, answer_numbers}
use Rattle.rules.specs.Load.{answer_from}
use Rattle.rules.specs.Dispatch.{status}
use Rattle.rules.specs.Step.{step}
use Rattle.rules.specs.Runs.{Input, run, line, decisions, lines}
use Rattle.rules.specs.declared.Decision.{Decision}
use Rattle.laws.specs.Words.{Status, Working, Idle, Halted, Panicked, Answer, Nothing, FromMessage, FromNotice, SenderGone, Result}
use Rattle.laws.specs.Words.{NoRunner, Event}
use Rattle.laws.proofs.Tests.{clash}
use Rattle.laws.specs.Wait.{tick_accepted, became_ready, ticks_accepted, served_by}
use Rattle.laws.specs.Outside.{from_outside, some_ready, outside}
use Rattle.laws.proofs.Idle.{reported}
use Rattle.laws.specs.Handed.{Cause}
use Rattle.store.specs.Store.{tables}
use Rattle.lending.specs.Lent.{valid, no_tables, Answered}
use Rattle.lending.proofs.Runs as lent
use Rattle.lending.specs.Runs as series
use Rattle.lending.specs.Runs.{Series}
use Rattle.board.specs.Board.{report_of, Steps}
use Rattle.board.specs.Runs.{line_of, answer_of, Calls, none, then, FromStart, ticks_told}
use Rattle.board.specs.declared.Report.{Report}

-- ---- what a report tells

told_answer : (a : Answer) → answer_from (answer_numbers a).kind (answer_numbers a).sender (answer_numbers a).word ≡ a
unfolding answer_numbers
told_answer Nothing = refl
told_answer (FromMessage n w) = refl
told_answer (FromNotice n w) = refl
told_answer (SenderGone n) = refl
told_answer (Result w) = refl

told_panic : (s : Status) → status_code s ≡ 3 → s ≡ Panicked
unfolding status_code
told_panic Working e = absurd (omega (arith, e))
told_panic Idle e = absurd (omega (arith, e))
told_panic Halted e = absurd (omega (arith, e))
told_panic Panicked e = refl

-- The contract of a step on lent words has a decision, which the report tells.
pub record Told (m e m' : List ℕ) (r : Report) : Type 0 where
  pub decision : Decision
  pub answered : Answered m e m' decision
  pub reports : r ≡ report_of decision

pub tells : {m e m' : List ℕ} {r : Report} → Steps m e m' r → Told m e m' r
unfolding report_of
tells {m} {e} {m'} {r} s = go (valid m) refl
  where
    -- it is refused exactly if the report says so
    kept : (d : Decision) → r ≡ report_of d → d.refusal ≢ 0 → m' ≡ m
    kept d k n = s.keeps (λ z. n (sym (ap (λ (x : Report). x.refusal) k) ∙ z))

    go : (v : Bool) → valid m ≡ v → Told m e m' r
    go true h =
        let d = (step small (tables m) e).decision in
        record {
          decision = d;
          answered = record { decides = λ _. refl; leaves = s.leaves; refuses = λ f. absurd (clash h f); keeps = kept d (s.decides h) };
          reports = s.decides h;
        }
    go false h = record {
      decision = no_tables;
      answered =
          record { decides = λ v. absurd (clash v h); leaves = s.leaves; refuses = λ _. refl; keeps = kept no_tables (s.refuses h) };
      reports = s.refuses h;
    }

-- ---- calls, by any results that the contracts allow

-- A series goes on through calls.
goes_on : {es : Input} {m : List ℕ} → Series es m → {fs : Input} {rs : List Report} {m' : List ℕ} → Calls m fs rs m' → Series (es ++ fs) m'
goes_on {es} s (none m) = subst (λ (xs : Input). Series xs m) (sym (append-nil es)) s
goes_on {es} s (then m e m₁ r fs rs m' c cs) =
    subst (λ (xs : Input). Series xs m') (append_assoc es (e ∷ []) fs)
    (goes_on (series.stepped es m e m₁ (tells c).decision s (tells c).answered) cs)

-- Calls from a start are a series.
pub is_a_series : {es : Input} {rs : List Report} {m : List ℕ} → FromStart es rs m → Series es m
is_a_series f = goes_on (series.started f.first f.started) f.calls

-- On valid words the reports of calls are the lines of the rules' run, and tell its accepted ticks.
lines_told : {m : List ℕ} → valid m ≡ true → {es : Input} {rs : List Report} {m' : List ℕ} → Calls m es rs m' →
    (map line_of rs ≡ lines small (tables m) es) × (ticks_told es rs ≡ ticks_accepted small (tables m) es)
unfolding decisions line report_of ticks_told ticks_accepted tick_accepted
lines_told v (none m) = (refl, refl)
lines_told v (then m e m₁ r es rs m' c cs) =
    let k = c.leaves v in
    let i = lines_told k.0 cs in
    (rw (c.decides v, i.0, k.1), rw (c.decides v, i.1, k.1))

-- ---- the laws, from a start

module _ {es : Input} {rs : List Report} {m : List ℕ} (f : FromStart es rs m) where
  -- What is lent stands for the rules' run of those events.
  pub stands_for_the_run : (valid m ≡ true) × (tables m ≡ run small start es)
  stands_for_the_run = lent.stands_for_the_run (is_a_series f)

  -- The reports are the lines of that run.
  pub reports_are_the_lines : map line_of rs ≡ lines small start es
  reports_are_the_lines = (lines_told f.started.valid f.calls).0 ∙ ap (λ (T : Tables). lines small T es) f.started.says

  module _ {e m' : List ℕ} {r : Report} (c : Steps m e m' r) where
    -- Demand 2: the next report is that of the rules' decision.
    pub reported_by_the_rules : r ≡ report_of (step small (run small start es) e).decision
    reported_by_the_rules = (tells c).reports ∙ ap report_of (lent.decided_by_the_rules (is_a_series f) e m' _ (tells c).answered)

    next : Series (es ++ (e ∷ [])) m'
    next = series.stepped es m e m' (tells c).decision (is_a_series f) (tells c).answered

    -- A call that reports a refusal changes no word, and the run stays where it was.
    pub refused_changes_nothing : r.refusal ≢ 0 → (m' ≡ m) × (run small start (es ++ (e ∷ [])) ≡ run small start es)
    refused_changes_nothing n =
        let k = c.keeps n in
        (k, sym (lent.stands_for_the_run next).1 ∙ ap tables k ∙ stands_for_the_run.1)

    -- Whatever it hands over has its cause in these events.
    pub handed_has_its_cause : Cause small (es ++ (e ∷ [])) r.runner (answer_of r)
    unfolding report_of
    handed_has_its_cause =
        let t = tells c in
        let d = t.decision in
        subst (λ (x : Report). Cause small (es ++ (e ∷ [])) x.runner (answer_of x)) (sym t.reports)
        (subst (λ (a : Answer). Cause small (es ++ (e ∷ [])) d.runner a) (sym (told_answer d.answer))
        (lent.handed_has_its_cause (is_a_series f) e m' d t.answered))

    -- Demand 3: a thread that the next event makes ready has run or ended by the 95th tick that the reports behind it call accepted.
    pub waits_at_most_95 : {after : Input} {qs : List Report} {m'' : List ℕ} → Calls m' after qs m'' → (n : ℕ) →
        became_ready small (tables m) e n ≡ true → 95 ≤ ticks_told after qs → served_by small 95 n (tables m') after ≡ true
    waits_at_most_95 {after} cs n b t =
        lent.waits_at_most_95 (is_a_series f) e m' _ (tells c).answered after n b
        (subst (λ (k : ℕ). 95 ≤ k) (lines_told (c.leaves stands_for_the_run.0).0 cs).1 t)

    -- Demand 3: with threads and nobody to run, it reports 3, panicked, exactly if no series of ticks and interrupts makes any thread
    -- ready.
    pub panics_exactly : (tables m').runner ≡ NoRunner → any (λ t. true) (tables m').threads ≡ true →
        (r.status ≡ 3) ↔ ((os : List Event) → all from_outside os ≡ true → some_ready (outside (tables m') os) ≡ false)
    unfolding report_of status_code
    panics_exactly nobody some =
        let v = stands_for_the_run.0 in
        let said : r.status ≡ status_code (status (tables m')) =
        ap (λ (x : Report). x.status) (c.decides v) ∙ reported small (tables m) e
        ∙ ap (λ (T : Tables). status_code (status T)) (sym (c.leaves v).1) in
        let p = lent.panics_exactly next nobody some in
        ((λ z. p.0 (told_panic _ (sym said ∙ z))), (λ o. said ∙ ap status_code (p.1 o)))
