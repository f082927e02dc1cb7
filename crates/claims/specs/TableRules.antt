-- The table rules: they hold at a start, and every step keeps them.
use Rattle.std.specs.Prelude.{ℕ, ◌≤◌, ◌<◌, ◌≡◌, true, ◌↔◌, List}
use Rattle.rules.specs.Numbers.{names}
use Rattle.laws.specs.Words.{Limits}
use Rattle.rules.specs.Tables.{Tables, named, start}
use Rattle.rules.specs.TableRules.{table_rules, parents_right}
use Rattle.rules.specs.Lists.{count}
use Rattle.rules.specs.Step.{step}
use Rattle.rules.specs.Runs.{Input, run}
use Rattle.laws.specs.Types.{Ruled, Family}
use Rattle.laws.proofs.Sound as sound
use Rattle.laws.proofs.Descent as descent
use Rattle.laws.proofs.Kept as kept

-- The Boolean test `table_rules` and the rules as types (Types.antt) say the same, both ways.
pub tested_ruled : (L : Limits) (T : Tables) → table_rules L T ≡ true → Ruled L T
tested_ruled = sound.tested_ruled

pub ruled_tested : {L : Limits} {T : Tables} → Ruled L T → table_rules L T ≡ true
ruled_tested = sound.ruled_tested

-- Where no name stands twice, the test on parents holds exactly if 0 has no parent and every other thread has a live one that is nearer to
-- the top.
pub family_exactly : (T : Tables) → ((n : ℕ) → count (named n) T.threads ≤ 1) → (parents_right T ≡ true) ↔ Family T.threads
family_exactly = descent.family_exactly

-- The table rules hold at a start.
pub rules_hold_at_the_start : (L : Limits) → 1 ≤ L.threads → table_rules L start ≡ true
rules_hold_at_the_start = kept.rules_hold_at_the_start

-- If they hold before a step, they hold after it, whatever the bytes.
pub rules_are_kept : (L : Limits) (T : Tables) (bytes : List ℕ) → L.threads < names → table_rules L T ≡ true →
    table_rules L (step L T bytes).tables ≡ true
rules_are_kept = kept.rules_are_kept

-- They hold after any run from a start.
pub rules_hold_in_runs : (L : Limits) (es : Input) → 1 ≤ L.threads → L.threads < names → table_rules L (run L start es) ≡ true
rules_hold_in_runs = kept.rules_hold_in_runs
