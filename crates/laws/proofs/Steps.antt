-- To prove something of a step: of a refused event and of an accepted one, and of each thing that the dispatch can do. And runs in parts.
use Rattle.std.proofs.Common.{◌==◌}
use Prim.Native.Nat.{ℕ, zero, suc}
use mathlib.Core.Path.{◌≡◌, refl, ap}
use mathlib.Core.Bool.{Bool, true, false, not, true≢false}
use mathlib.Core.List.{List, [], ◌∷◌, ◌++◌}
use native.Mathlib.Omega.{arith}
use borrow.Author.Tests.{ne_eqb}
use Rattle.rules.specs.Numbers.{full_slice}
use Rattle.laws.specs.Words.{Limits}
use Rattle.rules.specs.Words.{by_runner}
use Rattle.laws.specs.Words.{Running, Nothing, Runner, NoRunner, Runs, Call, ByRunner}
use Rattle.rules.specs.Tables.{Tables, with_runner, with_ready, in_state, change, runs, me}
use Rattle.rules.specs.Waking.{Outcome}
use Rattle.rules.specs.Dispatch.{run_next, dispatch}
use Rattle.rules.specs.Events.{decode}
use Rattle.rules.specs.Refusals.{Rule, ◌refuses◌, first_of, is_malformed, needs_runner, call_rules, own_rules, refusal}
use Rattle.rules.specs.Step.{act, settle, step}
use Rattle.rules.specs.Runs.{Input, run}

-- the test of the first rule is false, and the others are passed too
pub passed : (b : Bool) (n : ℕ) (rs : List Rule) → first_of ((b refuses suc n) ∷ rs) ≡ 0 → (b ≡ false) × (first_of rs ≡ 0)
unfolding first_of
passed true n rs e = absurd (omega arith)
passed false n rs e = (refl, e)

-- a call that is not refused: there is a runner, and the call's own rules are passed
pub record Called (L : Limits) (T : Tables) (c : Call) : Type 0 where
  pub name : ℕ
  pub slice : ℕ
  pub runner : T.runner ≡ Runs name slice
  pub caller : me T.runner ≡ name
  pub passes : first_of (call_rules L T name c) ≡ 0

pub called : (L : Limits) (T : Tables) (c : Call) → refusal L T (ByRunner c) ≡ 0 → Called L T c
unfolding refusal is_malformed needs_runner own_rules
called L T c f = let g = passed _ 2 _ (passed false 1 _ (passed _ 0 _ f).1).1 in go T.runner refl g.0 g.1
  where
    go : (r : Runner) → T.runner ≡ r → not (runs r) ≡ false → first_of (call_rules L T (me r) c) ≡ 0 → Called L T c
    go NoRunner e h g = unfold runs in absurd (true≢false h)
    go (Runs n s) e h g = unfold me in record { name = n; slice = s; runner = e; caller = ap me e; passes = g }

-- the tables after a step, and whether its event was accepted
pub by_step : (P : Tables → Bool → Type 0) (L : Limits) (T : Tables) (bytes : List ℕ) →
    P T false → (refusal L T (decode bytes) ≡ 0 → P (dispatch (act T (decode bytes))).tables true) →
    P (step L T bytes).tables (refusal L T (decode bytes) == 0)
unfolding step settle
by_step P L T bytes f g = go (refusal L T (decode bytes)) refl
  where
    go : (r : ℕ) → refusal L T (decode bytes) ≡ r → P (settle r T (decode bytes)).tables (r == 0)
    go zero a = g a
    go (suc r) a = rw (ne_eqb (suc r) 0 (λ e. omega arith)) f

-- the tables after a dispatch: somebody runs, nobody runs or is ready, or the front of the ready queue runs
pub by_dispatch : (P : Tables → Type 0) (o : Outcome) →
    ((n s : ℕ) → o.tables.runner ≡ Runs n s → P o.tables) →
    (o.tables.runner ≡ NoRunner → o.tables.ready ≡ [] → P o.tables) →
    ((n : ℕ) (q : List ℕ) → o.tables.runner ≡ NoRunner → o.tables.ready ≡ n ∷ q →
    P (with_runner (Runs n full_slice) (with_ready q (change n (in_state Running Nothing) o.tables)))) →
    P (dispatch o).tables
unfolding dispatch run_next
by_dispatch P o a b c = go o.tables.runner o.tables.ready refl refl
  where
    go : (r : Runner) (q : List ℕ) → o.tables.runner ≡ r → o.tables.ready ≡ q → P (by_runner (run_next q o) (λ n s. o) r).tables
    go (Runs n s) q e i = a n s e
    go NoRunner [] e i = b e i
    go NoRunner (n ∷ q) e i = c n q e i

-- ---- runs

-- some events and then others: a run goes on from where the first left off
pub run_append : (L : Limits) (T : Tables) (es fs : Input) → run L T (es ++ fs) ≡ run L (run L T es) fs
unfolding run
run_append L T [] fs = refl
run_append L T (e ∷ es) fs = run_append L (step L T e).tables es fs

-- the last event is a step
pub run_last : (L : Limits) (T : Tables) (es : Input) (e : List ℕ) → run L T (es ++ (e ∷ [])) ≡ (step L (run L T es) e).tables
unfolding run
run_last L T es e = run_append L T es (e ∷ [])
