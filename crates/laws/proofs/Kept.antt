-- The table rules hold at the start, and every step keeps them: so they hold in every run.
use Rattle.std.proofs.Common.{◌==◌}
use Prim.Native.Nat.{ℕ, ◌≤◌, ◌<◌}
use mathlib.Core.Path.{◌≡◌, refl, ap}
use mathlib.Core.Logic.{◌⊎◌, inl, inr}
use mathlib.Core.Bool.{true, false, false≢true}
use mathlib.Core.List.{List, [], ◌∷◌, Memᴰ}
use native.Mathlib.Omega.{arith}
use borrow.Author.Tests.{eqb-true}
use Rattle.rules.specs.Lists.{any, count, chain}
use Rattle.rules.specs.Numbers.{names, full_slice}
use Rattle.laws.specs.Words.{Limits}
use Rattle.rules.specs.Tables.{Tables, new_thread, runs_as, start}
use Rattle.rules.specs.States.{is_running, is_ready, on_clock, at_device}
use Rattle.rules.specs.Step.{step}
use Rattle.rules.specs.Runs.{Input, run}
use Rattle.rules.specs.TableRules.{table_rules}
use Rattle.laws.specs.Words.{Running, NoParent, Thread}
use Rattle.laws.specs.Types.{here, Agree, Inv, Steady, Detail, Fits, Ruled}
use Rattle.laws.proofs.Tests.{and_true, and_false, or_cases, one_at_most}
use Rattle.laws.proofs.PlacesKept.{step_inv}
use Rattle.laws.proofs.Right.{new_right}
use Rattle.laws.proofs.Good.{step_good}
use Rattle.laws.proofs.Steady.{step_steady}
use Rattle.laws.proofs.Sound.{tested_ruled, ruled_tested}

-- ---- the start

abbrev first : Thread
first = new_thread 0 NoParent Running

is_first : (t : Thread) → Memᴰ t (first ∷ []) → t ≡ first
is_first t (Memᴰ.head e) = e
is_first t (Memᴰ.tail m) = elim m [ ]

start_agree : Agree start
unfolding here count runs_as is_running is_ready on_clock
start_agree = record {
  once = λ n. omega (arith, one_at_most (n == 0));
  run = λ n. rw (and_true (n == 0)) (omega arith);
  wait = λ n. rw (and_false (n == 0));
  beat = λ n. rw (and_false (n == 0));
}

start_inv : (L : Limits) → 1 ≤ L.threads → Inv L start
unfolding any
start_inv L l = record { agree = start_agree; low = λ n h. low n (or_cases (n == 0) false h); few = omega arith; last = omega arith }
  where
    low : (n : ℕ) → ((n == 0) ≡ true) ⊎ (false ≡ true) → n < names
    low n (inl e) = omega (arith, eqb-true n 0 e)
    low n (inr e) = absurd (false≢true e)

start_steady : Steady start
start_steady = record {
  slice = λ n s e. let k : full_slice ≡ s = cc in omega arith;
  quiet = λ e. refl;
  since = omega arith;
  beats = omega arith;
}

start_fits : (L : Limits) → Fits L start
unfolding count chain at_device
start_fits L = record {
  family = record {
    depth = λ n. 0;
    root = λ t m e. ap (λ (x : Thread). x.parent) (is_first t m);
    under = λ t m d. absurd (d (ap (λ (x : Thread). x.name) (is_first t m)));
  };
  threads = λ t m. rw (is_first t m) (new_right (first ∷ []) [] 0 NoParent Running (unfold Detail in tt));
  waiters = λ d. omega arith;
  messages = λ m i. elim i [ ];
  notices = λ n. omega arith;
  blocks = omega arith;
  rising = refl;
  order = refl;
  held = λ h i. elim i [ ];
  held_order = refl;
}

pub start_ruled : (L : Limits) → 1 ≤ L.threads → Ruled L start
start_ruled L l = record { inv = start_inv L l; steady = start_steady; fits = start_fits L }

-- ---- a step, and a run

pub step_ruled : {L : Limits} {T : Tables} (bytes : List ℕ) → L.threads < names → Ruled L T → Ruled L (step L T bytes).tables
step_ruled bytes l R = record {
  inv = step_inv bytes l R.inv;
  steady = step_steady bytes l R.inv R.steady;
  fits = step_good bytes l R.inv R.fits;
}

pub run_ruled : {L : Limits} (T : Tables) (es : Input) → L.threads < names → Ruled L T → Ruled L (run L T es)
unfolding run
run_ruled T [] l R = R
run_ruled {L = L} T (e ∷ es) l R = run_ruled (step L T e).tables es l (step_ruled e l R)

-- ---- the law

-- The table rules hold at the start, if there is room for its one thread.
pub rules_hold_at_the_start : (L : Limits) → 1 ≤ L.threads → table_rules L start ≡ true
rules_hold_at_the_start L l = ruled_tested (start_ruled L l)

-- Every step keeps the table rules: on any bytes, accepted or refused, if threads are fewer than names.
pub rules_are_kept : (L : Limits) (T : Tables) (bytes : List ℕ) → L.threads < names → table_rules L T ≡ true →
    table_rules L (step L T bytes).tables ≡ true
rules_are_kept L T bytes l h = ruled_tested (step_ruled bytes l (tested_ruled L T h))

-- From the start, after any events, the table rules hold.
pub rules_hold_in_runs : (L : Limits) (es : Input) → 1 ≤ L.threads → L.threads < names → table_rules L (run L start es) ≡ true
rules_hold_in_runs L es o l = ruled_tested (run_ruled start es l (start_ruled L o))
