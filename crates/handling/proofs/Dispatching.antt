-- Dispatch and status, by their cases.
use Rattle.std.proofs.Common.{◌≡◌, ℕ, ◌<◌, Bool, ◌≢◌, List, [], ◌∷◌, length, get_or, drop, refl, arith, if◌then◌else◌}
use Rattle.rules.specs.Lists.{any}
use Rattle.rules.specs.Numbers.{full_slice}
use Rattle.laws.specs.Words.{Limits}
use Rattle.rules.specs.Tables.{Tables, with_runner, with_ready, in_state, of_thread, change}
use Rattle.rules.specs.States.{wakes_from_outside}
use Rattle.rules.specs.Waking.{Outcome, ◌handing◌}
use Rattle.rules.specs.Dispatch.{run_next, dispatch, status_without, status}
use Rattle.laws.specs.Words.{Running, Answer, Nothing, Thread, NoRunner, Runs, Working, Idle, Halted, Panicked}
use Rattle.store.specs.Store.{tables, Holding, Leaves}
use Rattle.handling.proofs.Leaving.{and_then, carried}

-- ---- the front of the ready queue

pub nobody_ready : (q : List ℕ) (o : Outcome) → length q ≡ 0 → o ≡ run_next q o
unfolding run_next
nobody_ready [] o e = refl
nobody_ready (n ∷ q) o e = absurd (omega (arith, e))

pub front_runs : (T : Tables) (given a : Answer) (n : ℕ) → length T.ready ≢ 0 → n ≡ get_or T.ready 0 0 →
    a ≡ of_thread Nothing (λ t. t.answer) n T.threads →
    (with_runner (Runs n full_slice) (with_ready (drop 1 T.ready) (change n (in_state Running Nothing) T)) handing a) ≡ run_next
    T.ready (T handing given)
unfolding run_next
front_runs T given a n d e x = go T.ready d e
  where
    go : (q : List ℕ) → length q ≢ 0 → n ≡ get_or q 0 0 →
        (with_runner (Runs n full_slice) (with_ready (drop 1 q) (change n (in_state Running Nothing) T)) handing a) ≡ run_next q
        (T handing given)
    go [] l k = absurd (l refl)
    go (y ∷ q) l k = rw (x, k)

module _ {m m₁ : List ℕ} (n : ℕ) (f : Thread → Thread) (turned : Leaves m m₁ (change n f (tables m))) where
  -- the front is still there
  pub turned_front : length (tables m).ready ≢ 0 → Holding m₁ × (0 < length (tables m₁).ready)
  unfolding change
  turned_front d = (turned.holding, carried (λ (L : Limits) (T : Tables). 0 < length T.ready) turned (omega (arith, d)))

  -- and goes, and another runs
  pub front_gone : {m₂ m₃ : List ℕ} (s : ℕ) → Leaves m₁ m₂ (with_ready (drop 1 (tables m₁).ready) (tables m₁)) →
      Leaves m₂ m₃ (with_runner (Runs n s) (tables m₂)) →
      Leaves m m₃ (with_runner (Runs n s) (with_ready (drop 1 (tables m).ready) (change n f (tables m))))
  unfolding change
  front_gone s gone runs = and_then (with_runner (Runs n s)) (and_then (λ (T : Tables). with_ready (drop 1 T.ready) T) turned gone) runs

pub nobody_runs : (o : Outcome) → o.tables.runner ≡ NoRunner → run_next o.tables.ready o ≡ dispatch o
unfolding dispatch
nobody_runs o e = rw e

-- ---- the status

module _ (T : Tables) where
  pub working : (n s : ℕ) → T.runner ≡ Runs n s → Working ≡ status T
  unfolding status
  working n s e = rw e

  module _ (e : T.runner ≡ NoRunner) where
    pub halted : length T.threads ≡ 0 → Halted ≡ status T
    unfolding status status_without
    halted z = rw e (go T.threads z)
      where
        go : (ts : List Thread) → length ts ≡ 0 → Halted ≡ status_without ts
        go [] l = refl
        go (t ∷ ts) l = absurd (omega (arith, l))

    pub rests : length T.threads ≢ 0 → (b : Bool) → any (λ t. wakes_from_outside t.state) T.threads ≡ b →
        (if b then Idle else Panicked) ≡ status T
    unfolding status status_without
    rests d b w = rw e (go T.threads d w)
      where
        go : (ts : List Thread) → length ts ≢ 0 → any (λ t. wakes_from_outside t.state) ts ≡ b →
            (if b then Idle else Panicked) ≡ status_without ts
        go [] l v = absurd (l refl)
        go (t ∷ ts) l v = rw v
