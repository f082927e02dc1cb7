-- A memory that is shaped for limits has them, and its counts are within them; and the other way round.
use Prim.Native.Nat.{ℕ, ◌+◌, ◌≤◌, ◌<◌}
use mathlib.Core.Path.{◌≡◌, refl, ap}
use mathlib.Core.Bool.{Bool, true}
use mathlib.Core.List.{List, ◌∷◌}
use native.Mathlib.Omega.{arith}
use lib.ListN.{length}
use borrow.Author.Tests.{leb-true, eqb-true, le-leb, eq-eqb}
use Rattle.rules.specs.Lists.{all}
use Rattle.rules.specs.Numbers.{names}
use Rattle.laws.specs.Words.{Limits}
use Rattle.laws.proofs.Tests.{and_left, and_right, ◌&◌}
use Rattle.words.specs.Saying.{word}
use Rattle.memory.specs.Layout.{size, most_blocks}
use Rattle.memory.specs.Memory.{rows_of}
use Rattle.store.specs.Store.{Shaped, limits}
use Rattle.memory.specs.Shape.{shaped}

-- ---- tests in a row

first : (x : Bool) (bs : List Bool) → all (λ b. b) (x ∷ bs) ≡ true → x ≡ true
unfolding all
first x bs e = and_left x (all (λ b. b) bs) e

others : (x : Bool) (bs : List Bool) → all (λ b. b) (x ∷ bs) ≡ true → all (λ b. b) bs ≡ true
unfolding all
others x bs e = and_right x (all (λ b. b) bs) e

-- ---- what the tests say
record Sized (L : Limits) (m : List ℕ) : Type 0 where
  long : size L ≤ length m
  own_threads : word m 0 ≡ L.threads
  own_blocks : word m 1 ≡ L.blocks
  threads : word m 7 ≤ L.threads
  ready : word m 8 ≤ L.threads
  clock : word m 9 ≤ L.threads
  messages : word m 10 ≤ L.threads + L.blocks

sized : (L : Limits) (m : List ℕ) → shaped L m ≡ true → Sized L m
unfolding shaped
sized L m e₀ =
    let e₁ = others _ _ e₀ in
    let e₂ = others _ _ e₁ in
    let e₃ = others _ _ e₂ in
    let e₄ = others _ _ e₃ in
    let e₅ = others _ _ e₄ in
    let e₆ = others _ _ e₅ in
    record {
      long = leb-true _ _ (first _ _ e₀);
      own_threads = eqb-true _ _ (first _ _ e₁);
      own_blocks = eqb-true _ _ (first _ _ e₂);
      threads = leb-true _ _ (first _ _ e₃);
      ready = leb-true _ _ (first _ _ e₄);
      clock = leb-true _ _ (first _ _ e₅);
      messages = leb-true _ _ (first _ _ e₆);
    }

-- ---- both ways

module _ (L : Limits) (m : List ℕ) where
  pub own_limits : shaped L m ≡ true → limits m ≡ L
  unfolding limits rows_of
  own_limits e = let s = sized L m e in λ ι. record { threads = s.own_threads ι; blocks = s.own_blocks ι }

  pub shaped_right : shaped L m ≡ true → L.threads < names → L.blocks ≤ most_blocks → Shaped m
  unfolding Shaped rows_of
  shaped_right e h k =
      let s = sized L m e in
      record {
        limits = refl;
        roomy = record {
          long = omega (arith, s.long, s.own_threads, s.own_blocks);
          low = omega (arith, s.own_threads);
          few = omega (arith, s.own_blocks);
        };
        threads = omega (arith, s.threads, s.own_threads);
        ready = omega (arith, s.ready, s.own_threads);
        clock = omega (arith, s.clock, s.own_threads);
        messages = omega (arith, s.messages, s.own_threads, s.own_blocks);
      }

  pub right_shaped : Shaped m → limits m ≡ L → shaped L m ≡ true
  unfolding Shaped limits rows_of shaped all
  right_shaped s e =
      let t : word m 0 ≡ L.threads = ap (λ (l : Limits). l.threads) e in
      let b : word m 1 ≡ L.blocks = ap (λ (l : Limits). l.blocks) e in
      le-leb (size L) (length m) (omega (arith, s.roomy.long))
      & (eq-eqb (word m 0) L.threads t
      & (eq-eqb (word m 1) L.blocks b
      & (le-leb (word m 7) L.threads (omega (arith, s.threads))
      & (le-leb (word m 8) L.threads (omega (arith, s.ready))
      & (le-leb (word m 9) L.threads (omega (arith, s.clock))
      & (le-leb (word m 10) (L.threads + L.blocks) (omega (arith, s.messages)) & refl))))))
