-- Two tests joined, where the first fails and where it passes; tests in a row; and what the code's "not" of an answer says of the rule's
-- test.
use Prim.Native.Nat.{ℕ, zero, suc}
use mathlib.Core.Path.{◌≡◌, sym, ◌∙◌}
use mathlib.Core.Bool.{Bool, true, false, ◌&&◌, not}
use mathlib.Core.List.{List, [], ◌∷◌}
use lib.ListN.{get_or}
use Rattle.rules.specs.Lists.{all}
use Rattle.laws.proofs.Tests.{not_true, not_false, and_true, and_false}

pub fails_first : {a : Bool} (b : Bool) → a ≡ false → (a && b) ≡ false
fails_first b e = rw e

pub and_then : {a b t : Bool} → a ≡ true → b ≡ t → (a && b) ≡ t
and_then e f = rw e f

-- b is the answer of a function that decides the test t
pub failed : {b t : Bool} → b ≡ t → not b ≡ true → t ≡ false
failed {b} e h = sym e ∙ not_true b h

pub passed : {b t : Bool} → b ≡ t → not b ≡ false → t ≡ true
passed {b} e h = sym e ∙ not_false b h

-- ---- tests in a row

abbrev every : List Bool → Bool
every bs = all (λ b. b) bs

-- one that fails is enough
pub fails_at : (bs : List Bool) (k : ℕ) → get_or bs k true ≡ false → false ≡ every bs
unfolding all
fails_at bs k e = sym (go bs k e)
  where
    go : (bs : List Bool) (k : ℕ) → get_or bs k true ≡ false → every bs ≡ false
    go [] k e = e
    go (b ∷ bs) zero e = rw e
    go (b ∷ bs) (suc k) e = rw (go bs k e) (and_false b)

-- where all before the last pass, it decides
pub ends : (b : Bool) → b ≡ every (b ∷ [])
unfolding all
ends b = sym (and_true b)

pub passes : {x b : Bool} (bs : List Bool) → x ≡ true → b ≡ every bs → b ≡ every (x ∷ bs)
unfolding all
passes bs e f = rw e f
