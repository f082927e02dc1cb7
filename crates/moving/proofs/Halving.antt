-- The place of a name among the first n of a row, which stand by rising name: what a look at one of them tells.
use Rattle.std.proofs.Common.{if◌then◌else◌}
use Prim.Native.Nat.{ℕ, zero, suc, ◌+◌, ◌≤◌, ◌<◌}
use mathlib.Core.Path.{◌≡◌, ap}
use mathlib.Core.Bool.{Bool, true, false, not}
use mathlib.Core.List.{List, [], ◌∷◌}
use native.Mathlib.Omega.{arith}
use lib.Dec.{ltb}
use lib.ListN.{length, take, get_or}
use lib.Seq.{length-take-le, get_or-take}
use borrow.Author.Tests.{lt-ltb, le-ltb}
use Rattle.laws.specs.Words.{Thread}
use Rattle.laws.specs.Types.{Rising}
use Rattle.laws.proofs.Ordered.{chain_tail, up_below}
use Rattle.laws.proofs.Single.{getD_member}
use Rattle.memory.specs.Rows.{place}
use Rattle.moving.proofs.Found.{place_within}

module _ (name : ℕ) where
  abbrev not_below : Thread → Bool
  not_below t = not (ltb t.name name)

  -- who is below stands before the place
  below_before : (ts : List Thread) (i : ℕ) (d : Thread) → Rising ts → i < length ts → (get_or ts i d).name < name → i < place not_below ts
  unfolding place
  below_before [] i d r h l = absurd (omega arith)
  below_before (t ∷ ts) zero d r h l = rw (lt-ltb t.name name l) (omega arith)
  below_before (t ∷ ts) (suc i) d r h l =
      let k : i < length ts = omega arith in
      let low : t.name < name = omega (arith, up_below (λ u. u.name) t ts r (get_or ts i d) (getD_member ts i d k)) in
      let later = below_before ts i d (chain_tail _ t ts r) k l in
      rw (lt-ltb t.name name low) (omega arith)

  -- who is not stands there, or behind it
  others_behind : (ts : List Thread) (i : ℕ) (d : Thread) → i < length ts → name ≤ (get_or ts i d).name → place not_below ts ≤ i
  unfolding place
  others_behind [] i d h l = absurd (omega arith)
  others_behind (t ∷ ts) zero d h l = rw (le-ltb t.name name l) (omega arith)
  others_behind (t ∷ ts) (suc i) d h l = go (others_behind ts i d (omega arith) l) (not_below t)
    where
      go : place not_below ts ≤ i → (b : Bool) → (if b then 0 else suc (place not_below ts)) ≤ suc i
      go r true = omega arith
      go r false = omega (arith, r)

  module _ (n : ℕ) (row : List Thread) where
    -- the place is one of these
    pub record Between (low high : ℕ) : Type 0 where
      pub from : low ≤ place not_below (take n row)
      pub to : place not_below (take n row) ≤ high
      pub within : high ≤ n

    pub anywhere : n ≤ length row → (high : ℕ) → high ≡ n → Between 0 high
    anywhere whole high e = record {
      from = omega arith;
      to = omega (arith, place_within not_below (take n row), length-take-le n row whole);
      within = omega arith;
    }

    module _ (whole : n ≤ length row) (low high i : ℕ) (d : Thread) (b : Between low high) (h : i < high) where
      here : (get_or (take n row) i d).name ≡ (get_or row i d).name
      here = ap (λ (t : Thread). t.name) (get_or-take n row i d (omega (arith, b.within)))

      inside : i < length (take n row)
      inside = omega (arith, b.within, length-take-le n row whole)

      pub above : Rising (take n row) → (get_or row i d).name < name → Between (i + 1) high
      above r l =
          record { from = omega (arith, below_before (take n row) i d r inside (omega (arith, here))); to = b.to; within = b.within }

      pub not_above : name ≤ (get_or row i d).name → Between low i
      not_above l =
          record { from = b.from; to = others_behind (take n row) i d inside (omega (arith, here)); within = omega (arith, b.within) }

    pub only_place : (low high : ℕ) → Between low high → high ≤ low → low ≡ place not_below (take n row)
    only_place low high b h = omega (arith, b.from, b.to)
