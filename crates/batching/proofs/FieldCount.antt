-- The complete fields of some bytes, counted one by one.
use Prim.Native.Nat.{ℕ, ◌+◌, ◌*◌, ◌≤◌, ◌<◌}
use mathlib.Core.Path.{◌≡◌, refl, sym, ap, ◌∙◌}
use mathlib.Core.Bool.{Bool, true, false}
use mathlib.Core.List.{List, [], ◌∷◌}
use native.Mathlib.Omega.{arith}
use lib.ListN.{length, take, drop, length-drop}
use lib.Seq.{drop-drop}
use Rattle.std.proofs.Common.{length-take-le}
use Rattle.rules.specs.Fields.{field_size, whole}
use Rattle.rules.specs.Runs.{Input}
use Rattle.rules.specs.Batch.{complete, unread}
use Rattle.laws.specs.Batch.{past}
use Rattle.laws.proofs.Batch.{whole_within, complete_none, complete_first}
use Rattle.batching.specs.Batching.{AllCounted}

-- ---- one field more

-- where a complete field is left, there is one
pub some_left : (l : List ℕ) → 0 < length (complete l) → whole l ≡ true
some_left l h = on (whole l) refl
  where
    on : (b : Bool) → whole l ≡ b → whole l ≡ true
    on true w = w
    on false w = absurd (omega (arith, ap length (complete_none l w).0))

-- where none is left, none begins
none_begins : (l : List ℕ) → complete l ≡ [] → whole l ≡ false
none_begins l e = on (whole l) refl
  where
    on : (b : Bool) → whole l ≡ b → whole l ≡ false
    on false w = w
    on true w = absurd (omega (arith, ap length (complete_first l w).0, ap length e))

-- a place in some bytes where a complete field begins, and where that ends
module _ (bytes : List ℕ) (at end : ℕ) (w : whole (drop at bytes) ≡ true) (e : end ≡ at + field_size (drop at bytes)) where
  -- what is behind it
  pub behind_it : past (drop at bytes) ≡ drop end bytes
  behind_it = drop-drop (field_size (drop at bytes)) at bytes ∙ ap (λ (k : ℕ). drop k bytes) (sym e)

  pub ends_within : (at + 3 ≤ end) × (end ≤ length bytes)
  ends_within = let s = whole_within (drop at bytes) w in (omega (arith, e, s.0), omega (arith, e, s.0, s.1, length-drop at bytes))

-- ---- the fields up to a place

pub record Counted (bytes : List ℕ) (count end : ℕ) : Type 0 where
  pub within : end ≤ length bytes
  pub heads : 3 * count ≤ end
  pub counts : count + length (complete (drop end bytes)) ≡ length (complete bytes)
  pub rest : unread (drop end bytes) ≡ unread bytes

pub none_counted : (bytes : List ℕ) → Counted bytes 0 0
none_counted bytes = record { within = omega arith; heads = omega arith; counts = omega arith; rest = refl }

module _ {bytes : List ℕ} {count at : ℕ} (c : Counted bytes count at) where
  pub one_more : {end : ℕ} → whole (drop at bytes) ≡ true → end ≡ at + field_size (drop at bytes) → Counted bytes (count + 1) end
  one_more {end} w e =
      let first = complete_first (drop at bytes) w in
      let rest_of = behind_it bytes at end w e in
      let s = ends_within bytes at end w e in
      record {
        within = s.1;
        heads = omega (arith, s.0, c.heads);
        counts = omega (arith, c.counts, ap length first.0, ap (λ (l : List ℕ). length (complete l)) rest_of);
        rest = sym (first.1 ∙ ap unread rest_of) ∙ c.rest;
      }

  -- the next field is not complete: these are all
  pub all_counted : whole (drop at bytes) ≡ false → AllCounted bytes (record { count = count; end = at })
  all_counted w =
      let none = complete_none (drop at bytes) w in
      record { count = omega (arith, c.counts, ap length none.0); rest = sym none.1 ∙ c.rest; within = c.within; heads = c.heads }

  -- the same where the fields that are left stand as a list
  pub next_counted : (field : List ℕ) (more : Input) → complete (drop at bytes) ≡ field ∷ more
      → Counted bytes (count + 1) (at + length field) × (complete (drop (at + length field) bytes) ≡ more)
  next_counted field more e =
      let w = some_left (drop at bytes) (omega (arith, ap length e)) in
      let s = whole_within (drop at bytes) w in
      let same = sym (complete_first (drop at bytes) w).0 ∙ e in
      let taken : take (field_size (drop at bytes)) (drop at bytes) ≡ field = ap (λ (fs : Input). first_of fs) same in
      let ends : at + length field ≡ at + field_size (drop at bytes) =
      omega (arith, ap length taken, length-take-le (field_size (drop at bytes)) (drop at bytes) s.1) in
      (one_more w ends, ap complete (sym (behind_it bytes at (at + length field) w ends)) ∙ ap (λ (fs : Input). drop 1 fs) same)
    where
      first_of : Input → List ℕ
      first_of [] = []
      first_of (f ∷ fs) = f

  pub none_left_counted : complete (drop at bytes) ≡ [] → AllCounted bytes (record { count = count; end = at })
  none_left_counted e = all_counted (none_begins (drop at bytes) e)
