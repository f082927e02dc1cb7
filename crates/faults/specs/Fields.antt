-- The whole fields of some bytes, as the code goes over them.
use Rattle.std.specs.Prelude.{ℕ, ◌+◌, Bool, ◌||◌, ◌≡◌, List, [], ◌∷◌, length, drop, ltb, Option, None}
use Rattle.std.specs.Borrow.{Bor}
use Rattle.std.specs.Iterator.{YieldsFirst}
use Rattle.rules.specs.Fields.{complete, unread}
use Rattle.rules.specs.Load.{as_field}
use Rattle.faults.specs.declared.order.Before.{Before}
use Rattle.faults.specs.declared.placed.Placed.{Placed}
use Rattle.faults.specs.declared.placed.Fields.{Fields}
use Rattle.faults.specs.Order.{nothing_before, after, missing}

-- these fields, the first at an offset behind what stood before it
unfoldable pub standing : ℕ → Before → List (List ℕ) → List Placed
standing at b [] = []
standing at b (f ∷ fs) = record { at = at; before = b; field = as_field f } ∷ standing (at + length f) (after b (as_field f).tag) fs

-- what stands before the end of them
unfoldable pub before_end : Before → List (List ℕ) → Before
before_end b [] = b
before_end b (f ∷ fs) = before_end (after b (as_field f).tag) fs

-- all of them
abbrev pub fields_from : Bor (List ℕ) → Fields
fields_from bytes = record { bytes = bytes; at = 0; before = nothing_before }

-- those that are still to come
abbrev pub left : Fields → List Placed
left s = standing s.at s.before (complete (drop s.at s.bytes.now))

-- behind them: are there more bytes, or did a field 1, 3 or 4 not stand?
abbrev pub end_of : Fields → Bool
end_of s = let l = drop s.at s.bytes.now in ltb 0 (length (unread l)) || missing (before_end s.before (complete l))

-- the same at the place where it stands
abbrev pub ends_at : Fields → Bool
ends_at s = ltb s.at (length s.bytes.now) || missing s.before

-- a call gives the first of them and leaves the others, and the end stays; where none is left, it stands at the end
pub record Gives (s : Fields) (r : Option Placed) (t : Fields) : Type 0 where
  pub first : YieldsFirst left s r t
  pub same_end : end_of t ≡ end_of s
  pub done : r ≡ None → ends_at t ≡ end_of t
