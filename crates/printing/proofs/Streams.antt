-- The fields of a stream and what the event program prints for it: field by field, whatever comes behind a field that is all there.
use Prim.Native.Nat.{ℕ, zero, suc, ◌≤◌, ◌<◌}
use mathlib.Core.Path.{◌≡◌, refl, ap, ap₂, ◌∙◌}
use mathlib.Core.List.{List, [], ◌∷◌, ◌++◌, append-nil}
use native.Mathlib.Omega.{arith}
use lib.ListN.{length, take, drop, length-append, length-drop}
use lib.Seq.{take-append-le, drop-append-le}
use Rattle.rules.specs.Numbers.{small}
use Rattle.rules.specs.Tables.{Tables}
use Rattle.rules.specs.Dispatch.{status}
use Rattle.rules.specs.Step.{Stepped, step}
use Rattle.rules.specs.Runs.{Input}
use Rattle.fields.specs.Fields.{field_size}
use Rattle.fields.proofs.Sizes.{size_some, size_within}
use Rattle.lines.specs.Text.{line}
use Rattle.lines.specs.Text.{last_line}
use Rattle.printing.specs.Printing.{prints_in, prints, fields_in, fields}

-- ---- the first field

-- a field that is cut off ends where it ends, where nothing comes behind it
pub size_last : (a more : List ℕ) → more ≡ [] → field_size (a ++ more) ≡ field_size a
size_last a more e = ap (λ (t : List ℕ). field_size (a ++ t)) e ∙ ap field_size (append-nil a)

-- ---- the bounds of `prints_in` and `fields_in` count no field away

-- the step of the first field, and the bytes behind it
abbrev pub first_step : Tables → List ℕ → Stepped
first_step T l = step small T (take (field_size l) l)

abbrev pub past_first : List ℕ → List ℕ
past_first l = drop (field_size l) l

shorter : (b : ℕ) (l : List ℕ) (n : ℕ) → length (b ∷ l) ≤ suc n → length (past_first (b ∷ l)) ≤ n
shorter b l n h = omega (arith, length-drop (field_size (b ∷ l)) (b ∷ l), size_some (b ∷ l) (omega arith))

pub enough : (n m k : ℕ) (T : Tables) (l : List ℕ) → length l ≤ n → length l ≤ m → prints_in n k T l ≡ prints_in m k T l
unfolding prints_in
enough zero zero k T l h g = refl
enough zero (suc m) k T [] h g = refl
enough zero (suc m) k T (b ∷ l) h g = absurd (omega arith)
enough (suc n) zero k T [] h g = refl
enough (suc n) zero k T (b ∷ l) h g = absurd (omega arith)
enough (suc n) (suc m) k T [] h g = refl
enough (suc n) (suc m) k T (b ∷ l) h g =
    let s = first_step T (b ∷ l) in
    ap (λ (t : List ℕ). line k s.decision ++ t)
    (enough n m (suc k) s.tables (past_first (b ∷ l)) (shorter b l n h) (shorter b l m g))

enough_fields : (n m : ℕ) (l : List ℕ) → length l ≤ n → length l ≤ m → fields_in n l ≡ fields_in m l
unfolding fields_in
enough_fields zero zero l h g = refl
enough_fields zero (suc m) [] h g = refl
enough_fields zero (suc m) (b ∷ l) h g = absurd (omega arith)
enough_fields (suc n) zero [] h g = refl
enough_fields (suc n) zero (b ∷ l) h g = absurd (omega arith)
enough_fields (suc n) (suc m) [] h g = refl
enough_fields (suc n) (suc m) (b ∷ l) h g =
    ap (λ (t : Input). take (field_size (b ∷ l)) (b ∷ l) ∷ t)
    (enough_fields n m (past_first (b ∷ l)) (shorter b l n h) (shorter b l m g))

-- ---- what is printed: the last line, or the first field's line and what the rest prints

pub prints_none : (k : ℕ) (T : Tables) → prints k T [] ≡ last_line (status T)
unfolding prints_in
prints_none k T = refl

pub prints_first : (k : ℕ) (T : Tables) (l : List ℕ) → 0 < length l
    → prints k T l ≡ line k (first_step T l).decision ++ prints (suc k) (first_step T l).tables (past_first l)
unfolding prints_in
prints_first k T [] h = absurd (omega arith)
prints_first k T (b ∷ l) h =
    let s = first_step T (b ∷ l) in
    let rest = past_first (b ∷ l) in
    ap (λ (t : List ℕ). line k s.decision ++ t)
    (enough (length l) (length rest) (suc k) s.tables rest (shorter b l (length l) (omega arith)) (omega arith))

pub fields_first : (l : List ℕ) → 0 < length l → fields l ≡ take (field_size l) l ∷ fields (past_first l)
unfolding fields_in
fields_first [] h = absurd (omega arith)
fields_first (b ∷ l) h =
    let rest = past_first (b ∷ l) in
    ap (λ (t : Input). take (field_size (b ∷ l)) (b ∷ l) ∷ t)
    (enough_fields (length l) (length rest) rest (shorter b l (length l) (omega arith)) (omega arith))

-- the same of the bytes that are there, whatever comes behind them, if their first field ends where it ends with them
module _ (a more : List ℕ) (same : field_size (a ++ more) ≡ field_size a) where
  pub take_first : take (field_size (a ++ more)) (a ++ more) ≡ take (field_size a) a
  take_first = ap (λ (n : ℕ). take n (a ++ more)) same ∙ take-append-le (field_size a) a more (size_within a)

  pub drop_first : past_first (a ++ more) ≡ past_first a ++ more
  drop_first = ap (λ (n : ℕ). drop n (a ++ more)) same ∙ drop-append-le (field_size a) a more (size_within a)

  pub prints_field : (k : ℕ) (T : Tables) → 0 < length a
      → prints k T (a ++ more) ≡ line k (first_step T a).decision ++ prints (suc k) (first_step T a).tables (past_first a ++ more)
  prints_field k T h =
      prints_first k T (a ++ more) (omega (arith, length-append a more))
      ∙ ap₂ (λ (f t : List ℕ). line k (step small T f).decision ++ prints (suc k) (step small T f).tables t) take_first drop_first

  pub fields_field : 0 < length a → fields (a ++ more) ≡ take (field_size a) a ∷ fields (past_first a ++ more)
  fields_field h =
      fields_first (a ++ more) (omega (arith, length-append a more)) ∙ ap₂ (λ (f t : List ℕ). f ∷ fields t) take_first drop_first
