-- The fields of some bytes at their places: which are listed, at which offsets and with which tags before them. And the offsets of those
-- that have a fault: which they are, and that they rise.
use Rattle.std.proofs.Common.{if◌then◌else◌}
use Prim.Native.Nat.{ℕ, ◌+◌, ◌≤◌, ◌<◌}
use mathlib.Core.Path.{◌≡◌, refl, sym, ap, ◌∙◌, subst}
use mathlib.Core.Logic.{◌↔◌, ⊎_elim}
use mathlib.Core.Bool.{Bool, true, false}
use mathlib.Core.List.Memᴰ
use mathlib.Core.List.{List, [], ◌∷◌, ◌++◌, map, Memᴰ}
use native.Mathlib.Omega.{arith}
use lib.ListN.{length, take, drop, length-drop}
use lib.Seq.{drop-drop, length-take-le}
use Rattle.rules.specs.Lists.{keep}
use Rattle.rules.specs.Fields.{field_size, whole, complete}
use Rattle.rules.specs.Load.{as_field}
use Rattle.rules.specs.Faults.{Placed, placed_from, placed, offsets}
use Rattle.laws.specs.Offsets.{Reached, front, behind, BeginsAt, Earliest}
use Rattle.laws.specs.Batch.{past}
use Rattle.laws.proofs.Tests.{by_if}
use Rattle.laws.proofs.Tally.{keep_none, none_count, none_any}
use Rattle.laws.proofs.Members.{mem_keep, keep_mem, mem_map, map_mem}
use Rattle.laws.proofs.Batch.{whole_within, by_fields, complete_none, complete_first}

-- ---- where fields stand

-- the same of a field that is listed as the bytes' own, wherever they stand
abbrev Begins : List ℕ → Type 0
Begins l = (at : ℕ) (before : List ℕ) (f : Placed) → Memᴰ f (placed_from at before (complete l))
    → (k : ℕ) × (f.at ≡ at + k) × Reached l k × (whole (drop k l) ≡ true) × (f.field ≡ as_field (take (field_size (drop k l)) (drop k l)))

begins : (l : List ℕ) → Begins l
unfolding placed_from
begins = by_fields Begins none one
  where
    none : (l : List ℕ) → whole l ≡ false → Begins l
    none l w at before f m =
        absurd (Memᴰ.not-nil (subst (λ (fs : List (List ℕ)). Memᴰ f (placed_from at before fs)) (complete_none l w).0 m))

    one : (l : List ℕ) → whole l ≡ true → Begins (past l) → Begins l
    one l w h at before f m = go (subst (λ (fs : List (List ℕ)). Memᴰ f (placed_from at before fs)) (complete_first l w).0 m)
      where
        go : Memᴰ f (placed_from at before (take (field_size l) l ∷ complete (past l)))
            → (k : ℕ) × (f.at ≡ at + k) × Reached l k × (whole (drop k l) ≡ true)
            × (f.field ≡ as_field (take (field_size (drop k l)) (drop k l)))
        go (Memᴰ.head e) = (0, ap (λ (p : Placed). p.at) e ∙ omega arith, front, w, ap (λ (p : Placed). p.field) e)
        go (Memᴰ.tail n) =
            let r = h _ _ f n in
            let s = drop-drop r.0 (field_size l) l in (
              field_size l + r.0,
              omega (arith, r.1, length-take-le (field_size l) l (whole_within l w).1),
              behind w r.2,
              subst (λ (x : List ℕ). whole x ≡ true) s r.3,
              subst (λ (x : List ℕ). f.field ≡ as_field (take (field_size x) x)) s r.4,
            )

-- Every field that is listed begins where it is listed.
pub placed_begins : (bytes : List ℕ) (f : Placed) → Memᴰ f (placed bytes) → BeginsAt bytes f.at
placed_begins bytes f m =
    let r = begins bytes 0 [] f m in
    let e : f.at ≡ r.0 = omega (arith, r.1) in
    subst (BeginsAt bytes) (sym e) (record { reached = r.2; all_there = r.3; one = f; listed = m; there = e; it = r.4 })

-- Before the first field there is none, and before each other the one that it follows and those before that.
pub first_before : (bytes : List ℕ) (f : Placed) (ys : List Placed) → placed bytes ≡ f ∷ ys → (f.at ≡ 0) × (f.before ≡ [])
unfolding placed_from
first_before bytes f ys e = first_in (complete bytes) e
  where
    first_in : (fs : List (List ℕ)) → placed_from 0 [] fs ≡ f ∷ ys → (f.at ≡ 0) × (f.before ≡ [])
    first_in [] e = let k : ◌≡◌ {A = ℕ} 0 1 = cc in absurd (omega arith)
    first_in (x ∷ fs) e = (cc, cc)

pub next_before : (bytes : List ℕ) (xs : List Placed) (g f : Placed) (ys : List Placed) → placed bytes ≡ xs ++ (g ∷ f ∷ ys)
    → f.before ≡ g.field.tag ∷ g.before
unfolding placed_from
next_before bytes xs g f ys e = next_in 0 [] (complete bytes) xs e
  where
    next_in : (at : ℕ) (before : List ℕ) (fs : List (List ℕ)) (xs : List Placed) → placed_from at before fs ≡ xs ++ (g ∷ f ∷ ys)
        → f.before ≡ g.field.tag ∷ g.before
    next_in at before [] [] e = let k : ◌≡◌ {A = ℕ} 0 1 = cc in absurd (omega arith)
    next_in at before [] (x ∷ xs) e = let k : ◌≡◌ {A = ℕ} 0 1 = cc in absurd (omega arith)
    next_in at before (a ∷ []) [] e = let k : ◌≡◌ {A = ℕ} 0 1 = cc in absurd (omega arith)
    next_in at before (a ∷ b ∷ fs) [] e =
        let p : record { at = at; before = before; field = as_field a } ≡ g = cc in
        let q : record { at = at + length a; before = (as_field a).tag ∷ before; field = as_field b } ≡ f = cc in
        ap (λ (x : Placed). x.before) (sym q) ∙ ap (λ (x : Placed). x.field.tag ∷ x.before) p
    next_in at before (a ∷ fs) (x ∷ xs) e = next_in (at + length a) ((as_field a).tag ∷ before) fs xs (cc)

lists : (l : List ℕ) (k : ℕ) → Reached l k → whole (drop k l) ≡ true → (at : ℕ) (before : List ℕ)
    → (f : Placed) × Memᴰ f (placed_from at before (complete l)) × (f.at ≡ at + k)
unfolding placed_from
lists _ _ (front {l}) w at before =
    let f : Placed = record { at = at; before = before; field = as_field (take (field_size l) l) } in (
      f,
      subst (λ (fs : List (List ℕ)). Memᴰ f (placed_from at before fs)) (sym (complete_first l w).0) (Memᴰ.head refl),
      omega arith,
    )
lists _ _ (behind {l} {k} v r) w at before =
    let f = take (field_size l) l in
    let there = subst (λ (x : List ℕ). whole x ≡ true) (sym (drop-drop k (field_size l) l)) w in
    let p = lists (past l) k r there (at + length f) ((as_field f).tag ∷ before) in (
      p.0,
      subst (λ (fs : List (List ℕ)). Memᴰ p.0 (placed_from at before fs)) (sym (complete_first l v).0) (Memᴰ.tail p.1),
      omega (arith, p.2, length-take-le (field_size l) l (whole_within l v).1),
    )

-- What is reached and opens with a complete field is listed.
pub reached_begins : (bytes : List ℕ) (o : ℕ) → Reached bytes o → whole (drop o bytes) ≡ true → BeginsAt bytes o
reached_begins bytes o r w = let p =
    lists bytes o r w 0 [] in subst (BeginsAt bytes) (p.2 ∙ omega arith) (placed_begins bytes p.0 p.1)

pub begins_within : (bytes : List ℕ) (o : ℕ) → BeginsAt bytes o → o < length bytes
begins_within bytes o b = let s = whole_within (drop o bytes) b.all_there in omega (arith, s.0, s.1, length-drop o bytes)

-- ---- offsets

-- a placed field is one of the fields
pub placed_field : (at : ℕ) (before : List ℕ) (fs : List (List ℕ)) {f : Placed}
    → Memᴰ f (placed_from at before fs) → Memᴰ f.field (map as_field fs)
unfolding placed_from
placed_field at before [] m = absurd (Memᴰ.not-nil m)
placed_field at before (x ∷ fs) (Memᴰ.head e) = Memᴰ.head (ap (λ (p : Placed). p.field) e)
placed_field at before (x ∷ fs) (Memᴰ.tail m) = Memᴰ.tail (placed_field (at + length x) ((as_field x).tag ∷ before) fs m)

not_so : (b : Bool) → (b ≡ true → ⊥) → b ≡ false
not_so true h = absurd (h refl)
not_so false h = refl

module _ (fault : Placed → Bool) where
  -- an offset is that of a field that has the fault
  pub offset_is : (fs : List Placed) (o : ℕ) → Memᴰ o (offsets fault fs) → (f : Placed) × Memᴰ f fs × (fault f ≡ true)
      × (o ≡ f.at)
  unfolding offsets
  offset_is fs o m = let r = mem_map (λ (f : Placed). f.at) _ m in let k = mem_keep fault fs r.1 in (r.0, k.0, k.1, r.2)

  pub offsets_exactly : (fs : List Placed) (o : ℕ) →
      Memᴰ o (offsets fault fs) ↔ ((f : Placed) × Memᴰ f fs × (fault f ≡ true) × (o ≡ f.at))
  unfolding offsets
  offsets_exactly fs o = (offset_is fs o, λ r. rw r.3 (map_mem (λ (f : Placed). f.at) _ (keep_mem fault fs r.1 r.2)))

  -- there is none exactly if no field has the fault
  pub none_exactly : (fs : List Placed) → (offsets fault fs ≡ []) ↔ ((f : Placed) → Memᴰ f fs → fault f ≡ false)
  none_exactly fs = (
    λ e f m. not_so (fault f) (λ h. Memᴰ.not-nil
        (subst (λ (l : List ℕ). Memᴰ f.at l) e ((offsets_exactly fs f.at).1 (f, m, h, refl)))),
    λ h. unfold offsets in ap (map (λ f. f.at)) (keep_none fault fs (none_count fault fs (none_any fault fs h))),
  )

  pub offset_begins : (bytes : List ℕ) (o : ℕ) → Memᴰ o (offsets fault (placed bytes)) → BeginsAt bytes o
  offset_begins bytes o m = let r = offset_is (placed bytes) o m in subst (BeginsAt bytes) (sym r.3) (placed_begins bytes r.0 r.1)

  pub offset_below : (bytes : List ℕ) (o : ℕ) → Memᴰ o (offsets fault (placed bytes)) → o < length bytes
  offset_below bytes o m = begins_within bytes o (offset_begins bytes o m)

-- the first number of a list is below none
unfoldable pub First : List ℕ → Type 0
First [] = Unit {0}
First (o ∷ more) = (x : ℕ) → Memᴰ x more → o ≤ x

placed_later : (at : ℕ) (before : List ℕ) (fs : List (List ℕ)) (f : Placed) → Memᴰ f (placed_from at before fs) → at ≤ f.at
unfolding placed_from
placed_later at before [] f m = absurd (Memᴰ.not-nil m)
placed_later at before (x ∷ fs) f (Memᴰ.head e) = omega (arith, ap (λ (p : Placed). p.at) e)
placed_later at before (x ∷ fs) f (Memᴰ.tail m) = omega (arith, placed_later (at + length x) ((as_field x).tag ∷ before) fs f m)

-- Offsets rise from field to field.
pub offsets_rise : (fault : Placed → Bool) (at : ℕ) (before : List ℕ) (fs : List (List ℕ)) →
    First (offsets fault (placed_from at before fs))
unfolding First offsets keep placed_from
offsets_rise fault at before [] = tt
offsets_rise fault at before (f ∷ fs) =
    let next = at + length f in
    let tags = (as_field f).tag ∷ before in
    by_if (λ (ps : List Placed). First (map (λ p. p.at) ps)) (fault (record { at = at; before = before; field = as_field f }))
    (λ _ x m. let r = offset_is fault (placed_from next tags fs) x m in omega (arith, r.3, placed_later next tags fs r.0 r.1))
    (λ _. offsets_rise fault next tags fs)

-- and the length comes behind them all
pub first_and_end : (n : ℕ) (b : Bool) (l : List ℕ) → First l → ((x : ℕ) → Memᴰ x l → x < n) → First (l ++ (if b then n ∷ [] else []))
unfolding First
first_and_end n true [] h k = λ x m. absurd (Memᴰ.not-nil m)
first_and_end n false [] h k = tt
first_and_end n true (o ∷ l) h k =
    λ x m. ⊎_elim (h x) (λ e. omega (arith, Memᴰ.eq_of_singleton e, k o (Memᴰ.head refl))) (Memᴰ.append_cases l m)
first_and_end n false (o ∷ l) h k =
    λ x m. ⊎_elim (h x) (λ e. absurd (Memᴰ.not-nil e)) (Memᴰ.append_cases l m)

pub first_is_earliest : (l : List ℕ) (o : ℕ) (more : List ℕ) → l ≡ o ∷ more → First l → Earliest o l
unfolding First
first_is_earliest l o more e h = subst (Earliest o) (sym e) (record { listed = Memᴰ.head refl; least = least })
  where
    rest : First (o ∷ more)
    rest = subst First e h

    least : (x : ℕ) → Memᴰ x (o ∷ more) → o ≤ x
    least x (Memᴰ.head k) = omega arith
    least x (Memᴰ.tail m) = rest x m
