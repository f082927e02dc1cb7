-- Where bytes are bad (document 02, CR 4). Reading accepts exactly the dumps of tables that meet the rules. Other bytes are refused with
-- 15 to 19: each exactly if its list of faults is the first that has one, at the earliest of them. The offset is that of a complete
-- field, or the length.
use Rattle.std.proofs.Common.{if◌then◌else◌}
use Prim.Native.Nat.{ℕ, ◌≤◌, ◌<◌}
use mathlib.Core.Path.{◌≡◌, refl, sym, ◌∙◌, subst}
use mathlib.Core.Logic.{◌↔◌, ◌≢◌, ◌⊎◌, ⊎_elim}
use mathlib.Core.Bool.{Bool, true, false, not}
use mathlib.Core.List.Memᴰ
use mathlib.Core.List.{List, [], ◌∷◌, ◌++◌, map, Memᴰ}
use native.Mathlib.Omega.{arith}
use lib.Dec.{ltb}
use lib.ListN.{length, take}
use borrow.Author.Tests.{ltb-false}
use Rattle.rules.specs.Lists.{any, has}
use Rattle.laws.specs.Words.{Limits}
use Rattle.rules.specs.Tables.{Tables}
use Rattle.rules.specs.Fields.{field_size, whole, complete, unread}
use Rattle.rules.specs.TableRules.{table_rules}
use Rattle.rules.specs.Dump.{dump}
use Rattle.rules.specs.Load.{Field, as_field, fields_of, Loaded, no_dump, loaded, load}
use Rattle.rules.specs.declared.Verdict.{Verdict}
use Rattle.rules.specs.Faults.{Placed, placed_from, placed, offsets, wrong_length, ends_badly, faults_15, faults_16, faults_17, faults_18}
use Rattle.rules.specs.Faults.{earliest, where_bad, verdict_on, verdict}
use Rattle.laws.specs.Offsets.{BeginsAt, Earliest}
use Rattle.laws.proofs.Tests.{or_false, not_false}
use Rattle.laws.proofs.Members.{has_member}
use Rattle.laws.proofs.Batch.{complete_none, complete_first}
use Rattle.laws.proofs.Dump.{load_is_dump, accepted_exactly_dumps}
use Rattle.laws.proofs.Offsets.{placed_begins, begins_within, offset_begins, offset_below, First, offsets_rise, first_and_end}
use Rattle.laws.proofs.Offsets.{first_is_earliest, none_exactly}
use Rattle.laws.proofs.FaultFree.{no_fault_in_a_dump}

-- ---- the lists rise

module _ (bytes : List ℕ) where
  first_15 : First (faults_15 bytes)
  unfolding faults_15
  first_15 = first_and_end (length bytes) (ends_badly bytes) _ (offsets_rise _ 0 [] (complete bytes)) (offset_below _ bytes)

  first_16 : First (faults_16 bytes)
  unfolding faults_16
  first_16 = offsets_rise _ 0 [] (complete bytes)

  first_17 : First (faults_17 bytes)
  unfolding faults_17
  first_17 = offsets_rise _ 0 [] (complete bytes)

  first_18 : First (faults_18 bytes)
  unfolding faults_18
  first_18 = offsets_rise _ 0 [] (complete bytes)

-- ---- "15 cut short, wrong length, or no field 1, 3 or 4"

some : {l : List ℕ} {o : ℕ} {more : List ℕ} → l ≡ o ∷ more → l ≢ []
some e z = let k : ◌≡◌ {A = ℕ} 0 1 = cc in omega arith

no_end : (l : List ℕ) (n : ℕ) (b : Bool) → l ++ (if b then n ∷ [] else []) ≡ [] → (l ≡ []) × (b ≡ false)
no_end [] n true e = absurd (some refl e)
no_end [] n false e = (refl, refl)
no_end (x ∷ l) n b e = absurd (some refl e)

empty : (l : List ℕ) → ltb 0 (length l) ≡ false → l ≡ []
empty [] h = refl
empty (x ∷ l) h = absurd (omega (arith, ltb-false 0 (length (x ∷ l)) h))

-- There is no fault of 15 exactly if nothing is left behind the complete fields, each is as long as its tag says, and fields 1, 3 and 4
-- stand.
pub free_of_15 : (bytes : List ℕ) → (faults_15 bytes ≡ []) ↔
    ((unread bytes ≡ []) × ((f : Placed) → Memᴰ f (placed bytes) → wrong_length f.field ≡ false)
    × ((n : ℕ) → Memᴰ n (1 ∷ 3 ∷ 4 ∷ []) → has n (map (λ f. f.tag) (fields_of bytes)) ≡ true))
unfolding faults_15 ends_badly any
free_of_15 bytes = (to, from)
  where
    tags : List ℕ
    tags = map (λ f. f.tag) (fields_of bytes)

    to : faults_15 bytes ≡ [] → (unread bytes ≡ []) × ((f : Placed) → Memᴰ f (placed bytes) → wrong_length f.field ≡ false)
        × ((n : ℕ) → Memᴰ n (1 ∷ 3 ∷ 4 ∷ []) → has n tags ≡ true)
    to e =
        let none = no_end (offsets (λ f. wrong_length f.field) (placed bytes)) (length bytes) (ends_badly bytes) e in
        let ends = or_false (ltb 0 (length (unread bytes))) _ none.1 in
        let one = or_false (not (has 1 tags)) _ ends.1 in
        let three = or_false (not (has 3 tags)) _ one.1 in
        let four = or_false (not (has 4 tags)) _ three.1 in (
          empty (unread bytes) ends.0,
          (none_exactly (λ f. wrong_length f.field) (placed bytes)).0 none.0,
          λ n m. among n m (not_false _ one.0) (not_false _ three.0) (not_false _ four.0),
        )
      where
        among : (n : ℕ) → Memᴰ n (1 ∷ 3 ∷ 4 ∷ []) → has 1 tags ≡ true → has 3 tags ≡ true → has 4 tags ≡ true → has n tags ≡ true
        among n (Memᴰ.head e) a b c = rw e a
        among n (Memᴰ.tail (Memᴰ.head e)) a b c = rw e b
        among n (Memᴰ.tail (Memᴰ.tail (Memᴰ.head e))) a b c = rw e c
        among n (Memᴰ.tail (Memᴰ.tail (Memᴰ.tail m))) a b c = absurd (Memᴰ.not-nil m)

    from : (unread bytes ≡ []) × ((f : Placed) → Memᴰ f (placed bytes) → wrong_length f.field ≡ false)
        × ((n : ℕ) → Memᴰ n (1 ∷ 3 ∷ 4 ∷ []) → has n tags ≡ true) → faults_15 bytes ≡ []
    from h =
        rw (
          (none_exactly (λ f. wrong_length f.field) (placed bytes)).1 h.1,
          h.0,
          h.2 1 (Memᴰ.head refl),
          h.2 3 (Memᴰ.tail (Memᴰ.head refl)),
          h.2 4 (Memᴰ.tail (Memᴰ.tail (Memᴰ.head refl))),
        )

-- ---- every offset is that of a field, or the length

module _ (bytes : List ℕ) where
  -- the fields of a wrong length
  abbrev long : List ℕ
  long = offsets (λ f. wrong_length f.field) (placed bytes)

  opens : whole bytes ≡ true → BeginsAt bytes 0
  unfolding placed_from
  opens w =
      let f : Placed = record { at = 0; before = []; field = as_field (take (field_size bytes) bytes) } in
      placed_begins bytes f (rw (complete_first bytes w).0 (Memᴰ.head refl))

  -- bytes that open with no complete field have no field 1
  opens_without_15 : faults_15 bytes ≡ [] → BeginsAt bytes 0
  unfolding fields_of
  opens_without_15 e = go (whole bytes) refl
    where
      head : Memᴰ 1 (map (λ (f : Field). f.tag) (fields_of bytes))
      head = has_member _ (((free_of_15 bytes).0 e).2 1 (Memᴰ.head refl))

      go : (b : Bool) → whole bytes ≡ b → BeginsAt bytes 0
      go true w = opens w
      go false w = absurd (Memᴰ.not-nil (rw (complete_none bytes w).0 at head))

  -- an offset that is right: not behind the end, and before it a field begins there
  abbrev Right : ℕ → Type 0
  Right o = (o ≤ length bytes) × (o < length bytes → BeginsAt bytes o)

  begins_right : (o : ℕ) → BeginsAt bytes o → Right o
  begins_right o b = (omega (arith, begins_within bytes o b), λ _. b)

  right_15 : (o : ℕ) (more : List ℕ) → faults_15 bytes ≡ o ∷ more → Right o
  unfolding faults_15
  right_15 o more e = ⊎_elim (λ m. begins_right o (offset_begins _ bytes o m)) (at_end (ends_badly bytes)) listed
    where
      at_end : (b : Bool) → Memᴰ o (if b then length bytes ∷ [] else []) → Right o
      at_end true m = let k = Memᴰ.eq_of_singleton m in (omega arith, λ h. absurd (omega arith))
      at_end false m = absurd (Memᴰ.not-nil m)

      listed : Memᴰ o long ⊎ Memᴰ o (if ends_badly bytes then length bytes ∷ [] else [])
      listed = Memᴰ.append_cases long (subst (λ (l : List ℕ). Memᴰ o l) (sym e) (Memᴰ.head refl))

  right_in : (fault : Placed → Bool) (l : List ℕ) → l ≡ offsets fault (placed bytes) → (o : ℕ) (more : List ℕ) → l ≡ o ∷ more → Right o
  right_in fault l k o more e = begins_right o (offset_begins fault bytes o (rw (sym k ∙ e) (Memᴰ.head refl)))

-- ---- by cause

by_earliest : (P : Verdict → Type 0) (n : ℕ) (l : List ℕ) {v : Verdict}
    → ((o : ℕ) (more : List ℕ) → l ≡ o ∷ more → P (record { refusal = n; offset = o })) → (l ≡ [] → P v) → P (earliest n l v)
unfolding earliest
by_earliest P n [] f g = g refl
by_earliest P n (o ∷ more) f g = f o more refl

module _ (L : Limits) (bytes : List ℕ) where
  -- the bytes are the dump of tables that meet the rules; they are that of none
  abbrev IsDump : Type 0
  IsDump = (T : Tables) × (table_rules L T ≡ true) × (dump T ≡ bytes)

  abbrev NoDump : Type 0
  NoDump = (T : Tables) → table_rules L T ≡ true → dump T ≢ bytes

  -- To show something of what reading answers: of a dump; of bytes with faults of a number and with none of a lower one; and of others.
  by_cause : (P : Verdict → Type 0)
      → (IsDump → P (record { refusal = 0; offset = 0 }))
      → ((o : ℕ) (more : List ℕ) → faults_15 bytes ≡ o ∷ more → P (record { refusal = 15; offset = o }))
      → ((o : ℕ) (more : List ℕ) → faults_16 bytes ≡ o ∷ more → faults_15 bytes ≡ [] → P (record { refusal = 16; offset = o }))
      → ((o : ℕ) (more : List ℕ) → faults_17 bytes ≡ o ∷ more → faults_15 bytes ≡ [] → faults_16 bytes ≡ [] →
      P (record { refusal = 17; offset = o }))
      → ((o : ℕ) (more : List ℕ) → faults_18 bytes ≡ o ∷ more → faults_15 bytes ≡ [] → faults_16 bytes ≡ [] → faults_17 bytes ≡ []
      → P (record { refusal = 18; offset = o }))
      → (NoDump → faults_15 bytes ≡ [] → faults_16 bytes ≡ [] → faults_17 bytes ≡ [] → faults_18 bytes ≡ [] →
      P (record { refusal = 19; offset = 0 }))
      → P (verdict L bytes)
  unfolding verdict verdict_on where_bad
  by_cause P is at_15 at_16 at_17 at_18 at_19 = go (load L bytes) refl
    where
      go : (x : Loaded) → load L bytes ≡ x → P (verdict_on bytes x)
      go (loaded T) e = let r = load_is_dump L bytes T e in is (T, r.0, r.1)
      go no_dump e =
          by_earliest P 15 (faults_15 bytes) at_15 (λ a.
          by_earliest P 16 (faults_16 bytes) (λ o more k. at_16 o more k a) (λ b.
          by_earliest P 17 (faults_17 bytes) (λ o more k. at_17 o more k a b) (λ c.
          by_earliest P 18 (faults_18 bytes) (λ o more k. at_18 o more k a b c) (λ d.
          at_19 ((accepted_exactly_dumps L bytes).0 e) a b c d))))

  clean : IsDump → (faults_15 bytes ≡ []) × (faults_16 bytes ≡ []) × (faults_17 bytes ≡ []) × (faults_18 bytes ≡ [])
  clean d = rw d.2 at (no_fault_in_a_dump L d.0 d.1)

  -- ---- accepted

  -- Reading accepts exactly the dumps of tables that meet the rules.
  pub accepted_exactly : ((verdict L bytes).refusal ≡ 0) ↔ ((T : Tables) × (table_rules L T ≡ true) × (dump T ≡ bytes))
  accepted_exactly = (
    by_cause (λ v. v.refusal ≡ 0 → IsDump) (λ d n. d) (λ o m e n. absurd (omega arith)) (λ o m e a n. absurd (omega arith))
        (λ o m e a b n. absurd (omega arith)) (λ o m e a b c n. absurd (omega arith)) (λ no a b c d n. absurd (omega arith)),
    λ h. by_cause (λ v. v.refusal ≡ 0) (λ d. refl) (λ o m e. absurd (some e (clean h).0)) (λ o m e a. absurd (some e (clean h).1))
        (λ o m e a b. absurd (some e (clean h).2)) (λ o m e a b c. absurd (some e (clean h).3))
        (λ no a b c d. absurd (no h.0 h.1 h.2)),
  )

  -- The offset is 0 then.
  pub accepted_offset : (verdict L bytes).refusal ≡ 0 → (verdict L bytes).offset ≡ 0
  accepted_offset = by_cause (λ v. v.refusal ≡ 0 → v.offset ≡ 0) (λ d n. refl) (λ o m e n. absurd (omega arith))
      (λ o m e a n. absurd (omega arith)) (λ o m e a b n. absurd (omega arith)) (λ o m e a b c n. absurd (omega arith))
      (λ no a b c d n. absurd (omega arith))

  -- ---- refused, by number

  -- No other number is given.
  pub refused_with_15_to_19 : (verdict L bytes).refusal ≢ 0 → (15 ≤ (verdict L bytes).refusal) × ((verdict L bytes).refusal ≤ 19)
  refused_with_15_to_19 = by_cause (λ v. v.refusal ≢ 0 → (15 ≤ v.refusal) × (v.refusal ≤ 19)) (λ d n. absurd (n refl))
      (λ o m e n. (omega arith, omega arith)) (λ o m e a n. (omega arith, omega arith)) (λ o m e a b n. (omega arith, omega arith))
      (λ o m e a b c n. (omega arith, omega arith)) (λ no a b c d n. (omega arith, omega arith))

  -- "Where several rules fail, the first in the list below counts": a number is given exactly if its list has a fault and no list before
  -- it has one.

  pub refused_15 : ((verdict L bytes).refusal ≡ 15) ↔ (faults_15 bytes ≢ [])
  refused_15 = (
    by_cause (λ v. v.refusal ≡ 15 → faults_15 bytes ≢ []) (λ d n. absurd (omega arith)) (λ o m e n. some e)
        (λ o m e a n. absurd (omega arith))
        (λ o m e a b n. absurd (omega arith)) (λ o m e a b c n. absurd (omega arith)) (λ no a b c d n. absurd (omega arith)),
    λ h. by_cause (λ v. v.refusal ≡ 15) (λ d. absurd (h (clean d).0)) (λ o m e. refl) (λ o m e a. absurd (h a))
        (λ o m e a b. absurd (h a))
        (λ o m e a b c. absurd (h a)) (λ no a b c d. absurd (h a)),
  )

  pub refused_16 : ((verdict L bytes).refusal ≡ 16) ↔ ((faults_15 bytes ≡ []) × (faults_16 bytes ≢ []))
  refused_16 = (
    by_cause (λ v. v.refusal ≡ 16 → (faults_15 bytes ≡ []) × (faults_16 bytes ≢ [])) (λ d n. absurd (omega arith))
        (λ o m e n. absurd (omega arith)) (λ o m e a n. (a, some e)) (λ o m e a b n. absurd (omega arith))
        (λ o m e a b c n. absurd (omega arith))
        (λ no a b c d n. absurd (omega arith)),
    λ h. by_cause (λ v. v.refusal ≡ 16) (λ d. absurd (h.1 (clean d).1)) (λ o m e. absurd (some e h.0)) (λ o m e a. refl)
        (λ o m e a b. absurd (h.1 b)) (λ o m e a b c. absurd (h.1 b)) (λ no a b c d. absurd (h.1 b)),
  )

  pub refused_17 : ((verdict L bytes).refusal ≡ 17) ↔ ((faults_15 bytes ≡ []) × (faults_16 bytes ≡ []) × (faults_17 bytes ≢ []))
  refused_17 = (
    by_cause (λ v. v.refusal ≡ 17 → (faults_15 bytes ≡ []) × (faults_16 bytes ≡ []) × (faults_17 bytes ≢ [])) (λ d n. absurd (omega arith))
        (λ o m e n. absurd (omega arith)) (λ o m e a n. absurd (omega arith)) (λ o m e a b n. (a, b, some e))
        (λ o m e a b c n. absurd (omega arith)) (λ no a b c d n. absurd (omega arith)),
    λ h. by_cause (λ v. v.refusal ≡ 17) (λ d. absurd (h.2 (clean d).2)) (λ o m e. absurd (some e h.0))
        (λ o m e a. absurd (some e h.1))
        (λ o m e a b. refl) (λ o m e a b c. absurd (h.2 c)) (λ no a b c d. absurd (h.2 c)),
  )

  pub refused_18 : ((verdict L bytes).refusal ≡ 18) ↔
      ((faults_15 bytes ≡ []) × (faults_16 bytes ≡ []) × (faults_17 bytes ≡ []) × (faults_18 bytes ≢ []))
  refused_18 = (
    by_cause (λ v. v.refusal ≡ 18 → (faults_15 bytes ≡ []) × (faults_16 bytes ≡ []) × (faults_17 bytes ≡ []) × (faults_18 bytes ≢ []))
        (λ d n. absurd (omega arith)) (λ o m e n. absurd (omega arith)) (λ o m e a n. absurd (omega arith))
        (λ o m e a b n. absurd (omega arith))
        (λ o m e a b c n. (a, b, c, some e)) (λ no a b c d n. absurd (omega arith)),
    λ h. by_cause (λ v. v.refusal ≡ 18) (λ d. absurd (h.3 (clean d).3)) (λ o m e. absurd (some e h.0))
        (λ o m e a. absurd (some e h.1))
        (λ o m e a b. absurd (some e h.2)) (λ o m e a b c. refl) (λ no a b c d. absurd (h.3 d)),
  )

  -- 19: "any other rule": no list has a fault, and still the bytes are no dump
  pub refused_19 : ((verdict L bytes).refusal ≡ 19) ↔
      ((faults_15 bytes ≡ []) × (faults_16 bytes ≡ []) × (faults_17 bytes ≡ []) × (faults_18 bytes ≡ [])
      × ((T : Tables) → table_rules L T ≡ true → dump T ≢ bytes))
  refused_19 = (
    by_cause (λ v. v.refusal ≡ 19 → (faults_15 bytes ≡ []) × (faults_16 bytes ≡ []) × (faults_17 bytes ≡ []) × (faults_18 bytes ≡ [])
        × NoDump)
        (λ d n. absurd (omega arith)) (λ o m e n. absurd (omega arith)) (λ o m e a n. absurd (omega arith))
        (λ o m e a b n. absurd (omega arith))
        (λ o m e a b c n. absurd (omega arith)) (λ no a b c d n. (a, b, c, d, no)),
    λ h. by_cause (λ v. v.refusal ≡ 19) (λ d. absurd (h.4 d.0 d.1 d.2)) (λ o m e. absurd (some e h.0))
        (λ o m e a. absurd (some e h.1)) (λ o m e a b. absurd (some e h.2)) (λ o m e a b c. absurd (some e h.3))
        (λ no a b c d. refl),
  )

  -- ---- the offset

  -- "and within it the earliest field"

  pub earliest_15 : (verdict L bytes).refusal ≡ 15 → Earliest (verdict L bytes).offset (faults_15 bytes)
  earliest_15 = by_cause (λ v. v.refusal ≡ 15 → Earliest v.offset (faults_15 bytes)) (λ d n. absurd (omega arith))
      (λ o m e n. first_is_earliest (faults_15 bytes) o m e (first_15 bytes)) (λ o m e a n. absurd (omega arith))
      (λ o m e a b n. absurd (omega arith)) (λ o m e a b c n. absurd (omega arith)) (λ no a b c d n. absurd (omega arith))

  pub earliest_16 : (verdict L bytes).refusal ≡ 16 → Earliest (verdict L bytes).offset (faults_16 bytes)
  earliest_16 = by_cause (λ v. v.refusal ≡ 16 → Earliest v.offset (faults_16 bytes)) (λ d n. absurd (omega arith))
      (λ o m e n. absurd (omega arith)) (λ o m e a n. first_is_earliest (faults_16 bytes) o m e (first_16 bytes))
      (λ o m e a b n. absurd (omega arith)) (λ o m e a b c n. absurd (omega arith)) (λ no a b c d n. absurd (omega arith))

  pub earliest_17 : (verdict L bytes).refusal ≡ 17 → Earliest (verdict L bytes).offset (faults_17 bytes)
  earliest_17 = by_cause (λ v. v.refusal ≡ 17 → Earliest v.offset (faults_17 bytes)) (λ d n. absurd (omega arith))
      (λ o m e n. absurd (omega arith)) (λ o m e a n. absurd (omega arith))
      (λ o m e a b n. first_is_earliest (faults_17 bytes) o m e (first_17 bytes)) (λ o m e a b c n. absurd (omega arith))
      (λ no a b c d n. absurd (omega arith))

  pub earliest_18 : (verdict L bytes).refusal ≡ 18 → Earliest (verdict L bytes).offset (faults_18 bytes)
  earliest_18 = by_cause (λ v. v.refusal ≡ 18 → Earliest v.offset (faults_18 bytes)) (λ d n. absurd (omega arith))
      (λ o m e n. absurd (omega arith)) (λ o m e a n. absurd (omega arith)) (λ o m e a b n. absurd (omega arith))
      (λ o m e a b c n. first_is_earliest (faults_18 bytes) o m e (first_18 bytes)) (λ no a b c d n. absurd (omega arith))

  -- "for 19 the offset is 0"
  pub offset_19 : (verdict L bytes).refusal ≡ 19 → (verdict L bytes).offset ≡ 0
  offset_19 = by_cause (λ v. v.refusal ≡ 19 → v.offset ≡ 0) (λ d n. absurd (omega arith)) (λ o m e n. absurd (omega arith))
      (λ o m e a n. absurd (omega arith)) (λ o m e a b n. absurd (omega arith)) (λ o m e a b c n. absurd (omega arith))
      (λ no a b c d n. refl)

  right_offset : Right bytes (verdict L bytes).offset
  unfolding faults_16 faults_17 faults_18
  right_offset =
      by_cause (λ v. Right bytes v.offset) (λ d. begins_right bytes 0 (opens_without_15 bytes (clean d).0))
      (λ o m e. right_15 bytes o m e)
      (λ o m e a. right_in bytes _ (faults_16 bytes) refl o m e) (λ o m e a b. right_in bytes _ (faults_17 bytes) refl o m e)
      (λ o m e a b c. right_in bytes _ (faults_18 bytes) refl o m e) (λ no a b c d. begins_right bytes 0 (opens_without_15 bytes a))

  -- The offset is not behind the end.
  pub offset_within : (verdict L bytes).offset ≤ length bytes
  offset_within = right_offset.0

  -- And before the end a complete field begins there.
  pub a_field_begins_there : (verdict L bytes).offset < length bytes → BeginsAt bytes (verdict L bytes).offset
  a_field_begins_there = right_offset.1
