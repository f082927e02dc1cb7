-- Cutting fields: what `opens` says by places, and the loop that reads a row of fields of one tag and one length.
use Rattle.std.proofs.lemmas.Option.{none-some, same_Some}
use Rattle.std.proofs.Common.{Bor, Option, None, Some, ◌==◌}
use Prim.Native.Nat.{ℕ, ◌+◌, ◌*◌, ◌-◌, ◌≤◌, ◌<◌}
use mathlib.Core.Path.{◌≡◌, refl, sym, ap, ◌∙◌}
use mathlib.Core.Bool.{Bool, true, false, true≢false}
use mathlib.Core.List.Memᴰ
use mathlib.Core.List.{List, [], ◌∷◌, ◌++◌, Memᴰ, append_assoc, append-nil}
use native.Mathlib.Omega.{arith}
use lib.Dec.{leb}
use lib.ListN.{length, take, drop, get_or, length-append, length-drop}
use lib.Seq.{length-take-le, take_at, drop_at, drop-drop, take_all, append_snoc}
use borrow.Author.Tests.{eq-eqb, leb-true, le-leb}
use Rattle.rules.specs.Lists.{each}
use Rattle.rules.specs.Dump.{field}
use Rattle.laws.proofs.Tests.{three, clash, ◌&◌}
use Rattle.laws.proofs.Bytes.{two_back}
use Rattle.loading.specs.Reading.{FieldAt, starts, opens, RowRead, NamesCounted, NamesRead}

-- ---- the head of a field

-- what opens has the tag in front, and is as long as it says
pub opens_room : (tag size : ℕ) (s : List ℕ) → opens tag size s ≡ true → (starts tag s ≡ true) × (size + 3 ≤ length s)
unfolding opens starts
opens_room tag size [] e = absurd (true≢false (sym e))
opens_room tag size (a ∷ []) e = absurd (true≢false (sym e))
opens_room tag size (a ∷ b ∷ []) e = absurd (true≢false (sym e))
opens_room tag size (a ∷ b ∷ c ∷ s) e =
    let h = three (a == tag) (b * 256 + c == size) (leb size (length s)) e in
    (h.0, omega (arith, leb-true size (length s) h.2))

-- a field that is written opens
pub field_opens : (tag : ℕ) (v rest : List ℕ) → length v < 256 → opens tag (length v) (field tag v ++ rest) ≡ true
unfolding opens
field_opens tag v rest h =
    let k : length v ≤ length (v ++ rest) = omega (arith, length-append v rest) in
    eq-eqb tag tag refl & eq-eqb _ _ (two_back (length v) (omega arith)) & le-leb _ _ k

-- the same of the slice from a place to the end
pub seen : (tag size : ℕ) (bytes : List ℕ) (at : ℕ) {b r : Bool} → b ≡ opens tag size (take (length bytes - at) (drop at bytes)) → b ≡ r
    → opens tag size (drop at bytes) ≡ r
seen tag size bytes at e f =
    let h : length (drop at bytes) ≤ length bytes - at = omega (arith, length-drop at bytes) in
    ap (opens tag size) (sym (take_all (length bytes - at) (drop at bytes) h)) ∙ sym e ∙ f

-- the field that opens at a place ends within the bytes
pub field_within : (tag size : ℕ) (bytes : List ℕ) (at : ℕ) → opens tag size (drop at bytes) ≡ true → at + (size + 3) ≤ length bytes
field_within tag size bytes at o = omega (arith, (opens_room tag size (drop at bytes) o).1, length-drop at bytes)

-- the value of a field, if one opens
module _ (tag size : ℕ) (bytes : List ℕ) (at : ℕ) where
  pub no_field : opens tag size (drop at bytes) ≡ false → FieldAt tag size bytes at None
  no_field o = record { shut = λ _. o; opened = λ v e. absurd (none-some _ e) }

  pub one_field : opens tag size (drop at bytes) ≡ true → (b : Bor (List ℕ)) (n : ℕ) → n ≡ size →
      b.now ≡ take (at + 3 + n - (at + 3)) (drop (at + 3) bytes) → FieldAt tag size bytes at (Some b)
  one_field o b n i e = record {
    shut = λ f. absurd (none-some _ (sym f));
    opened = λ v f.
        let k : at + 3 + n - (at + 3) ≡ size = omega (arith, i) in
        (o, ap (λ (c : Bor (List ℕ)). c.now) (sym (same_Some _ _ f)) ∙ e ∙ ap (λ (j : ℕ). take j (drop (at + 3) bytes)) k);
  }

module _ {tag size : ℕ} {bytes : List ℕ} {at : ℕ} {value : Option (Bor (List ℕ))} (F : FieldAt tag size bytes at value) where
  pub long_value : {v : Bor (List ℕ)} → value ≡ Some v → size ≤ length v.now
  long_value {v} e =
      let o = F.opened v e in
      omega (
        arith,
        ap length o.1,
        length-take-le size (drop (at + 3) bytes) (omega (arith, field_within tag size bytes at o.0, length-drop (at + 3) bytes)),
      )

  pub read_value : {A : Type 0} (back : List ℕ → A) {v : Bor (List ℕ)} {x : A} → value ≡ Some v → x ≡ back v.now →
      x ≡ back (take size (drop (at + 3) bytes))
  read_value back {v} e f = f ∙ ap back (F.opened v e).1

-- ---- a row of fields

-- Up to place `at` n fields were read: where the bytes are the fields of a row that is fine and something behind them, they gave the
-- first of it.
pub record Cut {A : Type 0} (most tag : ℕ) (value : A → List ℕ) (fine : List A → Type 0) (bytes : List ℕ) (from : ℕ) (row : List A)
    (n at : ℕ) : Type 0 where
  pub few : n ≤ most
  pub within : at ≤ length bytes
  pub so : (xs : List A) (rest : List ℕ) → length xs ≤ most → fine xs → starts tag rest ≡ false
      → drop from bytes ≡ each (λ x. field tag (value x)) xs ++ rest
      → (ys : List A) × (row ++ ys ≡ xs) × (length row ≡ n) × (drop at bytes ≡ each (λ x. field tag (value x)) ys ++ rest)

module _ {A : Type 0} (most tag size : ℕ) (value : A → List ℕ) (back : List ℕ → A) (fine : List A → Type 0)
    (sized : (x : A) → length (value x) ≡ size) (short : size < 256) (backs : (xs : List A) → fine xs → (x : A) → Memᴰ x xs →
    back (value x) ≡ x) where
  -- the first field of a row, and the others behind it
  first : (s : List ℕ) (y : A) (ys : List A) (rest : List ℕ) → s ≡ each (λ x. field tag (value x)) (y ∷ ys) ++ rest
      → s ≡ field tag (value y) ++ (each (λ x. field tag (value x)) ys ++ rest)
  unfolding each
  first s y ys rest e = e ∙ append_assoc (field tag (value y)) (each (λ x. field tag (value x)) ys) rest

  -- fields that do not open are none
  none_left : (s : List ℕ) (ys : List A) (rest : List ℕ) → opens tag size s ≡ false → s ≡ each (λ x. field tag (value x)) ys ++ rest →
      ys ≡ []
  none_left s [] rest o e = refl
  none_left s (y ∷ ys) rest o e =
      let behind = each (λ x. field tag (value x)) ys ++ rest in
      absurd (clash (field_opens tag (value y) behind (omega (arith, sized y)))
      (ap (λ (n : ℕ). opens tag n (field tag (value y) ++ behind)) (sized y) ∙ ap (opens tag size) (sym (first s y ys rest e)) ∙ o))

  -- reading the first field gives its element, and leaves the others
  one_read : (s : List ℕ) (y : A) (ys : List A) (rest : List ℕ) → s ≡ each (λ x. field tag (value x)) (y ∷ ys) ++ rest
      → (take size (drop 3 s) ≡ value y) × (drop size (drop 3 s) ≡ each (λ x. field tag (value x)) ys ++ rest)
  one_read s y ys rest e =
      let behind = each (λ x. field tag (value x)) ys ++ rest in
      let f : drop 3 s ≡ value y ++ behind = ap (drop 3) (first s y ys rest e) in
      (ap (take size) f ∙ take_at (value y) behind size (sized y), ap (drop size) f ∙ drop_at (value y) behind size (sized y))

  module _ (bytes : List ℕ) (from : ℕ) where
    pub cut_starts : (row : List A) → row ≡ [] → from ≤ length bytes → Cut most tag value fine bytes from row 0 from
    cut_starts row e k =
        record { few = omega arith; within = k; so = λ xs rest l f s g. (xs, ap (λ (r : List A). r ++ xs) e, ap length e, g) }

    -- what was read is the first of those that are left
    next_is : (row : List A) (at : ℕ) (x : A) (xs ys : List A) (rest : List ℕ) → opens tag size (drop at bytes) ≡ true
        → x ≡ back (take size (drop (at + 3) bytes)) → fine xs → starts tag rest ≡ false
        → row ++ ys ≡ xs → drop at bytes ≡ each (λ x. field tag (value x)) ys ++ rest
        → (zs : List A) × (row ++ x ∷ zs ≡ xs) × (drop (at + (size + 3)) bytes ≡ each (λ x. field tag (value x)) zs ++ rest)
    unfolding each
    next_is row at x xs [] rest o e f s p q = absurd (clash (opens_room tag size (drop at bytes) o).0 (ap (starts tag) q ∙ s))
    next_is row at x xs (y ∷ zs) rest o e f s p q =
        let r = one_read (drop at bytes) y zs rest q in
        let on : at + (size + 3) ≡ at + 3 + size = omega arith in
        let same : x ≡ y = e ∙ ap back (ap (take size) (sym (drop-drop 3 at bytes)) ∙ r.0)
        ∙ backs xs f y (rw (← p) (Memᴰ.append_right row (Memᴰ.head refl))) in (
          zs,
          ap (λ (z : A). row ++ z ∷ zs) same ∙ p,
          ap (λ (k : ℕ). drop k bytes) on ∙ sym (drop-drop size (at + 3) bytes) ∙ ap (drop size) (sym (drop-drop 3 at bytes)) ∙ r.1,
        )

    -- One more field was read. The row with its element is the row and then the element, where the fields are those of a row that is fine.
    pub cut_next : (row row' : List A) (n at : ℕ) (x : A) → Cut most tag value fine bytes from row n at → n < most →
        opens tag size (drop at bytes) ≡ true
        → x ≡ back (take size (drop (at + 3) bytes))
        → ((xs zs : List A) → fine xs → row ++ x ∷ zs ≡ xs → row' ≡ row ++ (x ∷ []))
        → Cut most tag value fine bytes from row' (n + 1) (at + (size + 3))
    cut_next row row' n at x C h o e grown = record {
      few = omega arith;
      within = field_within tag size bytes at o;
      so = λ xs rest l f s g.
          let r = C.so xs rest l f s g in
          let q = next_is row at x xs r.0 rest o e f s r.1 r.3 in
          let d : row' ≡ row ++ (x ∷ []) = grown xs q.0 f q.1 in (
            q.0,
            ap (λ (l : List A). l ++ q.0) d ∙ append_snoc row x q.0 ∙ q.1,
            omega (arith, ap length d, length-append row (x ∷ []), r.2),
            q.2,
          );
    }

    -- nothing of a row is left
    at_end : (row : List A) (at : ℕ) (ys xs : List A) (rest : List ℕ) → length ys ≡ 0 → row ++ ys ≡ xs
        → drop at bytes ≡ each (λ x. field tag (value x)) ys ++ rest → (row ≡ xs) × (drop at bytes ≡ rest)
    unfolding each
    at_end row at [] xs rest z p q = (sym (append-nil row) ∙ p, q)
    at_end row at (y ∷ ys) xs rest z p q = absurd (omega arith)

    -- no further field
    pub cut_ends : (row : List A) (n at : ℕ) → Cut most tag value fine bytes from row n at → opens tag size (drop at bytes) ≡ false
        → RowRead most tag value fine (drop from bytes) row (drop at bytes)
    cut_ends row n at C o = record {
      reads = λ xs rest l f s g. let r =
          C.so xs rest l f s g in at_end row at r.0 xs rest (ap length (none_left (drop at bytes) r.0 rest o r.3)) r.1 r.3;
    }

    -- no further room
    pub cut_full : (row : List A) (n at : ℕ) → Cut most tag value fine bytes from row n at → most ≤ n
        → RowRead most tag value fine (drop from bytes) row (drop at bytes)
    cut_full row n at C h = record {
      reads = λ xs rest l f s g.
          let r = C.so xs rest l f s g in
          at_end row at r.0 xs rest (omega (arith, ap length r.1, length-append row r.0, r.2)) r.1 r.3;
    }

    -- an element that no row has which is fine
    pub cut_stops : (row : List A) (n at : ℕ) (x : A) → Cut most tag value fine bytes from row n at → opens tag size (drop at bytes) ≡ true
        → x ≡ back (take size (drop (at + 3) bytes)) → ((xs : List A) → fine xs → Memᴰ x xs → ⊥)
        → RowRead most tag value fine (drop from bytes) row (drop at bytes)
    cut_stops row n at x C o e never = record {
      reads = λ xs rest l f s g.
          let r = C.so xs rest l f s g in
          let q = next_is row at x xs r.0 rest o e f s r.1 r.3 in
          absurd (never xs f (rw (← q.1) (Memᴰ.append_right row (Memᴰ.head refl))));
    }

-- ---- a field of names

module _ (tag : ℕ) (bytes : List ℕ) (from : ℕ) where
  -- bytes that start with no such field
  no_names : ((q rest : List ℕ) → length q ≤ 20 → drop from bytes ≡ field tag q ++ rest → ⊥) → NamesCounted tag bytes from None
  no_names never = record { whole = λ n e. absurd (none-some _ e); counts = λ q rest l e. absurd (never q rest l e) }

  -- the third byte tells how many, where the slice from the place on has one
  module _ (size : ℕ) (z : (d : ℕ) → size ≡ get_or (take (length bytes - from) (drop from bytes)) 2 d) where
    many : (q rest : List ℕ) → length q ≤ 20 → drop from bytes ≡ field tag q ++ rest → size ≡ length q
    many q rest l e =
        let k : length (drop from bytes) ≤ length bytes - from = omega (arith, length-drop from bytes) in
        z 0 ∙ ap (λ (s : List ℕ). get_or s 2 0) (take_all (length bytes - from) (drop from bytes) k ∙ e) ∙ omega arith

    pub names_many : 20 < size → NamesCounted tag bytes from None
    names_many h = no_names (λ q rest l e. omega (arith, many q rest l e))

    pub names_shut : opens tag size (drop from bytes) ≡ false → NamesCounted tag bytes from None
    names_shut o = no_names (λ q rest l e. clash (field_opens tag q rest (omega arith))
        (ap (λ (n : ℕ). opens tag n (field tag q ++ rest)) (sym (many q rest l e)) ∙ ap (opens tag size) (sym e) ∙ o))

    pub names_open : size ≤ 20 → opens tag size (drop from bytes) ≡ true → NamesCounted tag bytes from (Some size)
    names_open h o = record {
      whole = λ n e. (omega (arith, same_Some _ _ e), omega (arith, same_Some _ _ e, field_within tag size bytes from o));
      counts = λ q rest l e. ap Some (many q rest l e);
    }

  pub names_none : (names : List ℕ) → NamesCounted tag bytes from None → NamesRead tag bytes from None names
  names_none names C =
      record { within = λ n e. absurd (none-some _ e); reads = λ q rest l e. absurd (none-some _ (C.counts q rest l e)) }

  pub names_read : (n : ℕ) (names : List ℕ) → NamesCounted tag bytes from (Some n) → names ≡ take (from + 3 + n - (from + 3)) (drop (from + 3) bytes) →
      NamesRead tag bytes from (Some (from + 3 + n)) names
  names_read n names C k = record {
    within = λ p e. omega (arith, same_Some _ _ e, (C.whole n refl).1);
    reads = λ q rest l e.
        let long : length q ≡ n = sym (same_Some _ _ (C.counts q rest l e)) in
        let size : from + 3 + n - (from + 3) ≡ n = omega arith in
        let f : drop (from + 3) bytes ≡ q ++ rest = sym (drop-drop 3 from bytes) ∙ ap (drop 3) e in (
          from + 3 + n,
          refl,
          k ∙ ap (λ (j : ℕ). take j (drop (from + 3) bytes)) size ∙ ap (take n) f ∙ take_at q rest n long,
          sym (drop-drop n (from + 3) bytes) ∙ ap (drop n) f ∙ drop_at q rest n long,
        );
  }
