-- Rows that a memory's records are read into, and what a store changes of them.
use Prim.Native.Nat.{ℕ, zero, suc, ◌+◌, ◌-◌, ◌≤◌, ◌<◌}
use mathlib.Core.Path.{◌≡◌, refl, sym, ap, ap₂, ◌∙◌}
use mathlib.Core.Logic.{◌≢◌}
use mathlib.Core.Bool.{Bool, true, false}
use mathlib.Core.List.{List, ◌∷◌, ◌++◌}
use native.Mathlib.Omega.{arith}
use lib.Dec.{ltb}
use lib.ListN.{length, get_or, take, drop, set, length-set, length-append, length-take, length-drop, get_or-append}
use lib.Seq.{ext_get_or, get_or-take, get_or-drop, get_or-set_other, get_or-append-add, length-take-le, drop_at, take_at}
use borrow.Author.Tests.{ltb-true, ltb-false}
use borrow.Rule.Slice.PartMut.{mid_of, put_mid, Post-is}
use Rattle.rules.specs.Lists.{each, from_on}
use Rattle.words.specs.Saying.{word}
use Rattle.memory.specs.Memory.{row, part}

module _ {A : Type 0} where
  pub length_row : (f : ℕ → A) (i n : ℕ) → length (row f i n) ≡ n
  unfolding row
  length_row f i zero = refl
  length_row f i (suc n) = ap suc (length_row f (suc i) n)

  row_from : (f : ℕ → A) (i n k : ℕ) (d : A) → k < n → get_or (row f i n) k d ≡ f (i + k)
  unfolding row
  row_from f i zero k d h = absurd (omega arith)
  row_from f i (suc n) zero d h = ap f (omega arith)
  row_from f i (suc n) (suc k) d h = row_from f (suc i) n k d (omega arith) ∙ ap f (omega arith)

  pub row_at : (f : ℕ → A) (n k : ℕ) (d : A) → k < n → get_or (row f 0 n) k d ≡ f k
  row_at f n k d h = row_from f 0 n k d h ∙ ap f (omega arith)

  pub row_same : (f g : ℕ → A) (i n : ℕ) → ((k : ℕ) → k < i + n → f k ≡ g k) → row f i n ≡ row g i n
  unfolding row
  row_same f g i zero h = refl
  row_same f g i (suc n) h = ap₂ ◌∷◌ (h i (omega arith)) (row_same f g (suc i) n (λ k l. h k (omega arith)))

  row_put : (f g : ℕ → A) (i n k at : ℕ) (v : A) → k < n → at ≡ i + k → g at ≡ v → ((j : ℕ) → i ≤ j → j < i + n → j ≢ at → g j ≡ f j) →
      row g i n ≡ set (row f i n) k v
  unfolding row
  row_put f g i zero k at v h e x o = absurd (omega arith)
  row_put f g i (suc n) zero at v h e x o =
      ap₂ ◌∷◌ (ap g (omega arith) ∙ x) (go (suc i) n (λ j a b. o j (omega arith) (omega arith) (λ z. omega arith)))
    where
      go : (i n : ℕ) → ((j : ℕ) → i ≤ j → j < i + n → g j ≡ f j) → row g i n ≡ row f i n
      go i zero q = refl
      go i (suc n) q = ap₂ ◌∷◌ (q i (omega arith) (omega arith)) (go (suc i) n (λ j a b. q j (omega arith) (omega arith)))
  row_put f g i (suc n) (suc k) at v h e x o =
      ap₂ ◌∷◌ (o i (omega arith) (omega arith) (λ z. omega arith))
      (row_put f g (suc i) n k at v (omega arith) (omega arith) x (λ j a b c. o j (omega arith) (omega arith) c))

  pub row_set : (f g : ℕ → A) (n k : ℕ) (v : A) → k < n → g k ≡ v → ((j : ℕ) → j < n → j ≢ k → g j ≡ f j) → row g 0 n ≡ set (row f 0 n) k v
  row_set f g n k v h x o = row_put f g 0 n k k v h (omega arith) x (λ j a b c. o j (omega arith) c)

pub each_same : {A : Type 0} (f g : ℕ → List A) (a n : ℕ) → ((k : ℕ) → a ≤ k → k < a + n → f k ≡ g k) →
    each f (from_on a n) ≡ each g (from_on a n)
unfolding each from_on
each_same f g a zero h = refl
each_same f g a (suc n) h = ap₂ ◌++◌ (h a (omega arith) (omega arith)) (each_same f g (suc a) n (λ k p q. h k (omega arith) (omega arith)))

-- ---- a memory of which only n words from a on are written
pub record Elsewhere (a n : ℕ) (m m' : List ℕ) : Type 0 where
  pub long : length m' ≡ length m
  pub same : (k : ℕ) → (a ≤ k → k < a + n → ⊥) → word m' k ≡ word m k

pub part_word : (m : List ℕ) (a n k : ℕ) → k < n → word (part m a n) k ≡ word m (a + k)
part_word m a n k h = get_or-take n (drop a m) k 0 h ∙ get_or-drop a m k 0

pub part_same : (m m' : List ℕ) (a n : ℕ) → length m' ≡ length m → ((k : ℕ) → k < n → word m' (a + k) ≡ word m (a + k)) →
    part m' a n ≡ part m a n
part_same m m' a n l h =
    let e : length (part m' a n) ≡ length (part m a n) = simp (length-take, length-drop, l) in
    ext_get_or 0 (part m' a n) (part m a n) e (λ k i.
    let j : k < n = omega (arith, simp (length-take, length-drop) at i) in
    part_word m' a n k j ∙ h k j ∙ sym (part_word m a n k j))

pub widen : {a n : ℕ} (b l : ℕ) {m m' : List ℕ} → Elsewhere a n m m' → b ≤ a → a + n ≤ b + l → Elsewhere b l m m'
widen b l E p q = record { long = E.long; same = λ k o. E.same k (λ x y. o (omega arith) (omega arith)) }

pub twice : {a n : ℕ} {m m' m'' : List ℕ} → Elsewhere a n m m' → Elsewhere a n m' m'' → Elsewhere a n m m''
twice E F = record { long = F.long ∙ E.long; same = λ k o. F.same k o ∙ E.same k o }

-- one word
pub stored : (m : List ℕ) (k v : ℕ) → Elsewhere k 1 m (set m k v)
stored m k v = record { long = length-set m k v; same = λ j h. get_or-set_other m k j v 0 (λ e. h (omega arith) (omega arith)) }

-- the words of a part that was lent
module _ (m : List ℕ) (a n : ℕ) (vs : List ℕ) (h : a + n ≤ length m) (l : length vs ≡ n) where
  abbrev pub back : List ℕ
  back = take a m ++ (vs ++ drop (a + n) m)

  front : length (take a m) ≡ a
  front = length-take-le a m (omega arith)

  beyond : (k : ℕ) → a + n ≤ k → word back k ≡ word m k
  beyond k past =
      let j : ℕ = k - (a + n) in
      ap (λ (x : ℕ). word back x) (omega (arith, front, l))
      ∙ get_or-append-add (take a m) (vs ++ drop (a + n) m) (length vs + j) 0
      ∙ get_or-append-add vs (drop (a + n) m) j 0
      ∙ get_or-drop (a + n) m j 0
      ∙ ap (λ (x : ℕ). word m x) (omega arith)

  apart : (k : ℕ) (b c : Bool) → ltb k a ≡ b → ltb k (a + n) ≡ c → (a ≤ k → k < a + n → ⊥) → word back k ≡ word m k
  apart k true c e f o =
      let i : k < a = ltb-true k a e in
      get_or-append (take a m) (vs ++ drop (a + n) m) 0 k (omega (arith, front)) ∙ get_or-take a m k 0 i
  apart k false true e f o = absurd (o (ltb-false k a e) (ltb-true k (a + n) f))
  apart k false false e f o = beyond k (ltb-false k (a + n) f)

  pub lent : Elsewhere a n m back
  lent = record { long = simp (length-append, length-drop) (omega (arith, front)); same = λ k. apart k (ltb k a) (ltb k (a + n)) refl refl }

  pub lent_part : part back a n ≡ vs
  lent_part = ap (take n) (drop_at (take a m) (vs ++ drop (a + n) m) a front) ∙ take_at vs (drop (a + n) m) n l

  -- as the part comes back
  pub put_back : put_mid a (a + n - a) m vs ≡ back
  put_back = ap (λ (z : List ℕ). take a m ++ (vs ++ z)) (Post-is a (a + n) m (omega arith))

-- so many words are lent
pub lent_size : (m : List ℕ) (a n : ℕ) (vs : List ℕ) → a + n ≤ length m → length vs ≡ length (mid_of a (a + n - a) m) → length vs ≡ n
lent_size m a n vs h e = e ∙ simp (length-take, length-drop) (omega arith)

pub lent_is : (m : List ℕ) (a n : ℕ) → mid_of a (a + n - a) m ≡ part m a n
lent_is m a n = let e : a + n - a ≡ n = omega arith in ap (λ (k : ℕ). take k (drop a m)) e
