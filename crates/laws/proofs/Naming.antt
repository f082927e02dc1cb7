-- The next name by a walk over the threads, which stand by rising name: where the walk stops, and how it comes round behind 253.
use Rattle.std.proofs.Common.{if◌then◌else◌}
use Prim.Native.Nat.{ℕ, zero, suc, ◌+◌, ◌-◌, ◌%◌, ◌≤◌, ◌<◌}
use mathlib.Core.Path.{◌≡◌, refl, sym, ap, ◌∙◌}
use mathlib.Core.Logic.{⊎_elim, ◌≢◌}
use mathlib.Core.Bool.{Bool, true, false, ◌||◌, false≢true}
use mathlib.Core.List.{List, [], ◌∷◌, Memᴰ}
use native.Mathlib.Nat.{mod-lt}
use native.Mathlib.Numerals.{add-one}
use native.Mathlib.Omega.{arith}
use lib.Dec.{ltb}
use lib.ListN.{length, drop, get_or, drop_of_length-le}
use lib.Seq.{drop-cons}
use borrow.Author.Tests.{eq-eqb, ne_eqb, ltb-true, ltb-false}
use Rattle.rules.specs.Lists.{any, chain}
use Rattle.rules.specs.Numbers.{names}
use Rattle.rules.specs.Tables.{Tables, named, live}
use Rattle.rules.specs.Requests.{free_name, next_name}
use Rattle.laws.specs.Words.{Thread}
use Rattle.laws.specs.Naming.{walked}
use Rattle.laws.specs.Types.{Rising}
use Rattle.laws.proofs.Tests.{same?, and_left, and_right, or_false}
use Rattle.laws.proofs.Tally.{none_any}
use Rattle.laws.proofs.Ordered.{chain_tail, up_below}
use Rattle.laws.proofs.Names.{name_fresh}

-- ---- one name after the other: the name given when k names may be tried yet, beginning with m

unfoldable from_name : ℕ → ℕ → Tables → ℕ
from_name zero m T = m
from_name (suc k) m T = if live m T then from_name k ((m + 1) % names) T else m

module _ (m : ℕ) (T : Tables) where
  tries_next : (k : ℕ) → live m T ≡ true → from_name (suc k) m T ≡ from_name k ((m + 1) % names) T
  unfolding from_name
  tries_next k e = rw e

  -- a name that nobody has is given, however many may be tried
  free_stays : (k : ℕ) → live m T ≡ false → from_name k m T ≡ m
  unfolding from_name
  free_stays zero e = refl
  free_stays (suc k) e = rw e

  untried : from_name zero m T ≡ m
  unfolding from_name
  untried = refl

-- the rules' search, by the name that it tries first
by_first : (k n : ℕ) (T : Tables) → from_name k ((n + 1) % names) T ≡ free_name k n T
unfolding from_name free_name
by_first zero n T = refl
by_first (suc k) n T = go (live c T) refl (by_first k c T)
  where
    c : ℕ
    c = (n + 1) % names

    go : (b : Bool) → live c T ≡ b → from_name k ((c + 1) % names) T ≡ free_name k c T → from_name (suc k) c T ≡ free_name (suc k) n T
    go true e later = tries_next c T k e ∙ later ∙ rw (e, free_name)
    go false e later = free_stays c T (suc k) e ∙ rw (e, free_name)

-- ---- the walk: each thread that has the name moves it on

-- the next one's name is higher
higher : (ts : List Thread) (i : ℕ) (d e : Thread) → Rising ts → suc i < length ts → (get_or ts i d).name < (get_or ts (suc i) e).name
unfolding chain
higher [] i d e r h = absurd (omega arith)
higher (t ∷ []) i d e r h = absurd (omega arith)
higher (t ∷ u ∷ ts) zero d e r h = ltb-true t.name u.name (and_left (ltb t.name u.name) _ r)
higher (t ∷ u ∷ ts) (suc i) d e r h = higher (u ∷ ts) i d e (and_right (ltb t.name u.name) _ r) (omega arith)

pub rising_next : (ts : List Thread) (i : ℕ) (d e : Thread) → Rising ts → i + 1 < length ts → (get_or ts i d).name < (get_or ts (i + 1) e).name
rising_next ts i d e r h = rw add-one (higher ts i d e r (omega arith))

module _ (c : ℕ) where
  -- nobody has it
  walked_none : (ts : List Thread) → any (named c) ts ≡ false → walked c ts ≡ c
  unfolding walked any
  walked_none [] e = refl
  walked_none (t ∷ ts) e = go (named c t) e (walked_none ts)
    where
      go : (b : Bool) → (b || any (named c) ts) ≡ false → (any (named c) ts ≡ false → walked c ts ≡ c) →
          walked (if b then (c + 1) % names else c) ts ≡ c
      go true e later = absurd (false≢true (sym e))
      go false e later = later e

  -- where the first of those that rise has a higher one
  none_above : (t : Thread) (ts : List Thread) → Rising (t ∷ ts) → c < t.name → any (named c) (t ∷ ts) ≡ false
  none_above t ts r h = none_any (named c) (t ∷ ts) (λ u i. ne_eqb c u.name (λ e. other u i e))
    where
      other : (u : Thread) → Memᴰ u (t ∷ ts) → c ≡ u.name → ⊥
      other u (Memᴰ.head i) e = omega (arith, ap (λ (x : Thread). x.name) i)
      other u (Memᴰ.tail i) e = omega (arith, up_below (λ x. x.name) t ts r u i)

  -- ---- at place i: who has the name moves it on, before a higher one it stops, and so it does behind the last

  pub walk_moves : (ts : List Thread) (i : ℕ) (d : Thread) → i < length ts → c ≡ (get_or ts i d).name →
      walked c (drop i ts) ≡ walked ((c + 1) % names) (drop (i + 1) ts)
  unfolding walked
  walk_moves ts i d h e =
      ap (walked c) (drop-cons ts i d h)
      ∙ ap (λ (b : Bool). walked (if b then (c + 1) % names else c) (drop (suc i) ts)) (eq-eqb c (get_or ts i d).name e)
      ∙ ap (λ (j : ℕ). walked ((c + 1) % names) (drop j ts)) (sym (add-one i))

  pub walk_stops : (ts : List Thread) (i : ℕ) (d : Thread) → Rising ts → i < length ts → c < (get_or ts i d).name → walked c (drop i ts) ≡ c
  walk_stops [] i d r h l = absurd (omega arith)
  walk_stops (t ∷ ts) zero d r h l = walked_none (t ∷ ts) (none_above t ts r l)
  walk_stops (t ∷ ts) (suc i) d r h l = walk_stops ts i d (chain_tail _ t ts r) (omega arith) l

  pub walk_ends : (ts : List Thread) (i : ℕ) → length ts ≤ i → walked c (drop i ts) ≡ c
  unfolding walked
  walk_ends ts i h = rw (drop_of_length-le ts h)

-- ---- what a walk finds

module _ (T : Tables) where
  -- from c on, the names of the tables are those of ts
  abbrev Left : ℕ → List Thread → Type 0
  Left c ts = (n : ℕ) → c ≤ n → live n T ≡ any (named n) ts

  left_tail : (c k : ℕ) (t : Thread) (ts : List Thread) → c ≤ k → t.name < k → Left c (t ∷ ts) → Left k ts
  unfolding any
  left_tail c k t ts a b l n h = l n (omega arith) ∙ ap (λ (x : Bool). x || any (named n) ts) (ne_eqb n t.name (λ e. omega arith))

  -- the first name from c on that nobody has, or 0 where 253 has been passed over
  walk_finds : (c : ℕ) (ts : List Thread) → c < names → Rising ts → Left c ts → walked c ts ≡ from_name (names - c) c T
  unfolding walked any
  walk_finds c [] h r l = let q : names - c ≡ suc (names - (c + 1)) = omega arith in
      rw q (sym (free_stays c T (suc (names - (c + 1))) (l c (omega arith))))
  walk_finds c (t ∷ ts) h r l =
      ⊎_elim
      (λ e. has e.0 e.1 (λ k. walk_finds (c + 1) ts k (chain_tail _ t ts r)
      (left_tail c (c + 1) t ts (omega arith) (omega (arith, e.0)) l)))
      (λ e. hasn't e.0 e.1 (λ k. walk_finds c ts h (chain_tail _ t ts r) (left_tail c c t ts (omega arith) k l)))
      (same? c t.name)
    where
      q : names - c ≡ suc (names - (c + 1))
      q = omega arith

      next : ℕ
      next = (c + 1) % names

      has : c ≡ t.name → named c t ≡ true → (c + 1 < names → walked (c + 1) ts ≡ from_name (names - (c + 1)) (c + 1) T) →
          walked (if named c t then next else c) ts ≡ from_name (names - c) c T
      has e f later =
          ap (λ (b : Bool). walked (if b then next else c) ts) f
          ∙ go (ltb (c + 1) names) refl
          ∙ sym (rw q (tries_next c T (names - (c + 1)) (l c (omega arith) ∙ rw f)))
        where
          go : (b : Bool) → ltb (c + 1) names ≡ b → walked next ts ≡ from_name (names - (c + 1)) next T
          go true k = let n : next ≡ c + 1 = omega (arith, ltb-true (c + 1) names k) in rw n (later (ltb-true (c + 1) names k))
          go false k = let n : next ≡ 0 = omega (arith, ltb-false (c + 1) names k) in
              let z : names - (c + 1) ≡ 0 = omega (arith, ltb-false (c + 1) names k) in
              rw (n, z) (walked_none 0 ts (or_false (named 0 t) (any (named 0) ts) (none_above 0 t ts r (omega arith))).1
              ∙ sym (untried 0 T))

      hasn't : c ≢ t.name → named c t ≡ false → (t.name < c → walked c ts ≡ from_name (names - c) c T) →
          walked (if named c t then next else c) ts ≡ from_name (names - c) c T
      hasn't e f later = ap (λ (b : Bool). walked (if b then next else c) ts) f ∙ go (ltb t.name c) refl
        where
          go : (b : Bool) → ltb t.name c ≡ b → walked c ts ≡ from_name (names - c) c T
          go true k = later (ltb-true t.name c k)
          go false k =
              let z = none_above c t ts r (omega (arith, ltb-false t.name c k)) in
              walked_none c ts (or_false (named c t) (any (named c) ts) z).1
              ∙ sym (rw q (free_stays c T (suc (names - (c + 1))) (l c (omega arith) ∙ z)))

  -- ---- coming round

  -- b tries behind a tries
  tries_on : (a b n : ℕ) → from_name (a + b) n T ≡ from_name b (from_name a n T) T
  tries_on zero b n = let q : 0 + b ≡ b = omega arith in rw (q, untried n T)
  tries_on (suc a) b n =
      let q : suc a + b ≡ suc (a + b) = omega arith in
      rw q (go (live n T) refl (tries_on a b ((n + 1) % names)))
    where
      go : (x : Bool) → live n T ≡ x → from_name (a + b) ((n + 1) % names) T ≡ from_name b (from_name a ((n + 1) % names) T) T →
          from_name (suc (a + b)) n T ≡ from_name b (from_name (suc a) n T) T
      go true e later = tries_next n T (a + b) e ∙ later ∙ sym (ap (λ (x : ℕ). from_name b x T) (tries_next n T a e))
      go false e later =
          free_stays n T (suc (a + b)) e ∙ sym (free_stays n T b e) ∙ sym (ap (λ (x : ℕ). from_name b x T) (free_stays n T (suc a) e))

  -- up to 253 a name is given that nobody has, or the walk came round to 0
  free_or_round : (k n : ℕ) → n + suc k ≡ names → from_name (suc k) n T ≢ 0 → live (from_name (suc k) n T) T ≡ false
  free_or_round zero n e h = go (live n T) refl
    where
      go : (b : Bool) → live n T ≡ b → live (from_name 1 n T) T ≡ false
      go true f = let z : (n + 1) % names ≡ 0 = omega arith in absurd (h (tries_next n T 0 f ∙ (untried ((n + 1) % names) T ∙ z)))
      go false f = rw (free_stays n T 1 f) f
  free_or_round (suc k) n e h = go (live n T) refl (free_or_round k (n + 1) (omega arith))
    where
      go : (b : Bool) → live n T ≡ b → (from_name (suc k) (n + 1) T ≢ 0 → live (from_name (suc k) (n + 1) T) T ≡ false) →
          live (from_name (suc (suc k)) n T) T ≡ false
      go true f later =
          let s : from_name (suc (suc k)) n T ≡ from_name (suc k) (n + 1) T
          = tries_next n T (suc k) f ∙ ap (λ (x : ℕ). from_name (suc k) x T) (omega arith) in
          rw s (later (rw s at h))
      go false f later = rw (free_stays n T (suc (suc k)) f) f

  -- ---- the next name

  -- a walk from the successor of n on gives what the rules' search gives if it may pass over every name up to 253
  pub walk_gives : Rising T.threads → (n : ℕ) → walked ((n + 1) % names) T.threads ≡ free_name (names - (n + 1) % names) n T
  walk_gives r n = walk_finds ((n + 1) % names) T.threads (mod-lt (n + 1) (omega arith)) r (λ m h. refl)
      ∙ by_first (names - (n + 1) % names) n T

  abbrev first : ℕ
  first = (T.last + 1) % names

  -- x: what is found behind the name given last, up to 253
  module _ (few : length T.threads < names) (x : ℕ) (e : x ≡ free_name (names - first) T.last T) where
    -- from x on, however many may be tried, the next name is found
    found_from : from_name names x T ≡ next_name T
    found_from =
        let n = length T.threads in
        let more = names - first + names - n in
        let q : n + more ≡ names - first + names = omega arith in
        let next : from_name n first T ≡ next_name T = by_first n T.last T in
        ap (λ (k : ℕ). from_name names k T) (e ∙ sym (by_first (names - first) T.last T))
        ∙ sym (tries_on (names - first) names first)
        ∙ ap (λ (k : ℕ). from_name k first T) (sym q)
        ∙ tries_on n more first
        ∙ free_stays (from_name n first T) T more (rw next (name_fresh T few))
        ∙ next

    pub next_above : x ≢ 0 → x ≡ next_name T
    next_above z =
        let q : names - first ≡ suc (names - (first + 1)) = omega arith in
        let f : x ≡ from_name (suc (names - (first + 1))) first T =
        e ∙ sym (by_first (names - first) T.last T) ∙ ap (λ (k : ℕ). from_name k first T) q in
        sym (free_stays x T names (rw f (free_or_round (names - (first + 1)) first (omega arith) (rw f at z)))) ∙ found_from

    -- behind 253 comes 0
    pub next_round : x ≡ 0 → free_name names (names - 1) T ≡ next_name T
    next_round z = sym (by_first names (names - 1) T) ∙ ap (λ (k : ℕ). from_name names k T) (sym z) ∙ found_from
