-- Held words, each at its device's place: F says of a device whether one is held, W which.
use Rattle.std.proofs.Common.{if◌then◌else◌, ◌==◌, Some, None}
use Prim.Native.Nat.{ℕ, zero, suc, ◌+◌, ◌≤◌, ◌<◌}
use mathlib.Core.Path.{◌≡◌, refl, sym, ap, ap₂, ◌∙◌}
use mathlib.Core.Logic.{◌≢◌, ⊎_elim}
use mathlib.Core.Bool.{Bool, true, false, not, ◌&&◌}
use mathlib.Core.List.{List, [], ◌∷◌, ◌++◌}
use native.Mathlib.Omega.{arith}
use lib.Dec.{ltb}
use lib.ListN.{length, set, length-set}
use lib.Seq.{get_or-set_same, get_or-set_other}
use borrow.Author.Tests.{eqb-true, eqb-false, eq-eqb, ne_eqb, lt-ltb, le-ltb}
use Rattle.rules.specs.Lists.{each, from_on, all, any, keep, insert}
use Rattle.rules.specs.Numbers.{devices, nobody}
use Rattle.rules.specs.Interrupt.{held_for, hold}
use Rattle.laws.specs.Words.{Held}
use Rattle.laws.proofs.Tests.{by_if, clash, same?, and_false}
use Rattle.words.specs.Saying.{word, held_in}
use Rattle.memory.specs.Layout.{held_place}
use Rattle.memory.specs.Rows.{word_for, held_word as held_word_of, put_held}
use Rattle.memory.specs.Memory.{held_of, rows_of}
use Rattle.memory.proofs.Rowing.{Elsewhere, each_same, stored, widen, twice}
use Rattle.memory.proofs.Changes.{held_stays, held_put}

-- by a device's first word
by_flag : (P : List Held → Type 0) (d f w : ℕ) → (f ≡ 0 → P []) → (f ≡ 1 → P (record { device = d; word = w } ∷ [])) →
    (1 < f → P (record { device = nobody; word = w } ∷ [])) → P (held_in d f w)
unfolding held_in
by_flag P d f w none one more =
    by_if P (f == 0) (λ e. none (eqb-true f 0 e)) (λ n.
    by_if P (f == 1) (λ e. one (eqb-true f 1 e)) (λ o.
    let z = eqb-false f 0 n in
    let y = eqb-false f 1 o in
    more (by_cases f z y)))
  where
    by_cases : (f : ℕ) → f ≢ 0 → f ≢ 1 → 1 < f
    by_cases zero z y = absurd (z refl)
    by_cases (suc zero) z y = absurd (y refl)
    by_cases (suc (suc f)) z y = omega arith

-- what is asked of a device is asked of its own words
pub any_keep : {A : Type 0} (p : A → Bool) (xs : List A) → any p (keep p xs) ≡ any p xs
unfolding any keep
any_keep p [] = refl
any_keep p (x ∷ xs) = by_if (λ ys. any p ys ≡ any p (x ∷ xs)) (p x) (λ e. rw e refl) (λ e. rw e (any_keep p xs))

pub word_keep : (d : ℕ) (xs : List Held) → word_for d (keep (held_for d) xs) ≡ word_for d xs
unfolding word_for keep
word_keep d [] = refl
word_keep d (x ∷ xs) = by_if (λ ys. word_for d ys ≡ word_for d (x ∷ xs)) (held_for d x) (λ e. rw e refl) (λ e. rw e (word_keep d xs))

abbrev other : ℕ → Held → Bool
other d h = not (held_for d h)

module _ (F W : ℕ → ℕ) where
  abbrev pub of : ℕ → List Held
  of d = held_in d (F d) (W d)

  abbrev pub helds : ℕ → ℕ → List Held
  helds a n = each of (from_on a n)

  -- every first word is 0 or 1
  abbrev pub Gentle : ℕ → ℕ → Type 0
  Gentle a n = (j : ℕ) → a ≤ j → j < a + n → F j ≤ 1

  none_behind : (d a n : ℕ) → d < a → d < nobody → keep (held_for d) (helds a n) ≡ []
  unfolding keep each from_on
  none_behind d a zero h l = refl
  none_behind d a (suc n) h l =
      by_flag (λ xs. keep (held_for d) (xs ++ helds (suc a) n) ≡ []) a (F a) (W a)
      (λ e. none_behind d (suc a) n (omega arith) l)
      (λ e. rw (ne_eqb a d (λ z. omega arith)) (none_behind d (suc a) n (omega arith) l))
      (λ e. rw (ne_eqb nobody d (λ z. omega arith)) (none_behind d (suc a) n (omega arith) l))

  pub own : (d a n : ℕ) → a ≤ d → d < a + n → d < nobody →
      keep (held_for d) (helds a n) ≡ (if F d == 1 then record { device = d; word = W d } ∷ [] else [])
  unfolding keep each from_on
  own d a zero h k l = absurd (omega arith)
  own d a (suc n) h k l =
      ⊎_elim
      (λ e. rw (← e.0) (by_flag (λ xs. keep (held_for a) (xs ++ helds (suc a) n) ≡ (if F a == 1 then record { device = a; word = W a }
      ∷ [] else [])) a (F a) (W a)
      (λ z. rw (ne_eqb (F a) 1 (λ y. omega arith)) (none_behind a (suc a) n (omega arith) (omega arith)))
      (λ z. rw (eq-eqb (F a) 1 z, eq-eqb a a refl, none_behind a (suc a) n (omega arith) (omega arith)) refl)
      (λ z. rw (ne_eqb (F a) 1 (λ y. omega arith), ne_eqb nobody a (λ y. omega arith))
      (none_behind a (suc a) n (omega arith) (omega arith)))))
      (λ e. by_flag (λ xs. keep (held_for d) (xs ++ helds (suc a) n) ≡ (if F d == 1 then record { device = d; word = W d } ∷ [] else [])) a
      (F a) (W a)
      (λ z. own d (suc a) n (omega (arith, e.0)) (omega arith) l)
      (λ z. rw e.1 (own d (suc a) n (omega (arith, e.0)) (omega arith) l))
      (λ z. rw (ne_eqb nobody d (λ y. omega arith)) (own d (suc a) n (omega (arith, e.0)) (omega arith) l)))
      (same? a d)

  pub is_held : (d : ℕ) → d < devices → any (held_for d) (helds 0 devices) ≡ (F d == 1)
  unfolding any
  is_held d h =
      sym (any_keep (held_for d) (helds 0 devices)) ∙ ap (any (held_for d)) (own d 0 devices (omega arith) (omega arith) (omega arith))
      ∙ by_if (λ xs. any (held_for d) xs ≡ (F d == 1)) (F d == 1) (λ e. rw (e, eq-eqb d d refl) refl) (λ e. sym e)

  pub held_word : (d : ℕ) → d < devices → word_for d (helds 0 devices) ≡ (if F d == 1 then W d else 0)
  unfolding word_for
  held_word d h =
      sym (word_keep d (helds 0 devices)) ∙ ap (word_for d) (own d 0 devices (omega arith) (omega arith) (omega arith))
      ∙ by_if (λ xs. word_for d xs ≡ (if F d == 1 then W d else 0)) (F d == 1) (λ e. rw (e, eq-eqb d d refl) refl) (λ e. rw e refl)

  pub held_found : (d : ℕ) → d < devices → F d ≡ 1 → held_word_of d (helds 0 devices) ≡ Some (W d)
  held_found d h e = rw (is_held d h, held_word d h, e) refl

  pub held_none : (d : ℕ) → d < devices → (F d ≡ 1 → ⊥) → held_word_of d (helds 0 devices) ≡ None
  held_none d h n = rw (is_held d h, ne_eqb (F d) 1 n) refl

  pub held_taken : (d : ℕ) → d < devices → any (held_for d) (helds 0 devices) ≡ true → word_for d (helds 0 devices) ≡ W d
  held_taken d h e = held_word d h ∙ ap (λ (b : Bool). if b then W d else 0) (sym (is_held d h) ∙ e)

  pub held_left : (d : ℕ) → d < devices → any (held_for d) (helds 0 devices) ≡ false → word_for d (helds 0 devices) ≡ 0
  held_left d h e = held_word d h ∙ ap (λ (b : Bool). if b then W d else 0) (sym (is_held d h) ∙ e)

  -- ---- first words that are 0 or 1

  pub gentle_told : (a n : ℕ) → a + n ≤ devices → Gentle a n → all (λ h. ltb h.device devices) (helds a n) ≡ true
  unfolding all each from_on
  gentle_told a zero h g = refl
  gentle_told a (suc n) h g =
      by_flag (λ xs. all (λ h. ltb h.device devices) (xs ++ helds (suc a) n) ≡ true) a (F a) (W a)
      (λ e. gentle_told (suc a) n (omega arith) (λ j p q. g j (omega arith) (omega arith)))
      (λ e. rw (lt-ltb a devices (omega arith)) (gentle_told (suc a) n (omega arith) (λ j p q. g j (omega arith) (omega arith))))
      (λ e. absurd (omega (arith, g a (omega arith) (omega arith))))

  pub untold : (a n d : ℕ) → a ≤ d → d < a + n → 1 < F d → all (λ h. ltb h.device devices) (helds a n) ≡ false
  unfolding all each from_on
  untold a zero d p q f = absurd (omega arith)
  untold a (suc n) d p q f =
      by_flag (λ xs. all (λ h. ltb h.device devices) (xs ++ helds (suc a) n) ≡ false) a (F a) (W a)
      (λ e. untold (suc a) n d (later (λ z. omega (arith, ap F z))) (omega arith) f)
      (λ e. ap (λ b. ltb a devices && b) (untold (suc a) n d (later (λ z. omega (arith, ap F z))) (omega arith) f)
      ∙ and_false (ltb a devices))
      (λ e. refl)
    where
      later : (a ≢ d) → suc a ≤ d
      later n = omega (arith, n)

  pub told_gentle : all (λ h. ltb h.device devices) (helds 0 devices) ≡ true → Gentle 0 devices
  told_gentle e j p q = by_not (F j) (λ f. clash e (untold 0 devices j p q f))
    where
      by_not : (f : ℕ) → (1 < f → ⊥) → f ≤ 1
      by_not zero n = omega arith
      by_not (suc zero) n = omega arith
      by_not (suc (suc f)) n = absurd (n (omega arith))

  pub none_held : (a n : ℕ) → ((j : ℕ) → a ≤ j → j < a + n → F j ≡ 0) → helds a n ≡ []
  unfolding each from_on held_in
  none_held a zero h = refl
  none_held a (suc n) h =
      rw (eq-eqb (F a) 0 (h a (omega arith) (omega arith))) (none_held (suc a) n (λ j p q. h j (omega arith) (omega arith)))

  -- ---- one device's words change: g says what is held afterwards

  kept_behind : (d a n : ℕ) → d < a → Gentle a n → keep (other d) (helds a n) ≡ helds a n
  unfolding keep each from_on
  kept_behind d a zero h g = refl
  kept_behind d a (suc n) h g =
      by_flag (λ xs. keep (other d) (xs ++ helds (suc a) n) ≡ xs ++ helds (suc a) n) a (F a) (W a)
      (λ e. kept_behind d (suc a) n (omega arith) (λ j p q. g j (omega arith) (omega arith)))
      (λ e. rw (ne_eqb a d (λ z. omega arith))
      (ap (λ (xs : List Held). record { device = a; word = W a } ∷ xs)
      (kept_behind d (suc a) n (omega arith) (λ j p q. g j (omega arith) (omega arith)))))
      (λ e. absurd (omega (arith, g a (omega arith) (omega arith))))

  first_behind : (x : Held) (d a n : ℕ) → d < a → Gentle a n → insert (λ h. ltb h.device d) x (helds a n) ≡ x ∷ helds a n
  unfolding insert each from_on
  first_behind x d a zero h g = refl
  first_behind x d a (suc n) h g =
      by_flag (λ xs. insert (λ h. ltb h.device d) x (xs ++ helds (suc a) n) ≡ x ∷ (xs ++ helds (suc a) n)) a (F a) (W a)
      (λ e. first_behind x d (suc a) n (omega arith) (λ j p q. g j (omega arith) (omega arith)))
      (λ e. rw (le-ltb a d (omega arith)) refl)
      (λ e. absurd (omega (arith, g a (omega arith) (omega arith))))

  module _ (g : ℕ → List Held) (d : ℕ) (same : (j : ℕ) → j ≢ d → g j ≡ of j) where
    pub cleared : g d ≡ [] → (a n : ℕ) → a ≤ d → d < a + n → Gentle a n → each g (from_on a n) ≡ keep (other d) (helds a n)
    unfolding keep each from_on
    cleared e a zero p q t = absurd (omega arith)
    cleared e a (suc n) p q t =
        ⊎_elim
        (λ y. ap₂ ◌++◌ (ap g y.0 ∙ e) (each_same g of (suc a) n (λ k r s. same k (λ z. omega (arith, y.0))))
        ∙ sym (by_flag (λ xs. keep (other d) (xs ++ helds (suc a) n) ≡ helds (suc a) n) a (F a) (W a)
        (λ z. kept_behind d (suc a) n (omega (arith, y.0)) (λ j r s. t j (omega arith) (omega arith)))
        (λ z. rw y.1 (kept_behind d (suc a) n (omega (arith, y.0)) (λ j r s. t j (omega arith) (omega arith))))
        (λ z. absurd (omega (arith, t a (omega arith) (omega arith))))))
        (λ y. ap₂ ◌++◌ (same a y.0) (cleared e (suc a) n (omega (arith, y.0)) (omega arith) (λ j r s. t j (omega arith) (omega arith)))
        ∙ by_flag (λ xs. xs ++ keep (other d) (helds (suc a) n) ≡ keep (other d) (xs ++ helds (suc a) n)) a (F a) (W a)
        (λ z. refl)
        (λ z. rw y.1 refl)
        (λ z. absurd (omega (arith, t a (omega arith) (omega arith)))))
        (same? a d)

    pub held_anew : (w : ℕ) → g d ≡ record { device = d; word = w } ∷ [] → (a n : ℕ) → a ≤ d → d < a + n → Gentle a n →
        each g (from_on a n) ≡ hold d w (helds a n)
    unfolding hold keep insert each from_on
    held_anew w e a zero p q t = absurd (omega arith)
    held_anew w e a (suc n) p q t =
        let x : Held = record { device = d; word = w } in
        let below : Held → Bool = λ h. ltb h.device d in
        ⊎_elim
        (λ y. ap₂ ◌++◌ (ap g y.0 ∙ e) (each_same g of (suc a) n (λ k r s. same k (λ z. omega (arith, y.0))))
        ∙ sym (by_flag (λ xs. insert below x (keep (other d) (xs ++ helds (suc a) n)) ≡ x ∷ helds (suc a) n) a (F a) (W a)
        (λ z. rw (kept_behind d (suc a) n (omega (arith, y.0)) (λ j r s. t j (omega arith) (omega arith)))
        (first_behind x d (suc a) n (omega (arith, y.0)) (λ j r s. t j (omega arith) (omega arith))))
        (λ z. rw (y.1, kept_behind d (suc a) n (omega (arith, y.0)) (λ j r s. t j (omega arith) (omega arith)))
        (first_behind x d (suc a) n (omega (arith, y.0)) (λ j r s. t j (omega arith) (omega arith))))
        (λ z. absurd (omega (arith, t a (omega arith) (omega arith))))))
        (λ y. ap₂ ◌++◌ (same a y.0)
        (held_anew w e (suc a) n (omega (arith, y.0)) (omega arith) (λ j r s. t j (omega arith) (omega arith)))
        ∙ by_flag (λ xs. xs ++ hold d w (helds (suc a) n) ≡ insert below x (keep (other d) (xs ++ helds (suc a) n))) a (F a) (W a)
        (λ z. refl)
        (λ z. rw (y.1, lt-ltb a d (omega (arith, y.0))) refl)
        (λ z. absurd (omega (arith, t a (omega arith) (omega arith)))))
        (same? a d)

-- ---- the words in the memory

abbrev pub flags : List ℕ → ℕ → ℕ
flags m = λ d. word m (held_place d)

abbrev pub inside : List ℕ → ℕ → ℕ
inside m = λ d. word m (held_place d + 1)

module _ (m : List ℕ) (d : ℕ) (h : d < devices) (room : 176 ≤ length m) (good : all (λ h. ltb h.device devices) (rows_of m).held ≡ true)
  where
    gentle : Gentle (flags m) (inside m) 0 devices
    unfolding rows_of
    gentle = told_gentle (flags m) (inside m) good

    pub hold_put : (w : ℕ) → rows_of (set (set m (held_place d) 1) (held_place d + 1) w) ≡ put_held (hold d w (rows_of m).held) (rows_of m)
    unfolding rows_of held_in
    hold_put w =
        let at : ℕ = held_place d in
        let m₁ : List ℕ = set m at 1 in
        let m₂ : List ℕ = set m₁ (at + 1) w in
        let l : length m₁ ≡ length m = length-set m at 1 in
        let E : Elsewhere at 2 m m₂ =
        twice (widen at 2 (stored m at 1) (omega arith) (omega arith)) (widen at 2 (stored m₁ (at + 1) w) (omega arith) (omega arith)) in
        held_put m m₂ _ (widen 16 96 E (omega arith) (omega arith))
        (held_anew (flags m) (inside m) (held_of m₂) d (λ j n. held_stays E (omega arith) j (λ k x p q. n (omega arith))) w
        (ap₂ (held_in d) (get_or-set_other m₁ (at + 1) at w 0 (λ z. omega arith) ∙ get_or-set_same m at 1 0 (omega arith))
        (get_or-set_same m₁ (at + 1) w 0 (omega arith)))
        0 devices (omega arith) (omega arith) gentle)

    pub clear_put : rows_of (set m (held_place d) 0) ≡ put_held (keep (λ h. not (held_for d h)) (rows_of m).held) (rows_of m)
    unfolding rows_of held_in
    clear_put =
        let at : ℕ = held_place d in
        let E : Elsewhere at 2 m (set m at 0) = widen at 2 (stored m at 0) (omega arith) (omega arith) in
        held_put m (set m at 0) _ (widen 16 96 E (omega arith) (omega arith))
        (cleared (flags m) (inside m) (held_of (set m at 0)) d (λ j n. held_stays E (omega arith) j (λ k x p q. n (omega arith)))
        (ap (λ (f : ℕ). held_in d f (word (set m at 0) (at + 1))) (get_or-set_same m at 0 0 (omega arith)))
        0 devices (omega arith) (omega arith) gentle)

-- the devices before d hold nothing, and all but the held words stands
pub record Emptied (d : ℕ) (m m' : List ℕ) : Type 0 where
  pub apart : Elsewhere 16 96 m m'
  pub empty : (k : ℕ) → k < d → word m' (held_place k) ≡ 0

pub none_emptied : (m : List ℕ) → Emptied 0 m m
none_emptied m = record { apart = record { long = refl; same = λ k o. refl }; empty = λ k h. absurd (omega arith) }

pub one_emptied : (d : ℕ) (m m' : List ℕ) → d < devices → 176 ≤ length m → Emptied d m m' → Emptied (d + 1) m (set m' (held_place d) 0)
one_emptied d m m' h room e =
    record {
      apart = twice e.apart (widen 16 96 (stored m' (held_place d) 0) (omega arith) (omega arith));
      empty = λ k l. ⊎_elim
          (λ s. rw s.0 (get_or-set_same m' (held_place d) 0 0 (omega (arith, e.apart.long))))
          (λ s. get_or-set_other m' (held_place d) (held_place k) 0 0 (λ z. s.0 (omega arith)) ∙ e.empty k (omega (arith, s.0)))
          (same? k d);
    }

pub all_emptied : (m m' : List ℕ) (d : ℕ) → devices ≤ d → Emptied d m m' → rows_of m' ≡ put_held [] (rows_of m)
unfolding rows_of
all_emptied m m' d h e = held_put m m' [] e.apart (none_held (flags m') (inside m') 0 devices (λ j p q. e.empty j (omega arith)))
