-- A number in decimal: how many digits it has, and its digits from the last to the first.
use Prim.Native.Nat.{ℕ, zero, suc, ◌+◌, ◌-◌, ◌*◌, ◌/◌, ◌%◌, ◌^◌, ◌≤◌, ◌<◌}
use mathlib.Core.Path.{◌≡◌, refl, sym, ap, ap₂, ◌∙◌}
use mathlib.Core.Logic.{◌⊎◌, inl, inr, ⊎_elim}
use mathlib.Core.Bool.{Bool, true, false}
use mathlib.Core.List.{List, [], ◌∷◌, ◌++◌, append_assoc}
use native.Mathlib.Omega.{arith}
use native.Mathlib.Nat.{pow-suc}
use lib.Dec.{ltb}
use lib.ListN.{length, drop, set, length-append, length-set}
use lib.Seq.{drop-cons, get_or-set_same, drop-set-lt}
use borrow.Author.Tests.{ltb-true, ltb-false, lt-ltb, le-ltb}
use Rattle.buffer.specs.Puts.{Puts}
use Rattle.buffer.proofs.Putting.{puts_none, one_more, said}
use Rattle.lines.specs.Text.{decimal_in, decimal}

-- a power of ten is some
pow_pos : (r : ℕ) → 0 < 10 ^ r
pow_pos zero = omega arith
pow_pos (suc r) = omega (arith, pow-suc 10 r, pow_pos r)

-- a number is below another, or not
less? : (a b : ℕ) → (a < b) ⊎ (b ≤ a)
less? a b = go (ltb a b) refl
  where
    go : (t : Bool) → ltb a b ≡ t → (a < b) ⊎ (b ≤ a)
    go true e = inl (ltb-true a b e)
    go false e = inr (ltb-false a b e)

-- ---- one digit, or more

pub one_digit : (f n : ℕ) → n < 10 → decimal_in (suc f) n ≡ (48 + n) ∷ []
unfolding decimal_in
one_digit f n h = rw (lt-ltb n 10 h)

pub more_digits : (f n : ℕ) → 10 ≤ n → decimal_in (suc f) n ≡ decimal_in f (n / 10) ++ ((48 + n % 10) ∷ [])
unfolding decimal_in
more_digits f n h = rw (le-ltb n 10 h)

pub few_digits : (f n : ℕ) → length (decimal_in f n) ≤ f
unfolding decimal_in
few_digits zero n = omega arith
few_digits (suc f) n =
    ⊎_elim
    (λ h. omega (arith, ap length (one_digit f n h)))
    (λ h. omega (arith, ap length (more_digits f n h), length-append (decimal_in f (n / 10)) ((48 + n % 10) ∷ []), few_digits f (n / 10)))
    (less? n 10)

-- ---- how many

-- between two powers of ten
pub digits_from : (f r n : ℕ) → r < f → 10 ^ r ≤ n → n < 10 * 10 ^ r → length (decimal_in f n) ≡ r + 1
digits_from zero r n h a b = absurd (omega arith)
digits_from (suc f) zero n h a b = ap length (one_digit f n (omega (arith, b)))
digits_from (suc f) (suc r) n h a b =
    let e = pow-suc 10 r in
    omega (
      arith,
      ap length (more_digits f n (omega (arith, e, pow_pos r))),
      length-append (decimal_in f (n / 10)) ((48 + n % 10) ∷ []),
      digits_from f r (n / 10) (omega arith) (omega (arith, e)) (omega (arith, e)),
    )

-- ---- put from the last

-- the last i digits of a number, with zeros in front
unfoldable pub last_digits : ℕ → ℕ → List ℕ
last_digits zero n = []
last_digits (suc i) n = last_digits i (n / 10) ++ ((48 + n % 10) ∷ [])

pub last_small : (n : ℕ) → n < 10 → last_digits 1 n ≡ (48 + n) ∷ []
unfolding last_digits
last_small n h = let e : n % 10 ≡ n = omega arith in ap (λ (d : ℕ). (48 + d) ∷ []) e

pub last_more : (k j n : ℕ) → j ≡ suc k → last_digits j n ≡ last_digits k (n / 10) ++ ((48 + n % 10) ∷ [])
unfolding last_digits
last_more k j n e = rw e

pub all_digits : (f n : ℕ) → decimal_in f n ≡ last_digits (length (decimal_in f n)) n
unfolding decimal_in last_digits
all_digits zero n = refl
all_digits (suc f) n = ⊎_elim small (large (decimal_in f (n / 10)) refl (all_digits f (n / 10))) (less? n 10)
  where
    small : n < 10 → decimal_in (suc f) n ≡ last_digits (length (decimal_in (suc f) n)) n
    small h = one_digit f n h ∙ (sym (last_small n h) ∙ ap (λ (k : ℕ). last_digits k n) (sym (ap length (one_digit f n h))))

    large : (l : List ℕ) → decimal_in f (n / 10) ≡ l → l ≡ last_digits (length l) (n / 10) → 10 ≤ n
        → decimal_in (suc f) n ≡ last_digits (length (decimal_in (suc f) n)) n
    large l a e h =
        let d : ℕ = 48 + n % 10 in
        let whole : decimal_in (suc f) n ≡ l ++ (d ∷ []) = more_digits f n h ∙ ap (λ (t : List ℕ). t ++ (d ∷ [])) a in
        let long : length (decimal_in (suc f) n) ≡ suc (length l) = omega (arith, ap length whole, length-append l ((48 + n % 10) ∷ [])) in
        whole ∙ (ap (λ (t : List ℕ). t ++ ((48 + n % 10) ∷ [])) e ∙ sym (last_more (length l) _ n long))

-- From the last digit to the first: those that are not put yet, then the buffer from i on, are the number and what is behind it.
pub record Putting (n k i rest : ℕ) (before after : List ℕ) : Type 0 where
  pub within : i ≤ k
  pub long : length after ≡ length before
  pub so : last_digits i rest ++ drop i after ≡ decimal n ++ drop k before

pub putting_first : (n k : ℕ) (before : List ℕ) → k ≡ length (decimal n) → Putting n k k n before before
putting_first n k before e =
    record {
      within = omega arith;
      long = refl;
      so = ap (λ (l : List ℕ). l ++ drop k before) (ap (λ (j : ℕ). last_digits j n) e ∙ sym (all_digits 20 n));
    }

-- the buffer from j on, once a digit is put there
put_at : (l : List ℕ) (j d : ℕ) → j < length l → drop j (set l j d) ≡ d ∷ drop (suc j) l
put_at l j d h =
    drop-cons (set l j d) j 0 (omega (arith, length-set l j d))
    ∙ ap₂ (λ (x : ℕ) (t : List ℕ). x ∷ t) (get_or-set_same l j d 0 h) (drop-set-lt (suc j) l j d (omega arith))

pub putting_next : (n k i rest : ℕ) (before after : List ℕ) → 0 < i → k ≤ length before → Putting n k i rest before after
    → Putting n k (i - 1) (rest / 10) before (set after (i - 1) (48 + rest % 10))
putting_next n k i rest before after h room p = go (i - 1) (omega arith)
  where
    go : (j : ℕ) → i ≡ suc j → Putting n k j (rest / 10) before (set after j (48 + rest % 10))
    go j e =
        let d : ℕ = 48 + rest % 10 in
        let front : List ℕ = last_digits j (rest / 10) in
        let put : drop j (set after j d) ≡ d ∷ drop i after =
        put_at after j d (omega (arith, p.within, p.long)) ∙ ap (λ (m : ℕ). d ∷ drop m after) (sym e) in
        record {
          within = omega (arith, p.within);
          long = length-set after j d ∙ p.long;
          so = ap (λ (l : List ℕ). front ++ l) put
              ∙ (sym (append_assoc front (d ∷ []) (drop i after))
              ∙ (ap (λ (l : List ℕ). l ++ drop i after) (sym (last_more j i rest e)) ∙ p.so));
        }

pub putting_all : (n k i rest : ℕ) (before after : List ℕ) → i ≤ 0 → k ≡ length (decimal n)
    → Putting n k i rest before after → Puts (decimal n) before after k
unfolding last_digits
putting_all n k zero rest before after h e p = record { counts = e; shows = p.so ∙ ap (λ (j : ℕ). decimal n ++ drop j before) e }
putting_all n k (suc i) rest before after h e p = absurd (omega arith)

-- a number of one digit
pub puts_digit : (n : ℕ) (before : List ℕ) → n < 10 → 0 < length before → Puts (decimal n) before (set before 0 (48 + n)) 1
puts_digit n before h room = said (one_more (puts_none before) (48 + n) room) (sym (one_digit 19 n h))
