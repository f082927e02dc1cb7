-- Words in a dump: those that are right stand there as they are, the others as what they say.
use Rattle.std.proofs.Common.{if◌then◌else◌, ◌==◌}
use Prim.Native.Nat.{ℕ, zero, suc, ◌≤◌, ◌<◌}
use mathlib.Core.Path.{◌≡◌, refl, ap, ◌∙◌}
use mathlib.Core.Bool.{true, false, ◌&&◌, true≢false, false≢true}
use mathlib.Core.Logic.{⊎_elim, ◌≢◌}
use mathlib.Core.List.{List, [], ◌∷◌, ◌++◌}
use native.Mathlib.Omega.{arith}
use lib.ListN.{get_or}
use borrow.Author.Tests.{ne_eqb, ltb-true, ltb-false, le-ltb}
use Rattle.rules.specs.Lists.{four_bytes}
use Rattle.rules.specs.Numbers.{nobody, service}
use Rattle.rules.specs.Codes.{state_numbers, answer_numbers, manager_code, parent_code, trap_code}
use Rattle.rules.specs.Dump.{field, answer_value, thread_value}
use Rattle.laws.proofs.Tests.{same?}
use Rattle.words.specs.Saying.{word, byte, parent_in, manager_in, state_in, answer_in, thread_in}
use Rattle.dumping.specs.Shown.{state_value, state_right, answer_right, sender_number}

-- ---- a parent: "no name" and no name are both 255

pub parent_shown : (w : ℕ) → byte w ≡ parent_code (parent_in w)
parent_shown w =
    ⊎_elim
    (λ e. rw e.1 (ap byte e.0))
    (λ e. rw e.1)
    (same? w 256)

-- ---- a manager

pub gone_shown : (w : ℕ) → w ≡ 257 → service ≡ manager_code (manager_in w)
unfolding manager_code
gone_shown w e = rw e

pub manager_shown : (w : ℕ) → w ≢ 257 → byte w ≡ manager_code (manager_in w)
unfolding manager_code
manager_shown w n =
    ⊎_elim
    (λ e. rw e.1 (ap byte e.0))
    (λ e. rw (e.1, ne_eqb w 257 n))
    (same? w 256)

-- ---- a state and its detail

-- what holds of 0 to 5 and of all above holds of every number
by_six : (P : ℕ → Type 0) → P 0 → P 1 → P 2 → P 3 → P 4 → P 5 → ((s : ℕ) → 5 < s → P s) → (s : ℕ) → P s
by_six P p₀ p₁ p₂ p₃ p₄ p₅ p zero = p₀
by_six P p₀ p₁ p₂ p₃ p₄ p₅ p (suc zero) = p₁
by_six P p₀ p₁ p₂ p₃ p₄ p₅ p (suc (suc zero)) = p₂
by_six P p₀ p₁ p₂ p₃ p₄ p₅ p (suc (suc (suc zero))) = p₃
by_six P p₀ p₁ p₂ p₃ p₄ p₅ p (suc (suc (suc (suc zero)))) = p₄
by_six P p₀ p₁ p₂ p₃ p₄ p₅ p (suc (suc (suc (suc (suc zero))))) = p₅
by_six P p₀ p₁ p₂ p₃ p₄ p₅ p (suc (suc (suc (suc (suc (suc s)))))) = p _ (omega arith)

module _ (d : ℕ) where
  pub state_shown : (s : ℕ) → state_right s d ≡ true → byte s ∷ byte d ∷ [] ≡ state_value (state_in s d)
  unfolding state_right state_in state_numbers trap_code
  state_shown =
      by_six (λ s. state_right s d ≡ true → byte s ∷ byte d ∷ [] ≡ state_value (state_in s d))
      (λ h. ⊎_elim (λ k. rw k.0) (λ k. absurd (false≢true (rw k.1 at h))) (same? d 0))
      (λ h. ⊎_elim (λ k. rw k.0) (λ k. absurd (false≢true (rw k.1 at h))) (same? d 0))
      (λ h. ⊎_elim (λ k. rw k.0) (λ k. rw k.1) (same? d 256))
      (λ h. ⊎_elim (λ k. rw k.0) (λ k. absurd (false≢true (rw k.1 at h))) (same? d 0))
      (λ h. refl)
      (λ h. ⊎_elim
      (λ k. rw k.0)
      (λ k. let low : d < 3 = ltb-true d 3 (rw k.1 at h) in
      ⊎_elim (λ i. rw i.0) (λ i. ⊎_elim (λ j. rw j.0) (λ j. absurd (j.0 (omega (arith, k.0, i.0)))) (same? d 2)) (same? d 1))
      (same? d 0))
      (λ s far h. absurd (⊎_elim
      (λ k. false≢true (rw (k.1, le-ltb s 6 far) at h))
      (λ k. false≢true (rw (k.1, ne_eqb s 5 (λ e. omega arith), ne_eqb s 2 (λ e. omega arith), ne_eqb s 4 (λ e. omega arith)) at h))
      (same? d 0)))

  pub state_else : (s : ℕ) → state_right s d ≡ false → 4 ∷ nobody ∷ [] ≡ state_value (state_in s d)
  unfolding state_right state_in state_numbers trap_code
  state_else =
      by_six (λ s. state_right s d ≡ false → 4 ∷ nobody ∷ [] ≡ state_value (state_in s d))
      (λ h. ⊎_elim (λ k. absurd (true≢false (rw k.0 at h))) (λ k. rw k.1) (same? d 0))
      (λ h. ⊎_elim (λ k. absurd (true≢false (rw k.0 at h))) (λ k. rw k.1) (same? d 0))
      (λ h. ⊎_elim (λ k. absurd (true≢false (rw k.0 at h))) (λ k. absurd (true≢false (rw k.1 at h))) (same? d 0))
      (λ h. ⊎_elim (λ k. absurd (true≢false (rw k.0 at h))) (λ k. rw k.1) (same? d 0))
      (λ h. ⊎_elim (λ k. absurd (true≢false (rw k.0 at h))) (λ k. absurd (true≢false (rw k.1 at h))) (same? d 0))
      (λ h. ⊎_elim
      (λ k. absurd (true≢false (rw k.0 at h)))
      (λ k. let high : 3 ≤ d = ltb-false d 3 (rw k.1 at h) in rw (k.1, ne_eqb d 1 (λ e. omega arith), ne_eqb d 2 (λ e. omega arith)))
      (same? d 0))
      (λ s far h. rw (
        ne_eqb s 0 (λ e. omega arith),
        ne_eqb s 1 (λ e. omega arith),
        ne_eqb s 2 (λ e. omega arith),
        ne_eqb s 3 (λ e. omega arith),
        ne_eqb s 4 (λ e. omega arith),
        ne_eqb s 5 (λ e. omega arith),
      ))

-- ---- an answer

module _ (n w : ℕ) where
  -- kinds 0 to 4 and all above
  by_five : (P : ℕ → Type 0) → P 0 → P 1 → P 2 → P 3 → P 4 → ((k : ℕ) → 4 < k → P k) → (k : ℕ) → P k
  by_five P p₀ p₁ p₂ p₃ p₄ p = by_six P p₀ p₁ p₂ p₃ p₄ (p 5 (omega arith)) (λ k h. p k (omega arith))

  -- sender and word, each 0 or not
  by_two : (P : Type 0) → (n ≡ 0 → w ≡ 0 → P) → (n ≡ 0 → w ≢ 0 → P) → (n ≢ 0 → w ≡ 0 → P) → (n ≢ 0 → w ≢ 0 → P) → P
  by_two P a b c e =
      ⊎_elim
      (λ i. ⊎_elim (λ j. a i.0 j.0) (λ j. b i.0 j.0) (same? w 0))
      (λ i. ⊎_elim (λ j. c i.0 j.0) (λ j. e i.0 j.0) (same? w 0))
      (same? n 0)

  pub answer_shown : (k : ℕ) → answer_right k n w ≡ true → byte k ∷ sender_number k n ∷ four_bytes w ≡ answer_value (answer_in k n w)
  unfolding answer_right sender_number answer_in answer_numbers
  answer_shown =
      by_five (λ k. answer_right k n w ≡ true → byte k ∷ sender_number k n ∷ four_bytes w ≡ answer_value (answer_in k n w))
      (λ h. by_two _
      (λ i j. rw (i, j))
      (λ i j. absurd (false≢true (rw (i, ne_eqb w 0 j) at h)))
      (λ i j. absurd (false≢true (rw (ne_eqb n 0 i) at h)))
      (λ i j. absurd (false≢true (rw (ne_eqb n 0 i) at h))))
      (λ h. refl)
      (λ h. refl)
      (λ h. by_two _
      (λ i j. rw j)
      (λ i j. absurd (false≢true (rw (i, ne_eqb w 0 j) at h)))
      (λ i j. rw j)
      (λ i j. absurd (false≢true (rw (ne_eqb n 0 i, ne_eqb w 0 j) at h))))
      (λ h. by_two _
      (λ i j. rw i)
      (λ i j. rw i)
      (λ i j. absurd (false≢true (rw (ne_eqb n 0 i) at h)))
      (λ i j. absurd (false≢true (rw (ne_eqb n 0 i) at h))))
      (λ k far h. absurd (by_two _
      (λ i j. false≢true (rw (i, j, le-ltb k 5 far) at h))
      (λ i j. false≢true (rw (
        i,
        ne_eqb w 0 j,
        ne_eqb k 3 (λ e. omega arith),
        ne_eqb k 4 (λ e. omega arith),
        ne_eqb k 1 (λ e. omega arith),
        ne_eqb k 2 (λ e. omega arith),
      ) at h))
      (λ i j. false≢true (rw (
        ne_eqb n 0 i,
        ne_eqb k 3 (λ e. omega arith),
        ne_eqb k 4 (λ e. omega arith),
        ne_eqb k 1 (λ e. omega arith),
        ne_eqb k 2 (λ e. omega arith),
      ) at h))
      (λ i j. false≢true (rw (
        ne_eqb n 0 i,
        ne_eqb k 3 (λ e. omega arith),
        ne_eqb k 4 (λ e. omega arith),
        ne_eqb k 1 (λ e. omega arith),
        ne_eqb k 2 (λ e. omega arith),
      ) at h))))

  pub answer_else : (k : ℕ) → answer_right k n w ≡ false → 1 ∷ nobody ∷ four_bytes 0 ≡ answer_value (answer_in k n w)
  unfolding answer_right answer_in answer_numbers
  answer_else =
      by_five (λ k. answer_right k n w ≡ false → 1 ∷ nobody ∷ four_bytes 0 ≡ answer_value (answer_in k n w))
      (λ h. by_two _
      (λ i j. absurd (true≢false (rw (i, j) at h)))
      (λ i j. rw (i, ne_eqb w 0 j))
      (λ i j. rw (ne_eqb n 0 i))
      (λ i j. rw (ne_eqb n 0 i)))
      (λ h. absurd (always h))
      (λ h. absurd (always h))
      (λ h. by_two _
      (λ i j. absurd (true≢false (rw (i, j) at h)))
      (λ i j. rw (ne_eqb w 0 j))
      (λ i j. absurd (true≢false (rw (ne_eqb n 0 i, j) at h)))
      (λ i j. rw (ne_eqb w 0 j)))
      (λ h. by_two _
      (λ i j. absurd (true≢false (rw (i, j) at h)))
      (λ i j. absurd (true≢false (rw (i, ne_eqb w 0 j) at h)))
      (λ i j. rw (ne_eqb n 0 i))
      (λ i j. rw (ne_eqb n 0 i)))
      (λ k far h. rw (
        ne_eqb k 0 (λ e. omega arith),
        ne_eqb k 1 (λ e. omega arith),
        ne_eqb k 2 (λ e. omega arith),
        ne_eqb k 3 (λ e. omega arith),
        ne_eqb k 4 (λ e. omega arith),
      ))
    where
      always : (if (n == 0) && (w == 0) then true else true) ≡ false → ⊥
      always h = by_two ⊥
          (λ i j. true≢false (rw (i, j) at h))
          (λ i j. true≢false (rw (i, ne_eqb w 0 j) at h))
          (λ i j. true≢false (rw (ne_eqb n 0 i) at h))
          (λ i j. true≢false (rw (ne_eqb n 0 i) at h))

-- ---- field 2

pub thread_bytes : (w : List ℕ) {n u p q r : ℕ} {st : List ℕ} → n ≡ byte (word w 0) → u ≡ byte (word w 1) →
    st ≡ state_value (state_in (word w 2) (word w 3)) → p ≡ manager_code (manager_in (word w 4)) →
    q ≡ manager_code (manager_in (word w 5)) → r ≡ manager_code (manager_in (word w 6)) →
    (2 ∷ 0 ∷ 17 ∷ n ∷ u ∷ get_or st 0 0 ∷ get_or st 1 0 ∷ p ∷ q ∷ r
    ∷ (four_bytes (word w 7) ++ answer_value (answer_in (word w 8) (word w 9) (word w 10)))) ≡ field 2 (thread_value (thread_in w))
unfolding thread_value thread_in
thread_bytes w a b s x y z =
    let u = b ∙ parent_shown (word w 1) in
    λ i. 2 ∷ 0 ∷ 17 ∷ a i ∷ u i ∷ get_or (s i) 0 0 ∷ get_or (s i) 1 0 ∷ x i ∷ y i ∷ z i
    ∷ (four_bytes (word w 7) ++ answer_value (answer_in (word w 8) (word w 9) (word w 10)))
