-- The words of a memory are below the wrap by their type, and so are the counts and words that it shows.
use Rattle.std.proofs.Common.{◌==◌}
use Prim.Native.Nat.{ℕ, zero, suc, ◌+◌, ◌<◌}
use mathlib.Core.Path.{◌≡◌, refl, ap}
use mathlib.Core.Bool.{Bool, true, ◌&&◌}
use mathlib.Core.List.{List, [], ◌∷◌, ◌++◌}
use native.Mathlib.Omega.{arith}
use lib.Dec.{ltb}
use lib.ListN.{take}
use borrow.Author.Tests.{lt-ltb}
use Rattle.rules.specs.Lists.{all, each, from_on}
use Rattle.rules.specs.Numbers.{names, beat_ticks, devices, wrap}
use Rattle.rules.specs.TableRules.{state_in_range, ranges}
use Rattle.laws.specs.Words.{Thread, Message, Held}
use Rattle.laws.proofs.Tests.{and_left, and_right, and_true, by_if, ◌&◌}
use Rattle.words.specs.Saying.{word, thread_in, message_in, held_in}
use Rattle.memory.specs.Layout.{thread_place, message_place, held_place}
use Rattle.memory.specs.Rows.{view}
use Rattle.memory.specs.Memory.{row, rows_of, thread_of, message_of, held_of}
use Rattle.memory.proofs.Rowing.{part_word}

module _ {A : Type 0} (p : A → Bool) where
  pub all_row : (f : ℕ → A) (i n : ℕ) → ((k : ℕ) → p (f k) ≡ true) → all p (row f i n) ≡ true
  unfolding all row
  all_row f i zero h = refl
  all_row f i (suc n) h = h i & all_row f (suc i) n h

  pub all_take : (n : ℕ) (xs : List A) → all p xs ≡ true → all p (take n xs) ≡ true
  unfolding all
  all_take zero xs e = refl
  all_take (suc n) [] e = refl
  all_take (suc n) (x ∷ xs) e = and_left (p x) _ e & all_take n xs (and_right (p x) _ e)

  -- a test that all pass may be left out
  all_beside : (q : A → Bool) (xs : List A) → all p xs ≡ true → all q xs ≡ all (λ (x : A). p x && q x) xs
  unfolding all
  all_beside q [] e = refl
  all_beside q (x ∷ xs) e = rw (and_left (p x) _ e) (ap (λ (b : Bool). q x && b) (all_beside q xs (and_right (p x) _ e)))

  all_behind : (q : A → Bool) (xs : List A) → all p xs ≡ true → all q xs ≡ all (λ (x : A). q x && p x) xs
  unfolding all
  all_behind q [] e = refl
  all_behind q (x ∷ xs) e = rw (and_left (p x) _ e, and_true (q x)) (ap (λ (b : Bool). q x && b) (all_behind q xs (and_right (p x) _ e)))

  all_both : (xs ys : List A) → all p xs ≡ true → all p ys ≡ true → all p (xs ++ ys) ≡ true
  unfolding all
  all_both [] ys e f = f
  all_both (x ∷ xs) ys e f = and_left (p x) _ e & all_both xs ys (and_right (p x) _ e) f

  all_each : {B : Type 0} (f : B → List A) (ys : List B) → ((y : B) → all p (f y) ≡ true) → all p (each f ys) ≡ true
  unfolding all each
  all_each f [] h = refl
  all_each f (y ∷ ys) h = all_both (f y) (each f ys) (h y) (all_each f ys h)

-- whatever a device's first word says
held_word : (d f w : ℕ) → w < wrap → all (λ h. ltb h.word wrap) (held_in d f w) ≡ true
unfolding all held_in
held_word d f w l =
    by_if (λ (hs : List Held). all (λ h. ltb h.word wrap) hs ≡ true) (f == 0)
    (λ e. refl)
    (λ e. by_if (λ (hs : List Held). all (λ h. ltb h.word wrap) hs ≡ true) (f == 1) (λ k. rw (lt-ltb w wrap l))
    (λ k. rw (lt-ltb w wrap l)))

module _ (m : List ℕ) (low : (k : ℕ) → word m k < 4294967296) where
  ticks_low : (k : ℕ) → ltb (thread_of m k).ticks wrap ≡ true
  unfolding thread_in
  ticks_low k = lt-ltb (thread_of m k).ticks wrap (rw (part_word m (thread_place k) 11 7 (omega arith)) (low (thread_place k + 7)))

  word_low : (k : ℕ) → ltb (message_of m k).word wrap ≡ true
  unfolding message_in
  word_low k = lt-ltb (message_of m k).word wrap
      (rw (part_word m (message_place (word m 0) k) 3 2 (omega arith)) (low (message_place (word m 0) k + 2)))

  held_low : (k : ℕ) → all (λ h. ltb h.word wrap) (held_of m k) ≡ true
  held_low k = held_word k (word m (held_place k)) (word m (held_place k + 1)) (low (held_place k + 1))

  told : (a b c d e f g h : Bool) → c ≡ true → e ≡ true → g ≡ d → h ≡ f → (a && b && g && h) ≡ (a && b && c && d && e && f)
  told a b c d e f g h p q r s = rw (p, q, r, s, and_true (a && b), and_true (a && b && d)) refl

  -- words are in their range by their type: the name given last, the ticks since the beat, states and devices are left to test
  pub ranges_told : (ltb (rows_of m).last names && ltb (rows_of m).since beat_ticks
      && all (λ t. state_in_range t.state) (view (rows_of m)).threads && all (λ h. ltb h.device devices) (rows_of m).held)
      ≡ ranges (view (rows_of m))
  unfolding rows_of
  ranges_told =
      told (ltb (rows_of m).last names) (ltb (rows_of m).since beat_ticks) _ _ _ _ _ _ (lt-ltb (rows_of m).beats wrap (low 6))
      (all_take (λ (x : Message). ltb x.word wrap) (rows_of m).letters (rows_of m).messages (all_row _ (message_of m) 0 _ word_low))
      (all_beside (λ (t : Thread). ltb t.ticks wrap) (λ (t : Thread). state_in_range t.state) (view (rows_of m)).threads
      (all_take _ (rows_of m).count (rows_of m).threads (all_row _ (thread_of m) 0 _ ticks_low)))
      (all_behind (λ (h : Held). ltb h.word wrap) (λ (h : Held). ltb h.device devices) (rows_of m).held
      (all_each _ (held_of m) (from_on 0 devices) held_low))
