-- The entries of the memory, one after another, are its rows as far as they are counted.
use Rattle.std.proofs.Common.{◌≡◌, ℕ, zero, suc, ◌+◌, ◌*◌, ◌≤◌, List, ◌∷◌, take, drop, length, refl, sym, ap, ◌∙◌, arith}
use Rattle.std.proofs.Common.{◌-◌, []}
use Rattle.std.proofs.lemmas.List.{drop-drop, length-drop, take_all}
use lib.Seq.{get_or-drop}
use Rattle.words.specs.Saying.{word, byte}
use Rattle.memory.specs.Layout.{thread_place, message_place}
use Rattle.memory.specs.Memory.{row, rows_of, thread_of, message_of, ready_of, clock_of}
use Rattle.memory.specs.Records.{entries, thread_first, message_first, name_first}
use Rattle.memory.proofs.Rowing.{row_same}

drop_twice : (a b : ℕ) (m : List ℕ) → drop b (drop a m) ≡ drop (a + b) m
drop_twice a b m = drop-drop b a m

-- the part from a to the end
pub rest : (a : ℕ) (m : List ℕ) → take (length m - a) (drop a m) ≡ drop a m
rest a m = take_all (length m - a) (drop a m) (simp length-drop (omega arith))

module _ {A : Type 0} where
  pub entries_first : (f : List ℕ → A) (size n : ℕ) (w : List ℕ) → (n ≡ 0 → ⊥) → entries f size n w ≡ f w ∷ entries f size (n - 1) (drop size w)
  unfolding entries
  entries_first f size zero w h = absurd (h refl)
  entries_first f size (suc n) w h = ap (λ (k : ℕ). f w ∷ entries f size k (drop size w)) (omega arith)

  -- the first of so many, and the others
  pub entries_split : (f : List ℕ → A) (size n : ℕ) (w : List ℕ) {xs : List A} → entries f size n w ≡ xs → (n ≡ 0 → ⊥) →
      xs ≡ f w ∷ entries f size (n - 1) (take (length w - size) (drop size w))
  entries_split f size n w e h =
      sym e ∙ entries_first f size n w h ∙ ap (λ (v : List ℕ). f w ∷ entries f size (n - 1) v) (sym (rest size w))

  pub entries_none : (f : List ℕ → A) (size : ℕ) (w : List ℕ) → entries f size 0 w ≡ []
  unfolding entries
  entries_none f size w = refl

  -- entry i stands where g says
  entries_row : (f : List ℕ → A) (g : ℕ → ℕ) (size n i : ℕ) (m : List ℕ) → ((j : ℕ) → g (suc j) ≡ g j + size) →
      entries f size n (drop (g i) m) ≡ row (λ j. f (drop (g j) m)) i n
  unfolding entries row
  entries_row f g size zero i m s = refl
  entries_row f g size (suc n) i m s =
      ap (λ (l : List A). f (drop (g i) m) ∷ l)
      (ap (entries f size n) (drop_twice (g i) size m ∙ ap (λ (k : ℕ). drop k m) (sym (s i)))
      ∙ entries_row f g size n (suc i) m s)

  row_take : (f : ℕ → A) (i n l : ℕ) → n ≤ l → take n (row f i l) ≡ row f i n
  unfolding row
  row_take f i zero l h = refl
  row_take f i (suc n) zero h = absurd (omega arith)
  row_take f i (suc n) (suc l) h = ap (λ (x : List A). f i ∷ x) (row_take f (suc i) n l (omega arith))

module _ (m : List ℕ) (n : ℕ) where
  pub threads_walked : n ≤ word m 0 → entries thread_first 16 n (drop 176 m) ≡ take n (rows_of m).threads
  unfolding rows_of
  threads_walked h = entries_row thread_first thread_place 16 n 0 m (λ j. omega arith) ∙ sym (row_take (thread_of m) 0 n _ h)

  pub messages_walked : n ≤ word m 0 + word m 1 →
      entries message_first 4 n (drop (176 + word m 0 * 16) m) ≡ take n (rows_of m).messages
  unfolding rows_of
  messages_walked h =
      ap (λ (k : ℕ). entries message_first 4 n (drop k m)) (omega arith)
      ∙ entries_row message_first (message_place (word m 0)) 4 n 0 m (λ j. omega arith) ∙ sym (row_take (message_of m) 0 n _ h)

  names_walked : (at : ℕ) → entries (name_first at) 16 n (drop 176 m) ≡ row (λ i. byte (word m (thread_place i + at))) 0 n
  names_walked at =
      entries_row (name_first at) thread_place 16 n 0 m (λ j. omega arith)
      ∙ row_same _ _ 0 n (λ k h. ap byte (get_or-drop (thread_place k) m at 0))

  pub ready_walked : n ≤ word m 0 → entries (name_first 12) 16 n (drop 176 m) ≡ take n (rows_of m).ready
  unfolding rows_of
  ready_walked h = names_walked 12 ∙ sym (row_take (ready_of m) 0 n _ h)

  pub clock_walked : n ≤ word m 0 → entries (name_first 13) 16 n (drop 176 m) ≡ take n (rows_of m).clock
  unfolding rows_of
  clock_walked h = names_walked 13 ∙ sym (row_take (clock_of m) 0 n _ h)
