-- A head that is written anew.
use Prim.Native.Nat.{ℕ, ◌≤◌, ◌<◌}
use mathlib.Core.Path.{◌≡◌, refl, ap, ◌∙◌}
use mathlib.Core.List.{List, []}
use native.Mathlib.Omega.{arith}
use lib.ListN.{length, set, length-set}
use Rattle.laws.specs.Words.{NoRunner}
use Rattle.memory.specs.Rows.{Rows, Room, Roomy, view, nothing, put_held, put_runner}
use Rattle.memory.specs.Memory.{rows_of}
use Rattle.memory.proofs.Changes.{told, words, put_word, rows_told, after_store}

-- so many words, which are these
record Says (n : ℕ) (m : List ℕ) (w : ℕ → ℕ) : Type 0 where
  long : length m ≡ n
  words_are : words m ≡ w

more : (n : ℕ) (m : List ℕ) (w : ℕ → ℕ) (k v : ℕ) → k < n → Says n m w → Says n (set m k v) (put_word k v w)
more n m w k v h s =
    record { long = length-set m k v ∙ s.long; words_are = after_store m k v (omega (arith, s.long)) ∙ ap (put_word k v) s.words_are }

module _ (m : List ℕ) (t b : ℕ) (room : 16 ≤ length m) where
  abbrev pub anew : List ℕ
  anew = set (set (set (set (set (set (set (set (set m 0 t) 1 b) 2 0) 5 0) 6 0) 7 0) 8 0) 9 0) 10 0

  abbrev says : ℕ → ℕ
  says = put_word 10 0
      (put_word 9 0 (put_word 8 0 (put_word 7 0 (put_word 6 0 (put_word 5 0 (put_word 2 0 (put_word 1 b (put_word 0 t (words m)))))))))

  all_more : Says (length m) anew says
  all_more =
      let s₀ = more (length m) m (words m) 0 t (omega arith) (record { long = refl; words_are = refl }) in
      let s₁ = more (length m) _ _ 1 b (omega arith) s₀ in
      let s₂ = more (length m) _ _ 2 0 (omega arith) s₁ in
      let s₃ = more (length m) _ _ 5 0 (omega arith) s₂ in
      let s₄ = more (length m) _ _ 6 0 (omega arith) s₃ in
      let s₅ = more (length m) _ _ 7 0 (omega arith) s₄ in
      let s₆ = more (length m) _ _ 8 0 (omega arith) s₅ in
      let s₇ = more (length m) _ _ 9 0 (omega arith) s₆ in
      let s₈ = more (length m) _ _ 10 0 (omega arith) s₇ in
      s₈

  pub anew_long : length anew ≡ length m
  anew_long = all_more.long

  rows_anew : rows_of anew ≡ told (length m) says (rows_of anew).threads (rows_of anew).ready (rows_of anew).clock
      (rows_of anew).messages (rows_of anew).held (rows_of anew).ended
  rows_anew = rows_told anew (length m) says _ _ _ _ _ _ all_more.long (λ k h ι. all_more.words_are ι k) refl refl refl refl refl refl

  pub anew_roomy : Room (record { threads = t; blocks = b }) (length m) → Roomy (rows_of anew)
  anew_roomy h = rw rows_anew h

  pub anew_nothing : (r : Rows) → r ≡ put_held [] (put_runner NoRunner (rows_of anew)) →
      (view r ≡ nothing) × (r.limits ≡ record { threads = t; blocks = b }) × (r.count ≡ 0) × (r.readies ≡ 0) × (r.clocks ≡ 0)
      × (r.letters ≡ 0)
  anew_nothing r e = rw (e, rows_anew) (refl, refl, refl, refl, refl, refl)
