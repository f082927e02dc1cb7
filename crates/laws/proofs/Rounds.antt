-- The rounds by which the ended set grows: what one adds, when they may stop, and that stopping early gives the ended set.
use Prim.Native.Nat.{ℕ, zero, suc, ◌+◌, ◌-◌, ◌≤◌, ◌<◌}
use mathlib.Core.Path.{◌≡◌, refl, sym, ap, ◌∙◌}
use mathlib.Core.Logic.{◌⊎◌, inl, inr, ⊎_elim, ◌≢◌}
use mathlib.Core.Bool.{Bool, true, false, ◌&&◌, not, true≢false, false≢true}
use mathlib.Core.List.{List, [], ◌∷◌, map, Memᴰ}
use native.Mathlib.Omega.{arith}
use native.Mathlib.Nat.{add-zero, add-suc}
use lib.ListN.{length, length-append, length-map}
use borrow.Author.Tests.{eq-eqb, ne_eqb}
use Rattle.rules.specs.Lists.{one_if, any, has, keep, count, times}
use Rattle.rules.specs.Tables.{named}
use Rattle.rules.specs.Ending.{depends, grow, ended_set}
use Rattle.laws.specs.Words.{Thread}
use Rattle.laws.proofs.Tests.{and_right, not_true, same?}
use Rattle.laws.proofs.Tally.{count_length, length_count, any_count, only_one, length_keep}
use Rattle.laws.proofs.Members.{kept_has, has_kept, has_left, has_right, has_split}
use Rattle.laws.proofs.Closure.{joins, outside, falls, rests, closes}

-- ---- general

module _ {A : Type 0} where
  -- b times behind a times
  pub times_add : (b a : ℕ) (f : A → A) (x : A) → times (b + a) f x ≡ times b f (times a f x)
  unfolding times
  times_add b zero f x = rw add-zero
  times_add b (suc a) f x = rw add-suc (times_add b a f (f x))

  -- what a step does not change, no number of steps changes
  pub times_still : (k : ℕ) (f : A → A) (x : A) → f x ≡ x → times k f x ≡ x
  unfolding times
  times_still zero f x e = refl
  times_still (suc k) f x e = ap (times k f) e ∙ times_still k f x e

  -- counts add up where the tests do on the members
  pub count_add_in : (p q r : A → Bool) (xs : List A) → ((x : A) → Memᴰ x xs → one_if (p x) ≡ one_if (q x) + one_if (r x)) →
      count p xs ≡ count q xs + count r xs
  unfolding count
  count_add_in p q r [] h = refl
  count_add_in p q r (x ∷ xs) h = omega (arith, h x (Memᴰ.head refl), count_add_in p q r xs (λ y m. h y (Memᴰ.tail m)))

-- ---- one round

-- g: in the grown set, s: in the set, j: joins it
exact_bits : (g s j : Bool) → (s ≡ true → g ≡ true) → (j ≡ true → g ≡ true) → (j ≡ true → s ≡ false) →
    (g ≡ true → (s ≡ true) ⊎ (j ≡ true)) → one_if (not s) ≡ one_if (not g) + one_if j
exact_bits true true true a b c d = absurd (true≢false (c refl))
exact_bits true true false a b c d = refl
exact_bits true false true a b c d = refl
exact_bits true false false a b c d = absurd (⊎_elim false≢true false≢true (d refl))
exact_bits false true j a b c d = absurd (false≢true (a refl))
exact_bits false false true a b c d = absurd (false≢true (b refl))
exact_bits false false false a b c d = refl

module _ (ts : List Thread) (set : List ℕ) where
  -- A round makes the set longer by those that join it.
  pub grow_length : length (grow ts set) ≡ length set + count (λ t. depends set t && not (has t.name set)) ts
  unfolding grow
  grow_length = omega (
    arith,
    length-append set (map (λ t. t.name) (keep (joins set) ts)),
    length-map (keep (joins set) ts) (λ t. t.name),
    length_keep (joins set) ts,
  )

  -- It does not make it shorter.
  pub grow_longer : length set ≤ length (grow ts set)
  grow_longer = omega (arith, grow_length)

  -- A round that leaves the length leaves the set.
  pub grow_same : length (grow ts set) ≡ length set → grow ts set ≡ set
  grow_same e = rests ts set (omega (arith, grow_length))

  -- Behind a round that changes nothing, no round changes anything.
  pub stops : grow ts set ≡ set → (k : ℕ) → times k (grow ts) set ≡ set
  stops e k = times_still k (grow ts) set e

  -- Each thread that joins leaves the outside. Two threads of one name may leave it together, so this is no equation.
  pub round_le : length (grow ts set) + outside ts (grow ts set) ≤ length set + outside ts set
  round_le = omega (arith, grow_length, falls ts set)

  -- So a room that had place for the set and all outside has place for them after a round.
  pub room_kept : (room : ℕ) → length set + outside ts set ≤ room → length (grow ts set) + outside ts (grow ts set) ≤ room
  room_kept room h = omega (arith, round_le)

  -- A round that changes the length leaves fewer outside.
  pub outside_falls : length (grow ts set) ≢ length set → outside ts (grow ts set) < outside ts set
  outside_falls d = omega (arith, round_le, grow_longer)

  -- With distinct names, as many leave the outside as join.
  pub round_exact : ((n : ℕ) → count (named n) ts ≤ 1) → length (grow ts set) + outside ts (grow ts set) ≡ length set + outside ts set
  unfolding grow
  round_exact once =
      omega (arith, grow_length, count_add_in (λ t. not (has t.name set)) (λ t. not (has t.name (grow ts set))) (joins set) ts each)
    where
      joined : (t : Thread) → Memᴰ t ts → has t.name (map (λ u. u.name) (keep (joins set) ts)) ≡ true → joins set t ≡ true
      joined t m h =
          let s = has_kept (λ u. u.name) (joins set) ts t.name h in
          let e = only_one (named t.name) ts (once t.name) t s.0 m s.1 (eq-eqb t.name t.name refl)
          (eq-eqb t.name s.0.name s.3) in
          ap (joins set) e ∙ s.2

      each : (t : Thread) → Memᴰ t ts → one_if (not (has t.name set)) ≡ one_if (not (has t.name (grow ts set)))
          + one_if (joins set t)
      each t m =
          exact_bits _ _ _ (has_left t.name set _)
          (λ e. has_right t.name set _ (kept_has (λ u. u.name) (joins set) ts m e))
          (λ e. not_true _ (and_right (depends set t) _ e))
          (λ e. ⊎_elim inl (λ h. inr (joined t m h)) (has_split t.name set _ e))

  -- ---- many rounds

  -- As many rounds as threads are outside do what any larger number of rounds does.
  pub rounds_enough : (k : ℕ) → outside ts set ≤ k → times k (grow ts) set ≡ times (outside ts set) (grow ts) set
  rounds_enough k h =
      let o = outside ts set in
      let e : k ≡ (k - o) + o = omega arith in
      ap (λ (n : ℕ). times n (grow ts) set) e ∙ times_add (k - o) o (grow ts) set
      ∙ times_still (k - o) (grow ts) (times o (grow ts) set) (rests ts (times o (grow ts) set) (closes ts o set (omega arith)))

-- ---- the laws of the code that goes on until a round adds nobody

module _ (ts : List Thread) (set : List ℕ) where
  -- A round that makes the set longer may be followed by the rest of the work on the longer set.
  pub one_round_more : length (grow ts set) ≢ length set →
      times (outside ts (grow ts set)) (grow ts) (grow ts set) ≡ times (outside ts set) (grow ts) set
  unfolding times
  one_round_more d = go (outside ts set) (outside_falls ts set d)
    where
      go : (o : ℕ) → outside ts (grow ts set) < o → times (outside ts (grow ts set)) (grow ts) (grow ts set) ≡ times o (grow ts) set
      go zero l = absurd (omega arith)
      go (suc o) l = sym (rounds_enough ts (grow ts set) o (omega arith))

  -- After a round that leaves the length, the set is what all rounds make of it.
  pub no_round_more : length (grow ts set) ≡ length set → set ≡ times (outside ts set) (grow ts) set
  no_round_more e = sym (stops ts set (grow_same ts set e) (outside ts set))

module _ (ts : List Thread) (n : ℕ) where
  -- Begun with the named thread alone, the rounds give the ended set.
  pub closed_is_ended : times (outside ts (n ∷ [])) (grow ts) (n ∷ []) ≡ ended_set ts n
  unfolding ended_set
  closed_is_ended = sym (rounds_enough ts (n ∷ []) (length ts) (count_length _ ts))

  -- who is outside of the named thread alone: all of another name
  outside_others : outside ts (n ∷ []) + count (named n) ts ≡ length ts
  unfolding any
  outside_others =
      omega (
        arith,
        length_count ts,
        count_add_in (λ t. true) (λ t. not (has t.name (n ∷ []))) (named n) ts
            (λ t m. ⊎_elim (λ e. rw (e.1, eq-eqb n t.name (sym e.0))) (λ e. rw (e.1, ne_eqb n t.name (λ q. e.0 (sym q))))
            (same? t.name n)),
      )

  -- A live thread and all outside of it are no more than there are threads.
  pub ended_room : any (named n) ts ≡ true → 1 + outside ts (n ∷ []) ≤ length ts
  ended_room h = omega (arith, outside_others, any_count (named n) ts h)

  -- With distinct names they are all the threads.
  pub ended_room_exact : ((m : ℕ) → count (named m) ts ≤ 1) → any (named n) ts ≡ true → 1 + outside ts (n ∷ []) ≡ length ts
  ended_room_exact once h = omega (arith, outside_others, any_count (named n) ts h, once n)
