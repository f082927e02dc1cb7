-- The ended set is the smallest one: it holds the named thread, holds the dependants of its members, and lies in every set that does.
use Rattle.std.proofs.Common.{◌==◌}
use Prim.Native.Nat.{ℕ, zero, suc, ◌+◌, ◌≤◌}
use mathlib.Core.Path.{◌≡◌, refl, ap, ◌∙◌}
use mathlib.Core.Logic.{◌⊎◌, inl, inr, ⊎_elim}
use mathlib.Core.Bool.{Bool, true, false, ◌&&◌, ◌||◌, not, true≢false, false≢true}
use mathlib.Core.List.{List, [], ◌∷◌, ◌++◌, map, append-nil, Memᴰ}
use native.Mathlib.Omega.{arith}
use lib.ListN.{length}
use borrow.Author.Tests.{eqb-true, eq-eqb}
use Rattle.rules.specs.Lists.{one_if, any, count, times, has}
use Rattle.rules.specs.Words.{by_parent}
use Rattle.rules.specs.Tables.{named}
use Rattle.rules.specs.States.{awaits}
use Rattle.rules.specs.Ending.{depends, grow, ended_set}
use Rattle.laws.specs.Words.{Parent, NoParent, ParentIs, Thread}
use Rattle.laws.specs.Closure.{Closed}
use Rattle.laws.proofs.Tests.{clash, and_left, and_right, ◌&◌, or_cases, or_left, or_right, not_true}
use Rattle.laws.proofs.Tally.{count_add_le, count_length, keep_none, none_passes, any_member}
use Rattle.laws.proofs.Members.{member_has, kept_has, has_kept, has_left, has_right, has_split, has_any}
use Rattle.laws.proofs.Threads.{member_live}

-- ---- the rounds

-- g: in the grown set, s: in the set, j: joins it
bits : (g s j : Bool) → (s ≡ true → g ≡ true) → (j ≡ true → g ≡ true) → (j ≡ true → s ≡ false) → one_if (not g) + one_if j ≤ one_if (not s)
bits true true true a b c = absurd (true≢false (c refl))
bits true true false a b c = omega arith
bits true false true a b c = omega arith
bits true false false a b c = omega arith
bits false true j a b c = absurd (false≢true (a refl))
bits false false true a b c = absurd (false≢true (b refl))
bits false false false a b c = omega arith

abbrev pub joins : List ℕ → Thread → Bool
joins set t = depends set t && not (has t.name set)

module _ (ts : List Thread) where
  abbrev pub outside : List ℕ → ℕ
  outside set = count (λ t. not (has t.name set)) ts

  -- those that join are outside no more
  pub falls : (set : List ℕ) → outside (grow ts set) + count (joins set) ts ≤ outside set
  unfolding grow
  falls set =
      count_add_le _ _ _ ts
      (λ t m.
      bits _ _ _ (has_left t.name set _) (λ e. has_right t.name set _ (kept_has (λ u. u.name) (joins set) ts m e))
      (λ e. not_true _ (and_right (depends set t) _ e)))

  -- a set that nobody joins does not grow
  pub rests : (set : List ℕ) → count (joins set) ts ≡ 0 → grow ts set ≡ set
  unfolding grow
  rests set e = ap (λ (l : List Thread). set ++ map (λ t. t.name) l) (keep_none (joins set) ts e) ∙ append-nil set

  stays : (k : ℕ) (set : List ℕ) → count (joins set) ts ≡ 0 → times k (grow ts) set ≡ set
  unfolding times
  stays zero set e = refl
  stays (suc k) set e = ap (times k (grow ts)) (rests set e) ∙ stays k set e

  pub closes : (k : ℕ) (set : List ℕ) → outside set ≤ k → count (joins (times k (grow ts) set)) ts ≡ 0
  unfolding times
  closes zero set h = omega (arith, falls set)
  closes (suc k) set h = go (count (joins set) ts) refl (closes k (grow ts set))
    where
      go : (c : ℕ) → count (joins set) ts ≡ c → (outside (grow ts set) ≤ k → count (joins (times k (grow ts) (grow ts set))) ts ≡ 0) →
          count (joins (times k (grow ts) (grow ts set))) ts ≡ 0
      go zero e later = rw (rests set e, stays k set e) e
      go (suc c) e later = later (omega (arith, falls set))

  grown_has : (k : ℕ) (set : List ℕ) (x : ℕ) → has x set ≡ true → has x (times k (grow ts) set) ≡ true
  unfolding times grow
  grown_has zero set x h = h
  grown_has (suc k) set x h = grown_has k (grow ts set) x (has_left x set _ h)

  module _ (p : ℕ → Bool) (C : Closed p ts) where
    -- who depends on names that pass, passes
    joins_within : (set : List ℕ) → ((x : ℕ) → has x set ≡ true → p x ≡ true) → (t : Thread) → Memᴰ t ts → depends set t ≡ true →
        p t.name ≡ true
    joins_within set h t m d =
        ⊎_elim (λ e. C.children t m (up t.parent e))
        (λ e. let r = any_member (λ x. awaits x t) set e in C.trapped t m r.0 r.2 (h r.0 (member_has set r.1)))
        (or_cases (by_parent false (λ x. has x set) t.parent) _ d)
      where
        up : (q : Parent) → by_parent false (λ x. has x set) q ≡ true → by_parent false p q ≡ true
        up NoParent e = e
        up (ParentIs x) e = h x e

    grow_within : (set : List ℕ) → ((x : ℕ) → has x set ≡ true → p x ≡ true) → (x : ℕ) → has x (grow ts set) ≡ true → p x ≡ true
    unfolding grow
    grow_within set h x i =
        ⊎_elim (h x)
        (λ k. let s = has_kept (λ t. t.name) (joins set) ts x k in rw s.3 (joins_within set h s.0 s.1 (and_left _ _ s.2)))
        (has_split x set _ i)

    times_within : (k : ℕ) (set : List ℕ) → ((x : ℕ) → has x set ≡ true → p x ≡ true) → (x : ℕ) → has x (times k (grow ts) set) ≡ true →
        p x ≡ true
    unfolding times
    times_within zero set h = h
    times_within (suc k) set h = times_within k (grow ts set) (grow_within set h)

  -- ---- the law

  -- The ended set holds the named thread.
  pub ended_holds : (n : ℕ) → has n (ended_set ts n) ≡ true
  unfolding ended_set any
  ended_holds n = grown_has (length ts) (n ∷ []) n (or_left _ _ (eq-eqb n n refl))

  -- It holds every thread whose parent is a member or that is trapped on a member.
  pub ended_closed : (n : ℕ) (t : Thread) → Memᴰ t ts → depends (ended_set ts n) t ≡ true → has t.name (ended_set ts n) ≡ true
  ended_closed n t m d = go (has t.name (ended_set ts n)) refl
    where
      none : joins (ended_set ts n) t ≡ false
      none = none_passes (joins (ended_set ts n)) ts t (unfold ended_set in closes (length ts) (n ∷ []) (count_length _ ts)) m

      go : (b : Bool) → has t.name (ended_set ts n) ≡ b → has t.name (ended_set ts n) ≡ true
      go true e = e
      go false e = absurd (clash (d & ap not e) none)

  -- So the test "is a member" passes, with each name, its children and those trapped on it.
  pub ended_set_closed : (n : ℕ) → Closed (λ x. has x (ended_set ts n)) ts
  ended_set_closed n = record {
    children = λ t m e. ended_closed n t m (or_left _ _ e);
    trapped = λ t m x e h. ended_closed n t m
        (or_right (by_parent false (λ y. has y (ended_set ts n)) t.parent) _ (has_any x (λ y. awaits y t) (ended_set ts n) h e));
  }

  -- It lies in every set that holds the named thread and, with each member, its children and those trapped on it.
  pub ended_least : (p : ℕ → Bool) → Closed p ts → (n : ℕ) → p n ≡ true → (x : ℕ) → has x (ended_set ts n) ≡ true → p x ≡ true
  unfolding ended_set any
  ended_least p C n s = times_within p C (length ts) (n ∷ [])
      (λ x h. ⊎_elim (λ e. rw (eqb-true x n e) s) (λ e. absurd (false≢true e)) (or_cases (x == n) _ h))

  -- Its members other than the named one are names of threads.
  pub ended_live : (n x : ℕ) → has x (ended_set ts n) ≡ true → (x ≡ n) ⊎ (any (named x) ts ≡ true)
  ended_live n x h =
      ⊎_elim (λ e. inl (eqb-true x n e)) (λ e. inr e)
      (or_cases (x == n) _ (ended_least (λ y. (y == n) || any (named y) ts) closed n (or_left _ _ (eq-eqb n n refl)) x h))
    where
      lives : (t : Thread) → Memᴰ t ts → ((t.name == n) || any (named t.name) ts) ≡ true
      lives t m = or_right (t.name == n) _ (member_live ts t m)

      closed : Closed (λ y. (y == n) || any (named y) ts) ts
      closed = record { children = λ t m e. lives t m; trapped = λ t m y e i. lives t m }
