-- Lists of threads: who lives, what changes that keep names leave, and how many threads of a name are in a kind of state.
use Rattle.std.proofs.Common.{if◌then◌else◌, ◌==◌}
use Prim.Native.Nat.{ℕ, ◌+◌, ◌≤◌}
use mathlib.Core.Path.{◌≡◌, refl, sym, ap, ◌∙◌}
use mathlib.Core.Logic.{◌⊎◌, inl, inr, ⊎_elim}
use mathlib.Core.Bool.{Bool, true, false, ◌&&◌, not}
use mathlib.Core.List.{List, [], ◌∷◌, map, Memᴰ}
use native.Mathlib.Omega.{arith}
use borrow.Author.Tests.{eqb-true, eq-eqb}
use Rattle.rules.specs.Lists.{one_if, any, keep, count, has, times_in}
use Rattle.rules.specs.Tables.{in_state, named, of_thread}
use Rattle.rules.specs.States.{is_running, is_ready, on_clock}
use Rattle.laws.specs.Words.{State, Running, Ready, Receiving, Clock, Device, Trapped, Answer, Thread}
use Rattle.laws.specs.Types.{here}
use Rattle.laws.proofs.Tests.{by_if, and_left, and_right, ◌&◌, and_turned, one_true}
use Rattle.laws.proofs.Tally.{count_cons, count_map, count_same, count_less, count_keep, any_count, count_any, any_counts}
use Rattle.laws.proofs.Tally.{any_member, member_any, count_only}

-- ---- who lives

pub member_live : (ts : List Thread) (t : Thread) → Memᴰ t ts → any (named t.name) ts ≡ true
member_live ts t m = member_any (named t.name) ts t m (eq-eqb t.name t.name refl)

pub live_member : (ts : List Thread) (n : ℕ) → any (named n) ts ≡ true → (t : Thread) × Memᴰ t ts × (n ≡ t.name)
live_member ts n h = let r = any_member (named n) ts h in (r.0, r.1, eqb-true n r.0.name r.2)

-- what is looked up of a name is that of its only thread
pub of_only : {A : Type 0} (d : A) (f : Thread → A) (n : ℕ) (ts : List Thread) → count (named n) ts ≤ 1 → (t : Thread) → Memᴰ t ts →
    t.name ≡ n → of_thread d f n ts ≡ f t
unfolding of_thread
of_only {A = A} d f n [] o t x4 x = elim x4 [ ]
of_only d f n (u ∷ ts) o t (Memᴰ.head e) x = rw (eq-eqb n u.name (sym x ∙ ap (λ (v : Thread). v.name) e)) (ap f (sym e))
of_only {A} d f n (u ∷ ts) o t (Memᴰ.tail m) x =
    by_if (λ (y : A). y ≡ f t) (named n u)
    (λ e. absurd
    (omega (
      arith,
      count_cons (named n) u ts,
      ap one_if e,
      any_count (named n) ts
          (member_any (named n) ts t m (eq-eqb n t.name (sym x))),
    )))
    (λ e. of_only d f n ts (omega (arith, count_cons (named n) u ts)) t m x)

-- a look-up finds nothing, or a thread of that name
pub looked_up : {A : Type 0} (other : A) (f : Thread → A) (n : ℕ) (ts : List Thread) →
    (of_thread other f n ts ≡ other) ⊎ ((t : Thread) × Memᴰ t ts × (t.name ≡ n) × (of_thread other f n ts ≡ f t))
unfolding of_thread
looked_up other f n [] = inl refl
looked_up {A} other f n (t ∷ ts) = go (named n t) refl (looked_up other f n ts)
  where
    go : (b : Bool) → named n t ≡ b →
        (of_thread other f n ts ≡ other) ⊎ ((u : Thread) × Memᴰ u ts × (u.name ≡ n) × (of_thread other f n ts ≡ f u)) →
        ((if b then f t else of_thread other f n ts) ≡ other)
        ⊎ ((u : Thread) × Memᴰ u (t ∷ ts) × (u.name ≡ n) × ((if b then f t else of_thread other f n ts) ≡ f u))
    go true e later = inr (t, Memᴰ.head refl, sym (eqb-true n t.name e), refl)
    go false e later = ⊎_elim (λ i. inl i) (λ r. inr (r.0, Memᴰ.tail r.1, r.2, r.3)) later

-- names under a change that keeps each name
pub names_kept : (f : Thread → Thread) → ((t : Thread) → (f t).name ≡ t.name) → (n : ℕ) (ts : List Thread) →
    count (named n) (map f ts) ≡ count (named n) ts
names_kept f h n ts = count_map (named n) f ts ∙ count_same _ _ ts (λ t. ap (λ (m : ℕ). n == m) (h t))

pub names_mapped : (f : Thread → Thread) → ((t : Thread) → (f t).name ≡ t.name) → (n : ℕ) (ts : List Thread) →
    any (named n) (map f ts) ≡ any (named n) ts
names_mapped f h n ts = any_counts (named n) (named n) (map f ts) ts (names_kept f h n ts)

-- without the threads whose names are in a set
abbrev pub left : List ℕ → List Thread → List Thread
left set ts = keep (λ t. not (has t.name set)) ts

-- some threads change, and keep their names
module _ (p : Thread → Bool) (g : Thread → Thread) where
  abbrev pub turned : Thread → Thread
  turned t = if p t then g t else t

  pub turned_name : ((t : Thread) → (g t).name ≡ t.name) → (t : Thread) → (turned t).name ≡ t.name
  turned_name h t = by_if (λ (u : Thread). u.name ≡ t.name) (p t) (λ _. h t) (λ _. refl)

  pub turned_live : ((t : Thread) → (g t).name ≡ t.name) → (n : ℕ) (ts : List Thread) → any (named n) (map turned ts) ≡ any (named n) ts
  turned_live h n ts = names_mapped turned (turned_name h) n ts

-- they are put into a state
pub put_name : (p : Thread → Bool) (s : State) (a : Thread → Answer) (t : Thread) → (if p t then in_state s (a t) t else t).name ≡ t.name
put_name p s a t = turned_name p (λ u. in_state s (a u) u) (λ u. refl) t

-- the names of those that pass, as a queue
pub times_kept : (p : Thread → Bool) (n : ℕ) (ts : List Thread) →
    times_in (map (λ t. t.name) (keep p ts)) n ≡ count (λ t. named n t && p t) ts
times_kept p n ts =
    count_map (λ m. n == m) (λ t. t.name) (keep p ts) ∙ count_keep (named n) p ts ∙ count_same _ _ ts (λ t. and_turned (p t) (named n t))

-- ---- a thread in a kind of state

pub here_le : (p : State → Bool) (n : ℕ) (ts : List Thread) → here p n ts ≤ count (named n) ts
unfolding here
here_le p n ts = count_less (λ t. named n t && p t.state) (named n) ts (λ t e. and_left (named n t) _ e)

pub here_live : (p : State → Bool) (n : ℕ) (ts : List Thread) → 1 ≤ here p n ts → any (named n) ts ≡ true
here_live p n ts h = count_any (named n) ts (omega (arith, here_le p n ts))

pub here_is : (p : State → Bool) (ts : List Thread) → ((n : ℕ) → count (named n) ts ≤ 1) → (t : Thread) → Memᴰ t ts →
    here p t.name ts ≡ one_if (p t.state)
unfolding here
here_is p ts once t m = count_only (named t.name) (λ u. p u.state) ts (once t.name) t m (eq-eqb t.name t.name refl)

-- where one thread of the name is in a kind of state, every thread of the name is
pub here_only : (p : State → Bool) (ts : List Thread) → ((n : ℕ) → count (named n) ts ≤ 1) → (t : Thread) → Memᴰ t ts →
    1 ≤ here p t.name ts → p t.state ≡ true
here_only p ts once t m h = one_true (p t.state) (omega (arith, here_is p ts once t m))

pub member_here : (p : State → Bool) (ts : List Thread) (t : Thread) → Memᴰ t ts → p t.state ≡ true → 1 ≤ here p t.name ts
unfolding here
member_here p ts t m h = any_count (λ u. named t.name u && p u.state) ts
    (member_any (λ u. named t.name u && p u.state) ts t m (eq-eqb t.name t.name refl & h))

pub here_member : (p : State → Bool) (ts : List Thread) (n : ℕ) → 1 ≤ here p n ts → (t : Thread) × Memᴰ t ts × (named n t ≡ true)
    × (p t.state ≡ true)
unfolding here
here_member p ts n h =
    let r = any_member (λ u. named n u && p u.state) ts (count_any (λ u. named n u && p u.state) ts h) in
    (r.0, r.1, and_left (named n r.0) _ r.2, and_right (named n r.0) _ r.2)

-- of running, ready and on the clock a thread is one at most
apart_one : (b : Bool) (s : State) → one_if (b && is_running s) + one_if (b && is_ready s) + one_if (b && on_clock s) ≤ one_if b
unfolding is_running is_ready on_clock
apart_one false s = omega arith
apart_one true Running = omega arith
apart_one true Ready = omega arith
apart_one true (Receiving w) = omega arith
apart_one true Clock = omega arith
apart_one true (Device d) = omega arith
apart_one true (Trapped k) = omega arith

pub apart : (n : ℕ) (ts : List Thread) → here is_running n ts + here is_ready n ts + here on_clock n ts ≤ count (named n) ts
unfolding here count
apart n [] = omega arith
apart n (t ∷ ts) = omega (arith, apart n ts, apart_one (named n t) t.state)
