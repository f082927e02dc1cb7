-- Refusals: each number is given exactly when document 01 says, in its order, and a refused event changes nothing.
use Rattle.std.proofs.Common.{if◌then◌else◌, ◌==◌}
use Prim.Native.Nat.{ℕ, zero, suc}
use mathlib.Core.Path.{◌≡◌, refl, sym, ap, ◌∙◌}
use mathlib.Core.Logic.{◌↔◌, ◌≢◌, ◌⊎◌, inl, inr, ⊎_elim}
use mathlib.Core.Bool.{Bool, true, false, ◌||◌, not, true≢false, false≢true}
use mathlib.Core.List.{List, [], ◌∷◌, map, Memᴰ}
use native.Mathlib.Omega.{arith}
use borrow.Author.Tests.{eq-eqb}
use Rattle.rules.specs.Lists.{all, any, has}
use Rattle.laws.specs.Words.{Limits}
use Rattle.rules.specs.Tables.{Tables, live, me}
use Rattle.rules.specs.Dispatch.{status}
use Rattle.rules.specs.Events.{decode}
use Rattle.rules.specs.Codes.{status_code}
use Rattle.rules.specs.Refusals.{Rule, first_of, over, is_malformed, wants_nobody, ends_nobody, call_rules, own_rules, refusal}
use Rattle.rules.specs.Step.{settle, step}
use Rattle.laws.specs.Words.{Nothing, Wanted, Anybody, Only, Status, Working, Idle, Halted, Panicked, Target, Oneself, Named, Send}
use Rattle.laws.specs.Words.{Receive, CreateBrother, CreateSon, Terminate, SetManager, GetCpuTime, WaitForClock, WaitForIo, Trap}
use Rattle.laws.specs.Words.{Event, Malformed, ByRunner, Tick, Interrupt}
use Rattle.laws.specs.Refusals.{before, call_is, is_send, comes_too_late, lacks_runner, names_nobody, decides_wrongly, block_needed}
use Rattle.laws.specs.Refusals.{lacks_block, is_brother_of_0, lacks_thread, manages_itself, device_is_taken, the_ten}
use Rattle.laws.proofs.Tests.{by_if, clash, same?, and_left, and_right, not_true}
use Rattle.laws.proofs.Members.{member_has}

-- ---- any list of rules

-- the test of number n
unfoldable pub test_of : ℕ → List Rule → Bool
test_of n [] = false
test_of n (r ∷ rs) = if r.number == n then r.holds else test_of n rs

-- n is the number of one rule
unfoldable pub stands_once : ℕ → List Rule → Bool
stands_once n [] = false
stands_once n (r ∷ rs) = if r.number == n then not (has n (map (λ s. s.number) rs)) else stands_once n rs

-- the number given is one of the list's, or 0
first_listed : (rs : List Rule) → Memᴰ (first_of rs) (0 ∷ map (λ r. r.number) rs)
unfolding first_of
first_listed [] = Memᴰ.head refl
first_listed (r ∷ rs) = by_if (λ (n : ℕ). Memᴰ n (0 ∷ map (λ s. s.number) (r ∷ rs))) r.holds
    (λ _. Memᴰ.tail (Memᴰ.head refl)) (λ _. later (first_listed rs))
  where
    later : {n : ℕ} → Memᴰ n (0 ∷ map (λ s. s.number) rs) → Memᴰ n (0 ∷ map (λ s. s.number) (r ∷ rs))
    later (Memᴰ.head e) = Memᴰ.head e
    later (Memᴰ.tail m) = Memᴰ.tail (Memᴰ.tail m)

-- a number that no rule has is not given
never_given : (n : ℕ) (rs : List Rule) → n ≢ 0 → has n (map (λ r. r.number) rs) ≡ false → first_of rs ≢ n
never_given n rs z h e = go (first_listed rs)
  where
    go : Memᴰ (first_of rs) (0 ∷ map (λ r. r.number) rs) → ⊥
    go (Memᴰ.head k) = z (sym e ∙ k)
    go (Memᴰ.tail m) = clash (member_has _ (rw e at m)) h

-- A number that stands once is given exactly if its test holds and no test before it does.
pub first_exactly : (n : ℕ) (rs : List Rule) → n ≢ 0 → stands_once n rs ≡ true →
    (first_of rs ≡ n) ↔ ((test_of n rs ≡ true) × (before n rs ≡ false))
unfolding first_of test_of before stands_once
first_exactly n [] z o = absurd (false≢true o)
first_exactly n (r ∷ rs) z o = ⊎_elim (λ e. rw e.1 (here r.holds e.0 (rw e.1 at o)))
    (λ e. rw e.1 (there r.holds e.0 (first_exactly n rs z (rw e.1 at o)))) (same? r.number n)
  where
    here : (b : Bool) → r.number ≡ n → not (has n (map (λ s. s.number) rs)) ≡ true →
        ((if b then r.number else first_of rs) ≡ n) ↔ ((b ≡ true) × (false ≡ false))
    here true e k = (λ _. (refl, refl), λ _. e)
    here false e k = (λ g. absurd (never_given n rs z (not_true _ k) g), λ x. absurd (false≢true x.0))

    there : (b : Bool) → r.number ≢ n → (first_of rs ≡ n) ↔ ((test_of n rs ≡ true) × (before n rs ≡ false)) →
        ((if b then r.number else first_of rs) ≡ n) ↔ ((test_of n rs ≡ true) × ((b || before n rs) ≡ false))
    there true d later = (λ g. absurd (d g), λ x. absurd (true≢false x.1))
    there false d later = later

-- None is given exactly if no test holds.
pub none_exactly : (rs : List Rule) → all (λ r. not (r.number == 0)) rs ≡ true → (first_of rs ≡ 0) ↔ (any (λ r. r.holds) rs ≡ false)
unfolding first_of any all
none_exactly [] o = (λ _. refl, λ _. refl)
none_exactly (r ∷ rs) o = go r.holds (none_exactly rs (and_right (not (r.number == 0)) _ o))
  where
    go : (b : Bool) → (first_of rs ≡ 0) ↔ (any (λ s. s.holds) rs ≡ false) →
        ((if b then r.number else first_of rs) ≡ 0) ↔ ((b || any (λ s. s.holds) rs) ≡ false)
    go true later = (λ g. absurd (clash (and_left _ _ o) (ap not (eq-eqb r.number 0 g))), λ x. absurd (true≢false x))
    go false later = later

-- ---- the ten tests in the document's words

-- The refusal is the number of the first of the ten that holds.
pub refused_exactly : (L : Limits) (T : Tables) (e : Event) → refusal L T e ≡ first_of (the_ten L T e)
unfolding refusal first_of own_rules call_rules the_ten call_is is_send names_nobody decides_wrongly block_needed lacks_block
    is_brother_of_0 lacks_thread manages_itself device_is_taken
refused_exactly L T Malformed = refl
refused_exactly L T (ByRunner (Send to w)) = refl
refused_exactly L T (ByRunner (Receive w)) = refl
refused_exactly L T (ByRunner CreateBrother) = refl
refused_exactly L T (ByRunner CreateSon) = refl
refused_exactly L T (ByRunner (Terminate n)) = refl
refused_exactly L T (ByRunner (SetManager k n)) = refl
refused_exactly L T (ByRunner GetCpuTime) = refl
refused_exactly L T (ByRunner WaitForClock) = refl
refused_exactly L T (ByRunner (WaitForIo d)) = refl
refused_exactly L T (ByRunner (Trap k c)) = refl
refused_exactly L T Tick = refl
refused_exactly L T (Interrupt d w) = refl

-- ---- the words of the tests

-- An event comes too late exactly if the status is halted or panicked.
pub too_late_exactly : (T : Tables) → (comes_too_late T ≡ true) ↔ ((status T ≡ Halted) ⊎ (status T ≡ Panicked))
unfolding over
too_late_exactly T = go (status T)
  where
    go : (s : Status) → (over s ≡ true) ↔ ((s ≡ Halted) ⊎ (s ≡ Panicked))
    go Working = (
      λ e. absurd (false≢true e),
      ⊎_elim (λ e. let z : ◌≡◌ {A = ℕ} 0 1 = cc in
          absurd (omega arith)) (λ e. let z : ◌≡◌ {A = ℕ} 0 1 = cc in absurd (omega arith)),
    )
    go Idle = (
      λ e. absurd (false≢true e),
      ⊎_elim (λ e. let z : ◌≡◌ {A = ℕ} 0 1 = cc in
          absurd (omega arith)) (λ e. let z : ◌≡◌ {A = ℕ} 0 1 = cc in absurd (omega arith)),
    )
    go Halted = (λ e. inl refl, λ e. refl)
    go Panicked = (λ e. inr refl, λ e. refl)

-- A receive names nobody exactly if it wants one name, and that is no live thread's.
pub wants_nobody_exactly : (T : Tables) (w : Wanted) → (wants_nobody T w ≡ true) ↔ ((n : ℕ) × (w ≡ Only n) × (live n T ≡ false))
wants_nobody_exactly T Anybody = (λ e. absurd (false≢true e), λ r. let z : ◌≡◌ {A = ℕ} 0 1 = cc r.1 in absurd (omega arith))
wants_nobody_exactly T (Only n) = (λ e. (n, refl, not_true _ e), λ r. let k : n ≡ r.0 = cc r.1 in rw k (ap not r.2))

-- A TERMINATE names nobody exactly if it gives a name that is no live thread's.
pub ends_nobody_exactly : (T : Tables) (x : Target) → (ends_nobody T x ≡ true) ↔ ((n : ℕ) × (x ≡ Named n) × (live n T ≡ false))
unfolding ends_nobody
ends_nobody_exactly T Oneself = (λ e. absurd (false≢true e), λ r. let z : ◌≡◌ {A = ℕ} 0 1 = cc r.1 in absurd (omega arith))
ends_nobody_exactly T (Named n) = (λ e. (n, refl, not_true _ e), λ r. let k : n ≡ r.0 = cc r.1 in rw k (ap not r.2))

-- ---- each number

module _ (L : Limits) (T : Tables) (e : Event) where
  exactly : (n : ℕ) → n ≢ 0 → stands_once n (the_ten L T e) ≡ true →
      (refusal L T e ≡ n) ↔ ((test_of n (the_ten L T e) ≡ true) × (before n (the_ten L T e) ≡ false))
  exactly n z o = rw (refused_exactly L T e) (first_exactly n (the_ten L T e) z o)

  -- Each number is given exactly if its test holds and no test before it in the list of ten does.

  pub refused_1 : (refusal L T e ≡ 1) ↔ ((comes_too_late T ≡ true) × (before 1 (the_ten L T e) ≡ false))
  unfolding stands_once test_of the_ten any
  refused_1 = exactly 1 (λ z. omega arith) refl

  pub refused_2 : (refusal L T e ≡ 2) ↔ ((is_malformed e ≡ true) × (before 2 (the_ten L T e) ≡ false))
  unfolding stands_once test_of the_ten any
  refused_2 = exactly 2 (λ z. omega arith) refl

  pub refused_3 : (refusal L T e ≡ 3) ↔ ((lacks_runner T e ≡ true) × (before 3 (the_ten L T e) ≡ false))
  unfolding stands_once test_of the_ten any
  refused_3 = exactly 3 (λ z. omega arith) refl

  pub refused_4 : (refusal L T e ≡ 4) ↔ ((names_nobody T e ≡ true) × (before 4 (the_ten L T e) ≡ false))
  unfolding stands_once test_of the_ten any
  refused_4 = exactly 4 (λ z. omega arith) refl

  pub refused_9 : (refusal L T e ≡ 9) ↔ ((decides_wrongly T e ≡ true) × (before 9 (the_ten L T e) ≡ false))
  unfolding stands_once test_of the_ten any
  refused_9 = exactly 9 (λ z. omega arith) refl

  pub refused_5 : (refusal L T e ≡ 5) ↔ ((lacks_block L T e ≡ true) × (before 5 (the_ten L T e) ≡ false))
  unfolding stands_once test_of the_ten any
  refused_5 = exactly 5 (λ z. omega arith) refl

  pub refused_7 : (refusal L T e ≡ 7) ↔ ((is_brother_of_0 T e ≡ true) × (before 7 (the_ten L T e) ≡ false))
  unfolding stands_once test_of the_ten any
  refused_7 = exactly 7 (λ z. omega arith) refl

  pub refused_6 : (refusal L T e ≡ 6) ↔ ((lacks_thread L T e ≡ true) × (before 6 (the_ten L T e) ≡ false))
  unfolding stands_once test_of the_ten any
  refused_6 = exactly 6 (λ z. omega arith) refl

  pub refused_10 : (refusal L T e ≡ 10) ↔ ((manages_itself T e ≡ true) × (before 10 (the_ten L T e) ≡ false))
  unfolding stands_once test_of the_ten any
  refused_10 = exactly 10 (λ z. omega arith) refl

  pub refused_8 : (refusal L T e ≡ 8) ↔ ((device_is_taken T e ≡ true) × (before 8 (the_ten L T e) ≡ false))
  unfolding stands_once test_of the_ten any
  refused_8 = exactly 8 (λ z. omega arith) refl

  -- An event is accepted exactly if none of the ten holds.
  pub accepted_exactly : (refusal L T e ≡ 0) ↔ (any (λ r. r.holds) (the_ten L T e) ≡ false)
  accepted_exactly = rw (refused_exactly L T e) (none_exactly (the_ten L T e) (unfold the_ten all in refl))

  -- No other number is given.
  pub refusals_are_listed : Memᴰ (refusal L T e) (0 ∷ 1 ∷ 2 ∷ 3 ∷ 4 ∷ 9 ∷ 5 ∷ 7 ∷ 6 ∷ 10 ∷ 8 ∷ [])
  refusals_are_listed = rw (refused_exactly L T e) (unfold the_ten in first_listed (the_ten L T e))

-- ---- what a step does with it

module _ (L : Limits) (T : Tables) (bytes : List ℕ) where
  -- The decision gives the number, and 0 for an accepted event.
  pub decision_gives_it : (step L T bytes).decision.refusal ≡ refusal L T (decode bytes)
  unfolding step
  decision_gives_it = go (refusal L T (decode bytes))
    where
      go : (r : ℕ) → (settle r T (decode bytes)).decision.refusal ≡ r
      go zero = unfold settle in refl
      go (suc r) = unfold settle in refl

  pub accepted_gives_0 : refusal L T (decode bytes) ≡ 0 → (step L T bytes).decision.refusal ≡ 0
  accepted_gives_0 h = decision_gives_it ∙ h

  -- "A refused event returns the number, status and runner as they stand and no answer"; the tables stay as they are.
  pub refused_changes_nothing : refusal L T (decode bytes) ≢ 0 →
      ((step L T bytes).tables ≡ T)
      × ((step L T bytes).decision ≡ record {
        refusal = refusal L T (decode bytes);
        status = status_code (status T);
        runner = me T.runner;
        answer = Nothing;
      })
  unfolding step
  refused_changes_nothing = go (refusal L T (decode bytes))
    where
      go : (r : ℕ) → r ≢ 0 → ((settle r T (decode bytes)).tables ≡ T)
          × ((settle r T (decode bytes)).decision ≡ record {
            refusal = r;
            status = status_code (status T);
            runner = me T.runner;
            answer = Nothing;
          })
      go zero h = absurd (h refl)
      go (suc r) h = unfold settle in (refl, refl)
