-- The rule of parents as a test and as a type: going up ends in time exactly if every name has a depth.
use Rattle.std.proofs.Common.{if◌then◌else◌, ◌==◌}
use Prim.Native.Nat.{ℕ, zero, suc, ◌+◌, ◌≤◌, ◌<◌}
use mathlib.Core.Path.{◌≡◌, refl, ap, ◌∙◌}
use mathlib.Core.Logic.{⊎_elim, ◌≢◌, ◌↔◌}
use mathlib.Core.Bool.{Bool, true, ◌&&◌, not, false≢true}
use mathlib.Core.List.{List, Memᴰ}
use native.Mathlib.Omega.{arith}
use lib.Dec.{ltb}
use lib.ListN.{length}
use borrow.Author.Tests.{eqb-true, eqb-false, eq-eqb, ne_eqb, ltb-true, lt-ltb, le-ltb}
use Rattle.rules.specs.Lists.{one_if, any, count}
use Rattle.rules.specs.Tables.{Tables, named}
use Rattle.rules.specs.TableRules.{has_parent, climbs, parents_right}
use Rattle.laws.specs.Words.{Parent, NoParent, ParentIs, Thread}
use Rattle.laws.specs.Types.{Family}
use Rattle.laws.proofs.Tests.{by_if, same?, and_left, and_right, ◌&◌}
use Rattle.laws.proofs.Tally.{count_strict, length_count, any_member, member_any, all_of, all_at, any_only}
use Rattle.laws.proofs.Threads.{live_member}

-- ---- from the type to the test: of the threads nearer to the top there is one fewer at each step

module _ (ts : List Thread) (F : Family ts) where
  nearer : ℕ → ℕ
  nearer x = count (λ u. ltb (F.depth u.name) (F.depth x)) ts

  nearer_most : (t : Thread) → Memᴰ t ts → nearer t.name < length ts
  unfolding nearer
  nearer_most t m = omega (
    arith,
    length_count ts,
    count_strict (λ u. ltb (F.depth u.name) (F.depth t.name)) (λ u. true) ts
        (λ u _. refl) t m (le-ltb (F.depth t.name) (F.depth t.name) (omega arith)) refl,
  )

  nearer_up : (t u : Thread) → Memᴰ u ts → F.depth u.name < F.depth t.name → nearer u.name < nearer t.name
  unfolding nearer
  nearer_up t u m h =
      count_strict _ _ ts (λ x e. lt-ltb (F.depth x.name) (F.depth t.name)
      (omega (arith, ltb-true (F.depth x.name) (F.depth u.name) e))) u m
      (le-ltb (F.depth u.name) (F.depth u.name) (omega arith)) (lt-ltb (F.depth u.name) (F.depth t.name) h)

  at_top : (k : ℕ) → climbs k ts NoParent ≡ true
  unfolding climbs
  at_top zero = refl
  at_top (suc k) = refl

  -- one more step, if the parent lives and climbs
  up : (k p : ℕ) (u : Thread) → Memᴰ u ts → p ≡ u.name → climbs k ts u.parent ≡ true → climbs (suc k) ts (ParentIs p) ≡ true
  unfolding climbs
  up k p u m e c = member_any (λ t. named p t && climbs k ts t.parent) ts u m (eq-eqb p u.name e & c)

  -- a thread of another name than 0: its parent's thread, nearer to the top
  above : (t : Thread) → Memᴰ t ts → t.name ≢ 0 → (u : Thread) × Memᴰ u ts × (t.parent ≡ ParentIs u.name)
      × (nearer u.name < nearer t.name)
  above t m d =
      let q = F.under t m d in
      let r = live_member ts q.0 q.2 in
      (r.0, r.1, q.1 ∙ ap ParentIs r.2, nearer_up t r.0 r.1 (omega (arith, q.3, ap F.depth r.2)))

  reaches : (k : ℕ) (t : Thread) → Memᴰ t ts → nearer t.name ≤ k → climbs k ts t.parent ≡ true
  reaches zero t m h =
      ⊎_elim (λ e. rw (F.root t m e.0) (at_top 0)) (λ e. absurd (omega (arith, (above t m e.0).3))) (same? t.name 0)
  reaches (suc k) t m h =
      ⊎_elim (λ e. rw (F.root t m e.0) (at_top (suc k)))
      (λ e. let a = above t m e.0 in rw a.2 (up k a.0.name a.0 a.1 refl (reaches k a.0 a.1 (omega (arith, a.3)))))
      (same? t.name 0)

pub family_tested : (T : Tables) → Family T.threads → parents_right T ≡ true
family_tested T F =
    all_of _ T.threads (λ t m. by_if (λ (b : Bool). b ≡ true) (t.name == 0)
    (λ e. rw (F.root t m (eqb-true t.name 0 e)))
    (λ e. rw (F.under t m (eqb-false t.name 0 e)).1)
    & reaches T.threads F (length T.threads) t m (omega (arith, nearer_most T.threads F t m)))

-- ---- from the test to the type: the depth of a name is how many numbers of steps are too few

-- of the numbers below k: how many are too few steps
slow : ℕ → List Thread → Parent → ℕ
slow zero ts p = 0
slow (suc k) ts p = slow k ts p + one_if (not (climbs k ts p))

module _ (ts : List Thread) (once : (n : ℕ) → count (named n) ts ≤ 1) where
  -- from t one step leads to its parent
  climbs_up : (k : ℕ) (t : Thread) → Memᴰ t ts → climbs (suc k) ts (ParentIs t.name) ≡ climbs k ts t.parent
  unfolding climbs
  climbs_up k t m = any_only (named t.name) (λ u. climbs k ts u.parent) ts (once t.name) t m (eq-eqb t.name t.name refl)

  slow_up : (k : ℕ) (t : Thread) → Memᴰ t ts → slow (suc k) ts (ParentIs t.name) ≡ suc (slow k ts t.parent)
  unfolding slow
  slow_up zero t m = unfold climbs in omega arith
  slow_up (suc k) t m = omega (arith, slow_up k t m, ap (λ (b : Bool). one_if (not b)) (climbs_up k t m))

  climbs_live : (k n : ℕ) → climbs k ts (ParentIs n) ≡ true → any (named n) ts ≡ true
  unfolding climbs
  climbs_live zero n e = absurd (false≢true e)
  climbs_live (suc k) n e = let r = any_member (λ t. named n t && climbs k ts t.parent) ts e in
      member_any (named n) ts r.0 r.1 (and_left (named n r.0) _ r.2)

  -- a parent from which k steps are enough
  known : (k : ℕ) (p : Parent) → has_parent p ≡ true → climbs k ts p ≡ true → (n : ℕ) × (p ≡ ParentIs n) × (any (named n) ts ≡ true)
      × (slow (suc k) ts p ≡ slow k ts p)
  known k NoParent h c = absurd (false≢true h)
  known k (ParentIs n) h c = (n, refl, climbs_live k n c, unfold slow in omega (arith, ap (λ (b : Bool). one_if (not b)) c))

none_is : (p : Parent) → not (has_parent p) ≡ true → p ≡ NoParent
none_is NoParent h = refl
none_is (ParentIs n) h = absurd (false≢true h)

pub tested_family : (T : Tables) → ((n : ℕ) → count (named n) T.threads ≤ 1) → parents_right T ≡ true → Family T.threads
tested_family T once pass = record {
  depth = λ n. slow (suc (length T.threads)) T.threads (ParentIs n);
  root = λ t m e. none_is t.parent (rw (eq-eqb t.name 0 e) at (first t m));
  under = λ t m d.
      let r = known T.threads once (length T.threads) t.parent (rw (ne_eqb t.name 0 d) at (first t m)) (second t m) in (
        r.0,
        r.1,
        r.2,
        omega (
          arith,
          slow_up T.threads once (length T.threads) t m,
          r.3,
          ap (slow (suc (length T.threads)) T.threads) r.1,
        ),
      );
}
  where
    first : (t : Thread) → Memᴰ t T.threads → (if t.name == 0 then not (has_parent t.parent) else has_parent t.parent) ≡ true
    first t m = and_left _ (climbs (length T.threads) T.threads t.parent) (all_at _ T.threads pass t m)

    second : (t : Thread) → Memᴰ t T.threads → climbs (length T.threads) T.threads t.parent ≡ true
    second t m =
        and_right (if t.name == 0 then not (has_parent t.parent) else has_parent t.parent) _ (all_at _ T.threads pass t m)

-- Where names are distinct, "parents are live, without a cycle, 0 alone has none" holds as a test exactly if it holds as a type.
pub family_exactly : (T : Tables) → ((n : ℕ) → count (named n) T.threads ≤ 1) → (parents_right T ≡ true) ↔ Family T.threads
family_exactly T once = (tested_family T once, family_tested T)
