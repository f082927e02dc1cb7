-- Going up by places and the rule of parents: every place leads above all exactly if the rule holds. Names are distinct.
use Rattle.std.proofs.Common.{if◌then◌else◌, ◌==◌}
use Prim.Native.Nat.{ℕ, zero, suc, ◌+◌, ◌≤◌, ◌<◌}
use mathlib.Core.Path.{◌≡◌, refl, sym, ap, subst, ◌∙◌}
use mathlib.Core.Logic.{◌⊎◌, inl, inr, ⊎_elim, ◌≢◌}
use mathlib.Core.Bool.{Bool, true, false, ◌&&◌, not, false≢true}
use mathlib.Core.List.{List, [], ◌∷◌}
use native.Mathlib.Numerals.{add-one}
use native.Mathlib.Omega.{arith}
use lib.Dec.{ltb}
use lib.ListN.{length, get_or}
use borrow.Author.Tests.{eq-eqb, lt-ltb, le-ltb, ltb-true, ltb-false}
use Rattle.rules.specs.Lists.{any, count}
use Rattle.rules.specs.Tables.{Tables, named, new_thread}
use Rattle.rules.specs.TableRules.{has_parent, climbs, parents_right}
use Rattle.laws.specs.Words.{Thread, Parent, NoParent, ParentIs, Running}
use Rattle.laws.proofs.Tests.{same?, and_left, and_right}
use Rattle.laws.proofs.Tally.{all_at}
use Rattle.laws.proofs.Single.{member_place, getD_member, any_one, any_neither, first_fails, rest_once}
use Rattle.laws.specs.Types.{Family}
use Rattle.laws.proofs.Descent.{family_tested}
use Rattle.memory.specs.Rows.{place}
use Rattle.moving.proofs.Found.{any_yes, any_no, passes_at}
use Rattle.ranging.specs.Upward.{above, Upward, after, AllLead}
use Rattle.ranging.proofs.Leading.{next, next_below, after_one, stays}
use Rattle.ranging.proofs.Raising.{above_top, above_none, above_zero, above_live, above_gone}

-- ---- where every place leads above all, each name has a depth

-- one that does not stand above itself has the parent that the rule asks for
record Under (ts : List Thread) (p : Parent) (k : ℕ) : Type 0 where
  parent : ℕ
  is : p ≡ ParentIs parent
  lives : place (named parent) ts < length ts
  at : k ≡ place (named parent) ts

well_placed : (ts : List Thread) (i name : ℕ) (p : Parent) → above ts i name p ≢ i → ((name ≡ 0) × (p ≡ NoParent))
    ⊎ ((name ≢ 0) × Under ts p (above ts i name p))
well_placed ts i name NoParent u =
    ⊎_elim (λ e. inl (e.0, refl)) (λ e. absurd (u (above_none ts i name NoParent e.0 refl))) (same? name 0)
well_placed ts i name (ParentIs m) u =
    ⊎_elim (λ e. absurd (u (above_zero ts i name (ParentIs m) m e.0 refl)))
    (λ e. inr (e.0, go e.0 (ltb (place (named m) ts) (length ts)) refl)) (same? name 0)
  where
    go : name ≢ 0 → (b : Bool) → ltb (place (named m) ts) (length ts) ≡ b → Under ts (ParentIs m) (above ts i name (ParentIs m))
    go e true t = let k : place (named m) ts < length ts =
        ltb-true _ _ t in record { parent = m; is = refl; lives = k; at = above_live ts i name (ParentIs m) m e refl k }
    go e false t = absurd (u (above_gone ts i name (ParentIs m) m e refl (ltb-false _ _ t)))

-- how many of k steps are taken from i
far : List ℕ → ℕ → ℕ → ℕ → ℕ
far up n zero i = 0
far up n (suc k) i = if ltb i n then suc (far up n k (next up n i)) else 0

-- once above all one takes no more
far_enough : (up : List ℕ) (n k i : ℕ) → n ≤ after up n k i → far up n (suc k) i ≡ far up n k i
unfolding far after
far_enough up n zero i h = rw (le-ltb i n h)
far_enough up n (suc k) i h = ap (λ (j : ℕ). if ltb i n then suc j else 0) (far_enough up n k (next up n i) h)

far_less : (up : List ℕ) (n k i : ℕ) → i < n → n ≤ after up n k i → far up n k (next up n i) < far up n k i
unfolding far
far_less up n k i h w =
    let e : far up n (suc k) i ≡ suc (far up n k (next up n i)) = rw (lt-ltb i n h) in
    omega (arith, far_enough up n k i w)

-- the only one of a name stands where a search finds it
place_only : (m : ℕ) (ts : List Thread) (i : ℕ) (d : Thread) → count (named m) ts ≤ 1 → i < length ts → named m (get_or ts i d) ≡ true →
    place (named m) ts ≡ i
unfolding place
place_only m [] i d c h e = absurd (omega arith)
place_only m (t ∷ ts) zero d c h e = rw e
place_only m (t ∷ ts) (suc i) d c h e =
    rw (first_fails (named m) t ts i d c (omega arith) e) (ap suc (place_only m ts i d (rest_once (named m) t ts c) (omega arith) e))

module _ (ts : List Thread) (once : (m : ℕ) → count (named m) ts ≤ 1) (up : List ℕ) (U : Upward ts up) where
  step_from : (i : ℕ) (d : Thread) → i < length ts → next up (length ts) i ≡ above ts i (get_or ts i d).name (get_or ts i d).parent
  step_from i d h = next_below up (length ts) i h ∙ U.so i d h

  own_place : (i : ℕ) (d : Thread) → i < length ts → place (named (get_or ts i d).name) ts ≡ i
  own_place i d h = place_only (get_or ts i d).name ts i d (once _) h (eq-eqb (get_or ts i d).name (get_or ts i d).name refl)

  -- one from which going up comes above all does not stand above itself
  moves_on : (k i : ℕ) (d : Thread) → i < length ts → length ts ≤ after up (length ts) k i →
      above ts i (get_or ts i d).name (get_or ts i d).parent ≢ i
  unfolding after
  moves_on k i d h w e = absurd (omega (arith, turns k, w))
    where
      turns : (j : ℕ) → after up (length ts) j i ≡ i
      turns zero = refl
      turns (suc j) = ap (after up (length ts) j) (step_from i d h ∙ e) ∙ turns j

  module _ (k : ℕ) (out : (i : ℕ) → i < length ts → length ts ≤ after up (length ts) k i) where
    depth : ℕ → ℕ
    depth m = far up (length ts) k (place (named m) ts)

    placed : (i : ℕ) (d : Thread) → i < length ts → (((get_or ts i d).name ≡ 0) × ((get_or ts i d).parent ≡ NoParent))
        ⊎ (((get_or ts i d).name ≢ 0) × Under ts (get_or ts i d).parent (above ts i (get_or ts i d).name (get_or ts i d).parent))
    placed i d h = well_placed ts i (get_or ts i d).name (get_or ts i d).parent (moves_on k i d h (out i h))

    under_at : (i : ℕ) (d : Thread) → i < length ts → (get_or ts i d).name ≢ 0 → (p : ℕ) × ((get_or ts i d).parent ≡ ParentIs p)
        × (any (named p) ts ≡ true) × (depth p < depth (get_or ts i d).name)
    unfolding depth
    under_at i d h u = ⊎_elim (λ e. absurd (u e.0)) (λ e. go e.1) (placed i d h)
      where
        go : Under ts (get_or ts i d).parent (above ts i (get_or ts i d).name (get_or ts i d).parent) →
            (p : ℕ) × ((get_or ts i d).parent ≡ ParentIs p) × (any (named p) ts ≡ true) × (depth p < depth (get_or ts i d).name)
        go B = (
          B.parent,
          B.is,
          any_yes (named B.parent) ts B.lives,
          omega (
            arith,
            far_less up (length ts) k i h (out i h),
            ap (far up (length ts) k) (step_from i d h ∙ B.at),
            ap (far up (length ts) k) (own_place i d h),
          ),
        )

    root_at : (i : ℕ) (d : Thread) → i < length ts → (get_or ts i d).name ≡ 0 → (get_or ts i d).parent ≡ NoParent
    root_at i d h e = ⊎_elim (λ w. w.1) (λ w. absurd (w.0 e)) (placed i d h)

    family : Family ts
    family =
        record {
          depth = depth;
          root = λ t m e. let w = member_place ts t t m in
              ap (λ (x : Thread). x.parent) (sym w.2) ∙ root_at w.0 t w.1 (ap (λ (x : Thread). x.name) w.2 ∙ e);
          under = λ t m u. let w = member_place ts t t m in
              subst (λ (x : Thread). (p : ℕ) × (x.parent ≡ ParentIs p) × (any (named p) ts ≡ true) × (depth p < depth x.name)) w.2
              (under_at w.0 t w.1 (λ e. u (ap (λ (x : Thread). x.name) (sym w.2) ∙ e)));
        }

-- ---- where the rule holds, every place leads above all

-- what the rule asks of a thread besides
abbrev first : Thread → Bool
first t = if t.name == 0 then not (has_parent t.parent) else has_parent t.parent

top_named : (t : Thread) → first t ≡ true → t.parent ≡ NoParent → t.name ≡ 0
top_named t f e = ⊎_elim (λ w. w.0) (λ w. absurd (false≢true (rw (w.1, e) at f))) (same? t.name 0)

child_named : (t : Thread) (m : ℕ) → first t ≡ true → t.parent ≡ ParentIs m → t.name ≢ 0
child_named t m f e z = absurd (false≢true (rw (eq-eqb t.name 0 z, e) at f))

module _ (ts : List Thread) (once : (m : ℕ) → count (named m) ts ≤ 1) (up : List ℕ) (U : Upward ts up) where
  -- a parent from which one climbs lives, and its own parent is a step nearer
  parent_climbs : (k m : ℕ) (d : Thread) → climbs (suc k) ts (ParentIs m) ≡ true → (place (named m) ts < length ts)
      × (climbs k ts (get_or ts (place (named m) ts) d).parent ≡ true)
  unfolding climbs
  parent_climbs k m d e = go (ltb (place (named m) ts) (length ts)) refl
    where
      go : (b : Bool) → ltb (place (named m) ts) (length ts) ≡ b → (place (named m) ts < length ts)
          × (climbs k ts (get_or ts (place (named m) ts) d).parent ≡ true)
      go true t =
          let h : place (named m) ts < length ts = ltb-true _ _ t in
          (h, sym (any_one (named m) (λ u. climbs k ts u.parent) ts (place (named m) ts) d (once m) h (passes_at (named m) d ts h)) ∙ e)
      go false t =
          absurd (false≢true (sym (any_neither (named m) (λ u. climbs k ts u.parent) ts (any_no (named m) ts (ltb-false _ _ t))) ∙ e))

  module _ (f : (i : ℕ) (d : Thread) → i < length ts → first (get_or ts i d) ≡ true) where
    from_top : (k i : ℕ) (d : Thread) → i < length ts → (get_or ts i d).parent ≡ NoParent → length ts ≤ after up (length ts) (suc k) i
    from_top k i d h q =
        let w : next up (length ts) i ≡ length ts =
        step_from ts once up U i d h ∙ above_top ts i _ _ (top_named (get_or ts i d) (f i d h) q) q in
        omega (arith, after_one up (length ts) k i, ap (after up (length ts) k) w, stays up (length ts) k (length ts) (omega arith))

    no_steps : (i : ℕ) (d : Thread) → i < length ts → (p : Parent) → (get_or ts i d).parent ≡ p → climbs 0 ts p ≡ true →
        length ts ≤ after up (length ts) 1 i
    unfolding climbs
    no_steps i d h NoParent q e = from_top 0 i d h q
    no_steps i d h (ParentIs m) q e = absurd (false≢true e)

    one_more : (k i : ℕ) (d : Thread) → i < length ts →
        ((j : ℕ) → j < length ts → climbs k ts (get_or ts j d).parent ≡ true → length ts ≤ after up (length ts) (suc k) j) → (p : Parent) →
        (get_or ts i d).parent ≡ p → climbs (suc k) ts p ≡ true → length ts ≤ after up (length ts) (suc (suc k)) i
    one_more k i d h r NoParent q e = from_top (suc k) i d h q
    one_more k i d h r (ParentIs m) q e =
        let a = parent_climbs k m d e in
        let w : next up (length ts) i ≡ place (named m) ts =
        step_from ts once up U i d h ∙ above_live ts i _ _ m (child_named (get_or ts i d) m (f i d h) q) q a.0 in
        omega (arith, after_one up (length ts) (suc k) i, ap (after up (length ts) (suc k)) w, r (place (named m) ts) a.0 a.1)

    leads_out : (k i : ℕ) (d : Thread) → i < length ts → climbs k ts (get_or ts i d).parent ≡ true →
        length ts ≤ after up (length ts) (suc k) i
    leads_out zero i d h e = no_steps i d h _ refl e
    leads_out (suc k) i d h e = one_more k i d h (λ j l w. leads_out k j d l w) _ refl e

-- the rule at a place
each_at : (T : Tables) → parents_right T ≡ true → (i : ℕ) (d : Thread) → i < length T.threads →
    (first (get_or T.threads i d) && climbs (length T.threads) T.threads (get_or T.threads i d).parent) ≡ true
each_at T e i d h = all_at _ T.threads e (get_or T.threads i d) (getD_member T.threads i d h)

-- What the loops decide is the rule.
pub decided : (T : Tables) → ((m : ℕ) → count (named m) T.threads ≤ 1) → (up : List ℕ) → Upward T.threads up → (n : ℕ) →
    length T.threads ≡ n → (b : Bool) → AllLead up n b → b ≡ parents_right T
decided T once up U n l true A =
    let w = (subst (λ (j : ℕ). AllLead up j true) (sym l) A).yes refl in
    sym (family_tested T (family T.threads once up U w.0 w.1))
decided T once up U n l false A = go ((subst (λ (j : ℕ). AllLead up j false) (sym l) A).no refl) (parents_right T) refl
  where
    go : (i : ℕ) × (i < length T.threads) × (after up (length T.threads) (length T.threads + 1) i < length T.threads) →
        (b : Bool) → parents_right T ≡ b → false ≡ b
    go w false e = refl
    go w true e =
        let d : Thread = new_thread 0 NoParent Running in
        absurd (omega (
          arith,
          w.2,
          ap (λ (j : ℕ). after up (length T.threads) j w.0) (add-one (length T.threads)),
          leads_out T.threads once up U (λ i d h. and_left (first (get_or T.threads i d)) _ (each_at T e i d h)) (length T.threads)
              w.0 d w.1 (and_right (first (get_or T.threads w.0 d)) _ (each_at T e w.0 d w.1)),
        ))
