-- The walk for a free name over the threads of a memory, place by place, and how it comes round.
use Rattle.std.proofs.Common.{if◌then◌else◌}
use Prim.Native.Nat.{ℕ, suc, ◌+◌, ◌-◌, ◌%◌, ◌≤◌, ◌<◌}
use mathlib.Core.Path.{◌≡◌, refl, sym, ap, ◌∙◌}
use mathlib.Core.Logic.{◌≢◌}
use mathlib.Core.Bool.{Bool, true, false, not}
use mathlib.Core.List.{List, [], ◌∷◌}
use native.Mathlib.Omega.{arith}
use lib.Dec.{ltb}
use lib.ListN.{length, drop, get_or}
use borrow.Author.Tests.{ne_eqb, ltb-true}
use Rattle.rules.specs.Numbers.{names}
use Rattle.rules.specs.Requests.{free_name, next_name}
use Rattle.laws.specs.Words.{Thread}
use Rattle.laws.specs.Naming.{walked}
use Rattle.laws.proofs.Naming.{walk_moves, walk_stops, walk_ends, walk_gives, next_above, next_round, rising_next}
use Rattle.store.specs.Store.{tables, place, Holding}
use Rattle.store.proofs.Limits.{names_left, not_lower}
use Rattle.store.proofs.Lengths.{threads_limit}

-- ---- where the walk begins

module _ (c : ℕ) where
  abbrev not_below : Thread → Bool
  not_below t = not (ltb t.name c)

  -- those before the place have other names
  from_place : (ts : List Thread) → walked c (drop (place not_below ts) ts) ≡ walked c ts
  unfolding place walked
  from_place [] = refl
  from_place (t ∷ ts) = go (ltb t.name c) refl (from_place ts)
    where
      go : (b : Bool) → ltb t.name c ≡ b → walked c (drop (place not_below ts) ts) ≡ walked c ts →
          walked c (drop (if not b then 0 else suc (place not_below ts)) (t ∷ ts)) ≡ walked c (t ∷ ts)
      go false e later = refl
      go true e later = later ∙ ap (λ (b : Bool). walked (if b then (c + 1) % names else c) ts)
          (sym (ne_eqb c t.name (λ f. omega (arith, ltb-true t.name c e))))

-- ---- place by place

-- The walk behind `last` has come to place i with this name: the threads from there on give what all of them give, and have no lower name.
pub record Walks (m : List ℕ) (last name i : ℕ) : Type 0 where
  pub gives : walked name (drop i (tables m).threads) ≡ walked ((last + 1) % names) (tables m).threads
  pub lowest : (d : Thread) → i < length (tables m).threads → name ≤ (get_or (tables m).threads i d).name

pub sets_out : (m : List ℕ) (last name i : ℕ) → name ≡ (last + 1) % names → i ≡ place (λ t. not (ltb t.name name)) (tables m).threads →
    Walks m last name i
sets_out m last name i e f = record {
  gives = ap (λ (j : ℕ). walked name (drop j (tables m).threads)) f ∙ from_place name (tables m).threads
      ∙ ap (λ (c : ℕ). walked c (tables m).threads) e;
  lowest = λ d h. rw f (not_lower name (tables m).threads d (rw f at h));
}

module _ (m : List ℕ) (H : Holding m) (last name i n : ℕ) (count : n ≡ length (tables m).threads) (w : Walks m last name i) where
  -- at the thread of name k
  module _ (inside : i < n) (none : Thread) (k : ℕ) (at : k ≡ (get_or (tables m).threads i none).name) where
    pub moves_on : k ≡ name → (next : ℕ) → next ≡ (name + 1) % names → Walks m last next (i + 1)
    moves_on e next f = record {
      gives =
          ap (λ (c : ℕ). walked c (drop (i + 1) (tables m).threads)) f
          ∙ sym (walk_moves name (tables m).threads i none (omega arith) (sym e ∙ at))
          ∙ w.gives;
      lowest = λ d h. omega (arith, rising_next (tables m).threads i none d H.rising h, at);
    }

    pub is_free : (k ≡ name → ⊥) → name ≡ free_name (names - (last + 1) % names) last (tables m)
    is_free e =
        let l : name < (get_or (tables m).threads i none).name = omega (arith, w.lowest none (omega arith), e) in
        sym (walk_stops name (tables m).threads i none H.rising (omega arith) l) ∙ w.gives ∙ walk_gives (tables m) H.rising last

  pub is_last : n ≤ i → name ≡ free_name (names - (last + 1) % names) last (tables m)
  is_last l = sym (walk_ends name (tables m).threads i (omega arith)) ∙ w.gives ∙ walk_gives (tables m) H.rising last

-- ---- the next name

-- what was found behind the name given last
module _ (m : List ℕ) (H : Holding m) (l name : ℕ) (last : l ≡ (tables m).last) (e : name ≡ free_name (names - (l + 1) % names) l (tables m))
  where
    few : length (tables m).threads < names
    few = omega (arith, threads_limit m H.shaped, names_left m H.shaped)

    here : name ≡ free_name (names - ((tables m).last + 1) % names) (tables m).last (tables m)
    here = e ∙ ap (λ (x : ℕ). free_name (names - (x + 1) % names) x (tables m)) last

    pub found_above : name ≢ 0 → name ≡ next_name (tables m)
    found_above = next_above (tables m) few name here

    pub comes_round : name ≡ 0 → free_name names (names - 1) (tables m) ≡ next_name (tables m)
    comes_round = next_round (tables m) few name here
