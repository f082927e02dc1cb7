-- The places of names: how they are filled in from the last thread to the first, and what a look into them says of "any" in the table rules.
use Rattle.std.proofs.Common.{if◌then◌else◌}
use Prim.Native.Nat.{ℕ, suc, ◌+◌, ◌-◌, ◌≤◌, ◌<◌}
use mathlib.Core.Path.{◌≡◌, refl, sym, ap, subst, ◌∙◌}
use mathlib.Core.Bool.{Bool, true, false, ◌&&◌}
use mathlib.Core.List.{List, ◌∷◌}
use native.Mathlib.Omega.{arith}
use lib.Dec.{ltb, eqb}
use lib.ListN.{length, take, drop, get_or, set, replicate, length-set, length-replicate, get_or-replicate}
use lib.Seq.{get_or-set_same, get_or-set_other, get_or-take}
use borrow.Author.Tests.{eqb-true, eqb-false}
use Rattle.rules.specs.Lists.{any, count}
use Rattle.rules.specs.Tables.{named}
use Rattle.rules.specs.declared.Thread.{Thread}
use Rattle.memory.specs.Rows.{view, place, no_thread}
use Rattle.memory.specs.Memory.{rows_of}
use Rattle.store.specs.Store.{Shaped, tables}
use Rattle.laws.proofs.Single.{any_one, any_neither}
use Rattle.indexing.proofs.Passing.{read_length}
use Rattle.moving.proofs.Loops.{cut_cons, cut_end}
use Rattle.moving.proofs.Found.{any_place, any_no, passes_at}
use Rattle.std.proofs.Common.{cond, Some, None, position}
use Rattle.std.specs.Bool.{then_some}
use Rattle.std.specs.Option.{is_some}
use Rattle.memory.proofs.Listing.{position_is, some_if, found, nowhere}
use Rattle.indexing.specs.Index.{Indexed, Once, Places, Indexes}

-- ---- filling it

module _ (n : ℕ) (ts : List Thread) where
  -- the threads from i on are in it
  pub record Filled (at : List ℕ) (i : ℕ) : Type 0 where
    pub whole : n ≤ length ts
    pub within : i ≤ n
    pub size : length at ≡ 256
    pub so : (m : ℕ) → m < 256 → get_or at m 0 ≡ i + place (named m) (drop i (take n ts))

  pub fill_starts : n ≤ length ts → Filled (replicate 256 n) n
  unfolding place
  fill_starts h =
      record {
        whole = h;
        within = omega arith;
        size = length-replicate 256 n;
        so = λ m k. get_or-replicate 256 m n 0 k
            ∙ (omega arith ∙ ap (λ (l : List Thread). n + place (named m) l) (sym (cut_end ts n n h (omega arith))));
      }

  pub fill_next : (at : List ℕ) (i : ℕ) (d : Thread) → Filled at i → 0 < i → (get_or ts (i - 1) d).name < 256 →
      Filled (set at (get_or ts (i - 1) d).name (i - 1)) (i - 1)
  unfolding place
  fill_next at i d F h b =
      let x : ℕ = (get_or ts (i - 1) d).name in
      let k : i - 1 < n = omega (arith, F.within) in
      let e : i - 1 + 1 ≡ i = omega arith in
      record {
        whole = F.whole;
        within = omega (arith, F.within);
        size = length-set at x (i - 1) ∙ F.size;
        so = λ m w. go at i d F h b m w (eqb m x) refl
            ∙ ap (λ (l : List Thread). i - 1 + place (named m) l)
            (sym (cut_cons ts n (i - 1) d F.whole k ∙ ap (λ (j : ℕ). get_or ts (i - 1) d ∷ drop j (take n ts)) e));
      }
    where
      go : (at : List ℕ) (i : ℕ) (d : Thread) → Filled at i → 0 < i → (get_or ts (i - 1) d).name < 256 → (m : ℕ) → m < 256 → (t : Bool) →
          eqb m (get_or ts (i - 1) d).name ≡ t →
          get_or (set at (get_or ts (i - 1) d).name (i - 1)) m 0 ≡ i - 1 + place (named m) (get_or ts (i - 1) d ∷ drop i (take n ts))
      go at i d F h b m w true t =
          let x : ℕ = (get_or ts (i - 1) d).name in
          ap (λ (j : ℕ). get_or (set at x (i - 1)) j 0) (eqb-true m x t)
          ∙ (get_or-set_same at x (i - 1) 0 (omega (arith, F.size))
          ∙ (omega arith ∙ ap (λ (c : Bool). i - 1 + (if c then 0 else suc (place (named m) (drop i (take n ts))))) (sym t)))
      go at i d F h b m w false t =
          let x : ℕ = (get_or ts (i - 1) d).name in
          get_or-set_other at x m (i - 1) 0 (eqb-false m x t)
          ∙ (F.so m w ∙ (omega arith ∙ ap (λ (c : Bool). i - 1 + (if c then 0 else suc (place (named m) (drop i (take n ts))))) (sym t)))

  pub fill_ends : (at : List ℕ) (i : ℕ) → Filled at i → i ≤ 0 → Indexed (take n ts) at
  fill_ends at i F h =
      let e : i ≡ 0 = omega arith in
      record { size = F.size; finds = λ m w. F.so m w ∙ ap (λ (j : ℕ). j + place (named m) (drop j (take n ts))) e ∙ omega arith }

-- names as they were read
pub fill_read : (n : ℕ) (ts : List Thread) (at : List ℕ) (i x : ℕ) (d : Thread) → Filled n ts at i → 0 < i → x ≡ (get_or ts (i - 1) d).name →
    x < 256 → Filled n ts (set at x (i - 1)) (i - 1)
fill_read n ts at i x d F h e b = rw e (fill_next n ts at i d F h (omega arith))

-- ---- a look into it

some_then : (b : Bool) (k : ℕ) → then_some b k ≡ cond b (Some k) None
some_then true k = refl
some_then false k = refl

-- where i was found there, of n threads
pub look_position : (ts : List Thread) (at : List ℕ) → Indexed ts at → (m : ℕ) → m < 256 → (i n : ℕ) → i ≡ get_or at m 0 → length ts ≡ n →
    then_some (ltb i n) i ≡ position (named m) ts
look_position ts at I m low i n e l = some_then _ i ∙ rw (position_is (named m) ts, l, e, I.finds m low) refl

-- one that passes has a place
pub position_any : {A : Type 0} (p : A → Bool) (xs : List A) → is_some (position p xs) ≡ any p xs
position_any p xs = rw (position_is p xs, any_place p xs) (some_if _ _)

module _ {A : Type 0} (p q : A → Bool) (xs : List A) where
  -- where one at most passes p, whether any passes p and q is what the one found says
  pub found_there : (j : ℕ) (d : A) → count p xs ≤ 1 → position p xs ≡ Some j → any (λ x. p x && q x) xs ≡ q (get_or xs j d)
  found_there j d c e =
      let f = found p j xs e in
      any_one p q xs j d c f.1 (ap (λ (k : ℕ). p (get_or xs k d)) f.0 ∙ passes_at p d xs (omega (arith, f.0, f.1)))

  pub none_found : position p xs ≡ None → any (λ x. p x && q x) xs ≡ false
  none_found e = any_neither p q xs (any_no p xs (nowhere p xs e))

-- names come once in the words that are handed out where they do in the memory
pub once_there : {m n : List ℕ} → m ≡ n → Once n → Once m
once_there e o = subst (λ (v : List ℕ). Once v) (sym e) o

-- an index holds its places, with names that come once, and no more
module _ {m at : List ℕ} {n : ℕ} where
  pub indexes : Places m at n → Once m → Indexes m at n
  indexes p o = record { shaped = p.shaped; indexed = p.indexed; many = p.many; once = o }

  pub indexes_places : Indexes m at n → Places m at n
  indexes_places x = record { shaped = x.shaped; indexed = x.indexed; many = x.many }

  pub indexes_once : Indexes m at n → Once m
  indexes_once x = x.once

-- the thread of a name, as the memory shows it at its place
module _ (m : List ℕ) (F : Shaped m) where
  pub place_within : (n j : ℕ) → position (named n) (tables m).threads ≡ Some j → j < (rows_of m).count
  unfolding tables
  place_within n j e = omega (arith, (found (named n) j (view (rows_of m)).threads e).1, read_length m F (rows_of m).count refl)

  pub thread_there : (n j : ℕ) → position (named n) (tables m).threads ≡ Some j →
      get_or (tables m).threads j no_thread ≡ get_or (rows_of m).threads j no_thread
  unfolding tables
  thread_there n j e = get_or-take (rows_of m).count (rows_of m).threads j no_thread (place_within n j e)

  pub thread_found : ((k : ℕ) → count (named k) (tables m).threads ≤ 1) → (n j : ℕ) → position (named n) (tables m).threads ≡ Some j →
      (q : Thread → Bool) → any (λ t. named n t && q t) (tables m).threads ≡ q (get_or (rows_of m).threads j no_thread)
  unfolding tables
  thread_found once n j e q =
      found_there (named n) q _ j no_thread (once n) e
      ∙ ap q (thread_there n j e)
