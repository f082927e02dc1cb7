-- Loops over a row: what is written so far, followed by what the rule makes of the rest, is what the rule makes of all.
-- n counts the row's entries, r₀ is the array as it came, r as it is, i the place in it.
use Rattle.std.proofs.Common.{if◌then◌else◌}
use Prim.Native.Nat.{ℕ, ◌+◌, ◌-◌, ◌≤◌, ◌<◌}
use mathlib.Core.Path.{◌≡◌, refl, sym, ◌∙◌, ap, ap₂, subst}
use mathlib.Core.Bool.{Bool, true, false, ◌&&◌}
use mathlib.Core.List.{List, [], ◌∷◌, ◌++◌, map, map-id, append-nil}
use native.Mathlib.Numerals.{add-one}
use native.Mathlib.Omega.{arith}
use lib.ListN.{length, take, drop, get_or, set, length-set, drop_of_length-le}
use lib.Seq.{drop-cons, get_or-take, get_or-drop, get_or-set_same, take-suc-set, take-set-le, take-set-lt, drop-set-lt, length-take-le}
use lib.Seq.{append_snoc, take-take, drop-drop, set-get_or, set_split}
use Rattle.rules.specs.Lists.{keep, count, one_if, all}

module _ {A : Type 0} where
  -- ---- an array's entries from i on

  pub cut_cons : (r : List A) (n i : ℕ) (d : A) → n ≤ length r → i < n → drop i (take n r) ≡ get_or r i d ∷ drop (i + 1) (take n r)
  cut_cons r n i d l h =
      let e : length (take n r) ≡ n = length-take-le n r l in
      drop-cons (take n r) i d (omega arith)
      ∙ (ap (λ (k : ℕ). get_or (take n r) i d ∷ drop k (take n r)) (sym (add-one i))
      ∙ ap (λ (x : A). x ∷ drop (i + 1) (take n r)) (get_or-take n r i d h))

  pub cut_end : (r : List A) (n i : ℕ) → n ≤ length r → n ≤ i → drop i (take n r) ≡ []
  cut_end r n i l h =
      let e : length (take n r) ≡ n = length-take-le n r l in
      let k : length (take n r) ≤ i = omega arith in
      drop_of_length-le (take n r) k

  pub wrote : (r : List A) (k : ℕ) (x : A) → k < length r → take (k + 1) (set r k x) ≡ take k r ++ (x ∷ [])
  wrote r k x h = ap (λ (j : ℕ). take j (set r k x)) (add-one k) ∙ take-suc-set r k x h

  pub record Left (n : ℕ) (r₀ r : List A) (i : ℕ) : Type 0 where
    pub whole : n ≤ length r₀
    pub within : i ≤ n
    pub long : length r ≡ length r₀
    pub rest : drop i r ≡ drop i r₀

  pub starts : (n : ℕ) (r : List A) (i : ℕ) → n ≤ length r → i ≤ n → Left n r r i
  starts n r i h k = record { whole = h; within = k; long = refl; rest = refl }

  pub same_at : (n : ℕ) (r₀ r : List A) (i j : ℕ) (d : A) → Left n r₀ r i → get_or r (i + j) d ≡ get_or r₀ (i + j) d
  same_at n r₀ r i j d L = sym (get_or-drop i r j d) ∙ (ap (λ (l : List A). get_or l j d) L.rest ∙ get_or-drop i r₀ j d)

  pub same_here : (n : ℕ) (r₀ r : List A) (i : ℕ) (d : A) → Left n r₀ r i → get_or r i d ≡ get_or r₀ i d
  same_here n r₀ r i d L =
      let z : i + 0 ≡ i = omega arith in
      ap (λ (k : ℕ). get_or r k d) (sym z) ∙ (same_at n r₀ r i 0 d L ∙ ap (λ (k : ℕ). get_or r₀ k d) z)

  pub moves : (n : ℕ) (r₀ r : List A) (i k : ℕ) (x : A) → Left n r₀ r i → i < n → k ≤ i → Left n r₀ (set r k x) (i + 1)
  moves n r₀ r i k x L h w =
      record {
        whole = L.whole;
        within = omega arith;
        long = length-set r k x ∙ L.long;
        rest = drop-set-lt (i + 1) r k x (omega arith) ∙ (sym (drop-drop 1 i r) ∙ (ap (drop 1) L.rest ∙ drop-drop 1 i r₀));
      }

  -- an entry passed over
  pub passes_by : (n : ℕ) (r₀ r : List A) (i : ℕ) → Left n r₀ r i → i < n → Left n r₀ r (i + 1)
  passes_by n r₀ r i L h = record {
    whole = L.whole;
    within = omega arith;
    long = L.long;
    rest = sym (drop-drop 1 i r)
        ∙ (ap (drop 1) L.rest ∙ drop-drop 1 i r₀);
  }

  pub left_cons : (n : ℕ) (r₀ r : List A) (i : ℕ) (d : A) → Left n r₀ r i → i < n → drop i (take n r₀) ≡ get_or r i d
      ∷ drop (i + 1) (take n r₀)
  left_cons n r₀ r i d L h = cut_cons r₀ n i d L.whole h ∙ ap (λ (x : A). x ∷ drop (i + 1) (take n r₀)) (sym (same_here n r₀ r i d L))

  -- ---- every entry changed
  module _ (f : A → A) (n : ℕ) (r₀ : List A) where
    pub record Mapped (r : List A) (i : ℕ) : Type 0 where
      pub left : Left n r₀ r i
      pub so : take i r ++ map f (drop i (take n r₀)) ≡ map f (take n r₀)

    pub map_starts : n ≤ length r₀ → Mapped r₀ 0
    map_starts h = record { left = starts n r₀ 0 h (omega arith); so = refl }

    pub map_next : (r : List A) (i : ℕ) (x d : A) → Mapped r i → i < n → x ≡ f (get_or r i d) → Mapped (set r i x) (i + 1)
    map_next r i x d M h e =
        let k : i < length r = omega (arith, M.left.whole, M.left.long) in
        record {
          left = moves n r₀ r i i x M.left h (omega arith);
          so = ap (λ (l : List A). l ++ map f (drop (i + 1) (take n r₀))) (wrote r i x k)
              ∙ (append_snoc (take i r) x (map f (drop (i + 1) (take n r₀)))
              ∙ (ap (λ (y : A). take i r ++ y ∷ map f (drop (i + 1) (take n r₀))) e
              ∙ (ap (λ (l : List A). take i r ++ map f l) (sym (left_cons n r₀ r i d M.left h)) ∙ M.so)));
        }

    pub map_ends : (r : List A) (i : ℕ) → Mapped r i → n ≤ i → take n r ≡ map f (take n r₀)
    map_ends r i M h =
        let e : i ≡ n = omega (arith, M.left.within) in
        ap (λ (k : ℕ). take k r) (sym e)
        ∙ (sym (append-nil (take i r)) ∙ (ap (λ (l : List A). take i r ++ map f l) (sym (cut_end r₀ n i M.left.whole h)) ∙ M.so))

  -- ---- those that pass, changed and closed up
  module _ (p : A → Bool) (g : A → A) (n : ℕ) (r₀ : List A) where
    pub record Sifted (r : List A) (k i : ℕ) : Type 0 where
      pub left : Left n r₀ r i
      pub behind : k ≤ i
      pub so : take k r ++ map g (keep p (drop i (take n r₀))) ≡ map g (keep p (take n r₀))

    pub sift_starts : n ≤ length r₀ → Sifted r₀ 0 0
    sift_starts h = record { left = starts n r₀ 0 h (omega arith); behind = omega arith; so = refl }

    pub sift_drops : (r : List A) (k i : ℕ) (d : A) → Sifted r k i → i < n → p (get_or r i d) ≡ false → Sifted r k (i + 1)
    unfolding keep
    sift_drops r k i d S h e =
        let rest : List A = drop (i + 1) (take n r₀) in
        record {
          left = passes_by n r₀ r i S.left h;
          behind = omega (arith, S.behind);
          so = ap (λ (b : Bool). take k r ++ map g (if b then get_or r i d ∷ keep p rest else keep p rest)) (sym e)
              ∙ (ap (λ (l : List A). take k r ++ map g (keep p l)) (sym (left_cons n r₀ r i d S.left h)) ∙ S.so);
        }

    pub sift_holds : (r : List A) (k i : ℕ) (x d : A) → Sifted r k i → i < n → p (get_or r i d) ≡ true → x ≡ g (get_or r i d) →
        Sifted (set r k x) (k + 1) (i + 1)
    unfolding keep
    sift_holds r k i x d S h e q =
        let rest : List A = drop (i + 1) (take n r₀) in
        let j : k < length r = omega (arith, S.left.whole, S.left.long, S.behind) in
        record {
          left = moves n r₀ r i k x S.left h S.behind;
          behind = omega (arith, S.behind);
          so = ap (λ (l : List A). l ++ map g (keep p rest)) (wrote r k x j)
              ∙ (append_snoc (take k r) x (map g (keep p rest))
              ∙ (ap (λ (y : A). take k r ++ y ∷ map g (keep p rest)) q
              ∙ (ap (λ (b : Bool). take k r ++ map g (if b then get_or r i d ∷ keep p rest else keep p rest)) (sym e)
              ∙ (ap (λ (l : List A). take k r ++ map g (keep p l)) (sym (left_cons n r₀ r i d S.left h)) ∙ S.so))));
        }

    pub sift_ends : (r : List A) (k i : ℕ) → Sifted r k i → n ≤ i → take k r ≡ map g (keep p (take n r₀))
    unfolding keep
    sift_ends r k i S h =
        sym (append-nil (take k r)) ∙ (ap (λ (l : List A). take k r ++ map g (keep p l)) (sym (cut_end r₀ n i S.left.whole h)) ∙ S.so)

  -- and not changed
  pub keep_ends : (p : A → Bool) (n : ℕ) (r₀ r : List A) (k i : ℕ) → Sifted p (λ (x : A). x) n r₀ r k i → n ≤ i →
      take k r ≡ keep p (take n r₀)
  keep_ends p n r₀ r k i S h = sift_ends p (λ (x : A). x) n r₀ r k i S h ∙ map-id (keep p (take n r₀))

  -- ---- without the entry at a place
  module _ (at n : ℕ) (r₀ : List A) where
    pub record Closing (r : List A) (i : ℕ) : Type 0 where
      pub left : Left n r₀ r i
      pub below : i < n
      pub so : take i r ++ drop (i + 1) (take n r₀) ≡ take at (take n r₀) ++ drop (at + 1) (take n r₀)

    pub close_starts : n ≤ length r₀ → at < n → Closing r₀ at
    close_starts l h = record {
      left = starts n r₀ at l (omega arith);
      below = h;
      so = ap (λ (z : List A). z ++ drop (at + 1) (take n r₀)) (sym (take-take at n r₀ (omega arith)));
    }

    pub close_next : (r : List A) (i : ℕ) (x d : A) → Closing r i → i < n - 1 → x ≡ get_or r (i + 1) d → Closing (set r i x) (i + 1)
    close_next r i x d C h e =
        let j : i < length r = omega (arith, C.left.whole, C.left.long) in
        record {
          left = moves n r₀ r i i x C.left C.below (omega arith);
          below = omega arith;
          so = ap (λ (l : List A). l ++ drop (i + 1 + 1) (take n r₀)) (wrote r i x j)
              ∙ (append_snoc (take i r) x (drop (i + 1 + 1) (take n r₀))
              ∙ (ap (λ (y : A). take i r ++ y ∷ drop (i + 1 + 1) (take n r₀)) (e ∙ same_at n r₀ r i 1 d C.left)
              ∙ (ap (λ (l : List A). take i r ++ l) (sym (cut_cons r₀ n (i + 1) d C.left.whole (omega arith))) ∙ C.so)));
        }

    pub close_ends : (r : List A) (i : ℕ) → Closing r i → n - 1 ≤ i → take (n - 1) r ≡ take at (take n r₀) ++ drop (at + 1) (take n r₀)
    close_ends r i C h =
        let e : i ≡ n - 1 = omega (arith, C.below) in
        ap (λ (k : ℕ). take k r) (sym e)
        ∙ (sym (append-nil (take i r)) ∙ (ap (λ (l : List A). take i r ++ l) (sym (cut_end r₀ n (i + 1) C.left.whole (omega arith)))
        ∙ C.so))

  -- ---- one more entry at a place: each from i on stands one further, and those before i as they were
  module _ (n : ℕ) (l₀ : List A) where
    pub record Shifted (l : List A) (i : ℕ) : Type 0 where
      pub long : length l ≡ length l₀
      pub room : n < length l₀
      pub within : i ≤ n
      pub front : take i l ≡ take i l₀
      pub back : drop (i + 1) (take (n + 1) l) ≡ drop i (take n l₀)

    pub shift_starts : n < length l₀ → Shifted l₀ n
    shift_starts h =
        record {
          long = refl;
          room = h;
          within = omega arith;
          front = refl;
          back = drop_of_length-le (take (n + 1) l₀) {i = n + 1} (omega (arith, length-take-le (n + 1) l₀ (omega arith)))
              ∙ sym (drop_of_length-le (take n l₀) {i = n} (omega (arith, length-take-le n l₀ (omega arith))));
        }

    shift_down : (l : List A) (i : ℕ) (d : A) → Shifted l (i + 1) → Shifted (set l (i + 1) (get_or l i d)) i
    shift_down l i d S =
        let x : A = get_or l₀ i d in
        let low : i < n = omega (arith, S.within) in
        let same : get_or l i d ≡ x = sym (get_or-take (i + 1) l i d (omega arith))
        ∙ (ap (λ (k : List A). get_or k i d) S.front ∙ get_or-take (i + 1) l₀ i d (omega arith)) in
        let in_l : i + 1 < length l = omega (arith, S.long, S.room) in
        let l' : List A = set l (i + 1) x in
        let long' : length l' ≡ length l₀ = length-set l (i + 1) x ∙ S.long in
        rw same (record {
          long = long';
          room = S.room;
          within = omega arith;
          front = take-set-le i l (i + 1) x (omega arith)
              ∙ (sym (take-take i (i + 1) l (omega arith)) ∙ (ap (take i) S.front ∙ take-take i (i + 1) l₀ (omega arith)));
          back = cut_cons l' (n + 1) (i + 1) d (omega (arith, long', S.room)) (omega arith)
              ∙ (ap₂ ◌∷◌ (get_or-set_same l (i + 1) x d in_l)
              (ap (drop (i + 1 + 1)) (take-set-lt (n + 1) l (i + 1) x (omega arith))
              ∙ (drop-set-lt (i + 1 + 1) (take (n + 1) l) (i + 1) x (omega arith) ∙ S.back))
              ∙ sym (cut_cons l₀ n i d (omega (arith, S.room)) low));
        })

    pub shift_next : (l : List A) (i : ℕ) (d : A) → 0 < i → Shifted l i → Shifted (set l i (get_or l (i - 1) d)) (i - 1)
    shift_next l i d p S = go (i - 1) (omega arith) S
      where
        go : (j : ℕ) → i ≡ j + 1 → Shifted l i → Shifted (set l i (get_or l j d)) j
        go j z S = rw z (shift_down l j d (rw z at S))

    pub shift_ends : (l : List A) (at : ℕ) (x : A) → Shifted l at → take (n + 1) (set l at x) ≡ take at (take n l₀) ++ x
        ∷ drop at (take n l₀)
    shift_ends l at x S =
        take-set-lt (n + 1) l at x (omega (arith, S.within))
        ∙ (set_split (take (n + 1) l) at x (omega (arith, length-take-le (n + 1) l (omega (arith, S.long, S.room)), S.within))
        ∙ ap₂ (λ (f b : List A). f ++ x ∷ b)
        (take-take at (n + 1) l (omega (arith, S.within)) ∙ (S.front ∙ sym (take-take at n l₀ S.within)))
        (ap (λ (k : ℕ). drop k (take (n + 1) l)) (sym (add-one at)) ∙ S.back))

  -- ---- what a test's entries give joins another row
  module _ {B : Type 0} (p : A → Bool) (g : A → B) (n : ℕ) (r : List A) (q : List B) (m : ℕ) where
    pub record Gathered (o : List B) (k i : ℕ) : Type 0 where
      pub whole : n ≤ length r
      pub within : i ≤ n
      pub room : k + count p (drop i (take n r)) ≡ m + count p (take n r)
      pub so : o ++ map g (keep p (drop i (take n r))) ≡ q ++ map g (keep p (take n r))

    pub gather_starts : n ≤ length r → Gathered q m 0
    gather_starts h = record { whole = h; within = omega arith; room = refl; so = refl }

    pub gather_by : (o : List B) (k i : ℕ) (d : A) → Gathered o k i → i < n → p (get_or r i d) ≡ false → Gathered o k (i + 1)
    unfolding keep count
    gather_by o k i d G h e =
        record {
          whole = G.whole;
          within = omega arith;
          room = omega arith ∙ (ap (λ (b : Bool). k + (one_if b + count p (drop (i + 1) (take n r)))) (sym e)
              ∙ (ap (λ (l : List A). k + count p l) (sym (cut_cons r n i d G.whole h)) ∙ G.room));
          so = ap (λ (b : Bool). o ++ map g (if b then get_or r i d ∷ keep p (drop (i + 1) (take n r)) else keep p (drop (i + 1) (take n r))))
              (sym e)
              ∙ (ap (λ (l : List A). o ++ map g (keep p l)) (sym (cut_cons r n i d G.whole h)) ∙ G.so);
        }

    pub gather_joins : (o o' : List B) (k k' i : ℕ) (d : A) → Gathered o k i → i < n → p (get_or r i d) ≡ true →
        o' ≡ o ++ (g (get_or r i d) ∷ []) → k' ≡ k + 1 → Gathered o' k' (i + 1)
    unfolding keep count
    gather_joins o o' k k' i d G h e a b =
        record {
          whole = G.whole;
          within = omega arith;
          room = omega (arith, b) ∙ (ap (λ (b : Bool). k + (one_if b + count p (drop (i + 1) (take n r)))) (sym e)
              ∙ (ap (λ (l : List A). k + count p l) (sym (cut_cons r n i d G.whole h)) ∙ G.room));
          so = ap (λ (l : List B). l ++ map g (keep p (drop (i + 1) (take n r)))) a
              ∙ (append_snoc o (g (get_or r i d)) (map g (keep p (drop (i + 1) (take n r))))
              ∙ (ap (λ (b : Bool). o ++ map g (if b then get_or r i d
              ∷ keep p (drop (i + 1) (take n r)) else keep p (drop (i + 1) (take n r)))) (sym e)
              ∙ (ap (λ (l : List A). o ++ map g (keep p l)) (sym (cut_cons r n i d G.whole h)) ∙ G.so)));
        }

    -- before a name joins there is room for it
    pub gather_room : (o : List B) (k i : ℕ) (d : A) → Gathered o k i → i < n → p (get_or r i d) ≡ true → k + 1 ≤ m + count p (take n r)
    unfolding count
    gather_room o k i d G h e =
        let q : count p (drop i (take n r)) ≡ 1 + count p (drop (i + 1) (take n r)) =
        ap (count p) (cut_cons r n i d G.whole h) ∙ ap (λ (b : Bool). one_if b + count p (drop (i + 1) (take n r))) e in
        omega (arith, G.room)

    pub gather_ends : (o : List B) (k i : ℕ) → Gathered o k i → n ≤ i → (o ≡ q ++ map g (keep p (take n r))) × (k ≡ m + count p (take n r))
    unfolding keep count
    gather_ends o k i G h = (
      sym (append-nil o) ∙ (ap (λ (l : List A). o ++ map g (keep p l)) (sym (cut_end r n i G.whole h)) ∙ G.so),
      (let q : count p (drop i (take n r)) ≡ 0 = ap (count p) (cut_end r n i G.whole h) in omega (arith, G.room)),
    )

  -- ---- one row behind another
  module _ (n : ℕ) (r q : List A) (m : ℕ) where
    pub record Appended (o : List A) (k i : ℕ) : Type 0 where
      pub whole : n ≤ length r
      pub within : i ≤ n
      pub room : k ≡ m + i
      pub so : o ++ drop i (take n r) ≡ q ++ take n r

    pub append_starts : n ≤ length r → Appended q m 0
    append_starts h = record { whole = h; within = omega arith; room = omega arith; so = refl }

    pub append_next : (o o' : List A) (k k' i : ℕ) (d : A) → Appended o k i → i < n → o' ≡ o ++ (get_or r i d ∷ []) → k' ≡ k + 1 →
        Appended o' k' (i + 1)
    append_next o o' k k' i d P h a b =
        record {
          whole = P.whole;
          within = omega arith;
          room = omega (arith, P.room, b);
          so = ap (λ (l : List A). l ++ drop (i + 1) (take n r)) a ∙ append_snoc o (get_or r i d) (drop (i + 1) (take n r))
              ∙ (ap (λ (l : List A). o ++ l) (sym (cut_cons r n i d P.whole h)) ∙ P.so);
        }

    pub append_ends : (o : List A) (k i : ℕ) → Appended o k i → n ≤ i → o ≡ q ++ take n r
    append_ends o k i P h = sym (append-nil o) ∙ (ap (λ (l : List A). o ++ l) (sym (cut_end r n i P.whole h)) ∙ P.so)

  -- ---- do all pass?
  module _ (p : A → Bool) (n : ℕ) (r : List A) where
    pub record Passed (i : ℕ) : Type 0 where
      pub whole : n ≤ length r
      pub within : i ≤ n
      pub so : all p (take n r) ≡ all p (drop i (take n r))

    pub all_starts : n ≤ length r → Passed 0
    all_starts h = record { whole = h; within = omega arith; so = refl }

    all_cons : (i : ℕ) (d : A) → Passed i → i < n → all p (take n r) ≡ (p (get_or r i d) && all p (drop (i + 1) (take n r)))
    unfolding all
    all_cons i d P h = P.so ∙ ap (all p) (cut_cons r n i d P.whole h)

    pub all_next : (i : ℕ) (d : A) → Passed i → i < n → p (get_or r i d) ≡ true → Passed (i + 1)
    all_next i d P h e =
        record { whole = P.whole; within = omega arith; so = all_cons i d P h ∙ ap (λ (b : Bool). b && all p (drop (i + 1) (take n r))) e }

    pub all_fails : (i : ℕ) (d : A) → Passed i → i < n → p (get_or r i d) ≡ false → false ≡ all p (take n r)
    all_fails i d P h e = sym (all_cons i d P h ∙ ap (λ (b : Bool). b && all p (drop (i + 1) (take n r))) e)

    pub all_ends : (i : ℕ) → Passed i → n ≤ i → true ≡ all p (take n r)
    unfolding all
    all_ends i P h = sym (P.so ∙ ap (all p) (cut_end r n i P.whole h))

  -- ---- how many pass
  module _ (p : A → Bool) (n : ℕ) (r : List A) where
    pub record Counted (k i : ℕ) : Type 0 where
      pub whole : n ≤ length r
      pub within : i ≤ n
      pub low : k ≤ i
      pub so : count p (take n r) ≡ k + count p (drop i (take n r))

    pub count_starts : n ≤ length r → Counted 0 0
    count_starts h = record { whole = h; within = omega arith; low = omega arith; so = omega arith }

    count_cons : (k i : ℕ) (d : A) → Counted k i → i < n →
        count p (take n r) ≡ k + (one_if (p (get_or r i d)) + count p (drop (i + 1) (take n r)))
    unfolding count
    count_cons k i d C h = C.so ∙ ap (λ (l : List A). k + count p l) (cut_cons r n i d C.whole h)

    pub count_more : (k i : ℕ) (d : A) → Counted k i → i < n → p (get_or r i d) ≡ true → Counted (k + 1) (i + 1)
    count_more k i d C h e = record {
      whole = C.whole;
      within = omega arith;
      low = omega (arith, C.low);
      so = count_cons k i d C h
          ∙ ap (λ (b : Bool). k + (one_if b + count p (drop (i + 1) (take n r)))) e ∙ omega arith;
    }

    pub count_skips : (k i : ℕ) (d : A) → Counted k i → i < n → p (get_or r i d) ≡ false → Counted k (i + 1)
    count_skips k i d C h e = record {
      whole = C.whole;
      within = omega arith;
      low = omega (arith, C.low);
      so = count_cons k i d C h
          ∙ ap (λ (b : Bool). k + (one_if b + count p (drop (i + 1) (take n r)))) e ∙ omega arith;
    }

    pub count_ends : (k i : ℕ) → Counted k i → n ≤ i → k ≡ count p (take n r)
    unfolding count
    count_ends k i C h = let z : count p (drop i (take n r)) ≡ 0 = ap (count p) (cut_end r n i C.whole h) in omega (arith, C.so)

  -- ---- those that pass changed, the others as they are
  module _ (p : A → Bool) (g : A → A) (n : ℕ) (r₀ : List A) where
    abbrev turned : A → A
    turned t = if p t then g t else t

    pub record Turned (r : List A) (i : ℕ) : Type 0 where
      pub mapped : Mapped turned n r₀ r i

    pub turn_starts : n ≤ length r₀ → Turned r₀ 0
    turn_starts h = record { mapped = map_starts turned n r₀ h }

    pub turn_next : (r : List A) (i : ℕ) (x d : A) → Turned r i → i < n → p (get_or r i d) ≡ true → x ≡ g (get_or r i d) →
        Turned (set r i x) (i + 1)
    turn_next r i x d T h e q = record {
      mapped = map_next turned n r₀ r i x d T.mapped h (q ∙ ap (λ (b : Bool). if b then g (get_or r i d) else get_or r i d) (sym e));
    }

    pub turn_by : (r : List A) (i : ℕ) (d : A) → Turned r i → i < n → p (get_or r i d) ≡ false → Turned r (i + 1)
    turn_by r i d T h e =
        let x : A = get_or r i d in
        let s : Mapped turned n r₀ (set r i x) (i + 1) =
        map_next turned n r₀ r i x d T.mapped h (ap (λ (b : Bool). if b then g x else x) (sym e)) in
        record { mapped = subst (λ (l : List A). Mapped turned n r₀ l (i + 1)) (set-get_or r i d) s }

    pub turn_ends : (r : List A) (i : ℕ) → Turned r i → n ≤ i → take n r ≡ map (λ (t : A). if p t then g t else t) (take n r₀)
    turn_ends r i T h = map_ends turned n r₀ r i T.mapped h
