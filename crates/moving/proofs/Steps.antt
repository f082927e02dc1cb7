-- The loops over a row of the memory, by the laws of Loops.antt: one row is written, and all else is as it was.
use Prim.Native.Nat.{ℕ, ◌+◌, ◌≤◌, ◌<◌}
use mathlib.Core.Path.{◌≡◌, refl, sym, ap, ◌∙◌}
use mathlib.Core.Bool.{Bool, true, false, not}
use mathlib.Core.List.{List, [], ◌∷◌, ◌++◌}
use native.Mathlib.Omega.{arith}
use lib.ListN.{length, take, drop, get_or, set, length-append}
use lib.Seq.{length-take-le}
use Rattle.laws.specs.Words.{Thread}
use Rattle.memory.specs.Rows.{Rows, view, Roomy, put_threads, put_count, put_ready, put_readies}
use Rattle.memory.specs.Rows.{ReadyIs, ThreadsAre, ThreadsLeft}
pub use Rattle.moving.specs.Row.{Row, the_threads, the_ready, the_clock, the_messages}
use Rattle.moving.specs.Row.{RowIs}
use Rattle.moving.proofs.Loops.{Sifted, sift_drops, sift_holds, Shifted, shift_ends, Appended, append_starts, append_next}
use Rattle.moving.proofs.Loops.{append_ends}

-- what is asked of the rows, asked of what they are equal to
pub by : (P : Rows → Type 0) {r s : Rows} → r ≡ s → P s → P r
by P e h = rw e h

abbrev pub Within : ℕ → Rows → Type 0
Within i r = Roomy r × (i < r.limits.threads)

-- ---- one row of the rows

-- only that row is not as it was in r₀, and P tells of it
pub record Only {A : Type 0} (w : Row A) (r₀ : Rows) (P : List A → Type 0) (r : Rows) : Type 0 where
  pub only : r ≡ w.put (w.of r) r₀
  pub so : P (w.of r)

module _ {A : Type 0} (w : Row A) {r₀ : Rows} where
  pub begins : {P : List A → Type 0} → P (w.of r₀) → Only w r₀ P r₀
  begins q = record { only = sym (w.put_own r₀); so = q }

  pub written : {Q : List A → Type 0} {r₁ : Rows} {l : List A} → r₁ ≡ w.put l r₀ → Q l → Only w r₀ Q r₁
  written {r₁ = r₁} {l} e q =
      let is : w.of r₁ ≡ l = ap w.of e ∙ w.put_of l r₀ in
      record { only = e ∙ ap (λ (k : List A). w.put k r₀) (sym is); so = rw is q }

  -- a turn of a loop writes the row
  pub writes : {P Q : List A → Type 0} {r r₁ : Rows} (l : List A) → Only w r₀ P r → r₁ ≡ w.put l r → Q l → Only w r₀ Q r₁
  writes {r = r} l O e q = written (e ∙ (ap (w.put l) O.only ∙ w.put_over l (w.of r) r₀)) q

  -- or does not
  pub stays : {P Q : List A → Type 0} {r : Rows} → Only w r₀ P r → Q (w.of r) → Only w r₀ Q r
  stays O q = record { only = O.only; so = q }

-- the rest of the rows stands
module _ {A : Type 0} (w : Row A) {r₀ r : Rows} (o : r ≡ w.put (w.of r) r₀) where
  limits_stand : r.limits ≡ r₀.limits
  limits_stand = ap (λ (x : Rows). x.limits) o ∙ w.put_limits (w.of r) r₀

  pub only_room : r.room ≡ r₀.room
  only_room = ap (λ (x : Rows). x.room) o ∙ w.put_room (w.of r) r₀

  pub only_limit : w.limit r.limits ≡ w.limit r₀.limits
  only_limit = ap w.limit limits_stand

  pub only_roomy : Roomy r₀ → Roomy r
  only_roomy h = rw (limits_stand, only_room) h

-- ---- a row without those that a test finds, what is left closed up

abbrev pub Keeping : {A : Type 0} → Row A → (A → Bool) → ℕ → Rows → Rows → ℕ → ℕ → Type 0
Keeping {A} w q n r₀ r k i = Only w r₀ (λ (l : List A). Sifted (λ (x : A). not (q x)) (λ (x : A). x) n (w.of r₀) l k i) r

module _ {A : Type 0} (w : Row A) (d : A) (q : A → Bool) {n : ℕ} {r₀ r : Rows} {k i : ℕ} {x : A} {b : Bool} where
  pub keep_drops : Keeping w q n r₀ r k i → i < n → x ≡ get_or (w.of r) i d → b ≡ q x → b ≡ true → Keeping w q n r₀ r k (i + 1)
  keep_drops K h z t e = stays w K (sift_drops _ _ _ _ _ _ _ d K.so h (ap not (ap q (sym z) ∙ (sym t ∙ e))))

  pub keep_holds : {r₁ : Rows} → Keeping w q n r₀ r k i → i < n → x ≡ get_or (w.of r) i d → b ≡ q x → b ≡ false →
      r₁ ≡ w.put (set (w.of r) k x) r → Keeping w q n r₀ r₁ (k + 1) (i + 1)
  keep_holds K h z t e p = writes w _ K p (sift_holds _ _ _ _ _ _ _ x d K.so h (ap not (ap q (sym z) ∙ (sym t ∙ e))) z)

-- ---- a row with one more

-- in the gap that a loop has opened
pub filled : {A : Type 0} (w : Row A) {r₀ r r₁ : Rows} {n i : ℕ} (at : ℕ) (x : A) → Only w r₀ (λ (l : List A). Shifted n (w.of r₀) l i) r →
    i ≡ at → r₁ ≡ w.put (set (w.of r) at x) r →
    Only w r₀ (λ (l : List A). take (n + 1) l ≡ take at (take n (w.of r₀)) ++ x ∷ drop at (take n (w.of r₀))) r₁
filled w {r₀} {r} {n = n} at x O e z = writes w _ O z (shift_ends n (w.of r₀) (w.of r) at x (rw e at O.so))

-- ---- what a loop leaves, when the row has k entries

module _ {r₀ r r₁ : Rows} (k : ℕ) where
  pub threads_left : {l : List Thread} → r ≡ put_threads r.threads r₀ → r₁ ≡ put_count k r → take k r.threads ≡ l →
      k ≤ r₀.limits.threads → ThreadsLeft r₀ r₁ l
  threads_left o e s f = rw e (record { only = ap (put_count k) o; says = s; fits = f })

-- the same of any row
pub row_is : {A : Type 0} (w : Row A) {r₀ r r₁ : Rows} (k : ℕ) {l : List A} → r ≡ w.put (w.of r) r₀ → r₁ ≡ w.put_count k r →
    take k (w.of r) ≡ l → k ≤ length (w.of r) → k ≤ w.limit r₀.limits → RowIs w r₀ r₁ l
row_is w {r₀} {r} k o e s h f =
    rw e (record {
      only = ap (w.put_count k) (o ∙ ap (λ (x : List _). w.put x r₀) (sym (w.count_of k r))) ∙ ap (λ (n : ℕ). w.put_count n (w.put (w.of (w.put_count k r)) r₀)) (sym (w.count_is k r));
      says = rw (w.count_is k r, w.count_of k r) s;
      counts = w.count_is k r ∙ (sym (length-take-le k (w.of r) h) ∙ ap length s);
      fits = rw (w.count_is k r) f;
    })

-- as many threads as before
pub threads_are : {r₀ r : Rows} {l : List Thread} → r ≡ put_threads r.threads r₀ → take r₀.count r.threads ≡ l → ThreadsAre r₀ r l
threads_are {r₀} {r} o s = record { only = o; says = ap (λ (q : Rows). take q.count r.threads) o ∙ s }

-- ---- the clock's waiters join the ready queue

module _ (r₀ : Rows) where
  pub record Joins (r : Rows) (i : ℕ) : Type 0 where
    pub only : r ≡ put_readies r.readies (put_ready r.ready r₀)
    pub appended : Appended r₀.clocks r₀.clock (view r₀).ready r₀.readies (view r).ready r.readies i
    pub counted : length (view r).ready ≡ r.readies

  pub joins_starts : length r₀.ready ≡ r₀.limits.threads → length r₀.clock ≡ r₀.limits.threads →
      r₀.readies + r₀.clocks ≤ r₀.limits.threads → Joins r₀ 0
  joins_starts l k f = record {
    only = refl;
    appended = append_starts r₀.clocks r₀.clock (view r₀).ready r₀.readies (omega arith);
    counted = length-take-le r₀.readies r₀.ready (omega arith);
  }

  pub joins_next : (r r₁ : Rows) (i x : ℕ) → Joins r i → i < r₀.clocks → x ≡ get_or r.clock i 0 →
      ReadyIs r r₁ ((view r).ready ++ (x ∷ [])) → Joins r₁ (i + 1)
  joins_next r r₁ i x J h z e =
      let one : r₁.readies ≡ r.readies + 1 = e.counts ∙ (length-append (view r).ready (x ∷ []) ∙ ap (λ (k : ℕ). k + 1) J.counted) in
      let same : x ≡ get_or r₀.clock i 0 = z ∙ ap (λ (s : Rows). get_or s.clock i 0) J.only in
      record {
        only = e.only ∙ ap (λ (s : Rows). put_readies r₁.readies (put_ready r₁.ready s)) J.only;
        appended = append_next r₀.clocks r₀.clock (view r₀).ready r₀.readies (view r).ready (view r₁).ready r.readies
            r₁.readies i 0 J.appended h
            (e.says ∙ ap (λ (y : ℕ). (view r).ready ++ (y ∷ [])) same) one;
        counted = ap length e.says ∙ sym e.counts;
      }

  pub joins_ends : (r : Rows) (i : ℕ) → Joins r i → r₀.clocks ≤ i → r₀.readies + r₀.clocks ≤ r₀.limits.threads →
      ReadyIs r₀ r ((view r₀).ready ++ (view r₀).clock)
  joins_ends r i J h f =
      let says = append_ends r₀.clocks r₀.clock (view r₀).ready r₀.readies (view r).ready r.readies i J.appended h in
      record {
        only = J.only;
        says = says;
        counts = sym J.counted ∙ ap length says;
        fits = omega (arith, J.appended.room, J.appended.within);
      }
