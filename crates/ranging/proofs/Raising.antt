-- What stands above each thread, by places, and the loop that makes an entry for each.
use Prim.Native.Nat.{ℕ, zero, suc, ◌+◌, ◌≤◌, ◌<◌}
use mathlib.Core.Path.{◌≡◌, refl, sym, ap, subst, ◌∙◌}
use mathlib.Core.Logic.{⊎_elim, ◌≢◌}
use mathlib.Core.Bool.{Bool, true, false}
use mathlib.Core.List.{List, [], ◌∷◌}
use native.Mathlib.Omega.{arith}
use lib.Dec.{ltb, eqb}
use lib.ListN.{length, take, get_or, set, length-set}
use lib.Seq.{length-take-le, get_or-take, get_or-set_same, get_or-set_other}
use borrow.Author.Tests.{eq-eqb, ne_eqb, eqb-true, eqb-false, lt-ltb, le-ltb, ltb-true, ltb-false}
use Rattle.rules.specs.Tables.{named}
use Rattle.laws.specs.Words.{Thread, Parent, NoParent, ParentIs}
use Rattle.laws.proofs.Tests.{same?}
use Rattle.memory.specs.Rows.{place}
use Rattle.std.proofs.Common.{cond, Some, None, position, if◌then◌else◌}
use Rattle.std.specs.Option.{unwrap_or}
use Rattle.memory.proofs.Listing.{position_is}
use Rattle.ranging.specs.Upward.{above, Upward}

-- ---- what stands above a thread

module _ (ts : List Thread) (i name : ℕ) (p : Parent) where
  pub above_top : name ≡ 0 → p ≡ NoParent → above ts i name p ≡ length ts
  unfolding above
  above_top e f = rw (eq-eqb name 0 e, f)

  pub above_none : name ≢ 0 → p ≡ NoParent → above ts i name p ≡ i
  unfolding above
  above_none e f = rw (ne_eqb name 0 e, f)

  pub above_zero : (m : ℕ) → name ≡ 0 → p ≡ ParentIs m → above ts i name p ≡ i
  unfolding above
  above_zero m e f = rw (eq-eqb name 0 e, f)

  pub above_live : (m : ℕ) → name ≢ 0 → p ≡ ParentIs m → place (named m) ts < length ts → above ts i name p ≡ place (named m) ts
  unfolding above
  above_live m e f h = rw (ne_eqb name 0 e, f, lt-ltb (place (named m) ts) (length ts) h)

  pub above_gone : (m : ℕ) → name ≢ 0 → p ≡ ParentIs m → length ts ≤ place (named m) ts → above ts i name p ≡ i
  unfolding above
  above_gone m e f h = rw (ne_eqb name 0 e, f, le-ltb (place (named m) ts) (length ts) h)

  -- the place of a parent, where it has one
  pub above_found : (m : ℕ) → name ≢ 0 → p ≡ ParentIs m → unwrap_or (position (named m) ts) i ≡ above ts i name p
  unfolding above
  above_found m e f = rw (position_is (named m) ts, ne_eqb name 0 e, f) (go (ltb (place (named m) ts) (length ts)))
    where
      go : (b : Bool) → unwrap_or (cond b (Some (place (named m) ts)) None) i ≡ (if b then place (named m) ts else i)
      go true = refl
      go false = refl

-- it is a place or above all
above_within : (ts : List Thread) (i name : ℕ) (p : Parent) → i ≤ length ts → above ts i name p ≤ length ts
above_within ts i name NoParent h = ⊎_elim (λ e. omega (arith, above_top ts i name NoParent e.0 refl))
    (λ e. omega (arith, above_none ts i name NoParent e.0 refl)) (same? name 0)
above_within ts i name (ParentIs m) h = ⊎_elim (λ e. omega (arith, above_zero ts i name (ParentIs m) m e.0 refl))
    (λ e. go e.0 (ltb (place (named m) ts) (length ts)) refl) (same? name 0)
  where
    go : name ≢ 0 → (b : Bool) → ltb (place (named m) ts) (length ts) ≡ b → above ts i name (ParentIs m) ≤ length ts
    go e true t = let k : place (named m) ts < length ts = ltb-true _ _ t in omega (arith, above_live ts i name (ParentIs m) m e refl k)
    go e false t = omega (arith, above_gone ts i name (ParentIs m) m e refl (ltb-false _ _ t))

-- ---- an entry for each thread, in turn

any_default : {A : Type 0} (l : List A) (i : ℕ) (d e : A) → i < length l → get_or l i d ≡ get_or l i e
any_default [] i d e h = absurd (omega arith)
any_default (x ∷ l) zero d e h = refl
any_default (x ∷ l) (suc i) d e h = any_default l i d e (omega arith)

module _ (n : ℕ) (ts : List Thread) where
  pub record Raised (up : List ℕ) (i : ℕ) : Type 0 where
    pub whole : n ≤ length ts
    pub within : i ≤ n
    pub long : n ≤ length up
    pub so : (j : ℕ) (d : Thread) → j < i → get_or up j 0 ≡ above (take n ts) j (get_or ts j d).name (get_or ts j d).parent

  pub raise_starts : (up : List ℕ) → n ≤ length ts → n ≤ length up → Raised up 0
  raise_starts up h l = record { whole = h; within = omega arith; long = l; so = λ j d k. absurd (omega arith) }

  pub raise_next : (up : List ℕ) (i k : ℕ) (d : Thread) → Raised up i → i < n →
      k ≡ above (take n ts) i (get_or ts i d).name (get_or ts i d).parent → Raised (set up i k) (i + 1)
  raise_next up i k d R h e =
      record {
        whole = R.whole;
        within = omega arith;
        long = omega (arith, R.long, length-set up i k);
        so = λ j f l. go up i k d R h e j f l (eqb j i) refl;
      }
    where
      go : (up : List ℕ) (i k : ℕ) (d : Thread) → Raised up i → i < n → k ≡ above (take n ts) i (get_or ts i d).name (get_or ts i d).parent →
          (j : ℕ) (f : Thread) → j < i + 1 → (b : Bool) → eqb j i ≡ b →
          get_or (set up i k) j 0 ≡ above (take n ts) j (get_or ts j f).name (get_or ts j f).parent
      go up i k d R h e j f l true t =
          let q : i ≡ j = sym (eqb-true j i t) in
          subst (λ (m : ℕ). get_or (set up i k) m 0 ≡ above (take n ts) m (get_or ts m f).name (get_or ts m f).parent) q
          (get_or-set_same up i k 0 (omega (arith, R.long))
          ∙ (e ∙ ap (λ (x : Thread). above (take n ts) i x.name x.parent) (any_default ts i d f (omega (arith, R.whole)))))
      go up i k d R h e j f l false t =
          let u : j ≢ i = eqb-false j i t in
          get_or-set_other up i j k 0 u ∙ R.so j f (omega arith)

  pub raise_low : (up : List ℕ) (i k : ℕ) (d : Thread) → Raised up i → i < n →
      k ≡ above (take n ts) i (get_or ts i d).name (get_or ts i d).parent → k ≤ n
  raise_low up i k d R h e = omega (
    arith,
    length-take-le n ts R.whole,
    above_within (take n ts) i (get_or ts i d).name
        (get_or ts i d).parent (omega (arith, length-take-le n ts R.whole)),
  )

  pub raise_ends : (up : List ℕ) (i : ℕ) → Raised up i → n ≤ i → Upward (take n ts) up
  raise_ends up i R h =
      record {
        so = λ j d k.
            let w : j < n = omega (arith, length-take-le n ts R.whole) in
            R.so j d (omega arith) ∙ ap (λ (x : Thread). above (take n ts) j x.name x.parent) (sym (get_or-take n ts j d w));
      }

-- only the entries of threads count
pub upward_cut : (ts : List Thread) (up : List ℕ) (n : ℕ) → length ts ≡ n → Upward ts up → Upward ts (take n up)
upward_cut ts up n l U = record { so = λ i d h. get_or-take n up i 0 (omega arith) ∙ U.so i d h }
