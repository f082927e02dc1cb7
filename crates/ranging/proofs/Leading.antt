-- Going up by places: steps add up, above all one stays, and the loops that try whether each place leads above all.
use Rattle.std.proofs.Common.{if◌then◌else◌}
use Prim.Native.Nat.{ℕ, zero, suc, ◌+◌, ◌≤◌, ◌<◌}
use mathlib.Core.Path.{◌≡◌, refl, sym, ap, subst, ◌∙◌}
use mathlib.Core.Logic.{◌⊎◌, ⊎_elim}
use mathlib.Core.Bool.{Bool, true, false, true≢false, false≢true}
use mathlib.Core.List.{List}
use native.Mathlib.Numerals.{add-one}
use native.Mathlib.Omega.{arith}
use lib.Dec.{ltb}
use lib.ListN.{get_or}
use borrow.Author.Tests.{lt-ltb, le-ltb, ltb-true, ltb-false}
use Rattle.ranging.specs.Upward.{after, Leads, AllLead}

module _ (up : List ℕ) (n : ℕ) where
  -- one step
  abbrev pub next : ℕ → ℕ
  next i = if ltb i n then get_or up i 0 else i

  pub next_below : (i : ℕ) → i < n → next i ≡ get_or up i 0
  next_below i h = rw (lt-ltb i n h)

  next_above : (i : ℕ) → n ≤ i → next i ≡ i
  next_above i h = rw (le-ltb i n h)

  pub after_one : (k i : ℕ) → after up n (suc k) i ≡ after up n k (next i)
  unfolding after
  after_one k i = refl

  -- the step more is the first or the last
  after_last : (k i : ℕ) → after up n (suc k) i ≡ next (after up n k i)
  unfolding after
  after_last zero i = refl
  after_last (suc k) i = after_last k (next i)

  after_more : (k i : ℕ) → after up n k i < n → after up n (k + 1) i ≡ get_or up (after up n k i) 0
  after_more k i h = ap (λ (j : ℕ). after up n j i) (add-one k) ∙ (after_last k i ∙ next_below _ h)

  after_add : (j k i : ℕ) → after up n (j + k) i ≡ after up n k (after up n j i)
  unfolding after
  after_add zero k i = let e : 0 + k ≡ k = omega arith in ap (λ (m : ℕ). after up n m i) e
  after_add (suc j) k i = let e : suc j + k ≡ suc (j + k) =
      omega arith in ap (λ (m : ℕ). after up n m i) e ∙ (after_one (j + k) i ∙ after_add j k (next i))

  pub stays : (k i : ℕ) → n ≤ i → after up n k i ≡ i
  unfolding after
  stays zero i h = refl
  stays (suc k) i h = ap (after up n k) (next_above i h) ∙ stays k i h

  stays_above : (j k i : ℕ) → n ≤ after up n j i → n ≤ after up n (j + k) i
  stays_above j k i h = subst (λ (m : ℕ). n ≤ m) (sym (after_add j k i ∙ stays k (after up n j i) h)) h

  -- ---- from one place
  module _ (i : ℕ) where
    -- k steps led to x, not before i and not above all
    pub record Gone (x k : ℕ) : Type 0 where
      pub few : k ≤ n + 1
      pub behind : i ≤ x
      pub below : x < n
      pub so : x ≡ after up n k i

    pub go_starts : i < n → Gone i 0
    unfolding after
    go_starts h = record { few = omega arith; behind = omega arith; below = h; so = refl }

    step : (x k y : ℕ) → Gone x k → y ≡ get_or up x 0 → after up n (k + 1) i ≡ y
    step x k y G e = after_more k i (omega (arith, G.so, G.below)) ∙ (ap (λ (z : ℕ). get_or up z 0) (sym G.so) ∙ sym e)

    pub go_next : (x k y : ℕ) → Gone x k → k ≤ n → y ≡ get_or up x 0 → i ≤ y → y < n → Gone y (k + 1)
    go_next x k y G h e a b = record { few = omega arith; behind = a; below = b; so = sym (step x k y G e) }

    pub go_leads : (x k y : ℕ) → Gone x k → y ≡ get_or up x 0 → (y < i) ⊎ (n ≤ y) → Leads up n i true
    go_leads x k y G e w =
        record {
          yes = λ _. (k + 1, subst (λ (z : ℕ). (z < i) ⊎ (n ≤ z)) (sym (step x k y G e)) w);
          no = λ f. absurd (true≢false f);
        }

    pub go_ends : (x k : ℕ) → Gone x k → n < k → Leads up n i false
    go_ends x k G h =
        let e : k ≡ n + 1 = omega (arith, G.few) in
        record {
          yes = λ f. absurd (false≢true f);
          no = λ _. subst (λ (z : ℕ). z < n) (G.so ∙ ap (λ (j : ℕ). after up n j i) e)
              G.below;
        }

  -- ---- from each place in turn

  -- going up leads above all from each place before i, in k steps
  pub record Led (i : ℕ) : Type 0 where
    pub within : i ≤ n
    pub steps : ℕ
    pub so : (j : ℕ) → j < i → n ≤ after up n steps j

  pub lead_starts : Led 0
  lead_starts = record { within = omega arith; steps = 0; so = λ j h. absurd (omega arith) }

  pub lead_next : (i : ℕ) (b : Bool) → Led i → i < n → Leads up n i b → b ≡ true → Led (i + 1)
  lead_next i b L h D t =
      let w = D.yes t in
      record {
        within = omega arith;
        steps = L.steps + w.0;
        so = λ j k. go i L w.0 w.1 j k (ltb j i) refl;
      }
    where
      go : (i : ℕ) (L : Led i) (s : ℕ) → (after up n s i < i) ⊎ (n ≤ after up n s i) → (j : ℕ) → j < i + 1 → (b : Bool) → ltb j i ≡ b →
          n ≤ after up n (L.steps + s) j
      go i L s w j k true t = stays_above L.steps s j (L.so j (ltb-true j i t))
      go i L s w j k false t =
          let e : i ≡ j = omega (arith, ltb-false j i t) in
          let f : s + L.steps ≡ L.steps + s = omega arith in
          subst (λ (x : ℕ). n ≤ after up n (L.steps + s) x) e
          (subst (λ (x : ℕ). n ≤ after up n x i) f
          (⊎_elim (λ a. subst (λ (x : ℕ). n ≤ x) (sym (after_add s L.steps i)) (L.so _ a)) (λ a. stays_above s L.steps i a) w))

  pub lead_fails : (i : ℕ) (b : Bool) → i < n → Leads up n i b → b ≡ false → AllLead up n false
  lead_fails i b h D t = record { yes = λ f. absurd (false≢true f); no = λ _. (i, h, D.no t) }

  pub lead_ends : (i : ℕ) → Led i → n ≤ i → AllLead up n true
  lead_ends i L h = record { yes = λ _. (L.steps, λ j k. L.so j (omega arith)); no = λ f. absurd (true≢false f) }
