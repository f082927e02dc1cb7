-- Single calls in order: their decisions, and what they leave.
use Rattle.std.proofs.Common.{◌==◌}
use Prim.Native.Nat.{ℕ}
use mathlib.Core.Path.{◌≡◌, refl, sym, ap, ap₂, ◌∙◌}
use mathlib.Core.Bool.{Bool, true, false, not}
use mathlib.Core.List.{List, [], ◌∷◌, ◌++◌, map, map-append}
use borrow.Author.Tests.{eqb-false, not-true}
use Rattle.rules.specs.Lists.{all}
use Rattle.rules.specs.Numbers.{small}
use Rattle.rules.specs.Tables.{Tables}
use Rattle.rules.specs.Step.{step}
use Rattle.rules.specs.Runs.{Input, run, decisions}
use Rattle.rules.specs.declared.Decision.{Decision}
use Rattle.laws.proofs.Tests.{and_left, and_right, ◌&◌}
use Rattle.laws.proofs.Steps.{run_last}
use Rattle.store.specs.Store.{tables}
use Rattle.lending.specs.Lent.{valid, no_tables, Answered}
use Rattle.lending.proofs.Determined.{broken_are_kept}
use Rattle.laws.proofs.Batch.{decisions_append}
use Rattle.batching.specs.Batching.{SingleCalls, none, call, decided, all_refused}

-- ---- one call

-- A step leaves a memory that passes the check exactly if it passed before.
pub stays_valid : {m bytes m' : List ℕ} {d : Decision} → Answered m bytes m' d → valid m' ≡ valid m
stays_valid {m} {bytes} {m'} p = on (valid m) refl
  where
    on : (b : Bool) → valid m ≡ b → valid m' ≡ valid m
    on true v = (p.leaves v).0 ∙ sym v
    on false v = ap valid (broken_are_kept p v)

-- ---- calls in order

all_apart : {A : Type 0} (p : A → Bool) (xs ys : List A) → all p (xs ++ ys) ≡ true → (all p xs ≡ true) × (all p ys ≡ true)
unfolding all
all_apart p [] ys h = (refl, h)
all_apart p (x ∷ xs) ys h =
    let k = all_apart p xs ys (and_right (p x) (all p (xs ++ ys)) h) in
    (and_left (p x) (all p (xs ++ ys)) h & k.0, k.1)

module _ {m : List ℕ} where
  pub calls_stay_valid : {es : Input} {ds : List Decision} {m' : List ℕ} → SingleCalls m es ds m' → valid m' ≡ valid m
  calls_stay_valid none = refl
  calls_stay_valid (call es ds m₁ e m₂ d cs p) = stays_valid p ∙ calls_stay_valid cs

  -- the tables of the rules' run
  pub calls_leave : {es : Input} {ds : List Decision} {m' : List ℕ} → SingleCalls m es ds m' → valid m ≡ true →
      tables m' ≡ run small (tables m) es
  unfolding run
  calls_leave none v = refl
  calls_leave (call es ds m₁ e m₂ d cs p) v =
      (p.leaves (calls_stay_valid cs ∙ v)).1
      ∙ (ap (λ (T : Tables). (step small T e).tables) (calls_leave cs v) ∙ sym (run_last small (tables m) es e))

  -- broken tables are kept by every call
  calls_broken : {es : Input} {ds : List Decision} {m' : List ℕ} → SingleCalls m es ds m' → valid m ≡ false → m' ≡ m
  calls_broken none v = refl
  calls_broken (call es ds m₁ e m₂ d cs p) v = broken_are_kept p (calls_stay_valid cs ∙ v) ∙ calls_broken cs v

  decided_by_rules : {es : Input} {ds : List Decision} {m' : List ℕ} → SingleCalls m es ds m' → valid m ≡ true →
      ds ≡ decisions small (tables m) es
  unfolding decisions
  decided_by_rules none v = refl
  decided_by_rules (call es ds m₁ e m₂ d cs p) v =
      ap₂ (λ (xs ys : List Decision). xs ++ ys) (decided_by_rules cs v)
      (ap (λ (x : Decision). x ∷ []) (p.decides (calls_stay_valid cs ∙ v)
      ∙ ap (λ (T : Tables). (step small T e).decision) (calls_leave cs v)))
      ∙ sym (decisions_append small (tables m) es (e ∷ []))

  decided_as_broken : {es : Input} {ds : List Decision} {m' : List ℕ} → SingleCalls m es ds m' → valid m ≡ false →
      ds ≡ map (λ _. no_tables) es
  decided_as_broken none v = refl
  decided_as_broken (call es ds m₁ e m₂ d cs p) v =
      ap₂ (λ (xs ys : List Decision). xs ++ ys) (decided_as_broken cs v)
      (ap (λ (x : Decision). x ∷ []) (p.refuses (calls_stay_valid cs ∙ v)))
      ∙ sym (map-append (λ (_ : List ℕ). no_tables) es (e ∷ []))

  -- the decisions of the rules, or 11 for each
  pub calls_decide : {es : Input} {ds : List Decision} {m' : List ℕ} → SingleCalls m es ds m' → ds ≡ decided m es
  unfolding decided
  calls_decide {es} {ds} cs = on (valid m) refl
    where
      on : (b : Bool) → valid m ≡ b → ds ≡ decided m es
      on true v = rw v (decided_by_rules cs v)
      on false v = rw v (decided_as_broken cs v)

  -- Where each of them was refused, every word is as it was.
  pub calls_keep : {es : Input} {ds : List Decision} {m' : List ℕ} → SingleCalls m es ds m' → all_refused ds ≡ true → m' ≡ m
  calls_keep none h = refl
  calls_keep (call es ds m₁ e m₂ d cs p) h =
      let k = all_apart _ ds (d ∷ []) h in
      p.keeps (eqb-false d.refusal 0 (not-true (d.refusal == 0) (unfold all in and_left (not (d.refusal == 0)) true k.1)))
      ∙ calls_keep cs k.0
