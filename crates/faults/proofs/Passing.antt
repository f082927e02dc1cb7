-- A pass finds the first of the rules' offsets.
use Rattle.std.proofs.Common.{ℕ, ◌+◌, ◌≡◌, Bool, true, false, ◌||◌, ◌&&◌, not, if◌then◌else◌, ◌==◌, List, [], ◌∷◌, ◌++◌, map, refl, sym, ap, ◌∙◌, length, Option, Some, None, find, option_map, true≢false, ltb, Bor, is_some, MatchOption}
use Rattle.std.specs.Bool.{⊤}
use Rattle.std.proofs.lemmas.Iterator.{YieldsList}
use Rattle.std.proofs.lemmas.Iterator.Search.{find_from_yields_List}
use Rattle.std.specs.Iterator.{Yields, YieldsThen}
use Rattle.std.specs.Fn.{CalledAt}
use denote.Param.Members.{Mut}
use Rattle.std.specs.List.{FoldsTo}
use Rattle.std.proofs.lemmas.Iterator.Consumers.{YieldsList-from_shown}
use Rattle.std.proofs.lemmas.Iterator.Adapters.{option_map_id}
use Rattle.std.specs.Bool.{then_some}
use Rattle.rules.specs.Lists.{keep, any, has}
use Rattle.rules.specs.Fields.{complete, unread}
use Rattle.rules.specs.Tags.{dump_rows}
use Rattle.rules.specs.Load.{Field, as_field, fields_of}
use Rattle.rules.specs.Faults.{Placed as PlacedIs, placed_from, placed, offsets, ends_badly, wrong_length, faults_15}
use Rattle.faults.specs.declared.order.Before.{Before}
use Rattle.faults.specs.declared.placed.Placed.{Placed}
use Rattle.faults.specs.declared.placed.Fields.{Fields}
use Rattle.faults.specs.Order.{nothing_before, after, missing, Tells}
use Rattle.faults.specs.Fields.{standing, before_end, fields_from, left, end_of, ends_at, Gives}
use Rattle.faults.specs.Passes.{earliest_of}
use Rattle.faults.proofs.Behind.{nothing_tells, after_tells, missing_told}

pub yields : (s : Fields) → YieldsList Gives (λ x. x) s (left s)
yields s = YieldsList-from_shown Gives (λ x. x) left (λ t u g. ap length g.first.0) (λ t x u g. g.first) s

-- a fault by the rules, and the test by what the code keeps of the fields before
module _ (fault : PlacedIs → Bool) (test : Placed → Bool)
    (same : (at : ℕ) (tags : List ℕ) (b : Before) (f : Field) → Tells tags b →
    fault (record { at = at; before = tags; field = f }) ≡ test (record { at = at; before = b; field = f })) where
  first_at : (at : ℕ) (tags : List ℕ) (b : Before) (fs : List (List ℕ)) → Tells tags b →
      option_map (λ f. f.at) (find test (standing at b fs)) ≡ earliest_of (offsets fault (placed_from at tags fs))
  unfolding standing placed_from offsets keep
  first_at at tags b [] t = refl
  first_at at tags b (f ∷ fs) t =
      go (test (record { at = at; before = b; field = as_field f })) refl
      (first_at (at + length f) ((as_field f).tag ∷ tags) (after b (as_field f).tag) fs (after_tells (as_field f).tag tags b t))
    where
      go : (x : Bool) → test (record { at = at; before = b; field = as_field f }) ≡ x →
          option_map (λ f. f.at) (find test (standing (at + length f) (after b (as_field f).tag) fs))
          ≡ earliest_of (offsets fault (placed_from (at + length f) ((as_field f).tag ∷ tags) fs))
          → option_map (λ f. f.at) (find test (standing at b (f ∷ fs))) ≡ earliest_of (offsets fault (placed_from at tags (f ∷ fs)))
      go true e h = rw (e, same at tags b (as_field f) t ∙ e) refl
      go false e h = rw (e, same at tags b (as_field f) t ∙ e) h

  pub first_fault : (bytes : List ℕ) →
      option_map (λ f. f.at) (find test (standing 0 nothing_before (complete bytes))) ≡ earliest_of (offsets fault (placed bytes))
  first_fault bytes = first_at 0 [] nothing_before (complete bytes) nothing_tells

  -- as the library's search finds it, by a closure that is the test
  pub first_found : {F : Type 0} {g : Mut F (Bor Placed × Unit {0}) Bool} (bytes : Bor (List ℕ)) (s u : Fields) (closure : F) (r : Option Placed)
      → s ≡ fields_from bytes
      → (xs : List Placed) × (j : F) × YieldsThen Gives s xs r u × FoldsTo (λ p x q. CalledAt g p x false q) closure xs j
      × MatchOption r ⊤ (λ x. (h : F) × CalledAt g j x true h)
      → ((x : Placed) (b : Bool) (q : F) → CalledAt g closure x b q → (q ≡ closure) × (b ≡ test x))
      → option_map (λ f. f.at) r ≡ earliest_of (offsets fault (placed bytes.now))
  first_found bytes s u closure r e ran k =
      ap (option_map (λ f. f.at)) (sym (option_map_id r)
      ∙ (find_from_yields_List test u closure r ran (yields s) k ∙ ap (λ (x : Fields). find test (left x)) e))
      ∙ first_fault bytes.now

-- ---- the end

tags_of : List (List ℕ) → List ℕ
tags_of fs = map (λ (f : Field). f.tag) (map as_field fs)

pub or_moves : (x y z : Bool) → (x || (y || z)) ≡ ((y || x) || z)
or_moves true true z = refl
or_moves true false z = refl
or_moves false true z = refl
or_moves false false z = refl

pub or_false : (x : Bool) → (x || false) ≡ x
or_false true = refl
or_false false = refl

-- what is kept behind these fields tells of all tags
ends_told : (all tags : List ℕ) (b : Before) (fs : List (List ℕ)) → Tells tags b →
    ((t : ℕ) → has t all ≡ (has t tags || has t (tags_of fs)))
    → missing (before_end b fs) ≡ any (λ r. r.once && not (has r.tag all)) dump_rows
unfolding before_end any tags_of
ends_told all tags b [] t h = missing_told tags all b t (λ n. h n ∙ or_false (has n tags))
ends_told all tags b (f ∷ fs) t h =
    let tag = (as_field f).tag in
    ends_told all (tag ∷ tags) (after b tag) fs (after_tells tag tags b t)
    (λ n. h n ∙ or_moves (has n tags) (n == tag) (has n (tags_of fs)))

ends_from : (bytes : Bor (List ℕ)) → end_of (fields_from bytes) ≡ ends_badly bytes.now
unfolding ends_badly fields_of any tags_of
ends_from bytes =
    ap (λ (x : Bool). ltb 0 (length (unread bytes.now)) || x)
    (ends_told (tags_of (complete bytes.now)) [] nothing_before (complete bytes.now) nothing_tells (λ t. refl))

-- ---- the pass over lengths, and the end

abbrev pub wrong_offsets : List ℕ → List ℕ
wrong_offsets bytes = offsets (λ f. wrong_length f.field) (placed bytes)

earliest_first : (xs ys : List ℕ) (x : ℕ) → Some x ≡ earliest_of xs → Some x ≡ earliest_of (xs ++ ys)
earliest_first [] ys x e = absurd (true≢false (ap is_some e))
earliest_first (z ∷ xs) ys x e = e

earliest_second : (xs ys : List ℕ) → None ≡ earliest_of xs → earliest_of (xs ++ ys) ≡ earliest_of ys
earliest_second [] ys e = refl
earliest_second (z ∷ xs) ys e = absurd (true≢false (ap is_some (sym e)))

end_or_none : (n : ℕ) (b : Bool) → then_some b n ≡ earliest_of (if b then n ∷ [] else [])
end_or_none n true = refl
end_or_none n false = refl

-- calls keep the end
end_kept : (xs : List Placed) (s t : Fields) → Yields Gives s xs t → end_of t ≡ end_of s
end_kept [] s t e = ap (λ (x : Fields). end_of x) (sym e)
end_kept (x ∷ xs) s t g = end_kept xs g.0 t g.2 ∙ g.1.same_end

-- what a search for a wrong length finds
pub wrong_found : {F : Type 0} {g : Mut F (Bor Placed × Unit {0}) Bool} (bytes : Bor (List ℕ)) (s u : Fields) (closure : F) (r : Option Placed)
    → s ≡ fields_from bytes
    → (xs : List Placed) × (j : F) × YieldsThen Gives s xs r u × FoldsTo (λ p x q. CalledAt g p x false q) closure xs j
    × MatchOption r ⊤ (λ x. (h : F) × CalledAt g j x true h)
    → ((x : Placed) (b : Bool) (q : F) → CalledAt g closure x b q → (q ≡ closure) × (b ≡ wrong_length x.field))
    → option_map (λ f. f.at) r ≡ earliest_of (wrong_offsets bytes.now)
wrong_found = first_found (λ f. wrong_length f.field) (λ f. wrong_length f.field) (λ at tags b f t. refl)

pub first_wrong : (bytes : List ℕ) (at : ℕ) → Some at ≡ earliest_of (wrong_offsets bytes) → Some at ≡ earliest_of (faults_15 bytes)
unfolding faults_15
first_wrong bytes at e = earliest_first (wrong_offsets bytes) _ at e

pub none_wrong : (bytes : Bor (List ℕ)) (s u : Fields) (xs : List Placed) → s ≡ fields_from bytes → YieldsThen Gives s xs None u
    → None ≡ earliest_of (wrong_offsets bytes.now) → then_some (ends_at u) (length bytes.now) ≡ earliest_of (faults_15 bytes.now)
unfolding faults_15
none_wrong bytes s u xs e g none =
    let end : end_of s ≡ ends_badly bytes.now = ap (λ (x : Fields). end_of x) e ∙ ends_from bytes in
    let badly : ends_at u ≡ ends_badly bytes.now = g.2.done refl ∙ (g.2.same_end ∙ (end_kept xs s g.0 g.1 ∙ end)) in
    ap (λ (b : Bool). then_some b (length bytes.now)) badly
    ∙ (end_or_none (length bytes.now) (ends_badly bytes.now) ∙ sym (earliest_second (wrong_offsets bytes.now) _ none))
