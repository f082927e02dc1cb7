-- The column "runner needed" of the table of tags, and the events that need one.
use Rattle.std.proofs.Common.{if◌then◌else◌, ◌==◌}
use Prim.Native.Nat.{ℕ, ◌+◌, ◌*◌}
use mathlib.Core.Path.{◌≡◌, refl}
use mathlib.Core.Bool.{Bool, true, false, ◌&&◌, true≢false}
use mathlib.Core.List.{List, [], ◌∷◌}
use lib.ListN.{length, get_or, drop}
use Rattle.rules.specs.Lists.{all, is_byte, number}
use Rattle.rules.specs.Words.{Event, Malformed, ByRunner, Picked}
use Rattle.rules.specs.Tags.{facts_in, tag_facts, Service, services, argument_rule, meets}
use Rattle.rules.specs.Events.{asked_in, request, trap_of, interrupt_of, meaning, field_of, decode}
use Rattle.rules.specs.Refusals.{is_malformed, needs_runner}

-- what is to be shown of an event under a tag
abbrev Told : Bool → Event → Type 0
Told b e = is_malformed e ≡ false → needs_runner e ≡ b

by_if : {A : Type 0} (P : A → Type 0) (b : Bool) {x y : A} → (b ≡ true → P x) → (b ≡ false → P y) → P (if b then x else y)
by_if P true f g = f refl
by_if P false f g = g refl

rubbish : (b : Bool) → Told b Malformed
unfolding is_malformed
rubbish b h = absurd (true≢false h)

call : (c : _) → Told true (ByRunner c)
unfolding needs_runner
call c h = refl

traps : (k c : ℕ) → Told true (trap_of k c)
unfolding trap_of
traps k c =
    by_if (Told true) (k == 0) (λ _. call _) λ _.
    by_if (Told true) (k == 1) (λ _. call _) λ _.
    by_if (Told true) (k == 2) (λ _. call _) (λ _. rubbish true)

picks : (p : Picked) (w : ℕ) → Told false (interrupt_of p w)
unfolding interrupt_of needs_runner
picks p w = by_if (Told false) (p.refusal == 0) (λ _ h. refl) (λ _. rubbish false)

-- whatever services there are, what they ask for is asked by a runner
asks : (ss : List Service) (s a : ℕ) → Told true (asked_in ss s a)
unfolding asked_in
asks [] s a = rubbish true
asks (r ∷ rs) s a = by_if (Told true) (s == r.number) (λ _. call _) (λ _. asks rs s a)

means : (tag : ℕ) (v : List ℕ) → Told (tag_facts tag).runner (meaning tag v)
unfolding tag_facts facts_in meaning request needs_runner
means tag v =
    by_if P (tag == 16) (λ a. rw a (call _)) λ a.
    by_if P (tag == 17) (λ b. rw (a, b) (call _)) λ b.
    by_if P (tag == 18) (λ c. rw (a, b, c)
    (by_if (Told true) (meets (argument_rule (get_or v 0 0)) (number (drop 1 v))) (λ _. asks services _ _) (λ _. rubbish true))) λ c.
    by_if P (tag == 19) (λ d. rw (a, b, c, d) (traps _ _)) λ d.
    by_if P (tag == 20) (λ f. rw (a, b, c, d, f) (λ h. refl)) λ f.
    by_if P (tag == 21) (λ g. rw (a, b, c, d, f, g) (picks _ _)) (λ _. rubbish _)
  where
    P : Event → Type 0
    P e = Told (tag_facts tag).runner e

fields : (bytes : List ℕ) → Told (tag_facts (get_or bytes 0 0)).runner (field_of bytes)
unfolding field_of
fields [] = rubbish _
fields (tag ∷ []) = rubbish _
fields (tag ∷ high ∷ []) = rubbish _
fields (tag ∷ high ∷ low ∷ v) =
    by_if (Told (tag_facts tag).runner) ((tag_facts tag).known && high * 256 + low == (tag_facts tag).length && length v == high * 256 + low)
    (λ _. means tag v) (λ _. rubbish _)

-- of a well-formed field the table says whether it needs a runner
pub the_table_says_who_needs_a_runner : (bytes : List ℕ) → is_malformed (decode bytes) ≡ false →
    needs_runner (decode bytes) ≡ (tag_facts (get_or bytes 0 0)).runner
unfolding decode
the_table_says_who_needs_a_runner bytes =
    by_if (Told (tag_facts (get_or bytes 0 0)).runner) (all is_byte bytes) (λ _. fields bytes) (λ _. rubbish _)
