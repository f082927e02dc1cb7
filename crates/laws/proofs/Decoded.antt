-- What an event decoded from bytes has: its words and devices in their ranges.
use Rattle.std.proofs.Common.{◌==◌}
use Prim.Native.Nat.{ℕ, ◌+◌, ◌*◌, ◌<◌}
use mathlib.Core.Path.{◌≡◌, refl, ap, ◌∙◌}
use mathlib.Core.Bool.{true, ◌&&◌}
use mathlib.Core.List.{List, [], ◌∷◌}
use native.Mathlib.Omega.{arith}
use lib.Dec.{ltb}
use lib.ListN.{length, take, drop, get_or, length-drop}
use borrow.Author.Tests.{eqb-true, ltb-true}
use Rattle.rules.specs.Lists.{all, is_byte, number}
use Rattle.rules.specs.Numbers.{devices, wrap}
use Rattle.rules.specs.Tags.{facts_in, tag_facts, rule_in, argument_rule, meets}
use Rattle.rules.specs.Pick.{pick}
use Rattle.rules.specs.Events.{asked_in, request, trap_of, interrupt_of, meaning, field_of, decode}
use Rattle.laws.specs.Decoded.{ProperCall, Proper}
use Rattle.laws.proofs.Pick.{pick_foremost}
use Rattle.laws.proofs.Tests.{by_if, and_left, and_right}
use Rattle.laws.proofs.Tally.{all_drop}
use Rattle.laws.proofs.Bytes.{number_below}

-- ---- four bytes make 32 bits

abbrev Bytes : List ℕ → Type 0
Bytes v = all is_byte v ≡ true

word : (k : ℕ) (v : List ℕ) → length v ≡ k + 4 → Bytes v → number (drop k v) < wrap
word k v e b = number_below (drop k v) (all_drop k is_byte v b) (simp length-drop (omega arith))

-- ---- each tag

request_proper : (s a : ℕ) → meets (argument_rule s) a ≡ true → Proper (request s a)
unfolding request asked_in Proper ProperCall argument_rule rule_in meets
request_proper s a h =
    by_if Proper (s == 1) (λ _. tt) λ n1.
    by_if Proper (s == 2) (λ _. tt) λ n2.
    by_if Proper (s == 3) (λ _. tt) λ n3.
    by_if Proper (s == 4) (λ _. tt) λ n4.
    by_if Proper (s == 5) (λ _. tt) λ n5.
    by_if Proper (s == 6) (λ _. tt) λ n6.
    by_if Proper (s == 7) (λ _. tt) λ n7.
    by_if Proper (s == 8) (λ _. tt) λ n8.
    by_if Proper (s == 9) (λ n9. ltb-true a devices (simp (n1, n2, n3, n4, n5, n6, n7, n8, n9) at h)) (λ _. tt)

trap_proper : (k c : ℕ) → c < wrap → Proper (trap_of k c)
unfolding trap_of Proper ProperCall
trap_proper k c h = by_if Proper (k == 0) (λ _. h) λ _. by_if Proper (k == 1) (λ _. h) λ _. by_if Proper (k == 2) (λ _. h) λ _. tt

interrupt_proper : (p w : ℕ) → w < wrap → Proper (interrupt_of (pick p) w)
unfolding interrupt_of Proper
interrupt_proper p w h = by_if Proper ((pick p).refusal == 0) (λ e. ((pick_foremost p (eqb-true _ 0 e)).1, h)) (λ _. tt)

meaning_proper : (tag : ℕ) (v : List ℕ) → Bytes v → length v ≡ (tag_facts tag).length → Proper (meaning tag v)
unfolding meaning Proper ProperCall
meaning_proper tag v b e =
    by_if Proper (tag == 16) (λ t. word 1 v (e ∙ at 16 t ∙ sizes.0) b) λ n16.
    by_if Proper (tag == 17) (λ t. tt) λ n17.
    by_if Proper (tag == 18) (λ t. by_if Proper (meets (argument_rule (get_or v 0 0)) (number (drop 1 v))) (λ h. request_proper _ _ h)
    (λ _. tt)) λ n18.
    by_if Proper (tag == 19) (λ t. trap_proper _ _ (word 1 v (e ∙ at 19 t ∙ sizes.1) b)) λ n19.
    by_if Proper (tag == 20) (λ t. tt) λ n20.
    by_if Proper (tag == 21) (λ t. interrupt_proper (number (take 8 v)) (number (drop 8 v)) (word 8 v (e ∙ at 21 t ∙ sizes.2) b)) (λ _. tt)
  where
    at : (n : ℕ) → (tag == n) ≡ true → (tag_facts tag).length ≡ (tag_facts n).length
    at n t = ap (λ (x : ℕ). (tag_facts x).length) (eqb-true tag n t)

    sizes : ((tag_facts 16).length ≡ 5) × ((tag_facts 19).length ≡ 5) × ((tag_facts 21).length ≡ 12)
    sizes = unfold tag_facts facts_in in (refl, refl, refl)

field_proper : (bytes : List ℕ) → Bytes bytes → Proper (field_of bytes)
unfolding field_of Proper
field_proper [] b = tt
field_proper (tag ∷ []) b = tt
field_proper (tag ∷ high ∷ []) b = tt
field_proper (tag ∷ high ∷ low ∷ v) b =
    by_if Proper ((tag_facts tag).known && (high * 256 + low == (tag_facts tag).length) && (length v == high * 256 + low))
    (λ h.
    let k = and_left ((tag_facts tag).known && (high * 256 + low == (tag_facts tag).length)) _ h in
    meaning_proper tag v rest (eqb-true (length v) _ (and_right ((tag_facts tag).known && (high * 256 + low == (tag_facts tag).length)) _ h)
    ∙ eqb-true (high * 256 + low) _ (and_right (tag_facts tag).known _ k)))
    (λ _. tt)
  where
    rest : Bytes v
    rest = unfold all in and_right (ltb low 256) _ (and_right (ltb high 256) _ (and_right (ltb tag 256) _ b))

-- Whatever the bytes, the event that they mean has its values in their ranges.
pub decode_proper : (bytes : List ℕ) → Proper (decode bytes)
unfolding decode
decode_proper bytes = by_if Proper (all is_byte bytes) (λ b. field_proper bytes b) (λ _. unfold Proper in tt)
