-- When bytes are malformed, in words beside `decode`: exactly if one of a list of plain flaws is there.
use Rattle.std.proofs.Common.{if◌then◌else◌, ◌==◌}
use Prim.Native.Nat.{ℕ, zero, suc, ◌+◌, ◌*◌, ◌≤◌, ◌<◌}
use mathlib.Core.Path.{◌≡◌, refl, sym, ap, ◌∙◌}
use mathlib.Core.Logic.{◌⊎◌, inl, inr, ⊎_elim, ◌≢◌, ◌↔◌}
use mathlib.Core.Bool.{Bool, true, false, ◌&&◌, false≢true}
use mathlib.Core.List.{List, [], ◌∷◌, Memᴰ}
use native.Mathlib.Omega.{arith}
use lib.Dec.{ltb}
use lib.ListN.{length, take, drop, get_or}
use borrow.Author.Tests.{ltb-true, ltb-false, le-ltb, eqb-true, eqb-false, eq-eqb, ne_eqb}
use Rattle.rules.specs.Lists.{all, any, is_byte, from_on, number_from, number}
use Rattle.rules.specs.Tags.{facts_in, tag_facts, Service, services, rule_in, argument_rule, meets}
use Rattle.rules.specs.Pick.{pending, pick_order, first_pending, pick, no_pick}
use Rattle.rules.specs.Events.{asked_in, request, trap_of, interrupt_of, meaning, field_of, decode}
use Rattle.laws.specs.Words.{Picked, Event, Malformed, Argument, ByRunner}
use Rattle.laws.specs.Flaws.{tag, declared, first, second, pending_word, bit, value_length, BadRequest, service_0, service_over_9}
use Rattle.laws.specs.Flaws.{argument_not_0, device_over_47, Flaw, no_byte, too_short, tag_under_16, tag_over_21, wrong_length}
use Rattle.laws.specs.Flaws.{behind_or_missing, bad_request, kind_over_2, none_pending, one_over_47}
use Rattle.laws.proofs.Pick.{NoDevice, by_order}
use Rattle.laws.proofs.Tests.{by_if, clash, same?, and_left, and_right, and_false}
use Rattle.laws.proofs.Tally.{any_member, all_at, not_any}
use Rattle.laws.proofs.Members.{from_on_mem}

-- ---- the table of tags

beyond : (n t : ℕ) → n ≤ t → t ≢ n → n < t
beyond n t h d = omega (arith, d)

under : (n s : ℕ) → s ≤ suc n → s ≢ suc n → s ≤ n
under n s h d = omega (arith, d)

-- a tag is unknown, or it is 16 to 21 and has its length
abbrev Row : ℕ → Type 0
Row t = (((tag_facts t).known ≡ false) × ((t < 16) ⊎ (21 < t)))
    ⊎ (((tag_facts t).known ≡ true) × (16 ≤ t) × (t ≤ 21) × ((tag_facts t).length ≡ value_length t))

rows_known : Row 16 × Row 17 × Row 18 × Row 19 × Row 20 × Row 21
unfolding tag_facts facts_in value_length
rows_known = (
  inr (refl, omega arith, omega arith, refl),
  inr (refl, omega arith, omega arith, refl),
  inr (refl, omega arith, omega arith, refl),
  inr (refl, omega arith, omega arith, refl),
  inr (refl, omega arith, omega arith, refl),
  inr (refl, omega arith, omega arith, refl),
)

row : (t : ℕ) → Row t
unfolding tag_facts facts_in value_length
row t =
    ⊎_elim (λ e. rw e.0 rows_known.0) (λ a.
    ⊎_elim (λ e. rw e.0 rows_known.1) (λ b.
    ⊎_elim (λ e. rw e.0 rows_known.2) (λ c.
    ⊎_elim (λ e. rw e.0 rows_known.3) (λ d.
    ⊎_elim (λ e. rw e.0 rows_known.4) (λ f.
    ⊎_elim (λ e. rw e.0 rows_known.5) (λ g.
    inl (rw (a.1, b.1, c.1, d.1, f.1, g.1), far (ltb t 16) refl a.0 b.0 c.0 d.0 f.0 g.0))
    (same? t 21)) (same? t 20)) (same? t 19)) (same? t 18)) (same? t 17)) (same? t 16)
  where
    far : (x : Bool) → ltb t 16 ≡ x → t ≢ 16 → t ≢ 17 → t ≢ 18 → t ≢ 19 → t ≢ 20 → t ≢ 21 → (t < 16) ⊎ (21 < t)
    far true e a b c d f g = inl (ltb-true t 16 e)
    far false e a b c d f g =
        inr (beyond 21 t (beyond 20 t (beyond 19 t (beyond 18 t (beyond 17 t (beyond 16 t (ltb-false t 16 e) a) b) c) d) f) g)

-- ---- requests

bad_meets_nothing : (s a : ℕ) → BadRequest s a → meets (argument_rule s) a ≡ false
unfolding argument_rule rule_in meets
bad_meets_nothing s a (argument_not_0 (mathlib.Core.List.Memᴰ.tail (mathlib.Core.List.Memᴰ.tail (mathlib.Core.List.Memᴰ.tail (mathlib.Core.List.Memᴰ.tail x17)))) d) = elim x17 [ ]
bad_meets_nothing s a (service_0 e) = rw e
bad_meets_nothing s a (service_over_9 h) =
    rw (
      ne_eqb s 1 (λ e. omega (arith, e)),
      ne_eqb s 2 (λ e. omega (arith, e)),
      ne_eqb s 3 (λ e. omega (arith, e)),
      ne_eqb s 4 (λ e. omega (arith, e)),
      ne_eqb s 5 (λ e. omega (arith, e)),
      ne_eqb s 6 (λ e. omega (arith, e)),
      ne_eqb s 7 (λ e. omega (arith, e)),
      ne_eqb s 8 (λ e. omega (arith, e)),
      ne_eqb s 9 (λ e. omega (arith, e)),
    )
bad_meets_nothing s a (argument_not_0 (Memᴰ.head e) d) = rw e (ne_eqb a 0 d)
bad_meets_nothing s a (argument_not_0 (Memᴰ.tail (Memᴰ.head e)) d) = rw e (ne_eqb a 0 d)
bad_meets_nothing s a (argument_not_0 (Memᴰ.tail (Memᴰ.tail (Memᴰ.head e))) d) = rw e (ne_eqb a 0 d)
bad_meets_nothing s a (argument_not_0 (Memᴰ.tail (Memᴰ.tail (Memᴰ.tail (Memᴰ.head e)))) d) = rw e (ne_eqb a 0 d)
bad_meets_nothing s a (device_over_47 e h) = rw e (le-ltb a 48 (omega arith))

meets_or_bad : (s a : ℕ) → meets (argument_rule s) a ≡ false → BadRequest s a
unfolding argument_rule rule_in meets
meets_or_bad s a =
    by_if Bad (s == 1) (λ e h. argument_not_0 (Memᴰ.head (eqb-true s 1 e)) (eqb-false a 0 h)) λ n1.
    by_if Bad (s == 2) (λ e h. argument_not_0 (Memᴰ.tail (Memᴰ.head (eqb-true s 2 e))) (eqb-false a 0 h)) λ n2.
    by_if Bad (s == 3) (λ e h. absurd (clash refl h)) λ n3.
    by_if Bad (s == 4) (λ e h. absurd (clash refl h)) λ n4.
    by_if Bad (s == 5) (λ e h. absurd (clash refl h)) λ n5.
    by_if Bad (s == 6) (λ e h. absurd (clash refl h)) λ n6.
    by_if Bad (s == 7) (λ e h. argument_not_0 (Memᴰ.tail (Memᴰ.tail (Memᴰ.head (eqb-true s 7 e)))) (eqb-false a 0 h)) λ n7.
    by_if Bad (s == 8) (λ e h. argument_not_0 (Memᴰ.tail (Memᴰ.tail (Memᴰ.tail (Memᴰ.head (eqb-true s 8 e)))))
    (eqb-false a 0 h)) λ n8.
    by_if Bad (s == 9) (λ e h. device_over_47 (eqb-true s 9 e) (omega (arith, ltb-false a 48 h))) λ n9 h.
    far (ltb 9 s) refl (eqb-false s 1 n1) (eqb-false s 2 n2) (eqb-false s 3 n3) (eqb-false s 4 n4) (eqb-false s 5 n5) (eqb-false s 6 n6)
    (eqb-false s 7 n7) (eqb-false s 8 n8) (eqb-false s 9 n9)
  where
    Bad : Argument → Type 0
    Bad r = meets r a ≡ false → BadRequest s a

    none : s ≤ 0 → s ≡ 0
    none q = omega arith

    far : (x : Bool) → ltb 9 s ≡ x → s ≢ 1 → s ≢ 2 → s ≢ 3 → s ≢ 4 → s ≢ 5 → s ≢ 6 → s ≢ 7 → s ≢ 8 → s ≢ 9 → BadRequest s a
    far true e a b c d f g h i j = service_over_9 (ltb-true 9 s e)
    far false e a b c d f g h i j = service_0
        (none (under 0 s
        (under 1 s (under 2 s (under 3 s (under 4 s (under 5 s (under 6 s (under 7 s (under 8 s (ltb-false 9 s e) j) i) h) g) f) d) c) b)
        a))

-- a value of two bytes has its second as argument
argument_is : (v : List ℕ) → length v ≡ 2 → number (drop 1 v) ≡ get_or v 1 0
unfolding number_from
argument_is [] e = absurd (omega arith)
argument_is (a ∷ []) e = absurd (omega arith)
argument_is (a ∷ b ∷ []) e = omega arith
argument_is (a ∷ b ∷ c ∷ v) e = absurd (omega arith)

-- ---- the pick

on_low : (a k n : ℕ) → Memᴰ n (from_on a k) → (a ≤ n) × (n < a + k)
unfolding from_on
on_low a zero n m = elim m [ ]
on_low a (suc k) n (Memᴰ.head e) = (omega arith, omega arith)
on_low a (suc k) n (Memᴰ.tail m) = let r = on_low (suc a) k n m in (omega (arith, r.0), omega (arith, r.1))

bit_0 : (w n : ℕ) → pending w n ≡ false → bit w n ≡ 0
bit_0 w n e = omega (arith, eqb-false (bit w n) 1 e)

-- a word is served, or it has one of the two flaws
abbrev Picks : ℕ → Type 0
Picks w = (((pick w).refusal ≡ 0) × ((d : ℕ) × (d < 48) × (bit w d ≡ 1)) × ((n : ℕ) → 47 < n → n < 64 → bit w n ≡ 0))
    ⊎ ((pick w ≡ no_pick) × (((n : ℕ) → n < 64 → bit w n ≡ 0) ⊎ ((n : ℕ) × (47 < n) × (n < 64) × (bit w n ≡ 1))))

picks : (w : ℕ) → Picks w
unfolding pick
picks w = go (any (pending w) (from_on 48 16)) refl
  where
    P : Picked → Type 0
    P p = ((p.refusal ≡ 0) × ((d : ℕ) × (d < 48) × (bit w d ≡ 1)) × ((n : ℕ) → 47 < n → n < 64 → bit w n ≡ 0))
        ⊎ ((p ≡ no_pick) × (((n : ℕ) → n < 64 → bit w n ≡ 0) ⊎ ((n : ℕ) × (47 < n) × (n < 64) × (bit w n ≡ 1))))

    none : (n : ℕ) → n < 64 → any (pending w) (from_on 48 16) ≡ false → NoDevice w → (b : Bool) → ltb n 48 ≡ b → pending w n ≡ false
    none n h e f true i = f n (ltb-true n 48 i)
    none n h e f false i = not_any (pending w) (from_on 48 16) n e (from_on_mem 48 16 n (ltb-false n 48 i) h)

    go : (b : Bool) → any (pending w) (from_on 48 16) ≡ b → P (if b then no_pick else first_pending w pick_order)
    go true e = let r = any_member (pending w) (from_on 48 16) e in let o = on_low 48 16 r.0 r.1 in
        inr (refl, inr (r.0, omega (arith, o.0), omega (arith, o.1), eqb-true (bit w r.0) 1 r.2))
    go false e =
        ⊎_elim
        (λ r. inl (
          ap (λ (x : Picked). x.refusal) r.1,
          (r.0, r.2, eqb-true (bit w r.0) 1 r.3),
          λ n a b. bit_0 w n (not_any (pending w) (from_on 48 16) n e (from_on_mem 48 16 n a b)),
        ))
        (λ r. inr (r.0, inl (λ n h. bit_0 w n (none n h e r.1 (ltb n 48) refl))))
        (by_order w)

-- ---- a flaw makes the bytes malformed

-- the event of a field
abbrev field : ℕ → ℕ → ℕ → List ℕ → Event
field t h l v = if (tag_facts t).known && h * 256 + l == (tag_facts t).length && length v == h * 256 + l then meaning t v else Malformed

-- bytes that have a property are malformed if each field that has it is
by_field : (Q : List ℕ → Type 0) (bytes : List ℕ) → Q bytes → ((t h l : ℕ) (v : List ℕ) → Q (t ∷ h ∷ l ∷ v) → field t h l v ≡ Malformed) →
    decode bytes ≡ Malformed
unfolding decode field_of
by_field Q bytes q f = by_if (λ (e : Event). e ≡ Malformed) (all is_byte bytes) (λ _. go bytes q) (λ _. refl)
  where
    go : (b : List ℕ) → Q b → field_of b ≡ Malformed
    go [] r = refl
    go (t ∷ []) r = refl
    go (t ∷ h ∷ []) r = refl
    go (t ∷ h ∷ l ∷ v) r = f t h l v r

-- if the meaning is asked for, tag and lengths are right
by_meaning : (t h l : ℕ) (v : List ℕ) → (length v ≡ value_length t → meaning t v ≡ Malformed) → field t h l v ≡ Malformed
by_meaning t h l v f = by_if (λ (e : Event). e ≡ Malformed) ((tag_facts t).known && h * 256 + l == (tag_facts t).length
    && length v == h * 256 + l) (λ c. f (right c (row t))) (λ _. refl)
  where
    right : ((tag_facts t).known && h * 256 + l == (tag_facts t).length && length v == h * 256 + l) ≡ true → Row t → length v ≡ value_length t
    right c (inl r) =
        absurd (clash (and_left (tag_facts t).known _ (and_left ((tag_facts t).known && h * 256 + l == (tag_facts t).length) _ c)) r.0)
    right c (inr r) = eqb-true (length v) _ (and_right ((tag_facts t).known && h * 256 + l == (tag_facts t).length) _ c)
        ∙ eqb-true (h * 256 + l) _ (and_right (tag_facts t).known _
        (and_left ((tag_facts t).known && h * 256 + l == (tag_facts t).length) _ c)) ∙ r.3

module _ (t h l : ℕ) (v : List ℕ) where
  unknown : (t < 16) ⊎ (21 < t) → field t h l v ≡ Malformed
  unknown d = ⊎_elim (λ r. rw r.0) (λ r. absurd (⊎_elim (λ e. omega (arith, r.1, e)) (λ e. omega (arith, r.2, e)) d)) (row t)

  other_length : h * 256 + l ≢ value_length t → field t h l v ≡ Malformed
  other_length d = ⊎_elim (λ r. rw r.0) (λ r. rw (r.0, ne_eqb (h * 256 + l) (tag_facts t).length (λ e. d (e ∙ r.3)))) (row t)

  other_size : length v ≢ h * 256 + l → field t h l v ≡ Malformed
  other_size d = rw (ne_eqb (length v) (h * 256 + l) d, and_false ((tag_facts t).known && h * 256 + l == (tag_facts t).length))

  request_flaw : t ≡ 18 → BadRequest (get_or v 0 0) (get_or v 1 0) → field t h l v ≡ Malformed
  unfolding meaning value_length
  request_flaw e b =
      by_meaning t h l v (λ n. rw e (rw (argument_is v (n ∙ ap value_length e), bad_meets_nothing (get_or v 0 0) (get_or v 1 0) b)))

  trap_flaw : t ≡ 19 → 2 < get_or v 0 0 → field t h l v ≡ Malformed
  unfolding meaning trap_of
  trap_flaw e b = by_meaning t h l v
      (λ n. rw (
        e,
        ne_eqb (get_or v 0 0) 0 (λ k. omega (arith, k)),
        ne_eqb (get_or v 0 0) 1 (λ k. omega (arith, k)),
        ne_eqb (get_or v 0 0) 2 (λ k. omega (arith, k)),
      ))

  pick_flaw : t ≡ 21 → pick (number (take 8 v)) ≡ no_pick → field t h l v ≡ Malformed
  unfolding meaning interrupt_of
  pick_flaw e b = by_meaning t h l v (λ n. rw (e, b))

not_a_byte : (bytes : List ℕ) (b : ℕ) → Memᴰ b bytes → 256 ≤ b → decode bytes ≡ Malformed
unfolding decode
not_a_byte bytes b m h = by_if (λ (e : Event). e ≡ Malformed) (all is_byte bytes)
    (λ a. absurd (omega (arith, ltb-true b 256 (all_at is_byte bytes a b m)))) (λ _. refl)

flawed : (bytes : List ℕ) → Flaw bytes → decode bytes ≡ Malformed
flawed bytes (no_byte b m h) = not_a_byte bytes b m h
flawed bytes (too_short h) = by_field (λ b. length b < 3) bytes h (λ t x l v q. absurd (omega arith))
flawed bytes (tag_under_16 h) = by_field (λ b. tag b < 16) bytes h (λ t x l v q. unknown t x l v (inl q))
flawed bytes (tag_over_21 h) = by_field (λ b. 21 < tag b) bytes h (λ t x l v q. unknown t x l v (inr q))
flawed bytes (wrong_length d) = by_field (λ b. declared b ≢ value_length (tag b)) bytes d (λ t x l v q. other_length t x l v q)
flawed bytes (behind_or_missing d) =
    by_field (λ b. length b ≢ 3 + declared b) bytes d (λ t x l v q. other_size t x l v (λ e. q (omega (arith, e))))
flawed bytes (bad_request e b) =
    by_field (λ y. (tag y ≡ 18) × BadRequest (first y) (second y)) bytes (e, b) (λ t x l v q. request_flaw t x l v q.0 q.1)
flawed bytes (kind_over_2 e b) = by_field (λ y. (tag y ≡ 19) × (2 < first y)) bytes (e, b) (λ t x l v q. trap_flaw t x l v q.0 q.1)
flawed bytes (none_pending e b) = by_field (λ y. (tag y ≡ 21) × ((n : ℕ) → n < 64 → bit (pending_word y) n ≡ 0)) bytes (e, b)
    (λ t x l v q. pick_flaw t x l v q.0 (⊎_elim (λ r. absurd (omega (arith, r.1.2, q.1 r.1.0 (omega (arith, r.1.1)))))
    (λ r. r.0) (picks (number (take 8 v)))))
flawed bytes (one_over_47 e n a c b) = by_field (λ y. (tag y ≡ 21) × (bit (pending_word y) n ≡ 1)) bytes (e, b)
    (λ t x l v q. pick_flaw t x l v q.0 (⊎_elim (λ r. absurd (omega (arith, r.2 n a c, q.1))) (λ r. r.0) (picks (number (take 8 v)))))

-- ---- bytes without a flaw are an event

abbrev Verdict : List ℕ → Event → Type 0
Verdict bytes e = Flaw bytes ⊎ (e ≢ Malformed)

-- a service whose rule the argument meets asks for something
asks_something : (ss : List Service) (s a : ℕ) → meets (rule_in ss s) a ≡ true → asked_in ss s a ≢ Malformed
unfolding rule_in asked_in meets
asks_something [] s a m = absurd (false≢true m)
asks_something (r ∷ rs) s a m = go (s == r.number) m (asks_something rs s a)
  where
    go : (b : Bool) → meets (if b then r.rule else rule_in rs s) a ≡ true → (meets (rule_in rs s) a ≡ true → asked_in rs s a ≢ Malformed) →
        (if b then ByRunner (r.asks a) else asked_in rs s a) ≢ Malformed
    go true k later e = let z : ◌≡◌ {A = ℕ} 0 1 = cc in absurd (omega arith)
    go false k later e = later k e

module _ (t h l : ℕ) (v : List ℕ) where
  read : 16 ≤ t → t ≤ 21 → length v ≡ value_length t → Verdict (t ∷ h ∷ l ∷ v) (meaning t v)
  unfolding meaning value_length request argument_rule trap_of interrupt_of
  read low high len =
      by_if (Verdict (t ∷ h ∷ l ∷ v)) (t == 16) (λ _. inr call) λ n16.
      by_if (Verdict (t ∷ h ∷ l ∷ v)) (t == 17) (λ _. inr call) λ n17.
      by_if (Verdict (t ∷ h ∷ l ∷ v)) (t == 18)
      (λ e. by_if (Verdict (t ∷ h ∷ l ∷ v)) (meets (argument_rule (get_or v 0 0)) (number (drop 1 v)))
      (λ m. inr (asks_something services _ _ m))
      (λ b. inl (bad_request (eqb-true t 18 e)
      (meets_or_bad (get_or v 0 0) (get_or v 1 0)
      (ap (meets (argument_rule (get_or v 0 0))) (sym (argument_is v (len ∙ ap value_length (eqb-true t 18 e)))) ∙ b))))) λ n18.
      by_if (Verdict (t ∷ h ∷ l ∷ v)) (t == 19)
      (λ e. by_if (Verdict (t ∷ h ∷ l ∷ v)) (get_or v 0 0 == 0) (λ _. inr call) λ a. by_if (Verdict (t ∷ h ∷ l ∷ v)) (get_or v 0 0 == 1)
      (λ _. inr call) λ b. by_if (Verdict (t ∷ h ∷ l ∷ v)) (get_or v 0 0 == 2) (λ _. inr call) λ c.
      inl (kind_over_2 (eqb-true t 19 e)
      (omega (arith, eqb-false (get_or v 0 0) 0 a, eqb-false (get_or v 0 0) 1 b, eqb-false (get_or v 0 0) 2 c)))) λ n19.
      by_if (Verdict (t ∷ h ∷ l ∷ v)) (t == 20) (λ _. inr (λ e. let z : ◌≡◌ {A = ℕ} 0 1 = cc in absurd (omega arith))) λ n20.
      by_if (Verdict (t ∷ h ∷ l ∷ v)) (t == 21) (λ e. served (eqb-true t 21 e)) λ n21.
      absurd (omega (
        arith,
        eqb-false t 16 n16,
        eqb-false t 17 n17,
        eqb-false t 18 n18,
        eqb-false t 19 n19,
        eqb-false t 20 n20,
        eqb-false t 21 n21,
      ))
    where
      call : {c : _} → ByRunner c ≢ Malformed
      call {c} e = let z : ◌≡◌ {A = ℕ} 0 1 = cc in absurd (omega arith)

      served : t ≡ 21 → Verdict (t ∷ h ∷ l ∷ v) (interrupt_of (pick (number (take 8 v))) (number (drop 8 v)))
      served e =
          by_if (Verdict (t ∷ h ∷ l ∷ v)) ((pick (number (take 8 v))).refusal == 0)
          (λ _. inr (λ i. let z : ◌≡◌ {A = ℕ} 0 1 = cc in absurd (omega arith)))
          (λ k. ⊎_elim (λ r. absurd (eqb-false _ 0 k r.0))
          (λ r. inl (⊎_elim (λ n. none_pending e n) (λ n. one_over_47 e n.0 n.1 n.2 n.3) r.1)) (picks (number (take 8 v))))

  fielded : Verdict (t ∷ h ∷ l ∷ v) (field t h l v)
  fielded =
      ⊎_elim (λ r. inl (⊎_elim (λ a. tag_under_16 a) (λ a. tag_over_21 a) r.1))
      (λ r.
      ⊎_elim
      (λ a.
      ⊎_elim
      (λ b. rw (r.0, eq-eqb (h * 256 + l) (tag_facts t).length (a.0 ∙ sym r.3), b.1) (read r.1 r.2 (b.0 ∙ a.0)))
      (λ b. inl (behind_or_missing (λ e. b.0 (omega (arith, e)))))
      (same? (length v) (h * 256 + l)))
      (λ a. inl (wrong_length a.0))
      (same? (h * 256 + l) (value_length t)))
      (row t)

-- a number that is no byte, if not all are
some_no_byte : (bytes : List ℕ) → all is_byte bytes ≡ false → (b : ℕ) × Memᴰ b bytes × (256 ≤ b)
unfolding all
some_no_byte [] e = absurd (clash refl e)
some_no_byte (x ∷ l) e = go (ltb x 256) refl e (some_no_byte l)
  where
    go : (b : Bool) → ltb x 256 ≡ b → (b && all is_byte l) ≡ false → (all is_byte l ≡ false → (y : ℕ) × Memᴰ y l × (256 ≤ y)) →
        (y : ℕ) × Memᴰ y (x ∷ l) × (256 ≤ y)
    go true i j later = let r = later j in (r.0, Memᴰ.tail r.1, r.2)
    go false i j later = (x, Memᴰ.head refl, ltb-false x 256 i)

verdict : (bytes : List ℕ) → Verdict bytes (decode bytes)
unfolding decode field_of
verdict bytes = by_if (Verdict bytes) (all is_byte bytes) (λ _. go bytes) (λ e. let r = some_no_byte bytes e in
    inl (no_byte r.0 r.1 r.2))
  where
    go : (b : List ℕ) → Verdict b (field_of b)
    go [] = inl (too_short (omega arith))
    go (t ∷ []) = inl (too_short (omega arith))
    go (t ∷ h ∷ []) = inl (too_short (omega arith))
    go (t ∷ h ∷ l ∷ v) = fielded t h l v

-- ---- the law

-- Bytes are malformed exactly if they have a flaw.
pub malformed_exactly : (bytes : List ℕ) → (decode bytes ≡ Malformed) ↔ Flaw bytes
malformed_exactly bytes = (λ e. ⊎_elim (λ f. f) (λ d. absurd (d e)) (verdict bytes), flawed bytes)
