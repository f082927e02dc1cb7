-- The bytes of one field: the numbers in them, how long each tag's field is, and what the rules say of each exit of the decoder.
use Rattle.std.proofs.Common.{if◌then◌else◌, ◌==◌, Some, None}
use Prim.Native.Nat.{ℕ, zero, suc, ◌+◌, ◌*◌, ◌≤◌, ◌<◌}
use native.Mathlib.Nat.{add-zero}
use mathlib.Core.Path.{◌≡◌, refl, sym, ◌∙◌}
use mathlib.Core.Logic.{◌≢◌}
use mathlib.Core.Bool.{Bool, true, false, ◌&&◌, false≢true}
use mathlib.Core.List.{List, [], ◌∷◌}
use native.Mathlib.Omega.{arith}
use lib.ListN.{length, take, drop, get_or, length-drop}
use lib.Seq.{take_all, take-add, drop-drop, get_or-drop, drop-cons, drop-length}
use mir.Syntax.{w8, w16}
use Rattle.std.specs.Int.{from_be_bytes}
use mir.Val.{Fits}
use borrow.Author.Tests.{eqb-true, eq-eqb, ne_eqb, lt-ltb}
use Rattle.rules.specs.Lists.{all, is_byte, number_from, number}
use Rattle.rules.specs.Tags.{facts_in, tag_facts, event_field, rule_in, argument_rule, meets}
use Rattle.rules.specs.Pick.{pick}
use Rattle.rules.specs.Load.{trap_kind_from}
use Rattle.rules.specs.Events.{wanted, request, trap_of, interrupt_of, meaning, field_of, decode}
use Rattle.std.specs.declared.option.Option.{Option}
use Rattle.rules.specs.declared.EventField.{EventField}
use Rattle.laws.specs.Words.{Send, Receive, Trap, Event, Malformed, ByRunner, Tick, TagFacts, NoService, ADevice}
use Rattle.laws.proofs.Tests.{by_if, ◌&◌}
use Rattle.laws.proofs.Bytes.{first_four}

-- ---- numbers in bytes

all_bytes : (l : List ℕ) → ((i : ℕ) → Fits w8 (get_or l i 0)) → all is_byte l ≡ true
unfolding all
all_bytes [] h = refl
all_bytes (b ∷ bs) h = lt-ltb b 256 (h 0).fits & all_bytes bs (λ i. h (suc i))

-- eight bytes, two by two
pub eight_at : (l : List ℕ) (at : ℕ) → at + 8 ≤ length l →
    ((get_or l at 0 * 256 + get_or l (at + 1) 0) * 65536 + (get_or l (at + 2) 0 * 256 + get_or l (at + 3) 0)) * 4294967296
    + ((get_or l (at + 4) 0 * 256 + get_or l (at + 5) 0) * 65536 + (get_or l (at + 6) 0 * 256 + get_or l (at + 7) 0))
    ≡ number (take 8 (drop at l))
unfolding number_from
eight_at l at h =
    let m : 4 ≤ length (drop at l) = simp length-drop (omega arith) in
    let n : 4 ≤ length (drop 4 (drop at l)) = simp length-drop (omega arith) in
    rw (take-add 4 4 (drop at l), first_four (drop at l), first_four (drop 4 (drop at l))) (simp (get_or-drop, add-zero) (omega arith))

-- ---- the kinds of a trap

pub a_kind : (k c : ℕ) → k < 3 → trap_of k c ≡ ByRunner (Trap (trap_kind_from k) c)
unfolding trap_of
a_kind zero c h = refl
a_kind (suc zero) c h = refl
a_kind (suc (suc zero)) c h = refl
a_kind (suc (suc (suc k))) c h = absurd (omega arith)

pub no_kind : (k c : ℕ) → 3 ≤ k → trap_of k c ≡ Malformed
unfolding trap_of
no_kind k c h = rw (ne_eqb k 0 (λ e. omega (arith, e)), ne_eqb k 1 (λ e. omega (arith, e)), ne_eqb k 2 (λ e. omega (arith, e)))

-- ---- what a field with a known tag means

-- none of the tags before the last
pub last_tag : (tag : ℕ) → (tag_facts tag).known ≡ true → tag ≢ 16 → tag ≢ 17 → tag ≢ 18 → tag ≢ 19 → tag ≢ 20 → tag ≡ 21
unfolding tag_facts facts_in
last_tag tag k a b c d e =
    go (tag == 21) refl (simp (ne_eqb tag 16 a, ne_eqb tag 17 b, ne_eqb tag 18 c, ne_eqb tag 19 d, ne_eqb tag 20 e) at k)
  where
    facts : Bool → TagFacts
    facts t = if t then record { known = true; length = 12; runner = false } else record { known = false; length = 0; runner = false }

    go : (t : Bool) → (tag == 21) ≡ t → (facts t).known ≡ true → tag ≡ 21
    go true t h = eqb-true tag 21 t
    go false t h = absurd (false≢true h)

-- none of the services before the last
pub last_service : (s a : ℕ) → meets (argument_rule s) a ≡ true → s ≢ 1 → s ≢ 2 → s ≢ 3 → s ≢ 4 → s ≢ 5 → s ≢ 6 → s ≢ 7 → s ≢ 8 → s ≡ 9
unfolding argument_rule rule_in meets
last_service s a m n1 n2 n3 n4 n5 n6 n7 n8 =
    go (s == 9) refl (simp (
      ne_eqb s 1 n1,
      ne_eqb s 2 n2,
      ne_eqb s 3 n3,
      ne_eqb s 4 n4,
      ne_eqb s 5 n5,
      ne_eqb s 6 n6,
      ne_eqb s 7 n7,
      ne_eqb s 8 n8,
    ) at m)
  where
    go : (b : Bool) → (s == 9) ≡ b → meets (if b then ADevice else NoService) a ≡ true → s ≡ 9
    go true t h = eqb-true s 9 t
    go false t h = absurd (false≢true h)

module _ (tag : ℕ) (l : List ℕ) (sized : length l ≡ (tag_facts tag).length + 3) where
  pub size : (n : ℕ) → tag ≡ n → length l ≡ (tag_facts n).length + 3
  size n e = rw e at sized

  last_four : (at : ℕ) → length l ≡ at + 4 → number (drop at l) ≡ number (take 4 (drop at l))
  last_four at h = let m : length (drop at l) ≤ 4 = simp length-drop (omega arith) in rw (take_all 4 (drop at l))

  pub means_send : tag ≡ 16 → meaning tag (drop 3 l) ≡ ByRunner (Send (get_or l 3 0) (number (take 4 (drop 4 l))))
  unfolding meaning tag_facts facts_in
  means_send e = rw (e, get_or-drop, drop-drop, last_four 4 (size 16 e))

  pub means_receive : tag ≡ 17 → meaning tag (drop 3 l) ≡ ByRunner (Receive (wanted (get_or l 3 0)))
  unfolding meaning
  means_receive e = simp (e, get_or-drop)

  pub means_request : tag ≡ 18 →
      meaning tag (drop 3 l) ≡ (if meets (argument_rule (get_or l 3 0)) (get_or l 4 0) then request (get_or l 3 0) (get_or l 4 0) else Malformed)
  unfolding meaning tag_facts facts_in number_from
  means_request e =
      let s : length l ≡ 5 = size 18 e in
      let m : 4 < length l = omega arith in
      let d : drop 5 l ≡ [] = rw s at (drop-length l) in
      let n : number (drop 4 l) ≡ get_or l 4 0 = rw (drop-cons l 4 0, d) (omega arith) in
      rw (e, get_or-drop, drop-drop, n)

  pub means_trap : tag ≡ 19 → meaning tag (drop 3 l) ≡ trap_of (get_or l 3 0) (number (take 4 (drop 4 l)))
  unfolding meaning tag_facts facts_in
  means_trap e = rw (e, get_or-drop, drop-drop, last_four 4 (size 19 e))

  pub means_tick : tag ≡ 20 → meaning tag (drop 3 l) ≡ Tick
  unfolding meaning
  means_tick e = rw e

  pub means_interrupt : tag ≡ 21 → meaning tag (drop 3 l) ≡ interrupt_of (pick (number (take 8 (drop 3 l)))) (number (take 4 (drop 11 l)))
  unfolding meaning tag_facts facts_in
  means_interrupt e = rw (e, drop-drop, last_four 11 (size 21 e))

-- ---- which bytes are a field

short_field : (l : List ℕ) → length l < 3 → field_of l ≡ Malformed
unfolding field_of
short_field [] h = refl
short_field (a ∷ []) h = refl
short_field (a ∷ b ∷ []) h = refl
short_field (a ∷ b ∷ c ∷ l) h = absurd (omega arith)

pub too_short : (l : List ℕ) → length l < 3 → decode l ≡ Malformed
unfolding decode
too_short l h = by_if (λ (e : Event). e ≡ Malformed) (all is_byte l) (λ _. short_field l h) (λ _. refl)

-- the rules' test of three bytes or more, whose tag has these facts
judged : TagFacts → List ℕ → Event
judged f l = let n = get_or l 1 0 * 256 + get_or l 2 0 in
    if f.known && n == f.length && length (drop 3 l) == n then meaning (get_or l 0 0) (drop 3 l) else Malformed

long_field : (l : List ℕ) → 3 ≤ length l → field_of l ≡ judged (tag_facts (get_or l 0 0)) l
unfolding field_of judged
long_field [] h = absurd (omega arith)
long_field (a ∷ []) h = absurd (omega arith)
long_field (a ∷ b ∷ []) h = absurd (omega arith)
long_field (a ∷ b ∷ c ∷ l) h = refl

read : (l : List ℕ) → ((i : ℕ) → Fits w8 (get_or l i 0)) → 3 ≤ length l → decode l ≡ judged (tag_facts (get_or l 0 0)) l
unfolding decode
read l bytes long = rw (all_bytes l bytes) (long_field l long)

abbrev row : Bool → TagFacts → Option EventField
row b t = if b then Some (record { length = t.length; runner = t.runner }) else None

not_known : (t : TagFacts) → event_field t ≡ None → t.known ≡ false
unfolding event_field
not_known t e = go t.known e
  where
    go : (b : Bool) → row b t ≡ None → b ≡ false
    go true e = cc
    go false e = refl

as_known : (t : TagFacts) (f : EventField) → event_field t ≡ Some f → (t.known ≡ true) × (t.length ≡ f.length)
unfolding event_field
as_known t f e = go t.known e
  where
    go : (b : Bool) → row b t ≡ Some f → (b ≡ true) × (t.length ≡ f.length)
    go true e = (refl, cc)
    go false e = cc

pub unknown : (l : List ℕ) → ((i : ℕ) → Fits w8 (get_or l i 0)) → 3 ≤ length l → event_field (tag_facts (get_or l 0 0)) ≡ None →
    decode l ≡ Malformed
unfolding judged
unknown l bytes long says = read l bytes long ∙ rw (not_known _ says)

-- what is known of a slice once the facts of its tag and the length that it gives are read
pub record Head (l : List ℕ) (f : EventField) (n : ℕ) : Type 0 where
  pub bytes : (i : ℕ) → Fits w8 (get_or l i 0)
  pub long : 3 ≤ length l
  pub says : event_field (tag_facts (get_or l 0 0)) ≡ Some f
  pub gives : n ≡ get_or l 1 0 * 256 + get_or l 2 0

pub heads : {l : List ℕ} {f : EventField} {n : ℕ} {o : Option EventField} → ((i : ℕ) → Fits w8 (get_or l i 0)) → 3 ≤ length l →
    o ≡ event_field (tag_facts (get_or l 0 0)) → o ≡ Some f → n ≡ from_be_bytes w16 (get_or l 1 0 ∷ get_or l 2 0 ∷ []) → Head l f n
heads {l} bytes long says known given =
    record { bytes = bytes; long = long; says = sym says ∙ known; gives = omega (arith, given) }

module _ {l : List ℕ} {f : EventField} {n : ℕ} (h : Head l f n) where
  pub known : ((tag_facts (get_or l 0 0)).known ≡ true) × ((tag_facts (get_or l 0 0)).length ≡ f.length)
  known = as_known (tag_facts (get_or l 0 0)) f h.says

  told : decode l ≡ (if n == f.length && length (drop 3 l) == n then meaning (get_or l 0 0) (drop 3 l) else Malformed)
  unfolding judged
  told = read l h.bytes h.long ∙ rw (known.0, known.1, h.gives)

  pub wrong_length : n ≢ f.length → decode l ≡ Malformed
  wrong_length r = told ∙ rw (ne_eqb n f.length r)

  pub wrong_size : n ≡ f.length → length l ≢ n + 3 → decode l ≡ Malformed
  wrong_size r s =
      let m : length (drop 3 l) ≢ n = λ e. s (omega (arith, length-drop 3 l)) in
      told ∙ rw (eq-eqb n f.length r, ne_eqb (length (drop 3 l)) n m)

  pub whole : n ≡ f.length → length l ≡ n + 3 → decode l ≡ meaning (get_or l 0 0) (drop 3 l)
  whole r s =
      let m : length (drop 3 l) ≡ n = simp length-drop (omega arith) in
      told ∙ rw (eq-eqb n f.length r, eq-eqb (length (drop 3 l)) n m)
