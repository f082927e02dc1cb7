-- What bytes tell that have no fault of a number: with none of 15 and 17 every value is in its range, with none of 15 and 18 every name
-- lives where document 01 asks for a live one. So 18 is given for no range, and 19 for other rules only.
use Rattle.std.proofs.Common.{◌==◌}
use Prim.Native.Nat.{ℕ, zero, suc, ◌<◌, ◌+◌}
use mathlib.Core.Path.{◌≡◌, refl, sym, ap, ap₂, ◌∙◌, subst}
use mathlib.Core.Bool.{Bool, true, false, ◌&&◌, not}
use mathlib.Core.List.Memᴰ
use mathlib.Core.List.{List, [], ◌∷◌, ◌++◌, map, Memᴰ}
use native.Mathlib.Omega.{arith}
use lib.Dec.{leb, ltb}
use lib.ListN.{length, take, drop, length-take, get_or-append}
use borrow.Author.Tests.{eqb-true, eq-eqb, lt-ltb}
use Rattle.rules.specs.Lists.{all, keep, each, is_byte}
use Rattle.rules.specs.Numbers.{names, full_slice, beat_ticks, devices, wrap}
use Rattle.laws.specs.Words.{Limits}
use Rattle.rules.specs.Words.{by_state, by_wanted, by_manager, by_parent, by_runner}
use Rattle.rules.specs.Tables.{live}
use Rattle.rules.specs.Fields.{whole, complete, field_size}
use Rattle.rules.specs.Tags.{dump_facts_in, dump_facts}
use Rattle.rules.specs.TableRules.{state_in_range, answer_in_range, manager_set, wanted_live}
use Rattle.rules.specs.Codes.{slice_code, answer_numbers, state_numbers}
use Rattle.rules.specs.Load.{Field, as_field, fields_of, told, tables_from, at, word_at, runner_from, state_from, answer_from, thread_from}
use Rattle.rules.specs.Load.{message_from, held_from, values_of, value_of}
use Rattle.rules.specs.Faults.{Placed, placed_from, placed, wrong_length, faults_15, faults_17, faults_18, is_name, status_fits}
use Rattle.rules.specs.Faults.{runner_fits, state_fits, answer_fits, head_fits, thread_fits, value_fits, out_of_range, wanted_lives}
use Rattle.rules.specs.Faults.{entries_live, head_lives, thread_lives, message_lives, value_lives, names_nobody, verdict}
use Rattle.laws.specs.Words.{Thread, Message, Held}
use Rattle.laws.specs.FaultTold.{InRange, Alive}
use Rattle.laws.specs.Batch.{past}
use Rattle.laws.proofs.Tests.{and_left, and_right, ◌&◌, three, four, not_false}
use Rattle.laws.proofs.Tally.{all_of, all_drop, all_each}
use Rattle.laws.proofs.Members.{mem_keep, keep_mem, mem_map, map_mem, has_member}
use Rattle.laws.proofs.Bytes.{number_below}
use Rattle.laws.proofs.Batch.{by_fields, complete_none, complete_first}
use Rattle.laws.proofs.Offsets.{none_exactly}
use Rattle.laws.proofs.Faults.{free_of_15, refused_18, refused_19}

-- ---- fields, and the values under a tag

-- each field is placed
field_placed : (at : ℕ) (before : List ℕ) (fs : List (List ℕ)) {g : Field}
    → Memᴰ g (map as_field fs) → (f : Placed) × Memᴰ f (placed_from at before fs) × (g ≡ f.field)
unfolding placed_from
field_placed at before [] m = absurd (Memᴰ.not-nil m)
field_placed at before (x ∷ fs) (Memᴰ.head e) = (record { at = at; before = before; field = as_field x }, Memᴰ.head refl, e)
field_placed at before (x ∷ fs) (Memᴰ.tail m) = let r = field_placed (at + length x) ((as_field x).tag ∷ before) fs m in (r.0, Memᴰ.tail r.1, r.2)

value_field : (n : ℕ) (fs : List Field) {v : List ℕ} → Memᴰ v (values_of n fs) → Memᴰ (record { tag = n; value = v }) fs
value_field n fs {v} m =
    let r = mem_map (λ (f : Field). f.value) (keep (λ f. f.tag == n) fs) m in
    let k = mem_keep (λ (f : Field). f.tag == n) fs r.1 in
    let t : r.0.tag ≡ n = eqb-true r.0.tag n k.1 in
    let e : record { tag = n; value = v } ≡ r.0 = λ i. record { tag = sym t i; value = r.2 i } in
    subst (λ (f : Field). Memᴰ f fs) (sym e) k.0

all_take : {A : Type 0} (n : ℕ) (p : A → Bool) (xs : List A) → all p xs ≡ true → all p (take n xs) ≡ true
unfolding all
all_take zero p xs h = refl
all_take (suc n) p [] h = refl
all_take (suc n) p (x ∷ xs) h = and_left (p x) _ h & all_take n p xs (and_right (p x) _ h)

-- fields of bytes are bytes
bytes_within : (l : List ℕ) → all is_byte l ≡ true → (f : List ℕ) → Memᴰ f (complete l) → all is_byte f ≡ true
bytes_within = by_fields (λ l. all is_byte l ≡ true → (f : List ℕ) → Memᴰ f (complete l) → all is_byte f ≡ true) none one
  where
    none : (l : List ℕ) → whole l ≡ false → all is_byte l ≡ true → (f : List ℕ) → Memᴰ f (complete l) → all is_byte f ≡ true
    none l w b f m = absurd (Memᴰ.not-nil (subst (λ (fs : List (List ℕ)). Memᴰ f fs) (complete_none l w).0 m))

    one : (l : List ℕ) → whole l ≡ true →
        (all is_byte (past l) ≡ true → (f : List ℕ) → Memᴰ f (complete (past l)) → all is_byte f ≡ true)
        → all is_byte l ≡ true → (f : List ℕ) → Memᴰ f (complete l) → all is_byte f ≡ true
    one l w h b f m = go (subst (λ (fs : List (List ℕ)). Memᴰ f fs) (complete_first l w).0 m)
      where
        go : Memᴰ f (take (field_size l) l ∷ complete (past l)) → all is_byte f ≡ true
        go (Memᴰ.head e) = ap (all is_byte) e ∙ all_take (field_size l) is_byte l b
        go (Memᴰ.tail n) = h (all_drop (field_size l) is_byte l b) f n

word_below : (v : List ℕ) (i : ℕ) → all is_byte v ≡ true → ltb (word_at v i) wrap ≡ true
word_below v i b =
    lt-ltb (word_at v i) wrap
    (number_below (take 4 (drop i v)) (all_take 4 is_byte (drop i v) (all_drop i is_byte v b)) (simp length-take (omega arith)))

-- a value that stands opens the values that stand
opening : (vs : List (List ℕ)) {u : List ℕ} → Memᴰ u vs → (v : List ℕ) × (rest : List ℕ) × Memᴰ v vs
    × (each (λ x. x) vs ≡ v ++ rest)
unfolding each
opening [] m = absurd (Memᴰ.not-nil m)
opening (v ∷ vs) m = (v, each (λ x. x) vs, Memᴰ.head refl, refl)

all_map : {A B : Type 0} (p : B → Bool) (f : A → B) (xs : List A) → ((x : A) → Memᴰ x xs → p (f x) ≡ true) → all p (map f xs) ≡ true
all_map p f xs h = all_of p (map f xs) (λ y m. let r = mem_map f xs m in ap p r.2 ∙ h r.0 r.1)

-- what each value tells, of threads, messages and held words
module _ (bytes : List ℕ) where
  each_thread : (p : Thread → Bool) → ((v : List ℕ) → Memᴰ v (values_of 2 (fields_of bytes)) → p (thread_from v) ≡ true)
      → all p (told bytes).threads ≡ true
  unfolding told tables_from
  each_thread p h = all_map p thread_from (values_of 2 (fields_of bytes)) h

  each_message : (p : Message → Bool) → ((v : List ℕ) → Memᴰ v (values_of 5 (fields_of bytes)) → p (message_from v) ≡ true)
      → all p (told bytes).messages ≡ true
  unfolding told tables_from
  each_message p h = all_map p message_from (values_of 5 (fields_of bytes)) h

  each_held : (p : Held → Bool) → ((v : List ℕ) → Memᴰ v (values_of 6 (fields_of bytes)) → p (held_from v) ≡ true)
      → all p (told bytes).held ≡ true
  unfolding told tables_from
  each_held p h = all_map p held_from (values_of 6 (fields_of bytes)) h

module _ (bytes : List ℕ) (none_15 : faults_15 bytes ≡ []) where
  abbrev fs : List Field
  fs = fields_of bytes

  -- a test that the values of right length fail where there is a fault
  looked_at : (pass : Field → Bool) →
      ((f : Placed) → Memᴰ f (placed bytes) → (not (wrong_length f.field) && not (pass f.field)) ≡ false)
      → (n : ℕ) (v : List ℕ) → Memᴰ v (values_of n fs)
      → (wrong_length (record { tag = n; value = v }) ≡ false) × (pass (record { tag = n; value = v }) ≡ true)
  unfolding fields_of
  looked_at pass h n v m =
      let r = field_placed 0 [] (complete bytes) (value_field n fs m) in
      let long : wrong_length r.0.field ≡ false = ((free_of_15 bytes).0 none_15).1 r.0 r.1 in
      rw r.2 (long, not_false _ (rw long at (h r.0 r.1)))

  -- field 1 stands: its value, and what may come behind it
  head_opens : (v : List ℕ) × (rest : List ℕ) × Memᴰ v (values_of 1 fs) × (value_of 1 fs ≡ v ++ rest)
  head_opens =
      let r = mem_map (λ (f : Field). f.tag) fs (has_member _ (((free_of_15 bytes).0 none_15).2 1 (Memᴰ.head refl))) in
      opening (values_of 1 fs)
      (map_mem (λ (f : Field). f.value) _ (keep_mem (λ (f : Field). f.tag == 1) fs r.1 (eq-eqb r.0.tag 1 (sym r.2))))

  -- its bytes, up to its length
  head_at : (i : ℕ) → i < 9 → wrong_length (record { tag = 1; value = head_opens.0 }) ≡ false → at (value_of 1 fs) i ≡ at head_opens.0 i
  unfolding wrong_length dump_facts dump_facts_in
  head_at i h long =
      let k : length head_opens.0 ≡ 9 = eqb-true (length head_opens.0) 9 (not_false _ long) in
      ap (λ (v : List ℕ). at v i) head_opens.3 ∙ get_or-append head_opens.0 head_opens.1 0 i (omega arith)

  -- so it says who runs
  runner_told : wrong_length (record { tag = 1; value = head_opens.0 }) ≡ false
      → (told bytes).runner ≡ runner_from (at head_opens.0 2) (at head_opens.0 3)
  unfolding told tables_from
  runner_told long = ap₂ (λ (n s : ℕ). runner_from n s) (head_at 2 (omega arith) long) (head_at 3 (omega arith) long)

-- ---- ranges

state_fit : (n detail : ℕ) → state_fits n detail ≡ true → state_in_range (state_from n detail) ≡ true
unfolding state_fits
state_fit n detail h =
    let s = state_from n detail in
    (four (n == (state_numbers s).state) (detail == (state_numbers s).detail) (state_in_range s)
    (by_state true (by_wanted true is_name) (λ d. true) (λ k. true) s) h).2

answer_fit : (kind sender w : ℕ) → answer_fits kind sender w ≡ true → answer_in_range (answer_from kind sender w) ≡ true
unfolding answer_fits
answer_fit kind sender w h =
    let a = answer_from kind sender w in
    (four (kind == (answer_numbers a).kind) (sender == (answer_numbers a).sender) (w == (answer_numbers a).word) (answer_in_range a) h).3

module _ (bytes : List ℕ) (b : all is_byte bytes ≡ true) (none_15 : faults_15 bytes ≡ []) (none_17 : faults_17 bytes ≡ []) where
  value_bytes : (n : ℕ) (v : List ℕ) → Memᴰ v (values_of n (fields_of bytes)) → all is_byte v ≡ true
  unfolding fields_of
  value_bytes n v m =
      let r = mem_map as_field (complete bytes) (value_field n (fields_of bytes) m) in
      ap (λ (f : Field). all is_byte f.value) r.2 ∙ all_drop 3 is_byte r.0 (bytes_within bytes b r.0 r.1)

  fits : (n : ℕ) (v : List ℕ) → Memᴰ v (values_of n (fields_of bytes))
      → (wrong_length (record { tag = n; value = v }) ≡ false) × (value_fits n v ≡ true)
  unfolding faults_17 out_of_range
  fits n v m =
      looked_at bytes none_15 (λ f. value_fits f.tag f.value) ((none_exactly (λ f. out_of_range f.field) (placed bytes)).0 none_17)
      n v m

  -- what its field says of a thread
  thread_fit : (v : List ℕ) → Memᴰ v (values_of 2 (fields_of bytes))
      → (ltb (thread_from v).name names ≡ true) × (state_in_range (thread_from v).state ≡ true)
      × (answer_in_range (thread_from v).answer ≡ true)
  unfolding value_fits thread_fits thread_from
  thread_fit v m =
      let t = four _ _ _ _ (fits 2 v m).1 in
      (t.0, state_fit (at v 2) (at v 3) t.2, answer_fit (at v 11) (at v 12) (word_at v 13) t.3)

  -- and what field 1 says
  head_fit : (ltb (told bytes).last names ≡ true)
      × (by_runner true (λ n s. ltb n names && leb 1 s && leb s full_slice) (told bytes).runner ≡ true)
      × (ltb (told bytes).since beat_ticks ≡ true)
  unfolding value_fits head_fits runner_fits told tables_from
  head_fit =
      let o = head_opens bytes none_15 in
      let f = fits 1 o.0 o.2 in
      let byte : (i : ℕ) → i < 9 → at (value_of 1 (fields_of bytes)) i ≡ at o.0 i = λ i l. head_at bytes none_15 i l f.0 in
      let one = byte 1 (omega arith) in
      let two = byte 2 (omega arith) in
      let three = byte 3 (omega arith) in
      let four_on = byte 4 (omega arith) in
      let v = o.0 in
      let h = four (status_fits (at v 0)) (is_name (at v 1)) (runner_fits (at v 2) (at v 3)) (ltb (at v 4) beat_ticks) f.1 in (
        rw one h.1,
        rw (two, three) (and_right (at v 3 == slice_code (runner_from (at v 2) (at v 3))) _ h.2),
        rw four_on h.3,
      )

  beats_below : ltb (told bytes).beats wrap ≡ true
  unfolding told tables_from
  beats_below = word_below (value_of 1 (fields_of bytes)) 5 (all_each is_byte (λ v. v) (values_of 1 (fields_of bytes)) (value_bytes 1))

  ticks_below : (v : List ℕ) → Memᴰ v (values_of 2 (fields_of bytes)) → ltb (thread_from v).ticks wrap ≡ true
  unfolding thread_from
  ticks_below v m = word_below v 7 (value_bytes 2 v m)

  message_below : (v : List ℕ) → Memᴰ v (values_of 5 (fields_of bytes)) → ltb (message_from v).word wrap ≡ true
  unfolding message_from
  message_below v m = word_below v 3 (value_bytes 5 v m)

  held_fit : (v : List ℕ) → Memᴰ v (values_of 6 (fields_of bytes)) →
      (ltb (held_from v).device devices && ltb (held_from v).word wrap) ≡ true
  unfolding held_from value_fits
  held_fit v m = (fits 6 v m).1 & word_below v 1 (value_bytes 6 v m)

  -- Without 15 and 17 every value is in its range.
  pub in_range : InRange (told bytes)
  in_range = record {
    values = head_fit.0 & head_fit.2 & beats_below & each_thread bytes _ (λ v m. ticks_below v m & (thread_fit v m).1)
        & each_message bytes _ message_below & each_held bytes _ held_fit;
    known = each_thread bytes (λ t. ltb t.name names) (λ v m. (thread_fit v m).0);
    slice = head_fit.1;
    answers = each_thread bytes (λ t. answer_in_range t.answer) (λ v m. (thread_fit v m).2);
  }

-- ---- live names

module _ (bytes : List ℕ) (none_15 : faults_15 bytes ≡ []) (none_18 : faults_18 bytes ≡ []) where
  abbrev lives : ℕ → Bool
  lives n = live n (told bytes)

  living : (n : ℕ) (v : List ℕ) → Memᴰ v (values_of n (fields_of bytes))
      → (wrong_length (record { tag = n; value = v }) ≡ false) × (value_lives lives n v ≡ true)
  unfolding faults_18 names_nobody
  living n v m =
      looked_at bytes none_15 (λ f. value_lives lives f.tag f.value)
      ((none_exactly (λ f. names_nobody lives f.field) (placed bytes)).0 none_18) n v m

  runner_living : by_runner true (λ n s. lives n) (told bytes).runner ≡ true
  unfolding value_lives head_lives
  runner_living =
      let o = head_opens bytes none_15 in
      let h = living 1 o.0 o.2 in
      rw (runner_told bytes none_15 h.0) h.1

  queue_living : (n : ℕ) → ((v : List ℕ) → value_lives lives n v ≡ all lives v) → all lives (value_of n (fields_of bytes)) ≡ true
  queue_living n h = all_each lives (λ v. v) (values_of n (fields_of bytes)) (λ v m. sym (h v) ∙ (living n v m).1)

  -- what its field says of a thread
  thread_living : (v : List ℕ) → Memᴰ v (values_of 2 (fields_of bytes)) →
      (by_parent true lives (thread_from v).parent ≡ true) × (wanted_lives lives (thread_from v).state ≡ true)
      × (entries_live lives (thread_from v).managers ≡ true) × (manager_set (thread_from v).managers (thread_from v).state ≡ true)
  unfolding value_lives thread_lives
  thread_living v m = four _ _ _ _ (living 2 v m).1

  message_living : (v : List ℕ) → Memᴰ v (values_of 5 (fields_of bytes)) →
      (lives (message_from v).to && lives (message_from v).from) ≡ true
  unfolding value_lives message_lives message_from
  message_living v m = (living 5 v m).1

  -- Without 15 and 18 every name is live where document 01 asks for one.
  pub alive : Alive (told bytes)
  alive = record {
    runner = runner_living;
    ready = unfold told tables_from in queue_living 3 (λ v. unfold value_lives in refl);
    clock = unfold told tables_from in queue_living 4 (λ v. unfold value_lives in refl);
    parents = each_thread bytes (λ t. by_parent true lives t.parent) (λ v m. (thread_living v m).0);
    wanted = unfold wanted_live in each_thread bytes (λ t. wanted_lives lives t.state) (λ v m. (thread_living v m).1);
    program = each_thread bytes (λ t. by_manager true lives t.managers.program) (λ v m. (entries v m).0);
    tlb = each_thread bytes (λ t. by_manager true lives t.managers.tlb) (λ v m. (entries v m).1);
    sysbp = each_thread bytes (λ t. by_manager true lives t.managers.sysbp) (λ v m. (entries v m).2);
    trapped = each_thread bytes (λ t. manager_set t.managers t.state) (λ v m. (thread_living v m).3);
    messages = each_message bytes (λ m. lives m.to && lives m.from) message_living;
  }
    where
      entries : (v : List ℕ) → Memᴰ v (values_of 2 (fields_of bytes)) →
          (by_manager true lives (thread_from v).managers.program ≡ true) × (by_manager true lives (thread_from v).managers.tlb ≡ true)
          × (by_manager true lives (thread_from v).managers.sysbp ≡ true)
      entries v m = three _ _ _ (thread_living v m).2

-- ---- what is left for 18 and 19

module _ (L : Limits) (bytes : List ℕ) (b : all is_byte bytes ≡ true) where
  -- 18 is given only where every value is in its range.
  pub in_range_at_18 : (verdict L bytes).refusal ≡ 18 → InRange (told bytes)
  in_range_at_18 e = let r = (refused_18 L bytes).0 e in in_range bytes b r.0 r.2

  -- 19 is given only where, besides, every name lives that must: "any other rule".
  pub others_at_19 : (verdict L bytes).refusal ≡ 19 → InRange (told bytes) × Alive (told bytes)
  others_at_19 e = let r = (refused_19 L bytes).0 e in (in_range bytes b r.0 r.2, alive bytes r.0 r.3)
