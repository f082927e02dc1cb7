-- A batch on a lent memory, from its promise alone: any two results agree; it equals single calls in order; two batches in a row equal one.
use Prim.Native.Nat.{ℕ, ◌+◌, ◌-◌}
use mathlib.Core.Path.{◌≡◌, refl, sym, ap, ◌∙◌}
use mathlib.Core.Bool.{Bool, true, false}
use mathlib.Core.List.{List, [], ◌∷◌, ◌++◌, map, map-append, append_assoc}
use native.Mathlib.Omega.{arith}
use lib.ListN.{length, drop, length-append, length-drop, length-map}
use lib.Seq.{drop-drop, drop-append_seam}
use denote.Ref.{Bor}
use Rattle.rules.specs.Lists.{all}
use Rattle.rules.specs.Numbers.{small}
use Rattle.rules.specs.Tables.{Tables}
use Rattle.rules.specs.Dump.{dump}
use Rattle.rules.specs.Runs.{Input, run, decisions}
use Rattle.rules.specs.Batch.{numbers, Taken, taken}
use Rattle.rules.specs.declared.Decision.{Decision}
use Rattle.laws.proofs.Determinacy.{determined}
use Rattle.laws.proofs.Steps.{run_append}
use Rattle.store.specs.Store.{tables}
use Rattle.lending.specs.Lent.{valid, no_tables}
use Rattle.lending.specs.declared.Tables.{Tables as Lent}
use Rattle.laws.specs.Batch.{needed}
use Rattle.laws.proofs.Batch.{decisions_append, decisions_count, numbers_append, numbers_count, room_left, taken_twice}
use Rattle.batching.proofs.Calling.{calls_leave, calls_decide, calls_keep}
use Rattle.batching.specs.Batching.{SingleCalls, decided, numbers_after, all_refused, Served, Batches, BatchesValue}
use Rattle.batching.specs.Runs.{SameResults}
use Rattle.batching.specs.declared.Batched.{Batched}

-- ---- determinacy

served_agree : {m bytes before a b x y : List ℕ} {n k : ℕ} → Served m bytes before a x n → Served m bytes before b y k
    → SameResults m (taken (length before) bytes).events n k x y a b
served_agree p o = record {
  refusal = determined p.refusal o.refusal;
  numbers = determined p.numbers o.numbers;
  leaves = λ v. let t = determined (p.leaves v).1 (o.leaves v).1 in (t, ap dump t);
  keeps = λ h. determined (p.keeps h) (o.keeps h);
}

-- m, s and before: what is lent. Two results that the promise allows agree so, and in the unread end, in its bytes and in where it stands.
pub batch_determined : {m before a b x y : List ℕ} {s r q : Bor (List ℕ)} {n k : ℕ} → Batches m s before r a x n →
    Batches m s before q b y k
    → SameResults m (taken (length before) s.now).events n k x y a b × (r.now ≡ q.now) × (r.ref_ptr ≡ q.ref_ptr)
batch_determined {s = s} {r = r} {q = q} p o = (
  served_agree p.served o.served,
  same,
  p.ends_there ∙ (ap (λ (l : List ℕ). (s.ref_ptr.0, (length s.now - length l) + s.ref_ptr.1)) same ∙ sym o.ends_there),
)
  where
    same : r.now ≡ q.now
    same = determined p.unread o.unread

-- By value: and in how many bytes are read.
pub batch_value_determined : {t : Lent} {bytes before x y : List ℕ} {b c : Batched} → BatchesValue t bytes before x b →
    BatchesValue t bytes before y c
    → SameResults t.words (taken (length before) bytes).events b.refusal c.refusal x y b.tables.words c.tables.words
    × (b.used ≡ c.used)
batch_value_determined {bytes = bytes} {b = b} {c = c} p o = (
  served_agree p.served o.served,
  omega (
    arith,
    p.within,
    o.within,
    length-drop b.used bytes,
    length-drop c.used bytes,
    ap length (determined p.unread o.unread),
  ),
)

-- ---- decisions on a lent memory

-- tables that do not pass the check refuse every event
broken_refuse : (es : Input) → all_refused (map (λ _. no_tables) es) ≡ true
unfolding all
broken_refuse [] = refl
broken_refuse (e ∷ es) = broken_refuse es

pub decided_count : (m : List ℕ) (es : Input) → length (decided m es) ≡ length es
unfolding decided
decided_count m es = on (valid m) refl
  where
    on : (v : Bool) → valid m ≡ v → length (decided m es) ≡ length es
    on true v = rw v (decisions_count small (tables m) es)
    on false v = rw v (length-map es (λ _. no_tables))

module _ {m bytes before m₁ after : List ℕ} {n : ℕ} (p : Served m bytes before m₁ after n) where
  abbrev ran : Input
  ran = (taken (length before) bytes).events

  -- broken tables are kept, every word
  pub batch_keeps_broken : valid m ≡ false → m₁ ≡ m
  unfolding decided
  batch_keeps_broken v = p.keeps (rw v (broken_refuse ran))

  pub batch_stays_valid : valid m₁ ≡ valid m
  batch_stays_valid = on (valid m) refl
    where
      on : (v : Bool) → valid m ≡ v → valid m₁ ≡ valid m
      on true v = (p.leaves v).0 ∙ sym v
      on false v = ap valid (batch_keeps_broken v)

  -- what comes behind a batch is decided on what it left
  pub decided_behind : (fs : Input) → decided m (ran ++ fs) ≡ decided m ran ++ decided m₁ fs
  unfolding decided
  decided_behind fs = on (valid m) refl
    where
      on : (v : Bool) → valid m ≡ v → decided m (ran ++ fs) ≡ decided m ran ++ decided m₁ fs
      on true v = rw (v, batch_stays_valid ∙ v)
          (decisions_append small (tables m) ran fs
          ∙ ap (λ (T : Tables). decisions small (tables m) ran ++ decisions small T fs) (sym (p.leaves v).1))
      on false v = rw (v, batch_stays_valid ∙ v) (map-append (λ (_ : List ℕ). no_tables) ran fs)

  -- ---- single calls

  -- "The result equals single calls in order, refused and malformed events included": on the same words, by any results that the promise
  -- of a step allows, single calls of the events that are run have the same decisions; they leave the same tables and dump, where the
  -- words are valid; and every word is the same where each of them is refused, as on words that are not valid.
  pub equals_single_calls : {ds : List Decision} {m₂ : List ℕ} → SingleCalls m ran ds m₂ →
      (after ≡ numbers ds ++ drop (length (numbers ds)) before)
      × (valid m ≡ true → (tables m₁ ≡ tables m₂) × (dump (tables m₁) ≡ dump (tables m₂)))
      × (all_refused ds ≡ true → m₁ ≡ m₂)
  unfolding numbers_after
  equals_single_calls {ds} {m₂} cs =
      let d = calls_decide cs in (
        p.numbers ∙ ap (λ (xs : List Decision). numbers xs ++ drop (length (numbers xs)) before) (sym d),
        (λ v. let t = (p.leaves v).1 ∙ sym (calls_leave cs v) in (t, ap dump t)),
        (λ h. p.keeps (ap all_refused (sym d) ∙ h) ∙ sym (calls_keep cs h)),
      )

-- ---- two batches in a row

-- a is handed over on m with the buffer `before`; then, on what that leaves, its unread end with b behind it, with the rest of the
-- buffer; and, on m and `before` again, all the bytes at once
module _ (m before a x : List ℕ) where
  abbrev room : ℕ
  room = length before

  -- what the first one takes, and the numbers that it wrote
  abbrev first : Taken
  first = taken room a

  abbrev wrote : List ℕ
  wrote = numbers (decided m first.events)

  abbrev rest : List ℕ
  rest = drop (length wrote) x

  -- The two equal the one: in the refusal, and, where that is 0, in every number, in the unread end, in the tables and in the dump.
  pub two_batches_equal_one : (b : List ℕ) {m₁ m₂ y m' z : List ℕ} {n j : ℕ} →
      Served m a before m₁ x 0 → Served m₁ (first.unread ++ b) rest m₂ y n → Served m (a ++ b) before m' z j →
      (n ≡ j)
      × (j ≡ 0 → (wrote ++ y ≡ z) × ((taken (length rest) (first.unread ++ b)).unread ≡ (taken room (a ++ b)).unread)
      × (valid m ≡ true → (tables m₂ ≡ tables m') × (dump (tables m₂) ≡ dump (tables m'))))
  unfolding numbers_after
  two_batches_equal_one b {m₁} {m₂} {y} {m'} {z} p q o =
      (q.refusal ∙ (ap (λ (t : Taken). t.refusal) next ∙ (twice.0 ∙ sym o.refusal)), λ e. on (sym o.refusal ∙ e))
    where
      taken_first : first.refusal ≡ 0
      taken_first = sym p.refusal

      less : length wrote ≡ needed a
      less = omega (arith, numbers_count (decided m first.events), decided_count m first.events, room_left room a b taken_first)

      stayed : rest ≡ drop (length wrote) before
      stayed = ap (drop (length wrote)) p.numbers ∙ drop-append_seam wrote (drop (length wrote) before)

      next : taken (length rest) (first.unread ++ b) ≡ taken (room - needed a) (first.unread ++ b)
      next =
          let e : length rest ≡ room - needed a = omega (arith, ap length stayed, length-drop (length wrote) before, less) in
          ap (λ (k : ℕ). taken k (first.unread ++ b)) e

      fs : Input
      fs = (taken (length rest) (first.unread ++ b)).events

      twice : ((taken (room - needed a) (first.unread ++ b)).refusal ≡ (taken room (a ++ b)).refusal)
          × ((taken room (a ++ b)).refusal ≡ 0
          → (first.events ++ (taken (room - needed a) (first.unread ++ b)).events ≡ (taken room (a ++ b)).events)
          × ((taken (room - needed a) (first.unread ++ b)).unread ≡ (taken room (a ++ b)).unread))
      twice = taken_twice room a b taken_first

      on : (taken room (a ++ b)).refusal ≡ 0 →
          (wrote ++ y ≡ z) × ((taken (length rest) (first.unread ++ b)).unread ≡ (taken room (a ++ b)).unread)
          × (valid m ≡ true → (tables m₂ ≡ tables m') × (dump (tables m₂) ≡ dump (tables m')))
      on e =
          let all_of_it : first.events ++ fs ≡ (taken room (a ++ b)).events =
          ap (λ (t : Taken). first.events ++ t.events) next ∙ (twice.1 e).0 in
          let ns = numbers (decided m₁ fs) in
          let ds : decided m (taken room (a ++ b)).events ≡ decided m first.events ++ decided m₁ fs =
          ap (decided m) (sym all_of_it) ∙ decided_behind p fs in
          let both : numbers (decided m (taken room (a ++ b)).events) ≡ wrote ++ ns =
          ap numbers ds ∙ numbers_append (decided m first.events) (decided m₁ fs) in
          let tail : drop (length ns) rest ≡ drop (length (wrote ++ ns)) before =
          ap (drop (length ns)) stayed ∙ (drop-drop (length ns) (length wrote) before
          ∙ ap (λ (k : ℕ). drop k before) (sym (length-append wrote ns))) in (
            ap (λ (l : List ℕ). wrote ++ l) (q.numbers ∙ ap (λ (l : List ℕ). ns ++ l) tail)
                ∙ (sym (append_assoc wrote ns (drop (length (wrote ++ ns)) before))
                ∙ (ap (λ (l : List ℕ). l ++ drop (length l) before) (sym both) ∙ sym o.numbers)),
            ap (λ (t : Taken). t.unread) next ∙ (twice.1 e).1,
            (λ v.
                let t : tables m₂ ≡ tables m' =
                (q.leaves (p.leaves v).0).1
                ∙ (ap (λ (T : Tables). run small T fs) (p.leaves v).1
                ∙ (sym (run_append small (tables m) first.events fs) ∙ (ap (run small (tables m)) all_of_it ∙ sym (o.leaves v).1))) in
                (t, ap dump t)),
          )
