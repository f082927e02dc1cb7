-- A batch on a lent memory: what follows from its promise.
use Rattle.std.specs.Prelude.{ℕ, ◌≤◌, ◌≡◌, true, false, List, [], ◌++◌, ◌∷◌, ◌↔◌, length, drop}
use Rattle.std.specs.Borrow.{Bor}
use Rattle.rules.specs.Batch.{numbers, taken, batch}
use Rattle.rules.specs.Benches.{P1}
use Rattle.rules.specs.Dispatch.{status}
use Rattle.rules.specs.Dump.{dump}
use Rattle.rules.specs.Lists.{any, all, each}
use Rattle.rules.specs.Numbers.{small}
use Rattle.rules.specs.Runs.{Input, run, decisions}
use Rattle.rules.specs.Step.{step}
use Rattle.rules.specs.Tables.{start}
use Rattle.rules.specs.declared.Decision.{Decision}
use Rattle.laws.specs.Words.{NoRunner, Panicked, Event}
use Rattle.laws.specs.Handed.{Cause}
use Rattle.laws.specs.Outside.{from_outside, some_ready, outside}
use Rattle.laws.specs.Wait.{became_ready, ticks_accepted, served_by}
use Rattle.batching.specs.Batching.{decided, Served, Batches, BatchesValue, SingleCalls, all_refused}
use Rattle.batching.specs.Example.{told, cut_short, gathered}
use Rattle.batching.specs.Runs.{Series, SameResults}
use Rattle.batching.specs.declared.Batched.{Batched}
use Rattle.lending.specs.Lent.{valid}
use Rattle.lending.specs.declared.Tables.{Tables as Lent}
use Rattle.store.specs.Store.{tables}
use Rattle.batching.proofs.Runs as batching_runs
use Rattle.batching.proofs.Determined as batching_determined
use Rattle.batching.proofs.Example as batching_example

module _ {es : Input} {m : List ℕ} (s : Series es m) where
  -- After a start, steps and batches in any mix, by any results that the promises allow, the memory is valid and stands for the rules' run
  -- of the events that were run.
  pub stands_for_the_run : (valid m ≡ true) × (tables m ≡ run small start es)
  stands_for_the_run = batching_runs.stands_for_the_run s

  -- The numbers of the next batch are those of the rules' decisions.
  pub told_by_the_rules : {bytes before m' after : List ℕ} {n : ℕ} → Served m bytes before m' after n →
      let ds = decisions small (run small start es) (taken (length before) bytes).events in
      after ≡ numbers ds ++ drop (length (numbers ds)) before
  told_by_the_rules = batching_runs.told_by_the_rules s

  -- The rules' decision on each of the events that come next hands over what has its cause in the events up to it; `told_by_the_rules` says
  -- that these are the decisions of the next batch.
  pub handed_has_its_cause : (fs gs : Input) (e : List ℕ) →
      let d = (step small (run small start (es ++ fs)) e).decision in
      (decisions small (run small start es) (fs ++ (e ∷ gs))
      ≡ decisions small (run small start es) fs ++ (d ∷ decisions small (run small start ((es ++ fs) ++ (e ∷ []))) gs))
      × Cause small ((es ++ fs) ++ (e ∷ [])) d.runner d.answer
  handed_has_its_cause = batching_runs.handed_has_its_cause s

  -- A thread that an event of the next batch makes ready, wherever that stands in it, has run or ended by the 95th tick accepted after it:
  -- of the ticks behind it in the batch, and of those that come later.
  pub waits_at_most_95 : {bytes before m' after : List ℕ} {k : ℕ} → Served m bytes before m' after k →
      (fs gs : Input) (e : List ℕ) → (taken (length before) bytes).events ≡ fs ++ (e ∷ gs) → (more : Input) (n : ℕ) →
      let T = run small (tables m) fs in
      let U = (step small T e).tables in
      (tables m' ≡ run small U gs)
      × (became_ready small T e n ≡ true → 95 ≤ ticks_accepted small U (gs ++ more) → served_by small 95 n U (gs ++ more) ≡ true)
  waits_at_most_95 = batching_runs.waits_at_most_95 s

  -- With threads and nobody to run: panicked exactly if no series of ticks and interrupts makes any thread ready.
  pub panics_exactly : (tables m).runner ≡ NoRunner → any (λ t. true) (tables m).threads ≡ true →
      (status (tables m) ≡ Panicked) ↔ ((os : List Event) → all from_outside os ≡ true → some_ready (outside (tables m) os) ≡ false)
  panics_exactly = batching_runs.panics_exactly s

-- Any two results of a batch that its promise allows agree: in the refusal, in every number, in the unread end, its bytes and where it
-- stands, in tables and dump, and in every word where no event is accepted. `nucleus_batch` has the same promise.
pub batch_determined : {m before a b x y : List ℕ} {s r q : Bor (List ℕ)} {n k : ℕ} → Batches m s before r a x n →
    Batches m s before q b y k
    → SameResults m (taken (length before) s.now).events n k x y a b × (r.now ≡ q.now) × (r.ref_ptr ≡ q.ref_ptr)
batch_determined = batching_determined.batch_determined

-- The same of `batch_value`, and in how many bytes are read.
pub batch_value_determined : {t : Lent} {bytes before x y : List ℕ} {b c : Batched} → BatchesValue t bytes before x b →
    BatchesValue t bytes before y c
    → SameResults t.words (taken (length before) bytes).events b.refusal c.refusal x y b.tables.words c.tables.words
    × (b.used ≡ c.used)
batch_value_determined = batching_determined.batch_value_determined

-- A batch and single calls on the same words, by any results that the promise of a step allows, have the same decisions, and leave the
-- same tables and dump; every word is the same where each event is refused, as with bad tables.
pub equals_single_calls : {m bytes before m₁ after : List ℕ} {n : ℕ} → Served m bytes before m₁ after n →
    {ds : List Decision} {m₂ : List ℕ} → SingleCalls m (taken (length before) bytes).events ds m₂ →
    (after ≡ numbers ds ++ drop (length (numbers ds)) before)
    × (valid m ≡ true → (tables m₁ ≡ tables m₂) × (dump (tables m₁) ≡ dump (tables m₂)))
    × (all_refused ds ≡ true → m₁ ≡ m₂)
equals_single_calls = batching_determined.equals_single_calls

-- Two batches in a row equal one of all the bytes: in the refusal and, where that is 0, in every number, in the unread end, in tables
-- and dump; with bad tables too.
pub two_batches_equal_one : (m before a x b : List ℕ) {m₁ m₂ y m' z : List ℕ} {n j : ℕ} →
    let first = taken (length before) a in
    let wrote = numbers (decided m first.events) in
    let rest = drop (length wrote) x in
    Served m a before m₁ x 0 → Served m₁ (first.unread ++ b) rest m₂ y n → Served m (a ++ b) before m' z j →
    (n ≡ j)
    × (j ≡ 0 → (wrote ++ y ≡ z) × ((taken (length rest) (first.unread ++ b)).unread ≡ (taken (length before) (a ++ b)).unread)
    × (valid m ≡ true → (tables m₂ ≡ tables m') × (dump (tables m₂) ≡ dump (tables m'))))
two_batches_equal_one = batching_determined.two_batches_equal_one

-- Document 01's listing in one batch, with a malformed field and a cut one behind it, gives the listing's numbers, 2, and the cut field
-- back. (By computation.)
pub listing_in_a_batch : told (batch small start 54 gathered)
    ≡ record { refusal = 0; numbers = each (λ l. l) P1.last ++ (2 ∷ 1 ∷ 255 ∷ 0 ∷ 255 ∷ 0 ∷ []); unread = cut_short }
listing_in_a_batch = batching_example.listing_in_a_batch

-- With one number less it is refused, and all bytes come back. (By computation.)
pub listing_refused : told (batch small start 53 gathered) ≡ record { refusal = 14; numbers = []; unread = gathered }
listing_refused = batching_example.listing_refused

-- Nothing, and nothing but a cut field: 0 with no room at all. (By computation.)
pub nothing_to_run : (told (batch small start 0 []) ≡ record { refusal = 0; numbers = []; unread = [] })
    × (told (batch small start 0 cut_short) ≡ record { refusal = 0; numbers = []; unread = cut_short })
nothing_to_run = batching_example.nothing_to_run
