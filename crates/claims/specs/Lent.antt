-- The public operations on a lent memory: what follows from their promises, call after call.
use Rattle.std.specs.Prelude.{ℕ, ◌≤◌, ◌≡◌, true, false, List, [], ◌∷◌, ◌++◌, ◌↔◌, ◌≢◌, take, length, drop}
use Rattle.rules.specs.Dispatch.{status}
use Rattle.rules.specs.Dump.{dump}
use Rattle.rules.specs.Lists.{any, all}
use Rattle.rules.specs.Numbers.{small}
use Rattle.rules.specs.Runs.{Input, run}
use Rattle.rules.specs.Step.{step}
use Rattle.rules.specs.TableRules.{table_rules}
use Rattle.rules.specs.Tables.{start, Tables}
use Rattle.rules.specs.declared.Decision.{Decision}
use Rattle.rules.specs.declared.Verdict.{Verdict}
use Rattle.laws.specs.Words.{NoRunner, Panicked, Event}
use Rattle.laws.specs.Handed.{Cause}
use Rattle.laws.specs.Outside.{from_outside, some_ready, outside}
use Rattle.laws.specs.Wait.{became_ready, ticks_accepted, served_by}
use Rattle.buffer.specs.Puts.{Puts}
use Rattle.checking.specs.Stands.{stands}
use Rattle.lending.specs.Lent.{valid, Answered, Started}
use Rattle.lending.specs.Runs.{Series}
use Rattle.loading.specs.Loading.{Loads, accepted}
use Rattle.store.specs.Store.{tables}
use Rattle.lending.proofs.Runs as lending_runs
use Rattle.lending.proofs.Determined as lending_determined
use Rattle.loading.proofs.Promises as loading_promises

module _ {es : Input} {m : List ℕ} (s : Series es m) where
  -- After a start and steps, by any results that the promises of `start_in` and `step_in` allow, the memory is valid and stands for the
  -- rules' run of those events.
  pub stands_for_the_run : (valid m ≡ true) × (tables m ≡ run small start es)
  stands_for_the_run = lending_runs.stands_for_the_run s

  -- With threads and nobody to run: panicked exactly if no series of ticks and interrupts makes any thread ready.
  pub panics_exactly : (tables m).runner ≡ NoRunner → any (λ t. true) (tables m).threads ≡ true →
      (status (tables m) ≡ Panicked) ↔ ((os : List Event) → all from_outside os ≡ true → some_ready (outside (tables m) os) ≡ false)
  panics_exactly = lending_runs.panics_exactly s

  module _ (e m' : List ℕ) (d : Decision) (c : Answered m e m' d) where
    -- The next decision is that of the rules.
    pub decided_by_the_rules : d ≡ (step small (run small start es) e).decision
    decided_by_the_rules = lending_runs.decided_by_the_rules s e m' d c

    -- Whatever the next decision hands over has its cause in these events.
    pub handed_has_its_cause : Cause small (es ++ (e ∷ [])) d.runner d.answer
    handed_has_its_cause = lending_runs.handed_has_its_cause s e m' d c

    -- A thread that the next event makes ready has run or ended by the 95th tick accepted after it.
    pub waits_at_most_95 : (after : Input) (n : ℕ) → became_ready small (tables m) e n ≡ true →
        95 ≤ ticks_accepted small (tables m') after → served_by small 95 n (tables m') after ≡ true
    waits_at_most_95 = lending_runs.waits_at_most_95 s e m' d c

module _ {m bytes a b : List ℕ} {d e : Decision} (x : Answered m bytes a d) (y : Answered m bytes b e) where
  -- Any two results of a step that its promise allows agree: in the decision; in the tables and their dump, where what is lent is valid; in
  -- every word, where it is not.
  pub step_in_determined : (d ≡ e) × (valid m ≡ true → (tables a ≡ tables b) × (dump (tables a) ≡ dump (tables b)))
      × (valid m ≡ false → a ≡ b)
  step_in_determined = lending_determined.step_in_determined x y

  -- And in every word after a refused event.
  pub refused_determined : d.refusal ≢ 0 → a ≡ b
  refused_determined = lending_determined.refused_determined x y

-- Any two results that the start's promise allows agree, in the tables and in their dump.
pub start_determined : (a b : List ℕ) → Started a → Started b → (tables a ≡ tables b) × (dump (tables a) ≡ dump (tables b))
start_determined = lending_determined.start_determined

-- Valid memories with equal dumps stand for the same tables.
pub lent_dump_tells : (a b : List ℕ) → valid a ≡ true → valid b ≡ true → dump (tables a) ≡ dump (tables b) → tables a ≡ tables b
lent_dump_tells = lending_determined.lent_dump_tells

-- The bytes that the writer puts, read into any memory, are accepted and give the tables that were written.
pub written_reads : (m u u' before after : List ℕ) (n : ℕ) (r : Verdict) → stands small m ≡ true → Puts (dump (tables m)) before after n →
    Loads u (take n after) u' r →
    (r ≡ accepted) × (stands small u' ≡ true) × (tables u' ≡ tables m)
written_reads = loading_promises.written_reads

-- Bytes that the reader accepts, written from the memory that it left into any buffer, stand in front of it.
pub read_writes : (m bytes m' before after : List ℕ) (r : Verdict) (n : ℕ) → Loads m bytes m' r → r.refusal ≡ 0 →
    Puts (dump (tables m')) before after n →
    (n ≡ length bytes) × (after ≡ bytes ++ drop (length bytes) before)
read_writes = loading_promises.read_writes

-- Reading refuses bytes exactly if they are the dump of no tables that meet the rules.
pub refused_exactly : (m bytes m' : List ℕ) (v : Verdict) → Loads m bytes m' v →
    (v.refusal ≢ 0) ↔ ((T : Tables) → table_rules small T ≡ true → dump T ≢ bytes)
refused_exactly = loading_promises.refused_exactly

-- And then with one of 15 to 19, at an offset within the bytes.
pub refused_with : (m bytes m' : List ℕ) (v : Verdict) → Loads m bytes m' v → v.refusal ≢ 0 → (15 ≤ v.refusal) × (v.refusal ≤ 19)
    × (v.offset ≤ length bytes)
refused_with = loading_promises.refused_with

-- Any two results that the reader's promise allows agree: in the refusal and the offset; in the tables and their dump, where it accepts; in
-- every word, where it does not. `load_value` and `nucleus_load` have the same promise.
pub load_in_determined : (m bytes a b : List ℕ) (r s : Verdict) → Loads m bytes a r → Loads m bytes b s →
    (r ≡ s) × (r.refusal ≡ 0 → (tables a ≡ tables b) × (dump (tables a) ≡ dump (tables b))) × (r.refusal ≢ 0 → a ≡ b)
load_in_determined = loading_promises.load_in_determined
