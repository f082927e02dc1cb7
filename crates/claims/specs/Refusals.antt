-- Refusals: each number exactly when its rule says, and nothing is changed.
use Rattle.std.specs.Prelude.{ℕ, ◌≡◌, ◌↔◌, ◌≢◌, Bool, true, false}
use mathlib.Core.List.{[], ◌∷◌, Memᴰ, List}
use Rattle.laws.specs.Words.{Limits}
use Rattle.rules.specs.Tables.{Tables, me, start}
use Rattle.rules.specs.Refusals.{first_of, refusal, is_malformed}
use Rattle.rules.specs.Lists.{any}
use Rattle.rules.specs.Dispatch.{status}
use Rattle.rules.specs.Events.{decode}
use Rattle.rules.specs.Codes.{status_code}
use Rattle.rules.specs.Step.{step, Stepped}
use Rattle.rules.specs.Dump.{dump}
use Rattle.rules.specs.Pick.{pick}
use Rattle.rules.specs.Load.{Loaded, load}
use Rattle.laws.specs.Words.{Event, Nothing, Picked}
use Rattle.laws.specs.Refusals.{the_ten, before, comes_too_late, lacks_runner, names_nobody, lacks_block, lacks_thread, is_brother_of_0}
use Rattle.laws.specs.Refusals.{device_is_taken, decides_wrongly, manages_itself}
use Rattle.laws.proofs.Refusals as refusals
use Rattle.laws.proofs.Determinacy as determinacy

module _ (L : Limits) (T : Tables) (e : Event) where
  -- The refusal is the number of the first test that holds in one list of ten, in the order of document 01.
  pub refused_exactly : refusal L T e ≡ first_of (the_ten L T e)
  refused_exactly = refusals.refused_exactly L T e

  -- number n is given exactly if this test holds and none before it does
  abbrev pub Given : ℕ → Bool → Type 0
  Given n test = (refusal L T e ≡ n) ↔ ((test ≡ true) × (before n (the_ten L T e) ≡ false))

  -- For each number an event can get: it is given exactly if its own test holds and none before it does.
  pub refused_1 : Given 1 (comes_too_late T)
  refused_1 = refusals.refused_1 L T e

  pub refused_2 : Given 2 (is_malformed e)
  refused_2 = refusals.refused_2 L T e

  pub refused_3 : Given 3 (lacks_runner T e)
  refused_3 = refusals.refused_3 L T e

  pub refused_4 : Given 4 (names_nobody T e)
  refused_4 = refusals.refused_4 L T e

  pub refused_5 : Given 5 (lacks_block L T e)
  refused_5 = refusals.refused_5 L T e

  pub refused_6 : Given 6 (lacks_thread L T e)
  refused_6 = refusals.refused_6 L T e

  pub refused_7 : Given 7 (is_brother_of_0 T e)
  refused_7 = refusals.refused_7 L T e

  pub refused_8 : Given 8 (device_is_taken T e)
  refused_8 = refusals.refused_8 L T e

  pub refused_9 : Given 9 (decides_wrongly T e)
  refused_9 = refusals.refused_9 L T e

  pub refused_10 : Given 10 (manages_itself T e)
  refused_10 = refusals.refused_10 L T e

  -- An event is accepted exactly if no test holds.
  pub accepted_exactly : (refusal L T e ≡ 0) ↔ (any (λ r. r.holds) (the_ten L T e) ≡ false)
  accepted_exactly = refusals.accepted_exactly L T e

  -- No number is given but these and 0.
  pub refusals_are_listed : Memᴰ (refusal L T e) (0 ∷ 1 ∷ 2 ∷ 3 ∷ 4 ∷ 9 ∷ 5 ∷ 7 ∷ 6 ∷ 10 ∷ 8 ∷ [])
  refusals_are_listed = refusals.refusals_are_listed L T e

-- A refused event changes nothing in the tables; the decision has its number, no answer, and the status and the runner that were there.
pub refused_changes_nothing : (L : Limits) (T : Tables) (bytes : List ℕ) →
    refusal L T (decode bytes) ≢ 0 →
    ((step L T bytes).tables ≡ T)
    × ((step L T bytes).decision ≡ record {
      refusal = refusal L T (decode bytes);
      status = status_code (status T);
      runner = me T.runner;
      answer = Nothing;
    })
refused_changes_nothing = refusals.refused_changes_nothing

-- Any two results that equal what the rules define agree, in decision and in dump: for step, start, pick, dump, load.
pub step_determined : (L : Limits) (T : Tables) (bytes : List ℕ) (a b : Stepped) → a ≡ step L T bytes → b ≡ step L T bytes →
    (a.decision ≡ b.decision) × (dump a.tables ≡ dump b.tables)
step_determined = determinacy.step_determined

pub start_determined : (a b : Tables) → a ≡ start → b ≡ start → dump a ≡ dump b
start_determined = determinacy.start_determined

pub pick_determined : (word : ℕ) (a b : Picked) → a ≡ pick word → b ≡ pick word → a ≡ b
pick_determined = determinacy.pick_determined

pub dump_determined : (T : Tables) (a b : List ℕ) → a ≡ dump T → b ≡ dump T → a ≡ b
dump_determined = determinacy.dump_determined

pub load_determined : (L : Limits) (bytes : List ℕ) (a b : Loaded) → a ≡ load L bytes → b ≡ load L bytes → a ≡ b
load_determined = determinacy.load_determined
