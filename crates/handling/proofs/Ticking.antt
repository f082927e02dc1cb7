-- A tick's parts, by their cases, and the room that they need.
use Rattle.std.proofs.Common.{◌≡◌, ℕ, ◌+◌, ◌-◌, ◌<◌, ◌≤◌, ◌≢◌, List, [], length, sym, refl, ap, ◌∙◌, ap₂, arith}
use Rattle.rules.specs.Lists.{one_if}
use Rattle.rules.specs.Numbers.{beat_ticks}
use Rattle.laws.specs.Words.{Limits}
use Rattle.rules.specs.Tables.{Tables, with_runner, with_time, with_clock, with_ticks, change, runs}
use Rattle.rules.specs.States.{on_clock}
use Rattle.rules.specs.Waking.{wake_those, wake}
use Rattle.rules.specs.Tick.{one_more, charge, beat, rotate}
use Rattle.laws.specs.Words.{Nothing, Result, Runner, NoRunner, Runs}
use Rattle.laws.proofs.Tests.{by_runs}
use Rattle.laws.specs.Types.{Inv}
use Rattle.laws.proofs.Room.{queues_room}
use Rattle.laws.proofs.Single.{charge_at, beat_strikes, beat_passes, rotate_turns}
use Rattle.store.specs.Store.{limits, tables, Holding, Leaves}
use Rattle.handling.proofs.Leaving.{in_words, and_then, carried}

-- ---- room in the ready queue

pub clock_fits : {L : Limits} (T : Tables) → Inv L T → length T.ready + length T.clock ≤ L.threads
clock_fits {L} T I = omega (arith, queues_room L T I, I.few)

pub runner_fits : {L : Limits} (T : Tables) (n s : ℕ) → T.runner ≡ Runs n s → Inv L T → length T.ready < L.threads
unfolding runs
runner_fits {L} T n s e I = omega (arith, queues_room L T I, I.few, ap (λ (r : Runner). one_if (runs r)) e)

-- ---- charge

pub charged : {m m₁ m₂ : List ℕ} (n s : ℕ) → (tables m).runner ≡ Runs n s →
    Leaves m m₁ (change n (λ t. with_ticks (one_more t.ticks) t) (tables m)) →
    Leaves m₁ m₂ (with_runner (Runs n (s - 1)) (tables m₁)) → Leaves m m₂ (charge (tables m))
charged {m} n s e counted less = in_words (sym (charge_at (tables m) n s e)) (and_then (with_runner (Runs n (s - 1))) counted less)

-- the time of the beat is as it was
pub charge_since : (T : Tables) → (charge T).since ≡ T.since
unfolding charge change
charge_since T = by_runs (λ (U : Tables). U.since ≡ T.since) T.runner (λ _. refl) (λ n s e. refl)

-- ---- beat

-- b: the beats before it
module _ {m m₁ : List ℕ} (k b : ℕ) (since : k ≡ (tables m).since) (beats : b ≡ (tables m).beats) where
  pub passed : k + 1 ≢ beat_ticks → Leaves m m₁ (with_time (k + 1) b (tables m)) → Leaves m m₁ (beat (tables m))
  passed d l =
      in_words
      (ap₂ (λ (i j : ℕ). with_time (i + 1) j (tables m)) since beats
      ∙ sym (beat_passes (tables m) (λ e. d (ap (λ (i : ℕ). i + 1) since ∙ e))))
      l

  module _ (next : ℕ) (rises : next ≡ one_more b) (timed : Leaves m m₁ (with_time 0 next (tables m))) where
    -- those who wait for the clock have room in the ready queue
    pub beat_room : Inv (limits m) (tables m) → Holding m₁ × (length (tables m₁).ready + length (tables m₁).clock ≤ (limits m₁).threads)
    beat_room I = (
      timed.holding,
      carried (λ (L : Limits) (T : Tables). length T.ready + length T.clock ≤ L.threads) timed
          (clock_fits (tables m) I),
    )

    pub struck : {m₂ : List ℕ} → k + 1 ≡ beat_ticks →
        Leaves m₁ m₂ (wake_those (λ t. on_clock t.state) (λ t. Result next) (tables m₁).clock (with_clock [] (tables m₁))) →
        Leaves m m₂ (beat (tables m))
    struck e woken =
        in_words
        (ap (λ (n : ℕ). wake_those (λ t. on_clock t.state) (λ t. Result n) (tables m).clock (with_clock [] (with_time 0 n (tables m))))
        (rises ∙ ap one_more beats)
        ∙ sym (beat_strikes (tables m) (ap (λ (i : ℕ). i + 1) (sym since) ∙ e)))
        (and_then (λ (T : Tables). wake_those (λ t. on_clock t.state) (λ t. Result next) T.clock (with_clock [] T)) timed woken)

-- ---- rotate

pub rotated : {m m₁ m₂ : List ℕ} (n s : ℕ) → (tables m).runner ≡ Runs n s → s ≡ 0 → Leaves m m₁ (wake n Nothing (tables m)) →
    Leaves m₁ m₂ (with_runner NoRunner (tables m₁)) → Leaves m m₂ (rotate (tables m))
rotated {m} n s e z woken done = in_words (sym (rotate_turns (tables m) n (e ∙ ap (Runs n) z))) (and_then (with_runner NoRunner) woken done)
