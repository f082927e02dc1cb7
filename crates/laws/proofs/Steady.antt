-- Every step keeps `Steady`: the slice, the beat's numbers, and nobody ready without a runner.
use Rattle.std.proofs.Common.{◌==◌}
use Prim.Native.Nat.{ℕ, ◌+◌, ◌-◌, ◌≤◌, ◌<◌}
use mathlib.Core.Path.{◌≡◌, refl, sym, ◌∙◌}
use mathlib.Core.List.{List}
use native.Mathlib.Omega.{arith}
use native.Mathlib.Nat.{mod-lt}
use borrow.Author.Tests.{eqb-false}
use Rattle.rules.specs.Numbers.{names, full_slice, beat_ticks, wrap}
use Rattle.laws.specs.Words.{Limits}
use Rattle.rules.specs.Tables.{Tables, change}
use Rattle.rules.specs.Waking.{Outcome, wake_those}
use Rattle.rules.specs.Tick.{charge, beat, rotate, tick}
use Rattle.rules.specs.Dispatch.{dispatch}
use Rattle.rules.specs.Events.{decode}
use Rattle.rules.specs.Step.{act, step}
use Rattle.laws.specs.Words.{Runner, NoRunner, Runs, Event, Malformed, ByRunner, Tick, Interrupt}
use Rattle.laws.specs.Types.{Inv, Steady}
use Rattle.laws.specs.Calm.{is_tick}
use Rattle.laws.proofs.Tests.{by_if, by_runs}
use Rattle.laws.proofs.Steps.{by_step, by_dispatch}
use Rattle.laws.proofs.Calm.{Goes, on, off, Calm, act_calm}

-- ---- slice and time

-- before the dispatch
record Timed (T : Tables) : Type 0 where
  slice : (n s : ℕ) → T.runner ≡ Runs n s → (1 ≤ s) × (s ≤ full_slice)
  since : T.since < beat_ticks
  beats : T.beats < wrap

no_runner : {r : Runner} {n s : ℕ} → r ≡ NoRunner → r ≡ Runs n s → ⊥
no_runner a b = let z : ◌≡◌ {A = ℕ} 0 1 = cc in omega arith

calm_timed : {T U : Tables} → Calm T U → Timed T → Timed U
calm_timed {T} {U} C H =
    record { slice = goes C.goes; since = omega (arith, C.since, H.since); beats = omega (arith, C.beats, H.beats) }
  where
    goes : Goes T U → (n s : ℕ) → U.runner ≡ Runs n s → (1 ≤ s) × (s ≤ full_slice)
    goes (on a) n s e = H.slice n s (sym a ∙ e)
    goes (off a) n s e = absurd (no_runner a e)

-- within a tick the slice may be used up
record Ticking (T : Tables) : Type 0 where
  slice : (n s : ℕ) → T.runner ≡ Runs n s → s ≤ full_slice
  since : T.since < beat_ticks
  beats : T.beats < wrap

charge_timed : (T : Tables) → Timed T → Ticking (charge T)
unfolding charge
charge_timed T H =
    by_runs Ticking T.runner
    (λ e. record { slice = λ n s i. absurd (no_runner e i); since = H.since; beats = H.beats })
    (λ n s e. unfold change in record {
      slice = λ m u i. let q : s - 1 ≡ u = cc in
          omega (arith, H.slice n s e);
      since = H.since;
      beats = H.beats;
    })

beat_timed : (T : Tables) → Ticking T → Ticking (beat T)
unfolding beat wake_those
beat_timed T H =
    by_if Ticking (T.since + 1 == beat_ticks)
    (λ e. record { slice = H.slice; since = omega arith; beats = mod-lt (T.beats + 1) (omega arith) })
    (λ e. record { slice = H.slice; since = omega (arith, H.since, eqb-false (T.since + 1) beat_ticks e); beats = H.beats })

rotate_timed : (T : Tables) → Ticking T → Timed (rotate T)
unfolding rotate wake_those
rotate_timed T H =
    by_runs Timed T.runner
    (λ e. record { slice = λ n s i. absurd (no_runner e i); since = H.since; beats = H.beats })
    (λ n s e.
    by_if Timed (s == 0)
    (λ z. record { slice = λ m u i. absurd (no_runner refl i); since = H.since; beats = H.beats })
    (λ z. record {
      slice = λ m u i. let q : s ≡ u = cc in
          omega (arith, H.slice n s e, eqb-false s 0 z);
      since = H.since;
      beats = H.beats;
    }))

act_timed : (e : Event) (T : Tables) → Timed T → Timed (act T e).tables
unfolding is_tick
act_timed Malformed T H = calm_timed (act_calm Malformed T refl) H
act_timed (ByRunner c) T H = calm_timed (act_calm (ByRunner c) T refl) H
act_timed Tick T H = unfold act tick in rotate_timed _ (beat_timed _ (charge_timed T H))
act_timed (Interrupt d w) T H = calm_timed (act_calm (Interrupt d w) T refl) H

-- after a dispatch nobody is ready without a runner, and a new runner has a full slice
dispatch_steady : (o : Outcome) → Timed o.tables → Steady (dispatch o).tables
dispatch_steady o H =
    by_dispatch Steady o
    (λ n s e. record { slice = H.slice; quiet = λ i. absurd (no_runner i e); since = H.since; beats = H.beats })
    (λ r e. record { slice = H.slice; quiet = λ _. e; since = H.since; beats = H.beats })
    (λ n q r e. unfold change in record {
      slice = λ m s i. let k : full_slice ≡ s = cc in
          omega arith;
      quiet = λ i. absurd (no_runner i refl);
      since = H.since;
      beats = H.beats;
    })

-- Every step, accepted or refused, keeps: a slice of 1 to 5 with a runner, nobody ready without one, the beat's numbers in their ranges.
pub step_steady : {L : Limits} {T : Tables} (bytes : List ℕ) → L.threads < names → Inv L T → Steady T → Steady (step L T bytes).tables
step_steady {L} {T} bytes l I S =
    by_step (λ U b. Steady U) L T bytes S
    (λ _. dispatch_steady (act T (decode bytes))
    (act_timed (decode bytes) T (record { slice = S.slice; since = S.since; beats = S.beats })))
