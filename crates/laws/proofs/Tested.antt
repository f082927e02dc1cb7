-- The tests of the table rules that speak of counts, against the counts: names, places, devices.
use Rattle.std.proofs.Common.{◌==◌}
use Prim.Native.Nat.{ℕ, ◌+◌, ◌≤◌, ◌<◌}
use mathlib.Core.Path.{◌≡◌, refl, sym, ap, ◌∙◌}
use mathlib.Core.Bool.{Bool, true, false, ◌&&◌}
use mathlib.Core.List.{List, Memᴰ}
use native.Mathlib.Omega.{arith}
use lib.Dec.{ltb}
use borrow.Author.Tests.{eqb-true, eq-eqb, ne_eqb, leb-true, le-leb, ltb-true, ltb-false}
use Rattle.rules.specs.Lists.{one_if, all, any, count, times_in, from_on}
use Rattle.rules.specs.Numbers.{devices}
use Rattle.rules.specs.Words.{by_runner}
use Rattle.rules.specs.Tables.{Tables, named, live, runs_as}
use Rattle.rules.specs.States.{is_running, is_ready, on_clock, at_device, waits_for}
use Rattle.rules.specs.Interrupt.{held_for}
use Rattle.rules.specs.TableRules.{state_in_range, places_agree, devices_right}
use Rattle.laws.specs.Words.{State, Running, Ready, Receiving, Clock, Device, Trapped, Thread, Held, Runner, NoRunner, Runs}
use Rattle.laws.specs.Types.{here, Agree}
use Rattle.laws.proofs.Tests.{clash, ◌&◌, three, four}
use Rattle.laws.proofs.Tally.{none_count, none_any, all_of, all_at}
use Rattle.laws.proofs.Members.{member_times, from_on_mem}
use Rattle.laws.proofs.Threads.{live_member, here_le, here_live, here_is}

-- ---- "state, runner, ready queue and clock queue agree, each name once"

-- one kind of state, and how often w says that each name has it: right at each thread, and of no other name
counted : (q : State → Bool) (w : ℕ → ℕ) (ts : List Thread) → ((n : ℕ) → count (named n) ts ≤ 1) →
    ((t : Thread) → Memᴰ t ts → one_if (q t.state) ≡ w t.name) → ((n : ℕ) → any (named n) ts ≡ false → w n ≡ 0) → (n : ℕ) →
    here q n ts ≡ w n
counted q w ts once h z n = go (any (named n) ts) refl
  where
    go : (b : Bool) → any (named n) ts ≡ b → here q n ts ≡ w n
    go true e =
        let r = live_member ts n e in
        ap (λ (x : ℕ). here q x ts) r.2 ∙ here_is q ts once r.0 r.1 ∙ h r.0 r.1 ∙ ap w (sym r.2)
    go false e = omega (arith, here_le q n ts, none_count (named n) ts e, z n e)

-- a queue of live names has no other name
queue_absent : (T : Tables) (Q : List ℕ) → all (λ n. live n T) Q ≡ true → (n : ℕ) → live n T ≡ false → times_in Q n ≡ 0
queue_absent T Q h n f = none_count (λ m. n == m) Q
    (none_any (λ m. n == m) Q (λ m i. ne_eqb n m (λ e. clash (all_at (λ x. live x T) Q h m i) (ap (λ (x : ℕ). live x T) (sym e) ∙ f))))

runner_absent : (T : Tables) (r : Runner) → by_runner true (λ n s. live n T) r ≡ true → (n : ℕ) → live n T ≡ false →
    one_if (runs_as n r) ≡ 0
unfolding runs_as
runner_absent T NoRunner h n f = refl
runner_absent T (Runs m s) h n f = rw (ne_eqb n m (λ e. clash h (ap (λ (x : ℕ). live x T) (sym e) ∙ f)))

-- what the test asks of each thread
abbrev placed : Tables → Thread → Bool
placed T t =
    one_if (is_running t.state) == one_if (runs_as t.name T.runner)
    && one_if (is_ready t.state) == times_in T.ready t.name
    && one_if (on_clock t.state) == times_in T.clock t.name

-- Where names are distinct and the test passes, state, runner and queues agree.
pub tested_places : (T : Tables) → ((n : ℕ) → count (named n) T.threads ≤ 1) → places_agree T ≡ true → Agree T
tested_places T once pass = record {
  once = once;
  run = counted is_running (λ n. one_if (runs_as n T.runner)) T.threads once (λ t m. eqb-true _ _ (agrees t m).0)
      (runner_absent T T.runner parts.1);
  wait = counted is_ready (times_in T.ready) T.threads once (λ t m. eqb-true _ _ (agrees t m).1)
      (queue_absent T T.ready parts.2);
  beat = counted on_clock (times_in T.clock) T.threads once (λ t m. eqb-true _ _ (agrees t m).2)
      (queue_absent T T.clock parts.3);
}
  where
    parts : (all (placed T) T.threads ≡ true) × (by_runner true (λ n s. live n T) T.runner ≡ true)
        × (all (λ n. live n T) T.ready ≡ true) × (all (λ n. live n T) T.clock ≡ true)
    parts = four (all (placed T) T.threads) (by_runner true (λ n s. live n T) T.runner) (all (λ n. live n T) T.ready)
        (all (λ n. live n T) T.clock) pass

    agrees : (t : Thread) → Memᴰ t T.threads →
        ((one_if (is_running t.state) == one_if (runs_as t.name T.runner)) ≡ true)
        × ((one_if (is_ready t.state) == times_in T.ready t.name) ≡ true)
        × ((one_if (on_clock t.state) == times_in T.clock t.name) ≡ true)
    agrees t m = three _ _ _ (all_at (placed T) T.threads parts.0 t m)

queue_live : (q : State → Bool) (T : Tables) (Q : List ℕ) → ((n : ℕ) → here q n T.threads ≡ times_in Q n) → all (λ n. live n T) Q ≡ true
queue_live q T Q h = all_of (λ n. live n T) Q (λ n m. here_live q n T.threads (omega (arith, h n, member_times Q n m)))

runner_lives : (T : Tables) (r : Runner) → ((n : ℕ) → here is_running n T.threads ≡ one_if (runs_as n r)) →
    by_runner true (λ n s. live n T) r ≡ true
unfolding runs_as
runner_lives T NoRunner h = refl
runner_lives T (Runs n s) h = here_live is_running n T.threads (omega (arith, h n, ap one_if (eq-eqb n n refl)))

-- Where they agree, the test passes.
pub places_tested : (T : Tables) → Agree T → places_agree T ≡ true
places_tested T A =
    all_of (placed T) T.threads (λ t m.
    eq-eqb _ _ (sym (here_is is_running T.threads A.once t m) ∙ A.run t.name)
    & eq-eqb _ _ (sym (here_is is_ready T.threads A.once t m) ∙ A.wait t.name)
    & eq-eqb _ _ (sym (here_is on_clock T.threads A.once t m) ∙ A.beat t.name))
    & runner_lives T T.runner A.run
    & queue_live is_ready T T.ready A.wait
    & queue_live on_clock T T.clock A.beat

-- ---- "a device has one waiter or a held status or neither": the test asks it of the devices that there are, and nobody is at another

at_other : (d : ℕ) (s : State) → devices ≤ d → state_in_range s ≡ true → at_device d s ≡ false
unfolding at_device state_in_range
at_other d Running l h = refl
at_other d Ready l h = refl
at_other d (Receiving w) l h = refl
at_other d Clock l h = refl
at_other d (Device e) l h = ne_eqb d e (λ k. omega (arith, ltb-true e devices h))
at_other d (Trapped k) l h = refl

-- Where the test passes, and states and held words are in range, no device has more than one of waiter and held word.
pub tested_devices : (T : Tables) → ((t : Thread) → Memᴰ t T.threads → state_in_range t.state ≡ true) →
    ((h : Held) → Memᴰ h T.held → h.device < devices) → devices_right T ≡ true → (d : ℕ) →
    count (waits_for d) T.threads + count (held_for d) T.held ≤ 1
tested_devices T s h pass d = go (ltb d devices) refl
  where
    go : (b : Bool) → ltb d devices ≡ b → count (waits_for d) T.threads + count (held_for d) T.held ≤ 1
    go true e = leb-true _ 1 (all_at _ (from_on 0 devices) pass d (from_on_mem 0 devices d (omega arith) (ltb-true d devices e)))
    go false e =
        let l : devices ≤ d = ltb-false d devices e in
        omega (
          arith,
          none_count (waits_for d) T.threads (none_any (waits_for d) T.threads (λ t m. at_other d t.state l (s t m))),
          none_count (held_for d) T.held (none_any (held_for d) T.held (λ x m. ne_eqb x.device d (λ k. omega (arith, h x m)))),
        )

-- Where no device has more, the test passes.
pub devices_tested : (T : Tables) → ((d : ℕ) → count (waits_for d) T.threads + count (held_for d) T.held ≤ 1) → devices_right T ≡ true
devices_tested T h = all_of _ (from_on 0 devices) (λ d m. le-leb _ 1 (h d))
