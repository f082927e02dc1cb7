-- How many entries the rows of a memory have.
use Prim.Native.Nat.{ℕ, ◌+◌, ◌≤◌}
use mathlib.Core.Path.{◌≡◌, ap}
use mathlib.Core.List.{List}
use native.Mathlib.Omega.{arith}
use lib.ListN.{length}
use lib.Seq.{length-take-le}
use Rattle.laws.specs.Words.{Limits}
use Rattle.memory.specs.Rows.{view, members, Fits}
use Rattle.memory.specs.Memory.{rows_of}
use Rattle.memory.proofs.Rowing.{length_row}

module _ (m : List ℕ) where
  pub threads_long : length (rows_of m).threads ≡ (rows_of m).limits.threads
  unfolding rows_of
  threads_long = length_row _ 0 _

  pub ready_long : length (rows_of m).ready ≡ (rows_of m).limits.threads
  unfolding rows_of
  ready_long = length_row _ 0 _

  pub clock_long : length (rows_of m).clock ≡ (rows_of m).limits.threads
  unfolding rows_of
  clock_long = length_row _ 0 _

  pub ended_long : length (rows_of m).ended ≡ (rows_of m).limits.threads
  unfolding rows_of
  ended_long = length_row _ 0 _

  pub messages_long : length (rows_of m).messages ≡ (rows_of m).limits.threads + (rows_of m).limits.blocks
  unfolding rows_of
  messages_long = length_row _ 0 _

  -- a count within its room is the length of what it counts
  module _ (L : Limits) (f : Fits L (rows_of m)) where
    limits_too : (g : Limits → ℕ) → g (rows_of m).limits ≡ g L
    limits_too g = ap g f.limits

    pub threads_whole : (rows_of m).count ≤ length (rows_of m).threads
    threads_whole = omega (arith, threads_long, limits_too (λ l. l.threads), f.threads)

    pub ready_whole : (rows_of m).readies ≤ length (rows_of m).ready
    ready_whole = omega (arith, ready_long, limits_too (λ l. l.threads), f.ready)

    pub threads_count : length (view (rows_of m)).threads ≡ (rows_of m).count
    threads_count = length-take-le _ (rows_of m).threads threads_whole

    pub ready_count : length (view (rows_of m)).ready ≡ (rows_of m).readies
    ready_count = length-take-le _ (rows_of m).ready ready_whole

    pub clock_whole : (rows_of m).clocks ≤ length (rows_of m).clock
    clock_whole = omega (arith, clock_long, limits_too (λ l. l.threads), f.clock)

    pub clock_count : length (view (rows_of m)).clock ≡ (rows_of m).clocks
    clock_count = length-take-le _ (rows_of m).clock clock_whole

    pub messages_whole : (rows_of m).letters ≤ length (rows_of m).messages
    messages_whole = omega (arith, messages_long, limits_too (λ l. l.threads), limits_too (λ l. l.blocks), f.messages)

    pub messages_count : length (view (rows_of m)).messages ≡ (rows_of m).letters
    messages_count = length-take-le _ (rows_of m).messages messages_whole

  -- of an ending's set no table tells how many: whoever writes it says so
  pub members_count : (rows_of m).ends ≤ (rows_of m).limits.threads → length (members (rows_of m)) ≡ (rows_of m).ends
  members_count h = length-take-le _ (rows_of m).ended (omega (arith, ended_long))

-- memories whose rows have the same room are of one length
pub same_room : (m m' : List ℕ) → (rows_of m').room ≡ (rows_of m).room → length m' ≡ length m
unfolding rows_of
same_room m m' e = e
