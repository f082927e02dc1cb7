-- How long the tables of a memory can be.
use Rattle.std.proofs.Common.{ℕ, ◌+◌, ◌≤◌, List, length, arith}
use Rattle.memory.specs.Layout.{most_blocks}
use Rattle.store.specs.Store.{limits, tables, Shaped}
use Rattle.store.proofs.Searched.{threads_length, ready_length, clock_length, messages_length}

module _ (m : List ℕ) (s : Shaped m) where
  pub threads_limit : length (tables m).threads ≤ (limits m).threads
  unfolding limits Shaped
  threads_limit = omega (arith, threads_length m s, s.threads)

  pub ready_limit : length (tables m).ready ≤ (limits m).threads
  unfolding limits Shaped
  ready_limit = omega (arith, ready_length m s, s.ready)

  pub clock_limit : length (tables m).clock ≤ (limits m).threads
  unfolding limits Shaped
  clock_limit = omega (arith, clock_length m s, s.clock)

  pub messages_limit : length (tables m).messages ≤ (limits m).threads + (limits m).blocks
  unfolding limits Shaped
  messages_limit = omega (arith, messages_length m s, s.messages)

  pub blocks_limit : (limits m).blocks ≤ most_blocks
  unfolding limits Shaped
  blocks_limit = s.roomy.few
