-- What a memory that is shaped allows: its threads are within its rows.
use Rattle.std.proofs.Common.{◌≡◌, ℕ, ◌≤◌, ◌<◌, true, List, length, leb, refl, sym, ◌∙◌, arith}
use Rattle.std.proofs.Math.Seq.{length-take-le}
use borrow.Author.Tests.{le-leb}
use Rattle.rules.specs.Numbers.{names}
use Rattle.memory.specs.Memory.{rows_of}
use Rattle.memory.specs.Rows.{view}
use Rattle.memory.proofs.Sizes.{threads_long}
use Rattle.store.specs.Store.{Shaped, tables, limits}

module _ (m : List ℕ) (F : Shaped m) where
  pub few : (rows_of m).limits.threads < names
  unfolding Shaped
  few = F.roomy.low

  pub counted : (rows_of m).count ≤ (rows_of m).limits.threads
  unfolding Shaped
  counted = F.threads

  pub threads_whole : (rows_of m).count ≤ length (rows_of m).threads
  threads_whole = omega (arith, threads_long m, counted)

  -- as many as were counted
  pub read_length : (n : ℕ) → n ≡ (rows_of m).count → length (view (rows_of m)).threads ≡ n
  read_length n e = length-take-le _ (rows_of m).threads threads_whole ∙ sym e

  pub names_within : leb (length (tables m).threads) (limits m).threads ≡ true
  unfolding tables limits
  names_within =
      le-leb (length (view (rows_of m)).threads) (rows_of m).limits.threads (omega (arith, read_length (rows_of m).count refl, counted))
