-- `memory::memory::held_told` meets its contract.
use Prim.Native.Nat.{ℕ, ◌≤◌, ◌<◌}
use Rattle.words.specs.Saying.{word}
use Rattle.memory.specs.Layout.{held_place}
use Rattle.memory.proofs.memory.held_told.Given as goal

abbrev pub invariant-loop-d : goal.invariant-loop-d
invariant-loop-d l = ((k : ℕ) → k < l.d → word l.m (held_place k) ≤ 1)
