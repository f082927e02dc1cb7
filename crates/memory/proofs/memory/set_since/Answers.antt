-- `memory::memory::set_since` meets its contract.
use Prim.Native.Nat.{ℕ}
use mathlib.Core.Path.{ap, ◌∙◌}
use native.Mathlib.Omega.{arith}
use borrow.Author.Rules.{rules}
use Rattle.words.proofs.Said.{byte_same}
use Rattle.memory.specs.Memory.{rows_of}
use Rattle.memory.specs.Rows.{put_since}
use Rattle.memory.proofs.Changes.{head_put}
use Rattle.memory.proofs.memory.set_since.Goals as goal

pub bounds-m-5 : goal.bounds-m-5
unfolding rows_of
bounds-m-5 c = omega arith

pub returns : goal.returns
unfolding rows_of
returns c = head_put c.args.m.now 5 c.args.n (omega arith) (omega arith) (omega arith)
    ∙ ap (λ (x : ℕ). put_since x (rows_of c.args.m.now)) (byte_same c.args.n (search rules))
