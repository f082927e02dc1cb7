-- From the C entries to the demands, with batches. Calls of nucleus_start, nucleus_step and nucleus_batch in any mix, known by what their
-- contracts say alone, are a series in the sense of crates/batching/proofs/Runs.antt. So the laws there speak of what these entries leave
-- and tell.
use Prim.Native.Nat.{ℕ}
use mathlib.Core.List.{List}
use Rattle.rules.specs.Runs.{Input}
use Rattle.batching.specs.Runs as batched
use Rattle.batching.specs.Runs.{Series}
use Rattle.board.specs.Gathered.{Calls, start, step, batch}
use Rattle.board.proofs.Runs.{tells}

pub is_a_series : {es : Input} {m : List ℕ} → Calls es m → Series es m
is_a_series (start m s) = batched.started m s
is_a_series (step es m e m' r c s) = batched.stepped es m e m' (tells s).decision (is_a_series c) (tells s).answered
is_a_series (batch es m s before r m' after n c b) = batched.batched es m s.now before m' after n (is_a_series c) b.served
