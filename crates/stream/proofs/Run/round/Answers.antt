-- `round` meets its contract: by those of `serve` and `read_more`.
use mathlib.Core.Path.{refl}
use native.Mathlib.Omega.{arith}
use Rattle.stream.proofs.Placed.{serves_right}
use Rattle.stream.proofs.Run.round.Goals as goal

pub returns-then-v-gt0 : goal.returns-then-v-gt0
returns-then-v-gt0 g c =
    let s = c.serve-v in
    record {
      served = s.result;
      serves = s.ensures;
      writes = λ h. (refl, refl);
      reads = λ e. absurd (omega (arith, c.if-v-gt0.true, e));
    }

pub read_more-requires : goal.read_more-requires
read_more-requires g c =
    let s = c.serve-v in
    let right = serves_right c.requires.0 s.ensures in
    (right.opens, right.within)

pub returns : goal.returns
returns g c =
    let s = c.serve-v in
    record {
      served = s.result;
      serves = s.ensures;
      writes = λ h. absurd (omega (arith, c.if-v-gt0.false, h));
      reads = λ e. c.read_more.ensures;
    }
