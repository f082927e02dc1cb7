-- `gauge_again` is safe: what was read stands, and its dump fits.
use Prim.Native.Nat.{ℕ}
use mathlib.Core.Path.{◌≡◌}
use mathlib.Core.Bool.{true}
use mathlib.Core.List.{List}
use native.Mathlib.Omega.{arith}
use Rattle.rules.specs.Numbers.{small}
use Rattle.rules.specs.declared.Verdict.{Verdict}
use Rattle.checking.specs.Stands.{stands}
use Rattle.loading.specs.Loading.{Loads}
use Rattle.loading.proofs.Exits.{writable}
use Rattle.loading.proofs.Promises.{reads}
use Rattle.gauge.proofs.gauge_again.Goals as goal

-- a memory that a dump was read into
read-stands : (m bytes m' : List ℕ) (v : Verdict) → Loads m bytes m' v → v.refusal ≡ 0 → stands small m' ≡ true
read-stands m bytes m' v q z = let T = reads bytes v q.decides z in (q.leaves T.0 T.1).0

pub write_dump-requires : goal.write_dump-requires
write_dump-requires c =
    let w = writable _ (read-stands _ _ _ _ c.load_in-v.ensures c.if-v-ne0.false) in
    (w.0, omega (arith, w.1))
