-- Bytes that are not refused leave a memory whose tables can be written.
use Prim.Native.Nat.{ℕ}
use mathlib.Core.Path.{◌≡◌}
use mathlib.Core.List.{List}
use Rattle.rules.specs.Numbers.{small}
use Rattle.rules.specs.declared.Verdict.{Verdict}
use Rattle.store.specs.Store.{limits}
use Rattle.dumping.specs.Dumping.{Dumpable}
use Rattle.loading.specs.Loading.{Loads}
use Rattle.loading.proofs.Exits.{writable}
use Rattle.loading.proofs.Promises.{reads}
use Rattle.lending.proofs.Standing.{checked}

pub read_dumpable : {m bytes m' : List ℕ} {v : Verdict} → Loads m bytes m' v → v.refusal ≡ 0 → Dumpable m' × (limits m' ≡ small)
read_dumpable {bytes = bytes} {m' = m'} {v = v} p z =
    let T = reads bytes v p.decides z in
    let s = (p.leaves T.0 T.1).0 in
    ((writable m' s).0, (checked m' s).1)
