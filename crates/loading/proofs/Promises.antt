-- What follows from the promises of the writer and the reader alone: each undoes the other, and the reader has one result.
-- A memory after reading and its refusal stand for any result that the reader's promise allows, a buffer after writing for any that the
-- writer's allows.
use Prim.Native.Nat.{ℕ, ◌≤◌}
use mathlib.Core.Path.{◌≡◌, sym, ap, ◌∙◌}
use mathlib.Core.Logic.{◌≢◌, ◌↔◌}
use mathlib.Core.Bool.{true}
use mathlib.Core.List.{List, ◌++◌}
use native.Mathlib.Omega.{arith}
use lib.ListN.{length, take, drop}
use Rattle.rules.specs.Numbers.{small}
use Rattle.rules.specs.Tables.{Tables}
use Rattle.rules.specs.TableRules.{table_rules}
use Rattle.rules.specs.Dump.{dump}
use Rattle.rules.specs.Load.{loaded, load}
use Rattle.rules.specs.Faults.{verdict_on, verdict}
use Rattle.rules.specs.declared.Verdict.{Verdict}
use Rattle.laws.proofs.Dump.{load_dump, load_is_dump, loaded_exactly}
use Rattle.laws.proofs.Faults.{accepted_exactly, refused_with_15_to_19, offset_within}
use Rattle.laws.proofs.Determinacy.{determined}
use Rattle.store.specs.Store.{tables}
use Rattle.checking.specs.Stands.{stands}
use Rattle.buffer.specs.Puts.{Puts}
use Rattle.loading.specs.Loading.{Loads, accepted}
use Rattle.loading.proofs.Exits.{rules_of, front}

-- bytes that are not refused are read
pub reads : (bytes : List ℕ) (v : Verdict) → v ≡ verdict small bytes → v.refusal ≡ 0 → (T : Tables) × (load small bytes ≡ loaded T)
reads bytes v e z =
    let T = (accepted_exactly small bytes).0 (sym (ap (λ (x : Verdict). x.refusal) e) ∙ z) in
    (T.0, (loaded_exactly small bytes T.0).1 (T.1, T.2))

-- Reading refuses bytes exactly if they are the dump of no tables that meet the rules.
pub refused_exactly : (m bytes m' : List ℕ) (v : Verdict) → Loads m bytes m' v →
    (v.refusal ≢ 0) ↔ ((T : Tables) → table_rules small T ≡ true → dump T ≢ bytes)
refused_exactly m bytes m' v p =
    let e : v.refusal ≡ (verdict small bytes).refusal = ap (λ (x : Verdict). x.refusal) p.decides in (
      (λ n T h d. n (e ∙ (accepted_exactly small bytes).1 (T, h, d))),
      (λ h z. let T = (accepted_exactly small bytes).0 (sym e ∙ z) in h T.0 T.1 T.2),
    )

-- And then with one of 15 to 19, at an offset within the bytes.
pub refused_with : (m bytes m' : List ℕ) (v : Verdict) → Loads m bytes m' v → v.refusal ≢ 0 → (15 ≤ v.refusal) × (v.refusal ≤ 19)
    × (v.offset ≤ length bytes)
refused_with m bytes m' v p n =
    let e : v.refusal ≡ (verdict small bytes).refusal = ap (λ (x : Verdict). x.refusal) p.decides in
    let r = refused_with_15_to_19 small bytes (λ z. n (e ∙ z)) in
    (omega (arith, e, r.0), omega (arith, e, r.1), omega (arith, ap (λ (x : Verdict). x.offset) p.decides, offset_within small bytes))

-- The bytes that the writer puts, read into any memory, are accepted and give the tables that were written.
pub written_reads : (m u u' before after : List ℕ) (n : ℕ) (r : Verdict) → stands small m ≡ true → Puts (dump (tables m)) before after n →
    Loads u (take n after) u' r →
    (r ≡ accepted) × (stands small u' ≡ true) × (tables u' ≡ tables m)
unfolding verdict verdict_on
written_reads m u u' before after n r v p q =
    let e : load small (take n after) ≡ loaded (tables m) =
    ap (load small) (front (dump (tables m)) before after n p) ∙ load_dump small (tables m) (rules_of m v) in
    (q.decides ∙ ap (verdict_on (take n after)) e, (q.leaves (tables m) e).0, (q.leaves (tables m) e).1)

-- Bytes that the reader accepts, written from the memory that it left into any buffer, stand in front of it.
pub read_writes : (m bytes m' before after : List ℕ) (r : Verdict) (n : ℕ) → Loads m bytes m' r → r.refusal ≡ 0 →
    Puts (dump (tables m')) before after n →
    (n ≡ length bytes) × (after ≡ bytes ++ drop (length bytes) before)
read_writes m bytes m' before after r n q z p =
    let T = reads bytes r q.decides z in
    let again : dump (tables m') ≡ bytes = ap dump (q.leaves T.0 T.1).1 ∙ (load_is_dump small bytes T.0 T.1).1 in
    (p.counts ∙ ap length again, p.shows ∙ ap (λ (s : List ℕ). s ++ drop (length s) before) again)

-- Any two results that the reader's promise allows agree: in the refusal and the offset; in the tables and their dump, where it accepts;
-- in every word, where it does not.
pub load_in_determined : (m bytes a b : List ℕ) (r s : Verdict) → Loads m bytes a r → Loads m bytes b s →
    (r ≡ s) × (r.refusal ≡ 0 → (tables a ≡ tables b) × (dump (tables a) ≡ dump (tables b))) × (r.refusal ≢ 0 → a ≡ b)
load_in_determined m bytes a b r s p q =
    let e : r ≡ s = determined p.decides q.decides in (
      e,
      (λ z. let T = reads bytes r p.decides z in let k = determined (p.leaves T.0 T.1).1 (q.leaves T.0 T.1).1 in
          (k, ap dump k)),
      (λ n. determined (p.keeps n) (q.keeps (λ z. n (ap (λ (x : Verdict). x.refusal) e ∙ z)))),
    )
