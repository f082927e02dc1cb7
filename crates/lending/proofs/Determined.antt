-- Determinacy on a lent memory: any two results that a public operation's promise allows agree, in decision and in dump. By value too:
-- what is promised of a struct is promised of its words. The promises of check and dump are equalities.
use Prim.Native.Nat.{ℕ}
use mathlib.Core.Path.{◌≡◌, refl, sym, ap, ◌∙◌}
use mathlib.Core.Logic.{◌≢◌}
use mathlib.Core.Bool.{Bool, true, false}
use mathlib.Core.List.{List}
use native.Mathlib.Omega.{arith}
use Rattle.rules.specs.Numbers.{small}
use Rattle.rules.specs.Dump.{dump}
use Rattle.rules.specs.declared.Decision.{Decision}
use Rattle.laws.proofs.Tests.{and_right}
use Rattle.laws.proofs.Determinacy.{determined}
use Rattle.laws.proofs.Dump.{dump_tells}
use Rattle.store.specs.Store.{tables}
use Rattle.memory.specs.Shape.{shaped}
use Rattle.checking.specs.Stands.{stands}
use Rattle.loading.specs.Loading.{Loads}
use Rattle.loading.proofs.Promises.{load_in_determined}
use Rattle.lending.specs.Lent.{valid, Answered, Started}
use Rattle.lending.specs.declared.Tables.{Tables as Lent}
use Rattle.lending.specs.declared.Loaded.{Loaded}

-- A memory that stands for no tables is kept, every word: 11 is a refusal.
pub broken_are_kept : {m bytes a : List ℕ} {d : Decision} → Answered m bytes a d → valid m ≡ false → a ≡ m
broken_are_kept p e = p.keeps (λ z. let n : ◌≡◌ {A = ℕ} 11 0 = ap (λ (d : Decision). d.refusal) (sym (p.refuses e)) ∙ z in omega arith)

-- m: what is lent; a and b, d and e: two results that the promise allows
module _ {m bytes a b : List ℕ} {d e : Decision} (p : Answered m bytes a d) (q : Answered m bytes b e) where
  -- The step's promise fixes the decision, whatever is lent.
  pub decision_determined : d ≡ e
  decision_determined = go (valid m) refl
    where
      go : (v : Bool) → valid m ≡ v → d ≡ e
      go true h = determined (p.decides h) (q.decides h)
      go false h = determined (p.refuses h) (q.refuses h)

  -- Any two results of a step that its promise allows agree: in the decision; in the tables and their dump, where what is lent is valid; in
  -- every word, where it is not.
  pub step_in_determined : (d ≡ e) × (valid m ≡ true → (tables a ≡ tables b) × (dump (tables a) ≡ dump (tables b)))
      × (valid m ≡ false → a ≡ b)
  step_in_determined = (
    decision_determined,
    (λ v. let same = determined (p.leaves v).1 (q.leaves v).1 in (same, ap dump same)),
    (λ f. determined (broken_are_kept p f) (broken_are_kept q f)),
  )

  -- And in every word after a refused event.
  pub refused_determined : d.refusal ≢ 0 → a ≡ b
  refused_determined n = determined (p.keeps n) (q.keeps (λ z. n (ap (λ (x : Decision). x.refusal) decision_determined ∙ z)))

-- Any two results that the start's promise allows agree, in the tables and in their dump.
pub start_determined : (a b : List ℕ) → Started a → Started b → (tables a ≡ tables b) × (dump (tables a) ≡ dump (tables b))
start_determined a b p q = let same = determined p.says q.says in (same, ap dump same)

-- Valid memories with the same dump stand for the same tables: the dump shows all that the rules know.
pub lent_dump_tells : (a b : List ℕ) → valid a ≡ true → valid b ≡ true → dump (tables a) ≡ dump (tables b) → tables a ≡ tables b
unfolding stands
lent_dump_tells a b v w e =
    dump_tells small (tables a) (tables b) (and_right (shaped small a) _ v) (and_right (shaped small b) _ w) e

-- Any two results of load_value that its promise allows agree: in the refusal and the offset; in the tables and their dump, where the
-- bytes are accepted; in every word, where they are not.
pub load_value_determined : (t : Lent) (bytes : List ℕ) (l k : Loaded) →
    Loads t.words bytes l.tables.words l.verdict → Loads t.words bytes k.tables.words k.verdict →
    (l.verdict ≡ k.verdict)
    × (l.verdict.refusal ≡ 0 → (tables l.tables.words ≡ tables k.tables.words)
    × (dump (tables l.tables.words) ≡ dump (tables k.tables.words)))
    × (l.verdict.refusal ≢ 0 → l.tables.words ≡ k.tables.words)
load_value_determined t bytes l k p q = load_in_determined t.words bytes _ _ _ _ p q
