-- Turns in a row: whatever way the input arrives in pieces, and wherever each turn stops, the bytes written are those of the whole.
use Prim.Native.Nat.{ℕ}
use mathlib.Core.Path.{◌≡◌, sym, ap, ◌∙◌}
use mathlib.Core.Bool.{Bool, true, false, false≢true}
use mathlib.Core.List.{List, [], ◌++◌, append_assoc}
use lib.ListN.{take, drop}
use Rattle.rules.specs.Tables.{Tables, start}
use Rattle.store.specs.Store.{tables}
use Rattle.printing.specs.declared.Turned.{Turned}
use Rattle.printing.specs.Printing.{prints, output, Turns}
use Rattle.printing.specs.Whole.{Series, reads, turns, ends}
use Rattle.printing.proofs.Streams.{prints_none}

-- A turn, a piece of input read behind what it left, and another turn: the lines of both, and then what the rest prints.
module _ {m m₁ m₂ : List ℕ} {k : ℕ} {waiting before₁ after₁ before₂ after₂ : List ℕ} {ended : Bool} {t u : Turned} (piece : List ℕ)
    (p : Turns m k waiting false before₁ after₁ t m₁)
    (q : Turns m₁ t.line (drop t.used waiting ++ piece) ended before₂ after₂ u m₂) where
  pub two_turns : (more : List ℕ) → (ended ≡ true → more ≡ [])
      → prints k (tables m) ((waiting ++ piece) ++ more)
      ≡ (take t.filled after₁ ++ take u.filled after₂)
      ++ prints u.line (tables m₂) (drop u.used (drop t.used waiting ++ piece) ++ more)
  two_turns more h =
      ap (λ (l : List ℕ). prints k (tables m) l) (append_assoc waiting piece more)
      ∙ (p.prints (piece ++ more) (λ e. absurd (false≢true e))
      ∙ (ap (λ (l : List ℕ). take t.filled after₁ ++ prints t.line (tables m₁) l)
      (sym (append_assoc (drop t.used waiting) piece more))
      ∙ (ap (λ (l : List ℕ). take t.filled after₁ ++ l) (q.prints more h)
      ∙ sym (append_assoc (take t.filled after₁) (take u.filled after₂) _))))

pub series_prints : {k : ℕ} {T : Tables} {waiting coming written : List ℕ} → Series k T waiting coming written
    → prints k T (waiting ++ coming) ≡ written
series_prints (reads {k} {T} {waiting} {coming} {written} piece s) =
    ap (λ (l : List ℕ). prints k T l) (sym (append_assoc waiting piece coming)) ∙ series_prints s
series_prints (turns {coming = coming} {after = after} {t = t} p h s) =
    p.prints coming h ∙ ap (λ (l : List ℕ). take t.filled after ++ l) (series_prints s)
series_prints (ends {k} {T}) = prints_none k T

-- From a start, with nothing read yet: the bytes written are the document's output for the whole input.
pub writes_output : {input written : List ℕ} → Series 1 start [] input written → written ≡ output input
writes_output s = sym (series_prints s)

-- So the pieces and the turns do not matter.
pub same_bytes : {input written again : List ℕ} → Series 1 start [] input written → Series 1 start [] input again → written ≡ again
same_bytes s r = writes_output s ∙ sym (writes_output r)
