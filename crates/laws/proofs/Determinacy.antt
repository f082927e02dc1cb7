-- Determinacy: a promise says that the result equals a definition, so any two results that it allows agree.
use Prim.Native.Nat.{ℕ}
use mathlib.Core.Path.{◌≡◌, sym, ap, ◌∙◌}
use mathlib.Core.List.{List}
use Rattle.laws.specs.Words.{Limits}
use Rattle.rules.specs.Tables.{Tables, start}
use Rattle.rules.specs.Pick.{pick}
use Rattle.rules.specs.Step.{Stepped, step}
use Rattle.rules.specs.Dump.{dump}
use Rattle.rules.specs.Load.{Loaded, load}
use Rattle.laws.specs.Words.{Picked}

-- Two results that equal the same thing agree.
pub determined : {A : Type 0} {x y z : A} → x ≡ z → y ≡ z → x ≡ y
determined p q = p ∙ sym q

-- A step: the decision, and the tables after it as the dump shows them. Refusals are steps too.
pub step_determined : (L : Limits) (T : Tables) (bytes : List ℕ) (a b : Stepped) → a ≡ step L T bytes → b ≡ step L T bytes →
    (a.decision ≡ b.decision) × (dump a.tables ≡ dump b.tables)
step_determined L T bytes a b p q =
    let e : a ≡ b = determined p q in (ap (λ (s : Stepped). s.decision) e, ap (λ (s : Stepped). dump s.tables) e)

-- The start: the tables.
pub start_determined : (a b : Tables) → a ≡ start → b ≡ start → dump a ≡ dump b
start_determined a b p q = ap dump (determined p q)

-- The pick: refusal and device.
pub pick_determined : (word : ℕ) (a b : Picked) → a ≡ pick word → b ≡ pick word → a ≡ b
pick_determined word a b p q = determined p q

-- The dump: its bytes.
pub dump_determined : (T : Tables) (a b : List ℕ) → a ≡ dump T → b ≡ dump T → a ≡ b
dump_determined T a b p q = determined p q

-- Reading a dump: whether the bytes are one, and the tables.
pub load_determined : (L : Limits) (bytes : List ℕ) (a b : Loaded) → a ≡ load L bytes → b ≡ load L bytes → a ≡ b
load_determined L bytes a b p q = determined p q
