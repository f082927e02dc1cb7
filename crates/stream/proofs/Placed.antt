-- What turns, reads and rounds keep: the run lies in its buffers, and the number of the next line grows by no more than the bytes that
-- are there.
use Rattle.std.proofs.Common.{Option, Some, None}
use Prim.Native.Nat.{ℕ, zero, suc, ◌+◌, ◌-◌, ◌≤◌}
use mathlib.Core.Path.{◌≡◌, refl, sym, ap, subst}
use mathlib.Core.Bool.{Bool}
use mathlib.Core.List.{List}
use native.Mathlib.Omega.{arith}
use lib.ListN.{length, drop, length-drop}
use lib.Seq.{length-take-le}
use Rattle.printing.specs.Input.{MayAnswer, moved, waiting, Refilled}
use Rattle.printing.specs.declared.Span.{Span}
use Rattle.stream.specs.declared.Run.{Run}
use Rattle.stream.specs.Stream.{Right, Begins, Serves, Reads, Rounds}

-- the same with the lengths said otherwise
pub placed : {m : List ℕ} {r : Run} {a b n k : ℕ} → n ≡ a → k ≡ b → Right m r n k → Right m r a b
placed e f p =
    record { standing = p.standing; opens = p.opens; within = omega (arith, e, p.within); filled = omega (arith, f, p.filled) }

-- a start is right, whatever the buffers
pub begins_right : {m : List ℕ} {r : Run} (n k : ℕ) → Begins m r → Right m r n k
begins_right {m} n k b =
    subst (λ (x : Run). Right m x n k) (sym b.first)
    (record { standing = b.standing; opens = omega arith; within = omega arith; filled = omega arith })

-- ---- a turn

module _ {m : List ℕ} {r : Run} {last : Bool} {input before after m' : List ℕ} {v : Run}
    (p : Right m r (length input) (length before)) (s : Serves m r last input before after m' v) where
  -- so many bytes wait
  waits : length (waiting r.window input) ≡ r.window.held - r.window.at
  waits = length-take-le (r.window.held - r.window.at) (drop r.window.at input) (omega (arith, length-drop r.window.at input, p.within))

  pub serves_right : Right m' v (length input) (length before)
  serves_right =
      let t = s.turns in
      subst (λ (x : Run). Right m' x (length input) (length before)) (sym s.leaves)
      (record { standing = t.standing; opens = omega (arith, t.used, waits, p.opens); within = p.within; filled = t.filled })

  pub serves_line : v.line ≤ r.line + length input
  serves_line =
      let t = s.turns in
      omega (arith, ap (λ (x : Run). x.line) s.leaves, t.numbered, t.used, waits, p.within)

-- ---- a read

moved_low : (got : Option ℕ) (n : ℕ) → MayAnswer n got → moved got ≤ n
moved_low None n h = omega arith
moved_low (Some k) n h = h

module _ {w v : Span} {before after : List ℕ} (f : Refilled w before v after) where
  pub refilled_opens : v.at ≤ v.held
  refilled_opens = omega (arith, ap (λ (x : Span). x.at) f.told)

  pub refilled_within : w.held ≤ length before → v.held ≤ length before
  refilled_within h = omega (arith, ap (λ (x : Span). x.held) f.told, moved_low f.got (length before - (w.held - w.at)) f.answers)

-- ---- a round

module _ {m : List ℕ} {r : Run} {input out m' input' out' : List ℕ} {v : Run}
    (p : Right m r (length input) (length out)) (s : Rounds m r input out m' input' out' v) where
  read_right : Reads s.served input input' v → Right m' v (length input) (length out)
  read_right e =
      let q = serves_right p s.serves in
      subst (λ (x : Run). Right m' x (length input) (length out)) (sym e.leaves)
      (record {
        standing = q.standing;
        opens = refilled_opens e.refills;
        within = refilled_within e.refills q.within;
        filled = q.filled;
      })

  pub rounds_right : Right m' v (length input) (length out)
  rounds_right = go s.served.filled refl
    where
      go : (n : ℕ) → s.served.filled ≡ n → Right m' v (length input) (length out)
      go zero e = read_right (s.reads e)
      go (suc n) e =
          subst (λ (x : Run). Right m' x (length input) (length out)) (sym (s.writes (omega (arith, e))).0) (serves_right p s.serves)

  pub rounds_line : v.line ≤ r.line + length input
  rounds_line = go s.served.filled refl
    where
      low : s.served.line ≤ r.line + length input
      low = serves_line p s.serves

      go : (n : ℕ) → s.served.filled ≡ n → v.line ≤ r.line + length input
      go zero e = omega (arith, low, ap (λ (x : Run). x.line) (s.reads e).leaves)
      go (suc n) e = omega (arith, low, ap (λ (x : Run). x.line) (s.writes (omega (arith, e))).0)

  -- the input's buffer stays as long as it was
  pub rounds_long : length input' ≡ length input
  rounds_long = go s.served.filled refl
    where
      go : (n : ℕ) → s.served.filled ≡ n → length input' ≡ length input
      go zero e = (s.reads e).refills.size
      go (suc n) e = ap length (s.writes (omega (arith, e))).1
