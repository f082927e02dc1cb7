-- The complete fields of a batch, run one by one.
use Prim.Native.Nat.{ℕ, ◌+◌, ◌*◌, ◌-◌, ◌≤◌, ◌<◌}
use mathlib.Core.Path.{◌≡◌, refl, sym, ap, ap₂, ◌∙◌, subst}
use mathlib.Core.Bool.{Bool, true}
use mathlib.Core.List.{List, [], ◌∷◌, ◌++◌, append_assoc, append-nil}
use native.Mathlib.Omega.{arith}
use lib.ListN.{length, take, drop}
use borrow.Rule.Slice.PartMut.{same_len_mid}
use Rattle.rules.specs.Lists.{each}
use Rattle.rules.specs.Numbers.{decision_numbers}
use Rattle.rules.specs.Fields.{field_size, whole}
use Rattle.rules.specs.Runs.{Input, line}
use Rattle.rules.specs.Batch.{complete, numbers}
use Rattle.rules.specs.declared.Decision.{Decision}
use Rattle.buffer.specs.Puts.{Puts}
use Rattle.buffer.proofs.Putting.{rest, back, behind, said, room, puts_none}
use Rattle.lending.specs.Lent.{valid, Answered}
use Rattle.laws.proofs.Batch.{complete_first, numbers_append, line_count}
use Rattle.batching.proofs.FieldCount.{some_left, behind_it, ends_within}
use Rattle.batching.proofs.Calling.{stays_valid}
use Rattle.batching.specs.Batching.{SingleCalls, none, call, RanAll}

-- ---- a batch so far

-- What stands whenever the loop's test is reached. m and before: memory and buffer at the entry; m₁ and after: as they are now.
pub record Running (m bytes before : List ℕ) (good : Bool) (left used filled : ℕ) (m₁ after : List ℕ) : Type 0 where
  -- the events that were run, their decisions, and that the others come behind
  pub events : Input
  pub decisions : List Decision
  pub split : events ++ complete (drop used bytes) ≡ complete bytes
  pub calls : SingleCalls m events decisions m₁
  pub puts : Puts (numbers decisions) before after filled
  pub count : left ≡ length (complete (drop used bytes))
  pub fits : filled + decision_numbers * left ≤ length before
  pub checked : good ≡ valid m₁
  pub words : length m₁ ≡ length m
  pub long : length after ≡ length before

pub running_starts : (m bytes before : List ℕ) (good : Bool) (count : ℕ) → good ≡ valid m → count ≡ length (complete bytes)
    → decision_numbers * count ≤ length before → Running m bytes before good count 0 0 m before
unfolding numbers each
running_starts m bytes before good count g c f =
    record {
      events = [];
      decisions = [];
      split = refl;
      calls = none;
      puts = puts_none before;
      count = c;
      fits = omega arith;
      checked = g;
      words = refl;
      long = refl;
    }

module _ {m bytes before : List ℕ} {good : Bool} {left used filled : ℕ} {m₁ after : List ℕ}
    (r : Running m bytes before good left used filled m₁ after) where
  -- there is room for a decision, in what is left of the buffer
  pub has_room : 0 < left → decision_numbers ≤ length (rest filled after)
  has_room h = omega (arith, r.fits, room r.puts)

  pub decision_fits : (d : Decision) {ys : List ℕ} {n : ℕ} → 0 < left → Puts (line d) (rest filled after) ys n → filled + n ≤ length before
  decision_fits d h q = omega (arith, r.fits, q.counts, line_count d)

  pub is_complete : 0 < left → whole (drop used bytes) ≡ true
  is_complete h = some_left (drop used bytes) (omega (arith, r.count))

  -- one more event was run, and its decision is put behind the others
  module _ (more : 0 < left) {end : ℕ} (at_end : end ≡ used + field_size (drop used bytes)) where
    pub field_within : (used + 3 ≤ end) × (end ≤ length bytes)
    field_within = ends_within bytes used end (is_complete more) at_end

    pub one_run : {d : Decision} {m₂ ys : List ℕ} {n : ℕ} → Answered m₁ (take (end - used) (drop used bytes)) m₂ d → length m₂ ≡ length m₁
        → Puts (line d) (rest filled after) ys n → length ys ≡ length (rest filled after)
        → Running m bytes before good (left - 1) end (filled + n) m₂ (back filled after ys)
    unfolding numbers each
    one_run {d} {m₂} {ys} {n} p same q kept =
        record {
          events = r.events ++ (event ∷ []);
          decisions = r.decisions ++ (d ∷ []);
          split = append_assoc r.events (event ∷ []) (complete (drop end bytes))
              ∙ (ap (λ (fs : Input). r.events ++ fs) (sym next) ∙ r.split);
          calls = call r.events r.decisions m₁ event m₂ d r.calls p;
          puts = said (behind r.puts q)
              (sym (numbers_append r.decisions (d ∷ []) ∙ ap (λ (l : List ℕ). numbers r.decisions ++ l) (append-nil (line d))));
          count = omega (arith, r.count, ap length next);
          fits = omega (arith, r.fits, six);
          checked = r.checked ∙ sym (stays_valid p);
          words = same ∙ r.words;
          long = same_len_mid filled (length after - filled) after ys kept ∙ r.long;
        }
      where
        event : List ℕ
        event = take (end - used) (drop used bytes)

        six : n ≡ decision_numbers
        six = q.counts ∙ line_count d

        next : complete (drop used bytes) ≡ event ∷ complete (drop end bytes)
        next =
            let w = is_complete more in
            let size : field_size (drop used bytes) ≡ end - used = omega (arith, at_end) in
            (complete_first (drop used bytes) w).0
            ∙ ap₂ (λ (k : ℕ) (l : List ℕ). take k (drop used bytes) ∷ complete l) size (behind_it bytes used end w at_end)

    -- the same where they are counted from the front
    pub one_run_on : {d : Decision} {m₂ ys : List ℕ} {left' filled' : ℕ} → Answered m₁ (take (end - used) (drop used bytes)) m₂ d
        → length m₂ ≡ length m₁ → Puts (line d) (rest filled after) ys decision_numbers → length ys ≡ length (rest filled after)
        → left' ≡ left - 1 → filled' ≡ filled + decision_numbers
        → Running m bytes before good left' end filled' m₂ (back filled after ys)
    one_run_on p same q kept e f = rw (e, f) (one_run p same q kept)

  -- all are run
  pub all_run : left ≤ 0 → RanAll m bytes before m₁ after
  all_run h =
      record {
        said = r.decisions;
        filled = filled;
        calls = subst (λ (es : Input). SingleCalls m es r.decisions m₁) all_of_them r.calls;
        puts = r.puts;
      }
    where
      empty : (fs : Input) → length fs ≤ 0 → fs ≡ []
      empty [] k = refl
      empty (f ∷ fs) k = absurd (omega arith)

      none_left : complete (drop used bytes) ≡ []
      none_left = empty (complete (drop used bytes)) (omega (arith, r.count))

      all_of_them : r.events ≡ complete bytes
      all_of_them = sym (append-nil r.events) ∙ (ap (λ (fs : Input). r.events ++ fs) (sym none_left) ∙ r.split)
