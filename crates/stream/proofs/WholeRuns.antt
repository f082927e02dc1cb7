-- The programs' loop, whole. From a start: rounds until a read tells the end of the input, then a last turn, and the last line. Whatever
-- pieces the reads give, what is written is the document's output for all that was read, and the tables at the end are those of the
-- rules' run.
use Rattle.std.proofs.Common.{Option, Some, None}
use Prim.Native.Nat.{ℕ, zero, suc, ◌+◌, ◌-◌, ◌≤◌, ◌<◌}
use mathlib.Core.Path.{◌≡◌, refl, sym, ap, ap₂, ◌∙◌}
use mathlib.Core.Bool.{true, false, false≢true}
use mathlib.Core.List.{List, [], ◌∷◌, ◌++◌, append_assoc, append-nil}
use native.Mathlib.Omega.{arith}
use lib.ListN.{length, take, drop, get_or, length-drop}
use lib.Seq.{take-nil, drop-drop, take-add, length-take-le, get_or-take, get_or-drop}
use Rattle.rules.specs.Numbers.{small}
use Rattle.rules.specs.Tables.{Tables, start}
use Rattle.rules.specs.Dispatch.{status}
use Rattle.rules.specs.Runs.{run}
use Rattle.laws.proofs.Steps.{run_append}
use Rattle.store.specs.Store.{tables}
use Rattle.fields.specs.Fields.{whole}
use Rattle.printing.specs.declared.Span.{Span}
use Rattle.printing.specs.declared.Turned.{Turned}
use Rattle.printing.specs.Input.{waiting, moved, told, is_ended}
use Rattle.lines.specs.Text.{last_line}
use Rattle.printing.specs.Printing.{prints, output, fields, fields_in}
use Rattle.printing.proofs.Streams.{prints_none}
use Rattle.stream.specs.declared.Run.{Run}
use Rattle.stream.specs.Stream.{Right, Begins, after_turn, Serves, Reads, Rounds}
use Rattle.stream.specs.Loop.{behind, unless_lines, piece, Loop, goes, ends}
use Rattle.stream.proofs.Placed.{serves_right}
use Rattle.stream.proofs.Lasting.{stops_cut, cut_few, last_served}

-- ---- what waits, after a turn and after a read

drop_take : (n k : ℕ) (l : List ℕ) → drop n (take k l) ≡ take (k - n) (drop n l)
drop_take zero k l = let e : k ≡ k - 0 = omega arith in ap (λ (j : ℕ). take j l) e
drop_take (suc n) zero l = let e : 0 ≡ 0 - suc n = omega arith in ap (λ (j : ℕ). take j (drop (suc n) l)) e
drop_take (suc n) (suc k) [] = sym (take-nil (suc k - suc n))
drop_take (suc n) (suc k) (x ∷ l) = let e : k - n ≡ suc k - suc n = omega arith in drop_take n k l ∙ ap (λ (j : ℕ). take j (drop n l)) e

turn_leaves : (r : Run) (t : Turned) (input : List ℕ) → drop t.used (waiting r.window input) ≡ waiting (after_turn r t).window input
turn_leaves r t input =
    let e : r.window.held - r.window.at - t.used ≡ r.window.held - (r.window.at + t.used) = omega arith in
    drop_take t.used (r.window.held - r.window.at) (drop r.window.at input)
    ∙ ap₂ (λ (j : ℕ) (l : List ℕ). take j l) e (drop-drop t.used r.window.at input)

module _ {r : Run} {before after : List ℕ} {v : Run} (q : Reads r before after v) where
  at_front : v.window.at ≡ 0
  at_front = ap (λ (x : Run). x.window.at) q.leaves ∙ ap (λ (s : Span). s.at) q.refills.told

  held : v.window.held ≡ r.window.held - r.window.at + moved q.refills.got
  held = ap (λ (x : Run). x.window.held) q.leaves ∙ ap (λ (s : Span). s.held) q.refills.told

  read_adds : waiting v.window after ≡ waiting r.window before ++ behind r v after
  read_adds =
      let left = r.window.held - r.window.at in
      let e : v.window.held - v.window.at ≡ left + (v.window.held - left) = omega (arith, at_front, held) in
      ap₂ (λ (j i : ℕ). take j (drop i after)) e at_front
      ∙ (take-add left (v.window.held - left) after ∙ ap (λ (l : List ℕ). l ++ behind r v after) q.refills.front)

-- a read that tells the end has put nothing there
none_at_end : (got : Option ℕ) → is_ended (told got) ≡ true → moved got ≡ 0
none_at_end None e = refl
none_at_end (Some zero) e = refl
none_at_end (Some (suc n)) e = absurd (false≢true e)

module _ {r : Run} {before after : List ℕ} {v : Run} (q : Reads r before after v) where
  end_adds_none : is_ended v.window.reading ≡ true → waiting v.window after ≡ waiting r.window before
  end_adds_none e =
      let left = r.window.held - r.window.at in
      let ended : is_ended (told q.refills.got) ≡ true =
      sym (ap (λ (x : Run). is_ended x.window.reading) q.leaves ∙ ap (λ (s : Span). is_ended s.reading) q.refills.told) ∙ e in
      let none : v.window.held - left ≡ 0 = omega (arith, held q, none_at_end q.refills.got ended) in
      read_adds q
      ∙ (ap (λ (j : ℕ). waiting r.window before ++ take j (drop left after)) none ∙ append-nil (waiting r.window before))

-- ---- a round

module _ {m : List ℕ} {r : Run} {input out m' input' out' : List ℕ} {v : Run} (ρ : Rounds m r input out m' input' out' v) where
  -- a fact of the run that no read changes
  same_as_served : {A : Type 0} (f : Run → A) → ((e : ρ.served.filled ≡ 0) → f v ≡ f ρ.served) → f v ≡ f ρ.served
  same_as_served {A} f h = go ρ.served.filled refl
    where
      go : (n : ℕ) → ρ.served.filled ≡ n → f v ≡ f ρ.served
      go zero e = h e
      go (suc n) e = ap f (ρ.writes (omega (arith, e))).0

  line_is : v.line ≡ ρ.serves.turn.line
  line_is =
      same_as_served (λ (x : Run). x.line) (λ e. ap (λ (x : Run). x.line) (ρ.reads e).leaves)
      ∙ ap (λ (x : Run). x.line) ρ.serves.leaves

  filled_is : v.filled ≡ ρ.serves.turn.filled
  filled_is =
      same_as_served (λ (x : Run). x.filled) (λ e. ap (λ (x : Run). x.filled) (ρ.reads e).leaves)
      ∙ ap (λ (x : Run). x.filled) ρ.serves.leaves

  -- what the turn left waits, and behind it the piece
  left_is : waiting ρ.served.window input ≡ drop ρ.serves.turn.used (waiting r.window input)
  left_is = ap (λ (x : Run). waiting x.window input) ρ.serves.leaves ∙ sym (turn_leaves r ρ.serves.turn input)

  waits_next : waiting v.window input' ≡ drop ρ.serves.turn.used (waiting r.window input) ++ piece ρ
  waits_next = go ρ.served.filled refl ∙ ap (λ (l : List ℕ). l ++ piece ρ) left_is
    where
      go : (n : ℕ) → ρ.served.filled ≡ n
          → waiting v.window input' ≡ waiting ρ.served.window input ++ unless_lines n (behind ρ.served v input')
      go zero e = read_adds (ρ.reads e)
      go (suc n) e =
          let w = ρ.writes (omega (arith, e)) in
          ap₂ (λ (x : Run) (l : List ℕ). waiting x.window l) w.0 w.1 ∙ sym (append-nil _)

  module _ (coming : List ℕ) where
    joined : drop ρ.serves.turn.used (waiting r.window input) ++ (piece ρ ++ coming) ≡ waiting v.window input' ++ coming
    joined =
        sym (append_assoc (drop ρ.serves.turn.used (waiting r.window input)) (piece ρ) coming)
        ∙ ap (λ (l : List ℕ). l ++ coming) (sym waits_next)

    round_prints : prints r.line (tables m) (waiting r.window input ++ (piece ρ ++ coming))
        ≡ take v.filled out' ++ prints v.line (tables m') (waiting v.window input' ++ coming)
    round_prints =
        ρ.serves.turns.prints (piece ρ ++ coming) (λ e. absurd (false≢true e))
        ∙ (ap₂ (λ (n k : ℕ). take n out'
        ++ prints k (tables m') (drop ρ.serves.turn.used (waiting r.window input) ++ (piece ρ ++ coming)))
        (sym filled_is) (sym line_is)
        ∙ ap (λ (l : List ℕ). take v.filled out' ++ prints v.line (tables m') l) joined)

    round_runs : run small (tables m) (fields (waiting r.window input ++ (piece ρ ++ coming)))
        ≡ run small (tables m') (fields (waiting v.window input' ++ coming))
    round_runs =
        let p = ρ.serves.turns in
        ap (run small (tables m)) (p.first (piece ρ ++ coming) (λ e. absurd (false≢true e)))
        ∙ (run_append small (tables m) p.served _ ∙ ap₂ (λ (T : Tables) (l : List ℕ). run small T (fields l)) (sym p.leaves) joined)

  -- where a read told the end, what waits is no whole field
  round_ends : is_ended r.window.reading ≡ false → 160 ≤ length out → is_ended v.window.reading ≡ true → whole (waiting v.window input') ≡ false
  round_ends more room end = go ρ.served.filled refl
    where
      go : (n : ℕ) → ρ.served.filled ≡ n → whole (waiting v.window input') ≡ false
      go zero e =
          ap whole (end_adds_none (ρ.reads e) end ∙ left_is)
          ∙ stops_cut ρ.serves.turns room (sym (ap (λ (x : Run). x.filled) ρ.serves.leaves) ∙ e)
      go (suc n) e =
          absurd
          (false≢true
          (sym more
          ∙ (sym (ap (λ (x : Run). is_ended x.window.reading) (ρ.writes (omega (arith, e))).0 ∙ ap (λ (x : Run). is_ended x.window.reading) ρ.serves.leaves) ∙ end)))

-- No read is without room: one that has none tells an end that is not there. A buffer of 65,538 bytes is enough.
module _ {m : List ℕ} {r : Run} {input out m' input' out' : List ℕ} {v : Run} (ρ : Rounds m r input out m' input' out' v)
    (right : Right m r (length input) (length out)) (bytes : (i : ℕ) → get_or input i 0 < 256) (room : 160 ≤ length out) where
  pub reads_with_room : 65538 ≤ length input → ρ.served.filled ≡ 0 → 0 < length input - (ρ.served.window.held - ρ.served.window.at)
  reads_with_room long e = omega (arith, long, size, cut_few w cut below)
    where
      w : List ℕ
      w = waiting ρ.served.window input

      size : length w ≡ ρ.served.window.held - ρ.served.window.at
      size =
          length-take-le (ρ.served.window.held - ρ.served.window.at) (drop ρ.served.window.at input)
          (omega (arith, length-drop ρ.served.window.at input, (serves_right right ρ.serves).within))

      cut : whole w ≡ false
      cut = ap whole (left_is ρ) ∙ stops_cut ρ.serves.turns room (sym (ap (λ (x : Run). x.filled) ρ.serves.leaves) ∙ e)

      below : (i : ℕ) → i < length w → get_or w i 0 < 256
      below i h =
          let same : get_or w i 0 ≡ get_or input (ρ.served.window.at + i) 0 =
          get_or-take (ρ.served.window.held - ρ.served.window.at) (drop ρ.served.window.at input) i 0 (omega (arith, size))
          ∙ get_or-drop ρ.served.window.at input i 0 in
          omega (arith, same, bytes (ρ.served.window.at + i))

-- ---- the loop

-- what holds of a run that a round left: at the end of the input no whole field waits
abbrev Cut : Run → List ℕ → Type 0
Cut r input = is_ended r.window.reading ≡ true → whole (waiting r.window input) ≡ false

module _ {m : List ℕ} {r : Run} {input out m' out' : List ℕ} {v : Run} (s : Serves m r true input out out' m' v) (end : is_ended r.window.reading ≡ true)
    (cut : Cut r input) (room : 322 ≤ length out) (same : length out' ≡ length out) where
  all : drop s.turn.used (waiting r.window input) ++ [] ≡ []
  all = append-nil _ ∙ last_served s.turns (cut end) room same

  last_prints : prints r.line (tables m) (waiting r.window input ++ []) ≡ take v.filled out' ++ last_line (status (tables m'))
  last_prints =
      s.turns.prints [] (λ e. refl)
      ∙ (ap₂ (λ (n : ℕ) (l : List ℕ). take n out' ++ prints s.turn.line (tables m') l)
      (sym (ap (λ (x : Run). x.filled) s.leaves)) all
      ∙ ap (λ (l : List ℕ). take v.filled out' ++ l) (prints_none s.turn.line (tables m')))

  last_runs : run small (tables m) (fields (waiting r.window input ++ [])) ≡ tables m'
  unfolding fields_in
  last_runs =
      ap (run small (tables m)) (s.turns.first [] (λ e. refl) ∙ (ap (λ (l : List ℕ). s.turns.served ++ fields l) all ∙ append-nil _))
      ∙ sym s.turns.leaves

loop_prints : {m : List ℕ} {r : Run} {input coming written end : List ℕ} → Cut r input → Loop m r input coming written end
    → prints r.line (tables m) (waiting r.window input ++ coming) ≡ written
loop_prints cut (goes {out' = out'} {v = v} {coming = coming} ρ more room s) =
    round_prints ρ coming ∙ ap (λ (l : List ℕ). take v.filled out' ++ l) (loop_prints (round_ends ρ more room) s)
loop_prints cut (ends s end room same) = last_prints s end cut room same

loop_runs : {m : List ℕ} {r : Run} {input coming written end : List ℕ} → Cut r input → Loop m r input coming written end
    → run small (tables m) (fields (waiting r.window input ++ coming)) ≡ tables end
loop_runs cut (goes {coming = coming} ρ more room s) = round_runs ρ coming ∙ loop_runs (round_ends ρ more room) s
loop_runs cut (ends s end room same) = last_runs s end cut room same

-- ---- from a start

module _ {m : List ℕ} {r : Run} {input coming written end : List ℕ} (b : Begins m r) (s : Loop m r input coming written end) where
  goes_on : Cut r input
  goes_on e = absurd (false≢true (sym (ap (λ (x : Run). is_ended x.window.reading) b.first) ∙ e))

  -- what a program writes is the document's output for all that it read
  pub rounds_write_output : written ≡ output coming
  rounds_write_output =
      sym (loop_prints goes_on s)
      ∙ ap₂ (λ (x : Run) (T : Tables). prints x.line T (waiting x.window input ++ coming)) b.first b.says

  -- the tables that it leaves are those of the rules' run over the fields of all that it read
  pub rounds_leave_the_run : tables end ≡ run small start (fields coming)
  rounds_leave_the_run =
      sym (loop_runs goes_on s)
      ∙ ap₂ (λ (x : Run) (T : Tables). run small T (fields (waiting x.window input ++ coming))) b.first b.says
