-- The loop that the programs share: what a start, a turn, a read and a round of it promise, exactly but for the bytes that are read.
use Rattle.std.specs.Prelude.{ℕ, ◌+◌, ◌<◌, ◌≤◌, Bool, false, ◌≡◌, List}
use Rattle.rules.specs.Tables.{start}
use Rattle.store.specs.Store.{tables}
use Rattle.printing.specs.Printing.{Standing, Turns}
use Rattle.printing.specs.Input.{waiting, Refilled}
use Rattle.printing.specs.declared.Span.{Span}
use Rattle.printing.specs.declared.Reading.TheVariants.{Open}
use Rattle.printing.specs.declared.Turned.{Turned}
use Rattle.stream.specs.declared.Run.{Run}

-- Between two rounds: the tables stand, the window lies in the input's buffer, and what is to be written in the other one.
pub record Right (m : List ℕ) (r : Run) (input out : ℕ) : Type 0 where
  pub standing : Standing m
  pub opens : r.window.at ≤ r.window.held
  pub within : r.window.held ≤ input
  pub filled : r.filled ≤ out

-- nothing read, nothing to write, line 1 next
abbrev pub first : Run
first = record { line = 1; window = record { at = 0; held = 0; reading = Open }; filled = 0 }

-- "From a start"
pub record Begins (m : List ℕ) (r : Run) : Type 0 where
  pub standing : Standing m
  pub says : tables m ≡ start
  pub first : r ≡ first

-- a run after a turn: what the turn used is served, its lines are to be written
abbrev pub after_turn : Run → Turned → Run
after_turn r t =
    let w = r.window in
    record { line = t.line; window = record { at = w.at + t.used; held = w.held; reading = w.reading }; filled = t.filled }

-- The bytes that wait are served by one turn. `last`: nothing comes behind them.
pub record Serves (m : List ℕ) (r : Run) (last : Bool) (input before after : List ℕ) (m' : List ℕ) (v : Run) : Type 0 where
  pub turn : Turned
  pub turns : Turns m r.line (waiting r.window input) last before after turn m'
  pub leaves : v ≡ after_turn r turn

-- a run after a read
abbrev pub after_read : Run → Span → Run
after_read r w = record { line = r.line; window = w; filled = r.filled }

-- More is read behind the bytes that wait.
pub record Reads (r : Run) (before after : List ℕ) (v : Run) : Type 0 where
  pub span : Span
  pub refills : Refilled r.window before span after
  pub leaves : v ≡ after_read r span

-- One round: a turn; where that has no line to write, more is read.
pub record Rounds (m : List ℕ) (r : Run) (input out m' input' out' : List ℕ) (v : Run) : Type 0 where
  pub served : Run
  pub serves : Serves m r false input out out' m' served
  pub writes : 0 < served.filled → (v ≡ served) × (input' ≡ input)
  pub reads : served.filled ≡ 0 → Reads served input input' v
