-- The window over the input.
use Rattle.std.specs.Prelude.{ℕ, zero, suc, ◌+◌, ◌-◌, ◌≤◌, Bool, true, false, ◌≡◌, Option, Some, None, unwrap_or, List, length, take, drop}
use Rattle.printing.specs.declared.Span.{Span}
use Rattle.printing.specs.declared.Reading.{Reading}
use Rattle.printing.specs.declared.Reading.TheVariants.{Open, Ended, Failed}

-- what has been read and is not served yet
abbrev pub waiting : Span → List ℕ → List ℕ
waiting w buffer = take (w.held - w.at) (drop w.at buffer)

-- what a read that is handed n bytes may answer: how many bytes it moved, at most n, or nothing where it failed
abbrev pub MayAnswer : ℕ → Option ℕ → Type 0
MayAnswer n (Some k) = k ≤ n
MayAnswer n None = Unit {0}

-- how many bytes it moved
abbrev pub moved : Option ℕ → ℕ
moved got = unwrap_or got 0

-- a read that moves none is at the end of the input
abbrev pub told : Option ℕ → Reading
told None = Failed
told (Some zero) = Ended
told (Some (suc k)) = Open

-- nothing comes behind what was read
abbrev pub is_ended : Reading → Bool
is_ended Open = false
is_ended Ended = true
is_ended Failed = false

-- the window after a read behind the first `left` bytes
abbrev pub heard : ℕ → Option ℕ → Span
heard left got = record { at = 0; held = left + moved got; reading = told got }

-- the bytes that waited stand at the front, n of them
pub record Settled (w : Span) (before after : List ℕ) (n : ℕ) : Type 0 where
  pub counts : n ≡ w.held - w.at
  pub size : length after ≡ length before
  pub front : take n after ≡ waiting w before

-- What waited stands at the front, and a read has put what comes next behind it. `got` stands for what the read answered: that it is that
-- number, and which bytes the read put there, no contract can say.
pub record Refilled (w : Span) (before : List ℕ) (v : Span) (after : List ℕ) : Type 0 where
  pub size : length after ≡ length before
  pub front : take (w.held - w.at) after ≡ waiting w before
  pub got : Option ℕ
  pub answers : MayAnswer (length before - (w.held - w.at)) got
  pub told : v ≡ heard (w.held - w.at) got
