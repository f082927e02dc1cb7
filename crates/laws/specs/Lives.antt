-- The ticks of one life of a name.
use Rattle.std.specs.Prelude.{ℕ, ◌+◌, [], ◌∷◌, if◌then◌else◌}
use Rattle.laws.specs.Words.{Limits}
use Rattle.rules.specs.Tables.{Tables, live}
use Rattle.rules.specs.Step.{step}
use Rattle.rules.specs.Runs.{Input}
use Rattle.laws.specs.Counts.{if_accepted, own_ticks_by}

-- the ticks accepted while n ran, since the thread of that name was made: a before the run. While nobody has the name, none are counted
unfoldable pub life_ticks : Limits → ℕ → ℕ → Tables → Input → ℕ
life_ticks L n a T [] = a
life_ticks L n a T (e ∷ es) = life_ticks L n (if live n T then a + if_accepted (own_ticks_by n) L T e else 0) (step L T e).tables es
