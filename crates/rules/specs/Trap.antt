-- Trap.
use Rattle.std.specs.Prelude.{ℕ}
use Rattle.rules.specs.Words.{TrapKind, Trapped, Unset, Notice, Message, by_manager}
use Rattle.rules.specs.Tables.{Tables, of_thread, manager}
use Rattle.rules.specs.Waking.{deliver, stop}
use Rattle.rules.specs.Ending.{end}

-- "a notice (its name, the cause)"
abbrev pub notice : ℕ → ℕ → ℕ → Message
notice to me cause = record { to = to; from = me; kind = Notice; word = cause }

-- "With a live manager of that kind the thread is trapped and a notice .. goes to the manager as a message would ..
-- With none or gone, the thread ends." A manager that is set is live: the table rules say so.
unfoldable pub trap : ℕ → TrapKind → ℕ → Tables → Tables
trap me k cause T =
    by_manager (end me T) (λ n. deliver (notice n me cause) (stop me (Trapped k) T))
    (of_thread Unset (λ t. manager k t.managers) me T.threads)
