-- What is asked of a thread's place: with what was read in place of what stands there.
use Rattle.std.proofs.Common.{◌==◌, ◌≡◌, ℕ, Bool, ◌&&◌, List, get_or, refl}
use Rattle.rules.specs.Lists.{one_if, times_in}
use Rattle.rules.specs.Tables.{runs_as}
use Rattle.rules.specs.States.{is_running, is_ready, on_clock}
use Rattle.laws.specs.Words.{Runner, State}

-- j and k are how often it stands in the two queues
abbrev pub standing : Runner → ℕ → ℕ → ℕ → State → Bool
standing r j k n s = one_if (is_running s) == one_if (runs_as n r) && one_if (is_ready s) == j && one_if (on_clock s) == k

-- c and d have the counts of the names in the queues
pub looked : {r r' : Runner} (c d : List ℕ) {p p' q q' : List ℕ} → r ≡ r' → ((k : ℕ) → get_or c k 0 ≡ times_in p k) → p ≡ p' →
    ((k : ℕ) → get_or d k 0 ≡ times_in q k) → q ≡ q' → (n : ℕ) (s : State)
    → standing r (get_or c n 0) (get_or d n 0) n s ≡ standing r' (times_in p' n) (times_in q' n) n s
looked c d e a p b q n s = rw (e, a n, b n, p, q) refl
