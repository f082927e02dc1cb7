-- Ending: the ended set, and the tables without it.
use Rattle.std.specs.Prelude.{ℕ, Bool, false, ◌&&◌, ◌||◌, not, List, [], ◌∷◌, ◌++◌, map, length, if◌then◌else◌}
use Rattle.rules.specs.Lists.{any, has, keep, times}
use Rattle.rules.specs.Words.{State, Answer, Nothing, SenderGone, Manager, Unset, Set, Gone, Thread, NoRunner, Runs, by_state}
use Rattle.rules.specs.Words.{by_wanted, by_parent, by_runner}
use Rattle.rules.specs.Tables.{Tables, with_managers}
use Rattle.rules.specs.States.{awaits}
use Rattle.rules.specs.Waking.{wake_by_name}

-- ---- "The ended set is the smallest one that holds the named thread and, with each member, its children and every thread trapped on it."

abbrev pub depends : List ℕ → Thread → Bool
depends set t = by_parent false (λ p. has p set) t.parent || any (λ n. awaits n t) set

-- the set with those added that depend on it
unfoldable pub grow : List Thread → List ℕ → List ℕ
grow ts set = set ++ map (λ t. t.name) (keep (λ t. depends set t && not (has t.name set)) ts)

-- as many rounds as there are threads: each round that adds nobody is the last that matters
unfoldable pub ended_set : List Thread → ℕ → List ℕ
ended_set ts n = times (length ts) (grow ts) (n ∷ [])

-- ---- "All messages and notices to or from members are discarded, manager entries naming them become gone, their waits are cleared."

unfoldable pub gone_if : List ℕ → Manager → Manager
gone_if set Unset = Unset
gone_if set (Set n) = if has n set then Gone else Set n
gone_if set Gone = Gone

unfoldable pub without_managers : List ℕ → Thread → Thread
without_managers set t =
    let g = t.managers in
    with_managers (record { program = gone_if set g.program; tlb = gone_if set g.tlb; sysbp = gone_if set g.sysbp }) t

unfoldable pub remove : List ℕ → Tables → Tables
remove set T =
    record {
      last = T.last;
      runner = by_runner NoRunner (λ n s. if has n set then NoRunner else Runs n s) T.runner;
      since = T.since;
      beats = T.beats;
      threads = map (without_managers set) (keep (λ t. not (has t.name set)) T.threads);
      ready = keep (λ n. not (has n set)) T.ready;
      clock = keep (λ n. not (has n set)) T.clock;
      messages = keep (λ m. not (has m.to set || has m.from set)) T.messages;
      held = T.held;
    }

-- ---- "Other threads receiving from a member become ready in rising order of name, with the answer "sender gone"."

unfoldable pub misses : List ℕ → State → Bool
misses set s = by_state false (by_wanted false (λ n. has n set)) (λ d. false) (λ k. false) s

unfoldable pub told_gone : State → Answer
told_gone s = by_state Nothing (by_wanted Nothing (λ n. SenderGone n)) (λ d. Nothing) (λ k. Nothing) s

unfoldable pub release : List ℕ → Tables → Tables
release set T = wake_by_name (λ t. misses set t.state) (λ t. told_gone t.state) T

-- all of Ending, for the named thread
unfoldable pub end : ℕ → Tables → Tables
end n T = let set = ended_set T.threads n in release set (remove set T)
