-- The ten tests behind the refusals of an event, in the document's order.
use Rattle.std.specs.Prelude.{ℕ, Bool, true, false, ◌&&◌, ◌||◌, not, List, [], ◌∷◌, ltb, if◌then◌else◌, ◌==◌}
use Rattle.rules.specs.Lists.{any}
use Rattle.laws.specs.Words.{Limits}
use Rattle.rules.specs.Tables.{Tables, live, runs, me}
use Rattle.rules.specs.States.{waits_for}
use Rattle.rules.specs.Send.{decides}
use Rattle.rules.specs.Dispatch.{status}
use Rattle.rules.specs.Refusals.{Rule, ◌refuses◌, over, is_malformed, needs_runner, wants_nobody, ends_nobody, needs_block, no_block_free}
use Rattle.rules.specs.Refusals.{no_thread_free}
use Rattle.laws.specs.Words.{Wanted, Target, Send, Receive, CreateBrother, CreateSon, Terminate, SetManager, GetCpuTime, WaitForClock}
use Rattle.laws.specs.Words.{WaitForIo, Trap, Event, Malformed, ByRunner, Tick, Interrupt}

-- does a rule before number n hold?
unfoldable pub before : ℕ → List Rule → Bool
before n [] = false
before n (r ∷ rs) = if r.number == n then false else r.holds || before n rs

-- of a call that can be refused for what it asks, what is said of its kind; of all else "no"
unfoldable pub call_is : (ℕ → ℕ → Bool) → (Wanted → Bool) → Bool → Bool → (Target → Bool) → (ℕ → Bool) → (ℕ → Bool) → Event → Bool
call_is send receive brother son terminate set_manager io Malformed = false
call_is send receive brother son terminate set_manager io (ByRunner (Send to w)) = send to w
call_is send receive brother son terminate set_manager io (ByRunner (Receive w)) = receive w
call_is send receive brother son terminate set_manager io (ByRunner CreateBrother) = brother
call_is send receive brother son terminate set_manager io (ByRunner CreateSon) = son
call_is send receive brother son terminate set_manager io (ByRunner (Terminate n)) = terminate n
call_is send receive brother son terminate set_manager io (ByRunner (SetManager k n)) = set_manager n
call_is send receive brother son terminate set_manager io (ByRunner GetCpuTime) = false
call_is send receive brother son terminate set_manager io (ByRunner WaitForClock) = false
call_is send receive brother son terminate set_manager io (ByRunner (WaitForIo d)) = io d
call_is send receive brother son terminate set_manager io (ByRunner (Trap k c)) = false
call_is send receive brother son terminate set_manager io Tick = false
call_is send receive brother son terminate set_manager io (Interrupt d w) = false

-- a send of which f holds: receiver, word
unfoldable pub is_send : (ℕ → ℕ → Bool) → Event → Bool
is_send f e = call_is f (λ w. false) false false (λ n. false) (λ n. false) (λ d. false) e

-- 1: "an event comes when halted or panicked"
abbrev pub comes_too_late : Tables → Bool
comes_too_late T = over (status T)

-- 3: "a runner is needed and there is none"
abbrev pub lacks_runner : Tables → Event → Bool
lacks_runner T e = needs_runner e && not (runs T.runner)

-- 4: "the name (send, receive, 3 to 6) is no live thread's, 255 in receive and in request 3 excepted"
unfoldable pub names_nobody : Tables → Event → Bool
names_nobody T e = call_is (λ to w. not (live to T)) (wants_nobody T) false false (ends_nobody T) (λ n. not (live n T)) (λ d. false) e

-- 9: "a decision other than 0 or 1"
unfoldable pub decides_wrongly : Tables → Event → Bool
decides_wrongly T e = is_send (λ to w. decides (me T.runner) to T && ltb 1 w) e

-- 5: "a block is needed and none is free"
unfoldable pub block_needed : Tables → Event → Bool
block_needed T e = is_send (λ to w. needs_block (me T.runner) to w T) e

unfoldable pub lacks_block : Limits → Tables → Event → Bool
lacks_block L T e = block_needed T e && no_block_free L T

-- 7: "brother of thread 0"
unfoldable pub is_brother_of_0 : Tables → Event → Bool
is_brother_of_0 T e = call_is (λ to w. false) (λ w. false) true false (λ n. false) (λ n. false) (λ d. false) e && me T.runner == 0

-- 6: "no thread block is free", for a brother or a son
unfoldable pub lacks_thread : Limits → Tables → Event → Bool
lacks_thread L T e = call_is (λ to w. false) (λ w. false) true true (λ n. false) (λ n. false) (λ d. false) e && no_thread_free L T

-- 10: "own name as manager"
unfoldable pub manages_itself : Tables → Event → Bool
manages_itself T e = call_is (λ to w. false) (λ w. false) false false (λ n. false) (λ n. n == me T.runner) (λ d. false) e

-- 8: "another thread waits for that device"
unfoldable pub device_is_taken : Tables → Event → Bool
device_is_taken T e = call_is (λ to w. false) (λ w. false) false false (λ n. false) (λ n. false) (λ d. any (waits_for d) T.threads) e

-- in the document's order
unfoldable pub the_ten : Limits → Tables → Event → List Rule
the_ten L T e =
    (comes_too_late T refuses 1)
    ∷ (is_malformed e refuses 2)
    ∷ (lacks_runner T e refuses 3)
    ∷ (names_nobody T e refuses 4)
    ∷ (decides_wrongly T e refuses 9)
    ∷ (lacks_block L T e refuses 5)
    ∷ (is_brother_of_0 T e refuses 7)
    ∷ (lacks_thread L T e refuses 6)
    ∷ (manages_itself T e refuses 10)
    ∷ (device_is_taken T e refuses 8)
    ∷ []
