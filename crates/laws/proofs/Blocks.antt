-- Blocks: the ordinary messages queued are those received from inboxes, those discarded and those in inboxes now, and the blocks suffice.
use Rattle.std.proofs.Common.{if◌then◌else◌, ◌==◌}
use Prim.Native.Nat.{ℕ, zero, suc, ◌+◌, ◌≤◌}
use mathlib.Core.Path.{◌≡◌, refl, ap, ◌∙◌}
use mathlib.Core.Logic.{◌↔◌}
use mathlib.Core.Bool.{Bool, true, false, ◌&&◌, ◌||◌, not, true≢false}
use mathlib.Core.List.Memᴰ
use mathlib.Core.List.{List, [], ◌∷◌}
use native.Mathlib.Omega.{arith}
use lib.Dec.{leb}
use borrow.Author.Tests.{ne_eqb, leb-true, leb-false, le-leb}
use Rattle.rules.specs.Lists.{one_if, any, has, count, Pulled, missing, pulled, pull}
use Rattle.rules.specs.Numbers.{beat_ticks}
use Rattle.laws.specs.Words.{Limits}
use Rattle.rules.specs.Words.{by_manager}
use Rattle.rules.specs.Tables.{Tables, change, me, start}
use Rattle.rules.specs.States.{waits_for}
use Rattle.rules.specs.Waking.{wake_those, is_ordinary, blocks_used, notice_of, accepts, queue, deliver, stop}
use Rattle.rules.specs.Ending.{ended_set, remove, release, end}
use Rattle.rules.specs.Send.{message, decides, decide, send}
use Rattle.rules.specs.Receive.{wanted_by, received, receive}
use Rattle.rules.specs.Trap.{notice, trap}
use Rattle.rules.specs.Tick.{charge, beat, rotate, tick}
use Rattle.rules.specs.Interrupt.{held_for, interrupt}
use Rattle.rules.specs.Requests.{create, terminate, set_over, wait_for_clock, take_held}
use Rattle.rules.specs.Events.{decode}
use Rattle.rules.specs.Refusals.{◌refuses◌, needs_block, no_block_free, refusal}
use Rattle.rules.specs.Step.{serve, act, step}
use Rattle.rules.specs.Runs.{Input, run}
use Rattle.laws.specs.Words.{Wanted, TrapKind, Trapped, Manager, Unset, Set, Gone, MessageKind, Ordinary, Notice, Message, Held}
use Rattle.laws.specs.Words.{Oneself, Named, Send, Receive, CreateBrother, CreateSon, Terminate, SetManager, GetCpuTime, WaitForClock}
use Rattle.laws.specs.Words.{WaitForIo, Trap, Event, Malformed, ByRunner, Tick, Interrupt}
use Rattle.laws.specs.Blocks.{queued_by, is_receive, is_message, received_by, entry_of, is_unset, ends, of_set, discarded_by}
use Rattle.laws.specs.Blocks.{queued_in, received_in, discarded_in, blocks_free}
use Rattle.laws.specs.Refusals.{call_is, is_send, block_needed, lacks_block, the_ten}
use Rattle.laws.specs.Counts.{if_accepted, over_run}
use Rattle.laws.proofs.Tests.{by_if, by_runs, and_true, and_false}
use Rattle.laws.proofs.Tally.{count_add, count_same, count_zero, count_keep, count_insert, not_any}
use Rattle.laws.proofs.Ordered.{pull_took}
use Rattle.laws.proofs.Steps.{by_step, by_dispatch}
use Rattle.laws.proofs.Refusals.{accepted_exactly}

-- ---- the account of one event

-- U is T with q ordinary messages queued, r received and those of a set discarded
abbrev Balance : Tables → ℕ → ℕ → List ℕ → Tables → Type 0
Balance T q r set U = blocks_used U + r + of_set set T ≡ blocks_used T + q

no_set : (T : Tables) → of_set [] T ≡ 0
unfolding any of_set
no_set T = count_zero _ T.messages (λ m. and_false (is_ordinary m.kind))

-- nothing happens to ordinary messages
even : (T : Tables) {x : ℕ} → x ≡ blocks_used T → x + 0 + of_set [] T ≡ blocks_used T + 0
even T e = omega (arith, no_set T)

end_balance : (n : ℕ) (T : Tables) → Balance T 0 0 (ended_set T.threads n) (end n T)
unfolding end release remove wake_those of_set
end_balance n T = omega (
  arith,
  count_keep (λ m. is_ordinary m.kind) (λ m. not (out m)) T.messages,
  count_add (λ m. is_ordinary m.kind) (λ m. not (out m) && is_ordinary m.kind) (λ m. is_ordinary m.kind && out m) T.messages
      (λ m. split (out m) (is_ordinary m.kind)),
)
  where
    out : Message → Bool
    out m = has m.to (ended_set T.threads n) || has m.from (ended_set T.threads n)

    split : (g p : Bool) → one_if p ≡ one_if (not g && p) + one_if (p && g)
    split true true = refl
    split true false = refl
    split false true = refl
    split false false = refl

-- an ordinary message that nobody waits for is queued
deliver_balance : (m : Message) (T : Tables) →
    Balance T (one_if (is_ordinary m.kind && not (any (accepts m) T.threads))) 0 [] (deliver m T)
unfolding deliver queue wake_those
deliver_balance m T = go (any (accepts m) T.threads) refl
  where
    go : (b : Bool) → any (accepts m) T.threads ≡ b →
        Balance T (one_if (is_ordinary m.kind && not (any (accepts m) T.threads))) 0 [] (deliver m T)
    go true e = rw e (rw (and_false (is_ordinary m.kind)) (even T refl))
    go false e = rw e (rw (and_true (is_ordinary m.kind))
        (omega (arith, no_set T, count_insert (λ x. is_ordinary x.kind) (λ x. leb x.to m.to) m T.messages)))

send_balance : (m to w : ℕ) (T : Tables) →
    Balance T (one_if (needs_block m to w T)) 0 (if decides m to T && not (w == 0) then ended_set T.threads to else []) (send m to w T)
unfolding send decide is_ordinary wake_those
send_balance m to w T = go (decides m to T) refl w
  where
    -- a notice is no ordinary message
    apart : (x : Message) → (not (notice_of to x) && is_ordinary x.kind) ≡ is_ordinary x.kind
    apart x = kind x.kind
      where
        kind : (k : MessageKind) → (not (not (is_ordinary k) && x.from == to) && is_ordinary k) ≡ is_ordinary k
        kind Ordinary = refl
        kind Notice = and_false (not (x.from == to))

    go : (b : Bool) → decides m to T ≡ b → (w : ℕ) →
        Balance T (one_if (needs_block m to w T)) 0 (if decides m to T && not (w == 0) then ended_set T.threads to else [])
        (send m to w T)
    go true d zero = rw d (even T (count_keep (λ x. is_ordinary x.kind) (λ x. not (notice_of to x)) T.messages
        ∙ count_same _ _ T.messages apart))
    go true d (suc w) = rw (d, ne_eqb (suc w) 0 (λ e. omega arith)) (end_balance to T)
    go false d w = rw d (deliver_balance (message to m w) T)

receive_balance : (m : ℕ) (w : Wanted) (T : Tables) →
    Balance T 0 (one_if (is_message (pull (wanted_by m w) T.messages))) [] (receive m w T).tables
unfolding receive
receive_balance m w T = go (pull (wanted_by m w) T.messages) refl
  where
    go : (x : Pulled Message) → pull (wanted_by m w) T.messages ≡ x → Balance T 0 (one_if (is_message x)) [] (received m w T x).tables
    go missing e = unfold received is_message stop change in even T refl
    go (pulled y ys) e = unfold received is_message in
        omega (arith, no_set T, (pull_took (wanted_by m w) T.messages e).each (λ x. is_ordinary x.kind))

trap_balance : (m : ℕ) (k : TrapKind) (c : ℕ) (T : Tables) →
    Balance T 0 0 (by_manager (ended_set T.threads m) (λ n. []) (entry_of k m T)) (trap m k c T)
unfolding trap is_ordinary
trap_balance m k c T = go (entry_of k m T)
  where
    go : (g : Manager) → Balance T 0 0 (by_manager (ended_set T.threads m) (λ n. []) g)
        (by_manager (end m T) (λ n. deliver (notice n m c) (stop m (Trapped k) T)) g)
    go Unset = end_balance m T
    go (Set n) = even T (delivered ∙ unfold stop change in refl)
      where
        delivered : blocks_used (deliver (notice n m c) (stop m (Trapped k) T)) ≡ blocks_used (stop m (Trapped k) T)
        delivered = omega (arith, deliver_balance (notice n m c) (stop m (Trapped k) T), no_set (stop m (Trapped k) T))
    go Gone = end_balance m T

pub tick_messages : (T : Tables) → (tick T).messages ≡ T.messages
unfolding tick
tick_messages T = turned (beat (charge T)) ∙ beaten (charge T) ∙ charged T
  where
    charged : (U : Tables) → (charge U).messages ≡ U.messages
    charged U = unfold charge change in by_runs (λ (W : Tables). W.messages ≡ U.messages) U.runner (λ _. refl) (λ n s _. refl)

    beaten : (U : Tables) → (beat U).messages ≡ U.messages
    beaten U = unfold beat wake_those in
        by_if (λ (W : Tables). W.messages ≡ U.messages) (U.since + 1 == beat_ticks) (λ _. refl) (λ _. refl)

    turned : (U : Tables) → (rotate U).messages ≡ U.messages
    turned U = unfold rotate wake_those in
        by_runs (λ (W : Tables). W.messages ≡ U.messages) U.runner (λ _. refl)
        (λ n s _. by_if (λ (W : Tables). W.messages ≡ U.messages) (s == 0) (λ _. refl) (λ _. refl))

act_balance : (T : Tables) (e : Event) → Balance T (queued_by T e) (received_by T e) (ends T e) (act T e).tables
unfolding act serve queued_by received_by ends block_needed call_is is_send is_receive
act_balance T Malformed = even T refl
act_balance T (ByRunner (Send to w)) = send_balance (me T.runner) to w T
act_balance T (ByRunner (Receive w)) = receive_balance (me T.runner) w T
act_balance T (ByRunner CreateBrother) = even T (unfold create in refl)
act_balance T (ByRunner CreateSon) = even T (unfold create in refl)
act_balance T (ByRunner (Terminate Oneself)) = unfold terminate in end_balance (me T.runner) T
act_balance T (ByRunner (Terminate (Named n))) = unfold terminate in end_balance n T
act_balance T (ByRunner (SetManager k n)) = go (me T.runner) (entry_of k (me T.runner) T)
  where
    go : (m : ℕ) (g : Manager) → Balance T 0 0 (if is_unset g then [] else ended_set T.threads m) (set_over g m k n T).tables
    go m Unset = unfold set_over change is_unset in even T refl
    go m (Set x) = unfold set_over is_unset in end_balance m T
    go m Gone = unfold set_over is_unset in end_balance m T
act_balance T (ByRunner GetCpuTime) = even T refl
act_balance T (ByRunner WaitForClock) = even T (unfold wait_for_clock stop change in refl)
act_balance T (ByRunner (WaitForIo d)) = even T (go (pull (held_for d) T.held))
  where
    go : (x : Pulled Held) → blocks_used (take_held (me T.runner) d T x).tables ≡ blocks_used T
    go missing = unfold take_held stop change in refl
    go (pulled h hs) = unfold take_held in refl
act_balance T (ByRunner (Trap k c)) = trap_balance (me T.runner) k c T
act_balance T Tick = even T (ap (count (λ m. is_ordinary m.kind)) (tick_messages T))
act_balance T (Interrupt d w) = even T (unfold interrupt wake_those in
    by_if (λ (U : Tables). blocks_used U ≡ blocks_used T) (any (waits_for d) T.threads) (λ _. refl) (λ _. refl))

-- ---- steps and runs

-- an accepted event finds a block free if it needs one
block_free : (L : Limits) (T : Tables) (e : Event) → refusal L T e ≡ 0 → blocks_used T ≤ L.blocks →
    blocks_used T + queued_by T e ≤ L.blocks
unfolding queued_by lacks_block the_ten
block_free L T e a h = go (block_needed T e) (no_block_free L T) refl
    (not_any (λ r. r.holds) (the_ten L T e) (lacks_block L T e refuses 5) ((accepted_exactly L T e).0 a)
    (Memᴰ.tail (Memᴰ.tail (Memᴰ.tail (Memᴰ.tail (Memᴰ.tail (Memᴰ.head refl)))))))
  where
    go : (b c : Bool) → no_block_free L T ≡ c → (b && c) ≡ false → blocks_used T + one_if b ≤ L.blocks
    go false c e k = omega arith
    go true true e k = absurd (true≢false k)
    go true false e k = omega (arith, leb-false L.blocks (blocks_used T) e)

-- the account of a step, and that the blocks suffice
record Accounted (L : Limits) (T U : Tables) (q r d : ℕ) : Type 0 where
  balance : blocks_used U + r + d ≡ blocks_used T + q
  suffice : blocks_used T ≤ L.blocks → blocks_used U ≤ L.blocks

stepped : (L : Limits) (T : Tables) (bytes : List ℕ) →
    Accounted L T (step L T bytes).tables (if_accepted queued_by L T bytes) (if_accepted received_by L T bytes)
    (if_accepted discarded_by L T bytes)
stepped L T bytes =
    by_step (λ (U : Tables) (b : Bool). Accounted L T U (if b then queued_by T e else 0) (if b then received_by T e else 0)
    (if b then discarded_by T e else 0)) L T bytes
    (record { balance = omega arith; suffice = λ h. h })
    (λ a. by_dispatch (λ (U : Tables). Accounted L T U (queued_by T e) (received_by T e) (discarded_by T e)) (act T e) (λ _ _ _. acted a)
    (λ _ _. acted a) (λ n q _ _. unfold change in record { balance = (acted a).balance; suffice = (acted a).suffice }))
  where
    e : Event
    e = decode bytes

    acted : refusal L T e ≡ 0 → Accounted L T (act T e).tables (queued_by T e) (received_by T e) (discarded_by T e)
    acted a = unfold discarded_by in
        record { balance = act_balance T e; suffice = λ h. omega (arith, act_balance T e, block_free L T e a h) }

-- ---- the laws

-- Over any run: what was there and what is queued are what is received, what is discarded and what is there at the end.
pub blocks_balance : (L : Limits) (T : Tables) (es : Input) →
    blocks_used T + queued_in L T es ≡ received_in L T es + discarded_in L T es + blocks_used (run L T es)
unfolding run over_run
blocks_balance L T [] = omega arith
blocks_balance L T (e ∷ es) = omega (arith, (stepped L T e).balance, blocks_balance L (step L T e).tables es)

-- No run uses more blocks than there are.
pub blocks_suffice : (L : Limits) (T : Tables) (es : Input) → blocks_used T ≤ L.blocks → blocks_used (run L T es) ≤ L.blocks
unfolding run
blocks_suffice L T [] h = h
blocks_suffice L T (e ∷ es) h = blocks_suffice L (step L T e).tables es ((stepped L T e).suffice h)

-- A needed block is refused exactly if none is free.
pub refused_without_block : (L : Limits) (T : Tables) → (no_block_free L T ≡ true) ↔ (blocks_free L T ≡ 0)
refused_without_block L T =
    (λ e. omega (arith, leb-true L.blocks (blocks_used T) e), λ e. le-leb L.blocks (blocks_used T) (omega arith))

-- From a start: ordinary messages queued are those received from inboxes, those discarded and those in inboxes now; at most as many as
-- there are blocks are there, and the others are free.
pub blocks_accounted : (L : Limits) (es : Input) →
    (queued_in L start es ≡ received_in L start es + discarded_in L start es + blocks_used (run L start es))
    × (blocks_used (run L start es) ≤ L.blocks)
    × (blocks_used (run L start es) + blocks_free L (run L start es) ≡ L.blocks)
unfolding count
blocks_accounted L es = let h : blocks_used (run L start es) ≤ L.blocks = blocks_suffice L start es (omega arith) in
    (omega (arith, blocks_balance L start es), h, omega arith)
