-- What an answer that is handed over must come from.
use Rattle.std.specs.Prelude.{ℕ, ◌+◌, ◌≡◌, ◌⊎◌, true, false}
use mathlib.Core.List.{List, [], ◌∷◌, ◌++◌, Memᴰ}
use Rattle.rules.specs.Lists.{any}
use Rattle.rules.specs.Numbers.{beat_ticks}
use Rattle.laws.specs.Words.{Limits}
use Rattle.laws.specs.Words.{TrapKind, State, Ready, Clock, Device, Answer, Nothing, FromMessage, FromNotice, SenderGone, Result}
use Rattle.laws.specs.Words.{Unset, Thread, Held, Runs, Call, CreateBrother, CreateSon, SetManager, GetCpuTime, WaitForIo, Event}
use Rattle.laws.specs.Words.{ByRunner, Tick, Interrupt}
use Rattle.rules.specs.Tables.{Tables, live, of_thread, manager, start}
use Rattle.rules.specs.Interrupt.{held_for}
use Rattle.rules.specs.Requests.{next_name}
use Rattle.rules.specs.Events.{decode}
use Rattle.rules.specs.Step.{step}
use Rattle.rules.specs.Runs.{Input, run}
use Rattle.laws.specs.Late.{Owed, Told}

-- In tables T the request c of thread s has the result w at once: the name that a creation gives, 0 for a manager that is set
-- where there was none, the thread's own tick count, or the word that is held for a device. `left` are the words held after the
-- request: the word is taken, so none is held for that device then.
pub data ResultOf (T : Tables) (left : List Held) (s : ℕ) : Call → ℕ → Type 0 where
  of_brother : ResultOf T left s CreateBrother (next_name T)
  of_son : ResultOf T left s CreateSon (next_name T)
  of_manager : {k : TrapKind} {n : ℕ} → of_thread Unset (λ t. manager k t.managers) s T.threads ≡ Unset →
      ResultOf T left s (SetManager k n) 0
  of_count : ResultOf T left s GetCpuTime (of_thread 0 (λ t. t.ticks) s T.threads)
  of_held : {d : ℕ} (h : Held) → Memᴰ h T.held → h.device ≡ d → any (held_for d) left ≡ false →
      ResultOf T left s (WaitForIo d) h.word

-- In tables T the event with these bytes is accepted, is a request of the runner n, and has the result w at once.
pub record Answers (L : Limits) (T : Tables) (bytes : List ℕ) (n w : ℕ) : Type 0 where
  pub accepted : (step L T bytes).decision.refusal ≡ 0
  pub slice : ℕ
  pub runs : T.runner ≡ Runs n slice
  pub call : Call
  pub asks : decode bytes ≡ ByRunner call
  pub result : ResultOf T (step L T bytes).tables.held n call w

-- In tables T an event wakes a thread in this state with the result w: the tick that is a twentieth one that waits for the clock,
-- with the beat number b that there is after it; an interrupt one that waits for its device, with the status word.
pub data Wakes (T : Tables) (b : ℕ) : Event → State → ℕ → Type 0 where
  a_beat : {s : State} → s ≡ Clock → T.since + 1 ≡ beat_ticks → Wakes T b Tick s b
  a_status : {s : State} {d w : ℕ} → s ≡ Device d → Wakes T b (Interrupt d w) s w

-- After these events, from a start, thread n has been woken with the result w in its present life, and waited with it until the last
-- event: the last event woke it, or it was so before, and n was then still ready with the answer w. And n is live after the last event.
pub data Woken (L : Limits) : Input → ℕ → ℕ → Type 0 where
  woke : (es : Input) (e : List ℕ) (t : Thread) {w : ℕ} →
      (step L (run L start es) e).decision.refusal ≡ 0 → Memᴰ t (run L start es).threads →
      Wakes (run L start es) (run L start (es ++ (e ∷ []))).beats (decode e) t.state w →
      live t.name (run L start (es ++ (e ∷ []))) ≡ true →
      Woken L (es ++ (e ∷ [])) t.name w
  waits : (es : Input) (e : List ℕ) (t : Thread) {w : ℕ} →
      Woken L es t.name w → Memᴰ t (run L start es).threads → t.state ≡ Ready → t.answer ≡ Result w →
      live t.name (run L start (es ++ (e ∷ []))) ≡ true →
      Woken L (es ++ (e ∷ [])) t.name w

-- After these events, from a start, thread n has asked for the result w in its present life: the last event is its request and has
-- this result at once, or it waited for the clock or for a device and was woken with it.
pub data Asked (L : Limits) : Input → ℕ → ℕ → Type 0 where
  at_once : (es : Input) (e : List ℕ) {n w : ℕ} → Answers L (run L start es) e n w → live n (run L start (es ++ (e ∷ []))) ≡ true →
      Asked L (es ++ (e ∷ [])) n w
  woken : {es : Input} {n w : ℕ} → Woken L es n w → Asked L es n w

-- In tables T the event with these bytes is accepted and wakes thread n with the result w.
pub record WokenBy (L : Limits) (T : Tables) (bytes : List ℕ) (n w : ℕ) : Type 0 where
  pub thread : Thread
  pub there : Memᴰ thread T.threads
  pub name : thread.name ≡ n
  pub accepted : (step L T bytes).decision.refusal ≡ 0
  pub wakes : Wakes T (step L T bytes).tables.beats (decode bytes) thread.state w

-- One of these events, from tables T on, gives thread n the result w: as that of its request, or it wakes n with it.
pub record AskedIn (L : Limits) (T : Tables) (es : Input) (n w : ℕ) : Type 0 where
  pub earlier : Input
  pub event : List ℕ
  pub later : Input
  pub among : es ≡ earlier ++ (event ∷ later)
  pub how : Answers L (run L T earlier) event n w ⊎ WokenBy L (run L T earlier) event n w

-- What an answer that is handed to thread n must come from. No answer needs no cause.
pub data Cause (L : Limits) (es : Input) (n : ℕ) : Answer → Type 0 where
  no_answer : Cause L es n Nothing
  a_message : {s w : ℕ} → Owed L es n (FromMessage s w) → Cause L es n (FromMessage s w)
  a_notice : {s c : ℕ} → Owed L es n (FromNotice s c) → Cause L es n (FromNotice s c)
  sender_gone : {m : ℕ} → Told L es n m → Cause L es n (SenderGone m)
  a_result : {w : ℕ} → Asked L es n w → Cause L es n (Result w)
