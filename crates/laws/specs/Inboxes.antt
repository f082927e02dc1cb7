-- The inbox of a thread, and what an event does to it.
use Rattle.std.specs.Prelude.{ℕ, ◌≡◌, Bool, true, false, ◌||◌, not, List, [], ◌∷◌, ◌++◌, ◌==◌}
use Rattle.rules.specs.Lists.{any, has, keep}
use Rattle.laws.specs.Words.{Limits}
use Rattle.laws.specs.Words.{Wanted, Message, Runs, Send, Receive, ByRunner}
use Rattle.rules.specs.Tables.{Tables}
use Rattle.rules.specs.States.{matches}
use Rattle.rules.specs.Waking.{notice_of, handed}
use Rattle.rules.specs.Ending.{ended_set, end}
use Rattle.rules.specs.Send.{decides}
use Rattle.rules.specs.Events.{decode}
use Rattle.rules.specs.Step.{act, step}
use Rattle.rules.specs.Runs.{Input}
use Rattle.laws.specs.Late.{Sends}

-- the messages and notices that wait for thread n, oldest first
abbrev pub addressed : ℕ → Message → Bool
addressed n m = m.to == n

abbrev pub inbox : ℕ → Tables → List Message
inbox n T = keep (addressed n) T.messages

-- would a receive that wants w take this one?
abbrev pub wanted_from : Wanted → Message → Bool
wanted_from w m = matches m.from w

-- The event is a receive of the runner n. It takes the oldest in the inbox that is wanted, `oldest`: none before it is wanted. The
-- others stay, in their order, and n goes on and is handed the one that was taken.
pub record Taken (L : Limits) (T : Tables) (bytes : List ℕ) (n : ℕ) : Type 0 where
  pub wanted : Wanted
  pub slice : ℕ
  pub before : List Message
  pub oldest : Message
  pub after : List Message
  pub event : decode bytes ≡ ByRunner (Receive wanted)
  pub runner : T.runner ≡ Runs n slice
  pub was : inbox n T ≡ before ++ (oldest ∷ after)
  pub none : any (wanted_from wanted) before ≡ false
  pub fits : wanted_from wanted oldest ≡ true
  pub left : inbox n (step L T bytes).tables ≡ before ++ after
  pub runs : (step L T bytes).decision.runner ≡ n
  pub answer : (step L T bytes).decision.answer ≡ handed oldest

-- What the event with these bytes does to the inbox of thread n in tables T.
-- A message or notice that is sent to n joins its end. A receive of n takes the first that it wants, and n is handed this one.
-- An ending discards what is to or from the ended, a decision the notice of the thread that it is about.
pub data Moves (L : Limits) (T : Tables) (bytes : List ℕ) (n : ℕ) : Type 0 where
  unchanged : inbox n (step L T bytes).tables ≡ inbox n T → Moves L T bytes n
  joined : (m : Message) → Sends L T bytes n (handed m) → inbox n (step L T bytes).tables ≡ inbox n T ++ (m ∷ []) → Moves L T bytes n
  taken : Taken L T bytes n → Moves L T bytes n
  discarded : (x : ℕ) → (act T (decode bytes)).tables ≡ end x T →
      inbox n (step L T bytes).tables ≡ keep
      (λ m. not (has m.to (ended_set T.threads x) || has m.from (ended_set T.threads x))) (inbox n T) →
      Moves L T bytes n
  decision : (s q x : ℕ) → T.runner ≡ Runs s q → decode bytes ≡ ByRunner (Send x 0) → decides s x T ≡ true →
      inbox n (step L T bytes).tables ≡ keep (λ m. not (notice_of x m)) (inbox n T) →
      Moves L T bytes n

-- Along these events, from tables T on, nothing is discarded from the inbox of thread n: the messages and notices `ins` join it, in
-- this order, and `outs` are taken from it and handed to n, in this order.
pub data Passes (L : Limits) (n : ℕ) : Tables → Input → List Message → List Message → Type 0 where
  over : (T : Tables) → Passes L n T [] [] []
  stays : (T : Tables) (e : List ℕ) (es : Input) {ins outs : List Message} →
      inbox n (step L T e).tables ≡ inbox n T → Passes L n (step L T e).tables es ins outs → Passes L n T (e ∷ es) ins outs
  comes : (T : Tables) (e : List ℕ) (es : Input) {ins outs : List Message} (m : Message) → Sends L T e n (handed m) →
      inbox n (step L T e).tables ≡ inbox n T ++ (m ∷ []) → Passes L n (step L T e).tables es ins outs →
      Passes L n T (e ∷ es) (m ∷ ins) outs
  goes : (T : Tables) (e : List ℕ) (es : Input) {ins outs : List Message} (X : Taken L T e n) →
      Passes L n (step L T e).tables es ins outs → Passes L n T (e ∷ es) ins (X.oldest ∷ outs)

-- One of these events ends threads, or is a decision that continues one: these alone discard.
pub data Discards (L : Limits) : Tables → Input → Type 0 where
  by_ending : (T : Tables) (e : List ℕ) (es : Input) (x : ℕ) → (act T (decode e)).tables ≡ end x T → Discards L T (e ∷ es)
  by_decision : (T : Tables) (e : List ℕ) (es : Input) (s q x : ℕ) → T.runner ≡ Runs s q → decode e ≡ ByRunner (Send x 0) →
      decides s x T ≡ true → Discards L T (e ∷ es)
  later : (T : Tables) (e : List ℕ) (es : Input) → Discards L (step L T e).tables es → Discards L T (e ∷ es)

abbrev pub of_sender : ℕ → List Message → List Message
of_sender f ms = keep (λ m. m.from == f) ms
