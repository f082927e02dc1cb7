-- Whatever is handed over.
use Rattle.std.specs.Prelude.{ℕ, ◌≤◌, ◌<◌, ◌+◌, List, [], ◌∷◌, ◌++◌, ◌≡◌, false, true, Bool, ◌⊎◌}
use Rattle.rules.specs.Numbers.{names}
use Rattle.laws.specs.Words.{Limits}
use Rattle.rules.specs.Tables.{start, live, Tables}
use Rattle.rules.specs.Step.{step}
use Rattle.rules.specs.Runs.{Input, run}
use Rattle.rules.specs.TableRules.{table_rules}
use Rattle.rules.specs.Lists.{any}
use Rattle.rules.specs.Events.{decode}
use Rattle.laws.specs.Words.{Result, Ready, Answer, Wanted, Runs, Receive, ByRunner, Anybody, Message}
use Rattle.laws.specs.Due.{ThereIs, Becomes, Until}
use Rattle.laws.specs.Handed.{Cause, Asked, AskedIn}
use Rattle.laws.specs.Inboxes.{Moves, inbox, wanted_from, Taken, Passes, of_sender, Discards}
use Rattle.laws.specs.Once.{queued_of, discarded_of, handed_of, waiting_of, discards}
use Rattle.laws.specs.Sent.{sent_of, delivered_of, dropped_of, open_of}
use Rattle.laws.proofs.Handed as handed
use Rattle.laws.proofs.Due as due
use Rattle.laws.proofs.Inboxes as inboxes
use Rattle.laws.proofs.Once as once
use Rattle.laws.proofs.Sent as sent

module _ (L : Limits) (some : 1 ≤ L.threads) (few : L.threads < names) where
  -- From a start, after any run: whatever answer the next decision hands over has its cause. A message or notice was sent to this thread in
  -- its present life; "sender gone" was told to one that received from the ended; a result is that of the thread's own request.
  pub whatever_is_handed : (es : Input) (e : List ℕ) →
      Cause L (es ++ (e ∷ [])) (step L (run L start es) e).decision.runner (step L (run L start es) e).decision.answer
  whatever_is_handed = handed.whatever_is_handed L some few

  -- Of results: the last event is the thread's own accepted request, and the word is the name given, 0, its own count, or the word that was
  -- held for the device and is held no more; or it woke by a beat while it waited for the clock, or by an interrupt of the device it waited
  -- for, and has been live and ready with that word since.
  pub result_was_asked : (es : Input) (e : List ℕ) (n w : ℕ) →
      (step L (run L start es) e).decision.runner ≡ n → (step L (run L start es) e).decision.answer ≡ Result w →
      Asked L (es ++ (e ∷ [])) n w
  result_was_asked = handed.result_was_asked L some few

  -- If at some time no thread had a name, a result of a later thread of that name came after that time; a newcomer has asked for nothing.
  pub no_late_result : (es fs : Input) (e : List ℕ) (n w : ℕ) → live n (run L start es) ≡ false →
      (step L (run L start (es ++ fs)) e).decision.runner ≡ n → (step L (run L start (es ++ fs)) e).decision.answer ≡ Result w →
      AskedIn L (run L start es) (fs ++ (e ∷ [])) n w
  no_late_result = handed.no_late_result L some few

  pub newcomer_has_asked_nothing : (es : Input) (e : List ℕ) (n w : ℕ) →
      live n (run L start es) ≡ false → Asked L (es ++ (e ∷ [])) n w → ⊥
  newcomer_has_asked_nothing = handed.newcomer_has_asked_nothing L some few

-- A ready thread keeps its answer, over any event and any run, until it runs and is handed exactly that, once, or ends.
pub answer_is_due : (L : Limits) (T : Tables) (bytes : List ℕ) (n : ℕ) (a : Answer) → L.threads < names → table_rules L T ≡ true →
    ThereIs T.threads n Ready a → Becomes L T bytes n a
answer_is_due = due.answer_is_due

pub due_until_run : (L : Limits) (T : Tables) (es : Input) (n : ℕ) (a : Answer) → L.threads < names → table_rules L T ≡ true →
    ThereIs T.threads n Ready a → Until L n a T es
due_until_run = due.due_until_run

-- An event leaves an inbox as it is, puts one message or notice at its end, takes one, or discards by an ending or by the decision 0.
pub inbox_moves : (L : Limits) (T : Tables) (bytes : List ℕ) (n : ℕ) → table_rules L T ≡ true → Moves L T bytes n
inbox_moves = inboxes.inbox_moves

-- An accepted receive takes the first in the inbox that is wanted, where there is one, and leaves the rest in order; for 255 that is the
-- first of all.
pub oldest_is_taken : (L : Limits) (T : Tables) (bytes : List ℕ) (n q : ℕ) (w : Wanted) → table_rules L T ≡ true →
    (step L T bytes).decision.refusal ≡ 0 →
    T.runner ≡ Runs n q → decode bytes ≡ ByRunner (Receive w) → any (wanted_from w) (inbox n T) ≡ true → Taken L T bytes n
oldest_is_taken = inboxes.oldest_is_taken

pub anybody_takes_the_first : (L : Limits) (T : Tables) (bytes : List ℕ) (n : ℕ) (X : Taken L T bytes n) → X.wanted ≡ Anybody →
    X.before ≡ []
anybody_takes_the_first = inboxes.anybody_takes_the_first

-- Over a run that discards nothing from an inbox, of each sender: what was there and then what came is what was taken and then what is
-- left, in that order.
pub first_in_first_out : (L : Limits) (n f : ℕ) (T : Tables) (es : Input) (ins outs : List Message) → Passes L n T es ins outs →
    of_sender f (inbox n T) ++ of_sender f ins ≡ of_sender f outs ++ of_sender f (inbox n (run L T es))
first_in_first_out = inboxes.first_in_first_out

-- Every run is such a run for an inbox, or has an ending or a decision 0 in it.
pub passes_or_discards : (L : Limits) (n : ℕ) → L.threads < names → (T : Tables) (es : Input) → table_rules L T ≡ true →
    ((ins : List Message) × (outs : List Message) × Passes L n T es ins outs) ⊎ Discards L T es
passes_or_discards = inboxes.passes_or_discards

-- From a start, over any run, with endings and decisions in it, for every test on messages: as many messages and notices as were queued
-- have been handed over from inboxes, have been discarded, or wait. So each is handed over once at most, and a discarded one never.
pub queued_leaves_once : (p : Message → Bool) (L : Limits) → 1 ≤ L.threads → L.threads < names → (es : Input) →
    queued_of p L start es ≡ handed_of p L start es + discarded_of p L start es + waiting_of p (run L start es)
queued_leaves_once = once.queued_leaves_once

-- The same from any ruled tables: what waits there counts as queued.
pub waiting_leaves_once : (p : Message → Bool) (L : Limits) → L.threads < names → (T : Tables) → table_rules L T ≡ true → (es : Input) →
    waiting_of p T + queued_of p L T es ≡ handed_of p L T es + discarded_of p L T es + waiting_of p (run L T es)
waiting_leaves_once = once.waiting_leaves_once

-- Of messages that an event discards, no more are handed over from then on than are queued from then on.
pub discarded_is_never_handed : (p : Message → Bool) (L : Limits) → L.threads < names → (T : Tables) → table_rules L T ≡ true →
    (e : List ℕ) → (step L T e).decision.refusal ≡ 0 → ((m : Message) → p m ≡ true → discards T (decode e) m ≡ true) → (es : Input) →
    handed_of p L T (e ∷ es) ≤ queued_of p L T (e ∷ es)
discarded_is_never_handed = once.discarded_is_never_handed

-- The same of all that is sent, and of all decisions: as many as were sent have been handed over by a decision, were discarded or due
-- to a thread that ended, wait in an inbox, or are due to a thread.
pub sent_is_handed_once : (p : Message → Bool) (L : Limits) → 1 ≤ L.threads → L.threads < names → (es : Input) →
    sent_of p L start es ≡ delivered_of p L start es + dropped_of p L start es + open_of p (run L start es)
sent_is_handed_once = sent.sent_is_handed_once

-- The same from any ruled tables: what waits or is due there counts as sent.
pub open_is_handed_once : (p : Message → Bool) (L : Limits) → L.threads < names → (T : Tables) → table_rules L T ≡ true → (es : Input) →
    open_of p T + sent_of p L T es ≡ delivered_of p L T es + dropped_of p L T es + open_of p (run L T es)
open_is_handed_once = sent.open_is_handed_once
