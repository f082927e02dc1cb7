-- The moves that events share, as one change after another.
use Rattle.std.proofs.Common.{◌≡◌, ℕ, ◌<◌, ◌≤◌, Bool, true, false, List, [], ◌∷◌, ◌++◌, length, sym, refl, ◌∙◌, arith}
use Rattle.rules.specs.Lists.{any, count}
use Rattle.laws.specs.Words.{Limits}
use Rattle.rules.specs.Tables.{Tables, with_runner, with_ready, in_state, named, live, of_thread, change}
use Rattle.rules.specs.States.{is_ready, receives}
use Rattle.rules.specs.Waking.{accepts, wake, stop}
use Rattle.laws.specs.Words.{State, Ready, Answer, Nothing, Thread, Message, NoRunner}
use Rattle.laws.proofs.Tests.{and_right}
use Rattle.laws.proofs.Tally.{any_member}
use Rattle.laws.specs.Types.{Inv}
use Rattle.laws.proofs.Places.{asleep}
use Rattle.laws.proofs.Room.{ready_room}
use Rattle.laws.proofs.Single.{any_place, of_at, of_none, accepts_at, accepts_none, wake_is, stop_is}
use Rattle.store.specs.Store.{limits, tables, Holding, Leaves}
use Rattle.handling.proofs.Leaving.{in_words, and_then, carried}

-- ---- a thread turned

module _ {m m₁ : List ℕ} (n : ℕ) (f : Thread → Thread) (turned : Leaves m m₁ (change n f (tables m))) where
  -- the ready queue is as it was
  pub turned_room : length (tables m).ready < (limits m).threads → Holding m₁ × (length (tables m₁).ready < (limits m₁).threads)
  unfolding change
  turned_room h = (turned.holding, carried (λ (L : Limits) (T : Tables). length T.ready < L.threads) turned h)

module _ {m m₁ m₂ : List ℕ} (n : ℕ) where
  -- it joins the ready queue
  pub woken : (a : Answer) → Leaves m m₁ (change n (in_state Ready a) (tables m)) →
      Leaves m₁ m₂ (with_ready ((tables m₁).ready ++ (n ∷ [])) (tables m₁)) → Leaves m m₂ (wake n a (tables m))
  unfolding change
  woken a turned joined =
      in_words (sym (wake_is n a (tables m))) (and_then (λ (T : Tables). with_ready (T.ready ++ (n ∷ [])) T) turned joined)

  -- nobody runs
  pub stopped : (s : State) → Leaves m m₁ (change n (in_state s Nothing) (tables m)) → Leaves m₁ m₂ (with_runner NoRunner (tables m₁)) →
      Leaves m m₂ (stop n s (tables m))
  stopped s turned done = in_words (sym (stop_is n s (tables m))) (and_then (with_runner NoRunner) turned done)

-- ---- a message

-- whether a message is awaited is what its receiver's state says; of a receiver that is not there it says no
pub awaited : (T : Tables) → ((n : ℕ) → count (named n) T.threads ≤ 1) → (x : Message) →
    of_thread false (λ t. receives x.from t.state) x.to T.threads ≡ any (accepts x) T.threads
awaited T once x = go (live x.to T) refl
  where
    go : (b : Bool) → live x.to T ≡ b →
        of_thread false (λ t. receives x.from t.state) x.to T.threads ≡ any (accepts x) T.threads
    go true e =
        let r = any_place (named x.to) T.threads e in
        of_at T once r.1 r.0 r.2 false (λ t. receives x.from t.state) x.to r.3
        ∙ sym (accepts_at T once r.1 r.0 r.2 x r.3)
    go false e = of_none T false (λ t. receives x.from t.state) x.to e ∙ sym (accepts_none T x e)

-- who is not ready has room in the ready queue
pub woken_room : {L : Limits} (T : Tables) → Inv L T → (p : Thread → Bool) → ((t : Thread) → p t ≡ true → is_ready t.state ≡ false) →
    any p T.threads ≡ true → length T.ready < L.threads
woken_room {L} T I p h e =
    let r = any_member p T.threads e in
    omega (arith, ready_room L T I r.0 r.1 (h r.0 r.2), I.few)

-- so has who waits for the message
pub awaited_room : {L : Limits} (T : Tables) → Inv L T → (x : Message) → any (accepts x) T.threads ≡ true →
    length T.ready < L.threads
unfolding receives
awaited_room T I x e = woken_room T I (accepts x) (λ t k. (asleep _ _ _ t.state (and_right (named x.to t) _ k)).1) e
