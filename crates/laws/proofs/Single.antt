-- One thread by its place: the rules change all threads that pass a test, and where one at most passes, that is the thread at its place.
use Rattle.std.proofs.Common.{if◌then◌else◌}
use Prim.Native.Nat.{ℕ, zero, suc, ◌+◌, ◌-◌, ◌≤◌, ◌<◌}
use mathlib.Core.Path.{◌≡◌, refl, sym, ap, ap₂, ◌∙◌}
use mathlib.Core.Logic.{◌≢◌}
use mathlib.Core.Bool.{Bool, true, false, ◌&&◌, ◌||◌, not}
use mathlib.Core.List.{List, [], ◌∷◌, ◌++◌, map, Memᴰ}
use native.Mathlib.Omega.{arith}
use lib.ListN.{length, get_or, set}
use borrow.Author.Tests.{eqb-true, eq-eqb, ne_eqb}
use Rattle.rules.specs.Lists.{one_if, any, keep, count}
use Rattle.rules.specs.Numbers.{full_slice, beat_ticks}
use Rattle.rules.specs.Tables.{Tables, with_runner, with_time, with_threads, with_ready, with_clock, with_messages, with_held, in_state}
use Rattle.rules.specs.Tables.{with_ticks, named, live, of_thread, change}
use Rattle.rules.specs.States.{on_clock, receives, waits_for, awaits}
use Rattle.rules.specs.Waking.{Outcome, ◌handing◌, wake_those, wake_by_name, wake, notice_of, handed, accepts, queue, deliver, stop}
use Rattle.rules.specs.Send.{decides, decide}
use Rattle.rules.specs.Interrupt.{hold, interrupt}
use Rattle.rules.specs.Tick.{one_more, charge, beat, rotate}
use Rattle.rules.specs.Dispatch.{run_next, dispatch}
use Rattle.laws.specs.Words.{State, Running, Ready, Answer, Nothing, Result, Thread, Message, NoRunner, Runs}
use Rattle.laws.proofs.Tests.{and_left, or_false}
use Rattle.laws.proofs.Tally.{count_less, keep_none, any_count, zero_any, any_member, member_any, not_any, none_any, map_same}

-- ---- general

or_none : (b : Bool) → (b || false) ≡ b
or_none true = refl
or_none false = refl

module _ {A : Type 0} where
  pub getD_member : (l : List A) (i : ℕ) (d : A) → i < length l → Memᴰ (get_or l i d) l
  getD_member [] i d h = absurd (omega arith)
  getD_member (x ∷ l) zero d h = Memᴰ.head refl
  getD_member (x ∷ l) (suc i) d h = Memᴰ.tail (getD_member l i d (omega arith))

  pub member_place : (l : List A) (x d : A) → Memᴰ x l → (i : ℕ) × (i < length l) × (get_or l i d ≡ x)
  member_place [] x d x3 = elim x3 [ ]
  member_place (y ∷ l) x d (Memᴰ.head e) = (0, omega arith, sym e)
  member_place (y ∷ l) x d (Memᴰ.tail m) = let r = member_place l x d m in let h = r.1 in (suc r.0, omega arith, r.2)

  -- where one passes at most and a later one passes, the first does not
  pub first_fails : (p : A → Bool) (x : A) (l : List A) (i : ℕ) (d : A) → count p (x ∷ l) ≤ 1 → i < length l → p (get_or l i d) ≡ true →
      p x ≡ false
  unfolding count
  first_fails p x l i d c h e = go (p x) c (any_count p l (member_any p l (get_or l i d) (getD_member l i d h) e))
    where
      go : (b : Bool) → one_if b + count p l ≤ 1 → 1 ≤ count p l → b ≡ false
      go true k j = absurd (omega arith)
      go false k j = refl

  pub rest_once : (p : A → Bool) (x : A) (l : List A) → count p (x ∷ l) ≤ 1 → count p l ≤ 1
  unfolding count
  rest_once p x l c = omega arith

  -- where one passes at most and the first does, no other passes
  pub rest_none : (p : A → Bool) (x : A) (l : List A) → count p (x ∷ l) ≤ 1 → p x ≡ true → count p l ≡ 0
  unfolding count
  rest_none p x l c e = omega (arith, ap one_if e)

  -- a change of those that pass changes nothing where none passes
  pub map_none : (p : A → Bool) (f : A → A) (l : List A) → any p l ≡ false → map (λ y. if p y then f y else y) l ≡ l
  map_none p f l h = map_same (λ y. if p y then f y else y) l (λ y m. rw (not_any p l y h m))

  -- it is a change at the place of the only one that passes
  pub map_one : (p : A → Bool) (f : A → A) (l : List A) (i : ℕ) (d : A) → count p l ≤ 1 → i < length l → p (get_or l i d) ≡ true →
      map (λ y. if p y then f y else y) l ≡ set l i (f (get_or l i d))
  map_one p f [] i d c h e = absurd (omega arith)
  map_one p f (x ∷ l) zero d c h e = rw e (ap (λ (r : List A). f x ∷ r) (map_none p f l (zero_any p l (rest_none p x l c e))))
  map_one p f (x ∷ l) (suc i) d c h e =
      rw (first_fails p x l i d c (omega arith) e) (ap (λ (r : List A). x ∷ r) (map_one p f l i d (rest_once p x l c) (omega arith) e))

  -- those that pass are the only one that does
  pub keep_one : (p : A → Bool) (l : List A) (i : ℕ) (d : A) → count p l ≤ 1 → i < length l → p (get_or l i d) ≡ true → keep p l ≡ get_or l i d
      ∷ []
  unfolding keep
  keep_one p [] i d c h e = absurd (omega arith)
  keep_one p (x ∷ l) zero d c h e = rw e (ap (λ (r : List A). x ∷ r) (keep_none p l (rest_none p x l c e)))
  keep_one p (x ∷ l) (suc i) d c h e = rw (first_fails p x l i d c (omega arith) e) (keep_one p l i d (rest_once p x l c) (omega arith) e)

  -- none passes p and q where none passes p
  pub any_neither : (p q : A → Bool) (l : List A) → any p l ≡ false → any (λ y. p y && q y) l ≡ false
  any_neither p q l h = none_any (λ y. p y && q y) l (λ y m. rw (not_any p l y h m))

  -- whether any passes p and q, where one at most passes p
  pub any_one : (p q : A → Bool) (l : List A) (i : ℕ) (d : A) → count p l ≤ 1 → i < length l → p (get_or l i d) ≡ true →
      any (λ y. p y && q y) l ≡ q (get_or l i d)
  unfolding any
  any_one p q [] i d c h e = absurd (omega arith)
  any_one p q (x ∷ l) zero d c h e = rw (e, any_neither p q l (zero_any p l (rest_none p x l c e))) (or_none (q x))
  any_one p q (x ∷ l) (suc i) d c h e = rw (first_fails p x l i d c (omega arith) e) (any_one p q l i d (rest_once p x l c) (omega arith) e)

  -- where some one passes there is a place of one that does
  pub any_place : (p : A → Bool) (l : List A) → any p l ≡ true → (d : A) × (i : ℕ) × (i < length l) × (p (get_or l i d) ≡ true)
  any_place p l h = let r = any_member p l h in let s = member_place l r.0 r.0 r.1 in (r.0, s.0, s.1, ap p s.2 ∙ r.2)

-- ---- no thread of the name

module _ (T : Tables) where
  -- A change of a name that no thread has changes nothing.
  pub change_none : (n : ℕ) (f : Thread → Thread) → live n T ≡ false → change n f T ≡ T
  unfolding change
  change_none n f h = ap (λ (l : List Thread). with_threads l T) (map_none (named n) f T.threads h)

  -- Of a name that no thread has, a look-up gives the other value.
  pub of_none : {A : Type 0} (other : A) (f : Thread → A) (n : ℕ) → live n T ≡ false → of_thread other f n T.threads ≡ other
  unfolding any of_thread
  of_none other f n h = go T.threads h
    where
      go : (l : List Thread) → any (named n) l ≡ false → of_thread other f n l ≡ other
      go [] e = refl
      go (t ∷ l) e = let r = or_false (named n t) _ e in rw r.0 (go l r.1)

  -- No thread accepts a message to a name that none has.
  pub accepts_none : (m : Message) → live m.to T ≡ false → any (accepts m) T.threads ≡ false
  accepts_none m h = any_neither (named m.to) (λ t. receives m.from t.state) T.threads h

  -- Nobody decides about a name that no thread has.
  pub decides_none : (me to : ℕ) → live to T ≡ false → decides me to T ≡ false
  decides_none me to h = any_neither (named to) (awaits me) T.threads h

  -- A message that no thread accepts joins an inbox.
  pub deliver_queues : (m : Message) → any (accepts m) T.threads ≡ false → deliver m T ≡ queue m T
  unfolding deliver
  deliver_queues m h = rw h

  -- A word of a device that no thread waits for is held.
  pub interrupt_holds : (d w : ℕ) → any (waits_for d) T.threads ≡ false → interrupt d w T ≡ with_held (hold d w T.held) T
  unfolding interrupt
  interrupt_holds d w h = rw h

-- ---- the thread at a place

module _ (T : Tables) (once : (n : ℕ) → count (named n) T.threads ≤ 1) (i : ℕ) (z : Thread) (inside : i < length T.threads) where
  -- A change of the thread of a name is a change at its place.
  pub change_at : (n : ℕ) (f : Thread → Thread) → named n (get_or T.threads i z) ≡ true →
      change n f T ≡ with_threads (set T.threads i (f (get_or T.threads i z))) T
  unfolding change
  change_at n f e = ap (λ (l : List Thread). with_threads l T) (map_one (named n) f T.threads i z (once n) inside e)

  -- Of its name, a look-up gives what the thread at the place says.
  pub of_at : {A : Type 0} (other : A) (f : Thread → A) (n : ℕ) → named n (get_or T.threads i z) ≡ true →
      of_thread other f n T.threads ≡ f (get_or T.threads i z)
  unfolding of_thread
  of_at other f n e = go T.threads i (once n) inside e
    where
      go : (l : List Thread) (j : ℕ) → count (named n) l ≤ 1 → j < length l → named n (get_or l j z) ≡ true →
          of_thread other f n l ≡ f (get_or l j z)
      go [] j c h k = absurd (omega arith)
      go (t ∷ l) zero c h k = rw k
      go (t ∷ l) (suc j) c h k = rw (first_fails (named n) t l j z c (omega arith) k) (go l j (rest_once (named n) t l c) (omega arith) k)

  -- To wake those that pass, where the thread at the place alone does, is to wake its name.
  pub wake_one : (p : Thread → Bool) (a : Answer) → count p T.threads ≤ 1 → p (get_or T.threads i z) ≡ true →
      wake_by_name p (λ t. a) T ≡ wake (get_or T.threads i z).name a T
  unfolding wake_those
  wake_one p a c e =
      ap₂ (λ (ns : List ℕ) (l : List Thread). with_ready (T.ready ++ ns) (with_threads l T))
      (ap (map (λ t. t.name)) (keep_one p T.threads i z c inside e))
      (map_one p (in_state Ready a) T.threads i z c inside e
      ∙ sym (map_one (named x_name) (in_state Ready a) T.threads i z (once x_name) inside (eq-eqb x_name x_name refl)))
    where
      x_name : ℕ
      x_name = (get_or T.threads i z).name

  -- Whether a message is accepted is whether the thread of its receiver's name receives from its sender.
  pub accepts_at : (m : Message) → named m.to (get_or T.threads i z) ≡ true →
      any (accepts m) T.threads ≡ receives m.from (get_or T.threads i z).state
  accepts_at m e = any_one (named m.to) (λ t. receives m.from t.state) T.threads i z (once m.to) inside e

  -- Whether a word is a decision is whether the thread of that name is trapped on the sender.
  pub decides_at : (me to : ℕ) → named to (get_or T.threads i z) ≡ true → decides me to T ≡ awaits me (get_or T.threads i z)
  decides_at me to e = any_one (named to) (awaits me) T.threads i z (once to) inside e

  -- A word of a device goes to its waiter.
  pub interrupt_wakes : (d w : ℕ) → count (waits_for d) T.threads ≤ 1 → waits_for d (get_or T.threads i z) ≡ true →
      interrupt d w T ≡ wake (get_or T.threads i z).name (Result w) T
  unfolding interrupt
  interrupt_wakes d w c e =
      rw (member_any (waits_for d) T.threads (get_or T.threads i z) (getD_member T.threads i z inside) e)
      (wake_one (waits_for d) (Result w) c e)

-- ---- the thread of a name

module _ (T : Tables) (once : (n : ℕ) → count (named n) T.threads ≤ 1) where
  -- To wake those of a name that pass a test, where some one does, is to wake the name.
  pub wake_named : (n : ℕ) (q : Thread → Bool) (a : Answer) → any (λ t. named n t && q t) T.threads ≡ true →
      wake_by_name (λ t. named n t && q t) (λ t. a) T ≡ wake n a T
  wake_named n q a h =
      let r = any_place (λ t. named n t && q t) T.threads h in
      let e : n ≡ (get_or T.threads r.1 r.0).name = eqb-true _ _ (and_left (named n (get_or T.threads r.1 r.0)) _ r.3) in
      wake_one T once r.1 r.0 r.2 (λ t. named n t && q t) a few r.3 ∙ ap (λ (k : ℕ). wake k a T) (sym e)
    where
      few : count (λ t. named n t && q t) T.threads ≤ 1
      few = omega (arith, once n, count_less (λ t. named n t && q t) (named n) T.threads (λ t e. and_left (named n t) (q t) e))

  -- A message that is accepted wakes the receiver.
  pub deliver_wakes : (m : Message) → any (accepts m) T.threads ≡ true → deliver m T ≡ wake m.to (handed m) T
  unfolding deliver
  deliver_wakes m h = rw h (wake_named m.to (λ t. receives m.from t.state) (handed m) h)

-- The decision 0 wakes the trapped thread and discards its notice.
pub decide_continues : (T : Tables) → ((n : ℕ) → count (named n) T.threads ≤ 1) → (me to : ℕ) → decides me to T ≡ true →
    decide me to 0 T ≡ wake to Nothing (with_messages (keep (λ m. not (notice_of to m)) T.messages) T)
unfolding decide
decide_continues T once me to h =
    wake_named (with_messages (keep (λ m. not (notice_of to m)) T.messages) T) once to (awaits me) Nothing h

-- ---- moves, opened

-- To wake a name is to change its thread and to put the name at the tail.
pub wake_is : (n : ℕ) (a : Answer) (T : Tables) → wake n a T ≡ with_ready (T.ready ++ (n ∷ [])) (change n (in_state Ready a) T)
unfolding wake_those change
wake_is n a T = refl

-- To stop the runner is to change its thread and to leave nobody running.
pub stop_is : (me : ℕ) (s : State) (T : Tables) → stop me s T ≡ with_runner NoRunner (change me (in_state s Nothing) T)
unfolding stop
stop_is me s T = refl

-- ---- a tick, by its cases

module _ (T : Tables) where
  -- A tick is charged to the runner.
  pub charge_at : (n s : ℕ) → T.runner ≡ Runs n s →
      charge T ≡ with_runner (Runs n (s - 1)) (change n (λ t. with_ticks (one_more t.ticks) t) T)
  unfolding charge
  charge_at n s e = rw e

  -- With no runner it is charged to nobody.
  pub charge_none : T.runner ≡ NoRunner → charge T ≡ T
  unfolding charge
  charge_none e = rw e

  -- The twentieth tick is a beat.
  pub beat_strikes : T.since + 1 ≡ beat_ticks →
      beat T ≡ wake_those (λ t. on_clock t.state) (λ t. Result (one_more T.beats)) T.clock
      (with_clock [] (with_time 0 (one_more T.beats) T))
  unfolding beat
  beat_strikes e = rw (eq-eqb (T.since + 1) beat_ticks e)

  -- Another tick only counts.
  pub beat_passes : T.since + 1 ≢ beat_ticks → beat T ≡ with_time (T.since + 1) T.beats T
  unfolding beat
  beat_passes d = rw (ne_eqb (T.since + 1) beat_ticks d)

  -- A used-up slice sends the runner to the tail.
  pub rotate_turns : (n : ℕ) → T.runner ≡ Runs n 0 → rotate T ≡ with_runner NoRunner (wake n Nothing T)
  unfolding rotate
  rotate_turns n e = rw e

  -- A slice that is not used up leaves the runner.
  pub rotate_stays : (n s : ℕ) → T.runner ≡ Runs n s → 1 ≤ s → rotate T ≡ T
  unfolding rotate
  rotate_stays n s e h = rw (e, ne_eqb s 0 (λ k. omega (arith, k)))

  -- With no runner nobody goes to the tail.
  pub rotate_none : T.runner ≡ NoRunner → rotate T ≡ T
  unfolding rotate
  rotate_none e = rw e

-- ---- dispatch, by its cases

module _ (o : Outcome) where
  -- A runner goes on.
  pub dispatch_stays : (n s : ℕ) → o.tables.runner ≡ Runs n s → dispatch o ≡ o
  unfolding dispatch
  dispatch_stays n s e = rw e

  -- With no runner and nobody ready, nobody runs.
  pub dispatch_empty : o.tables.runner ≡ NoRunner → o.tables.ready ≡ [] → dispatch o ≡ o
  unfolding dispatch run_next
  dispatch_empty e q = rw (e, q)

  -- With no runner the front of the ready queue runs, and its answer is handed over.
  pub dispatch_front : (n : ℕ) (ns : List ℕ) → o.tables.runner ≡ NoRunner → o.tables.ready ≡ n ∷ ns →
      dispatch o ≡ (with_runner (Runs n full_slice) (with_ready ns (change n (in_state Running Nothing) o.tables))
      handing of_thread Nothing (λ t. t.answer) n o.tables.threads)
  unfolding dispatch run_next
  dispatch_front n ns e q = rw (e, q)
