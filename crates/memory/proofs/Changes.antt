-- What a store into the memory changes of its rows: one entry, or what the head says, and nothing else.
use Rattle.std.proofs.Common.{if◌then◌else◌, ◌==◌}
use Prim.Native.Nat.{ℕ, ◌+◌, ◌≤◌, ◌<◌}
use mathlib.Core.Path.{◌≡◌, ap, ap₂, ◌∙◌}
use mathlib.Core.Logic.{⊎_elim, ◌⊎◌, inl, inr}
use mathlib.Core.List.{List}
use native.Mathlib.Omega.{arith}
use lib.ListN.{length, set, length-set}
use lib.Seq.{get_or-set_same, get_or-set_other}
use Rattle.rules.specs.Numbers.{devices}
use Rattle.laws.specs.Words.{Thread, Message, Held, Runner}
use Rattle.laws.proofs.Tests.{same?}
use Rattle.words.specs.Saying.{word, byte, runner_in, thread_in, message_in, held_in}
use Rattle.memory.specs.Layout.{thread_place, message_place, held_place, hints}
use Rattle.memory.specs.Rows.{Rows, put_runner, put_threads, put_ready, put_clock, put_messages, put_held, put_ended}
use Rattle.memory.specs.Memory.{row, part, thread_of, message_of, held_of, rows_of}
use Rattle.memory.proofs.Rowing.{Elsewhere, each_same, row_same, row_set, part_same, stored, widen, twice}

-- rows of which the head is told by words w
abbrev pub told : ℕ → (ℕ → ℕ) → List Thread → List ℕ → List ℕ → List Message → List Held → List ℕ → Rows
told n w ts rs cs ms hs es =
    record {
      room = n;
      limits = record { threads = w 0; blocks = w 1 };
      last = byte (w 2);
      runner = runner_in (w 3) (w 4);
      since = byte (w 5);
      beats = w 6;
      count = w 7;
      readies = w 8;
      clocks = w 9;
      letters = w 10;
      ends = w 11;
      threads = ts;
      ready = rs;
      clock = cs;
      messages = ms;
      held = hs;
      ended = es;
    }

-- rows whose head is told by words w, with these rows behind it
pub rows_told : (m : List ℕ) (n : ℕ) (w : ℕ → ℕ) (ts : List Thread) (rs cs : List ℕ) (ms : List Message) (hs : List Held) (es : List ℕ) →
    length m ≡ n → ((k : ℕ) → k < 12 → word m k ≡ w k) →
    (rows_of m).threads ≡ ts → (rows_of m).ready ≡ rs → (rows_of m).clock ≡ cs → (rows_of m).messages ≡ ms → (rows_of m).held ≡ hs →
    (rows_of m).ended ≡ es →
    rows_of m ≡ told n w ts rs cs ms hs es
unfolding rows_of
rows_told m n w ts rs cs ms hs es l h e₀ e₁ e₂ e₃ e₄ e₅ =
    λ ι. record {
      room = l ι;
      limits = record { threads = h 0 (omega arith) ι; blocks = h 1 (omega arith) ι };
      last = byte (h 2 (omega arith) ι);
      runner = runner_in (h 3 (omega arith) ι) (h 4 (omega arith) ι);
      since = byte (h 5 (omega arith) ι);
      beats = h 6 (omega arith) ι;
      count = h 7 (omega arith) ι;
      readies = h 8 (omega arith) ι;
      clocks = h 9 (omega arith) ι;
      letters = h 10 (omega arith) ι;
      ends = h 11 (omega arith) ι;
      threads = e₀ ι;
      ready = e₁ ι;
      clock = e₂ ι;
      messages = e₃ ι;
      held = e₄ ι;
      ended = e₅ ι;
    }

-- the rows of m under a head of words w
abbrev pub headed : List ℕ → (ℕ → ℕ) → Rows
headed m w =
    told (length m) w (rows_of m).threads (rows_of m).ready (rows_of m).clock (rows_of m).messages (rows_of m).held (rows_of m).ended

abbrev pub words : List ℕ → ℕ → ℕ
words m = λ j. word m j

abbrev pub put_word : ℕ → ℕ → (ℕ → ℕ) → ℕ → ℕ
put_word k v w = λ j. if j == k then v else w j

-- a word that lies outside
abbrev pub Out : ℕ → ℕ → ℕ → Type 0
Out a n k = a ≤ k → k < a + n → ⊥

-- a place in a queue: word c of each record
abbrev cell : ℕ → List ℕ → ℕ → ℕ
cell c m i = byte (word m (thread_place i + c))

abbrev queue : ℕ → List ℕ → List ℕ
queue c m = row (cell c m) 0 (word m 0)

-- ---- what stays where the words of it lie outside

module _ {a n : ℕ} {m m' : List ℕ} (E : Elsewhere a n m m') (b : 2 ≤ a) where
  limit_stays : word m' 0 ≡ word m 0
  limit_stays = E.same 0 (λ p q. omega arith)

  places_stay : word m' 0 + word m' 1 ≡ word m 0 + word m 1
  places_stay = omega (arith, limit_stays, E.same 1 (λ p q. omega arith))

  thread_stays : (j : ℕ) → ((k : ℕ) → k < 11 → Out a n (thread_place j + k)) → thread_of m' j ≡ thread_of m j
  thread_stays j o = ap thread_in (part_same m m' (thread_place j) 11 E.long (λ k h. E.same (thread_place j + k) (o k h)))

  threads_stay : ((j k : ℕ) → j < word m 0 → k < 11 → Out a n (thread_place j + k)) → (rows_of m').threads ≡ (rows_of m).threads
  unfolding rows_of
  threads_stay o = ap (row (thread_of m') 0) limit_stays
      ∙ row_same (thread_of m') (thread_of m) 0 (word m 0) (λ j h. thread_stays j (λ k. o j k (omega arith)))

  queue_stays : (c : ℕ) → ((j : ℕ) → j < word m 0 → Out a n (thread_place j + c)) → queue c m' ≡ queue c m
  queue_stays c o = ap (row (cell c m') 0) limit_stays
      ∙ row_same (cell c m') (cell c m) 0 (word m 0) (λ j h. ap byte (E.same (thread_place j + c) (o j (omega arith))))

  message_stays : (j : ℕ) → ((k : ℕ) → k < 3 → Out a n (message_place (word m 0) j + k)) → message_of m' j ≡ message_of m j
  message_stays j o =
      ap (λ (t : ℕ). message_in (part m' (message_place t j) 3)) limit_stays
      ∙ ap message_in (part_same m m' (message_place (word m 0) j) 3 E.long (λ k h. E.same (message_place (word m 0) j + k) (o k h)))

  messages_stay : ((j k : ℕ) → j < word m 0 + word m 1 → k < 3 → Out a n (message_place (word m 0) j + k)) →
      (rows_of m').messages ≡ (rows_of m).messages
  unfolding rows_of
  messages_stay o = ap (row (message_of m') 0) places_stay
      ∙ row_same (message_of m') (message_of m) 0 (word m 0 + word m 1) (λ j h. message_stays j (λ k. o j k (omega arith)))

  pub held_stays : (j : ℕ) → ((k : ℕ) → k < 2 → Out a n (held_place j + k)) → held_of m' j ≡ held_of m j
  held_stays j o = ap₂ (held_in j) (ap (λ (k : ℕ). word m' k) (omega arith) ∙ E.same (held_place j + 0) (o 0 (omega arith))
      ∙ ap (λ (k : ℕ). word m k) (omega arith)) (E.same (held_place j + 1) (o 1 (omega arith)))

  helds_stay : ((j k : ℕ) → j < devices → k < 2 → Out a n (held_place j + k)) → (rows_of m').held ≡ (rows_of m).held
  unfolding rows_of
  helds_stay o = each_same (held_of m') (held_of m) 0 devices (λ j p q. held_stays j (λ k. o j k (omega arith)))

  -- a place in a queue is written
  queue_set : (c i x : ℕ) → i < word m 0 → cell c m' i ≡ x → ((j : ℕ) → (j ≡ i → ⊥) → Out a n (thread_place j + c)) →
      queue c m' ≡ set (queue c m) i x
  queue_set c i x h e o = ap (row (cell c m') 0) limit_stays
      ∙ row_set (cell c m) (cell c m') (word m 0) i x h e (λ j l d. ap byte (E.same (thread_place j + c) (o j d)))

  -- all rows behind the head stay
  pub rows_stay : (w : ℕ → ℕ) → ((k : ℕ) → k < 12 → word m' k ≡ w k) → ((k : ℕ) → 16 ≤ k → (k < hints ⊎ (thread_place 0 ≤ k)) → Out a n k) →
      rows_of m' ≡ headed m w
  unfolding rows_of
  rows_stay w h o =
      rows_told m' (length m) w _ _ _ _ _ _
      E.long
      h
      (threads_stay (λ j k l x. o (thread_place j + k) (omega arith) (inr (omega arith))))
      (queue_stays 12 (λ j l. o (thread_place j + 12) (omega arith) (inr (omega arith))))
      (queue_stays 13 (λ j l. o (thread_place j + 13) (omega arith) (inr (omega arith))))
      (messages_stay (λ j k l x. o (message_place (word m 0) j + k) (omega arith) (inr (omega arith))))
      (helds_stay (λ j k l x. o (held_place j + k) (omega arith) (inl (omega arith))))
      (queue_stays 14 (λ j l. o (thread_place j + 14) (omega arith) (inr (omega arith))))

-- ---- the head

-- the words after a store
pub word_after : (m : List ℕ) (k v : ℕ) → k < length m → (j : ℕ) → word (set m k v) j ≡ put_word k v (words m) j
word_after m k v h j =
    ⊎_elim (λ e. rw (e.1, e.0) (get_or-set_same m k v 0 h)) (λ d. rw d.1 (get_or-set_other m k j v 0 d.0)) (same? j k)

pub after_store : (m : List ℕ) (k v : ℕ) → k < length m → words (set m k v) ≡ put_word k v (words m)
after_store m k v h = λ ι j. word_after m k v h j ι

-- words of the head are written
pub heads : (m m' : List ℕ) (w : ℕ → ℕ) → Elsewhere 2 14 m m' → words m' ≡ w → rows_of m' ≡ headed m w
heads m m' w E e = rows_stay E (omega arith) w (λ k h ι. e ι k) (λ k p s q r. omega arith)

-- a word of it
pub head_put : (m : List ℕ) (k v : ℕ) → 2 ≤ k → k < 16 → 16 ≤ length m → rows_of (set m k v) ≡ headed m (put_word k v (words m))
head_put m k v p q h = heads m (set m k v) _ (widen 2 14 (stored m k v) (omega arith) (omega arith)) (after_store m k v (omega arith))

-- the runner's two
pub runner_put : (m : List ℕ) (n s : ℕ) (r : Runner) → 16 ≤ length m → runner_in n s ≡ r →
    rows_of (set (set m 3 n) 4 s) ≡ put_runner r (rows_of m)
unfolding rows_of
runner_put m n s r h e =
    heads m (set (set m 3 n) 4 s) (put_word 4 s (put_word 3 n (words m)))
    (twice (widen 2 14 (stored m 3 n) (omega arith) (omega arith)) (widen 2 14 (stored (set m 3 n) 4 s) (omega arith) (omega arith)))
    (after_store (set m 3 n) 4 s (omega (arith, length-set m 3 n)) ∙ ap (put_word 4 s) (after_store m 3 n (omega arith)))
    ∙ ap (λ (x : Runner). put_runner x (rows_of m)) e

-- hints say nothing
pub hint_put : (m : List ℕ) (k v : ℕ) → hints ≤ k → k < thread_place 0 → rows_of (set m k v) ≡ rows_of m
unfolding rows_of
hint_put m k v p q = rows_stay (stored m k v) (omega arith) (words m) (λ j h. (stored m k v).same j (λ r s. omega arith))
    (λ j h s r t. ⊎_elim (λ x. omega arith) (λ x. omega arith) s)

-- ---- an entry

module _ (m m' : List ℕ) (i : ℕ) where
  pub thread_put : (t : Thread) → i < word m 0 → Elsewhere (thread_place i) 12 m m' → thread_of m' i ≡ t →
      rows_of m' ≡ put_threads (set (rows_of m).threads i t) (rows_of m)
  unfolding rows_of
  thread_put t h E e =
      let b : 2 ≤ thread_place i = omega arith in
      rows_told m' (length m) (words m) _ _ _ _ _ _
      E.long
      (λ k l. E.same k (λ p q. omega arith))
      (ap (row (thread_of m') 0) (limit_stays E b)
      ∙ row_set (thread_of m) (thread_of m') (word m 0) i t h e (λ j l d. thread_stays E b j (λ k x p q. d (omega arith))))
      (queue_stays E b 12 (λ j l p q. omega arith))
      (queue_stays E b 13 (λ j l p q. omega arith))
      (messages_stay E b (λ j k l x p q. omega arith))
      (helds_stay E b (λ j k l x p q. omega arith))
      (queue_stays E b 14 (λ j l p q. omega arith))

  pub message_put : (x : Message) → i < word m 0 + word m 1 → Elsewhere (message_place (word m 0) i) 4 m m' →
      message_in (part m' (message_place (word m 0) i) 3) ≡ x → rows_of m' ≡ put_messages (set (rows_of m).messages i x) (rows_of m)
  unfolding rows_of
  message_put x h E e =
      let b : 2 ≤ message_place (word m 0) i = omega arith in
      rows_told m' (length m) (words m) _ _ _ _ _ _
      E.long
      (λ k l. E.same k (λ p q. omega arith))
      (threads_stay E b (λ j k l x p q. omega arith))
      (queue_stays E b 12 (λ j l p q. omega arith))
      (queue_stays E b 13 (λ j l p q. omega arith))
      (ap (row (message_of m') 0) (places_stay E b)
      ∙ row_set (message_of m) (message_of m') (word m 0 + word m 1) i x h
      (ap (λ (t : ℕ). message_in (part m' (message_place t i) 3)) (limit_stays E b) ∙ e)
      (λ j l d. message_stays E b j (λ k x p q. d (omega arith))))
      (helds_stay E b (λ j k l x p q. omega arith))
      (queue_stays E b 14 (λ j l p q. omega arith))

-- words of held words are written
pub held_put : (m m' : List ℕ) (hs : List Held) → Elsewhere 16 96 m m' → (rows_of m').held ≡ hs → rows_of m' ≡ put_held hs (rows_of m)
unfolding rows_of
held_put m m' hs E e =
    let b : 2 ≤ 16 = omega arith in
    rows_told m' (length m) (words m) _ _ _ _ _ _
    E.long
    (λ k l. E.same k (λ p q. omega arith))
    (threads_stay E b (λ j k l x p q. omega arith))
    (queue_stays E b 12 (λ j l p q. omega arith))
    (queue_stays E b 13 (λ j l p q. omega arith))
    (messages_stay E b (λ j k l x p q. omega arith))
    e
    (queue_stays E b 14 (λ j l p q. omega arith))

-- a place in a queue: word c of record i is written, and says n
module _ (m : List ℕ) (i c x n : ℕ) (h : i < word m 0) (room : thread_place i + 16 ≤ length m) (says : byte x ≡ n) (p : 12 ≤ c) (q : c < 16)
  where
    abbrev m' : List ℕ
    m' = set m (thread_place i + c) x

    -- queue d afterwards
    abbrev pick : ℕ → List ℕ
    pick d = if d == c then set (queue d m) i n else queue d m

    written : cell c m' i ≡ n
    written = ap byte (get_or-set_same m (thread_place i + c) x 0 (omega arith)) ∙ says

    picked : (d : ℕ) → 12 ≤ d → d < 16 → queue d m' ≡ pick d
    picked d r s =
        let E = stored m (thread_place i + c) x in
        let b : 2 ≤ thread_place i + c = omega arith in
        ⊎_elim (λ e. rw (e.1, e.0) (queue_set E b c i n h written (λ j k y z. k (omega arith))))
        (λ k. rw k.1 (queue_stays E b d (λ j l y z. k.0 (omega arith)))) (same? d c)

    pub queue_put : rows_of m' ≡ put_ready (pick 12) (put_clock (pick 13) (put_ended (pick 14) (rows_of m)))
    unfolding rows_of
    queue_put =
        let E = stored m (thread_place i + c) x in
        let b : 2 ≤ thread_place i + c = omega arith in
        rows_told m' (length m) (words m) _ _ _ _ _ _
        E.long
        (λ k l. E.same k (λ y z. omega arith))
        (threads_stay E b (λ j k l x y z. omega arith))
        (picked 12 (omega arith) (omega arith))
        (picked 13 (omega arith) (omega arith))
        (messages_stay E b (λ j k l x y z. omega arith))
        (helds_stay E b (λ j k l x y z. omega arith))
        (picked 14 (omega arith) (omega arith))
