-- Room in queues, messages and held words: how long each is at most, and where one more has room.
use Rattle.std.proofs.Common.{◌==◌}
use Prim.Native.Nat.{ℕ, suc, ◌+◌, ◌≤◌, ◌<◌}
use mathlib.Core.Path.{◌≡◌, refl, sym, ap, ◌∙◌}
use mathlib.Core.Logic.{⊎_elim}
use mathlib.Core.Bool.{Bool, true, false, ◌&&◌, not, false≢true}
use mathlib.Core.List.{List, [], ◌∷◌, map, Memᴰ}
use native.Mathlib.Omega.{arith}
use lib.Dec.{ltb}
use lib.ListN.{length, length-map}
use borrow.Author.Tests.{eqb-true, eqb-false}
use Rattle.rules.specs.Lists.{one_if, any, keep, count, insert, times_in}
use Rattle.rules.specs.Numbers.{devices}
use Rattle.laws.specs.Words.{Limits}
use Rattle.rules.specs.Tables.{Tables, named, live, runs, runs_as}
use Rattle.rules.specs.States.{is_running, is_ready, on_clock, awaits, trapped_on}
use Rattle.rules.specs.Waking.{is_ordinary, blocks_used, notice_of}
use Rattle.rules.specs.Interrupt.{held_for}
use Rattle.laws.specs.Words.{State, Running, Ready, Receiving, Clock, Device, Trapped, Thread, Message, Held, Runner, NoRunner, Runs}
use Rattle.laws.specs.Types.{here, Inv, Good, Fits}
use Rattle.laws.proofs.Tests.{same?, same_turned, and_left, and_right, not_true}
use Rattle.laws.proofs.Tally.{count_cons, count_map, count_add, count_add_le, count_same, count_keep, count_strict, count_insert}
use Rattle.laws.proofs.Tally.{length_count, any_count, count_any, any_member, member_any, not_any, none_any, none_count, length_keep}
use Rattle.laws.proofs.Members.{mem_insert}
use Rattle.laws.proofs.Ordered.{up_insert, up_few}
use Rattle.laws.proofs.Queues.{no_longer}
use Rattle.laws.proofs.Threads.{times_kept}
use Rattle.laws.proofs.Places.{runs_self, asleep}
use Rattle.laws.proofs.DumpLength.{messages_few}

-- ---- general

length_insert : {A : Type 0} (p : A → Bool) (a : A) (xs : List A) → length (insert p a xs) ≡ suc (length xs)
length_insert p a xs = omega (arith, length_count (insert p a xs), count_insert (λ x. true) p a xs, length_count xs)

not_both : (b c : Bool) → (b ≡ true → c ≡ false) → one_if b + one_if c ≤ one_if true
not_both true true h = absurd (false≢true (sym (h refl)))
not_both true false h = omega arith
not_both false true h = omega arith
not_both false false h = omega arith

one_kind : (b : Bool) → one_if true ≡ one_if b + one_if (not b)
one_kind true = omega arith
one_kind false = omega arith

-- ---- queues

-- a queue that has each name as often as there are threads of it that pass is no longer than those that pass
passed_length : (p : Thread → Bool) (ts : List Thread) (q : List ℕ) → ((n : ℕ) → count (λ t. named n t && p t) ts ≡ times_in q n) →
    length q ≤ count p ts
passed_length p ts q h =
    omega (
      arith,
      no_longer q (map (λ t. t.name) (keep p ts)) (λ n. omega (arith, h n, times_kept p n ts)),
      length-map (keep p ts)
          (λ t. t.name),
      length_keep p ts,
    )

-- a thread stands in one place at most
one_place : (s : State) → one_if (is_ready s) + one_if (on_clock s) + one_if (is_running s) ≤ 1
unfolding is_ready on_clock is_running
one_place Running = omega arith
one_place Ready = omega arith
one_place (Receiving w) = omega arith
one_place Clock = omega arith
one_place (Device d) = omega arith
one_place (Trapped k) = omega arith

apart_all : (ts : List Thread) →
    count (λ t. is_ready t.state) ts + count (λ t. on_clock t.state) ts + count (λ t. is_running t.state) ts ≤ length ts
unfolding count
apart_all [] = omega arith
apart_all (t ∷ ts) = omega (arith, apart_all ts, one_place t.state)

module _ (L : Limits) (T : Tables) (inv : Inv L T) where
  ready_length : length T.ready ≤ count (λ t. is_ready t.state) T.threads
  unfolding here
  ready_length = passed_length (λ t. is_ready t.state) T.threads T.ready inv.agree.wait

  clock_length : length T.clock ≤ count (λ t. on_clock t.state) T.threads
  unfolding here
  clock_length = passed_length (λ t. on_clock t.state) T.threads T.clock inv.agree.beat

  -- the runner has a thread, and it is running
  runner_thread : (n s : ℕ) → T.runner ≡ Runs n s → (t : Thread) × Memᴰ t T.threads × ((named n t && is_running t.state) ≡ true)
  unfolding here
  runner_thread n s e =
      any_member (λ t. named n t && is_running t.state) T.threads
      (count_any (λ t. named n t && is_running t.state) T.threads
      (omega (arith, inv.agree.run n, ap (λ (r : Runner). one_if (runs_as n r)) e, ap one_if (runs_self n s))))

  runner_counts : (r : Runner) → T.runner ≡ r → one_if (runs r) ≤ count (λ t. is_running t.state) T.threads
  unfolding runs
  runner_counts NoRunner e = omega arith
  runner_counts (Runs n s) e =
      let x = runner_thread n s e in
      any_count (λ t. is_running t.state) T.threads
      (member_any (λ t. is_running t.state) T.threads x.0 x.1 (and_right (named n x.0) _ x.2))

  -- The ready, the clock waiters and the runner are threads, each once.
  pub queues_room : length T.ready + length T.clock + one_if (runs T.runner) ≤ length T.threads
  queues_room = omega (arith, ready_length, clock_length, runner_counts T.runner refl, apart_all T.threads)

  -- Threads that are not ready have room in the ready queue, all of them together.
  pub released_room : (p : Thread → Bool) → ((t : Thread) → p t ≡ true → is_ready t.state ≡ false) →
      length T.ready + count p T.threads ≤ length T.threads
  released_room p h =
      omega (
        arith,
        ready_length,
        count_add_le p (λ t. is_ready t.state) (λ t. true) T.threads (λ t m. not_both (p t) (is_ready t.state) (h t)),
        length_count T.threads,
      )

  -- A thread that is not ready has room in the ready queue.
  pub ready_room : (t : Thread) → Memᴰ t T.threads → is_ready t.state ≡ false → length T.ready < length T.threads
  ready_room t m e =
      omega (
        arith,
        ready_length,
        count_strict (λ u. is_ready u.state) (λ u. true) T.threads (λ u k. refl) t m e refl,
        length_count T.threads,
      )

  -- The runner has room in the clock queue.
  pub clock_room : (n s : ℕ) → T.runner ≡ Runs n s → length T.clock < length T.threads
  unfolding runs
  clock_room n s e = omega (arith, queues_room, ap (λ (r : Runner). one_if (runs r)) e)

-- ---- messages

abbrev is_notice : Message → Bool
is_notice m = not (is_ordinary m.kind)

module _ (L : Limits) (T : Tables) (fits : Fits L T) where
  -- the same, with no more blocks than are used
  used : Good (blocks_used T) T.threads T.messages T.held
  used = record {
    family = fits.family;
    threads = fits.threads;
    waiters = fits.waiters;
    messages = fits.messages;
    notices = fits.notices;
    blocks = omega arith;
    rising = fits.rising;
    order = fits.order;
    held = fits.held;
    held_order = fits.held_order;
  }

  -- Messages are the ordinary ones, and one notice at most for each thread.
  pub messages_room : length T.messages ≤ blocks_used T + length T.threads
  messages_room = messages_few (blocks_used T) T.threads T.messages T.held used

  -- the sender of a notice lives
  sender_lives : (n : ℕ) → 1 ≤ count (notice_of n) T.messages → 1 ≤ count (named n) T.threads
  sender_lives n h =
      let r = any_member (notice_of n) T.messages (count_any (notice_of n) T.messages h) in
      let e : r.0.from ≡ n = eqb-true _ _ (and_right (is_notice r.0) _ r.2) in
      any_count (named n) T.threads (rw e at (fits.messages r.0 r.1).from_live)

  -- A running thread has no notice under way.
  pub no_notice : (t : Thread) → Memᴰ t T.threads → is_running t.state ≡ true → any (notice_of t.name) T.messages ≡ false
  unfolding trapped_on
  no_notice t i h = none_any (notice_of t.name) T.messages (λ m k. go m k (notice_of t.name m) refl)
    where
      go : (m : Message) → Memᴰ m T.messages → (b : Bool) → notice_of t.name m ≡ b → b ≡ false
      go m k true e =
          let w : awaits m.to t ≡ true =
          (fits.messages m k).notice (not_true (is_ordinary m.kind) (and_left (is_notice m) _ e)) t i
          (sym (eqb-true _ _ (and_right (is_notice m) _ e))) in
          absurd (false≢true (sym (asleep _ _ _ t.state w).0 ∙ h))
      go m k false e = refl

-- who has no notice under way leaves room for one
notices_room : (L : Limits) (T : Tables) → Fits L T → (n : ℕ) → live n T ≡ true → any (notice_of n) T.messages ≡ false →
    count is_notice T.messages < length T.threads
notices_room L T fits n l none =
    omega (
      arith,
      no_longer (n ∷ senders) (map (λ t. t.name) T.threads) at_most,
      length-map (keep is_notice T.messages) (λ m. m.from),
      length_keep is_notice T.messages,
      length-map T.threads (λ t. t.name),
    )
  where
    senders : List ℕ
    senders = map (λ m. m.from) (keep is_notice T.messages)

    sent : (k : ℕ) → times_in senders k ≡ count (notice_of k) T.messages
    sent k = count_map (λ m. k == m) (λ m. m.from) (keep is_notice T.messages) ∙ count_keep (λ m. k == m.from) is_notice T.messages
        ∙ count_same _ _ T.messages (λ m. ap (λ (x : Bool). is_notice m && x) (same_turned k m.from))

    at_most : (k : ℕ) → times_in (n ∷ senders) k ≤ times_in (map (λ t. t.name) T.threads) k
    at_most k =
        let c = count_cons (λ m. k == m) n senders in
        let s = sent k in
        let t = count_map (λ m. k == m) (λ t. t.name) T.threads in
        ⊎_elim
        (λ e. omega (
          arith,
          ap one_if e.1,
          rw (sym e.0) at (none_count (notice_of n) T.messages none),
          rw (sym e.0) at (any_count (named n) T.threads l),
        ))
        (λ e. ⊎_elim
        (λ z. omega (arith, ap one_if e.1, z.0))
        (λ z. omega (arith, ap one_if e.1, fits.notices k, sender_lives L T fits k (omega (arith, z.0))))
        (same? (count (notice_of k) T.messages) 0))
        (same? k n)

module _ (L : Limits) (T : Tables) (inv : Inv L T) (fits : Fits L T) (n s : ℕ) (e : T.runner ≡ Runs n s) where
  -- A runner has room for its notice: it has none under way.
  pub notice_room_used : length T.messages < blocks_used T + length T.threads
  notice_room_used =
      let r = runner_thread L T inv n s e in
      let k : n ≡ r.0.name = eqb-true _ _ (and_left (named n r.0) _ r.2) in
      omega (
        arith,
        length_count T.messages,
        count_add (λ m. true) (λ m. is_ordinary m.kind) is_notice T.messages (λ m. one_kind (is_ordinary m.kind)),
        notices_room L T fits n
            (member_any (named n) T.threads r.0 r.1 (and_left (named n r.0) _ r.2))
            (rw k (no_notice L T fits r.0 r.1 (and_right (named n r.0) _ r.2))),
      )

  -- The same, by the limits.
  pub notice_room : length T.messages < L.blocks + L.threads
  notice_room = omega (arith, notice_room_used, fits.blocks, inv.few)

-- ---- held words

-- A word of a device for which none is held has room.
pub held_room : (L : Limits) (T : Tables) → Fits L T → (d : ℕ) → d < devices → any (held_for d) T.held ≡ false →
    length T.held < devices
held_room L T fits d l none =
    omega (
      arith,
      length_insert (λ h. ltb h.device d) new T.held,
      up_few (λ h. h.device) 0 devices (insert (λ h. ltb h.device d) new T.held) (omega arith)
          (up_insert (λ h. h.device) new T.held (λ h m. eqb-false h.device d (not_any (held_for d) T.held h none m))
          fits.held_order)
          (λ h m. (
            omega arith,
            ⊎_elim (λ e. omega (arith, ap (λ (k : Held). k.device) e)) (λ i. (fits.held h i).0)
                (mem_insert (λ k. ltb k.device d) new T.held m),
          )),
    )
  where
    new : Held
    new = record { device = d; word = 0 }
