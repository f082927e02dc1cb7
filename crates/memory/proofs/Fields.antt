-- The words of an entry, one by one.
use Prim.Native.Nat.{ℕ, ◌+◌, ◌-◌, ◌≤◌, ◌<◌}
use mathlib.Core.Path.{◌≡◌, refl, sym, ap, ◌∙◌}
use mathlib.Core.Logic.{⊎_elim}
use mathlib.Core.List.{List, ◌++◌}
use mathlib.Core.Bool.{Bool, true, false}
use native.Mathlib.Omega.{arith}
use lib.Dec.{ltb}
use Rattle.std.specs.List.{copy_within}
use Rattle.std.proofs.Common.{append_assoc}
use lib.ListN.{length, get_or, set, take, drop, length-take, length-drop}
use lib.Seq.{get_or-set_same, get_or-set_other}
use borrow.Author.Tests.{ltb-true, ltb-false}
use borrow.Rule.Slice.PartMut.{put_mid}
use Rattle.rules.specs.Tables.{manager, with_managers, set_entry}
use Rattle.laws.specs.Words.{Thread, Message, Manager, TrapKind, Program, Tlb, SysBp}
use Rattle.laws.proofs.Tests.{same?}
use Rattle.words.specs.Saying.{word, byte, parent_in, state_in, manager_in, answer_in, sender_in, kind_in, thread_in, message_in}
use Rattle.memory.specs.Layout.{thread_place, message_place, manager_place}
use Rattle.memory.specs.Rows.{Rows, Roomy, no_thread, no_message, put_threads, put_messages}
use Rattle.memory.specs.Memory.{part, thread_of, message_of, rows_of}
use Rattle.memory.proofs.Rowing.{Elsewhere, row_at, part_word, stored, widen, lent, lent_part, put_back}
use Rattle.memory.proofs.Changes.{put_word, thread_put, message_put}

by_if_below : {A : Type 0} (k n : ℕ) → (k < n → A) → (n ≤ k → A) → A
by_if_below {A = A} k n f g = go (ltb k n) refl
  where
    go : (b : Bool) → ltb k n ≡ b → A
    go true e = f (ltb-true k n e)
    go false e = g (ltb-false k n e)

-- the first of the n words from a on
first : (m : List ℕ) (a n : ℕ) → 0 < n → word (part m a n) 0 ≡ word m a
first m a n h = part_word m a n 0 h ∙ ap (λ (k : ℕ). word m k) (omega arith)

pub still_roomy : {r r' : Rows} → r ≡ r' → Roomy r' → Roomy r
still_roomy e h = rw e h

-- ---- threads

pub manager_low : (k : TrapKind) → manager_place k ≤ 6
manager_low Program = omega arith
manager_low Tlb = omega arith
manager_low SysBp = omega arith

-- n: the first word; w: the others
abbrev pub thread_from : ℕ → (ℕ → ℕ) → Thread
thread_from n w =
    record {
      name = byte n;
      parent = parent_in (w 1);
      state = state_in (w 2) (w 3);
      managers = record { program = manager_in (w 4); tlb = manager_in (w 5); sysbp = manager_in (w 6) };
      ticks = w 7;
      answer = answer_in (w 8) (w 9) (w 10);
    }

pub thread_told : (m : List ℕ) (a n : ℕ) (w : ℕ → ℕ) → word m a ≡ n → ((k : ℕ) → 1 ≤ k → k < 11 → word m (a + k) ≡ w k) →
    thread_in (part m a 11) ≡ thread_from n w
unfolding thread_in
thread_told m a n w e f =
    let g : (k : ℕ) → 1 ≤ k → k < 11 → word (part m a 11) k ≡ w k = λ k p q. part_word m a 11 k q ∙ f k p q in
    λ ι. record {
      name = byte ((first m a 11 (omega arith) ∙ e) ι);
      parent = parent_in (g 1 (omega arith) (omega arith) ι);
      state = state_in (g 2 (omega arith) (omega arith) ι) (g 3 (omega arith) (omega arith) ι);
      managers = record {
        program = manager_in (g 4 (omega arith) (omega arith) ι);
        tlb = manager_in (g 5 (omega arith) (omega arith) ι);
        sysbp = manager_in (g 6 (omega arith) (omega arith) ι);
      };
      ticks = g 7 (omega arith) (omega arith) ι;
      answer = answer_in (g 8 (omega arith) (omega arith) ι) (g 9 (omega arith) (omega arith) ι) (g 10 (omega arith) (omega arith) ι);
    }

module _ (m : List ℕ) (i : ℕ) (h : i < word m 0) where
  abbrev thread_words : Thread
  thread_words = thread_from (word m (thread_place i)) (λ k. word m (thread_place i + k))

  -- a thread of the row, as its words tell it
  pub thread_entry : get_or (rows_of m).threads i no_thread ≡ thread_words
  unfolding rows_of
  thread_entry = row_at (thread_of m) (word m 0) i no_thread h
      ∙ thread_told m (thread_place i) _ (λ k. word m (thread_place i + k)) refl (λ k p q. refl)

  -- a store of one word, which changes the thread by f
  pub thread_store : (k v : ℕ) (f : Thread → Thread) → 1 ≤ k → k < 11 → thread_place i + 16 ≤ length m →
      thread_from (word m (thread_place i)) (put_word k v (λ j. word m (thread_place i + j))) ≡ f thread_words →
      rows_of (set m (thread_place i + k) v) ≡ put_threads (set (rows_of m).threads i (f (get_or (rows_of m).threads i no_thread)))
      (rows_of m)
  thread_store k v f p q room e =
      let at : ℕ = thread_place i + k in
      thread_put m (set m at v) i (f (get_or (rows_of m).threads i no_thread)) h
      (widen (thread_place i) 12 (stored m at v) (omega arith) (omega arith))
      (thread_told (set m at v) (thread_place i) (word m (thread_place i)) (put_word k v (λ j. word m (thread_place i + j)))
      (get_or-set_other m at (thread_place i) v 0 (λ z. omega arith))
      (λ j r s. ⊎_elim (λ z. rw (z.1, z.0) (get_or-set_same m at v 0 (omega arith)))
      (λ z. rw z.1 (get_or-set_other m at (thread_place i + j) v 0 (λ y. z.0 (omega arith)))) (same? j k))
      ∙ e
      ∙ ap f (sym thread_entry))

  pub manager_entry : (k : TrapKind) →
      manager_in (word m (thread_place i + manager_place k)) ≡ manager k (get_or (rows_of m).threads i no_thread).managers
  unfolding manager
  manager_entry Program = ap (λ (t : Thread). t.managers.program) (sym thread_entry)
  manager_entry Tlb = ap (λ (t : Thread). t.managers.tlb) (sym thread_entry)
  manager_entry SysBp = ap (λ (t : Thread). t.managers.sysbp) (sym thread_entry)

  pub manager_store : (k : TrapKind) (g : Manager) (v : ℕ) → thread_place i + 16 ≤ length m → manager_in v ≡ g →
      rows_of (set m (thread_place i + manager_place k) v) ≡ put_threads
      (set (rows_of m).threads i (with_managers (set_entry k g (get_or (rows_of m).threads i no_thread).managers)
      (get_or (rows_of m).threads i no_thread))) (rows_of m)
  unfolding set_entry
  manager_store Program g v room e = thread_store 4 v (λ t. with_managers (set_entry Program g t.managers) t) (omega arith) (omega arith)
      room (ap (λ (x : Manager). with_managers (set_entry Program x thread_words.managers) thread_words) e)
  manager_store Tlb g v room e = thread_store 5 v (λ t. with_managers (set_entry Tlb g t.managers) t) (omega arith) (omega arith) room
      (ap (λ (x : Manager). with_managers (set_entry Tlb x thread_words.managers) thread_words) e)
  manager_store SysBp g v room e = thread_store 6 v (λ t. with_managers (set_entry SysBp g t.managers) t) (omega arith) (omega arith)
      room (ap (λ (x : Manager). with_managers (set_entry SysBp x thread_words.managers) thread_words) e)

  -- words that are lent and come back
  pub thread_lent : (vs : List ℕ) (t : Thread) → thread_place i + 16 ≤ length m → length vs ≡ 11 → thread_in vs ≡ t →
      rows_of (put_mid (thread_place i) (thread_place i + 11 - thread_place i) m vs) ≡ put_threads (set (rows_of m).threads i t) (rows_of m)
  thread_lent vs t room l e =
      let r : thread_place i + 11 ≤ length m = omega arith in
      ap rows_of (put_back m (thread_place i) 11 vs r l)
      ∙ thread_put m _ i t h (widen (thread_place i) 12 (lent m (thread_place i) 11 vs r l) (omega arith) (omega arith))
      (ap thread_in (lent_part m (thread_place i) 11 vs r l) ∙ e)

-- ---- messages

pub message_told : (m : List ℕ) (a x y z : ℕ) → word m a ≡ x → word m (a + 1) ≡ y → word m (a + 2) ≡ z →
    message_in (part m a 3) ≡ record { to = byte x; from = sender_in y; kind = kind_in y; word = z }
unfolding message_in
message_told m a x y z e₀ e₁ e₂ =
    let f = part_word m a 3 1 (omega arith) ∙ e₁ in
    λ ι. record {
      to = byte ((first m a 3 (omega arith) ∙ e₀) ι);
      from = sender_in (f ι);
      kind = kind_in (f ι);
      word = (part_word m a 3 2 (omega arith) ∙ e₂) ι;
    }

pub message_entry : (m : List ℕ) (i : ℕ) → i < word m 0 + word m 1 →
    get_or (rows_of m).messages i no_message ≡ record {
      to = byte (word m (message_place (word m 0) i));
      from = sender_in (word m (message_place (word m 0) i + 1));
      kind = kind_in (word m (message_place (word m 0) i + 1));
      word = word m (message_place (word m 0) i + 2);
    }
unfolding rows_of
message_entry m i h = row_at (message_of m) _ i no_message h ∙ message_told m (message_place (word m 0) i) _ _ _ refl refl refl

pub message_lent : (m : List ℕ) (i : ℕ) → i < word m 0 + word m 1 → (vs : List ℕ) (x : Message) →
    message_place (word m 0) i + 4 ≤ length m → length vs ≡ 3 → message_in vs ≡ x →
    rows_of (put_mid (message_place (word m 0) i) (message_place (word m 0) i + 3 - message_place (word m 0) i) m vs) ≡ put_messages
    (set (rows_of m).messages i x) (rows_of m)
message_lent m i h vs x room l e =
    let a : ℕ = message_place (word m 0) i in
    let r : a + 3 ≤ length m = omega arith in
    ap rows_of (put_back m a 3 vs r l)
    ∙ message_put m _ i x h (widen a 4 (lent m a 3 vs r l) (omega arith) (omega arith)) (ap message_in (lent_part m a 3 vs r l) ∙ e)

-- ---- entries that move

-- the first n words at a stand at b now, and all else stands
pub record Moved (a b n : ℕ) (m m' : List ℕ) : Type 0 where
  pub where_else : Elsewhere b n m m'
  pub moved : (k : ℕ) → k < n → word m' (b + k) ≡ word m (a + k)

pub block_moved : (a b n : ℕ) (m m' : List ℕ) → a + n ≤ length m → b + n ≤ length m → m' ≡ copy_within m a (a + n) b → Moved a b n m m'
block_moved a b n m m' p q f =
    let same : a + n - a ≡ n = omega arith in
    let e : m' ≡ take b m ++ (part m a n ++ drop (b + n) m) =
    f ∙ append_assoc (take b m) (part m a (a + n - a)) (drop (b + (a + n - a)) m)
    ∙ ap (λ (k : ℕ). take b m ++ (part m a k ++ drop (b + k) m)) same in
    let vs : List ℕ = part m a n in
    let l : length vs ≡ n = simp (length-take, length-drop) (omega arith) in
    let v : part m' b n ≡ vs = rw e (lent_part m b n vs q l) in
    record {
      where_else = rw e (lent m b n vs q l);
      moved = λ k h. sym (part_word m' b n k h) ∙ (ap (λ (w : List ℕ). word w k) v ∙ part_word m a n k h);
    }

-- the first word
moved_first : (a b n : ℕ) (m m' : List ℕ) → 0 < n → Moved a b n m m' → word m' b ≡ word m a
moved_first a b n m m' h M = ap (λ (k : ℕ). word m' k) (omega arith) ∙ M.moved 0 h ∙ ap (λ (k : ℕ). word m k) (omega arith)

pub thread_moved : (m m' : List ℕ) (i j : ℕ) → i < word m 0 → j < word m 0 → thread_place (word m 0) ≤ length m →
    m' ≡ copy_within m (thread_place i) (thread_place i + 12) (thread_place j) →
    rows_of m' ≡ put_threads (set (rows_of m).threads j (get_or (rows_of m).threads i no_thread)) (rows_of m)
thread_moved m m' i j hi hj room e =
    let a : ℕ = thread_place i in
    let b : ℕ = thread_place j in
    let M : Moved a b 12 m m' = block_moved a b 12 m m' (omega arith) (omega arith) e in
    thread_put m m' j _ hj M.where_else
    (thread_told m' b (word m a) (λ k. word m (a + k)) (moved_first a b 12 m m' (omega arith) M) (λ k p q. M.moved k (omega arith))
    ∙ sym (thread_entry m i hi))

pub message_moved : (m m' : List ℕ) (i j : ℕ) → i < word m 0 + word m 1 → j < word m 0 + word m 1 →
    message_place (word m 0) (word m 0 + word m 1) ≤ length m →
    m' ≡ copy_within m (message_place (word m 0) i) (message_place (word m 0) i + 4) (message_place (word m 0) j) →
    rows_of m' ≡ put_messages (set (rows_of m).messages j (get_or (rows_of m).messages i no_message)) (rows_of m)
message_moved m m' i j hi hj room e =
    let a : ℕ = message_place (word m 0) i in
    let b : ℕ = message_place (word m 0) j in
    let M : Moved a b 4 m m' = block_moved a b 4 m m' (omega arith) (omega arith) e in
    message_put m m' j _ hj M.where_else
    (message_told m' b _ _ _ (moved_first a b 4 m m' (omega arith) M) (M.moved 1 (omega arith)) (M.moved 2 (omega arith))
    ∙ sym (message_entry m i hi))
