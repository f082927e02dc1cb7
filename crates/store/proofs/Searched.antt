-- What a search of a memory's rows says of its tables.
use Rattle.std.proofs.Common.{◌≡◌, ℕ, suc, ◌+◌, ◌<◌, ◌≤◌, Bool, true, false, not, ltb, List, [], ◌∷◌, ◌++◌, length, get_or, take, drop, set, sym, refl, ap, ◌∙◌, arith, get_or-take, if◌then◌else◌, Option, None, Some, MatchOption}
use Rattle.std.specs.List.{position, find}
use Rattle.std.specs.Option.{is_some, option_map_or}
use Rattle.memory.proofs.Listing.{found, nowhere, position_is, is_none, some_if}
use Rattle.rules.specs.Lists.{count, insert}
use Rattle.rules.specs.Tables.{with_threads, named, live, of_thread, change}
use Rattle.laws.specs.Words.{Thread}
use Rattle.laws.specs.Types.{Rising}
use Rattle.memory.specs.Rows.{view, Roomy, place, no_thread, no_message, put_threads, ThreadsLeft}
use Rattle.memory.specs.Memory.{rows_of}
use Rattle.memory.proofs.Sizes.{threads_whole, threads_count, ready_count, clock_count, messages_count}
use Rattle.moving.proofs.Steps.{by}
use Rattle.moving.proofs.Found.{any_place, found_map, no_map, found_within, insert_at}
use Rattle.store.specs.Store.{tables, Shaped, Holding, Leaves}
use Rattle.store.proofs.Written.{fills, leaves, threads_left, rising_where, rising_insert}

-- ---- what the row functions ask

module _ (m : List ℕ) (s : Shaped m) where
  pub roomy : Roomy (rows_of m)
  unfolding Shaped
  roomy = s.roomy

  pub few_threads : Roomy (rows_of m) × ((rows_of m).count ≤ (rows_of m).limits.threads)
  unfolding Shaped
  few_threads = (s.roomy, s.threads)

  pub few_messages : Roomy (rows_of m) × ((rows_of m).letters ≤ (rows_of m).limits.threads + (rows_of m).limits.blocks)
  unfolding Shaped
  few_messages = (s.roomy, s.messages)

  -- a place below the count
  pub found_here : {i : ℕ} → i < (rows_of m).count → Roomy (rows_of m) × (i < (rows_of m).limits.threads)
  unfolding Shaped
  found_here h = (s.roomy, omega (arith, s.threads))

  -- and noted, after a thread was written
  pub can_hint : {i : ℕ} (m₁ : List ℕ) (g : Thread → Thread) →
      rows_of m₁ ≡ put_threads (set (rows_of m).threads i (g (get_or (rows_of m).threads i no_thread))) (rows_of m) → i < (rows_of m).count →
      Roomy (rows_of m₁) × (i < 4294967296)
  unfolding Shaped
  can_hint m₁ g e h = (by Roomy e s.roomy, omega (arith, s.threads, s.roomy.low))

pub can_find : (m : List ℕ) → Holding m → (n : ℕ) → Roomy (rows_of m) × ((rows_of m).count ≤ (rows_of m).limits.threads)
    × (count (named n) (view (rows_of m)).threads ≤ 1)
unfolding tables Shaped
can_find m H n = (H.shaped.roomy, H.shaped.threads, H.once n)

-- where a name belongs is told by the order
pub can_place : (m : List ℕ) → Holding m → Roomy (rows_of m) × ((rows_of m).count ≤ (rows_of m).limits.threads)
    × Rising (view (rows_of m)).threads
unfolding tables Shaped
can_place m H = (H.shaped.roomy, H.shaped.threads, H.rising)

-- ---- an entry of a table is the row's

module _ (m : List ℕ) (s : Shaped m) where
  pub ready_length : (rows_of m).readies ≡ length (tables m).ready
  unfolding tables Shaped
  ready_length = sym (ready_count m _ s)

  pub clock_length : (rows_of m).clocks ≡ length (tables m).clock
  unfolding tables Shaped
  clock_length = sym (clock_count m _ s)

  pub threads_length : (rows_of m).count ≡ length (tables m).threads
  unfolding tables Shaped
  threads_length = sym (threads_count m _ s)

  pub messages_length : (rows_of m).letters ≡ length (tables m).messages
  unfolding tables Shaped
  messages_length = sym (messages_count m _ s)

  module _ (i : ℕ) where
    pub ready_within : i < length (tables m).ready → Roomy (rows_of m) × (i < (rows_of m).limits.threads)
    unfolding Shaped
    ready_within h = (s.roomy, omega (arith, ready_length, s.ready))

    pub clock_within : i < length (tables m).clock → Roomy (rows_of m) × (i < (rows_of m).limits.threads)
    unfolding Shaped
    clock_within h = (s.roomy, omega (arith, clock_length, s.clock))

    pub threads_within : i < length (tables m).threads → Roomy (rows_of m) × (i < (rows_of m).limits.threads)
    unfolding Shaped
    threads_within h = (s.roomy, omega (arith, threads_length, s.threads))

    pub messages_within : i < length (tables m).messages → Roomy (rows_of m) × (i < (rows_of m).limits.threads + (rows_of m).limits.blocks)
    unfolding Shaped
    messages_within h = (s.roomy, omega (arith, messages_length, s.messages))

    pub ready_entry : i < length (tables m).ready → get_or (rows_of m).ready i 0 ≡ get_or (tables m).ready i 0
    unfolding tables
    ready_entry h = sym (get_or-take (rows_of m).readies (rows_of m).ready i 0 (omega (arith, ready_length)))

    pub clock_entry : i < length (tables m).clock → get_or (rows_of m).clock i 0 ≡ get_or (tables m).clock i 0
    unfolding tables
    clock_entry h = sym (get_or-take (rows_of m).clocks (rows_of m).clock i 0 (omega (arith, clock_length)))

    pub thread_entry : i < length (tables m).threads → get_or (rows_of m).threads i no_thread ≡ get_or (tables m).threads i no_thread
    unfolding tables
    thread_entry h = sym (get_or-take (rows_of m).count (rows_of m).threads i no_thread (omega (arith, threads_length)))

    pub message_entry : i < length (tables m).messages → get_or (rows_of m).messages i no_message ≡ get_or (tables m).messages i no_message
    unfolding tables
    message_entry h = sym (get_or-take (rows_of m).letters (rows_of m).messages i no_message (omega (arith, messages_length)))

-- ---- the first thread that passes

module _ (p : Thread → Bool) (d : Thread) where
  find_here : (ts : List Thread) → place p ts < length ts → Some (get_or ts (place p ts) d) ≡ find p ts
  unfolding place
  find_here [] h = absurd (omega arith)
  find_here (t ∷ ts) h = go (find_here ts) (p t) h
    where
      go : (place p ts < length ts → Some (get_or ts (place p ts) d) ≡ find p ts) → (b : Bool) →
          (if b then 0 else suc (place p ts)) < suc (length ts) →
          Some (get_or (t ∷ ts) (if b then 0 else suc (place p ts)) d) ≡ (if b then Some t else find p ts)
      go r true h = refl
      go r false h = r (omega arith)

  find_nowhere : (ts : List Thread) → length ts ≤ place p ts → None ≡ find p ts
  unfolding place
  find_nowhere [] h = refl
  find_nowhere (t ∷ ts) h = go (find_nowhere ts) (p t) h
    where
      go : (length ts ≤ place p ts → None ≡ find p ts) → (b : Bool) → suc (length ts) ≤ (if b then 0 else suc (place p ts)) →
          None ≡ (if b then Some t else find p ts)
      go r true h = absurd (omega arith)
      go r false h = r (omega arith)

-- r says where it stands
module _ (m : List ℕ) (s : Shaped m) (p : Thread → Bool) {r : Option ℕ} (f : r ≡ position p (view (rows_of m)).threads) where
  pub first_at : {i : ℕ} → r ≡ Some i → (i ≡ place p (view (rows_of m)).threads) × (i < (rows_of m).count)
  unfolding tables
  first_at e = let h = found p _ (view (rows_of m)).threads (sym f ∙ e) in (h.0, omega (arith, h.1, threads_length m s))

  pub first_none : ((i : ℕ) → r ≡ Some i → ⊥) → (rows_of m).count ≤ place p (view (rows_of m)).threads
  unfolding tables
  first_none e = omega (arith, nowhere p (view (rows_of m)).threads (is_none (λ i h. e i (f ∙ h))), threads_length m s)

  -- there the row functions may be asked
  pub first_here : {i : ℕ} → r ≡ Some i → Roomy (rows_of m) × (i < (rows_of m).limits.threads)
  first_here e = found_here m s (first_at e).1

  pub one_found : {i : ℕ} → r ≡ Some i → Some (get_or (rows_of m).threads i no_thread) ≡ find p (tables m).threads
  unfolding tables
  one_found {i} e =
      let h = first_at e in
      let j : i < length (tables m).threads = omega (arith, h.1, threads_length m s) in
      let q : place p (tables m).threads < length (tables m).threads = omega (arith, j, h.0) in
      ap (λ (t : Thread). Some t) (thread_entry m s i j)
      ∙ (ap (λ (k : ℕ). Some (get_or (tables m).threads k no_thread)) h.0 ∙ find_here p no_thread (tables m).threads q)

  pub none_found : r ≡ None → None ≡ find p (tables m).threads
  unfolding tables
  none_found e =
      let q : length (tables m).threads ≤ place p (tables m).threads = omega (arith, first_none (λ i h. cc), threads_length m s) in
      find_nowhere p no_thread (tables m).threads q

-- ---- the thread of a name

-- is there one?
pub live_found : (m : List ℕ) → Holding m → (k : ℕ) {r : Option ℕ} → r ≡ position (named k) (view (rows_of m)).threads →
    is_some r ≡ live k (tables m)
unfolding tables
live_found m H k f =
    let ts = (tables m).threads in
    ap is_some (f ∙ position_is (named k) ts) ∙ some_if (ltb (place (named k) ts) (length ts)) (place (named k) ts)
    ∙ sym (any_place (named k) ts)

-- something of it
of_found : {B : Type 0} (other : B) (g : Thread → B) (k : ℕ) (ts : List Thread) → option_map_or g (find (named k) ts) other ≡ of_thread other g k ts
unfolding of_thread
of_found other g k [] = refl
of_found other g k (t ∷ ts) = go (named k t) (of_found other g k ts)
  where
    go : (b : Bool) → option_map_or g (find (named k) ts) other ≡ of_thread other g k ts →
        option_map_or g (if b then Some t else find (named k) ts) other ≡ (if b then g t else of_thread other g k ts)
    go true r = refl
    go false r = r

-- b is what is told of it, if it is there, else `other`
pub of_one : {B : Type 0} (other : B) (g : Thread → B) (k : ℕ) (ts : List Thread) {P : Thread → Type 0} {o : Option Thread} {b : B} →
    o ≡ find (named k) ts → MatchOption o (b ≡ other) P → ((t : Thread) → P t → b ≡ g t) → b ≡ of_thread other g k ts
of_one other g k ts {P} {o} {b} e h w = go o h ∙ ap (λ (x : Option Thread). option_map_or g x other) e ∙ of_found other g k ts
  where
    go : (x : Option Thread) → MatchOption x (b ≡ other) P → b ≡ option_map_or g x other
    go None q = q
    go (Some t) q = w t q

-- it is changed, but for its name
module _ (m : List ℕ) (H : Holding m) (k : ℕ) {r : Option ℕ} (f : r ≡ position (named k) (view (rows_of m)).threads)
    (g : Thread → Thread) (keeps : (t : Thread) → (g t).name ≡ t.name) where
  pub changed : {m' : List ℕ} {i : ℕ} → r ≡ Some i →
      rows_of m' ≡ put_threads (set (rows_of m).threads i (g (get_or (rows_of m).threads i no_thread))) (rows_of m) →
      Leaves m m' (change k g (tables m))
  unfolding tables Shaped change
  changed {i = i} w e =
      let h = first_at m H.shaped (named k) f w in
      leaves
      (fills _ e
      (ap (λ (l : List Thread). with_threads l (view (rows_of m)))
      (sym (found_map (named k) (rows_of m).count (rows_of m).threads i (threads_whole m _ H.shaped) h.0 g no_thread (H.once k) h.1)))
      refl
      H.shaped)
      (rising_where (tables m).threads H.rising (named k) g keeps)

  -- a hint is no part of the rows
  pub changed_hinted : {m' : List ℕ} (m₁ : List ℕ) {i : ℕ} → r ≡ Some i →
      rows_of m₁ ≡ put_threads (set (rows_of m).threads i (g (get_or (rows_of m).threads i no_thread))) (rows_of m) →
      rows_of m' ≡ rows_of m₁ → Leaves m m' (change k g (tables m))
  changed_hinted m₁ w e d = changed w (d ∙ e)

  pub unchanged : ((i : ℕ) → r ≡ Some i → ⊥) → Leaves m m (change k g (tables m))
  unfolding tables Shaped change
  unchanged w =
      leaves
      (fills (rows_of m) refl
      (ap (λ (l : List Thread). with_threads l (view (rows_of m)))
      (sym (no_map (named k) (rows_of m).count (rows_of m).threads _ (threads_whole m _ H.shaped) refl g
      (first_none m H.shaped (named k) f w))))
      refl
      H.shaped)
      (rising_where (tables m).threads H.rising (named k) g keeps)

-- ---- the place of a newcomer

module _ (m : List ℕ) (H : Holding m) (t : Thread) (i : ℕ) (f : i ≡ place (λ u. not (ltb u.name t.name)) (view (rows_of m)).threads)
  where
    pub place_inside : i ≤ (rows_of m).count
    unfolding Shaped
    place_inside = found_within _ (rows_of m).count (rows_of m).threads i (threads_whole m _ H.shaped) f

    pub came_in : {m' : List ℕ} → live t.name (tables m) ≡ false →
        ThreadsLeft (rows_of m) (rows_of m') (take i (view (rows_of m)).threads ++ t ∷ drop i (view (rows_of m)).threads) →
        Leaves m m' (with_threads (insert (λ u. ltb u.name t.name) t (tables m).threads) (tables m))
    unfolding tables
    came_in new q =
        let e : insert (λ u. ltb u.name t.name) t (tables m).threads ≡ take i (tables m).threads ++ t ∷ drop i (tables m).threads
        = insert_at (λ u. ltb u.name t.name) (λ u. not (ltb u.name t.name)) (λ u. refl) t (tables m).threads
        ∙ ap (λ (j : ℕ). take j (tables m).threads ++ t ∷ drop j (tables m).threads) (sym f) in
        leaves (rw e (threads_left H.shaped q)) (rising_insert (tables m).threads H.rising t new)
