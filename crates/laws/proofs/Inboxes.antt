-- Inboxes are first in, first out: what joins one joins its end, and a receive takes the oldest that is wanted and leaves the others
-- in their order. Nothing else changes an inbox, but endings and decisions, which discard.
use Rattle.std.proofs.Common.{if◌then◌else◌, ◌==◌}
use Prim.Native.Nat.{ℕ, zero, suc, ◌<◌}
use mathlib.Core.Path.{◌≡◌, refl, sym, ap, ◌∙◌, subst}
use mathlib.Core.Logic.{◌⊎◌, inl, inr, ⊎_elim, ◌≢◌}
use mathlib.Core.Bool.{Bool, true, false, ◌&&◌, ◌||◌, not, true≢false}
use mathlib.Core.List.{List, [], ◌∷◌, ◌++◌, append-nil, append_assoc, Memᴰ}
use native.Mathlib.Omega.{arith}
use lib.Dec.{leb}
use borrow.Author.Tests.{eqb-true, eq-eqb, ne_eqb, leb-true, leb-false, le-leb}
use Rattle.rules.specs.Lists.{any, has, keep, behind, insert, chain, Pulled, missing, pulled, pull}
use Rattle.rules.specs.Numbers.{names}
use Rattle.laws.specs.Words.{Limits}
use Rattle.rules.specs.Words.{by_manager, by_runner}
use Rattle.rules.specs.Tables.{Tables, in_state, named, of_thread, change, manager, me}
use Rattle.rules.specs.States.{receives, waits_for}
use Rattle.rules.specs.Waking.{Outcome, wake_those, wake_by_name, notice_of, handed_as, handed, accepts, queue, deliver, stop}
use Rattle.rules.specs.Ending.{ended_set, remove, release, end}
use Rattle.rules.specs.Send.{message, decides, decide, send}
use Rattle.rules.specs.Receive.{wanted_by, received, receive}
use Rattle.rules.specs.Trap.{notice, trap}
use Rattle.rules.specs.Interrupt.{held_for, interrupt}
use Rattle.rules.specs.Requests.{create, terminate, set_over, set_manager, wait_for_clock, take_held}
use Rattle.rules.specs.Dispatch.{run_next, dispatch}
use Rattle.rules.specs.Events.{decode}
use Rattle.rules.specs.Refusals.{refusal}
use Rattle.rules.specs.Step.{serve, act, Stepped, decided, settle, step}
use Rattle.rules.specs.Runs.{Input, run}
use Rattle.rules.specs.TableRules.{table_rules}
use Rattle.laws.specs.Words.{Wanted, Anybody, Only, TrapKind, Trapped, Nothing, Manager, Unset, Set, Gone, Thread, Message, Held}
use Rattle.laws.specs.Words.{Runner, Runs, Oneself, Named, Call, Send, Receive, CreateBrother, CreateSon, Terminate, SetManager}
use Rattle.laws.specs.Words.{GetCpuTime, WaitForClock, WaitForIo, Trap, Event, Malformed, ByRunner, Tick, Interrupt}
use Rattle.laws.specs.Inboxes.{addressed, inbox, wanted_from, Taken, Moves, unchanged, joined, taken, discarded, decision, Passes}
use Rattle.laws.specs.Inboxes.{over, stays, comes, goes, Discards, by_ending, by_decision, later, of_sender}
use Rattle.laws.specs.Types.{Ruled}
use Rattle.laws.specs.Late.{Sends, a_message, a_notice}
use Rattle.laws.proofs.Tests.{by_if, same?, and_left, and_right, and_false, clash}
use Rattle.laws.proofs.Tally.{any_counts, count_keep, not_any, none_any}
use Rattle.laws.proofs.Members.{mem_map}
use Rattle.laws.proofs.Threads.{turned}
use Rattle.laws.proofs.Ordered.{Transitive, chain_tail, chain_before, pull_none}
use Rattle.laws.proofs.Steps.{called, by_dispatch}
use Rattle.laws.proofs.Sound.{tested_ruled}
use Rattle.laws.proofs.Kept.{rules_are_kept}
use Rattle.laws.proofs.Refusals.{decision_gives_it}
use Rattle.laws.proofs.Blocks.{tick_messages}

-- ---- lists

module _ {A : Type 0} where
  keep_yes : (p : A → Bool) (x : A) (xs : List A) → p x ≡ true → keep p (x ∷ xs) ≡ x ∷ keep p xs
  unfolding keep
  keep_yes p x xs h = rw h

  keep_no : (p : A → Bool) (x : A) (xs : List A) → p x ≡ false → keep p (x ∷ xs) ≡ keep p xs
  unfolding keep
  keep_no p x xs h = rw h

  pub keep_append : (p : A → Bool) (xs ys : List A) → keep p (xs ++ ys) ≡ keep p xs ++ keep p ys
  unfolding keep
  keep_append p [] ys = refl
  keep_append p (x ∷ xs) ys = go (p x) (keep_append p xs ys)
    where
      go : (b : Bool) → keep p (xs ++ ys) ≡ keep p xs ++ keep p ys →
          (if b then x ∷ keep p (xs ++ ys) else keep p (xs ++ ys)) ≡ (if b then x ∷ keep p xs else keep p xs) ++ keep p ys
      go true e = ap (λ (l : List A). x ∷ l) e
      go false e = e

  keep_turned : (p q : A → Bool) (xs : List A) → keep p (keep q xs) ≡ keep q (keep p xs)
  unfolding keep
  keep_turned p q [] = refl
  keep_turned p q (x ∷ xs) = go (p x) (q x) refl refl (keep_turned p q xs)
    where
      go : (a b : Bool) → p x ≡ a → q x ≡ b → keep p (keep q xs) ≡ keep q (keep p xs) →
          keep p (if b then x ∷ keep q xs else keep q xs) ≡ keep q (if a then x ∷ keep p xs else keep p xs)
      go true true i j e = rw (i, j) (ap (λ (l : List A). x ∷ l) e)
      go true false i j e = rw j e
      go false true i j e = rw i e
      go false false i j e = e

  pub keep_none_of : (p : A → Bool) (xs : List A) → ((x : A) → Memᴰ x xs → p x ≡ false) → keep p xs ≡ []
  unfolding keep
  keep_none_of p [] h = refl
  keep_none_of p (x ∷ xs) h = rw (h x (Memᴰ.head refl)) (keep_none_of p xs (λ y m. h y (Memᴰ.tail m)))

  -- a search takes the first that passes, and leaves the others in their order
  record First (p : A → Bool) (xs : List A) (x : A) (ys : List A) : Type 0 where
    before : List A
    after : List A
    was : xs ≡ before ++ (x ∷ after)
    left : ys ≡ before ++ after
    none : any p before ≡ false
    passes : p x ≡ true

  pulled_first : (p : A → Bool) (xs : List A) {x : A} {ys : List A} → pull p xs ≡ pulled x ys → First p xs x ys
  unfolding pull
  pulled_first p [] e = absurd (let z : ◌≡◌ {A = ℕ} 0 1 = cc in omega arith)
  pulled_first p (y ∷ xs) {x} {ys} e = go (p y) refl e (λ u us i. pulled_first p xs i)
    where
      Rest : Type 0
      Rest = (u : A) (us : List A) → pull p xs ≡ pulled u us → First p xs u us

      later : Rest → (r : Pulled A) → pull p xs ≡ r → p y ≡ false → behind y r ≡ pulled x ys → First p (y ∷ xs) x ys
      later rest missing i h j = absurd (unfold behind in (let z : ◌≡◌ {A = ℕ} 0 1 = cc in omega arith))
      later rest (pulled u us) i h j =
          let k : u ≡ x = unfold behind in cc in
          let l : y ∷ us ≡ ys = unfold behind in cc in
          let F = rest u us i in
          record {
            before = y ∷ F.before;
            after = F.after;
            was = ap (λ (v : List A). y ∷ v) (F.was ∙ ap (λ (v : A). F.before ++ (v ∷ F.after)) k);
            left = sym l ∙ ap (λ (v : List A). y ∷ v) F.left;
            none = unfold any in rw h F.none;
            passes = ap p (sym k) ∙ F.passes;
          }

      go : (b : Bool) → p y ≡ b → (if b then pulled y xs else behind y (pull p xs)) ≡ pulled x ys → Rest → First p (y ∷ xs) x ys
      go true h j rest =
          let k : y ≡ x = cc in
          let l : xs ≡ ys = cc in
          record {
            before = [];
            after = xs;
            was = ap (λ (v : A). v ∷ xs) k;
            left = sym l;
            none = unfold any in
                refl;
            passes = ap p (sym k) ∙ h;
          }
      go false h j rest = later rest (pull p xs) refl h j

  pub keep_insert : (p q : A → Bool) (a : A) (xs : List A) → p a ≡ false → keep p (insert q a xs) ≡ keep p xs
  unfolding keep insert
  keep_insert p q a [] h = rw h
  keep_insert p q a (x ∷ xs) h =
      by_if (λ (l : List A). keep p l ≡ keep p (x ∷ xs)) (q x) (λ _. go (p x) (keep_insert p q a xs h)) (λ _. rw h)
    where
      go : (b : Bool) → keep p (insert q a xs) ≡ keep p xs →
          (if b then x ∷ keep p (insert q a xs) else keep p (insert q a xs)) ≡ (if b then x ∷ keep p xs else keep p xs)
      go true e = ap (λ (l : List A). x ∷ l) e
      go false e = e

  any_keep : (p q : A → Bool) (xs : List A) → any q (keep p xs) ≡ any (λ x. p x && q x) xs
  any_keep p q xs = any_counts q (λ x. p x && q x) (keep p xs) xs (count_keep q p xs)

-- ---- inboxes

-- receivers rise
abbrev rising : Message → Message → Bool
rising x y = leb x.to y.to

rising_on : Transitive rising
rising_on x y z e f = le-leb x.to z.to (omega (arith, leb-true x.to y.to e, leb-true y.to z.to f))

-- what is put into its place stands behind all that wait for the same receiver
joins_end : (m : Message) (ms : List Message) → chain rising ms ≡ true →
    keep (addressed m.to) (insert (λ x. leb x.to m.to) m ms) ≡ keep (addressed m.to) ms ++ (m ∷ [])
unfolding keep insert
joins_end m [] c = rw (eq-eqb m.to m.to refl)
joins_end m (x ∷ ms) c = by_if (λ (l : List Message). keep (addressed m.to) l ≡ keep (addressed m.to) (x ∷ ms) ++ (m ∷ []))
    (leb x.to m.to) (λ _. go (addressed m.to x) (joins_end m ms (chain_tail rising x ms c))) last
  where
    go : (b : Bool) → keep (addressed m.to) (insert (λ x. leb x.to m.to) m ms) ≡ keep (addressed m.to) ms ++ (m ∷ []) →
        (if b then x ∷ keep (addressed m.to) (insert (λ x. leb x.to m.to) m ms) else keep (addressed m.to)
        (insert (λ x. leb x.to m.to) m ms)) ≡ (if b then x ∷ keep (addressed m.to) ms else keep (addressed m.to) ms) ++ (m ∷ [])
    go true e = ap (λ (l : List Message). x ∷ l) e
    go false e = e

    later : leb x.to m.to ≡ false → (y : Message) → Memᴰ y (x ∷ ms) → addressed m.to y ≡ false
    later h y (Memᴰ.head e) =
        ne_eqb y.to m.to (λ i. let k : y.to ≡ x.to = ap (λ (z : Message). z.to) e in omega (arith, leb-false x.to m.to h))
    later h y (Memᴰ.tail i) = ne_eqb y.to m.to
        (λ j. omega (arith, leb-false x.to m.to h, leb-true x.to y.to (chain_before rising rising_on x ms c y i)))

    last : leb x.to m.to ≡ false → keep (addressed m.to) (m ∷ x ∷ ms) ≡ keep (addressed m.to) (x ∷ ms) ++ (m ∷ [])
    last h = rw (eq-eqb m.to m.to refl) (ap (λ (l : List Message). m ∷ l) (keep_none_of (addressed m.to) (x ∷ ms) (later h))
        ∙ ap (λ (l : List Message). l ++ (m ∷ [])) (sym (keep_none_of (addressed m.to) (x ∷ ms) (later h))))

-- a runner goes on
pub runs_on : (o : Outcome) (n s : ℕ) → o.tables.runner ≡ Runs n s → dispatch o ≡ o
unfolding dispatch
runs_on o n s e = ap (by_runner (run_next o.tables.ready o) (λ m x. o)) e

pub dispatch_messages : (o : Outcome) → (dispatch o).tables.messages ≡ o.tables.messages
dispatch_messages o =
    by_dispatch (λ (U : Tables). U.messages ≡ o.tables.messages) o (λ _ _ _. refl) (λ _ _. refl) (λ n q _ _. unfold change in refl)

module _ (L : Limits) (T : Tables) (R : Ruled L T) (bytes : List ℕ) (n : ℕ) (r : refusal L T (decode bytes) ≡ 0) where
  did : step L T bytes ≡ decided 0 (dispatch (act T (decode bytes)))
  unfolding step settle
  did = ap (λ (x : ℕ). settle x T (decode bytes)) r

  fine : (step L T bytes).decision.refusal ≡ 0
  fine = ap (λ (s : Stepped). s.decision.refusal) did

  -- the inbox after the step is the one after the event
  after_event : (e : Event) → decode bytes ≡ e → inbox n (step L T bytes).tables ≡ inbox n (act T e).tables
  after_event e i = ap (λ (s : Stepped). inbox n s.tables) did ∙ ap (keep (addressed n)) (dispatch_messages (act T (decode bytes)))
      ∙ ap (λ (x : Event). inbox n (act T x).tables) i

  same_messages : (e : Event) → decode bytes ≡ e → (act T e).tables.messages ≡ T.messages → Moves L T bytes n
  same_messages e i k = unchanged (after_event e i ∙ ap (keep (addressed n)) k)

  -- an ending
  by_end : (e : Event) → decode bytes ≡ e → (x : ℕ) → (act T e).tables ≡ end x T → Moves L T bytes n
  unfolding end release remove wake_those
  by_end e i x k =
      discarded x (ap (λ (v : Event). (act T v).tables) i ∙ k)
      (after_event e i ∙ ap (inbox n) k
      ∙ keep_turned (addressed n) (λ m. not (has m.to (ended_set T.threads x) || has m.from (ended_set T.threads x)))
      T.messages)

  -- a message or notice on its way
  by_deliver : (e : Event) → decode bytes ≡ e → (m : Message) (U : Tables) → U.messages ≡ T.messages →
      (act T e).tables.messages ≡ (deliver m U).messages → (m.to ≡ n → Sends L T bytes n (handed m)) → Moves L T bytes n
  unfolding deliver queue wake_those
  by_deliver e i m U u k s = go (any (accepts m) U.threads) k
    where
      go : (b : Bool) → (act T e).tables.messages ≡ (if b then wake_by_name (accepts m) (λ t. handed m) U else queue m U).messages →
          Moves L T bytes n
      go true j = same_messages e i (j ∙ u)
      go false j =
          let h : (act T e).tables.messages ≡ insert (λ x. leb x.to m.to) m T.messages =
          j ∙ ap (insert (λ x. leb x.to m.to) m) u in
          ⊎_elim
          (λ d. joined m (s d.0) (after_event e i ∙ ap (keep (addressed n)) h
          ∙ subst (λ (x : ℕ). keep (addressed x) (insert (λ x. leb x.to m.to) m T.messages) ≡ keep (addressed x) T.messages
          ++ (m ∷ [])) d.0 (joins_end m T.messages R.fits.order)))
          (λ d. unchanged (after_event e i ∙ ap (keep (addressed n)) h ∙ keep_insert (addressed n) _ m T.messages d.1))
          (same? m.to n)

  -- a receive of the runner s
  module _ (s q : ℕ) (w : Wanted) (i : decode bytes ≡ ByRunner (Receive w)) (k : T.runner ≡ Runs s q) where
    received_as : (x : Pulled Message) → pull (wanted_by s w) T.messages ≡ x → act T (decode bytes) ≡ received s w T x
    received_as x j = ap (act T) i ∙ unfold act serve receive me in (ap (λ (v : Runner). receive (me v) w T) k ∙ ap (received s w T) j)

    messages_after : (x : Pulled Message) → pull (wanted_by s w) T.messages ≡ x →
        inbox n (step L T bytes).tables ≡ inbox n (received s w T x).tables
    messages_after x j = after_event (decode bytes) refl ∙ ap (λ (o : Outcome). inbox n o.tables) (received_as x j)

    none_there : pull (wanted_by s w) T.messages ≡ missing → inbox n (step L T bytes).tables ≡ inbox n T
    none_there j = messages_after missing j ∙ unfold received stop change in refl

    module _ (m : Message) (ms : List Message) (j : pull (wanted_by s w) T.messages ≡ pulled m ms) where
      F : First (wanted_by s w) T.messages m ms
      F = pulled_first (wanted_by s w) T.messages j

      to_s : m.to ≡ s
      to_s = eqb-true m.to s (and_left (m.to == s) _ F.passes)

      whole : inbox n T ≡ keep (addressed n) F.before ++ keep (addressed n) (m ∷ F.after)
      whole = ap (keep (addressed n)) F.was ∙ keep_append (addressed n) F.before (m ∷ F.after)

      rest : inbox n (step L T bytes).tables ≡ keep (addressed n) F.before ++ keep (addressed n) F.after
      rest = messages_after (pulled m ms) j ∙ unfold received in
          (ap (keep (addressed n)) F.left ∙ keep_append (addressed n) F.before F.after)

      went_on : dispatch (act T (decode bytes)) ≡ received s w T (pulled m ms)
      went_on = runs_on (act T (decode bytes)) s q (ap (λ (o : Outcome). o.tables.runner) (received_as (pulled m ms) j)
          ∙ unfold received in k) ∙ received_as (pulled m ms) j

      own : s ≡ n → Taken L T bytes n
      own d =
          let a : addressed n m ≡ true = eq-eqb m.to n (to_s ∙ d) in
          record {
            wanted = w;
            slice = q;
            before = keep (addressed n) F.before;
            oldest = m;
            after = keep (addressed n) F.after;
            event = i;
            runner = k ∙ ap (λ (x : ℕ). Runs x q) d;
            was = whole ∙ ap (λ (l : List Message). keep (addressed n) F.before ++ l) (keep_yes (addressed n) m F.after a);
            none = any_keep (addressed n) (wanted_from w) F.before
                ∙ subst (λ (x : ℕ). any (wanted_by x w) F.before ≡ false) d F.none;
            fits = and_right (m.to == s) _ F.passes;
            left = rest;
            runs = ap (λ (x : Stepped). x.decision.runner) did ∙ ap (λ (o : Outcome). me o.tables.runner) went_on
                ∙ unfold received me in (ap me k ∙ d);
            answer = ap (λ (x : Stepped). x.decision.answer) did ∙ ap (λ (o : Outcome). o.answer) went_on ∙ unfold received in refl;
          }

      another : s ≢ n → Moves L T bytes n
      another d =
          let a : addressed n m ≡ false = ne_eqb m.to n (λ e. d (sym to_s ∙ e)) in
          unchanged (rest
          ∙ sym (whole ∙ ap (λ (l : List Message). keep (addressed n) F.before ++ l) (keep_no (addressed n) m F.after a)))

    by_receive : Moves L T bytes n
    by_receive = go (pull (wanted_by s w) T.messages) refl
      where
        go : (x : Pulled Message) → pull (wanted_by s w) T.messages ≡ x → Moves L T bytes n
        go missing j = unchanged (none_there j)
        go (pulled m ms) j = ⊎_elim (λ d. taken (own m ms j d.0)) (λ d. another m ms j d.0) (same? s n)

    -- one of its own inbox that is wanted is taken
    takes : s ≡ n → any (wanted_from w) (inbox n T) ≡ true → Taken L T bytes n
    takes d h = go (pull (wanted_by s w) T.messages) refl
      where
        go : (x : Pulled Message) → pull (wanted_by s w) T.messages ≡ x → Taken L T bytes n
        go missing j = absurd (clash h (any_keep (addressed n) (wanted_from w) T.messages
            ∙ subst (λ (x : ℕ). any (wanted_by x w) T.messages ≡ false) d (pull_none (wanted_by s w) T.messages j)))
        go (pulled m ms) j = own m ms j d

  by_send : (s q to w : ℕ) → decode bytes ≡ ByRunner (Send to w) → T.runner ≡ Runs s q → Moves L T bytes n
  by_send s q to w i k = go (decides s to T) refl w i
    where
      served : (v : ℕ) → (act T (ByRunner (Send to v))).tables ≡ send s to v T
      served v = unfold act serve me in ap (λ (x : Runner). send (me x) to v T) k

      sends : (b : Bool) → decides s to T ≡ b → (v : ℕ) →
          (act T (ByRunner (Send to v))).tables ≡ (if b then decide s to v T else deliver (message to s v) T)
      sends b d v = served v ∙ unfold send in ap (λ (x : Bool). if x then decide s to v T else deliver (message to s v) T) d

      go : (b : Bool) → decides s to T ≡ b → (v : ℕ) → decode bytes ≡ ByRunner (Send to v) → Moves L T bytes n
      go true d zero j =
          decision s q to k j d
          (after_event _ j ∙ ap (inbox n) (sends true d 0) ∙ unfold decide wake_those in
          keep_turned (addressed n) (λ m. not (notice_of to m)) T.messages)
      go true d (suc v) j = by_end _ j to (sends true d (suc v) ∙ unfold decide in refl)
      go false d v j =
          by_deliver _ j (message to s v) T refl (ap (λ (U : Tables). U.messages) (sends false d v))
          (λ e. unfold handed_as in
          a_message fine k (j ∙ ap (λ (x : ℕ). ByRunner (Send x v)) e) (ap (λ (x : ℕ). decides s x T) (sym e) ∙ d))

  by_trap : (s q : ℕ) (k : TrapKind) (c : ℕ) → decode bytes ≡ ByRunner (Trap k c) → T.runner ≡ Runs s q → Moves L T bytes n
  by_trap s q k c i h = go (of_thread Unset (λ t. manager k t.managers) s T.threads) refl
    where
      does : Manager → Tables
      does = by_manager (end s T) (λ x. deliver (notice x s c) (stop s (Trapped k) T))

      served : (m : Manager) → of_thread Unset (λ t. manager k t.managers) s T.threads ≡ m →
          (act T (ByRunner (Trap k c))).tables ≡ does m
      served m e = unfold act serve me trap in (ap (λ (x : Runner). trap (me x) k c T) h ∙ ap does e)

      go : (m : Manager) → of_thread Unset (λ t. manager k t.managers) s T.threads ≡ m → Moves L T bytes n
      go Unset e = by_end _ i s (served Unset e)
      go (Set x) e =
          by_deliver _ i (notice x s c) (stop s (Trapped k) T) (unfold stop change in
          refl) (ap (λ (U : Tables). U.messages) (served (Set x) e))
          (λ j. unfold handed_as in a_notice fine h i (e ∙ ap Set j))
      go Gone e = by_end _ i s (served Gone e)

  by_set : (s q : ℕ) (k : TrapKind) (x : ℕ) → decode bytes ≡ ByRunner (SetManager k x) → T.runner ≡ Runs s q → Moves L T bytes n
  by_set s q k x i h = go (of_thread Unset (λ t. manager k t.managers) s T.threads) refl
    where
      served : (m : Manager) → of_thread Unset (λ t. manager k t.managers) s T.threads ≡ m →
          (act T (ByRunner (SetManager k x))).tables ≡ (set_over m s k x T).tables
      served m e = unfold act serve me in
          (ap (λ (v : Runner). (set_manager (me v) k x T).tables) h ∙ ap (λ (g : Manager). (set_over g s k x T).tables) e)

      go : (m : Manager) → of_thread Unset (λ t. manager k t.managers) s T.threads ≡ m → Moves L T bytes n
      go Unset e = same_messages _ i (ap (λ (U : Tables). U.messages) (served Unset e) ∙ unfold set_over change in refl)
      go (Set m) e = by_end _ i s (served (Set m) e ∙ unfold set_over in refl)
      go Gone e = by_end _ i s (served Gone e ∙ unfold set_over in refl)

  by_call : (c : Call) (s q : ℕ) → decode bytes ≡ ByRunner c → T.runner ≡ Runs s q → Moves L T bytes n
  by_call (Send to w) s q i h = by_send s q to w i h
  by_call (Receive w) s q i h = by_receive s q w i h
  by_call CreateBrother s q i h = same_messages _ i (unfold act serve create in refl)
  by_call CreateSon s q i h = same_messages _ i (unfold act serve create in refl)
  by_call (Terminate Oneself) s q i h = by_end _ i (me T.runner) (unfold act serve terminate in refl)
  by_call (Terminate (Named x)) s q i h = by_end _ i x (unfold act serve terminate in refl)
  by_call (SetManager k x) s q i h = by_set s q k x i h
  by_call GetCpuTime s q i h = same_messages _ i (unfold act serve in refl)
  by_call WaitForClock s q i h = same_messages _ i (unfold act serve wait_for_clock stop change in refl)
  by_call (WaitForIo d) s q i h = same_messages _ i (go (pull (held_for d) T.held) refl)
    where
      go : (x : Pulled Held) → pull (held_for d) T.held ≡ x → (act T (ByRunner (WaitForIo d))).tables.messages ≡ T.messages
      go missing j = unfold act serve take_held stop change in
          ap (λ (x : Pulled Held). (take_held (me T.runner) d T x).tables.messages) j
      go (pulled y ys) j = unfold act serve take_held stop change in
          ap (λ (x : Pulled Held). (take_held (me T.runner) d T x).tables.messages) j
  by_call (Trap k c) s q i h = by_trap s q k c i h

  moves_by : (e : Event) → decode bytes ≡ e → Moves L T bytes n
  moves_by Malformed i = same_messages _ i (unfold act in refl)
  moves_by (ByRunner c) i = let C = called L T c (ap (refusal L T) (sym i) ∙ r) in by_call c C.name C.slice i C.runner
  moves_by Tick i = same_messages _ i (unfold act in tick_messages T)
  moves_by (Interrupt d w) i = same_messages _ i (unfold act interrupt wake_those in
      by_if (λ (U : Tables). U.messages ≡ T.messages) (any (waits_for d) T.threads) (λ _. refl) (λ _. refl))

-- ---- the laws

accepted_was : (L : Limits) (T : Tables) (bytes : List ℕ) → (step L T bytes).decision.refusal ≡ 0 → refusal L T (decode bytes) ≡ 0
accepted_was L T bytes e = sym (decision_gives_it L T bytes) ∙ e

-- From tables that meet the rules: what any event does to any inbox.
pub inbox_moves : (L : Limits) (T : Tables) (bytes : List ℕ) (n : ℕ) → table_rules L T ≡ true → Moves L T bytes n
inbox_moves L T bytes n h = go (refusal L T (decode bytes)) refl
  where
    go : (r : ℕ) → refusal L T (decode bytes) ≡ r → Moves L T bytes n
    go zero e = moves_by L T (tested_ruled L T h) bytes n e (decode bytes) refl
    go (suc r) e = unchanged (unfold step settle in ap (λ (x : ℕ). inbox n (settle x T (decode bytes)).tables) e)

-- A receive that is accepted takes, if there is one that is wanted in the inbox of the runner, the oldest that is wanted.
pub oldest_is_taken : (L : Limits) (T : Tables) (bytes : List ℕ) (n q : ℕ) (w : Wanted) → table_rules L T ≡ true →
    (step L T bytes).decision.refusal ≡ 0 →
    T.runner ≡ Runs n q → decode bytes ≡ ByRunner (Receive w) → any (wanted_from w) (inbox n T) ≡ true → Taken L T bytes n
oldest_is_taken L T bytes n q w h a r e k = takes L T (tested_ruled L T h) bytes n (accepted_was L T bytes a) n q w e r refl k

-- From anybody, that is the oldest of all.
pub anybody_takes_the_first : (L : Limits) (T : Tables) (bytes : List ℕ) (n : ℕ) (X : Taken L T bytes n) → X.wanted ≡ Anybody →
    X.before ≡ []
anybody_takes_the_first L T bytes n X e = go X.before (subst (λ (w : Wanted). any (wanted_from w) X.before ≡ false) e X.none)
  where
    go : (l : List Message) → any (wanted_from Anybody) l ≡ false → l ≡ []
    go [] h = refl
    go (x ∷ l) h = unfold any in absurd (true≢false h)

-- A message that is sent, is no decision and does not find its receiver waiting for it joins the end of the receiver's inbox.
pub message_joins_the_end : (L : Limits) (T : Tables) (bytes : List ℕ) (s q n w : ℕ) → table_rules L T ≡ true →
    (step L T bytes).decision.refusal ≡ 0 →
    T.runner ≡ Runs s q → decode bytes ≡ ByRunner (Send n w) → decides s n T ≡ false → any (accepts (message n s w)) T.threads ≡ false →
    inbox n (step L T bytes).tables ≡ inbox n T ++ (message n s w ∷ [])
message_joins_the_end L T bytes s q n w h a r e d k =
    after_event L T R bytes n (accepted_was L T bytes a) (ByRunner (Send n w)) e
    ∙ ap (inbox n) served
    ∙ unfold queue in joins_end (message n s w) T.messages R.fits.order
  where
    R : Ruled L T
    R = tested_ruled L T h

    served : (act T (ByRunner (Send n w))).tables ≡ queue (message n s w) T
    served =
        unfold act serve me send deliver in
        (ap (λ (x : Runner). send (me x) n w T) r
        ∙ ap (λ (b : Bool). if b then decide s n w T else deliver (message n s w) T) d
        ∙ ap (λ (b : Bool). if b then wake_by_name (accepts (message n s w)) (λ t. handed (message n s w)) T else queue (message n s w) T)
        k)

-- So does the notice of a trap in the inbox of the manager.
pub notice_joins_the_end : (L : Limits) (T : Tables) (bytes : List ℕ) (s q n c : ℕ) (k : TrapKind) → table_rules L T ≡ true →
    (step L T bytes).decision.refusal ≡ 0 →
    T.runner ≡ Runs s q → decode bytes ≡ ByRunner (Trap k c) → of_thread Unset (λ t. manager k t.managers) s T.threads ≡ Set n →
    any (accepts (notice n s c)) T.threads ≡ false →
    inbox n (step L T bytes).tables ≡ inbox n T ++ (notice n s c ∷ [])
notice_joins_the_end L T bytes s q n c k h a r e g o =
    after_event L T R bytes n (accepted_was L T bytes a) (ByRunner (Trap k c)) e
    ∙ ap (inbox n) (served ∙ queued)
    ∙ unfold queue stop change in joins_end (notice n s c) T.messages R.fits.order
  where
    R : Ruled L T
    R = tested_ruled L T h

    U : Tables
    U = stop s (Trapped k) T

    served : (act T (ByRunner (Trap k c))).tables ≡ deliver (notice n s c) U
    served = unfold act serve me trap in
        (ap (λ (x : Runner). trap (me x) k c T) r ∙ ap (by_manager (end s T) (λ x. deliver (notice x s c) (stop s (Trapped k) T))) g)

    -- who traps accepts nothing then
    nobody : any (accepts (notice n s c)) U.threads ≡ false
    nobody = none_any (accepts (notice n s c)) U.threads (λ u i. one u (unfold stop change in
        mem_map (turned (named s) (in_state (Trapped k) Nothing)) T.threads i))
      where
        one : (u : Thread) → (t : Thread) × Memᴰ t T.threads × (u ≡ turned (named s) (in_state (Trapped k) Nothing) t) →
            accepts (notice n s c) u ≡ false
        one u x =
            ap (accepts (notice n s c)) x.2
            ∙ by_if (λ (v : Thread). accepts (notice n s c) v ≡ false) (named s x.0) (λ _. unfold receives in
            and_false (named n x.0)) (λ _. not_any (accepts (notice n s c)) T.threads x.0 o x.1)

    queued : deliver (notice n s c) U ≡ queue (notice n s c) U
    queued = unfold deliver in
        ap (λ (b : Bool). if b then wake_by_name (accepts (notice n s c)) (λ t. handed (notice n s c)) U else queue (notice n s c) U) nobody

-- ---- along a run

-- what is taken is the first of its sender
first_of_sender : (w : Wanted) (x : Message) (b : List Message) → any (wanted_from w) b ≡ false → wanted_from w x ≡ true →
    of_sender x.from b ≡ []
first_of_sender Anybody x [] h e = unfold keep in refl
first_of_sender Anybody x (y ∷ b) h e = unfold any in absurd (true≢false h)
first_of_sender (Only g) x b h e =
    keep_none_of (λ m. m.from == x.from) b
    (λ y i. ne_eqb y.from x.from
    (λ k. clash (eq-eqb g y.from (eqb-true g x.from e ∙ sym k)) (not_any (wanted_from (Only g)) b y h i)))

-- one is taken from a list, and the rest of the account is as before
passes_one : (f : ℕ) (w : Wanted) (b : List Message) (x : Message) (c old new ins more rest : List Message) →
    old ≡ b ++ (x ∷ c) → new ≡ b ++ c → any (wanted_from w) b ≡ false → wanted_from w x ≡ true →
    of_sender f new ++ ins ≡ of_sender f more ++ rest → of_sender f old ++ ins ≡ of_sender f (x ∷ more) ++ rest
passes_one f w b x c old new ins more rest was left none fits h = ⊎_elim own another (same? x.from f)
  where
    from : Message → Bool
    from m = m.from == f

    own : (x.from ≡ f) × ((x.from == f) ≡ true) → of_sender f old ++ ins ≡ of_sender f (x ∷ more) ++ rest
    own d = ap (λ (l : List Message). l ++ ins) old_is ∙ ap (λ (l : List Message). x ∷ (l ++ ins)) (sym new_is)
        ∙ ap (λ (l : List Message). x ∷ l) h ∙ ap (λ (l : List Message). l ++ rest) (sym (keep_yes from x more d.1))
      where
        before : of_sender f b ≡ []
        before = subst (λ (y : ℕ). of_sender y b ≡ []) d.0 (first_of_sender w x b none fits)

        old_is : of_sender f old ≡ x ∷ of_sender f c
        old_is = ap (of_sender f) was ∙ keep_append from b (x ∷ c) ∙ ap (λ (l : List Message). l ++ of_sender f (x ∷ c)) before
            ∙ keep_yes from x c d.1

        new_is : of_sender f new ≡ of_sender f c
        new_is = ap (of_sender f) left ∙ keep_append from b c ∙ ap (λ (l : List Message). l ++ of_sender f c) before

    another : (x.from ≢ f) × ((x.from == f) ≡ false) → of_sender f old ++ ins ≡ of_sender f (x ∷ more) ++ rest
    another d = ap (λ (l : List Message). l ++ ins) same ∙ h ∙ ap (λ (l : List Message). l ++ rest) (sym (keep_no from x more d.1))
      where
        same : of_sender f old ≡ of_sender f new
        same =
            ap (of_sender f) was ∙ keep_append from b (x ∷ c) ∙ ap (λ (l : List Message). of_sender f b ++ l) (keep_no from x c d.1)
            ∙ sym (ap (of_sender f) left ∙ keep_append from b c)

module _ (L : Limits) (n f : ℕ) where
  -- Each sender's messages and notices are handed over in the order in which they joined the inbox, each once: those that were there
  -- and those that joined are, in this order, those that were taken and then those that are there at the end.
  pub first_in_first_out : (T : Tables) (es : Input) (ins outs : List Message) → Passes L n T es ins outs →
      of_sender f (inbox n T) ++ of_sender f ins ≡ of_sender f outs ++ of_sender f (inbox n (run L T es))
  unfolding run
  first_in_first_out T es ins outs (over U) = unfold keep in append-nil (of_sender f (inbox n T))
  first_in_first_out T (e ∷ es) ins outs (stays U d ds i p) =
      ap (λ (l : List Message). of_sender f l ++ of_sender f ins) (sym i) ∙ first_in_first_out (step L T e).tables es ins outs p
  first_in_first_out T (e ∷ es) ins outs (comes U d ds {ins = more} m s i p) =
      ap (λ (l : List Message). of_sender f (inbox n T) ++ l) (keep_append (λ x. x.from == f) (m ∷ []) more)
      ∙ sym (append_assoc (of_sender f (inbox n T)) (of_sender f (m ∷ [])) (of_sender f more))
      ∙ ap (λ (l : List Message). l ++ of_sender f more) (sym (keep_append (λ x. x.from == f) (inbox n T) (m ∷ [])))
      ∙ ap (λ (l : List Message). of_sender f l ++ of_sender f more) (sym i)
      ∙ first_in_first_out (step L T e).tables es more outs p
  first_in_first_out T (e ∷ es) ins outs (goes U d ds {outs = more} X p) =
      passes_one f X.wanted X.before X.oldest X.after (inbox n T) (inbox n (step L T e).tables) (of_sender f ins) more
      (of_sender f (inbox n (run L (step L T e).tables es)))
      X.was X.left X.none X.fits (first_in_first_out (step L T e).tables es ins more p)

-- Along any run from tables that meet the rules, an inbox passes on what joins it, unless an event discards.
pub passes_or_discards : (L : Limits) (n : ℕ) → L.threads < names → (T : Tables) (es : Input) → table_rules L T ≡ true →
    ((ins : List Message) × (outs : List Message) × Passes L n T es ins outs) ⊎ Discards L T es
passes_or_discards L n few T [] h = inl ([], [], over T)
passes_or_discards L n few T (e ∷ es) h =
    go (inbox_moves L T e n h) (passes_or_discards L n few (step L T e).tables es (rules_are_kept L T e few h))
  where
    go : Moves L T e n → ((ins : List Message) × (outs : List Message) × Passes L n (step L T e).tables es ins outs)
        ⊎ Discards L (step L T e).tables es →
        ((ins : List Message) × (outs : List Message) × Passes L n T (e ∷ es) ins outs) ⊎ Discards L T (e ∷ es)
    go (unchanged i) r = ⊎_elim (λ p. inl (p.0, p.1, stays T e es i p.2)) (λ d. inr (later T e es d)) r
    go (joined m s i) r = ⊎_elim (λ p. inl (m ∷ p.0, p.1, comes T e es m s i p.2)) (λ d. inr (later T e es d)) r
    go (taken X) r = ⊎_elim (λ p. inl (p.0, X.oldest ∷ p.1, goes T e es X p.2)) (λ d. inr (later T e es d)) r
    go (discarded x i k) r = inr (by_ending T e es x i)
    go (decision s q x i j k l) r = inr (by_decision T e es s q x i j k)
