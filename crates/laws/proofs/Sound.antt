-- The test `table_rules` passes exactly if the rules hold as types.
use Rattle.std.proofs.Common.{◌==◌}
use Prim.Native.Nat.{ℕ, ◌≤◌, ◌<◌}
use mathlib.Core.Path.{◌≡◌, refl, sym, ap, ◌∙◌}
use mathlib.Core.Logic.{⊎_elim}
use mathlib.Core.Bool.{Bool, true, false, ◌&&◌, ◌||◌, not, false≢true}
use mathlib.Core.List.Memᴰ.{head}
use mathlib.Core.List.Memᴰ.{tail}
use mathlib.Core.List.{List, [], ◌∷◌, Memᴰ}
use native.Mathlib.Omega.{arith}
use lib.Dec.{leb, ltb}
use lib.ListN.{length}
use borrow.Author.Tests.{eqb-true, eqb-false, eq-eqb, ne_eqb, leb-true, le-leb, ltb-true, lt-ltb}
use Rattle.rules.specs.Lists.{all, any, count, chain}
use Rattle.rules.specs.Numbers.{names, full_slice, beat_ticks, devices, wrap}
use Rattle.laws.specs.Words.{Limits}
use Rattle.rules.specs.Tables.{Tables, named, live, manager}
use Rattle.rules.specs.States.{is_ready, awaits}
use Rattle.rules.specs.Waking.{is_ordinary, blocks_used, notice_of}
use Rattle.rules.specs.TableRules.{state_in_range, ranges, names_right, parents_right, places_agree, devices_right, wanted_live}
use Rattle.rules.specs.TableRules.{entry_right, entries_right, names_live, manager_set, trapped_right, no_match, inboxes_right}
use Rattle.rules.specs.TableRules.{messages_right, notices_right, runner_right, answer_in_range, is_nothing, answers_right, orders_right}
use Rattle.rules.specs.TableRules.{table_tests, table_rules}
use Rattle.laws.specs.Words.{TrapKind, Program, Tlb, SysBp, State, Running, Ready, Receiving, Clock, Device, Trapped, Answer, Nothing}
use Rattle.laws.specs.Words.{FromMessage, FromNotice, SenderGone, Result, Manager, Unset, Set, Gone, Managers, Thread, Message, Held}
use Rattle.laws.specs.Words.{Runner, NoRunner, Runs}
use Rattle.laws.specs.Types.{Inv, Steady, Entry, Detail, Right, Post, Good, Fits, Ruled}
use Rattle.laws.proofs.Tests.{clash, and_left, and_right, ◌&◌, three, six, or_cases, not_true}
use Rattle.laws.proofs.Tally.{none_count, any_member, member_any, none_any, all_of, all_at, any_only}
use Rattle.laws.proofs.Ordered.{up_once}
use Rattle.laws.proofs.Threads.{member_live, live_member}
use Rattle.laws.proofs.Descent.{family_tested, tested_family}
use Rattle.laws.proofs.Tested.{tested_places, places_tested, tested_devices, devices_tested}

-- ---- from the test to the types, a value at a time

nothing_is : (a : Answer) → is_nothing a ≡ true → a ≡ Nothing
unfolding is_nothing
nothing_is Nothing h = refl
nothing_is (FromMessage n w) h = absurd (false≢true h)
nothing_is (FromNotice n w) h = absurd (false≢true h)
nothing_is (SenderGone n) h = absurd (false≢true h)
nothing_is (Result w) h = absurd (false≢true h)

empty_is : (q : List ℕ) → length q ≡ 0 → q ≡ []
empty_is [] e = refl
empty_is (x ∷ q) e = absurd (omega arith)

module _ (T : Tables) where
  tested_entry : (own : ℕ) (m : Manager) → entry_right T own m ≡ true → Entry T.threads own m
  unfolding Entry
  tested_entry own Unset h = tt
  tested_entry own (Set n) h = (and_left (live n T) _ h, eqb-false n own (not_true _ (and_right (live n T) _ h)))
  tested_entry own Gone h = tt

  tested_entries : (t : Thread) → entries_right T t ≡ true → (k : TrapKind) → Entry T.threads t.name (manager k t.managers)
  unfolding manager
  tested_entries t h k = each k
    where
      parts : (entry_right T t.name t.managers.program ≡ true) × (entry_right T t.name t.managers.tlb ≡ true)
          × (entry_right T t.name t.managers.sysbp ≡ true)
      parts = three _ _ _ h

      each : (k : TrapKind) → Entry T.threads t.name (manager k t.managers)
      each Program = tested_entry t.name t.managers.program parts.0
      each Tlb = tested_entry t.name t.managers.tlb parts.1
      each SysBp = tested_entry t.name t.managers.sysbp parts.2

  tested_detail : (n : ℕ) (g : Managers) (s : State) → state_in_range s ≡ true → wanted_live T s ≡ true → manager_set g s ≡ true →
      no_match T.messages n s ≡ true → Detail T.threads T.messages n g s
  unfolding state_in_range wanted_live manager_set no_match Detail
  tested_detail n g Running a b c d = tt
  tested_detail n g Ready a b c d = tt
  tested_detail n g (Receiving w) a b c d = (b, not_true _ d)
  tested_detail n g Clock a b c d = tt
  tested_detail n g (Device e) a b c d = ltb-true e devices a
  tested_detail n g (Trapped k) a b c d = c

module _ (L : Limits) (T : Tables) (pass : table_rules L T ≡ true) where
  -- ---- the tests, each by its place in the list

  test : (b : Bool) → Memᴰ b (table_tests L T) → b ≡ true
  unfolding table_rules
  test b m = all_at (λ x. x) (table_tests L T) pass b m

  test_7 : (b : Bool) → Memᴰ b (inboxes_right T ∷ messages_right L T ∷ notices_right T ∷ runner_right T.ready T.runner
      ∷ answers_right T ∷ orders_right T ∷ []) → b ≡ true
  test_7 b m = test b (tail (tail (tail (tail (tail (tail (tail m)))))))

  ranged : (ltb T.last names ≡ true) × (ltb T.since beat_ticks ≡ true) × (ltb T.beats wrap ≡ true)
      × (all (λ t. ltb t.ticks wrap && state_in_range t.state) T.threads ≡ true)
      × (all (λ m. ltb m.word wrap) T.messages ≡ true)
      × (all (λ h. ltb h.device devices && ltb h.word wrap) T.held ≡ true)
  ranged = six _ _ _ _ _ _ (test (ranges T) (head refl))

  naming : (chain (λ t u. ltb t.name u.name) T.threads ≡ true) × (all (λ t. ltb t.name names) T.threads ≡ true)
      × (leb (length T.threads) L.threads ≡ true)
  naming = three _ _ _ (test (names_right L T) (tail (head refl)))

  once : (n : ℕ) → count (named n) T.threads ≤ 1
  once n = up_once (λ t. t.name) n T.threads naming.0

  state_ranged : (t : Thread) → Memᴰ t T.threads → (ltb t.ticks wrap ≡ true) × (state_in_range t.state ≡ true)
  state_ranged t m = let h = all_at _ T.threads ranged.3 t m in (and_left _ _ h, and_right (ltb t.ticks wrap) _ h)

  held_ranged : (h : Held) → Memᴰ h T.held → (h.device < devices) × (h.word < wrap)
  held_ranged x m = let h = all_at _ T.held ranged.5 x m in
      (ltb-true x.device devices (and_left _ _ h), ltb-true x.word wrap (and_right (ltb x.device devices) _ h))

  living : (t : Thread) → Memᴰ t T.threads → (wanted_live T t.state ≡ true) × (entries_right T t ≡ true)
  living t m =
      let h = all_at (λ t. wanted_live T t.state && entries_right T t) T.threads
      (test (names_live T) (tail (tail (tail (tail (tail (head refl))))))) t m in
      (and_left (wanted_live T t.state) (entries_right T t) h, and_right (wanted_live T t.state) (entries_right T t) h)

  trapped : (t : Thread) → Memᴰ t T.threads → manager_set t.managers t.state ≡ true
  trapped t m = all_at (λ t. manager_set t.managers t.state) T.threads
      (test (trapped_right T) (tail (tail (tail (tail (tail (tail (head refl)))))))) t m

  inbox : (t : Thread) → Memᴰ t T.threads → no_match T.messages t.name t.state ≡ true
  inbox t m = all_at (λ t. no_match T.messages t.name t.state) T.threads (test_7 (inboxes_right T) (head refl)) t m

  posted : (all (λ m. live m.to T && live m.from T) T.messages ≡ true) × (leb (blocks_used T) L.blocks ≡ true)
  posted = let h = test_7 (messages_right L T) (tail (head refl)) in
      (and_left _ _ h, and_right (all (λ m. live m.to T && live m.from T) T.messages) _ h)

  noticed : (all (λ m. is_ordinary m.kind || any (λ t. named m.from t && awaits m.to t) T.threads) T.messages ≡ true)
      × (all (λ t. leb (count (notice_of t.name) T.messages) 1) T.threads ≡ true)
  noticed = let h = test_7 (notices_right T) (tail (tail (head refl))) in (
    and_left _ _ h,
    and_right (all (λ m. is_ordinary m.kind || any (λ t. named m.from t && awaits m.to t) T.threads)
        T.messages) _ h,
  )

  served : runner_right T.ready T.runner ≡ true
  served = test_7 _ (tail (tail (tail (head refl))))

  answered : (t : Thread) → Memᴰ t T.threads → (answer_in_range t.answer ≡ true)
      × ((is_ready t.state || is_nothing t.answer) ≡ true)
  answered t m =
      let h = all_at (λ t. answer_in_range t.answer && (is_ready t.state || is_nothing t.answer)) T.threads
      (test_7 (answers_right T) (tail (tail (tail (tail (head refl)))))) t m in
      (and_left (answer_in_range t.answer) _ h, and_right (answer_in_range t.answer) _ h)

  ordered : (chain (λ m n. leb m.to n.to) T.messages ≡ true) × (chain (λ h k. ltb h.device k.device) T.held ≡ true)
  ordered = let h = test_7 (orders_right T) (tail (tail (tail (tail (tail (head refl)))))) in
      (and_left _ _ h, and_right (chain (λ m n. leb m.to n.to) T.messages) _ h)

  -- ---- the types

  tested_inv : Inv L T
  tested_inv = record {
    agree = tested_places T once (test (places_agree T) (tail (tail (tail (head refl)))));
    low = λ n h. let r = live_member T.threads n h in
        omega (arith, ltb-true r.0.name names (all_at (λ t. ltb t.name names) T.threads naming.1 r.0 r.1), r.2);
    few = leb-true (length T.threads) L.threads naming.2;
    last = ltb-true T.last names ranged.0;
  }

  tested_steady : Steady T
  tested_steady = record {
    slice = λ n s e. let h : (leb 1 s && leb s full_slice) ≡ true = rw e at served in
        (leb-true 1 s (and_left (leb 1 s) _ h), leb-true s full_slice (and_right (leb 1 s) _ h));
    quiet = λ e. let h : (length T.ready == 0) ≡ true = rw e at served in empty_is T.ready (eqb-true (length T.ready) 0 h);
    since = ltb-true T.since beat_ticks ranged.1;
    beats = ltb-true T.beats wrap ranged.2;
  }

  tested_right : (t : Thread) → Memᴰ t T.threads → Right T.threads T.messages t
  tested_right t m = record {
    entries = tested_entries T t (living t m).1;
    detail = tested_detail T t.name t.managers t.state (state_ranged t m).1 (living t m).0 (trapped t m) (inbox t m);
    answer = λ f. ⊎_elim (λ e. absurd (clash e f)) (nothing_is t.answer)
        (or_cases (is_ready t.state) (is_nothing t.answer) (answered t m).1);
    form = (answered t m).0;
    ticks = ltb-true t.ticks wrap (state_ranged t m).0;
  }

  senders : (m : Message) → Memᴰ m T.messages → (live m.to T ≡ true) × (live m.from T ≡ true)
  senders m i = let h = all_at (λ m. live m.to T && live m.from T) T.messages posted.0 m i in
      (and_left (live m.to T) (live m.from T) h, and_right (live m.to T) (live m.from T) h)

  tested_post : (m : Message) → Memᴰ m T.messages → Post T.threads m
  tested_post m i = record {
    to_live = (senders m i).0;
    from_live = (senders m i).1;
    word = ltb-true m.word wrap (all_at (λ x. ltb x.word wrap) T.messages ranged.4 m i);
    notice = λ f t j e. sym (any_only (named m.from) (awaits m.to) T.threads (once m.from) t j
        (eq-eqb m.from t.name (sym e))) ∙ waited f;
  }
    where
      waited : is_ordinary m.kind ≡ false → any (λ t. named m.from t && awaits m.to t) T.threads ≡ true
      waited f = ⊎_elim (λ e. absurd (clash e f)) (λ e. e)
          (or_cases (is_ordinary m.kind) _
          (all_at (λ x. is_ordinary x.kind || any (λ t. named x.from t && awaits x.to t) T.threads) T.messages noticed.0 m
          i))

  -- of a name that nobody has there is no notice, since senders live
  tested_notices : (n : ℕ) → count (notice_of n) T.messages ≤ 1
  tested_notices n = go (live n T) refl
    where
      none : live n T ≡ false → (m : Message) → Memᴰ m T.messages → (b : Bool) → notice_of n m ≡ b → b ≡ false
      none f m i false e = refl
      none f m i true e = absurd (clash (senders m i).1
          (ap (λ (x : ℕ). live x T) (eqb-true m.from n (and_right (not (is_ordinary m.kind)) _ e)) ∙ f))

      go : (b : Bool) → live n T ≡ b → count (notice_of n) T.messages ≤ 1
      go true e =
          let r = live_member T.threads n e in
          omega (
            arith,
            leb-true (count (notice_of r.0.name) T.messages) 1
                (all_at (λ t. leb (count (notice_of t.name) T.messages) 1) T.threads noticed.1 r.0 r.1),
            ap (λ (x : ℕ). count (notice_of x) T.messages) r.2,
          )
      go false e = omega (
        arith,
        none_count (notice_of n) T.messages
            (none_any (notice_of n) T.messages (λ m i. none e m i (notice_of n m) refl)),
      )

  tested_fits : Fits L T
  tested_fits = record {
    family = tested_family T once (test (parents_right T) (tail (tail (head refl))));
    threads = tested_right;
    waiters = tested_devices T (λ t m. (state_ranged t m).1) (λ h i. (held_ranged h i).0)
        (test (devices_right T) (tail (tail (tail (tail (head refl))))));
    messages = tested_post;
    notices = tested_notices;
    blocks = leb-true (blocks_used T) L.blocks posted.1;
    rising = naming.0;
    order = ordered.0;
    held = held_ranged;
    held_order = ordered.1;
  }

-- ---- from the types to the test

module _ (T : Tables) where
  entry_tested : (own : ℕ) (m : Manager) → Entry T.threads own m → entry_right T own m ≡ true
  unfolding Entry
  entry_tested own Unset h = refl
  entry_tested own (Set n) h = h.0 & ap not (ne_eqb n own h.1)
  entry_tested own Gone h = refl

  entries_tested : (t : Thread) → ((k : TrapKind) → Entry T.threads t.name (manager k t.managers)) → entries_right T t ≡ true
  unfolding manager
  entries_tested t h = entry_tested t.name t.managers.program (h Program) & entry_tested t.name t.managers.tlb (h Tlb)
      & entry_tested t.name t.managers.sysbp (h SysBp)

  detail_tested : (n : ℕ) (g : Managers) (s : State) → Detail T.threads T.messages n g s → (state_in_range s ≡ true)
      × (wanted_live T s ≡ true) × (manager_set g s ≡ true) × (no_match T.messages n s ≡ true)
  unfolding state_in_range wanted_live manager_set no_match Detail
  detail_tested n g Running d = (refl, refl, refl, refl)
  detail_tested n g Ready d = (refl, refl, refl, refl)
  detail_tested n g (Receiving w) d = (refl, d.0, refl, ap not d.1)
  detail_tested n g Clock d = (refl, refl, refl, refl)
  detail_tested n g (Device e) d = (lt-ltb e devices d, refl, refl, refl)
  detail_tested n g (Trapped k) d = (refl, refl, d, refl)

  runner_tested : (r : Runner) → T.runner ≡ r → Steady T → runner_right T.ready r ≡ true
  runner_tested NoRunner e S = eq-eqb (length T.ready) 0 (ap length (S.quiet e))
  runner_tested (Runs n s) e S = le-leb 1 s (S.slice n s e).0 & le-leb s full_slice (S.slice n s e).1

nothing_tested : (s : State) (a : Answer) → (is_ready s ≡ false → a ≡ Nothing) → (is_ready s || is_nothing a) ≡ true
unfolding is_nothing
nothing_tested s a h = go (is_ready s) refl
  where
    go : (b : Bool) → is_ready s ≡ b → (b || is_nothing a) ≡ true
    go true e = refl
    go false e = ap is_nothing (h e)

module _ {L : Limits} {T : Tables} (R : Ruled L T) where
  I : Inv L T
  I = R.inv

  G : Good L.blocks T.threads T.messages T.held
  G = R.fits

  detailed : (t : Thread) → Memᴰ t T.threads → (state_in_range t.state ≡ true) × (wanted_live T t.state ≡ true)
      × (manager_set t.managers t.state ≡ true) × (no_match T.messages t.name t.state ≡ true)
  detailed t m = detail_tested T t.name t.managers t.state (G.threads t m).detail

  ranges_tested : ranges T ≡ true
  ranges_tested =
      lt-ltb T.last names I.last & lt-ltb T.since beat_ticks R.steady.since & lt-ltb T.beats wrap R.steady.beats
      & all_of _ T.threads (λ t m. lt-ltb t.ticks wrap (G.threads t m).ticks & (detailed t m).0)
      & all_of _ T.messages (λ m i. lt-ltb m.word wrap (G.messages m i).word)
      & all_of _ T.held (λ h i. lt-ltb h.device devices (G.held h i).0 & lt-ltb h.word wrap (G.held h i).1)

  names_tested : names_right L T ≡ true
  names_tested =
      G.rising & all_of _ T.threads (λ t m. lt-ltb t.name names (I.low t.name (member_live T.threads t m)))
      & le-leb (length T.threads) L.threads I.few

  live_tested : names_live T ≡ true
  live_tested = all_of _ T.threads (λ t m. (detailed t m).1 & entries_tested T t (G.threads t m).entries)

  messages_tested : messages_right L T ≡ true
  messages_tested =
      all_of _ T.messages (λ m i. (G.messages m i).to_live & (G.messages m i).from_live) & le-leb (blocks_used T) L.blocks G.blocks

  notice_tested : (m : Message) → Memᴰ m T.messages →
      (is_ordinary m.kind || any (λ t. named m.from t && awaits m.to t) T.threads) ≡ true
  notice_tested m i = go (is_ordinary m.kind) refl
    where
      go : (b : Bool) → is_ordinary m.kind ≡ b → (b || any (λ t. named m.from t && awaits m.to t) T.threads) ≡ true
      go true e = refl
      go false e =
          let P = G.messages m i in
          let r = any_member (named m.from) T.threads P.from_live in
          member_any (λ t. named m.from t && awaits m.to t) T.threads r.0 r.1
          (r.2 & P.notice e r.0 r.1 (sym (eqb-true m.from r.0.name r.2)))

  notices_tested : notices_right T ≡ true
  notices_tested = all_of _ T.messages notice_tested & all_of _ T.threads (λ t m. le-leb _ 1 (G.notices t.name))

  answers_tested : answers_right T ≡ true
  answers_tested = all_of _ T.threads (λ t m. (G.threads t m).form & nothing_tested t.state t.answer (G.threads t m).answer)

-- ---- both ways

-- Tables that pass the test obey the rules.
pub tested_ruled : (L : Limits) (T : Tables) → table_rules L T ≡ true → Ruled L T
tested_ruled L T h = record { inv = tested_inv L T h; steady = tested_steady L T h; fits = tested_fits L T h }

-- Tables that obey the rules pass the test.
pub ruled_tested : {L : Limits} {T : Tables} → Ruled L T → table_rules L T ≡ true
unfolding table_rules all
ruled_tested {L} {T} R =
    ranges_tested R & (names_tested R
    & (family_tested T R.fits.family & (places_tested T R.inv.agree & (devices_tested T R.fits.waiters
    & (live_tested R & (all_of _ T.threads (λ t m. (detailed R t m).2) & (all_of _ T.threads (λ t m. (detailed R t m).3)
    & (messages_tested R & (notices_tested R
    & (runner_tested T T.runner refl R.steady & (answers_tested R & (R.fits.order & R.fits.held_order & refl))))))))))))
