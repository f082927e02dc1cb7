-- Ending keeps the rules of families, managers, messages and notices; and thread 0 lives as long as any thread does.
use Rattle.std.proofs.Common.{◌==◌}
use Prim.Native.Nat.{ℕ, zero, suc, ◌≤◌, ◌<◌}
use mathlib.Core.Path.{◌≡◌, refl, sym, ap, ◌∙◌, subst}
use mathlib.Core.Logic.{⊎_elim, ◌≢◌}
use mathlib.Core.Bool.{true, false, ◌||◌, not, true≢false, false≢true}
use mathlib.Core.List.{List, map, Memᴰ}
use native.Mathlib.Omega.{arith}
use borrow.Author.Tests.{eqb-true, eq-eqb, lt-ltb}
use Rattle.rules.specs.Lists.{any, count, has}
use Rattle.rules.specs.Numbers.{names}
use Rattle.laws.specs.Words.{Limits}
use Rattle.rules.specs.Words.{by_manager}
use Rattle.rules.specs.Tables.{Tables, named, live, manager}
use Rattle.rules.specs.States.{is_ready, at_device, waits_for, trapped_on, awaits}
use Rattle.rules.specs.Waking.{wake_those, is_ordinary, notice_of}
use Rattle.rules.specs.Receive.{wanted_by}
use Rattle.rules.specs.Ending.{ended_set, gone_if, without_managers, remove, misses, told_gone, release, end}
use Rattle.rules.specs.TableRules.{answer_in_range}
use Rattle.laws.specs.Words.{Anybody, Only, TrapKind, State, Running, Ready, Receiving, Clock, Device, Trapped, Manager, Unset, Set}
use Rattle.laws.specs.Words.{Gone, Managers, Thread, Message, Held}
use Rattle.laws.specs.Types.{Inv, Entry, Detail, Right, Family, Good, Fits}
use Rattle.laws.specs.Closure.{Closed}
use Rattle.laws.proofs.Tests.{by_if, clash, same?}
use Rattle.laws.proofs.Tally.{count_map, count_less, count_keep_le, any_count, count_any, member_any, any_fewer, all_left}
use Rattle.laws.proofs.Ordered.{keep_less, up_less, up_map}
use Rattle.laws.proofs.Threads.{live_member, names_kept, left, put_name}
use Rattle.laws.proofs.Closure.{ended_set_closed}
use Rattle.laws.proofs.Ending.{freed, stay, stay_messages, gone_all, gone_manager, origin, message_left, parent_left, awaited_left}
use Rattle.laws.proofs.Right.{less_order}

-- ---- thread 0 lives as long as any thread does

top_lives : (ts : List Thread) (F : Family ts) (k : ℕ) (t : Thread) → Memᴰ t ts → F.depth t.name < k → any (named 0) ts ≡ true
top_lives ts F zero t m h = absurd (omega arith)
top_lives ts F (suc k) t m h =
    ⊎_elim (λ e. member_any (named 0) ts t m (eq-eqb 0 t.name (sym e.0))) (λ e. above e.0 (top_lives ts F k)) (same? t.name 0)
  where
    above : t.name ≢ 0 → ((u : Thread) → Memᴰ u ts → F.depth u.name < k → any (named 0) ts ≡ true) → any (named 0) ts ≡ true
    above d later =
        let q = F.under t m d in
        let r = live_member ts q.0 q.2 in
        later r.0 r.1 (omega (arith, q.3, ap F.depth r.2))

-- Where a thread lives, thread 0 lives.
pub zero_lives : {ts : List Thread} → Family ts → (n : ℕ) → any (named n) ts ≡ true → any (named 0) ts ≡ true
zero_lives {ts} F n h = let r = live_member ts n h in top_lives ts F (suc (F.depth r.0.name)) r.0 r.1 (omega arith)

-- ---- what stays, for any set

module _ (set : List ℕ) where
  -- who waits for a device has waited for it
  waited : (d : ℕ) (t : Thread) → waits_for d (freed set (without_managers set t)) ≡ true → waits_for d t ≡ true
  unfolding without_managers at_device
  waited d t =
      by_if (λ (u : Thread). waits_for d u ≡ true → waits_for d t ≡ true) (misses set t.state) (λ _ x. absurd (false≢true x)) (λ _ x. x)

  count_stay : (n : ℕ) (ts : List Thread) → has n set ≡ false → count (named n) (stay set ts) ≡ count (named n) ts
  count_stay n ts o =
      names_kept (freed set) (put_name (λ t. misses set t.state) Ready (λ t. told_gone t.state)) n
      (map (without_managers set) (left set ts))
      ∙ names_kept (without_managers set) (λ t. unfold without_managers in refl) n (left set ts)
      ∙ all_left (λ t. t.name) (λ x. has x set) (named n) n (λ t e. eqb-true n t.name e) o ts

  pub lives_on : (n : ℕ) (ts : List Thread) → any (named n) ts ≡ true → has n set ≡ false → any (named n) (stay set ts) ≡ true
  lives_on n ts h o = count_any (named n) (stay set ts) (omega (arith, any_count (named n) ts h, count_stay n ts o))

  entry_left : (ts : List Thread) (own : ℕ) (m : Manager) → Entry ts own m → Entry (stay set ts) own (gone_if set m)
  unfolding Entry gone_if
  entry_left ts own Unset e = tt
  entry_left ts own (Set n) e = by_if (Entry (stay set ts) own) (has n set) (λ _. tt) (λ o. (lives_on n ts e.0 o, e.1))
  entry_left ts own Gone e = tt

  -- the entry that a trapped thread waits for is set as before
  pub entry_stays : (x : Manager) → ((m : ℕ) → by_manager false (λ y. m == y) x ≡ true → has m set ≡ false) → gone_if set x ≡ x
  unfolding gone_if
  entry_stays Unset h = refl
  entry_stays (Set y) h = rw (h y (eq-eqb y y refl))
  entry_stays Gone h = refl

  module _ (g : Managers) where
    detail_left : (ts : List Thread) (ms : List Message) (n : ℕ) (s : State) →
        misses set s ≡ false → ((m : ℕ) → trapped_on m g s ≡ true → has m set ≡ false) → Detail ts ms n g s →
        Detail (stay set ts) (stay_messages set ms) n (gone_all set g) s
    unfolding Detail misses trapped_on
    detail_left ts ms n Running o a d = tt
    detail_left ts ms n Ready o a d = tt
    detail_left ts ms n (Receiving Anybody) o a d =
        (refl, any_fewer (wanted_by n Anybody) ms (stay_messages set ms) (keep_less _ ms).member d.1)
    detail_left ts ms n (Receiving (Only f)) o a d =
        (lives_on f ts d.0 o, any_fewer (wanted_by n (Only f)) ms (stay_messages set ms) (keep_less _ ms).member d.1)
    detail_left ts ms n Clock o a d = tt
    detail_left ts ms n (Device x) o a d = d
    detail_left ts ms n (Trapped k) o a d = ap (by_manager false (λ m. true)) (gone_manager set k g ∙ entry_stays (manager k g) a) ∙ d

    trap_stays : (s : State) → ((m : ℕ) → trapped_on m g s ≡ true → has m set ≡ false) → (n : ℕ) → trapped_on n g s ≡ true →
        trapped_on n (gone_all set g) s ≡ true
    unfolding trapped_on
    trap_stays Running a n e = e
    trap_stays Ready a n e = e
    trap_stays (Receiving w) a n e = e
    trap_stays Clock a n e = e
    trap_stays (Device d) a n e = e
    trap_stays (Trapped k) a n e = ap (by_manager false (λ m. n == m)) (gone_manager set k g ∙ entry_stays (manager k g) a) ∙ e

    -- who is trapped does not receive
    trapped_not_missing : (s : State) (n : ℕ) → trapped_on n g s ≡ true → misses set s ≡ false
    unfolding trapped_on misses
    trapped_not_missing Running n e = refl
    trapped_not_missing Ready n e = refl
    trapped_not_missing (Receiving w) n e = absurd (false≢true e)
    trapped_not_missing Clock n e = refl
    trapped_not_missing (Device d) n e = refl
    trapped_not_missing (Trapped k) n e = refl

  module _ {b : ℕ} {ts : List Thread} {ms : List Message} {hs : List Held} (low : (n : ℕ) → any (named n) ts ≡ true →
      n < names) (G : Good b ts ms hs) (C : Closed (λ x. has x set) ts) where
    -- a name that is wanted is a thread's, so it may stand in an answer
    gone_form : (n : ℕ) (g : Managers) (s : State) → Detail ts ms n g s → answer_in_range (told_gone s) ≡ true
    unfolding Detail told_gone answer_in_range
    gone_form n g Running d = refl
    gone_form n g Ready d = refl
    gone_form n g (Receiving Anybody) d = refl
    gone_form n g (Receiving (Only f)) d = lt-ltb f names (low f d.0)
    gone_form n g Clock d = refl
    gone_form n g (Device x) d = refl
    gone_form n g (Trapped k) d = refl

    right_left : (t : Thread) → Memᴰ t ts → has t.name set ≡ false →
        Right (stay set ts) (stay_messages set ms) (freed set (without_managers set t))
    unfolding without_managers
    right_left t m o =
        let R = G.threads t m in
        let E : (k : TrapKind) → Entry (stay set ts) t.name (manager k (gone_all set t.managers)) =
        λ k. rw (gone_manager set k t.managers) (entry_left ts t.name (manager k t.managers) (R.entries k)) in
        by_if (Right (stay set ts) (stay_messages set ms)) (misses set t.state)
        (λ w. record {
          entries = E;
          detail = unfold Detail in
              tt;
          answer = λ x. absurd (true≢false (unfold is_ready in x));
          form = gone_form t.name t.managers t.state R.detail;
          ticks = R.ticks;
        })
        (λ w. record {
          entries = E;
          detail = detail_left t.managers ts ms t.name t.state w (awaited_left set C t m o) R.detail;
          answer = R.answer;
          form = R.form;
          ticks = R.ticks;
        })

    awaits_left : (t : Thread) → Memᴰ t ts → has t.name set ≡ false → (n : ℕ) → awaits n t ≡ true →
        awaits n (freed set (without_managers set t)) ≡ true
    unfolding without_managers
    awaits_left t m o n e =
        by_if (λ (u : Thread). awaits n u ≡ true) (misses set t.state)
        (λ w. absurd (clash w (trapped_not_missing t.managers t.state n e)))
        (λ w. trap_stays t.managers t.state (awaited_left set C t m o) n e)

    pub stay_good : Good b (stay set ts) (stay_messages set ms) hs
    stay_good = record {
      family = record {
        depth = G.family.depth;
        root = λ u m z. let r = origin set ts u m in r.4.parent ∙ G.family.root r.0 r.1 (sym r.4.name ∙ z);
        under = λ u m z.
            let r = origin set ts u m in
            let k = G.family.under r.0 r.1 (λ y. z (r.4.name ∙ y)) in (
              k.0,
              r.4.parent ∙ k.1,
              lives_on k.0 ts k.2 (parent_left set C r.0 r.1 r.2 k.0 k.1),
              omega (arith, k.3, ap G.family.depth r.4.name),
            );
      };
      threads = λ u m. let r = origin set ts u m in
          subst (Right (stay set ts) (stay_messages set ms)) (sym r.3) (right_left r.0 r.1 r.2);
      waiters = λ d. omega (arith, G.waiters d, fewer d);
      messages = λ m i.
          let j = message_left set ms m i in
          let P = G.messages m j.0 in
          record {
            to_live = lives_on m.to ts P.to_live j.1;
            from_live = lives_on m.from ts P.from_live j.2;
            word = P.word;
            notice = λ k u x e.
                let r = origin set ts u x in
                subst (λ (v : Thread). awaits m.to v ≡ true) (sym r.3)
                (awaits_left r.0 r.1 r.2 m.to (P.notice k r.0 r.1 (sym r.4.name ∙ e)));
          };
      notices = λ n. omega (arith, G.notices n, (keep_less (λ m. not (has m.to set || has m.from set)) ms).counts (notice_of n));
      blocks = omega (
        arith,
        G.blocks,
        (keep_less (λ m. not (has m.to set || has m.from set)) ms).counts
            (λ m. is_ordinary m.kind),
      );
      rising = up_map (λ t. t.name) (freed set) (put_name (λ t. misses set t.state) Ready (λ t. told_gone t.state)) _
          (up_map (λ t. t.name) (without_managers set) (λ t. unfold without_managers in
          refl) (left set ts) (up_less (λ t. t.name) (keep_less (λ t. not (has t.name set)) ts) G.rising));
      order = less_order (keep_less _ ms) G.order;
      held = G.held;
      held_order = G.held_order;
    }
      where
        fewer : (d : ℕ) → count (waits_for d) (stay set ts) ≤ count (waits_for d) ts
        fewer d =
            omega (
              arith,
              count_map (waits_for d) (freed set) (map (without_managers set) (left set ts)),
              count_map (λ t. waits_for d (freed set t)) (without_managers set) (left set ts),
              count_less (λ t. waits_for d (freed set (without_managers set t))) (waits_for d) (left set ts) (waited d),
              count_keep_le (waits_for d) (λ t. not (has t.name set)) ts,
            )

-- Ending a thread keeps the rules of families, managers, messages and notices.
pub end_good : {L : Limits} {T : Tables} (n : ℕ) → Inv L T → live n T ≡ true → Fits L T → Fits L (end n T)
unfolding end release remove wake_those
end_good {L} {T} n I h G = stay_good (ended_set T.threads n) I.low G (ended_set_closed T.threads n)
