-- Every step keeps the rules of families, managers, wanted names, devices, answers, messages and notices.
use Rattle.std.proofs.Common.{if◌then◌else◌, ◌==◌}
use Prim.Native.Nat.{ℕ, zero, suc, ◌+◌, ◌≤◌, ◌<◌}
use mathlib.Core.Path.{◌≡◌, refl, sym, ap, ◌∙◌}
use mathlib.Core.Logic.{inl, inr, ⊎_elim, ◌≢◌, ◌⊎◌}
use mathlib.Core.Bool.{Bool, true, false, ◌&&◌, not, true≢false, false≢true}
use mathlib.Core.List.{List, ◌∷◌, map, Memᴰ}
use native.Mathlib.Omega.{arith}
use native.Mathlib.Nat.{mod-lt}
use lib.Dec.{leb, ltb}
use borrow.Author.Tests.{eqb-true, eqb-false, eq-eqb, ne_eqb, leb-false, lt-ltb}
use Rattle.rules.specs.Lists.{one_if, Pulled, missing, pulled, any, keep, count, pull, insert, times_in}
use Rattle.rules.specs.Numbers.{names, beat_ticks, devices, wrap}
use Rattle.laws.specs.Words.{Limits}
use Rattle.rules.specs.Words.{by_wanted, by_manager}
use Rattle.rules.specs.Tables.{Tables, in_state, with_managers, with_ticks, named, live, of_thread, change, manager, set_entry, new_thread}
use Rattle.rules.specs.Tables.{runs_as}
use Rattle.rules.specs.States.{is_running, is_ready, on_clock, receives, at_device, waits_for, trapped_on, awaits}
use Rattle.rules.specs.Waking.{Outcome, wake_those, is_ordinary, blocks_used, notice_of, handed_as, handed, accepts, queue, deliver, stop}
use Rattle.rules.specs.Send.{message, waits_for_decision, decides, decide, send}
use Rattle.rules.specs.Receive.{wanted_by, received, receive}
use Rattle.rules.specs.Trap.{notice, trap}
use Rattle.rules.specs.Tick.{one_more, charge, beat, rotate, tick}
use Rattle.rules.specs.Interrupt.{held_for, hold, interrupt}
use Rattle.rules.specs.Requests.{next_name, create, create_brother, terminate, set_over, wait_for_clock, take_held, wait_for_io}
use Rattle.rules.specs.Ending.{end}
use Rattle.rules.specs.Dispatch.{dispatch}
use Rattle.rules.specs.Events.{decode}
use Rattle.rules.specs.Refusals.{first_of, wants_nobody, ends_nobody, no_block_free, call_rules, refusal}
use Rattle.rules.specs.Step.{serve, act, step}
use Rattle.rules.specs.TableRules.{answer_in_range}
use Rattle.laws.specs.Words.{Wanted, Anybody, Only, TrapKind, Program, Tlb, SysBp, State, Running, Ready, Receiving, Clock, Device}
use Rattle.laws.specs.Words.{Trapped, Answer, Nothing, Result, Manager, Unset, Set, Gone, Managers, NoParent, ParentIs, Thread}
use Rattle.laws.specs.Words.{MessageKind, Ordinary, Notice, Message, Held, Runs, Oneself, Named, Call, Send, Receive, CreateBrother}
use Rattle.laws.specs.Words.{CreateSon, Terminate, SetManager, GetCpuTime, WaitForClock, WaitForIo, Trap, Event, Malformed, ByRunner}
use Rattle.laws.specs.Words.{Tick, Interrupt}
use Rattle.laws.specs.Types.{Agree, Inv, Entry, Detail, Post, Family, Good, Fits}
use Rattle.laws.specs.Decoded.{ProperCall, Proper}
use Rattle.laws.proofs.Tests.{by_if, by_runs, clash, same?, and_left, and_right, and_false, not_both, not_true, not_false}
use Rattle.laws.proofs.Tally.{count_cons, count_map, count_le_add, count_zero, count_less, count_insert, count_keep, count_keep_le}
use Rattle.laws.proofs.Tally.{any_count, count_any, none_count, any_member, not_any, none_any}
use Rattle.laws.proofs.Members.{mem_keep, mem_insert, mem_map}
use Rattle.laws.proofs.Ordered.{Less, less_refl, keep_less, pull_none, pull_took, up_less, up_insert}
use Rattle.laws.proofs.Threads.{member_live, live_member, of_only, turned_name, turned_live, here_only}
use Rattle.laws.proofs.Steps.{passed, called, by_step, by_dispatch}
use Rattle.laws.proofs.Names.{name_free}
use Rattle.laws.proofs.PlacesKept.{runner_live, act_inv}
use Rattle.laws.proofs.Right.{less_order, order_insert, Around, entry_around, right_around, nothing_form, new_right, turned_around}
use Rattle.laws.proofs.Right.{some_good}
use Rattle.laws.proofs.EndingKept.{zero_lives, end_good}
use Rattle.laws.proofs.Decoded.{decode_proper}

-- ---- states in which nobody is awaited: those of a test that no trapped thread passes

not_trapped : (p : State → Bool) → ((k : TrapKind) → p (Trapped k) ≡ false) → (s : State) → p s ≡ true → (n : ℕ) (g : Managers) →
    trapped_on n g s ≡ false
unfolding trapped_on
not_trapped p h Running e n g = refl
not_trapped p h Ready e n g = refl
not_trapped p h (Receiving w) e n g = refl
not_trapped p h Clock e n g = refl
not_trapped p h (Device d) e n g = refl
not_trapped p h (Trapped k) e n g = absurd (false≢true (sym (h k) ∙ e))

running_free : (s : State) → is_running s ≡ true → (n : ℕ) (g : Managers) → trapped_on n g s ≡ false
unfolding is_running
running_free s = not_trapped is_running (λ k. refl) s

ready_free : (s : State) → is_ready s ≡ true → (n : ℕ) (g : Managers) → trapped_on n g s ≡ false
unfolding is_ready
ready_free s = not_trapped is_ready (λ k. refl) s

clock_free : (s : State) → on_clock s ≡ true → (n : ℕ) (g : Managers) → trapped_on n g s ≡ false
unfolding on_clock
clock_free s = not_trapped on_clock (λ k. refl) s

device_free : (d : ℕ) (s : State) → at_device d s ≡ true → (n : ℕ) (g : Managers) → trapped_on n g s ≡ false
unfolding at_device
device_free d s = not_trapped (at_device d) (λ k. refl) s

receives_free : (m : ℕ) (s : State) → receives m s ≡ true → (n : ℕ) (g : Managers) → trapped_on n g s ≡ false
unfolding receives
receives_free m s = not_trapped (receives m) (λ k. refl) s

-- ---- who runs, or is next, awaits nobody

-- the runner's thread awaits nobody
abbrev Free : ℕ → List Thread → Type 0
Free n ts = (t : Thread) → Memᴰ t ts → t.name ≡ n → (m : ℕ) → awaits m t ≡ false

runner_free : (T : Tables) → Agree T → (n s : ℕ) → T.runner ≡ Runs n s → Free n T.threads
runner_free T A n s r t m e k =
    running_free t.state (here_only is_running T.threads A.once t m (omega (arith, A.run t.name, one))) k t.managers
  where
    one : one_if (runs_as t.name T.runner) ≡ 1
    one = unfold runs_as in rw (r, eq-eqb t.name n e)

-- a thread that is in the queue's front awaits nobody
front_free : (T : Tables) → Agree T → (n : ℕ) (q : List ℕ) → T.ready ≡ n ∷ q → Free n T.threads
front_free T A n q r t m e k = ready_free t.state
    (here_only is_ready T.threads A.once t m
    (omega (
      arith,
      A.wait t.name,
      ap (λ (l : List ℕ). times_in l t.name) r,
      count_cons (λ x. t.name == x) n q,
      ap one_if (eq-eqb t.name n e),
    ))) k t.managers

-- ---- forms of answers

result_form : (w : ℕ) → w < wrap → answer_in_range (Result w) ≡ true
unfolding answer_in_range
result_form w h = lt-ltb w wrap h

handed_form : (k : MessageKind) (n w : ℕ) → n < names → w < wrap → answer_in_range (handed_as k n w) ≡ true
unfolding handed_as answer_in_range
handed_form Ordinary n w h i = rw (lt-ltb n names h, lt-ltb w wrap i)
handed_form Notice n w h i = rw (lt-ltb n names h, lt-ltb w wrap i)

-- ---- changes of threads

turned_fewer : (p : Thread → Bool) (g : Thread → Thread) → ((d : ℕ) (t : Thread) → waits_for d (g t) ≡ true → waits_for d t ≡ true) →
    (d : ℕ) (ts : List Thread) → count (waits_for d) (map (λ t. if p t then g t else t) ts) ≤ count (waits_for d) ts
turned_fewer p g h d ts =
    omega (
      arith,
      count_map (waits_for d) (λ t. if p t then g t else t) ts,
      count_less (λ t. waits_for d (if p t then g t else t))
          (waits_for d) ts (λ t. by_if (λ (u : Thread). waits_for d u ≡ true → waits_for d t ≡ true) (p t) (λ _. h d t) (λ _ x. x)),
    )

-- those that pass become ready: where one was trapped, no notice of it is left
wake_good : (p : Thread → Bool) (a : Thread → Answer) {b : ℕ} {ts : List Thread} {ms ns : List Message} {hs : List Held} →
    ((t : Thread) → Memᴰ t ts → p t ≡ true → (n : ℕ) → awaits n t ≡ true → count (notice_of t.name) ns ≡ 0) →
    ((t : Thread) → Memᴰ t ts → p t ≡ true → answer_in_range (a t) ≡ true) →
    Less ms ns → Good b ts ms hs → Good b (map (λ t. if p t then in_state Ready (a t) t else t) ts) ns hs
unfolding Detail is_ready at_device
wake_good p a {b} {ts} {hs} silent right l G =
    some_good p (λ t. in_state Ready (a t) t) (λ t. refl) (λ t. refl)
    (λ t m x. record {
      entries = λ k. entry_around (turned_around p (λ u. in_state Ready (a u) u) (λ u. refl) (λ u. refl) ts l) t.name
          (manager k t.managers) ((G.threads t m).entries k);
      detail = tt;
      answer = λ e. absurd (true≢false e);
      form = right t m x;
      ticks = (G.threads t m).ticks;
    })
    (λ t m x n y. inl (silent t m x n y))
    (λ d. omega (arith, G.waiters d, turned_fewer p (λ t. in_state Ready (a t) t) (λ e t x. absurd (false≢true x)) d ts))
    l G

abbrev put : ℕ → State → Thread → Thread
put n s t = if named n t then in_state s Nothing t else t

-- the thread n, which awaits nobody, comes into state s
put_good : (n : ℕ) (s : State) {b : ℕ} {ts : List Thread} {ms : List Message} {hs : List Held} →
    Free n ts →
    ((t : Thread) → Memᴰ t ts → t.name ≡ n → Detail (map (put n s) ts) ms t.name t.managers s) →
    ((d : ℕ) → count (waits_for d) (map (put n s) ts) + count (held_for d) hs ≤ 1) →
    Good b ts ms hs → Good b (map (put n s) ts) ms hs
put_good n s {b} {ts} {ms} {hs} free right one G =
    some_good (named n) (in_state s Nothing) (λ t. refl) (λ t. refl)
    (λ t m x. record {
      entries = λ k. entry_around (turned_around (named n) (in_state s Nothing) (λ u. refl) (λ u. refl) ts (less_refl ms)) t.name
          (manager k t.managers) ((G.threads t m).entries k);
      detail = right t m (sym (eqb-true n t.name x));
      answer = λ _. refl;
      form = nothing_form;
      ticks = (G.threads t m).ticks;
    })
    (λ t m x k y. absurd (clash y (free t m (sym (eqb-true n t.name x)) k)))
    one (less_refl ms) G

-- no more waiters for devices than before
put_waiters : (n : ℕ) (s : State) {b : ℕ} {ts : List Thread} {ms : List Message} {hs : List Held} → ((d : ℕ) → at_device d s ≡ false) →
    Good b ts ms hs → (d : ℕ) → count (waits_for d) (map (put n s) ts) + count (held_for d) hs ≤ 1
put_waiters n s {b} {ts} h G d =
    omega (arith, G.waiters d, turned_fewer (named n) (in_state s Nothing) (λ e t x. absurd (clash x (h e))) d ts)

-- fewer messages, fewer held words
fewer_good : {b : ℕ} {ts : List Thread} {ms ns : List Message} {hs ks : List Held} → Less ms ns → Less hs ks → Good b ts ms hs →
    Good b ts ns ks
fewer_good {b} {ts} l f G = record {
  family = G.family;
  threads = λ t m. right_around (record { lives = λ n h. h; less = l.member }) (G.threads t m);
  waiters = λ d. omega (arith, G.waiters d, f.counts (held_for d));
  messages = λ m i. G.messages m (l.member m i);
  notices = λ n. omega (arith, l.counts (notice_of n), G.notices n);
  blocks = omega (arith, l.counts (λ m. is_ordinary m.kind), G.blocks);
  rising = G.rising;
  order = less_order l G.order;
  held = λ h i. G.held h (f.member h i);
  held_order = up_less (λ h. h.device) f G.held_order;
}

-- ---- a message into an inbox

module _ (m : Message) {b : ℕ} {ts : List Thread} {ms : List Message} {hs : List Held} (G : Good b ts ms hs)
    (nobody_takes : any (accepts m) ts ≡ false) where
  abbrev queued : List Message
  queued = insert (λ x. leb x.to m.to) m ms

  detail_queued : (t : Thread) (g : Managers) (s : State) → (named m.to t && receives m.from s) ≡ false → Detail ts ms t.name g s →
      Detail ts queued t.name g s
  unfolding Detail receives
  detail_queued t g Running a d = tt
  detail_queued t g Ready a d = tt
  detail_queued t g (Receiving w) a d = (
    d.0,
    none_any (wanted_by t.name w) queued
        (λ x i. ⊎_elim (λ e. ap (wanted_by t.name w) e ∙ a) (λ j. not_any (wanted_by t.name w) ms x d.1 j)
        (mem_insert (λ y. leb y.to m.to) m ms i)),
  )
  detail_queued t g Clock a d = tt
  detail_queued t g (Device x) a d = d
  detail_queued t g (Trapped k) a d = d

  queued_good : Post ts m → ((n : ℕ) → one_if (notice_of n m) + count (notice_of n) ms ≤ 1) →
      one_if (is_ordinary m.kind) + count (λ x. is_ordinary x.kind) ms ≤ b → Good b ts queued hs
  queued_good P one room = record {
    family = G.family;
    threads = λ t i. let R = G.threads t i in
        record {
          entries = R.entries;
          detail = detail_queued t t.managers t.state (not_any (accepts m) ts t nobody_takes i)
              R.detail;
          answer = R.answer;
          form = R.form;
          ticks = R.ticks;
        };
    waiters = G.waiters;
    messages = λ x i. ⊎_elim (λ e. rw e P) (λ j. G.messages x j) (mem_insert (λ y. leb y.to m.to) m ms i);
    notices = λ n. omega (arith, one n, count_insert (notice_of n) (λ x. leb x.to m.to) m ms);
    blocks = omega (arith, room, count_insert (λ x. is_ordinary x.kind) (λ x. leb x.to m.to) m ms);
    rising = G.rising;
    order = order_insert m ms G.order;
    held = G.held;
    held_order = G.held_order;
  }

-- a message or notice is delivered
deliver_good : {b : ℕ} (m : Message) (T : Tables) → Good b T.threads T.messages T.held → Post T.threads m → m.from < names →
    ((n : ℕ) → one_if (notice_of n m) + count (notice_of n) T.messages ≤ 1) →
    (any (accepts m) T.threads ≡ false → one_if (is_ordinary m.kind) + count (λ x. is_ordinary x.kind) T.messages ≤ b) →
    Good b (deliver m T).threads (deliver m T).messages (deliver m T).held
unfolding deliver queue wake_those
deliver_good {b} m T G P f one room =
    by_if (λ (U : Tables). Good b U.threads U.messages U.held) (any (accepts m) T.threads)
    (λ e. wake_good (accepts m) (λ t. handed m)
    (λ t i x n y. absurd (clash y (receives_free m.from t.state (and_right (named m.to t) _ x) n t.managers)))
    (λ t i x. handed_form m.kind m.from m.word f P.word) (less_refl T.messages) G)
    (λ e. queued_good m G e P one (room e))

-- nothing of a thread that awaits nobody is under way as a notice
no_notice : {b : ℕ} {ts : List Thread} {ms : List Message} {hs : List Held} → Good b ts ms hs → (t : Thread) → Memᴰ t ts →
    ((n : ℕ) → awaits n t ≡ false) → count (notice_of t.name) ms ≡ 0
no_notice {ms} G t m f = go (any (notice_of t.name) ms) refl
  where
    go : (b : Bool) → any (notice_of t.name) ms ≡ b → count (notice_of t.name) ms ≡ 0
    go false e = none_count (notice_of t.name) ms e
    go true e =
        let r = any_member (notice_of t.name) ms e in
        absurd (clash ((G.messages r.0 r.1).notice (not_true _ (and_left (not (is_ordinary r.0.kind)) _ r.2)) t m
        (sym (eqb-true r.0.from t.name (and_right (not (is_ordinary r.0.kind)) _ r.2)))) (f r.0.to))

-- ---- a word held for a device that nobody waits for

module _ (d w : ℕ) (known : d < devices) (fits : w < wrap) {b : ℕ} {ts : List Thread} {ms : List Message} {hs : List Held}
    (G : Good b ts ms hs) (nobody_waits : any (waits_for d) ts ≡ false) where
  abbrev others : List Held
  others = keep (λ h. not (held_for d h)) hs

  abbrev word : Held
  word = record { device = d; word = w }

  held_good : Good b ts ms (hold d w hs)
  unfolding hold
  held_good = record {
    family = G.family;
    threads = G.threads;
    waiters = one;
    messages = G.messages;
    notices = G.notices;
    blocks = G.blocks;
    rising = G.rising;
    order = G.order;
    held = λ h i. ⊎_elim (λ e. (omega (arith, ap (λ (z : Held). z.device) e), omega (arith, ap (λ (z : Held). z.word) e)))
        (λ j. G.held h (mem_keep (λ z. not (held_for d z)) hs j).0) (mem_insert (λ z. ltb z.device d) word others i);
    held_order = up_insert (λ h. h.device) word others
        (λ h i. eqb-false h.device d (not_true _ (mem_keep (λ z. not (held_for d z)) hs i).1))
        (up_less (λ h. h.device) (keep_less (λ z. not (held_for d z)) hs) G.held_order);
  }
    where
      one : (x : ℕ) → count (waits_for x) ts + count (held_for x) (insert (λ h. ltb h.device d) word others) ≤ 1
      one x =
          ⊎_elim
          (λ e.
          omega (
            arith,
            count_insert (held_for x) (λ h. ltb h.device d) word others,
            ap one_if e.1,
            ap (λ (y : ℕ). count (waits_for y) ts) e.0,
            none_count (waits_for d) ts nobody_waits,
            ap (λ (y : ℕ). count (held_for y) others) e.0,
            count_keep (held_for d) (λ h. not (held_for d h)) hs,
            count_zero (λ h. not (held_for d h) && held_for d h) hs (λ h. not_both (held_for d h)),
          ))
          (λ e. omega (
            arith,
            G.waiters x,
            count_insert (held_for x) (λ h. ltb h.device d) word others,
            ap one_if e.1,
            count_keep_le (held_for x) (λ h. not (held_for d h)) hs,
          ))
          (same? d x)

-- ---- a new thread

module _ (n p : ℕ) {b : ℕ} {ts : List Thread} {ms : List Message} {hs : List Held} (G : Good b ts ms hs) (free : any (named n) ts ≡ false)
    (parent_lives : any (named p) ts ≡ true) where
  abbrev newcomer : Thread
  newcomer = new_thread n (ParentIs p) Ready

  abbrev lower : Thread → Bool
  lower t = ltb t.name n

  abbrev more : List Thread
  more = insert lower newcomer ts

  more_lives : (x : ℕ) → any (named x) ts ≡ true → any (named x) more ≡ true
  more_lives x h = count_any (named x) more (omega (arith, any_count (named x) ts h, count_insert (named x) lower newcomer ts))

  around : Around ts more ms ms
  around = record { lives = more_lives; less = λ m h. h }

  -- a live name is not the new one
  other : (x : ℕ) → any (named x) ts ≡ true → x ≢ n
  other x h e = clash h (ap (λ (y : ℕ). any (named y) ts) e ∙ free)

  member_other : (t : Thread) → Memᴰ t ts → t.name ≢ n
  member_other t m = other t.name (member_live ts t m)

  deeper : ℕ → ℕ
  deeper x = if x == n then suc (G.family.depth p) else G.family.depth x

  deeper_old : (x : ℕ) → x ≢ n → deeper x ≡ G.family.depth x
  unfolding deeper
  deeper_old x d = rw (ne_eqb x n d)

  deeper_new : deeper n ≡ suc (G.family.depth p)
  unfolding deeper
  deeper_new = rw (eq-eqb n n refl)

  new_family : Family more
  new_family = record {
    depth = deeper;
    root = λ u m z. ⊎_elim (λ e. absurd (other 0 (zero_lives G.family p parent_lives) (sym z ∙ ap (λ (x : Thread). x.name) e)))
        (λ i. G.family.root u i z) (mem_insert lower newcomer ts m);
    under = λ u m z.
        ⊎_elim
        (λ e. (
          p,
          ap (λ (x : Thread). x.parent) e,
          more_lives p parent_lives,
          omega (arith, ap deeper (ap (λ (x : Thread). x.name) e), deeper_new, deeper_old p (other p parent_lives)),
        ))
        (λ i.
        let k = G.family.under u i z in (
          k.0,
          k.1,
          more_lives k.0 k.2,
          omega (arith, k.3, deeper_old u.name (member_other u i), deeper_old k.0 (other k.0 k.2)),
        ))
        (mem_insert lower newcomer ts m);
  }

  new_good : Good b more ms hs
  new_good = record {
    family = new_family;
    threads = λ u m. ⊎_elim (λ e. rw e (new_right more ms n (ParentIs p) Ready (unfold Detail in tt)))
        (λ i. right_around around (G.threads u i)) (mem_insert lower newcomer ts m);
    waiters = λ d. unfold at_device in omega (arith, G.waiters d, count_insert (waits_for d) lower newcomer ts);
    messages = λ m i.
        let P = G.messages m i in
        record {
          to_live = more_lives m.to P.to_live;
          from_live = more_lives m.from P.from_live;
          word = P.word;
          notice = λ k u x e. ⊎_elim (λ y. absurd (other m.from P.from_live (sym e ∙ ap (λ (z : Thread). z.name) y)))
              (λ j. P.notice k u j e) (mem_insert lower newcomer ts x);
        };
    notices = G.notices;
    blocks = G.blocks;
    rising = up_insert (λ t. t.name) newcomer ts member_other G.rising;
    order = G.order;
    held = G.held;
    held_order = G.held_order;
  }

-- ---- a manager entry that is set

-- an entry is the one that was set, or the old one
set_or_old : (j k : TrapKind) (m : Manager) (g : Managers) → (manager j (set_entry k m g) ≡ m) ⊎ (manager j (set_entry k m g) ≡ manager j g)
unfolding manager set_entry
set_or_old Program Program m g = inl refl
set_or_old Program Tlb m g = inr refl
set_or_old Program SysBp m g = inr refl
set_or_old Tlb Program m g = inr refl
set_or_old Tlb Tlb m g = inl refl
set_or_old Tlb SysBp m g = inr refl
set_or_old SysBp Program m g = inr refl
set_or_old SysBp Tlb m g = inr refl
set_or_old SysBp SysBp m g = inl refl

entry_set : (ts : List Thread) (own n : ℕ) (g : Managers) → Entry ts own (Set n) → ((j : TrapKind) → Entry ts own (manager j g)) →
    (j k : TrapKind) → Entry ts own (manager j (set_entry k (Set n) g))
entry_set ts own n g E old j k = ⊎_elim (λ e. rw e E) (λ e. rw e (old j)) (set_or_old j k (Set n) g)

detail_set : (ts : List Thread) (ms : List Message) (n m : ℕ) (k : TrapKind) (g : Managers) (x : State) → Detail ts ms n g x →
    Detail ts ms n (set_entry k (Set m) g) x
unfolding Detail
detail_set ts ms n m k g Running d = tt
detail_set ts ms n m k g Ready d = tt
detail_set ts ms n m k g (Receiving w) d = d
detail_set ts ms n m k g Clock d = tt
detail_set ts ms n m k g (Device e) d = d
detail_set ts ms n m k g (Trapped j) d = ⊎_elim (λ e. rw e) (λ e. rw e d) (set_or_old j k (Set m) g)

-- ---- each call of the runner `me`

module _ {L : Limits} {T : Tables} (I : Inv L T) (G : Fits L T) (me s : ℕ) (run : T.runner ≡ Runs me s) where
  me_lives : live me T ≡ true
  me_lives = runner_live I me s run

  me_free : Free me T.threads
  me_free = runner_free T I.agree me s run

  -- the runner's thread
  self : (t : Thread) × Memᴰ t T.threads × (t.name ≡ me)
  self = let r = live_member T.threads me me_lives in (r.0, r.1, sym r.2)

  looked_up : {A : Type 0} (d : A) (f : Thread → A) (t : Thread) → Memᴰ t T.threads → t.name ≡ me →
      of_thread d f me T.threads ≡ f t
  looked_up d f t m e = of_only d f me T.threads (I.agree.once me) t m e

  put_lives : (x : State) (n : ℕ) → live n T ≡ true → any (named n) (map (put me x) T.threads) ≡ true
  put_lives x n h = turned_live (named me) (in_state x Nothing) (λ t. refl) n T.threads ∙ h

  -- "0 continues it (it becomes ready), 1 ends it; an unread notice is discarded"
  decide_good : (to w : ℕ) → live to T ≡ true → Fits L (decide me to w T)
  unfolding decide wake_those
  decide_good to zero l =
      wake_good (waits_for_decision me to) (λ t. Nothing)
      (λ t i x n y. rw (sym (eqb-true to t.name (and_left (named to t) _ x)))
      (count_keep (notice_of to) (λ m. not (notice_of to m)) T.messages ∙ count_zero _ T.messages (λ m. not_both (notice_of to m))))
      (λ t i x. nothing_form)
      (keep_less (λ m. not (notice_of to m)) T.messages) G
  decide_good to (suc w) l = end_good to I l G

  send_good : (to w : ℕ) → w < wrap → live to T ≡ true →
      (decides me to T ≡ false → any (accepts (message to me w)) T.threads ≡ false → blocks_used T < L.blocks) → Fits L (send me to w T)
  unfolding send is_ordinary
  send_good to w fits l room =
      by_if (Fits L) (decides me to T)
      (λ _. decide_good to w l)
      (λ d. deliver_good (message to me w) T G
      (record { to_live = l; from_live = me_lives; word = fits; notice = λ k. absurd (true≢false k) }) (I.low me me_lives)
      (λ n. omega (arith, G.notices n)) (λ a. omega (arith, room d a)))

  receive_good : (w : Wanted) → wants_nobody T w ≡ false → Fits L (receive me w T).tables
  unfolding receive received stop change
  receive_good w ok = go (pull (wanted_by me w) T.messages) refl
    where
      known : (f : Wanted) → wants_nobody T f ≡ false →
          by_wanted true (λ n. any (named n) (map (put me (Receiving w)) T.threads)) f ≡ true
      known Anybody e = refl
      known (Only n) e = put_lives (Receiving w) n (not_false _ e)

      go : (r : Pulled Message) → pull (wanted_by me w) T.messages ≡ r → Fits L (received me w T r).tables
      go missing e =
          put_good me (Receiving w) me_free
          (λ t m x. unfold Detail in (known w ok, rw x (pull_none (wanted_by me w) T.messages e)))
          (put_waiters me (Receiving w) (λ d. unfold at_device in refl) G) G
      go (pulled m ms) e = fewer_good (pull_took (wanted_by me w) T.messages e).less (less_refl T.held) G

  trap_good : (k : TrapKind) (c : ℕ) → c < wrap → Fits L (trap me k c T)
  unfolding trap stop change
  trap_good k c fits = go asked refl
    where
      asked : Manager
      asked = of_thread Unset (λ t. manager k t.managers) me T.threads

      entry : (n : ℕ) → asked ≡ Set n → (t : Thread) → Memᴰ t T.threads → t.name ≡ me → manager k t.managers ≡ Set n
      entry n e t m x = sym (looked_up Unset (λ u. manager k u.managers) t m x) ∙ e

      manager_lives : (n : ℕ) → asked ≡ Set n → live n T ≡ true
      manager_lives n e = unfold Entry in (rw (entry n e self.0 self.1 self.2) at ((G.threads self.0 self.1).entries k)).0

      waits : (n : ℕ) → asked ≡ Set n → (t : Thread) → Memᴰ t T.threads → t.name ≡ me → awaits n (put me (Trapped k) t) ≡ true
      waits n e t m x = unfold trapped_on in rw (eq-eqb me t.name (sym x), entry n e t m x) (eq-eqb n n refl)

      after : Tables
      after = stop me (Trapped k) T

      caught : (n : ℕ) → asked ≡ Set n → Fits L after
      caught n e = put_good me (Trapped k) me_free (λ t m x. unfold Detail in
          rw (entry n e t m x)) (put_waiters me (Trapped k) (λ d. unfold at_device in refl) G) G

      post : (n : ℕ) → asked ≡ Set n → Post after.threads (notice n me c)
      post n e = record {
        to_live = put_lives (Trapped k) n (manager_lives n e);
        from_live = put_lives (Trapped k) me me_lives;
        word = fits;
        notice = λ _ u j x.
            let r = mem_map (put me (Trapped k)) T.threads j in
            rw r.2 (waits n e r.0 r.1
            (sym (ap (λ (v : Thread). v.name) r.2 ∙ turned_name (named me) (in_state (Trapped k) Nothing) (λ t. refl) r.0) ∙ x));
      }

      one : (m n : ℕ) → one_if (notice_of n (notice m me c)) + count (notice_of n) T.messages ≤ 1
      one m n = unfold is_ordinary in
          ⊎_elim
          (λ e. rw e.1 (omega (
            arith,
            ap (λ (x : ℕ). count (notice_of x) T.messages) (self.2 ∙ e.0),
            no_notice G self.0 self.1
                (me_free self.0 self.1 self.2),
          )))
          (λ e. rw e.1 (omega (arith, G.notices n)))
          (same? me n)

      go : (m : Manager) → asked ≡ m → Fits L (by_manager (end me T) (λ n. deliver (notice n me c) after) m)
      go Unset e = end_good me I me_lives G
      go (Set n) e = deliver_good (notice n me c) after (caught n e) (post n e) (I.low me me_lives) (one n) (λ _. unfold is_ordinary in
          omega (arith, G.blocks))
      go Gone e = end_good me I me_lives G

  -- requests

  create_good : L.threads < names → (p : ℕ) → live p T ≡ true → Fits L (create (ParentIs p) T).tables
  unfolding create
  create_good l p h = new_good (next_name T) p G (name_free L T l I.last I.few) h

  brother_good : L.threads < names → me ≢ 0 → Fits L (create_brother me T).tables
  brother_good l d =
      let q = G.family.under self.0 self.1 (λ e. d (sym self.2 ∙ e)) in
      rw (looked_up NoParent (λ t. t.parent) self.0 self.1 self.2 ∙ q.1) (create_good l q.0 q.2)

  manager_good : (k : TrapKind) (n : ℕ) → live n T ≡ true → n ≢ me → (m : Manager) → Fits L (set_over m me k n T).tables
  unfolding set_over change Entry
  manager_good k n l d Unset =
      let g : Thread → Thread = λ t. with_managers (set_entry k (Set n) t.managers) t in
      some_good (named me) g (λ t. refl) (λ t. refl)
      (λ t m x.
      let R = right_around (turned_around (named me) g (λ u. refl) (λ u. refl) T.threads (less_refl T.messages)) (G.threads t m) in
      record {
        entries = λ j. entry_set _ t.name n t.managers (
          turned_live (named me) g (λ u. refl) n T.threads
              ∙ l,
          λ y. d (y ∙ sym (eqb-true me t.name x)),
        ) R.entries j k;
        detail = detail_set _ T.messages t.name n k t.managers t.state R.detail;
        answer = R.answer;
        form = R.form;
        ticks = R.ticks;
      })
      (λ t m x z y. absurd (clash y (me_free t m (sym (eqb-true me t.name x)) z)))
      (λ e. omega (arith, G.waiters e, turned_fewer (named me) g (λ z t x. x) e T.threads))
      (less_refl T.messages) G
  manager_good k n l d (Set m) = end_good me I me_lives G
  manager_good k n l d Gone = end_good me I me_lives G

  clock_good : Fits L (wait_for_clock me T).tables
  unfolding wait_for_clock stop change
  clock_good = put_good me Clock me_free (λ t m x. unfold Detail in tt) (put_waiters me Clock (λ d. unfold at_device in refl) G) G

  -- the one waiter for a device that had none, and for which nothing was held
  one_waiter : (a : ℕ) → any (waits_for a) T.threads ≡ false → any (held_for a) T.held ≡ false → (d : ℕ) →
      count (waits_for d) (map (put me (Device a)) T.threads) + count (held_for d) T.held ≤ 1
  unfolding at_device
  one_waiter a h e d =
      omega (
        arith,
        count_map (waits_for d) (put me (Device a)) T.threads,
        count_le_add (λ t. waits_for d (put me (Device a) t))
            (waits_for d) (λ t. named me t && (d == a)) T.threads each,
        most,
      )
    where
      each : (t : Thread) → one_if (waits_for d (put me (Device a) t)) ≤ one_if (waits_for d t) + one_if (named me t && (d == a))
      each t = by_if (λ (u : Thread). one_if (waits_for d u) ≤ one_if (waits_for d t) + one_if (named me t && (d == a))) (named me t)
          (λ x. rw x (omega arith)) (λ x. omega arith)

      most : count (waits_for d) T.threads + count (λ t. named me t && (d == a)) T.threads + count (held_for d) T.held ≤ 1
      most =
          ⊎_elim
          (λ x. omega (
            arith,
            ap (λ (y : ℕ). count (waits_for y) T.threads) x.0,
            none_count (waits_for a) T.threads h,
            ap (λ (y : ℕ). count (held_for y) T.held) x.0,
            none_count (held_for a) T.held e,
            count_less (λ t. named me t && (d == a)) (named me) T.threads (λ t y. and_left (named me t) _ y),
            I.agree.once me,
          ))
          (λ x. omega (
            arith,
            G.waiters d,
            count_zero (λ t. named me t && (d == a)) T.threads
                (λ t. rw x.1 (and_false (named me t))),
          ))
          (same? d a)

  io_good : (d : ℕ) → d < devices → any (waits_for d) T.threads ≡ false → Fits L (wait_for_io me d T).tables
  unfolding take_held stop change
  io_good d small free = go (pull (held_for d) T.held) refl
    where
      go : (r : Pulled Held) → pull (held_for d) T.held ≡ r → Fits L (take_held me d T r).tables
      go missing e =
          put_good me (Device d) me_free (λ t m x. unfold Detail in small) (one_waiter d free (pull_none (held_for d) T.held e)) G
      go (pulled h hs) e = fewer_good (less_refl T.messages) (pull_took (held_for d) T.held e).less G

-- ---- tick

RunnerFree : Tables → Type 0
RunnerFree T = (n s : ℕ) → T.runner ≡ Runs n s → Free n T.threads

turned_free : (p : Thread → Bool) (g : Thread → Thread) → ((t : Thread) → (g t).name ≡ t.name) →
    ((t : Thread) (m : ℕ) → awaits m t ≡ false → awaits m (g t) ≡ false) →
    (n : ℕ) (ts : List Thread) → Free n ts → Free n (map (λ t. if p t then g t else t) ts)
turned_free p g name h n ts F u i e m =
    let r = mem_map (λ t. if p t then g t else t) ts i in
    rw r.2 (by_if (λ (v : Thread). v.name ≡ n → awaits m v ≡ false) (p r.0)
    (λ _ x. h r.0 m (F r.0 r.1 (sym (name r.0) ∙ x) m)) (λ _ x. F r.0 r.1 x m) (ap (λ (x : Thread). x.name) (sym r.2)
    ∙ e))

module _ (L : Limits) (T : Tables) (G : Fits L T) where
  charge_good : RunnerFree T → Fits L (charge T) × RunnerFree (charge T)
  unfolding charge change RunnerFree
  charge_good F =
      let g : Thread → Thread = λ t. with_ticks (one_more t.ticks) t in
      by_runs (λ (U : Tables). Fits L U × RunnerFree U) T.runner (λ _. (G, F))
      (λ n s e. (
        some_good (named n) g (λ t. refl) (λ t. refl)
            (λ t m x. let R = right_around (turned_around (named n) g (λ u. refl) (λ u. refl) T.threads (less_refl T.messages))
            (G.threads t m) in
            record {
              entries = R.entries;
              detail = R.detail;
              answer = R.answer;
              form = R.form;
              ticks = mod-lt (t.ticks + 1) (omega arith);
            })
            (λ t m x k y. inr y)
            (λ d. omega (arith, G.waiters d, turned_fewer (named n) g (λ k t x. x) d T.threads))
            (less_refl T.messages) G,
        λ k z i. turned_free (named n) g (λ t. refl) (λ t m x. x) k T.threads (F k s (e ∙ (cc))),
      ))

  beat_good : RunnerFree T → Fits L (beat T) × RunnerFree (beat T)
  unfolding beat wake_those RunnerFree
  beat_good F =
      by_if (λ (U : Tables). Fits L U × RunnerFree U) (T.since + 1 == beat_ticks)
      (λ e. (
        wake_good (λ t. on_clock t.state) (λ t. Result (one_more T.beats))
            (λ t m x n y. absurd (clash y (clock_free t.state x n t.managers)))
            (λ t m x. result_form _ (mod-lt (T.beats + 1) (omega arith))) (less_refl T.messages) G,
        λ n s r. turned_free (λ t. on_clock t.state) (λ t. in_state Ready (Result (one_more T.beats)) t) (λ t. refl)
            (λ t m x. unfold trapped_on in refl) n T.threads (F n s r),
      ))
      (λ e. (G, F))

  rotate_good : RunnerFree T → Fits L (rotate T)
  unfolding rotate wake_those RunnerFree
  rotate_good F =
      by_runs (Fits L) T.runner (λ _. G) λ n s e.
      by_if (Fits L) (s == 0)
      (λ _. wake_good (named n) (λ t. Nothing) (λ t m x k y. absurd (clash y (F n s e t m (sym (eqb-true n t.name x)) k)))
      (λ t m x. nothing_form) (less_refl T.messages) G)
      (λ _. G)

tick_good : {L : Limits} {T : Tables} → Inv L T → Fits L T → Fits L (tick T)
unfolding tick RunnerFree
tick_good {L} {T} I G =
    let c = charge_good L T G (runner_free T I.agree) in
    let d = beat_good L (charge T) c.0 c.1 in
    rotate_good L (beat (charge T)) d.0 d.1

-- ---- interrupt

interrupt_good : (L : Limits) (T : Tables) (d w : ℕ) → d < devices → w < wrap → Fits L T → Fits L (interrupt d w T)
unfolding interrupt wake_those
interrupt_good L T d w known fits G =
    by_if (Fits L) (any (waits_for d) T.threads)
    (λ _. wake_good (waits_for d) (λ t. Result w) (λ t m x n y. absurd (clash y (device_free d t.state x n t.managers)))
    (λ t m x. result_form w fits) (less_refl T.messages) G)
    (λ e. held_good d w known fits G e)

-- ---- dispatch

-- Dispatch keeps the rules.
pub dispatch_good : {L : Limits} (o : Outcome) → Inv L o.tables → Fits L o.tables → Fits L (dispatch o).tables
unfolding change
dispatch_good {L} o I G =
    by_dispatch (Fits L) o (λ n s _. G) (λ _ _. G)
    (λ n q _ e. put_good n Running (front_free o.tables I.agree n q e) (λ t m x. unfold Detail in
    tt) (put_waiters n Running (λ d. unfold at_device in refl) G) G)

-- ---- each accepted call

and_last : (a b c : Bool) → (not a && not b && c) ≡ false → a ≡ false → b ≡ false → c ≡ false
and_last a b c h x y = simp (x, y) at h

module _ {L : Limits} {T : Tables} (l : L.threads < names) (I : Inv L T) (G : Fits L T) (n s : ℕ) (run : T.runner ≡ Runs n s) where
  serve_good : (c : Call) → ProperCall c → first_of (call_rules L T n c) ≡ 0 → Fits L (serve n T c).tables
  unfolding serve ProperCall call_rules terminate ends_nobody
  serve_good (Send to w) p f =
      let a = passed _ 3 _ f in
      let b = passed _ 8 _ a.1 in
      let c = passed _ 4 _ b.1 in
      send_good I G n s run to w p (not_false _ a.0)
      (λ d x. leb-false L.blocks (blocks_used T)
      (and_last (decides n to T) (any (accepts (message to n w)) T.threads) (no_block_free L T) c.0 d x))
  serve_good (Receive w) p f = receive_good I G n s run w (passed _ 3 _ f).0
  serve_good CreateBrother p f = brother_good I G n s run l (eqb-false n 0 (passed _ 6 _ f).0)
  serve_good CreateSon p f = create_good I G n s run l n (runner_live I n s run)
  serve_good (Terminate Oneself) p f = end_good n I (runner_live I n s run) G
  serve_good (Terminate (Named m)) p f = end_good m I (not_false _ (passed _ 3 _ f).0) G
  serve_good (SetManager k m) p f =
      let a = passed _ 3 _ f in
      manager_good I G n s run k m (not_false _ a.0) (eqb-false m n (passed _ 9 _ a.1).0)
      (of_thread Unset (λ t. manager k t.managers) n T.threads)
  serve_good GetCpuTime p f = G
  serve_good WaitForClock p f = clock_good I G n s run
  serve_good (WaitForIo d) p f = io_good I G n s run d p (passed _ 7 _ f).0
  serve_good (Trap k c) p f = trap_good I G n s run k c p

-- ---- the step

-- An accepted event whose values are in their ranges keeps the rules.
pub act_good : {L : Limits} {T : Tables} (e : Event) → Proper e → L.threads < names → refusal L T e ≡ 0 → Inv L T → Fits L T →
    Fits L (act T e).tables
unfolding act Proper
act_good Malformed p l f I G = G
act_good {L} {T} (ByRunner c) p l f I G =
    let k = called L T c f in
    rw k.caller (serve_good l I G k.name k.slice k.runner c p k.passes)
act_good Tick p l f I G = tick_good I G
act_good {L} {T} (Interrupt d w) p l f I G = interrupt_good L T d w p.0 p.1 G

-- Every step, on any bytes, accepted or refused, keeps the rules of families, managers, wanted names, devices, answers, messages and
-- notices.
pub step_good : {L : Limits} {T : Tables} (bytes : List ℕ) → L.threads < names → Inv L T → Fits L T → Fits L (step L T bytes).tables
step_good {L} {T} bytes l I G =
    by_step (λ U b. Fits L U) L T bytes G
    (λ f. dispatch_good (act T (decode bytes)) (act_inv (decode bytes) l f I) (act_good (decode bytes) (decode_proper bytes) l f I G))
