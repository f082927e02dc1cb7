-- Fewer messages, other threads around a thread, and some threads changed: the moves that keep the rules of threads and messages.
use Prim.Native.Nat.{ℕ, ◌+◌, ◌≤◌}
use mathlib.Core.Path.{◌≡◌, refl, sym, ap, ◌∙◌}
use mathlib.Core.Logic.{◌⊎◌, ⊎_elim}
use mathlib.Core.Bool.{Bool, true, false}
use mathlib.Core.List.{List, map, Memᴰ}
use native.Mathlib.Omega.{arith}
use lib.Dec.{leb}
use borrow.Author.Tests.{eq-eqb, leb-true, leb-false, le-leb}
use Rattle.rules.specs.Lists.{any, count, insert, chain}
use Rattle.rules.specs.Words.{by_wanted}
use Rattle.rules.specs.Tables.{named, manager, new_thread}
use Rattle.rules.specs.States.{waits_for, awaits}
use Rattle.rules.specs.Waking.{is_ordinary, notice_of}
use Rattle.rules.specs.Receive.{wanted_by}
use Rattle.rules.specs.Interrupt.{held_for}
use Rattle.rules.specs.TableRules.{answer_in_range}
use Rattle.laws.specs.Words.{Wanted, Anybody, Only, TrapKind, Program, Tlb, SysBp, State, Running, Ready, Receiving, Clock, Device}
use Rattle.laws.specs.Words.{Trapped, Nothing, Manager, Unset, Set, Gone, Managers, Parent, Thread, Message, Held}
use Rattle.laws.specs.Types.{Entry, Detail, Right, Family, Good}
use Rattle.laws.proofs.Tests.{by_if}
use Rattle.laws.proofs.Tally.{any_count, member_any, any_fewer}
use Rattle.laws.proofs.Members.{mem_map}
use Rattle.laws.proofs.Ordered.{Transitive, chain_insert, Less, up_map}
use Rattle.laws.proofs.Threads.{turned, turned_name, turned_live}

-- ---- messages by rising receiver

abbrev pub by_receiver : Message → Message → Bool
by_receiver m n = leb m.to n.to

receivers : Transitive by_receiver
receivers x y z e f = le-leb x.to z.to (omega (arith, leb-true x.to y.to e, leb-true y.to z.to f))

pub less_order : {ms ns : List Message} → Less ms ns → chain by_receiver ms ≡ true → chain by_receiver ns ≡ true
less_order l c = l.ordered by_receiver receivers c

pub order_insert : (a : Message) (ms : List Message) → chain by_receiver ms ≡ true →
    chain by_receiver (insert (λ x. leb x.to a.to) a ms) ≡ true
order_insert a ms c =
    chain_insert by_receiver receivers a ms (λ x m e. le-leb a.to x.to (omega (arith, leb-false x.to a.to e))) c

-- ---- a thread that is as it was, among others of which all that lived live, with fewer messages

pub record Around (ts us : List Thread) (ms ns : List Message) : Type 0 where
  pub lives : (n : ℕ) → any (named n) ts ≡ true → any (named n) us ≡ true
  pub less : (m : Message) → Memᴰ m ns → Memᴰ m ms

module _ {ts us : List Thread} {ms ns : List Message} (w : Around ts us ms ns) where
  pub entry_around : (own : ℕ) (m : Manager) → Entry ts own m → Entry us own m
  unfolding Entry
  entry_around own Unset e = tt
  entry_around own (Set n) e = (w.lives n e.0, e.1)
  entry_around own Gone e = tt

  wanted_around : (f : Wanted) → by_wanted true (λ n. any (named n) ts) f ≡ true → by_wanted true (λ n. any (named n) us) f ≡ true
  wanted_around Anybody e = refl
  wanted_around (Only n) e = w.lives n e

  pub detail_around : (n : ℕ) (g : Managers) (s : State) → Detail ts ms n g s → Detail us ns n g s
  unfolding Detail
  detail_around n g Running d = tt
  detail_around n g Ready d = tt
  detail_around n g (Receiving f) d = (wanted_around f d.0, any_fewer (wanted_by n f) ms ns w.less d.1)
  detail_around n g Clock d = tt
  detail_around n g (Device x) d = d
  detail_around n g (Trapped k) d = d

  pub right_around : {t : Thread} → Right ts ms t → Right us ns t
  right_around {t} r = record {
    entries = λ k. entry_around t.name (manager k t.managers) (r.entries k);
    detail = detail_around t.name t.managers t.state r.detail;
    answer = r.answer;
    form = r.form;
    ticks = r.ticks;
  }

-- ---- a new thread

pub nothing_form : answer_in_range Nothing ≡ true
unfolding answer_in_range
nothing_form = refl

no_entry : (ts : List Thread) (n : ℕ) (k : TrapKind) → Entry ts n (manager k (record { program = Unset; tlb = Unset; sysbp = Unset }))
unfolding Entry manager
no_entry ts n Program = tt
no_entry ts n Tlb = tt
no_entry ts n SysBp = tt

pub new_right : (ts : List Thread) (ms : List Message) (n : ℕ) (p : Parent) (s : State) → Detail ts ms n (new_thread n p s).managers s →
    Right ts ms (new_thread n p s)
new_right ts ms n p s d = record { entries = no_entry ts n; detail = d; answer = λ e. refl; form = nothing_form; ticks = omega arith }

-- ---- notices

-- a notice counts among those of its sender
pub notice_counts : (m : Message) (ms : List Message) → Memᴰ m ms → is_ordinary m.kind ≡ false → (n : ℕ) → n ≡ m.from →
    1 ≤ count (notice_of n) ms
notice_counts m ms i k n e = any_count (notice_of n) ms (member_any (notice_of n) ms m i (rw (k, eq-eqb m.from n (sym e))))

-- ---- some threads change

module _ (p : Thread → Bool) (g : Thread → Thread) (name : (t : Thread) → (g t).name ≡ t.name) (parent : (t : Thread) →
    (g t).parent ≡ t.parent) where
  pub turned_parent : (t : Thread) → (turned p g t).parent ≡ t.parent
  turned_parent t = by_if (λ (u : Thread). u.parent ≡ t.parent) (p t) (λ _. parent t) (λ _. refl)

  pub turned_around : (ts : List Thread) {ms ns : List Message} → Less ms ns → Around ts (map (turned p g) ts) ms ns
  turned_around ts l = record { lives = λ n h. turned_live p g name n ts ∙ h; less = l.member }

  turned_family : {ts : List Thread} → Family ts → Family (map (turned p g) ts)
  turned_family {ts} F = record {
    depth = F.depth;
    root = λ u m z. let r = mem_map (turned p g) ts m in
        ap (λ (x : Thread). x.parent) r.2 ∙ turned_parent r.0
        ∙ F.root r.0 r.1 (sym (ap (λ (x : Thread). x.name) r.2 ∙ turned_name p g name r.0) ∙ z);
    under = λ u m z.
        let r = mem_map (turned p g) ts m in
        let n : u.name ≡ r.0.name = ap (λ (x : Thread). x.name) r.2 ∙ turned_name p g name r.0 in
        let k = F.under r.0 r.1 (λ y. z (n ∙ y)) in (
          k.0,
          ap (λ (x : Thread). x.parent) r.2 ∙ turned_parent r.0 ∙ k.1,
          turned_live p g name k.0 ts
              ∙ k.2,
          omega (arith, k.3, ap F.depth n),
        );
  }

  -- Those that pass p become what g says. Each of them is right, or is what it was; where one was trapped on somebody,
  -- no notice of it is left or it is trapped on the same one; devices have no second waiter.
  pub some_good : {b : ℕ} {ts : List Thread} {ms ns : List Message} {hs : List Held} →
      ((t : Thread) → Memᴰ t ts → p t ≡ true → Right (map (turned p g) ts) ns (g t)) →
      ((t : Thread) → Memᴰ t ts → p t ≡ true → (n : ℕ) → awaits n t ≡ true → (count (notice_of t.name) ns ≡ 0)
      ⊎ (awaits n (g t) ≡ true)) →
      ((d : ℕ) → count (waits_for d) (map (turned p g) ts) + count (held_for d) hs ≤ 1) →
      Less ms ns → Good b ts ms hs → Good b (map (turned p g) ts) ns hs
  some_good {b} {ts} {ms} {ns} {hs} new silent one l G = record {
    family = turned_family G.family;
    threads = λ u m. let r = mem_map (turned p g) ts m in rw r.2 (by_member r.0 r.1);
    waiters = one;
    messages = λ m i.
        let P = G.messages m (l.member m i) in
        record {
          to_live = turned_live p g name m.to ts ∙ P.to_live;
          from_live = turned_live p g name m.from ts ∙ P.from_live;
          word = P.word;
          notice = λ k u j e. let r = mem_map (turned p g) ts j in
              rw r.2 (still m i k r.0 r.1 (sym (ap (λ (x : Thread). x.name) r.2 ∙ turned_name p g name r.0) ∙ e));
        };
    notices = λ n. omega (arith, l.counts (notice_of n), G.notices n);
    blocks = omega (arith, l.counts (λ m. is_ordinary m.kind), G.blocks);
    rising = up_map (λ t. t.name) (turned p g) (turned_name p g name) ts G.rising;
    order = less_order l G.order;
    held = G.held;
    held_order = G.held_order;
  }
    where
      by_member : (t : Thread) → Memᴰ t ts → Right (map (turned p g) ts) ns (turned p g t)
      by_member t m = by_if (Right (map (turned p g) ts) ns) (p t) (new t m) (λ _. right_around (turned_around ts l) (G.threads t m))

      still : (m : Message) → Memᴰ m ns → is_ordinary m.kind ≡ false → (t : Thread) → Memᴰ t ts → t.name ≡ m.from →
          awaits m.to (turned p g t) ≡ true
      still m i k t j e =
          let s = (G.messages m (l.member m i)).notice k t j e in
          by_if (λ (u : Thread). awaits m.to u ≡ true) (p t)
          (λ x. ⊎_elim (λ z. absurd (omega (arith, notice_counts m ns i k t.name e))) (λ q. q) (silent t j x m.to s))
          (λ x. s)
