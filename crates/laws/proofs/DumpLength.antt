-- How long a dump can be: the lengths of queues, messages and held words, and from them the length of the dump.
use Rattle.std.proofs.Common.{◌==◌}
use Prim.Native.Nat.{ℕ, ◌+◌, ◌*◌, ◌≤◌}
use mathlib.Core.Path.{◌≡◌, refl, ap, ◌∙◌}
use mathlib.Core.Logic.{⊎_elim}
use mathlib.Core.Bool.{Bool, true, ◌&&◌, not}
use mathlib.Core.List.{List, ◌++◌, map}
use native.Mathlib.Omega.{arith}
use lib.ListN.{length, length-append, length-map}
use borrow.Author.Tests.{eqb-true}
use Rattle.rules.specs.Lists.{keep, count, times_in}
use Rattle.rules.specs.Numbers.{small, names, devices}
use Rattle.laws.specs.Words.{Limits}
use Rattle.rules.specs.Tables.{Tables, named}
use Rattle.rules.specs.Waking.{is_ordinary, notice_of}
use Rattle.rules.specs.TableRules.{table_rules}
use Rattle.rules.specs.Tags.{head_size, thread_tag, thread_size, message_tag, message_size, held_tag, held_size}
use Rattle.rules.specs.Dump.{field, head_value, thread_value, message_value, held_value, dump}
use Rattle.laws.specs.Words.{Thread, Message, Held, Runner}
use Rattle.laws.specs.Types.{Places, Good, Ruled}
use Rattle.laws.proofs.Tests.{same?, same_turned, and_right}
use Rattle.laws.proofs.Tally.{count_append, count_map, count_same, count_not, count_keep, length_keep, any_count, count_any}
use Rattle.laws.proofs.Tally.{any_member, length_each}
use Rattle.laws.proofs.Ordered.{up_few}
use Rattle.laws.proofs.Queues.{no_longer}
use Rattle.laws.proofs.Threads.{member_live, apart}
use Rattle.laws.proofs.Sound.{tested_ruled}

-- ---- threads, queues, messages, held words

-- names rise and are below 254
pub threads_few : (L : Limits) (T : Tables) → Ruled L T → length T.threads ≤ names
threads_few L T r =
    omega (
      arith,
      up_few (λ t. t.name) 0 names T.threads (omega arith) r.fits.rising
          (λ t m. (omega arith, r.inv.low t.name (member_live T.threads t m))),
    )

-- both queues together: a thread stands in one of them at most, once
pub queues_few : (ts : List Thread) (r : Runner) (q c : List ℕ) → Places ts r q c → length q + length c ≤ length ts
queues_few ts r q c a = omega (arith, no_longer (q ++ c) (map (λ t. t.name) ts) at_most, length-append q c, length-map ts (λ t. t.name))
  where
    at_most : (n : ℕ) → times_in (q ++ c) n ≤ times_in (map (λ t. t.name) ts) n
    at_most n =
        omega (
          arith,
          count_append (λ m. n == m) q c,
          count_map (λ m. n == m) (λ t. t.name) ts,
          a.wait n,
          a.beat n,
          apart n ts,
        )

abbrev is_notice : Message → Bool
is_notice m = not (is_ordinary m.kind)

-- the senders of notices live, and each has sent one at most
notices_few : (b : ℕ) (ts : List Thread) (ms : List Message) (hs : List Held) → Good b ts ms hs → count is_notice ms ≤ length ts
notices_few b ts ms hs g =
    omega (
      arith,
      no_longer senders (map (λ t. t.name) ts) at_most,
      length-map (keep is_notice ms) (λ m. m.from),
      length_keep is_notice ms,
      length-map ts (λ t. t.name),
    )
  where
    senders : List ℕ
    senders = map (λ m. m.from) (keep is_notice ms)

    sent : (n : ℕ) → times_in senders n ≡ count (notice_of n) ms
    sent n = count_map (λ m. n == m) (λ m. m.from) (keep is_notice ms) ∙ count_keep (λ m. n == m.from) is_notice ms
        ∙ count_same _ _ ms (λ m. ap (λ (x : Bool). is_notice m && x) (same_turned n m.from))

    lives : (n : ℕ) → 1 ≤ count (notice_of n) ms → 1 ≤ count (named n) ts
    lives n h =
        let r = any_member (notice_of n) ms (count_any (notice_of n) ms h) in
        let e : r.0.from ≡ n = eqb-true _ _ (and_right (is_notice r.0) _ r.2) in
        any_count (named n) ts (rw e at (g.messages r.0 r.1).from_live)

    at_most : (n : ℕ) → times_in senders n ≤ times_in (map (λ t. t.name) ts) n
    at_most n =
        ⊎_elim
        (λ e. omega (arith, sent n, e.0))
        (λ e. omega (arith, sent n, g.notices n, count_map (λ m. n == m) (λ t. t.name) ts, lives n (omega (arith, e.0))))
        (same? (count (notice_of n) ms) 0)

-- ordinary messages and notices
pub messages_few : (b : ℕ) (ts : List Thread) (ms : List Message) (hs : List Held) → Good b ts ms hs → length ms ≤ b + length ts
messages_few b ts ms hs g =
    omega (arith, count_not (λ m. is_ordinary m.kind) ms, g.blocks, notices_few b ts ms hs g)

-- devices rise and are below 48
pub held_few : (b : ℕ) (ts : List Thread) (ms : List Message) (hs : List Held) → Good b ts ms hs → length hs ≤ devices
held_few b ts ms hs g =
    omega (arith, up_few (λ h. h.device) 0 devices hs (omega arith) g.held_order (λ h m. (omega arith, (g.held h m).0)))

-- ---- the dump

pub thread_length : (t : Thread) → length (thread_value t) ≡ thread_size
unfolding thread_value
thread_length t = refl

pub message_length : (m : Message) → length (message_value m) ≡ message_size
unfolding message_value
message_length m = refl

pub held_length : (h : Held) → length (held_value h) ≡ held_size
unfolding held_value
held_length h = refl

pub head_length : (T : Tables) → length (head_value T) ≡ head_size
unfolding head_value
head_length T = refl

-- The length of a dump, by the lengths of its parts.
pub dump_length : (T : Tables) → length (dump T) ≡ 12 + 20 * length T.threads + (3 + length T.ready) + (3 + length T.clock) + 10
    * length T.messages + 8 * length T.held
unfolding dump
dump_length T =
    simp length-append
    (omega (
      arith,
      head_length T,
      length_each (λ t. field thread_tag (thread_value t)) 20 T.threads (λ t. omega (arith, thread_length t)),
      length_each (λ m. field message_tag (message_value m)) 10 T.messages (λ m. omega (arith, message_length m)),
      length_each (λ h. field held_tag (held_value h)) 8 T.held (λ h. omega (arith, held_length h)),
    ))

-- with t threads and b blocks: a head, t threads, the queues with t names together, b ordinary messages and t notices, 48 held words.
abbrev pub longest : Limits → ℕ
longest L = 12 + 20 * L.threads + 3 + 3 + L.threads + 10 * (L.blocks + L.threads) + 8 * devices

-- The dump of tables that meet the rules is no longer than that.
pub dump_fits : (L : Limits) (T : Tables) → table_rules L T ≡ true → length (dump T) ≤ longest L
dump_fits L T h =
    let r = tested_ruled L T h in
    omega (
      arith,
      dump_length T,
      r.inv.few,
      queues_few T.threads T.runner T.ready T.clock r.inv.agree,
      messages_few L.blocks T.threads T.messages T.held r.fits,
      held_few L.blocks T.threads T.messages T.held r.fits,
    )

-- "1,241 bytes always suffice."
pub dump_fits_small : (T : Tables) → table_rules small T ≡ true → length (dump T) ≤ 1241
dump_fits_small T h = omega (arith, dump_fits small T h)
