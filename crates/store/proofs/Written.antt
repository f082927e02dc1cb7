-- What a memory stands for after a row of it was written.
use Rattle.std.proofs.Common.{◌≡◌, ℕ, ◌≤◌, Bool, true, false, ltb, List, [], map, take, sym, refl, ap, ◌∙◌, arith, if◌then◌else◌}
use borrow.Author.Tests.{eqb-false}
use Rattle.rules.specs.Lists.{any, keep, count, insert}
use Rattle.rules.specs.Tables.{Tables, with_last, with_runner, with_time, with_threads, with_ready, with_clock, with_messages, with_held}
use Rattle.rules.specs.Tables.{named}
use Rattle.laws.specs.Words.{Thread, Message, Held, Runner}
use Rattle.laws.specs.Types.{Rising}
use Rattle.laws.proofs.Tally.{not_any}
use Rattle.laws.proofs.Ordered.{keep_less, up_less, up_map, up_insert, up_once}
use Rattle.memory.specs.Rows.{Rows, view, Fits, put_last, put_runner, put_since, put_beats, put_clocks, put_held, ReadyIs, ClockIs}
use Rattle.memory.specs.Rows.{ThreadsAre, ThreadsLeft, MessagesAre, MembersAre, Woken}
use Rattle.memory.specs.Memory.{rows_of}
use Rattle.moving.proofs.Steps.{by}
use Rattle.store.specs.Store.{limits, tables, Shaped, Holding, Leaves, Fills, found, Finds}

-- ---- the memory m became m'

module _ {m m' : List ℕ} where
  -- whose rows are r
  pub fills : {T : Tables} (r : Rows) → rows_of m' ≡ r → view r ≡ T → r.limits ≡ (rows_of m).limits → Fits r.limits r → Fills m m' T
  unfolding tables limits Shaped
  fills r e v l f =
      record { says = ap view e ∙ v; same = ap (λ (s : Rows). s.limits) e ∙ l; shaped = by (λ (s : Rows). Fits s.limits s) e f }

  pub leaves : {T : Tables} → Fills m m' T → Rising T.threads → Leaves m m' T
  leaves {T} f r =
      record {
        says = f.says;
        same = f.same;
        holding =
            record { shaped = f.shaped; rising = rw f.says r; once = λ n. rw f.says (up_once (λ t. t.name) n T.threads r) };
      }

  module _ (s : Shaped m) where
    pub last_put : (n : ℕ) → rows_of m' ≡ put_last n (rows_of m) → Fills m m' (with_last n (tables m))
    unfolding tables Shaped
    last_put n e = fills _ e refl refl s

    pub runner_put : (r : Runner) → rows_of m' ≡ put_runner r (rows_of m) → Fills m m' (with_runner r (tables m))
    unfolding tables Shaped
    runner_put r e = fills _ e refl refl s

    -- by way of m₁
    pub time_put : (m₁ : List ℕ) (n b : ℕ) → rows_of m₁ ≡ put_since n (rows_of m) → rows_of m' ≡ put_beats b (rows_of m₁) →
        Fills m m' (with_time n b (tables m))
    unfolding tables Shaped
    time_put m₁ n b d e = fills _ (e ∙ ap (put_beats b) d) refl refl s

    pub held_put : (l : List Held) → rows_of m' ≡ put_held l (rows_of m) → Fills m m' (with_held l (tables m))
    unfolding tables Shaped
    held_put l e = fills _ e refl refl s

    pub ready_is : {l : List ℕ} → ReadyIs (rows_of m) (rows_of m') l → Fills m m' (with_ready l (tables m))
    unfolding tables Shaped
    ready_is q =
        fills _ q.only (ap (λ (l : List ℕ). with_ready l (view (rows_of m))) q.says) refl
        (record { limits = refl; roomy = s.roomy; threads = s.threads; ready = q.fits; clock = s.clock; messages = s.messages })

    pub clock_is : {l : List ℕ} → ClockIs (rows_of m) (rows_of m') l → Fills m m' (with_clock l (tables m))
    unfolding tables Shaped
    clock_is q =
        fills _ q.only (ap (λ (l : List ℕ). with_clock l (view (rows_of m))) q.says) refl
        (record { limits = refl; roomy = s.roomy; threads = s.threads; ready = s.ready; clock = q.fits; messages = s.messages })

    -- nobody waits for the clock
    pub clock_none : rows_of m' ≡ put_clocks 0 (rows_of m) → Fills m m' (with_clock [] (tables m))
    unfolding tables Shaped
    clock_none e = fills _ e refl refl
        (record { limits = refl; roomy = s.roomy; threads = s.threads; ready = s.ready; clock = omega arith; messages = s.messages })

    pub messages_are : {l : List Message} → MessagesAre (rows_of m) (rows_of m') l → Fills m m' (with_messages l (tables m))
    unfolding tables Shaped
    messages_are q =
        fills _ q.only (ap (λ (l : List Message). with_messages l (view (rows_of m))) q.says) refl
        (record { limits = refl; roomy = s.roomy; threads = s.threads; ready = s.ready; clock = s.clock; messages = q.fits })

    pub threads_left : {l : List Thread} → ThreadsLeft (rows_of m) (rows_of m') l → Fills m m' (with_threads l (tables m))
    unfolding tables Shaped
    threads_left q =
        fills _ q.only (ap (λ (l : List Thread). with_threads l (view (rows_of m))) q.says) refl
        (record { limits = refl; roomy = s.roomy; threads = q.fits; ready = s.ready; clock = s.clock; messages = s.messages })

    -- as many threads as before
    pub threads_are : {l : List Thread} → ThreadsAre (rows_of m) (rows_of m') l → Fills m m' (with_threads l (tables m))
    unfolding tables Shaped
    threads_are q =
        fills _ q.only
        (ap (λ (r : Rows). with_threads (take r.count (rows_of m').threads) (view (rows_of m))) (sym q.only)
        ∙ ap (λ (l : List Thread). with_threads l (view (rows_of m))) q.says)
        refl
        s

    pub woken : {ts : List Thread} {l : List ℕ} → Woken (rows_of m) (rows_of m') ts l →
        Fills m m' (with_ready l (with_threads ts (tables m)))
    unfolding tables Shaped
    woken {ts} q =
        fills _ q.only
        (ap (λ (r : Rows). with_ready (view (rows_of m')).ready (with_threads (take r.count (rows_of m').threads) (view (rows_of m))))
        (sym q.only)
        ∙ ap (λ (l : List Thread). with_ready (view (rows_of m')).ready (with_threads l (view (rows_of m)))) q.threads
        ∙ ap (λ (l : List ℕ). with_ready l (with_threads ts (view (rows_of m)))) q.ready)
        refl
        (record { limits = refl; roomy = s.roomy; threads = s.threads; ready = q.fits; clock = s.clock; messages = s.messages })

  -- who is found is no part of the tables
  pub found_are : {l : List ℕ} → Holding m → MembersAre (rows_of m) (rows_of m') l → Finds m m' l
  unfolding tables limits Shaped found
  found_are h q =
      record {
        set = q.says;
        says = ap view q.only;
        same = ap (λ (r : Rows). r.limits) q.only;
        finding = record {
          holding = record {
            shaped = by (λ (r : Rows). Fits r.limits r) q.only h.shaped;
            rising = by (λ (r : Rows). Rising (view r).threads) q.only h.rising;
            once = by (λ (r : Rows). (n : ℕ) → count (named n) (view r).threads ≤ 1) q.only h.once;
          };
          low = by (λ (r : Rows). (rows_of m').ends ≤ r.limits.threads) q.only q.fits;
        };
      }

-- one after another: m became m₁, and that became m'
pub after : {m m₁ m' : List ℕ} {T : Tables} (f : Tables → Tables) → Fills m m₁ T → Fills m₁ m' (f (tables m₁)) → Fills m m' (f T)
after f a b = record { says = b.says ∙ ap f a.says; same = b.same ∙ a.same; shaped = b.shaped }

-- ---- threads stand by rising name

module _ (ts : List Thread) (r : Rising ts) where
  -- where a change keeps names
  pub rising_map : (f : Thread → Thread) → ((t : Thread) → (f t).name ≡ t.name) → Rising (map f ts)
  rising_map f e = up_map (λ t. t.name) f e ts r

  pub rising_where : (p : Thread → Bool) (f : Thread → Thread) → ((t : Thread) → (f t).name ≡ t.name) →
      Rising (map (λ t. if p t then f t else t) ts)
  rising_where p f e = rising_map _ (λ t. go t (p t))
    where
      go : (t : Thread) (b : Bool) → (if b then f t else t).name ≡ t.name
      go t true = e t
      go t false = refl

  pub rising_keep : (p : Thread → Bool) → Rising (keep p ts)
  rising_keep p = up_less (λ t. t.name) (keep_less p ts) r

  -- a newcomer whose name nobody has, at the place of its name
  pub rising_insert : (t : Thread) → any (named t.name) ts ≡ false → Rising (insert (λ u. ltb u.name t.name) t ts)
  rising_insert t e =
      up_insert (λ u. u.name) t ts
      (λ u m h. eqb-false t.name u.name (not_any (named t.name) ts u e m) (sym h))
      r
