-- What the first stage of reading finds: where the bytes are the dump of tables that meet the rules, each part of it.
use Prim.Native.Nat.{ℕ, ◌≤◌}
use mathlib.Core.Path.{◌≡◌, refl, sym, ap, ◌∙◌}
use mathlib.Core.Bool.{Bool, true, false}
use mathlib.Core.List.{List, [], ◌∷◌, ◌++◌, append_assoc, append-nil}
use native.Mathlib.Omega.{arith}
use lib.Dec.{eqb}
use lib.ListN.{length, drop, get_or, length-drop}
use borrow.Author.Tests.{eq-eqb, lt-ltb}
use Rattle.rules.specs.Lists.{each}
use Rattle.rules.specs.Numbers.{small, devices}
use Rattle.rules.specs.Tables.{Tables, with_threads, with_ready, with_clock, with_messages, with_held}
use Rattle.rules.specs.TableRules.{table_rules}
use Rattle.rules.specs.Dump.{field, head_value, thread_value, message_value, held_value, dump}
use Rattle.rules.specs.Load.{runner_from, word_at}
use Rattle.laws.specs.Words.{Thread, Held}
use Rattle.std.proofs.Common.{Option, None, Some}
use Rattle.std.proofs.lemmas.Option.{none-some, same_Some}
use Rattle.laws.proofs.Tests.{clash}
use Rattle.laws.specs.Types.{Ruled}
use Rattle.laws.proofs.Sound.{tested_ruled}
use Rattle.laws.proofs.DumpLength.{queues_few, messages_few, held_few}
use Rattle.laws.proofs.Dump.{thread_back, message_back, held_back, head_back, thread_ranged, runner_ranged}
use Rattle.store.specs.Store.{tables, nothing, Leaves, Fills}
use Rattle.loading.specs.Reading.{starts, opens, Small, Empty, behind_head, head_from, ThreadsRead, MessagesRead, HeldRead, NamesRead}
use Rattle.loading.specs.Reading.{RestFound, Found}
use Rattle.loading.proofs.Cutting.{field_opens}
use Rattle.loading.proofs.Filling.{still_small}

-- ---- the parts of a dump, each with what stands behind it

abbrev words : Tables → List ℕ
words T = each (λ h. field 6 (held_value h)) T.held

abbrev post : Tables → List ℕ
post T = each (λ m. field 5 (message_value m)) T.messages ++ words T

abbrev queues : Tables → List ℕ
queues T = field 3 T.ready ++ (field 4 T.clock ++ post T)

abbrev body : Tables → List ℕ
body T = each (λ t. field 2 (thread_value t)) T.threads ++ queues T

six : (a b c d e f : List ℕ) → a ++ b ++ c ++ d ++ e ++ f ≡ a ++ (b ++ (c ++ (d ++ (e ++ f))))
six a b c d e f = simp append_assoc

regrouped : (T : Tables) → dump T ≡ field 1 (head_value T) ++ body T
unfolding dump
regrouped T = six (field 1 (head_value T)) (each (λ t. field 2 (thread_value t)) T.threads) (field 3 T.ready) (field 4 T.clock)
    (each (λ m. field 5 (message_value m)) T.messages) (words T)

-- no message stands behind the messages
words_start : (hs : List Held) → starts 5 (each (λ h. field 6 (held_value h)) hs) ≡ false
unfolding starts each
words_start [] = refl
words_start (h ∷ hs) = refl

queues_start : (T : Tables) → starts 2 (queues T) ≡ false
unfolding starts
queues_start T = refl

-- ---- the head

-- what the first twelve bytes tell
record Headed (T : Tables) (bytes : List ℕ) : Type 0 where
  known : opens 1 9 bytes ≡ true
  last : get_or bytes 4 0 ≡ T.last
  runner : runner_from (get_or bytes 5 0) (get_or bytes 6 0) ≡ T.runner
  since : get_or bytes 7 0 ≡ T.since
  beats : word_at bytes 8 ≡ T.beats
  behind : drop 12 bytes ≡ body T

module _ (T : Tables) (h : table_rules small T ≡ true) where
  ruled : Ruled small T
  ruled = tested_ruled small T h

  headed_front : Headed T (field 1 (head_value T) ++ body T)
  unfolding head_value
  headed_front =
      let told = head_back T (runner_ranged small T ruled) ruled.steady.beats in
      record {
        known = field_opens 1 (head_value T) (body T) (omega arith);
        last = told.last;
        runner = told.runner;
        since = told.since;
        beats = told.beats;
        behind = refl;
      }

  headed : (bytes : List ℕ) → dump T ≡ bytes → Headed T bytes
  headed bytes e = rw (sym e ∙ regrouped T) headed_front

-- no head: no dump
pub not_headed : (bytes m : List ℕ) → opens 1 9 bytes ≡ false → Found bytes m false
not_headed bytes m o = record { finds = λ T h e. absurd (clash (headed T h bytes e).known o) }

-- a head was read into an empty memory c, which became m
module _ (bytes : List ℕ) {c m : List ℕ} (L : Leaves c m (head_from bytes (tables c))) where
  pub head_empty : tables c ≡ nothing → Empty (tables m)
  head_empty e =
      record {
        threads = ap (λ (T : Tables). T.threads) L.says ∙ ap (λ (T : Tables). T.threads) e;
        ready = ap (λ (T : Tables). T.ready) L.says ∙ ap (λ (T : Tables). T.ready) e;
        clock = ap (λ (T : Tables). T.clock) L.says ∙ ap (λ (T : Tables). T.clock) e;
        messages = ap (λ (T : Tables). T.messages) L.says ∙ ap (λ (T : Tables). T.messages) e;
        held = ap (λ (T : Tables). T.held) L.says ∙ ap (λ (T : Tables). T.held) e;
      }

  -- and the rest of the tables was read behind it
  pub all_found : (m' : List ℕ) (good : Bool) → RestFound (tables m) bytes m' good → Found bytes m' good
  all_found m' good R = record {
    finds = λ T h e. let r = R.finds T h e in
        (r.0, r.1 ∙ ap (λ (U : Tables). behind_head U T) L.says ∙ told T (headed T h bytes e), r.2);
  }
    where
      told : (T : Tables) → Headed T bytes → behind_head (head_from bytes (tables c)) T ≡ T
      told T d = λ i. record {
        last = d.last i;
        runner = d.runner i;
        since = d.since i;
        beats = d.beats i;
        threads = T.threads;
        ready = T.ready;
        clock = T.clock;
        messages = T.messages;
        held = T.held;
      }

-- ---- the stages behind the head, where the bytes are the dump of tables that meet the rules

module _ (T : Tables) (h : table_rules small T ≡ true) (bytes : List ℕ) (i : dump T ≡ bytes) where
  abbrev r : Ruled small T
  r = ruled T h

  threads_whole : (a : ℕ) {ts : List Thread} → ThreadsRead (drop 12 bytes) ts (drop a bytes) → (ts ≡ T.threads) × (drop a bytes ≡ queues T)
  threads_whole a R =
      R.reads T.threads (queues T) r.inv.few
      (record { each_back = λ x m. thread_back x (thread_ranged small T r x m) }) (queues_start T) (headed T h bytes i).behind

  few : (length T.ready ≤ 20) × (length T.clock ≤ 20)
  few =
      let q = queues_few T.threads T.runner T.ready T.clock r.inv.agree in
      (omega (arith, r.inv.few), omega (arith, r.inv.few))

  ready_whole : {a : ℕ} {place : Option ℕ} {names : List ℕ} → drop a bytes ≡ queues T → NamesRead 3 bytes a place names
      → (b : ℕ) × (place ≡ Some b) × (names ≡ T.ready) × (drop b bytes ≡ field 4 T.clock ++ post T)
  ready_whole e R = R.reads T.ready (field 4 T.clock ++ post T) few.0 e

  clock_whole : {b : ℕ} {place : Option ℕ} {names : List ℕ} → drop b bytes ≡ field 4 T.clock ++ post T → NamesRead 4 bytes b place names
      → (c : ℕ) × (place ≡ Some c) × (names ≡ T.clock) × (drop c bytes ≡ post T)
  clock_whole e R = R.reads T.clock (post T) few.1 e

-- What the stages did: m₀ became m₁ with the threads, and so on to m₅; a to e are the places behind them.
pub record Stages (bytes m₀ m₁ m₂ m₃ m₄ m₅ : List ℕ) (a b c d e : ℕ) : Type 0 where
  pub small : Small m₀
  pub threads : Fills m₀ m₁ (with_threads (tables m₁).threads (tables m₀))
  pub ready : Fills m₁ m₂ (with_ready (tables m₂).ready (tables m₁))
  pub clock : Fills m₂ m₃ (with_clock (tables m₃).clock (tables m₂))
  pub messages : Fills m₃ m₄ (with_messages (tables m₄).messages (tables m₃))
  pub held : Fills m₄ m₅ (with_held (tables m₅).held (tables m₄))
  pub threads_read : ThreadsRead (drop 12 bytes) (tables m₁).threads (drop a bytes)
  pub ready_read : NamesRead 3 bytes a (Some b) (tables m₂).ready
  pub clock_read : NamesRead 4 bytes b (Some c) (tables m₃).clock
  pub messages_read : MessagesRead (drop c bytes) (tables m₄).messages (drop d bytes)
  pub held_read : HeldRead (drop d bytes) (tables m₅).held (drop e bytes)

pub stages : {bytes m₀ m₁ m₂ m₃ m₄ m₅ : List ℕ} {a b c d e : ℕ} → Small m₀
    → (a ≤ length bytes) × Fills m₀ m₁ (with_threads (tables m₁).threads (tables m₀))
    × ThreadsRead (drop 12 bytes) (tables m₁).threads (drop a bytes)
    → Fills m₁ m₂ (with_ready (tables m₂).ready (tables m₁)) × NamesRead 3 bytes a (Some b) (tables m₂).ready
    → Fills m₂ m₃ (with_clock (tables m₃).clock (tables m₂)) × NamesRead 4 bytes b (Some c) (tables m₃).clock
    → (d ≤ length bytes) × Fills m₃ m₄ (with_messages (tables m₄).messages (tables m₃))
    × MessagesRead (drop c bytes) (tables m₄).messages (drop d bytes)
    → (e ≤ length bytes) × Fills m₄ m₅ (with_held (tables m₅).held (tables m₄)) × HeldRead (drop d bytes) (tables m₅).held (drop e bytes)
    → Stages bytes m₀ m₁ m₂ m₃ m₄ m₅ a b c d e
stages S t q k m h =
    record {
      small = S;
      threads = t.1;
      ready = q.0;
      clock = k.0;
      messages = m.1;
      held = h.1;
      threads_read = t.2;
      ready_read = q.1;
      clock_read = k.1;
      messages_read = m.2;
      held_read = h.2;
    }

-- ... and what they found
record Whole (T : Tables) (bytes m₁ m₂ m₃ m₄ m₅ : List ℕ) (e : ℕ) : Type 0 where
  threads : (tables m₁).threads ≡ T.threads
  ready : (tables m₂).ready ≡ T.ready
  clock : (tables m₃).clock ≡ T.clock
  messages : (tables m₄).messages ≡ T.messages
  held : (tables m₅).held ≡ T.held
  end : drop e bytes ≡ []

-- a field of names that does not stand: no dump
module _ {bytes : List ℕ} {a : ℕ} {ts : List Thread} (R : ThreadsRead (drop 12 bytes) ts (drop a bytes)) (T₀ : Tables) (m : List ℕ) where
  pub no_ready : {q : List ℕ} → NamesRead 3 bytes a None q → RestFound T₀ bytes m false
  no_ready N = record {
    finds = λ T h i. absurd (none-some _ (ready_whole T h bytes i (threads_whole T h bytes i a R).1 N).1);
  }

  pub no_clock : {b : ℕ} {q k : List ℕ} → NamesRead 3 bytes a (Some b) q → NamesRead 4 bytes b None k → RestFound T₀ bytes m false
  no_clock {b} N K = record {
    finds = λ T h i.
        let q = ready_whole T h bytes i (threads_whole T h bytes i a R).1 N in
        absurd (none-some _ (clock_whole T h bytes i (ap (λ (n : ℕ). drop n bytes) (same_Some _ _ q.1) ∙ q.3) K).1);
  }

module _ {bytes m₀ m₁ m₂ m₃ m₄ m₅ : List ℕ} {a b c d e : ℕ} (P : Stages bytes m₀ m₁ m₂ m₃ m₄ m₅ a b c d e) where
  whole : (T : Tables) → table_rules small T ≡ true → dump T ≡ bytes → Whole T bytes m₁ m₂ m₃ m₄ m₅ e
  unfolding starts
  whole T h i =
      let r = ruled T h in
      let t = threads_whole T h bytes i a P.threads_read in
      let q = ready_whole T h bytes i t.1 P.ready_read in
      let k = clock_whole T h bytes i (ap (λ (n : ℕ). drop n bytes) (same_Some _ _ q.1) ∙ q.3) P.clock_read in
      let m = P.messages_read.reads T.messages (words T)
      (omega (arith, r.inv.few, messages_few 20 T.threads T.messages T.held r.fits))
      (record { each_back = λ x n. message_back x (r.fits.messages x n).word }) (words_start T.held)
      (ap (λ (n : ℕ). drop n bytes) (same_Some _ _ k.1) ∙ k.3) in
      let w = P.held_read.reads T.held [] (held_few 20 T.threads T.messages T.held r.fits)
      (record {
        backs = record { each_back = λ x n. held_back x (r.fits.held x n).1 };
        low = λ x n. lt-ltb x.device devices (r.fits.held x n).0;
        rising = r.fits.held_order;
      })
      refl (m.1 ∙ sym (append-nil (words T))) in
      record { threads = t.0; ready = q.2; clock = k.2; messages = m.0; held = w.0; end = w.1 }

  -- what stands in the memory is put together
  together : tables m₅ ≡ with_held (tables m₅).held
      (with_messages (tables m₄).messages
      (with_clock (tables m₃).clock (with_ready (tables m₂).ready (with_threads (tables m₁).threads (tables m₀)))))
  together =
      P.held.says
      ∙ ap (with_held (tables m₅).held) (P.messages.says
      ∙ ap (with_messages (tables m₄).messages) (P.clock.says
      ∙ ap (with_clock (tables m₃).clock) (P.ready.says
      ∙ ap (with_ready (tables m₂).ready) P.threads.says)))

  pub rest_found : e ≤ length bytes → RestFound (tables m₀) bytes m₅ (eqb e (length bytes))
  rest_found l = record {
    finds = λ T h i.
        let w = whole T h i in (
          eq-eqb e (length bytes) (omega (arith, ap length w.end, length-drop e bytes)),
          together ∙ told T w,
          still_small (still_small (still_small (still_small (still_small P.small P.threads) P.ready) P.clock) P.messages)
              P.held,
        );
  }
    where
      told : (T : Tables) → Whole T bytes m₁ m₂ m₃ m₄ m₅ e →
          with_held (tables m₅).held (with_messages (tables m₄).messages
          (with_clock (tables m₃).clock (with_ready (tables m₂).ready (with_threads (tables m₁).threads (tables m₀))))) ≡ behind_head
          (tables m₀) T
      told T w = λ i. record {
        last = (tables m₀).last;
        runner = (tables m₀).runner;
        since = (tables m₀).since;
        beats = (tables m₀).beats;
        threads = w.threads i;
        ready = w.ready i;
        clock = w.clock i;
        messages = w.messages i;
        held = w.held i;
      }
