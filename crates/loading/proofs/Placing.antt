-- Words copied to the front of a longer memory: it stands for what they stand for, since nothing behind them is looked at.
use Prim.Native.Nat.{ℕ, ◌+◌, ◌≤◌, ◌<◌}
use mathlib.Core.Path.{◌≡◌, refl, sym, ap, ap₂, ◌∙◌}
use mathlib.Core.Bool.{true}
use mathlib.Core.List.{List, ◌++◌}
use native.Mathlib.Omega.{arith}
use lib.ListN.{length, drop, length-append, length-drop, get_or-append}
use lib.Seq.{length-take-le, ext_get_or}
use Rattle.rules.specs.Lists.{each, from_on}
use Rattle.rules.specs.Numbers.{small, devices}
use Rattle.laws.specs.Words.{Limits}
use Rattle.rules.specs.TableRules.{table_rules}
use Rattle.laws.proofs.Tests.{and_left, and_right, ◌&◌}
use Rattle.words.specs.Saying.{word, byte, thread_in, message_in, held_in}
use Rattle.memory.specs.Layout.{thread_place, message_place, held_place}
use Rattle.memory.specs.Rows.{Rows, view, Fits}
use Rattle.memory.specs.Memory.{row, part, thread_of, message_of, held_of, rows_of}
use Rattle.memory.proofs.Rowing.{row_same, each_same, part_word}
use Rattle.memory.proofs.Changes.{told, rows_told, words}
use Rattle.moving.proofs.Steps.{by}
use Rattle.store.specs.Store.{limits, tables, Shaped}
use Rattle.memory.specs.Shape.{shaped}
use Rattle.checking.specs.Stands.{stands}
use Rattle.checking.proofs.Shapes.{own_limits, shaped_right, right_shaped}

-- ---- what the memory stands for

module _ (w rest : List ℕ) (v : stands small w ≡ true) (long : length w ≡ 656) where
  abbrev m : List ℕ
  m = w ++ rest

  sized : shaped small w ≡ true
  unfolding stands
  sized = and_left (shaped small w) _ v

  threads_is : word w 0 ≡ 20
  unfolding limits rows_of
  threads_is = ap (λ (l : Limits). l.threads) (own_limits small w sized)

  blocks_is : word w 1 ≡ 20
  unfolding limits rows_of
  blocks_is = ap (λ (l : Limits). l.blocks) (own_limits small w sized)

  word_front : (k : ℕ) → k < 656 → word m k ≡ word w k
  word_front k h = get_or-append w rest 0 k (omega (arith, long))

  part_front : (a n : ℕ) → a + n ≤ 656 → part m a n ≡ part w a n
  part_front a n h =
      let p : length (part m a n) ≡ n = length-take-le n (drop a m) (omega (arith, length-drop a m, length-append w rest, long)) in
      let q : length (part w a n) ≡ n = length-take-le n (drop a w) (omega (arith, length-drop a w, long)) in
      ext_get_or 0 (part m a n) (part w a n) (p ∙ sym q) (λ k i.
      let j : k < n = omega (arith, p) in
      part_word m a n k j ∙ word_front (a + k) (omega arith) ∙ sym (part_word w a n k j))

  -- word c of each record
  cells_front : (c : ℕ) → c < 16 →
      row (λ i. byte (word m (thread_place i + c))) 0 (word m 0) ≡ row (λ i. byte (word w (thread_place i + c))) 0 (word w 0)
  cells_front c h =
      ap (row (λ i. byte (word m (thread_place i + c))) 0) (word_front 0 (omega arith))
      ∙ row_same (λ i. byte (word m (thread_place i + c))) (λ i. byte (word w (thread_place i + c))) 0 (word w 0)
      (λ k l. ap byte (word_front (thread_place k + c) (omega (arith, threads_is))))

  threads_front : row (thread_of m) 0 (word m 0) ≡ row (thread_of w) 0 (word w 0)
  threads_front =
      ap (row (thread_of m) 0) (word_front 0 (omega arith))
      ∙ row_same (thread_of m) (thread_of w) 0 (word w 0) (λ k l. ap thread_in (part_front (thread_place k) 11 (omega (arith, threads_is))))

  messages_front : row (message_of m) 0 (word m 0 + word m 1) ≡ row (message_of w) 0 (word w 0 + word w 1)
  messages_front =
      ap₂ (λ (a b : ℕ). row (message_of m) 0 (a + b)) (word_front 0 (omega arith)) (word_front 1 (omega arith))
      ∙ row_same (message_of m) (message_of w) 0 (word w 0 + word w 1) (λ k l.
      ap (λ (t : ℕ). message_in (part m (message_place t k) 3)) (word_front 0 (omega arith))
      ∙ ap message_in (part_front (message_place (word w 0) k) 3 (omega (arith, threads_is, blocks_is))))

  held_front : each (held_of m) (from_on 0 devices) ≡ each (held_of w) (from_on 0 devices)
  held_front = each_same (held_of m) (held_of w) 0 devices
      (λ k a b. ap₂ (held_in k) (word_front (held_place k) (omega arith)) (word_front (held_place k + 1) (omega arith)))

  rows_front : rows_of m ≡ told (length m) (words w) (rows_of w).threads (rows_of w).ready (rows_of w).clock (rows_of w).messages
      (rows_of w).held (rows_of w).ended
  unfolding rows_of
  rows_front =
      rows_told m (length m) (words w) _ _ _ _ _ _ refl (λ k h. word_front k (omega arith))
      threads_front (cells_front 12 (omega arith)) (cells_front 13 (omega arith)) messages_front held_front (cells_front 14 (omega arith))

  pub tables_front : tables (w ++ rest) ≡ tables w
  unfolding tables rows_of
  tables_front = ap view rows_front

  shaped_front : Shaped m
  unfolding Shaped rows_of
  shaped_front =
      let s = shaped_right small w sized (omega arith) (omega arith) in
      by (λ (r : Rows). Fits r.limits r) rows_front
      (record {
        limits = refl;
        roomy = record { long = omega (arith, s.roomy.long, length-append w rest); low = s.roomy.low; few = s.roomy.few };
        threads = s.threads;
        ready = s.ready;
        clock = s.clock;
        messages = s.messages;
      })

  limits_front : limits m ≡ small
  unfolding limits rows_of
  limits_front = ap (λ (r : Rows). r.limits) rows_front ∙ own_limits small w sized

  pub stands_front : stands small (w ++ rest) ≡ true
  unfolding stands
  stands_front = right_shaped small m shaped_front limits_front & (ap (table_rules small) tables_front ∙ and_right (shaped small w) _ v)
