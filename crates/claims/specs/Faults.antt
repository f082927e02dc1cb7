-- Where bytes are bad.
use Rattle.std.specs.Prelude.{ℕ, ◌≤◌, ◌<◌, ◌≡◌, ◌↔◌, ◌≢◌, true, false, Bool, length, drop}
use mathlib.Core.List.{List, [], ◌∷◌, map, Memᴰ, ◌++◌}
use Rattle.laws.specs.Words.{Limits}
use Rattle.rules.specs.Tables.{Tables}
use Rattle.rules.specs.TableRules.{table_rules}
use Rattle.rules.specs.Dump.{dump}
use Rattle.rules.specs.Faults.{verdict, faults_15, faults_16, faults_17, faults_18, Placed, placed, wrong_length, offsets}
use Rattle.rules.specs.Lists.{has, all, is_byte}
use Rattle.rules.specs.Fields.{unread, whole}
use Rattle.rules.specs.Load.{fields_of, told}
use Rattle.laws.specs.FaultTold.{InRange, Alive}
use Rattle.laws.specs.Offsets.{Earliest, BeginsAt, Reached}
use Rattle.laws.proofs.Faults as faults
use Rattle.laws.proofs.FaultFree as fault_free
use Rattle.laws.proofs.Offsets as offsets
use Rattle.laws.proofs.FaultTold as fault_told

module _ (L : Limits) (bytes : List ℕ) where
  -- Reading answers 0 exactly if the bytes are the dump of ruled tables; and then the offset is 0.
  pub accepted_exactly : ((verdict L bytes).refusal ≡ 0) ↔ ((T : Tables) × (table_rules L T ≡ true) × (dump T ≡ bytes))
  accepted_exactly = faults.accepted_exactly L bytes

  pub accepted_offset : (verdict L bytes).refusal ≡ 0 → (verdict L bytes).offset ≡ 0
  accepted_offset = faults.accepted_offset L bytes

  -- Whatever is refused is refused with 15 to 19.
  pub refused_with_15_to_19 : (verdict L bytes).refusal ≢ 0 → (15 ≤ (verdict L bytes).refusal) × ((verdict L bytes).refusal ≤ 19)
  refused_with_15_to_19 = faults.refused_with_15_to_19 L bytes

  -- Each is given exactly if no earlier list has a fault and its own has one.
  pub refused_15 : ((verdict L bytes).refusal ≡ 15) ↔ (faults_15 bytes ≢ [])
  refused_15 = faults.refused_15 L bytes

  pub refused_16 : ((verdict L bytes).refusal ≡ 16) ↔ ((faults_15 bytes ≡ []) × (faults_16 bytes ≢ []))
  refused_16 = faults.refused_16 L bytes

  pub refused_17 : ((verdict L bytes).refusal ≡ 17) ↔ ((faults_15 bytes ≡ []) × (faults_16 bytes ≡ []) × (faults_17 bytes ≢ []))
  refused_17 = faults.refused_17 L bytes

  pub refused_18 : ((verdict L bytes).refusal ≡ 18) ↔
      ((faults_15 bytes ≡ []) × (faults_16 bytes ≡ []) × (faults_17 bytes ≡ []) × (faults_18 bytes ≢ []))
  refused_18 = faults.refused_18 L bytes

  -- It is given exactly if no list has a fault and the bytes are no dump.
  pub refused_19 : ((verdict L bytes).refusal ≡ 19) ↔
      ((faults_15 bytes ≡ []) × (faults_16 bytes ≡ []) × (faults_17 bytes ≡ []) × (faults_18 bytes ≡ [])
      × ((T : Tables) → table_rules L T ≡ true → dump T ≢ bytes))
  refused_19 = faults.refused_19 L bytes

  -- The offset is in that list, and none in it is lower; with 19 it is 0.
  pub earliest_15 : (verdict L bytes).refusal ≡ 15 → Earliest (verdict L bytes).offset (faults_15 bytes)
  earliest_15 = faults.earliest_15 L bytes

  pub earliest_16 : (verdict L bytes).refusal ≡ 16 → Earliest (verdict L bytes).offset (faults_16 bytes)
  earliest_16 = faults.earliest_16 L bytes

  pub earliest_17 : (verdict L bytes).refusal ≡ 17 → Earliest (verdict L bytes).offset (faults_17 bytes)
  earliest_17 = faults.earliest_17 L bytes

  pub earliest_18 : (verdict L bytes).refusal ≡ 18 → Earliest (verdict L bytes).offset (faults_18 bytes)
  earliest_18 = faults.earliest_18 L bytes

  pub offset_19 : (verdict L bytes).refusal ≡ 19 → (verdict L bytes).offset ≡ 0
  offset_19 = faults.offset_19 L bytes

  -- The offset is at most the length of the bytes; and where it is below, a complete field begins there, reached by going from field to
  -- field.
  pub offset_within : (verdict L bytes).offset ≤ length bytes
  offset_within = faults.offset_within L bytes

  pub a_field_begins_there : (verdict L bytes).offset < length bytes → BeginsAt bytes (verdict L bytes).offset
  a_field_begins_there = faults.a_field_begins_there L bytes

  -- Of bytes, each below 256: where 18 or 19 is given, what they tell is in its ranges; where 19 is given, the names that must live do. So
  -- neither is left to 19.
  pub in_range_at_18 : all is_byte bytes ≡ true → (verdict L bytes).refusal ≡ 18 → InRange (told bytes)
  in_range_at_18 = fault_told.in_range_at_18 L bytes

  pub others_at_19 : all is_byte bytes ≡ true → (verdict L bytes).refusal ≡ 19 → InRange (told bytes) × Alive (told bytes)
  others_at_19 = fault_told.others_at_19 L bytes

-- In the dump of ruled tables no list has a fault.
pub no_fault_in_a_dump : (L : Limits) (T : Tables) → table_rules L T ≡ true →
    (faults_15 (dump T) ≡ []) × (faults_16 (dump T) ≡ []) × (faults_17 (dump T) ≡ []) × (faults_18 (dump T) ≡ [])
no_fault_in_a_dump = fault_free.no_fault_in_a_dump

-- The list of 15 is empty exactly if nothing is left behind the complete fields, no length is wrong, and fields 1, 3 and 4 stand.
pub free_of_15 : (bytes : List ℕ) → (faults_15 bytes ≡ []) ↔
    ((unread bytes ≡ []) × ((f : Placed) → Memᴰ f (placed bytes) → wrong_length f.field ≡ false)
    × ((n : ℕ) → Memᴰ n (1 ∷ 3 ∷ 4 ∷ []) → has n (map (λ f. f.tag) (fields_of bytes)) ≡ true))
free_of_15 = faults.free_of_15

-- A list names exactly the fields that have the fault; fields are listed exactly where they begin; each knows the tags before it.
pub offsets_exactly : (fault : Placed → Bool) (fs : List Placed) (o : ℕ) →
    Memᴰ o (offsets fault fs) ↔ ((f : Placed) × Memᴰ f fs × (fault f ≡ true) × (o ≡ f.at))
offsets_exactly = offsets.offsets_exactly

pub placed_begins : (bytes : List ℕ) (f : Placed) → Memᴰ f (placed bytes) → BeginsAt bytes f.at
placed_begins = offsets.placed_begins

pub reached_begins : (bytes : List ℕ) (o : ℕ) → Reached bytes o → whole (drop o bytes) ≡ true → BeginsAt bytes o
reached_begins = offsets.reached_begins

pub next_before : (bytes : List ℕ) (xs : List Placed) (g f : Placed) (ys : List Placed) → placed bytes ≡ xs ++ (g ∷ f ∷ ys)
    → f.before ≡ g.field.tag ∷ g.before
next_before = offsets.next_before
