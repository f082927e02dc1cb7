-- The refusals as values, each with its number.
use Rattle.std.specs.Prelude.{ℕ, Result, Ok, Err}
use Rattle.rules.specs.declared.refusal.Refusal.{Refusal}
use Rattle.rules.specs.declared.refusal.Refusal.TheVariants.{Over, Malformed, NobodyRuns, NotLive, NoBlockFree, NoThreadFree}
use Rattle.rules.specs.declared.refusal.Refusal.TheVariants.{BrotherOfFirst, DeviceTaken, NoDecision, OwnName, NoTables, BufferShort}
use Rattle.rules.specs.declared.refusal.Refusal.TheVariants.{RoomShort, CutShort, OutOfOrder, OutOfRange, NamesNobody, TableRule}

-- "no." of the list of document 01; behind 13 those of document 02
unfoldable pub refusal_number : Refusal → ℕ
refusal_number Over = 1
refusal_number Malformed = 2
refusal_number NobodyRuns = 3
refusal_number NotLive = 4
refusal_number NoBlockFree = 5
refusal_number NoThreadFree = 6
refusal_number BrotherOfFirst = 7
refusal_number DeviceTaken = 8
refusal_number NoDecision = 9
refusal_number OwnName = 10
refusal_number NoTables = 11
refusal_number BufferShort = 12
refusal_number RoomShort = 14
refusal_number CutShort = 15
refusal_number OutOfOrder = 16
refusal_number OutOfRange = 17
refusal_number NamesNobody = 18
refusal_number TableRule = 19

-- 0: nothing is refused
unfoldable pub refusal_told : {A : Type 0} → Result A Refusal → ℕ
refusal_told (Ok a) = 0
refusal_told (Err r) = refusal_number r
