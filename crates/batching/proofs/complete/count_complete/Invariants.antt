-- `complete::count_complete`: the fields up to a place are counted, and the reader still has those from there on.
use Rattle.std.proofs.Common.{◌≡◌, drop}
use Rattle.rules.specs.Batch.{complete}
use Rattle.fields.specs.Reading.{wholes}
use Rattle.batching.proofs.FieldCount.{Counted}
use Rattle.batching.proofs.complete.count_complete.Given as goal

abbrev pub invariant-loop-field : goal.invariant-loop-field
invariant-loop-field l = Counted l.events l.count l.end × (complete (drop l.end l.events) ≡ wholes l.field-iterator)
