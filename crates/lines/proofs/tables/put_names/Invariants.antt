-- `tables::put_names` meets its contract. The loop: the tag and the names passed stand at the front, without the line's end.
use Rattle.std.proofs.Common.{◌≡◌, ◌++◌, ◌∷◌}
use Rattle.buffer.specs.Puts.{Puts}
use Rattle.lines.proofs.NumberLines.{body}
use Rattle.lines.proofs.tables.put_names.Given as goal

abbrev pub invariant-loop-name : goal.invariant-loop-name
invariant-loop-name l =
    (l.yielded ++ l.name-iterator ≡ l.fn.names)
    × Puts (body (l.fn.tag ∷ l.yielded)) l.fn.out l.out l.at
