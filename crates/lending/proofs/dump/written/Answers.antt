-- `dump::written`: tables that passed the check can be written.
use Rattle.std.proofs.Common.{sym, ◌∙◌, arith}
use Rattle.lending.proofs.Standing.{writable_standing}
use Rattle.lending.proofs.dump.written.Goals as goal

pub dump_length-requires : goal.dump_length-requires
dump_length-requires c = writable_standing (sym c.standing.ensures ∙ c.in_ok-standing.was)

pub write_dump-requires : goal.write_dump-requires
write_dump-requires c =
    (writable_standing (sym c.standing.ensures ∙ c.in_ok-standing.was), omega (arith, c.dump_length.ensures, c.if-out-dump_length.false))
