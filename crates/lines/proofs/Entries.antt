-- How long the lines of a table's entries are at most.
use Rattle.std.proofs.Common.{◌≤◌, length}
use Rattle.rules.specs.declared.Thread.{Thread}
use Rattle.rules.specs.declared.Message.{Message}
use Rattle.rules.specs.declared.Held.{Held}
use Rattle.lines.specs.Text.{thread_line, message_line, held_line}
use Rattle.lines.proofs.NumberLines.{line_few}

pub thread_few : (t : Thread) → length (thread_line t) ≤ 253
thread_few t = line_few _

pub message_few : (m : Message) → length (message_line m) ≤ 106
message_few m = line_few _

pub held_few : (h : Held) → length (held_line h) ≤ 64
held_few h = line_few _
