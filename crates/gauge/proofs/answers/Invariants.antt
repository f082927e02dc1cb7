-- `answers`: the memory keeps its length.
use Rattle.std.proofs.Common.{◌≡◌, length}
use Rattle.gauge.proofs.answers.Given as goal

abbrev pub invariant-loop : goal.invariant-loop
invariant-loop l = length l.m ≡ length l.initial.m
