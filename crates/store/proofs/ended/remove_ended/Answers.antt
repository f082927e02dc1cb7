-- `ended::remove_ended` meets its contract: row by row, and the set stays as it was found.
use Rattle.std.proofs.Common.{sym, ◌∙◌}
use Rattle.store.specs.Store.{limits, Shaped, found}
use Rattle.store.proofs.Removed.{kept₁, kept₂, kept₃, kept₄, left₁, left₂, left₃, left₄, removed_idle, removed_stays, removed_ends}
use Rattle.moving.proofs.Marking.{marks_of}
use Rattle.store.proofs.ended.remove_ended.Goals as goal

pub threads-requires : goal.threads-requires
unfolding limits Shaped found
threads-requires c = (
  c.requires.0.holding.shaped.roomy,
  c.requires.0.low,
  c.requires.0.holding.shaped.threads,
  c.requires.1,
)

pub ready-requires : goal.ready-requires
unfolding Shaped found
ready-requires c = let f = left₁ c.args.m.now
    c.requires.0 _ c.threads.ensures in
    let k = kept₁ c.args.m.now
    c.requires.0 _ c.threads.ensures in
    (f.shaped.roomy, k.1, f.shaped.ready, marks_of k.0 c.requires.1)

pub clock-requires : goal.clock-requires
unfolding Shaped found
clock-requires c = let f = left₂ c.args.m.now
    c.requires.0 _
    c.threads.ensures _ c.ready.ensures in
    let k = kept₂ c.args.m.now
    c.requires.0 _
    c.threads.ensures _ c.ready.ensures in (
      f.shaped.roomy,
      k.1,
      f.shaped.clock,
      marks_of k.0 c.requires.1,
    )

pub messages-requires : goal.messages-requires
unfolding Shaped found
messages-requires c = let f =
    left₃ c.args.m.now
    c.requires.0 _
    c.threads.ensures _
    c.ready.ensures _ c.clock.ensures in
    let k = kept₃
    c.args.m.now
    c.requires.0 _
    c.threads.ensures _
    c.ready.ensures _ c.clock.ensures in (
      f.shaped.roomy,
      k.1,
      f.shaped.messages,
      marks_of k.0
          c.requires.1,
    )

pub is_member-requires : goal.is_member-requires
unfolding Shaped found
is_member-requires c = let k =
    kept₄ c.args.m.now
    c.requires.0 _
    c.threads.ensures _
    c.ready.ensures _ c.clock.ensures _
    c.messages.ensures in (
      (left₄ c.args.m.now
          c.requires.0 _
          c.threads.ensures _
          c.ready.ensures _
          c.clock.ensures _
          c.messages.ensures).shaped.roomy,
      k.1,
      marks_of k.0
          c.requires.1,
    )

pub returns-in-NoRunner : goal.returns-in-NoRunner
returns-in-NoRunner c =
    removed_idle
    c.args.m.now
    c.requires.0 _
    c.threads.ensures _
    c.ready.ensures _
    c.clock.ensures _
    c.messages.ensures _ c.runner-r.ensures c.in-NoRunner.is

pub returns-then-is_member : goal.returns-then-is_member
returns-then-is_member c =
    removed_ends
    c.args.m.now
    c.requires.0 _
    c.threads.ensures _
    c.ready.ensures _
    c.clock.ensures _
    c.messages.ensures _
    _ _ c.runner-r.ensures
    c.in-Runs.is _
    (sym c.is_member.ensures ∙ c.if-is_member.true)
    c.set_runner.ensures

pub returns-else-is_member : goal.returns-else-is_member
returns-else-is_member c =
    removed_stays
    c.args.m.now
    c.requires.0 _
    c.threads.ensures _
    c.ready.ensures _
    c.clock.ensures _
    c.messages.ensures _ _ _
    c.runner-r.ensures c.in-Runs.is
    (sym c.is_member.ensures ∙ c.if-is_member.false)
