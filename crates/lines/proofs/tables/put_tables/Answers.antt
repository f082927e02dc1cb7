-- `tables::put_tables` meets its contract: each call puts its part behind what stands there.
use Rattle.std.proofs.Common.{arith, ap, length}
use Rattle.store.specs.Store.{tables}
use Rattle.buffer.proofs.Putting.{behind}
use Rattle.lines.specs.Text.{table_lines}
use Rattle.lines.proofs.Parts.{filled_room, few, named, to_head, to_threads, to_ready, to_clock, to_messages}
use Rattle.lines.proofs.tables.put_tables.Goals as goal

pub put_threads-at-requires : goal.put_threads-at-requires
unfolding tables
put_threads-at-requires c =
    let l = few c.args.m.now c.requires.0.shaped c.requires.1 in
    (c.requires.0.shaped, l.threads, filled_room 5060 (to_head l c.requires.2 c.put_head-at.ensures) (omega (arith, c.requires.2)))

pub put_names-at-requires : goal.put_names-at-requires
unfolding tables
put_names-at-requires c =
    let l = few c.args.m.now c.requires.0.shaped c.requires.1 in
    (omega (arith, l.ready, ap length c.ready.ensures), filled_room 442 (to_threads l c.requires.2 c.put_head-at.ensures c.put_threads-at.ensures) (omega (arith, c.requires.2)))

pub put_names-at-requires-2 : goal.put_names-at-requires-2
unfolding tables
put_names-at-requires-2 c =
    let l = few c.args.m.now c.requires.0.shaped c.requires.1 in
    (omega (arith, l.clock, ap length c.clock.ensures), filled_room 442 (to_ready l c.requires.2 c.put_head-at.ensures c.put_threads-at.ensures (named 3 c.ready.ensures c.put_names-at.ensures)) (omega (arith, c.requires.2)))

pub put_messages-at-requires : goal.put_messages-at-requires
unfolding tables
put_messages-at-requires c =
    let l = few c.args.m.now c.requires.0.shaped c.requires.1 in
    (c.requires.0.shaped, l.messages, filled_room 4240 (to_clock l c.requires.2 c.put_head-at.ensures c.put_threads-at.ensures (named 3 c.ready.ensures c.put_names-at.ensures) (named 4 c.clock.ensures c.put_names-at-2.ensures)) (omega (arith, c.requires.2)))

pub put_held-at-requires : goal.put_held-at-requires
unfolding tables
put_held-at-requires c =
    let l = few c.args.m.now c.requires.0.shaped c.requires.1 in
    (c.requires.0, filled_room 3072 (to_messages l c.requires.2 c.put_head-at.ensures c.put_threads-at.ensures (named 3 c.ready.ensures c.put_names-at.ensures) (named 4 c.clock.ensures c.put_names-at-2.ensures) c.put_messages-at.ensures) (omega (arith, c.requires.2)))

pub returns : goal.returns
unfolding table_lines tables
returns c =
    let l = few c.args.m.now c.requires.0.shaped c.requires.1 in
    behind (to_messages l c.requires.2 c.put_head-at.ensures c.put_threads-at.ensures (named 3 c.ready.ensures c.put_names-at.ensures) (named 4 c.clock.ensures c.put_names-at-2.ensures) c.put_messages-at.ensures).puts c.put_held-at.ensures
