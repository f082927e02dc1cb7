-- `writing::write_dump` meets its contract: each part is put behind those before it, and has room there.
use Rattle.std.proofs.Common.{arith, ap, length}
use Rattle.rules.specs.Dump.{dump}
use Rattle.store.specs.Store.{tables}
use Rattle.buffer.proofs.Putting.{behind, room, place_within}
use Rattle.dumping.proofs.Parts.{lengths, short, named}
use Rattle.dumping.proofs.writing.write_dump.Goals as goal

pub write_head-at-requires : goal.write_head-at-requires
write_head-at-requires c = (c.requires.0.shaped, omega (arith, (lengths (tables c.args.m.now)).whole, c.requires.1))

pub write_threads-at-requires : goal.write_threads-at-requires
write_threads-at-requires c =
    let L = lengths (tables c.args.m.now) in
    let p = c.write_head-at.ensures in
    (c.requires.0.shaped, omega (arith, room p, p.counts, L.head, L.whole, c.requires.1))

pub write_names-at-requires : goal.write_names-at-requires
unfolding tables
write_names-at-requires c =
    let L = lengths (tables c.args.m.now) in
    let p = behind c.write_head-at.ensures c.write_threads-at.ensures in
    let n = ap length c.ready.ensures in
    (omega (arith, n, (short c.requires.0).ready), omega (arith, n, room p, p.counts, L.threads, L.whole, c.requires.1))

pub write_names-at-requires-2 : goal.write_names-at-requires-2
unfolding tables
write_names-at-requires-2 c =
    let L = lengths (tables c.args.m.now) in
    let p = behind (behind c.write_head-at.ensures c.write_threads-at.ensures) (named c.ready.ensures c.write_names-at.ensures) in
    let n = ap length c.clock.ensures in
    (omega (arith, n, (short c.requires.0).clock), omega (arith, n, room p, p.counts, L.ready, L.whole, c.requires.1))

pub write_messages-at-requires : goal.write_messages-at-requires
unfolding tables
write_messages-at-requires c =
    let L = lengths (tables c.args.m.now) in
    let p = behind (behind (behind c.write_head-at.ensures c.write_threads-at.ensures) (named c.ready.ensures c.write_names-at.ensures)) (named c.clock.ensures c.write_names-at-2.ensures) in
    (c.requires.0.shaped, omega (arith, room p, p.counts, L.clock, L.whole, c.requires.1))

pub slice_bounds-write_held-count : goal.slice_bounds-write_held-count
slice_bounds-write_held-count c =
    place_within (behind (behind (behind (behind c.write_head-at.ensures c.write_threads-at.ensures) (named c.ready.ensures c.write_names-at.ensures)) (named c.clock.ensures c.write_names-at-2.ensures)) c.write_messages-at.ensures)

pub slice_bounds-write_held-start : goal.slice_bounds-write_held-start
slice_bounds-write_held-start c =
    place_within (behind (behind (behind (behind c.write_head-at.ensures c.write_threads-at.ensures) (named c.ready.ensures c.write_names-at.ensures)) (named c.clock.ensures c.write_names-at-2.ensures)) c.write_messages-at.ensures)

pub write_held-at-requires : goal.write_held-at-requires
unfolding tables
write_held-at-requires c =
    let L = lengths (tables c.args.m.now) in
    let p = behind (behind (behind (behind c.write_head-at.ensures c.write_threads-at.ensures) (named c.ready.ensures c.write_names-at.ensures)) (named c.clock.ensures c.write_names-at-2.ensures)) c.write_messages-at.ensures in
    (c.requires.0, omega (arith, room p, p.counts, L.messages, L.whole, c.requires.1))

pub returns : goal.returns
unfolding dump tables
returns c =
    behind (behind (behind (behind (behind c.write_head-at.ensures c.write_threads-at.ensures) (named c.ready.ensures c.write_names-at.ensures)) (named c.clock.ensures c.write_names-at-2.ensures)) c.write_messages-at.ensures) c.write_held-at.ensures
