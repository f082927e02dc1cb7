-- `inboxes::blocks_full` meets its contract: no more blocks are in use than there are messages.
use Rattle.std.proofs.Common.{arith}
use Rattle.store.proofs.Letters.{block_free}
use Rattle.store.proofs.inboxes.blocks_full.Goals as goal

pub returns-then-letters-blocks : goal.returns-then-letters-blocks
returns-then-letters-blocks c =
    block_free c.args.m.now c.requires (omega (arith, c.if-letters-blocks.true, c.letters.ensures, c.blocks-2.ensures))
