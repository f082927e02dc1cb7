-- `moving::messages::drop_notice` meets its contract.
use Rattle.std.proofs.Common.{rules}
use borrow.Author.Tests.{tests}
use Rattle.rules.specs.Waking.{notice_of}
use Rattle.moving.proofs.messages.drop_notice.Goals as goal

pub returns : goal.returns
returns c =
    let R = c.sift.ensures (notice_of c.args.name) (λ x b p. search (rules, tests)) in
    record { only = R.only; says = R.says; fits = R.fits }
