-- `moving::messages::seek_end` meets its contract.
use Rattle.std.proofs.Common.{rules, not, leb, sym, ap₂, ◌∙◌, arith}
use borrow.Author.Tests.{tests}
use Rattle.std.specs.Option.{unwrap_or}
use Rattle.laws.specs.Words.{Message}
use Rattle.memory.specs.Memory.{rows_of}
use Rattle.memory.proofs.Listing.{place_or_all}
use Rattle.memory.proofs.Sizes.{messages_long}
use lib.Seq.{length-take-le}
use Rattle.moving.proofs.Found.{place_within}
use Rattle.std.proofs.lemmas.Iterator.Search.{position_from_yields_List}
use Rattle.std.proofs.lemmas.Iterator.Consumers.{YieldsList-from_first}
use Rattle.moving.proofs.messages.seek_end.Goals as goal

pub returns : goal.returns
returns c =
    let p = λ (x : Message). not (leb x.to c.args.to) in
    let e = position_from_yields_List p _ _ c.position.result c.position.ensures.ran
    (YieldsList-from_first (λ x. x) (λ s. s) _ c.messages.ensures) (λ x b q k. search (rules, tests)) in
    let l = length-take-le (rows_of c.args.m.now).letters (rows_of c.args.m.now).messages (omega (arith, messages_long c.args.m.now, c.requires.1)) in
    c.unwrap_or.ensures ∙ ap₂ unwrap_or e (c.letters.ensures ∙ sym l) ∙ place_or_all p _ (place_within p _)
