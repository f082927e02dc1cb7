-- `inboxes::messages_right` meets its contract. The loop: both ends of the messages passed live, and so many of them were ordinary.
use Rattle.std.proofs.Common.{◌≡◌, ◌∙◌, ◌+◌, ◌∷◌, ◌&&◌, leb, ℕ, List, length, length-append, sym, ap, arith}
use Rattle.rules.specs.Lists.{one_if}
use Rattle.rules.specs.Tables.{live}
use Rattle.rules.specs.Waking.{is_ordinary}
use Rattle.laws.specs.Words.{MessageKind}
use Rattle.laws.proofs.Tests.{one_at_most}
use Rattle.store.specs.Store.{tables, limits}
use Rattle.store.proofs.Lengths.{messages_limit, blocks_limit}
use Rattle.indexing.proofs.Marking.{walk_here, walk_next, walk_ends}
use Rattle.indexing.proofs.Passing.{few}
use Rattle.agreeing.proofs.Lettering.{letters_start, letters_next, letters_few, letters_fail, letters_end}
use Rattle.agreeing.proofs.inboxes.messages_right.Goals as goal

pub loop-l-init : goal.loop-l-init
unfolding tables
loop-l-init c = (letters_start _, c.into_iter-l-iterator.ensures.into_iter_gives ∙ c.messages-l-items.ensures)

pub returns-then-not-ends_live : goal.returns-then-not-ends_live
returns-then-not-ends_live c =
    let l = c.in-Some.l in
    let m = c.words-m.result.now in
    rw (← c.words-m.ensures.same) (letters_fail (tables m) (limits m) _ l _ (walk_here _ c.loop-l.invariant.1 _ _ c.in-Some.ensures.steps)
    (ap (λ (v : List ℕ). live l.to (tables v) && live l.from (tables v)) c.words-m.ensures.same
    ∙ sym c.ends_live.ensures ∙ c.if-not-ends_live.true))

pub overflow_add-used : goal.overflow_add-used
unfolding limits
overflow_add-used c =
    let m = c.words-m.result.now in
    let F = c.words-m.ensures.shaped in
    let one : c.from-used.result ≡ one_if c.is_ordinary.result = c.from-used.ensures in omega (
      arith,
      letters_few (tables m) c.loop-l.invariant.0,
      ap length (walk_here c.loop-l.yielded c.loop-l.invariant.1 c.in-Some.l c.next.new.self c.in-Some.ensures.steps),
      length-append c.loop-l.yielded (c.in-Some.l ∷ c.next.new.self),
      messages_limit m F,
      blocks_limit m F,
      few m F,
      one,
      one_at_most c.is_ordinary.result,
    )

pub loop-l-preserved : goal.loop-l-preserved
loop-l-preserved c =
    let l = c.in-Some.l in (
      letters_next _ c.loop-l.invariant.0 l
          (ap (λ (v : List ℕ). live l.to (tables v) && live l.from (tables v)) c.words-m.ensures.same
          ∙ sym c.ends_live.ensures ∙ c.if-not-ends_live.false) _
          (ap (λ (n : ℕ). c.loop-l.used + n) (c.from-used.ensures ∙ ap one_if (c.is_ordinary.ensures
          ∙ ap (λ (k : MessageKind). is_ordinary k) c.kind.ensures))),
      walk_next _ c.loop-l.invariant.1 _ _ c.in-Some.ensures.steps,
    )

pub returns : goal.returns
unfolding tables limits
returns c =
    rw (← c.words-m.ensures.same) (ap (λ (n : ℕ). leb c.loop-l.used n) c.blocks-2.ensures
    ∙ letters_end _ c.loop-l.invariant.0 (limits c.words-m.result.now) (walk_ends _ c.loop-l.invariant.1 c.in-None.ensures.steps.0))
