-- `inboxes::notices_right_by_places` meets its contract. The loop: the notices passed are right, and the marks say of whom they were.
use Rattle.std.proofs.Common.{◌∙◌, ℕ, List, position, refl, sym, ap, ap₂, arith}
use Rattle.rules.specs.Tables.{named}
use Rattle.rules.specs.States.{awaits}
use Rattle.rules.specs.Waking.{is_ordinary}
use Rattle.laws.specs.Words.{MessageKind, Thread}
use Rattle.memory.specs.Rows.{no_thread}
use Rattle.store.specs.Store.{tables}
use Rattle.indexing.proofs.Indexing.{thread_there, once_there}
use Rattle.indexing.proofs.Marking.{walk_here, walk_next, walk_ends}
use Rattle.indexing.proofs.Passing.{few, counted, read_length}
use Rattle.agreeing.proofs.Noticing.{notice_starts, notice_skips, notice_ends, no_sender, not_trapped, met_again, met_now}
use Rattle.agreeing.proofs.inboxes.notices_right_by_places.Goals.{then-not-awaits-via-then-not-awaits, then-not-awaits-via-else-not-awaits+then-seen-j}
use Rattle.agreeing.proofs.inboxes.notices_right_by_places.Goals as goal

pub loop-l-init : goal.loop-l-init
unfolding tables
loop-l-init c = let m = c.words-m.result.now in let F = c.words-m.ensures.shaped in (
  notice_starts _ (omega (arith, read_length m F _ refl, counted m F, few m F)),
  c.into_iter-l-iterator.ensures.into_iter_gives ∙ c.messages-l-items.ensures,
)

pub loop-l-preserved-then-is_ordinary : goal.loop-l-preserved-then-is_ordinary
loop-l-preserved-then-is_ordinary c = (
  notice_skips _ _ _ _ c.loop-l.invariant.0
      (ap (λ (k : MessageKind). is_ordinary k) (sym c.kind.ensures) ∙ sym c.is_ordinary.ensures ∙ c.if-is_ordinary.true),
  walk_next _ c.loop-l.invariant.1 _ _ c.in-Some.ensures.steps,
)

pub returns-in_default : goal.returns-in_default
returns-in_default c = rw (← c.words-m.ensures.same) (no_sender _ _ _ _ c.loop-l.invariant.0
    (ap (λ (k : MessageKind). is_ordinary k) (sym c.kind.ensures) ∙ sym c.is_ordinary.ensures ∙ c.if-is_ordinary.false) _
    (walk_here _ c.loop-l.invariant.1 _ _ c.in-Some.ensures.steps)
    (ap₂ (λ (k : ℕ) (v : List ℕ). position (named k) (tables v).threads) (sym c.from.ensures) c.words-m.ensures.same
    ∙ sym c.place_of.ensures ∙ c.in_default.is))

pub returns-then-not-awaits : goal.returns-then-not-awaits
returns-then-not-awaits c =
    let o = ap (λ (k : MessageKind). is_ordinary k) (sym c.kind.ensures) ∙ sym c.is_ordinary.ensures ∙ c.if-is_ordinary.false in
    let at = ap₂ (λ (k : ℕ) (v : List ℕ). position (named k) (tables v).threads) (sym c.from.ensures) c.words-m.ensures.same
    ∙ sym c.place_of.ensures ∙ c.in-Some-place_of.is in
    let split = walk_here _ c.loop-l.invariant.1 _ _ c.in-Some.ensures.steps in
    rw (← c.words-m.ensures.same) (elim c.then-not-awaits.branch [
      | then-not-awaits-via-then-not-awaits w ↦ not_trapped _ _ _ _ c.loop-l.invariant.0 o (once_there c.words-m.ensures.same c.requires) _ at _ split no_thread
          (ap (awaits c.in-Some.l.to) (thread_there c.words-m.result.now c.words-m.ensures.shaped _ _ at)
          ∙ ap₂ (λ (k : ℕ) (t : Thread). awaits k t) (sym c.to.ensures) (sym c.record.ensures)
          ∙ sym c.awaits.ensures ∙ w.if-not-awaits.true)
      | then-not-awaits-via-else-not-awaits+then-seen-j w ↦
          met_again _ _ _ _ c.loop-l.invariant.0 o (once_there c.words-m.ensures.same c.requires) _ at _ split w.if-seen-j.true
    ])

pub loop-l-preserved : goal.loop-l-preserved
loop-l-preserved c =
    let o = ap (λ (k : MessageKind). is_ordinary k) (sym c.kind.ensures) ∙ sym c.is_ordinary.ensures ∙ c.if-is_ordinary.false in
    let at = ap₂ (λ (k : ℕ) (v : List ℕ). position (named k) (tables v).threads) (sym c.from.ensures) c.words-m.ensures.same
    ∙ sym c.place_of.ensures ∙ c.in-Some-place_of.is in (
      met_now _ _ _ _ c.loop-l.invariant.0 o (once_there c.words-m.ensures.same c.requires) _ at no_thread
          (ap (awaits c.in-Some.l.to) (thread_there c.words-m.result.now c.words-m.ensures.shaped _ _ at)
          ∙ ap₂ (λ (k : ℕ) (t : Thread). awaits k t) (sym c.to.ensures) (sym c.record.ensures)
          ∙ sym c.awaits.ensures ∙ c.if-not-awaits.false)
          c.if-seen-j.false,
      walk_next _ c.loop-l.invariant.1 _ _ c.in-Some.ensures.steps,
    )

pub returns : goal.returns
returns c = rw (← c.words-m.ensures.same)
    (notice_ends _ _ _ c.loop-l.invariant.0 (walk_ends _ c.loop-l.invariant.1 c.in-None.ensures.steps.0))
