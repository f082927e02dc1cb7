-- `tables::put_names` meets its contract. The loop: the tag and the names passed stand at the front, without the line's end.
use Rattle.std.proofs.Common.{◌≡◌, arith, ℕ, List, ◌∷◌, ◌++◌, [], length, length-append, append-nil, sym, ap, ◌∙◌}
use Rattle.buffer.proofs.Putting.{room}
use Rattle.dumping.proofs.Puttings.{passes, some_left}
use Rattle.lines.proofs.NumberLines.{line_first, line_within, line_next, line_ends}
use Rattle.lines.proofs.Parts.{named}
use Rattle.lines.proofs.tables.put_names.Goals as goal

pub loop-name-init : goal.loop-name-init
loop-name-init c = (c.into_iter-name-iterator.ensures.into_iter_gives, line_first _ c.put_decimal-at.ensures)

pub put_spaced-at-requires : goal.put_spaced-at-requires
put_spaced-at-requires c =
    let l = c.loop-name in
    omega (
      arith,
      room l.invariant.1,
      line_within (c.args.tag ∷ l.yielded) l.invariant.1,
      some_left l.yielded l.invariant.0 c.in-Some.ensures.steps,
      length-append l.yielded (c.in-Some.name ∷ []),
      c.requires.0,
      c.requires.1,
    )

pub loop-name-preserved : goal.loop-name-preserved
loop-name-preserved c =
    let l = c.loop-name in
    (passes _ l.invariant.0 c.in-Some.ensures.steps, line_next (c.args.tag ∷ l.yielded) l.invariant.1 (omega arith) _ c.put_spaced-at.ensures)

pub bounds-out-at : goal.bounds-out-at
bounds-out-at c =
    let l = c.loop-name in
    omega (arith, line_within (c.args.tag ∷ l.yielded) l.invariant.1, ap length l.invariant.0, length-append l.yielded l.name-iterator, c.requires.0, c.requires.1)

pub returns : goal.returns
returns c =
    let l = c.loop-name in
    let all : l.yielded ≡ c.args.names = sym (append-nil l.yielded) ∙ ap (λ (t : List ℕ). l.yielded ++ t) (sym c.in-None.ensures.steps.0) ∙ l.invariant.0 in
    named c.args.tag all (line_ends (c.args.tag ∷ l.yielded) l.invariant.1 (omega arith) (omega (arith, bounds-out-at c)))
