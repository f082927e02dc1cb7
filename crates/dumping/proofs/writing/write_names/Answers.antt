-- `writing::write_names` meets its contract. The loop: the names passed stand behind the room for the head of the field.
use Rattle.std.proofs.Common.{arith, append_assoc, length-append, length-take-le, take, ◌∷◌, []}
use Rattle.buffer.proofs.Putting.{one_more, said}
use Rattle.dumping.proofs.Puttings.{passes, some_left}
use Rattle.dumping.proofs.writing.write_names.Goals as goal

pub loop-name-preserved : goal.loop-name-preserved
loop-name-preserved c =
    let l = c.loop-name in
    let s = c.in-Some.ensures.steps in
    (passes _ l.invariant.0 s, said (one_more l.invariant.1 c.in-Some.name (omega (arith, some_left l.yielded l.invariant.0 s, length-take-le 3 c.args.out.now (omega (arith, c.requires.1)), length-append (take 3 c.args.out.now) l.yielded, l.invariant.1.counts, length-append l.yielded (c.in-Some.name ∷ []), c.requires.1))) (append_assoc (take 3 c.args.out.now) l.yielded (c.in-Some.name ∷ [])))
