-- `decode::decode` meets its contract: `Fields` says for each exit what the rules say there.
use Rattle.std.proofs.Common.{sym, ◌∙◌, arith, length-drop}
use Rattle.stepping.proofs.Fields.{too_short, unknown, heads, known, wrong_length, wrong_size, whole}
use Rattle.stepping.proofs.decode.decode.Goals.{then-length-f-via-then-length-f, then-length-f-via-else-length-f+then-value-from}
use Rattle.stepping.proofs.decode.decode.Goals as goal

pub returns-in_default : goal.returns-in_default
returns-in_default c = sym (too_short c.args.s.now c.in_default.len_below)

pub returns-in_default-tag_facts : goal.returns-in_default-tag_facts
returns-in_default-tag_facts c =
    sym (unknown c.args.s.now c.type_inv.s c.in-len3-up.len_at_least (sym c.tag_facts.ensures ∙ c.in_default-tag_facts.is))

pub returns-then-length-f : goal.returns-then-length-f
returns-then-length-f c =
    let s = c.args.s.now in
    let h = heads c.type_inv.s c.in-len3-up.len_at_least c.tag_facts.ensures c.in-Some.is c.from_be_bytes-length.ensures in
    elim c.then-length-f.branch [
      | then-length-f-via-then-length-f w ↦ sym (wrong_length h w.if-length-f.true)
      | then-length-f-via-else-length-f+then-value-from w ↦
          sym (wrong_size h w.if-length-f.false (λ e. w.if-value-from.true (omega (arith, e, length-drop 3 s, w.from.ensures))))
    ]

pub meaning-requires : goal.meaning-requires
meaning-requires c =
    let h = heads c.type_inv.s c.in-len3-up.len_at_least c.tag_facts.ensures c.in-Some.is c.from_be_bytes-length.ensures in
    let k = known h in
    let long = c.in-len3-up.len_at_least in
    (k.0, omega (arith, k.1, long, c.if-length-f.false, c.if-value-from.false, length-drop 3 c.args.s.now, c.from.ensures))

pub returns : goal.returns
returns c =
    let h = heads c.type_inv.s c.in-len3-up.len_at_least c.tag_facts.ensures c.in-Some.is c.from_be_bytes-length.ensures in
    let long = c.in-len3-up.len_at_least in
    c.meaning.ensures
    ∙ sym (whole h c.if-length-f.false (omega (arith, long, c.if-value-from.false, length-drop 3 c.args.s.now, c.from.ensures)))
