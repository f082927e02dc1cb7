-- `load::load_in` meets its contract: where the bytes are bad and nothing written, or the words that were read, copied.
use Rattle.std.proofs.Common.{ap₂, sym, ◌∙◌, List, ℕ, ◌++◌, drop, length-take-le}
use Rattle.loading.proofs.Exits.{refused_there, copied}
use Rattle.loading.proofs.load.load_in.Goals as goal

pub returns-then-not-reads : goal.returns-then-not-reads
returns-then-not-reads c = refused_there c.reads.ensures _ _ (c.if-not-reads.true) c.find.ensures

pub copy_from_slice-requires : goal.copy_from_slice-requires
copy_from_slice-requires c = length-take-le 656 c.args.m.now c.requires ∙ sym c.reads.auto.m

pub returns : goal.returns
returns c = copied c.reads.ensures _ _ (c.if-not-reads.false) c.reads.auto.m
    (ap₂ (λ (l : List ℕ) (n : ℕ). l ++ drop n c.args.m.now) c.copy_from_slice.ensures.after (sym c.reads.auto.m))
