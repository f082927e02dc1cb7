-- `load::gives` meets its contract: the dump of a memory that stands has room in 1,241 bytes, and what is put there is compared.
use Rattle.std.proofs.Common.{ap, ◌∙◌, List, ℕ}
use Rattle.rules.specs.Lists.{same}
use Rattle.loading.proofs.Comparing.{same_slices}
use Rattle.loading.proofs.Exits.{writable, front}
use Rattle.loading.proofs.load.gives.Goals as goal

pub write_dump-n-requires : goal.write_dump-n-requires
write_dump-n-requires c = writable c.args.m.now c.requires

pub returns : goal.returns
returns c = c.eq.ensures ∙ same_slices _ _ ∙ ap (λ (l : List ℕ). same l c.args.bytes.now) (front _ _ _ _ c.write_dump-n.ensures)
