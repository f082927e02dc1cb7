-- `requests::set_manager` meets its contract, by what stands in the entry.
use Rattle.std.proofs.Common.{refl}
use Rattle.rules.specs.Requests.{set_over}
use Rattle.serving.proofs.Asking.{by_entry, entry_ends}
use Rattle.serving.proofs.requests.set_manager.Goals as goal

pub returns-in-Unset : goal.returns-in-Unset
unfolding set_over
returns-in-Unset c = by_entry c.set_manager.ensures _ _ _ _ c.manager_of.ensures c.in-Unset.is refl

pub returns : goal.returns
returns c = entry_ends c.args.me c.end.ensures c.args.k c.args.n c.manager_of.ensures c.in_default.not-Unset
