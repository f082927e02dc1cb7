-- `trap::trap` meets its contract: with a manager the runner stops and its notice has room, else it ends.
use Rattle.std.proofs.Common.{refl, sym, ◌∙◌}
use Rattle.laws.specs.Words.{Set}
use Rattle.store.specs.Store.{tables}
use Rattle.handling.proofs.Leaving.{in_words}
use Rattle.serving.proofs.Sending.{trap_by, trap_ends, runner_ends, trapped_holds, trapped_room, trapped_told}
use Rattle.serving.proofs.trap.trap.Goals as goal

pub end-requires : goal.end-requires
end-requires c =
    runner_ends c.args.me c.requires.1.0 c.requires.0 c.requires.1.1

pub deliver-requires : goal.deliver-requires
deliver-requires c = (
  trapped_holds c.args.me c.requires.1.0 c.requires.0 c.requires.1.1 c.args.k c.stop.ensures,
  λ e. trapped_room c.args.me c.requires.1.0 c.requires.0 c.requires.1.1 c.args.k
      c.stop.ensures,
)

pub returns-in-Set : goal.returns-in-Set
returns-in-Set c =
    in_words (trap_by (tables c.args.m.now) c.args.me c.args.k c.args.cause (Set _)
    (sym c.in-Set.is
    ∙ c.manager_of.ensures))
    (trapped_told c.args.me c.requires.1.0 c.requires.0 c.requires.1.1 c.args.k
    c.stop.ensures _ _ c.args.cause
    refl c.deliver.ensures)

pub returns-in_default : goal.returns-in_default
returns-in_default c =
    in_words (trap_ends (tables c.args.m.now) c.args.me c.args.k c.args.cause _ c.manager_of.ensures c.in_default.not-Set)
    c.end.ensures
