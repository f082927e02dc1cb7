-- `reading::read_rest` meets its contract: the stages together, and a law of Finding for each exit.
use Rattle.loading.proofs.Finding.{stages, no_ready, no_clock, rest_found}
use Rattle.loading.proofs.reading.read_rest.Goals as goal

pub returns-in_default : goal.returns-in_default
returns-in_default c = no_ready c.read_threads-threads.ensures.2 _ _ c.in_default.ensures.1

pub returns-in_default-read_names : goal.returns-in_default-read_names
returns-in_default-read_names c =
    no_clock c.read_threads-threads.ensures.2 _ _ c.in-Some.ensures.1 c.in_default-read_names.ensures.1

pub returns : goal.returns
returns c =
    rest_found
    (stages
    c.requires.0
    c.read_threads-threads.ensures
    c.in-Some.ensures
    c.in-Some-read_names.ensures
    c.read_messages-messages.ensures
    c.read_held-held.ensures)
    c.read_held-held.ensures.0
