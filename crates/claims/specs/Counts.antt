-- Counts and blocks.
use Rattle.std.specs.Prelude.{◌+◌, ◌≤◌, ◌/◌, ◌%◌, ◌<◌, ℕ, ◌≡◌, true}
use Rattle.rules.specs.Numbers.{beat_ticks, wrap, names}
use Rattle.laws.specs.Words.{Limits}
use Rattle.rules.specs.Tables.{start, Tables}
use Rattle.rules.specs.Waking.{blocks_used}
use Rattle.rules.specs.Runs.{Input, run}
use Rattle.rules.specs.TableRules.{table_rules}
use Rattle.laws.specs.Blocks.{queued_in, received_in, discarded_in, blocks_free}
use Rattle.laws.specs.Counts.{beats_in, ticks_in, ticks_of, ticks_at, lives_through}
use Rattle.laws.proofs.Blocks as blocks
use Rattle.laws.proofs.Counts as counts

-- From a start: ordinary messages queued are those received from inboxes, those discarded and those there now; at most the limit are
-- there; the rest of the limit is free.
pub blocks_accounted : (L : Limits) (es : Input) →
    (queued_in L start es ≡ received_in L start es + discarded_in L start es + blocks_used (run L start es))
    × (blocks_used (run L start es) ≤ L.blocks)
    × (blocks_used (run L start es) + blocks_free L (run L start es) ≡ L.blocks)
blocks_accounted = blocks.blocks_accounted

-- From a start the beats are the accepted ticks divided by 20, and the ticks since the beat the remainder.
pub every_twentieth : (L : Limits) (es : Input) → (beats_in L start es ≡ ticks_in L start es / beat_ticks)
    × ((run L start es).since ≡ ticks_in L start es % beat_ticks)
every_twentieth = counts.every_twentieth

-- The beat number is what it was before a run and the beats in it, modulo 2^32.
pub beats_counted : (L : Limits) (T : Tables) (es : Input) → T.beats < wrap → (run L T es).beats ≡ (T.beats + beats_in L T es) % wrap
beats_counted = counts.beats_counted

-- The count of a thread that lives through a run is what it was before and the ticks accepted while it ran, modulo 2^32.
pub ticks_counted_alive : (L : Limits) (n : ℕ) → L.threads < names → (T : Tables) (es : Input) →
    table_rules L T ≡ true → lives_through L n T es ≡ true →
    ticks_at n (run L T es).threads ≡ (ticks_at n T.threads + ticks_of L n T es) % wrap
ticks_counted_alive = counts.ticks_counted_alive
