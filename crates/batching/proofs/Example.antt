-- Document 01's listing as one batch, with a malformed field and a cut one behind it: computed, so that the rule of a batch is seen to
-- say what the document's listing says.
use mathlib.Core.Path.{◌≡◌, refl}
use mathlib.Core.List.{[], ◌∷◌, ◌++◌}
use Rattle.rules.specs.Lists.{each}
use Rattle.rules.specs.Numbers.{small}
use Rattle.rules.specs.Tables.{start}
use Rattle.rules.specs.Opened.{opened}
use Rattle.rules.specs.Benches.{P1}
use Rattle.rules.specs.Batch.{batch}
use Rattle.batching.specs.Example.{told, cut_short, gathered}

-- Room for nine decisions: the eight of the listing, then 2 for the malformed field; the cut one is handed back.
pub listing_in_a_batch : told (batch small start 54 gathered)
    ≡ record { refusal = 0; numbers = each (λ l. l) P1.last ++ (2 ∷ 1 ∷ 255 ∷ 0 ∷ 255 ∷ 0 ∷ []); unread = cut_short }
unfolding opened
listing_in_a_batch = refl

-- One number less: 14, and all bytes are handed back.
pub listing_refused : told (batch small start 53 gathered) ≡ record { refusal = 14; numbers = []; unread = gathered }
unfolding opened
listing_refused = refl

-- Nothing, and nothing but a cut field: 0 with no room at all.
pub nothing_to_run : (told (batch small start 0 []) ≡ record { refusal = 0; numbers = []; unread = [] })
    × (told (batch small start 0 cut_short) ≡ record { refusal = 0; numbers = []; unread = cut_short })
unfolding opened
nothing_to_run = (refl, refl)
