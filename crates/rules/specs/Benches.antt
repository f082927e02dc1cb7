-- "Benches to prove": P1 to P10 as a single list under a single claim. Each starts at a start and goes through the bytes of its events.
use Rattle.std.specs.Prelude.{ℕ, ◌-◌, ◌/◌, ◌≡◌, refl, List, [], ◌∷◌, ◌++◌, map, length, replicate, drop}
use Rattle.rules.specs.Lists.{four_bytes}
use Rattle.rules.specs.Numbers.{small}
use Rattle.rules.specs.Tables.{start}
use Rattle.rules.specs.Dump.{dump}
use Rattle.rules.specs.Runs.{Input, lines}
use Rattle.rules.specs.Opened.{opened}

-- ---- events, as bytes

abbrev pub to : ℕ → ℕ → List ℕ
to n w = 0x10 ∷ 0 ∷ 5 ∷ n ∷ four_bytes w

abbrev pub from : ℕ → List ℕ
from n = 0x11 ∷ 0 ∷ 1 ∷ n ∷ []

abbrev pub ask : ℕ → ℕ → List ℕ
ask s a = 0x12 ∷ 0 ∷ 2 ∷ s ∷ a ∷ []

abbrev pub trapping : ℕ → ℕ → List ℕ
trapping k c = 0x13 ∷ 0 ∷ 5 ∷ k ∷ four_bytes c

abbrev pub ticks : ℕ → Input
ticks n = replicate n (0x14 ∷ 0 ∷ 0 ∷ [])

-- "21 interrupt (pending devices 8, bit n for device n; status 4)"
abbrev pub interrupting : ℕ → ℕ → List ℕ
interrupting p w = 0x15 ∷ 0 ∷ 12 ∷ (four_bytes (p / 4294967296) ++ (four_bytes p ++ four_bytes w))

-- ---- a bench: its events, and the last of the lines that they give: refusal, status, runner, kind, sender, word

pub record Bench : Type 0 where
  pub input : Input
  pub last : List (List ℕ)

unfoldable pub given : Bench → List (List ℕ)
given b = drop (length b.input - length b.last) (lines small start b.input)

abbrev pub on : ℕ → List ℕ
on n = 0 ∷ 0 ∷ n ∷ 0 ∷ 255 ∷ 0 ∷ []

abbrev pub idle : List ℕ
idle = 0 ∷ 1 ∷ 255 ∷ 0 ∷ 255 ∷ 0 ∷ []

abbrev pub halted : List ℕ
halted = 0 ∷ 2 ∷ 255 ∷ 0 ∷ 255 ∷ 0 ∷ []

abbrev pub panicked : List ℕ
panicked = 0 ∷ 3 ∷ 255 ∷ 0 ∷ 255 ∷ 0 ∷ []

abbrev pub refused : ℕ → List ℕ
refused n = n ∷ 0 ∷ 0 ∷ 0 ∷ 255 ∷ 0 ∷ []

-- "P1: the listing above."
abbrev pub P1 : Bench
P1 = record {
  input = ask 2 0 ∷ from 255 ∷ to 0 7 ∷ ask 7 0 ∷ ask 3 255 ∷ to 1 9 ∷ ask 8 0 ∷ to 0 1 ∷ [];
  last =
      (0 ∷ 0 ∷ 0 ∷ 4 ∷ 254 ∷ 1 ∷ [])
      ∷ (0 ∷ 0 ∷ 1 ∷ 0 ∷ 255 ∷ 0 ∷ [])
      ∷ (0 ∷ 0 ∷ 1 ∷ 0 ∷ 255 ∷ 0 ∷ [])
      ∷ (0 ∷ 0 ∷ 1 ∷ 4 ∷ 254 ∷ 0 ∷ [])
      ∷ (0 ∷ 0 ∷ 0 ∷ 1 ∷ 1 ∷ 7 ∷ [])
      ∷ (4 ∷ 0 ∷ 0 ∷ 0 ∷ 255 ∷ 0 ∷ [])
      ∷ (0 ∷ 1 ∷ 255 ∷ 0 ∷ 255 ∷ 0 ∷ [])
      ∷ (3 ∷ 1 ∷ 255 ∷ 0 ∷ 255 ∷ 0 ∷ [])
      ∷ [];
}

-- "P2: receive from 255: panicked."
abbrev pub P2 : Bench
P2 = record { input = from 255 ∷ []; last = panicked ∷ [] }

-- "P3: 20 sends to oneself accepted, the 21st refused 5; after one receive, a send is accepted."
abbrev pub P3 : Bench
P3 = record {
  input = replicate 21 (to 0 1) ++ (from 255 ∷ to 0 2 ∷ []);
  last = replicate 20 (on 0) ++ (refused 5 ∷ (0 ∷ 0 ∷ 0 ∷ 1 ∷ 0 ∷ 1 ∷ []) ∷ on 0 ∷ []);
}

-- "P4: 19 sons are made, the 20th is refused 6."
abbrev pub sons : Input
sons = replicate 19 (ask 2 0)

abbrev pub made : ℕ → List ℕ
made n = 0 ∷ 0 ∷ 0 ∷ 4 ∷ 254 ∷ n ∷ []

abbrev pub P4 : Bench
P4 = record {
  input = sons ++ (ask 2 0 ∷ []);
  last = map made (1 ∷ 2 ∷ 3 ∷ 4 ∷ 5 ∷ 6 ∷ 7 ∷ 8 ∷ 9 ∷ 10 ∷ 11 ∷ 12 ∷ 13 ∷ 14 ∷ 15 ∷ 16 ∷ 17 ∷ 18 ∷ 19 ∷ []) ++ (refused 6 ∷ []);
}

-- "P5: then after 94 ticks 18 runs, after 95 ticks 19."
abbrev pub P5 : Bench
P5 = record { input = sons ++ (ask 2 0 ∷ ticks 95); last = on 18 ∷ on 19 ∷ [] }

-- "P6: WAITFORCLOCK: idle to tick 19, at tick 20 thread 0 runs with 4, 254, 1."
abbrev pub P6 : Bench
P6 = record { input = ask 8 0 ∷ ticks 20; last = replicate 20 idle ++ (made 1 ∷ []) }

-- "P7: son made, 0 receives from 255, 1 sets 0 as manager (request 4), traps 0 with cause 10: 0 runs with 2, 1, 10."
abbrev pub trapped_son : Input
trapped_son = ask 2 0 ∷ from 255 ∷ ask 4 0 ∷ trapping 0 10 ∷ []

abbrev pub P7 : Bench
P7 = record { input = trapped_son; last = (0 ∷ 0 ∷ 0 ∷ 2 ∷ 1 ∷ 10 ∷ []) ∷ [] }

-- "P8: then 0 sends 5 to 1: refused 9."
abbrev pub P8 : Bench
P8 = record { input = trapped_son ++ (to 1 5 ∷ []); last = refused 9 ∷ [] }

-- "P9: after P7, 0 receives from 255: panicked."
abbrev pub P9 : Bench
P9 = record { input = trapped_son ++ (from 255 ∷ []); last = panicked ∷ [] }

-- "P10: the dump is 38 bytes"
abbrev pub P10 : List ℕ
P10 =
    0x01 ∷ 0x00 ∷ 0x09 ∷ 0x00 ∷ 0x00 ∷ 0x00 ∷ 0x05 ∷ 0x00 ∷ 0x00 ∷ 0x00 ∷ 0x00 ∷ 0x00
    ∷ 0x02 ∷ 0x00 ∷ 0x11 ∷ 0x00 ∷ 0xFF ∷ 0x00 ∷ 0x00 ∷ 0xFF ∷ 0xFF ∷ 0xFF ∷ 0x00 ∷ 0x00 ∷ 0x00 ∷ 0x00
    ∷ 0x00 ∷ 0xFF ∷ 0x00 ∷ 0x00 ∷ 0x00 ∷ 0x00
    ∷ 0x03 ∷ 0x00 ∷ 0x00 ∷ 0x04 ∷ 0x00 ∷ 0x00 ∷ []

abbrev pub benches : List Bench
benches = P1 ∷ P2 ∷ P3 ∷ P4 ∷ P5 ∷ P6 ∷ P7 ∷ P8 ∷ P9 ∷ []

-- P1 to P10: what the rules give is what the document says
pub the_benches : map given benches ++ ((dump start ∷ []) ∷ []) ≡ map (λ b. b.last) benches ++ ((P10 ∷ []) ∷ [])
unfolding given opened
the_benches = refl

pub the_dump_has_38_bytes : length P10 ≡ 38
the_dump_has_38_bytes = refl
