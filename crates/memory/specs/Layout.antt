-- Where things stand in the memory, in words of 32 bits.
--
--     0    the head: limit of threads, limit of blocks, name given last, runner, slice, ticks since the beat, beats; counts of threads,
--          ready, clock, messages, and of an ending's set; where a thread last began to wait for clock or device; 3 spare              16
--     16   for each device: 1 and the word that is held for it, or 0                                                                  96
--     112  where the thread of a name was last written, by the name's last six bits                                                    64
--     176  for each thread a record of 16: the 11 words that words/specs/Saying.antt tells, 1 spare (an answer's second word), and its
--          number as a place in the ready queue, in the clock queue and in an ending's set, 1 spare (a place among sleepers)       16 each
--          for each thread and each block a message of 4: receiver, sender with kind, word, 1 spare (a second word)                4 each
--
use Rattle.std.specs.Prelude.{ℕ, ◌+◌, ◌*◌}
use Rattle.laws.specs.Words.{Limits}
use Rattle.laws.specs.Words.{TrapKind, Program, Tlb, SysBp}

-- more blocks than these no start gives; so every count is a word
abbrev pub most_blocks : ℕ
most_blocks = 65535

abbrev pub held_place : ℕ → ℕ
held_place d = 16 + d * 2

abbrev pub hints : ℕ
hints = 112

abbrev pub hint_count : ℕ
hint_count = 64

abbrev pub thread_place : ℕ → ℕ
thread_place i = 176 + i * 16

-- word of a thread's record: its manager of a kind
abbrev pub manager_place : TrapKind → ℕ
manager_place Program = 4
manager_place Tlb = 5
manager_place SysBp = 6

-- t: the limit of threads
abbrev pub message_place : ℕ → ℕ → ℕ
message_place t i = 176 + t * 16 + i * 4

-- how long a memory must be
abbrev pub size : Limits → ℕ
size L = 176 + L.threads * 16 + (L.threads + L.blocks) * 4
