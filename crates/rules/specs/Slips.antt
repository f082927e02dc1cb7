-- "Slips to keep out", and others of the same sort, told apart: each by a run whose last lines the wrong rule would change. One list
-- under one claim.
use Rattle.std.specs.Prelude.{◌+◌, ◌^◌, ◌≡◌, refl, List, [], ◌∷◌, ◌++◌, map, replicate}
use Rattle.rules.specs.Lists.{each, from_on}
use Rattle.rules.specs.Benches.{Bench, given, to, from, ask, trapping, ticks, interrupting, on, idle, halted, panicked, refused, made}
use Rattle.rules.specs.Benches.{sons, P9}
use Rattle.rules.specs.Opened.{opened}

-- "idling in P9": the trapped son does not keep the node up
abbrev pub idling_behind_a_trap : Bench
idling_behind_a_trap = P9

-- "counting a notice among the 20": 1 traps while 0 is ready, so its notice lies unread; still 20 messages fit
abbrev pub notice_in_no_block : Bench
notice_in_no_block = record {
  input = ask 2 0 ∷ (ticks 5 ++ (ask 4 0 ∷ trapping 0 10 ∷ replicate 21 (to 0 1)));
  last = replicate 20 (on 0) ++ (refused 5 ∷ []);
}

-- "renewing the slice after a successful receive": the fifth tick ends it all the same
abbrev pub slice_not_renewed : Bench
slice_not_renewed = record {
  input = ask 2 0 ∷ to 0 7 ∷ (ticks 4 ++ (from 255 ∷ ticks 1));
  last = (0 ∷ 0 ∷ 0 ∷ 1 ∷ 0 ∷ 7 ∷ []) ∷ on 1 ∷ [];
}

-- "waking clock waiters behind a runner whose slice ends on the same tick": at the twentieth 0 stands before 1
abbrev pub waiters_before_the_runner : Bench
waiters_before_the_runner = record { input = ask 2 0 ∷ ask 8 0 ∷ ticks 20; last = on 1 ∷ made 1 ∷ [] }

-- "giving an ended thread's .. block to a newcomer with messages still under it": 20 messages to 1 end with it
abbrev pub blocks_freed : Bench
blocks_freed = record { input = ask 2 0 ∷ (replicate 20 (to 1 7) ++ (to 0 1 ∷ ask 3 1 ∷ to 0 1 ∷ [])); last = refused 5 ∷ on 0 ∷ on 0 ∷ [] }

-- and 1's own message to 0 ends with it: 0 finds nothing
abbrev pub late_answer : Bench
late_answer = record { input = ask 2 0 ∷ (ticks 5 ++ (to 0 9 ∷ ask 3 255 ∷ from 255 ∷ [])); last = on 1 ∷ on 0 ∷ panicked ∷ [] }

-- "giving an ended thread's name .. to a newcomer": 1 ends with a message in its inbox; names go on to 253, pass over 0, and the second 1
-- finds nothing
abbrev pub name_comes_round : Bench
name_comes_round = record {
  input = ask 2 0 ∷ to 1 7 ∷ ask 3 1 ∷ (each (λ n. ask 2 0 ∷ ask 3 n ∷ []) (from_on 2 252) ++ (ask 2 0 ∷ from 255 ∷ from 255 ∷ []));
  last = made 1 ∷ on 1 ∷ panicked ∷ [];
}

-- "They are tried in this order": 1 before 2, 2 before 3, 3 before 4, 7 before 6, 10 before the requester's end
abbrev pub down_before_rubbish : Bench
down_before_rubbish = record { input = from 255 ∷ (9 ∷ []) ∷ []; last = panicked ∷ (1 ∷ 3 ∷ 255 ∷ 0 ∷ 255 ∷ 0 ∷ []) ∷ [] }

abbrev pub rubbish_before_no_runner : Bench
rubbish_before_no_runner = record {
  input = ask 8 0 ∷ ask 10 0 ∷ to 5 7 ∷ [];
  last = idle ∷ (2 ∷ 1 ∷ 255 ∷ 0 ∷ 255 ∷ 0 ∷ []) ∷ (3 ∷ 1 ∷ 255 ∷ 0 ∷ 255 ∷ 0 ∷ []) ∷ [];
}

abbrev pub first_before_full : Bench
first_before_full = record {
  input = sons ++ (ask 1 0 ∷ ask 2 0 ∷ ask 4 1 ∷ ask 4 0 ∷ []);
  last = refused 7 ∷ refused 6 ∷ made 0 ∷ refused 10 ∷ [];
}

-- "They are tried in this order": 4 before 5. With all blocks full, a send to no live thread is refused with 4, one to oneself with 5
abbrev pub dead_before_full : Bench
dead_before_full = record { input = replicate 20 (to 0 1) ++ (to 1 1 ∷ to 0 1 ∷ []); last = refused 4 ∷ refused 5 ∷ [] }

-- "With no waiter the word is held, replacing one held before" and "a held status is taken at once and cleared": the second word is
-- taken, and the next request waits. Wrong: a word that nobody waits for is lost, the first one stays, or a word taken is there again
abbrev pub word_held_and_taken : Bench
word_held_and_taken = record {
  input = interrupting (2 ^ 3) 7 ∷ interrupting (2 ^ 3) 9 ∷ ask 9 3 ∷ ask 9 3 ∷ interrupting (2 ^ 3) 5 ∷ [];
  last = on 0 ∷ on 0 ∷ made 9 ∷ idle ∷ made 5 ∷ [];
}

-- "The picked device's waiter becomes ready with the status word" and "the lowest pending number from 0 to 31": 0 waits for 5, 1 for
-- 3. Wrong: another may wait for 5 too, 5 is picked, both are served, the waiter takes the processor at once, or the word is lost
abbrev pub waiter_gets_the_word : Bench
waiter_gets_the_word = record {
  input = ask 2 0 ∷ ask 9 5 ∷ ask 9 5 ∷ ask 9 3 ∷ interrupting (2 ^ 5 + 2 ^ 3) 7 ∷ interrupting (2 ^ 5) 9 ∷ ask 8 0 ∷ [];
  last = on 1 ∷ (8 ∷ 0 ∷ 1 ∷ 0 ∷ 255 ∷ 0 ∷ []) ∷ idle ∷ (0 ∷ 0 ∷ 1 ∷ 4 ∷ 254 ∷ 7 ∷ []) ∷ on 1 ∷ made 9 ∷ [];
}

-- "the lowest pending number from 0 to 31, then the lowest transmitter, then the lowest receiver": 42, by which terminal 5 transmits, is
-- picked and not 33, by which terminal 0 receives; 31 and not 32; 33 and not 35. The words are held, and each is taken. Wrong: the lowest
-- number of all, the highest of a class, or a terminal before the other lines
abbrev pub writes_before_reads : Bench
writes_before_reads = record {
  input =
      interrupting (2 ^ 33 + 2 ^ 42 + 2 ^ 44) 7 ∷ interrupting (2 ^ 31 + 2 ^ 32) 8 ∷ interrupting (2 ^ 33 + 2 ^ 35) 9
      ∷ ask 9 42 ∷ ask 9 31 ∷ ask 9 33 ∷ [];
  last = made 7 ∷ made 8 ∷ made 9 ∷ [];
}

-- "no pending device or one over 47": device 48 is refused beside device 0 too, and no word is held for 0. Wrong: 48 is looked at only
-- if no other device is pending
abbrev pub none_or_one_over_47 : Bench
none_or_one_over_47 = record {
  input = interrupting 0 7 ∷ interrupting (2 ^ 48 + 1) 7 ∷ ask 9 0 ∷ [];
  last = refused 2 ∷ refused 2 ∷ idle ∷ [];
}

-- "CREATEBROTHER": 1 makes its brother 2 and ends, and 2 lives on. "no managers, count 0": 2's count is 0, and its entry can be set. Wrong:
-- the brother is a son, or it has its requester's count or managers
abbrev pub brother_outlives : Bench
brother_outlives = record {
  input = ask 2 0 ∷ ask 8 0 ∷ (ticks 2 ++ (ask 4 0 ∷ ask 1 0 ∷ ask 3 255 ∷ ask 7 0 ∷ ask 4 0 ∷ []));
  last = (0 ∷ 0 ∷ 1 ∷ 4 ∷ 254 ∷ 2 ∷ []) ∷ on 2 ∷ (0 ∷ 0 ∷ 2 ∷ 4 ∷ 254 ∷ 0 ∷ []) ∷ (0 ∷ 0 ∷ 2 ∷ 4 ∷ 254 ∷ 0 ∷ []) ∷ [];
}

-- "manager entries naming them become gone" and "if that entry is set or gone, the requester ends": 0 names 1, ends it, and names 2 for
-- the same kind. Wrong: the entry is unset, or one that is gone can be set. For another kind 2 can be set: not all entries are gone
abbrev pub gone_is_not_unset : Bench
gone_is_not_unset = record {
  input = ask 2 0 ∷ ask 2 0 ∷ ask 4 1 ∷ ask 3 1 ∷ ask 5 2 ∷ ask 4 2 ∷ [];
  last = made 0 ∷ on 0 ∷ made 0 ∷ halted ∷ [];
}

-- "if that entry is set ..": the same with a live manager. Wrong: the new name takes the old one's place
abbrev pub set_again_ends : Bench
set_again_ends = record { input = ask 2 0 ∷ ask 2 0 ∷ ask 4 1 ∷ ask 4 2 ∷ []; last = made 0 ∷ halted ∷ [] }

-- "With none or gone, the thread ends": 1's manager 2 has ended when 1 traps, and 0, who receives from 1, is told. Wrong: 1 is trapped
-- on nobody, and the node panics
abbrev pub gone_manager_is_none : Bench
gone_manager_is_none = record {
  input = ask 2 0 ∷ ask 2 0 ∷ from 1 ∷ ask 4 2 ∷ ask 3 2 ∷ trapping 0 10 ∷ [];
  last = (0 ∷ 0 ∷ 1 ∷ 4 ∷ 254 ∷ 0 ∷ []) ∷ on 1 ∷ (0 ∷ 0 ∷ 0 ∷ 3 ∷ 1 ∷ 0 ∷ []) ∷ [];
}

-- "The oldest message or notice of the wanted sender, or the oldest of all for 255": 7 from 0 lies before 8 and 9 from 1. Wrong: the
-- newest is handed over, or the oldest of all also where a sender is wanted
abbrev pub oldest_first : Bench
oldest_first = record {
  input = ask 2 0 ∷ to 0 7 ∷ (ticks 5 ++ (to 0 8 ∷ to 0 9 ∷ (ticks 5 ++ (from 1 ∷ from 255 ∷ from 255 ∷ []))));
  last = (0 ∷ 0 ∷ 0 ∷ 1 ∷ 1 ∷ 8 ∷ []) ∷ (0 ∷ 0 ∷ 0 ∷ 1 ∷ 0 ∷ 7 ∷ []) ∷ (0 ∷ 0 ∷ 0 ∷ 1 ∷ 1 ∷ 9 ∷ []) ∷ [];
}

-- "The oldest message or notice .. is handed over and its block freed": a notice that was read is not there for the next receive. Wrong:
-- it stays until the decision
abbrev pub notice_read_once : Bench
notice_read_once = record {
  input = ask 2 0 ∷ (ticks 5 ++ (ask 4 0 ∷ trapping 0 10 ∷ from 255 ∷ from 255 ∷ []));
  last = on 0 ∷ (0 ∷ 0 ∷ 0 ∷ 2 ∷ 1 ∷ 10 ∷ []) ∷ panicked ∷ [];
}

abbrev pub slips : List Bench
slips =
    idling_behind_a_trap ∷ notice_in_no_block ∷ slice_not_renewed ∷ waiters_before_the_runner ∷ blocks_freed ∷ late_answer
    ∷ name_comes_round
    ∷ down_before_rubbish ∷ rubbish_before_no_runner ∷ first_before_full ∷ dead_before_full
    ∷ word_held_and_taken ∷ waiter_gets_the_word ∷ writes_before_reads ∷ none_or_one_over_47 ∷ brother_outlives
    ∷ gone_is_not_unset ∷ set_again_ends ∷ gone_manager_is_none ∷ oldest_first ∷ notice_read_once ∷ []

pub the_slips_are_told_apart : map given slips ≡ map (λ s. s.last) slips
unfolding given opened
the_slips_are_told_apart = refl
