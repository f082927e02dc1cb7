-- To compute with the rules a proof says `unfolding opened`: this opens every definition that they are made of.
use Rattle.std.specs.Prelude.{ℕ}
use Rattle.rules.specs.Lists.{all, any, keep, count, behind, pull, insert, chain, times, each, from_on, same, number_from}
use Rattle.rules.specs.Tables.{of_thread, change, manager, set_entry, runs, runs_as, me}
use Rattle.rules.specs.States.{is_running, is_ready, on_clock, receives, at_device, wakes_from_outside, trapped_on}
use Rattle.rules.specs.Waking.{wake_those, is_ordinary, handed_as, queue, deliver, stop}
use Rattle.rules.specs.Ending.{grow, ended_set, gone_if, without_managers, remove, misses, told_gone, release, end}
use Rattle.rules.specs.Send.{decide, send}
use Rattle.rules.specs.Receive.{received, receive}
use Rattle.rules.specs.Trap.{trap}
use Rattle.rules.specs.Tick.{charge, beat, rotate, tick}
use Rattle.rules.specs.Interrupt.{hold, interrupt}
use Rattle.rules.specs.Requests.{free_name, create, terminate, set_over, wait_for_clock, take_held}
use Rattle.rules.specs.Dispatch.{run_next, dispatch, status_without, status}
use Rattle.rules.specs.Pick.{first_pending, pick}
use Rattle.rules.specs.Tags.{facts_in, tag_facts, rule_in, argument_rule, meets, dump_facts_in, dump_facts}
use Rattle.rules.specs.Events.{asked_in, request, trap_of, interrupt_of, meaning, field_of, decode}
use Rattle.rules.specs.Refusals.{first_of, over, is_malformed, needs_runner, ends_nobody, call_rules, own_rules, refusal}
use Rattle.rules.specs.Codes.{status_code, answer_numbers, trap_code, state_numbers, manager_code, message_code}
use Rattle.rules.specs.Step.{serve, act, settle, step}
use Rattle.rules.specs.Runs.{run, line, decisions}
use Rattle.rules.specs.Fields.{field_size, whole, complete_in, unread_in}
use Rattle.rules.specs.Batch.{numbers, taken, batch}
use Rattle.rules.specs.TableRules.{state_in_range, climbs, wanted_live, manager_set, no_match, answer_in_range, is_nothing}
use Rattle.rules.specs.TableRules.{table_rules}
use Rattle.rules.specs.Dump.{head_value, thread_value, message_value, held_value, dump}
use Rattle.rules.specs.Load.{fields_of, thread_from, message_from, held_from, tables_from, told, load}
use Rattle.rules.specs.Faults.{placed_from, offsets, wrong_length, ends_badly, faults_15, place_before, misplaced, faults_16}
use Rattle.rules.specs.Faults.{runner_fits, state_fits, answer_fits, head_fits, thread_fits, message_fits, value_fits, out_of_range}
use Rattle.rules.specs.Faults.{faults_17, head_lives, thread_lives, message_lives, value_lives, names_nobody, faults_18, earliest}
use Rattle.rules.specs.Faults.{where_bad, verdict_on, verdict}

unfoldable pub opened : ℕ
unfolding all any keep count behind pull insert chain times each from_on same number_from of_thread change manager set_entry runs runs_as me
    is_running is_ready on_clock receives at_device wakes_from_outside trapped_on wake_those is_ordinary handed_as queue deliver stop grow
    ended_set gone_if without_managers remove misses told_gone release end decide send received receive trap charge beat rotate tick hold
    interrupt free_name create terminate set_over wait_for_clock take_held run_next dispatch status_without status first_pending pick
    facts_in tag_facts rule_in argument_rule meets dump_facts_in dump_facts asked_in request trap_of interrupt_of meaning field_of decode
    first_of over is_malformed needs_runner ends_nobody call_rules own_rules refusal status_code answer_numbers trap_code state_numbers
    manager_code message_code serve act settle step run line decisions field_size whole complete_in unread_in numbers taken batch
    state_in_range climbs wanted_live manager_set no_match answer_in_range is_nothing table_rules head_value thread_value message_value
    held_value dump fields_of thread_from message_from held_from tables_from told load placed_from offsets wrong_length ends_badly faults_15
    place_before misplaced faults_16 runner_fits state_fits answer_fits head_fits thread_fits message_fits value_fits out_of_range faults_17
    head_lives thread_lives message_lives value_lives names_nobody faults_18 earliest where_bad verdict_on verdict
opened = 0
