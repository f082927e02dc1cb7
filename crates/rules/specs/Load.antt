-- Reading a dump: the fields are cut, the tables built from them, the table rules tested, the dump written again and compared.
use Rattle.std.specs.Prelude.{ℕ, ◌&&◌, List, map, take, drop, get_or, if◌then◌else◌, ◌==◌}
use Rattle.rules.specs.Lists.{keep, each, same, number}
use Rattle.rules.specs.Numbers.{Limits, nobody, service}
use Rattle.rules.specs.Words.{TrapKind, Program, Tlb, SysBp, State, Running, Ready, Receiving, Clock, Device, Trapped, Answer}
use Rattle.rules.specs.Words.{Nothing, FromMessage, FromNotice, SenderGone, Result, Manager, Unset, Set, Gone, Parent, NoParent}
use Rattle.rules.specs.Words.{ParentIs, Thread, MessageKind, Ordinary, Notice, Message, Held, Runner, NoRunner, Runs}
use Rattle.rules.specs.Tables.{Tables}
use Rattle.rules.specs.Tags.{before_value, head_tag, thread_tag, ready_tag, clock_tag, message_tag, held_tag}
use Rattle.rules.specs.Fields.{complete}
use Rattle.rules.specs.Events.{wanted}
use Rattle.rules.specs.TableRules.{table_rules}
use Rattle.rules.specs.Dump.{dump}

pub record Field : Type 0 where
  pub tag : ℕ
  pub value : List ℕ

-- a complete field by its bytes
abbrev pub as_field : List ℕ → Field
as_field bytes = record { tag = get_or bytes 0 0; value = drop before_value bytes }

-- the complete fields of some bytes (Fields.antt)
unfoldable pub fields_of : List ℕ → List Field
fields_of bytes = map as_field (complete bytes)

-- ---- numbers back to what they stand for (Codes.antt)
-- A number that stands for nothing becomes something else, and the comparison finds it.

abbrev pub runner_from : ℕ → ℕ → Runner
runner_from n s = if n == nobody then NoRunner else Runs n s

abbrev pub parent_from : ℕ → Parent
parent_from n = if n == nobody then NoParent else ParentIs n

abbrev pub manager_from : ℕ → Manager
manager_from n = if n == nobody then Unset else (if n == service then Gone else Set n)

abbrev pub trap_kind_from : ℕ → TrapKind
trap_kind_from n = if n == 0 then Program else (if n == 1 then Tlb else SysBp)

abbrev pub state_from : ℕ → ℕ → State
state_from n detail =
    if n == 0 then Running else (
    if n == 1 then Ready else (
    if n == 2 then Receiving (wanted detail) else (
    if n == 3 then Clock else (
    if n == 4 then Device detail else (
    Trapped (trap_kind_from detail))))))

abbrev pub answer_from : ℕ → ℕ → ℕ → Answer
answer_from kind sender w =
    if kind == 0 then Nothing else (
    if kind == 1 then FromMessage sender w else (
    if kind == 2 then FromNotice sender w else (
    if kind == 3 then SenderGone sender else (
    Result w))))

abbrev pub message_kind_from : ℕ → MessageKind
message_kind_from n = if n == 1 then Ordinary else Notice

-- ---- values of fields

abbrev pub at : List ℕ → ℕ → ℕ
at v i = get_or v i 0

-- the four-byte number that stands at i
abbrev pub word_at : List ℕ → ℕ → ℕ
word_at v i = number (take 4 (drop i v))

-- field 2
unfoldable pub thread_from : List ℕ → Thread
thread_from v =
    record {
      name = at v 0;
      parent = parent_from (at v 1);
      state = state_from (at v 2) (at v 3);
      managers = record { program = manager_from (at v 4); tlb = manager_from (at v 5); sysbp = manager_from (at v 6) };
      ticks = word_at v 7;
      answer = answer_from (at v 11) (at v 12) (word_at v 13);
    }

-- field 5
unfoldable pub message_from : List ℕ → Message
message_from v = record { to = at v 0; from = at v 1; kind = message_kind_from (at v 2); word = word_at v 3 }

-- field 6
unfoldable pub held_from : List ℕ → Held
held_from v = record { device = at v 0; word = word_at v 1 }

-- ---- tables from fields

abbrev pub values_of : ℕ → List Field → List (List ℕ)
values_of n fs = map (λ f. f.value) (keep (λ f. f.tag == n) fs)

-- the value of a field that stands once
abbrev pub value_of : ℕ → List Field → List ℕ
value_of n fs = each (λ v. v) (values_of n fs)

-- fields 1 to 6 together
unfoldable pub tables_from : List Field → Tables
tables_from fs =
    let v = value_of head_tag fs in
    record {
      last = at v 1;
      runner = runner_from (at v 2) (at v 3);
      since = at v 4;
      beats = word_at v 5;
      threads = map thread_from (values_of thread_tag fs);
      ready = value_of ready_tag fs;
      clock = value_of clock_tag fs;
      messages = map message_from (values_of message_tag fs);
      held = map held_from (values_of held_tag fs);
    }

-- the tables that the bytes tell, whatever they are
unfoldable pub told : List ℕ → Tables
told bytes = tables_from (fields_of bytes)

-- what reading gives: tables, or none, and then Faults.antt says where the bytes are bad
pub data Loaded : Type 0 where
  no_dump : Loaded
  loaded : Tables → Loaded

-- "Bytes are a dump exactly if these rules hold and the writer gives those bytes."
unfoldable pub load : Limits → List ℕ → Loaded
load L bytes = let T = told bytes in if table_rules L T && same (dump T) bytes then loaded T else no_dump
