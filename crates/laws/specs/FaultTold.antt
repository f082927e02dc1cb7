-- Tables whose values are in range, and whose names live where they must.
use Rattle.std.specs.Prelude.{◌≡◌, true, ◌&&◌, leb, ltb}
use Rattle.rules.specs.Lists.{all}
use Rattle.rules.specs.Numbers.{names, full_slice}
use Rattle.rules.specs.Words.{by_manager, by_parent, by_runner}
use Rattle.rules.specs.Tables.{Tables, live}
use Rattle.rules.specs.TableRules.{answer_in_range, ranges, wanted_live, trapped_right}

-- "every value is in its range": names, slice and answers too
pub record InRange (T : Tables) : Type 0 where
  pub values : ranges T ≡ true
  pub known : all (λ t. ltb t.name names) T.threads ≡ true
  pub slice : by_runner true (λ n s. ltb n names && leb 1 s && leb s full_slice) T.runner ≡ true
  pub answers : all (λ t. answer_in_range t.answer) T.threads ≡ true

-- "a name not live where 01 asks for one": the runner and the queues, parents, names wanted and set, a trapped thread's manager, senders
-- and receivers
pub record Alive (T : Tables) : Type 0 where
  pub runner : by_runner true (λ n s. live n T) T.runner ≡ true
  pub ready : all (λ n. live n T) T.ready ≡ true
  pub clock : all (λ n. live n T) T.clock ≡ true
  pub parents : all (λ t. by_parent true (λ n. live n T) t.parent) T.threads ≡ true
  pub wanted : all (λ t. wanted_live T t.state) T.threads ≡ true
  pub program : all (λ t. by_manager true (λ n. live n T) t.managers.program) T.threads ≡ true
  pub tlb : all (λ t. by_manager true (λ n. live n T) t.managers.tlb) T.threads ≡ true
  pub sysbp : all (λ t. by_manager true (λ n. live n T) t.managers.sysbp) T.threads ≡ true
  pub trapped : trapped_right T ≡ true
  pub messages : all (λ m. live m.to T && live m.from T) T.messages ≡ true
