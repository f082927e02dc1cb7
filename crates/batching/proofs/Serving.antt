-- The exits of a batch: refused with 14, or all complete fields run. And the unread end, where it stands.
use Prim.Native.Nat.{ℕ, ◌*◌, ◌≤◌, ◌<◌}
use mathlib.Core.Path.{◌≡◌, sym, ap, ◌∙◌, subst}
use mathlib.Core.List.{List, [], ◌++◌}
use native.Mathlib.Omega.{arith}
use lib.ListN.{length, drop}
use denote.Ref.{Bor}
use Rattle.rules.specs.Lists.{each}
use Rattle.rules.specs.Numbers.{decision_numbers}
use Rattle.rules.specs.Runs.{Input}
use Rattle.rules.specs.Batch.{numbers, Taken, taken}
use Rattle.rules.specs.declared.Decision.{Decision}
use Rattle.buffer.specs.Puts.{Puts}
use Rattle.buffer.proofs.Putting.{puts_none}
use Rattle.fields.specs.Fields.{EndOf}
use Rattle.laws.proofs.Batch.{taken_refused, taken_whole}
use Rattle.batching.proofs.Calling.{calls_stay_valid, calls_leave, calls_decide, calls_keep}
use Rattle.batching.specs.declared.complete.Complete.{Complete}
use Rattle.batching.specs.Batching.{AllCounted, SingleCalls, none, RanAll, numbers_after, all_refused, Served, Serves, Batches}

-- single calls of the events that are taken, and their decisions in the buffer
pub served_by_calls : {m bytes before m' after : List ℕ} {ds : List Decision} {k n : ℕ} → n ≡ (taken (length before) bytes).refusal
    → SingleCalls m (taken (length before) bytes).events ds m' → Puts (numbers ds) before after k → Served m bytes before m' after n
unfolding numbers_after
served_by_calls {before = before} e cs p =
    let d = calls_decide cs in
    record {
      refusal = e;
      numbers = p.shows ∙ ap (λ (xs : List Decision). numbers_on before xs) d;
      leaves = λ v. (calls_stay_valid cs ∙ v, calls_leave cs v);
      keeps = λ h. calls_keep cs (ap all_refused d ∙ h);
    }
  where
    numbers_on : List ℕ → List Decision → List ℕ
    numbers_on before xs = numbers xs ++ drop (length (numbers xs)) before

module _ {m bytes before : List ℕ} {c : Complete} (n : AllCounted bytes c) where
  -- 14: nothing is run and nothing is written
  pub refused_14 : length before < c.count * decision_numbers → Serves m bytes before m before 0 14
  unfolding numbers each
  refused_14 h =
      let e = taken_refused (length before) bytes (omega (arith, n.count)) in
      record {
        served = served_by_calls (sym (ap (λ (t : Taken). t.refusal) e))
            (subst (λ (es : Input). SingleCalls m es [] m) (sym (ap (λ (t : Taken). t.events) e)) none) (puts_none before);
        unread = sym (ap (λ (t : Taken). t.unread) e);
        within = omega arith;
      }

  -- there is room for all of them
  pub ran : {m' after : List ℕ} → c.count * decision_numbers ≤ length before → RanAll m bytes before m' after →
      Serves m bytes before m' after c.end 0
  ran {m'} {after} h r =
      let e = taken_whole (length before) bytes (omega (arith, n.count)) in
      record {
        served = served_by_calls (sym (ap (λ (t : Taken). t.refusal) e))
            (subst (λ (es : Input). SingleCalls m es r.said m') (sym (ap (λ (t : Taken). t.events) e)) r.calls) r.puts;
        unread = n.rest ∙ sym (ap (λ (t : Taken). t.unread) e);
        within = n.within;
      }

-- the end of the caller's bytes behind those that are read
pub hands_back : {m before m' after : List ℕ} {s r : Bor (List ℕ)} {used n : ℕ}
    → Serves m s.now before m' after used n → EndOf s used r → Batches m s before r m' after n
hands_back p e = record { served = p.served; unread = e.bytes ∙ p.unread; ends_there = e.ends_there }
