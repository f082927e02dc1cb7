-- `decode::meaning` meets its contract: `size` says how many bytes each tag's field has, and a law for each tag what they mean.
use Prim.Native.Nat.{ℕ, ◌+◌}
use mathlib.Core.Path.{◌≡◌}
use native.Mathlib.Omega.{arith}
use lib.ListN.{length}
use Rattle.rules.specs.Tags.{tag_facts as facts_of, facts_in}
use Rattle.stepping.proofs.Fields.{last_tag, size, means_send, means_receive, means_request, means_trap, means_tick, means_interrupt}
use Rattle.stepping.proofs.decode.meaning.Goals as goal

pub bounds-s-3 : goal.bounds-s-3
unfolding facts_of facts_in
bounds-s-3 c =
    let sized : (n : ℕ) → c.args.tag ≡ n → length c.args.s.now ≡ (facts_of n).length + 3 = size c.args.tag c.args.s.now c.requires.1 in
    omega (arith, sized 16 c.in-16.is)

pub word_at-requires : goal.word_at-requires
unfolding facts_of facts_in
word_at-requires c =
    let sized : (n : ℕ) → c.args.tag ≡ n → length c.args.s.now ≡ (facts_of n).length + 3 = size c.args.tag c.args.s.now c.requires.1 in
    omega (arith, sized 16 c.in-16.is)

pub bounds-s-3-in-17 : goal.bounds-s-3-in-17
unfolding facts_of facts_in
bounds-s-3-in-17 c =
    let sized : (n : ℕ) → c.args.tag ≡ n → length c.args.s.now ≡ (facts_of n).length + 3 = size c.args.tag c.args.s.now c.requires.1 in
    omega (arith, sized 17 c.in-17.is)

pub bounds-s-3-in-18 : goal.bounds-s-3-in-18
unfolding facts_of facts_in
bounds-s-3-in-18 c =
    let sized : (n : ℕ) → c.args.tag ≡ n → length c.args.s.now ≡ (facts_of n).length + 3 = size c.args.tag c.args.s.now c.requires.1 in
    omega (arith, sized 18 c.in-18.is)

pub bounds-s-4 : goal.bounds-s-4
unfolding facts_of facts_in
bounds-s-4 c =
    let sized : (n : ℕ) → c.args.tag ≡ n → length c.args.s.now ≡ (facts_of n).length + 3 = size c.args.tag c.args.s.now c.requires.1 in
    omega (arith, sized 18 c.in-18.is)

pub bounds-s-3-in-19 : goal.bounds-s-3-in-19
unfolding facts_of facts_in
bounds-s-3-in-19 c =
    let sized : (n : ℕ) → c.args.tag ≡ n → length c.args.s.now ≡ (facts_of n).length + 3 = size c.args.tag c.args.s.now c.requires.1 in
    omega (arith, sized 19 c.in-19.is)

pub word_at-requires-in-19 : goal.word_at-requires-in-19
unfolding facts_of facts_in
word_at-requires-in-19 c =
    let sized : (n : ℕ) → c.args.tag ≡ n → length c.args.s.now ≡ (facts_of n).length + 3 = size c.args.tag c.args.s.now c.requires.1 in
    omega (arith, sized 19 c.in-19.is)

pub pending_at-requires : goal.pending_at-requires
unfolding facts_of facts_in
pending_at-requires c =
    let sized : (n : ℕ) → c.args.tag ≡ n → length c.args.s.now ≡ (facts_of n).length + 3 = size c.args.tag c.args.s.now c.requires.1 in
    let last : c.args.tag ≡ 21 = last_tag c.args.tag c.requires.0 c.in_default.in_default-own.rest.0.0.0.0.1 c.in_default.in_default-own.rest.0.0.0.1
    c.in_default.in_default-own.rest.0.0.1 c.in_default.in_default-own.rest.0.1 c.in_default.in_default-own.rest.1 in
    omega (arith, sized 21 (last))

pub word_at-requires-in_default : goal.word_at-requires-in_default
unfolding facts_of facts_in
word_at-requires-in_default c =
    let sized : (n : ℕ) → c.args.tag ≡ n → length c.args.s.now ≡ (facts_of n).length + 3 = size c.args.tag c.args.s.now c.requires.1 in
    let last : c.args.tag ≡ 21 = last_tag c.args.tag c.requires.0 c.in_default.in_default-own.rest.0.0.0.0.1 c.in_default.in_default-own.rest.0.0.0.1
    c.in_default.in_default-own.rest.0.0.1 c.in_default.in_default-own.rest.0.1 c.in_default.in_default-own.rest.1 in
    omega (arith, sized 21 (last))

pub returns-in-16 : goal.returns-in-16
returns-in-16 c = cc (means_send c.args.tag c.args.s.now c.requires.1 c.in-16.is)

pub returns-in-17 : goal.returns-in-17
returns-in-17 c = cc (means_receive c.args.tag c.args.s.now c.requires.1 c.in-17.is)

pub returns-in-18 : goal.returns-in-18
returns-in-18 c = cc (means_request c.args.tag c.args.s.now c.requires.1 c.in-18.is)

pub returns-in-19 : goal.returns-in-19
returns-in-19 c = cc (means_trap c.args.tag c.args.s.now c.requires.1 c.in-19.is)

pub returns-in-20 : goal.returns-in-20
returns-in-20 c = cc (means_tick c.args.tag c.args.s.now c.requires.1 c.in-20.is)

pub returns-in_default : goal.returns-in_default
returns-in_default c =
    let last : c.args.tag ≡ 21 = last_tag c.args.tag c.requires.0 c.in_default.in_default-own.rest.0.0.0.0.1 c.in_default.in_default-own.rest.0.0.0.1
    c.in_default.in_default-own.rest.0.0.1 c.in_default.in_default-own.rest.0.1 c.in_default.in_default-own.rest.1 in
    cc (means_interrupt c.args.tag c.args.s.now c.requires.1 (last))
