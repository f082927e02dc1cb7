-- What well-formed bytes say: for each event, the bytes that document 01 gives it mean it. With Flaws.antt this tells what any bytes mean.
use Rattle.std.proofs.Common.{if◌then◌else◌}
use Prim.Native.Nat.{ℕ, ◌+◌, ◌*◌, ◌/◌, ◌%◌, ◌^◌, ◌<◌}
use mathlib.Core.Path.{◌≡◌, refl, ap, ap₂, ◌∙◌}
use mathlib.Core.Logic.{◌≢◌}
use mathlib.Core.Bool.{Bool, true}
use mathlib.Core.List.{[], ◌∷◌, ◌++◌}
use native.Mathlib.Omega.{arith}
use borrow.Author.Tests.{eqb-true, lt-ltb, ne_eqb}
use Rattle.rules.specs.Lists.{all, is_byte, number_from, number, four_bytes}
use Rattle.rules.specs.Numbers.{wrap}
use Rattle.rules.specs.Tags.{facts_in, tag_facts, rule_in, argument_rule, meets}
use Rattle.rules.specs.Pick.{pick}
use Rattle.rules.specs.Events.{asked_in, request, trap_of, interrupt_of, meaning, field_of, decode}
use Rattle.laws.specs.Words.{Anybody, Only, Program, Tlb, SysBp, Oneself, Named, Send, Receive, CreateBrother, CreateSon, Terminate}
use Rattle.laws.specs.Words.{SetManager, GetCpuTime, WaitForClock, WaitForIo, Trap, Malformed, ByRunner, Tick, Interrupt, Picked}
use Rattle.laws.specs.Said.{asking, interrupting}
use Rattle.laws.specs.Pick.{Foremost}
use Rattle.laws.proofs.Pick.{pick_takes}
use Rattle.laws.proofs.Tally.{all_both}
use Rattle.laws.proofs.Bytes.{four_are_bytes, four_back, four_number}

one_back : (a : ℕ) → number (a ∷ []) ≡ a
unfolding number_from
one_back a = omega arith

-- Requests with argument 0, and "255 for oneself".
pub requests_say :
    (decode (asking 1 0) ≡ ByRunner CreateBrother)
    × (decode (asking 2 0) ≡ ByRunner CreateSon)
    × (decode (asking 3 255) ≡ ByRunner (Terminate Oneself))
    × (decode (asking 7 0) ≡ ByRunner GetCpuTime)
    × (decode (asking 8 0) ≡ ByRunner WaitForClock)
unfolding decode all field_of tag_facts facts_in meaning number_from argument_rule rule_in meets asked_in request
requests_say = (refl, refl, refl, refl, refl)

-- "3 TERMINATE (a name ..)" and "4, 5, 6 set the manager for kinds 0, 1, 2".
pub naming_requests_say : (n : ℕ) → n < 256 →
    (n ≢ 255 → decode (asking 3 n) ≡ ByRunner (Terminate (Named n)))
    × (decode (asking 4 n) ≡ ByRunner (SetManager Program n))
    × (decode (asking 5 n) ≡ ByRunner (SetManager Tlb n))
    × (decode (asking 6 n) ≡ ByRunner (SetManager SysBp n))
unfolding decode all field_of tag_facts facts_in meaning argument_rule rule_in meets asked_in request
naming_requests_say n h = (
  λ d. rw (lt-ltb n 256 h, one_back n, ne_eqb n 255 d),
  rw (lt-ltb n 256 h, one_back n),
  rw (lt-ltb n 256 h, one_back n),
  rw (lt-ltb n 256 h, one_back n),
)

-- "9 WAITFORIO", of "devices 0 to 47".
pub device_request_says : (d : ℕ) → d < 48 → decode (asking 9 d) ≡ ByRunner (WaitForIo d)
unfolding decode all field_of tag_facts facts_in meaning argument_rule rule_in meets asked_in request
device_request_says d h = rw (lt-ltb d 256 (omega arith), one_back d, lt-ltb d 48 h)

-- "16 send (name 1, word 4)"
pub send_says : (n w : ℕ) → n < 256 → w < wrap → decode (16 ∷ 0 ∷ 5 ∷ n ∷ four_bytes w) ≡ ByRunner (Send n w)
unfolding decode all field_of tag_facts facts_in meaning
send_says n w h k = rw (lt-ltb n 256 h, four_are_bytes w, four_back w k)

-- "17 receive (name 1)", "255 .. anybody"
pub receive_says : (decode (17 ∷ 0 ∷ 1 ∷ 255 ∷ []) ≡ ByRunner (Receive Anybody))
    × ((n : ℕ) → n < 255 → decode (17 ∷ 0 ∷ 1 ∷ n ∷ []) ≡ ByRunner (Receive (Only n)))
unfolding decode all field_of tag_facts facts_in meaning
receive_says = (refl, λ n h. rw (lt-ltb n 256 (omega arith), ne_eqb n 255 (λ e. omega (arith, e))))

-- "19 trap (kind 1, cause 4)", "kinds 0 program, 1 TLB, 2 SYS/Bp"
pub trap_says : (c : ℕ) → c < wrap →
    (decode (19 ∷ 0 ∷ 5 ∷ 0 ∷ four_bytes c) ≡ ByRunner (Trap Program c))
    × (decode (19 ∷ 0 ∷ 5 ∷ 1 ∷ four_bytes c) ≡ ByRunner (Trap Tlb c))
    × (decode (19 ∷ 0 ∷ 5 ∷ 2 ∷ four_bytes c) ≡ ByRunner (Trap SysBp c))
unfolding decode all field_of tag_facts facts_in meaning trap_of
trap_says c k = (rw (four_are_bytes c, four_back c k), rw (four_are_bytes c, four_back c k), rw (four_are_bytes c, four_back c k))

-- "20 tick (empty)"
pub tick_says : decode (20 ∷ 0 ∷ 0 ∷ []) ≡ Tick
unfolding decode all field_of tag_facts facts_in meaning
tick_says = refl

eight_back : (p : ℕ) → p < 2 ^ 48 → number (four_bytes (p / wrap) ++ (four_bytes p ++ [])) ≡ p
unfolding number_from
eight_back p h = four_number 0 (p / wrap) (four_bytes p ++ []) ∙ four_number (0 * wrap + (p / wrap) % wrap) p [] ∙ omega arith

are_bytes : (p w : ℕ) → all is_byte (interrupting p w) ≡ true
unfolding all
are_bytes p w = all_both is_byte (four_bytes (p / wrap)) (four_bytes p ++ four_bytes w) (four_are_bytes (p / wrap))
    (all_both is_byte (four_bytes p) (four_bytes w) (four_are_bytes p) (four_are_bytes w))

-- With a device pending and none over 47, the event is an interrupt of the foremost that is: "the lowest pending number from 0 to 31,
-- then the lowest transmitter, then the lowest receiver".
pub interrupt_says : (p w : ℕ) → 0 < p → p < 2 ^ 48 → w < wrap →
    (d : ℕ) × (decode (interrupting p w) ≡ Interrupt d w) × (d < 48) × (p / 2 ^ d % 2 ≡ 1) × Foremost p d
unfolding decode field_of tag_facts facts_in meaning interrupt_of
interrupt_says p w o h k =
    let r = pick_takes p o h in (
      r.0,
      ap (λ (b : Bool). if b then field_of (interrupting p w) else Malformed) (are_bytes p w)
          ∙ ap₂ (λ (x y : ℕ). interrupt_of (pick x) y) (eight_back p h) (four_back w k)
          ∙ ap (λ (x : Picked). interrupt_of x w) r.1,
      r.2,
      eqb-true (p / 2 ^ r.0 % 2) 1 r.3,
      r.4,
    )
