-- "A receiver's inbox holds no match" is asked of each thread by the rules, and of each message by the code.
use Rattle.std.proofs.Common.{◌==◌}
use Prim.Native.Nat.{ℕ}
use mathlib.Core.Path.{◌≡◌, refl, sym, ap, ap₂, ◌∙◌}
use mathlib.Core.Bool.{Bool, true, false, ◌&&◌, not}
use mathlib.Core.List.{List, [], ◌∷◌, Memᴰ}
use Rattle.rules.specs.Lists.{all, any}
use Rattle.rules.specs.States.{receives}
use Rattle.rules.specs.Waking.{accepts}
use Rattle.rules.specs.TableRules.{no_match}
use Rattle.laws.specs.Words.{State, Running, Ready, Receiving, Clock, Device, Trapped, Thread, Message}
use Rattle.laws.proofs.Tests.{and_false, not_true}
use Rattle.laws.proofs.Tally.{none_any, not_any, all_of, all_at}

-- ---- of any tests

both_ways : (a b : Bool) → (a ≡ true → b ≡ true) → (b ≡ true → a ≡ true) → a ≡ b
both_ways true b f g = sym (f refl)
both_ways false true f g = g refl
both_ways false false f g = refl

all_alike : {A : Type 0} (p q : A → Bool) (xs : List A) → ((x : A) → Memᴰ x xs → p x ≡ q x) → all p xs ≡ all q xs
unfolding all
all_alike p q [] h = refl
all_alike p q (x ∷ xs) h = ap₂ (λ (a b : Bool). a && b) (h x (Memᴰ.head refl)) (all_alike p q xs (λ y m. h y (Memᴰ.tail m)))

-- no x passes with a y
abbrev apart : {A B : Type 0} → (A → B → Bool) → List A → List B → Bool
apart q xs ys = all (λ x. not (any (λ y. q x y) ys)) xs

apart_turned : {A B : Type 0} (q : A → B → Bool) (xs : List A) (ys : List B) → apart q xs ys ≡ true → apart (λ y x. q x y) ys xs ≡ true
apart_turned q xs ys h =
    all_of _ ys (λ y m. ap not (none_any (λ x. q x y) xs (λ x k. not_any (λ z. q x z) ys y (not_true _ (all_at _ xs h x k)) m)))

-- no x passes with a y exactly if no y passes with an x
apart_both : {A B : Type 0} (q : A → B → Bool) (xs : List A) (ys : List B) → apart q xs ys ≡ apart (λ y x. q x y) ys xs
apart_both q xs ys = both_ways _ _ (apart_turned q xs ys) (apart_turned (λ y x. q x y) ys xs)

-- ---- matches

-- no match in the inbox of a thread of this name and state: no message is to it and of a sender that it receives from
no_match_is : (ms : List Message) (n : ℕ) (s : State) → no_match ms n s ≡ not (any (λ m. m.to == n && receives m.from s) ms)
unfolding no_match receives
no_match_is ms n Running = sym (ap not (none_any _ ms (λ m k. and_false (m.to == n))))
no_match_is ms n Ready = sym (ap not (none_any _ ms (λ m k. and_false (m.to == n))))
no_match_is ms n (Receiving w) = refl
no_match_is ms n Clock = sym (ap not (none_any _ ms (λ m k. and_false (m.to == n))))
no_match_is ms n (Device d) = sym (ap not (none_any _ ms (λ m k. and_false (m.to == n))))
no_match_is ms n (Trapped k) = sym (ap not (none_any _ ms (λ m k. and_false (m.to == n))))

-- No inbox holds a match exactly if no thread accepts a message that is there.
pub by_messages : (ts : List Thread) (ms : List Message) →
    all (λ m. not (any (accepts m) ts)) ms ≡ all (λ t. no_match ms t.name t.state) ts
by_messages ts ms = apart_both accepts ms ts ∙ sym (all_alike _ _ ts (λ t k. no_match_is ms t.name t.state))
