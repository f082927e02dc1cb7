-- The devices' rule by one pass over the threads: marks say for which devices one waits, and no word is held for these.
-- Held devices rise, so that each is held once.
use Rattle.std.proofs.Common.{◌==◌, if◌then◌else◌, Option, Some, None}
use Prim.Native.Nat.{zero, ℕ, suc, ◌+◌, ◌≤◌, ◌<◌}
use mathlib.Core.Path.{◌≡◌, refl, sym, ap, ◌∙◌}
use mathlib.Core.Logic.{◌≢◌, ⊎_elim}
use mathlib.Core.Bool.{Bool, true, false, ◌&&◌}
use mathlib.Core.List.{List, Memᴰ, [], ◌∷◌, ◌++◌}
use native.Mathlib.Omega.{arith}
use lib.Dec.{leb, ltb}
use lib.ListN.{get_or, set, replicate}
use borrow.Author.Tests.{eq-eqb, ne_eqb, le-leb, lt-leb, ltb-true, ltb-false}
use Rattle.rules.specs.Lists.{one_if, all, any, count, chain, from_on}
use Rattle.rules.specs.Numbers.{names, beat_ticks, devices, wrap}
use Rattle.rules.specs.Words.{by_state}
use Rattle.rules.specs.States.{waits_for, at_device}
use Rattle.rules.specs.Interrupt.{held_for}
use Rattle.rules.specs.Tables.{Tables}
use Rattle.rules.specs.TableRules.{ranges, state_in_range, devices_right, orders_right}
use Rattle.laws.specs.Words.{State, Running, Ready, Receiving, Clock, Device, Trapped, Thread, Held}
use Rattle.laws.proofs.Tests.{and_left, and_right, same_turned, same?, six}
use Rattle.laws.proofs.Tally.{count_append, count_same, any_count, none_count, all_of, all_at}
use Rattle.laws.proofs.Ordered.{up_once}
use Rattle.laws.proofs.Members.{from_on_mem}
use Rattle.std.specs.Option.{is_some}
use Rattle.memory.specs.Rows.{held_word, word_for}
use Rattle.indexing.specs.Marks.{Marked}
use Rattle.indexing.proofs.Marking.{none_marked, still_marked, marked_there, one_fails}

-- ---- general

mem_from_on : (a n d : ℕ) → Memᴰ d (from_on a n) → d < a + n
unfolding from_on
mem_from_on a zero d x = elim x [ ]
mem_from_on a (suc n) d (Memᴰ.head e) = omega (arith, e)
mem_from_on a (suc n) d (Memᴰ.tail m) = omega (arith, mem_from_on (suc a) n d m)

-- ---- threads that wait

-- the device that a state waits for, if it waits for one
abbrev pub device_of : State → Option ℕ
device_of s = by_state None (λ w. None) (λ e. if ltb e devices then Some e else None) (λ k. None) s

none_there : (s : State) → device_of s ≡ None → (d : ℕ) → d < devices → at_device d s ≡ false
unfolding at_device
none_there Running n d h = refl
none_there Ready n d h = refl
none_there (Receiving _) n d h = refl
none_there Clock n d h = refl
none_there (Device e) n d h = go (ltb e devices) refl n
  where
    go : (b : Bool) → ltb e devices ≡ b → (if b then Some e else None) ≡ None → (d == e) ≡ false
    go true t n = cc
    go false t n = ne_eqb d e (λ q. omega (arith, q, ltb-false e devices t))
none_there (Trapped _) n d h = refl

pub one_there : (s : State) (e : ℕ) → device_of s ≡ Some e → (e < devices) × ((d : ℕ) → at_device d s ≡ (d == e))
unfolding at_device
one_there Running e n = cc
one_there Ready e n = cc
one_there (Receiving _) e n = cc
one_there Clock e n = cc
one_there (Device k) e n = go (ltb k devices) refl n
  where
    go : (b : Bool) → ltb k devices ≡ b → (if b then Some k else None) ≡ Some e → (e < devices) × ((d : ℕ) → (d == k) ≡ (d == e))
    go true t n = let q : k ≡ e = cc in (omega (arith, ltb-true k devices t, q), λ d. ap (λ (j : ℕ). d == j) q)
    go false t n = cc
one_there (Trapped _) e n = cc

few_if : (b : Bool) → one_if b ≤ 1
few_if true = omega arith
few_if false = omega arith

-- a word is given for a device exactly if one is held
pub held_given : (d : ℕ) (hs : List Held) → is_some (held_word d hs) ≡ any (held_for d) hs
held_given d hs = go (any (held_for d) hs)
  where
    go : (b : Bool) → is_some (if b then Some (word_for d hs) else None) ≡ b
    go true = refl
    go false = refl

-- how many of these threads wait for the device
abbrev waiting : List Thread → ℕ → ℕ
waiting ts d = count (waits_for d) ts

-- the loop passed these threads, and no device has two; held says for which a word is held
pub record Waited (held : ℕ → Bool) (marks : List Bool) (done : List Thread) : Type 0 where
  pub so : Marked devices (waiting done) marks
  pub free : (d : ℕ) → d < devices → one_if (held d) + waiting done d ≤ 1

pub wait_starts : (held : ℕ → Bool) → Waited held (replicate 48 false) []
unfolding count
wait_starts held =
    record { so = none_marked devices 48 _ (omega arith) (λ k. refl); free = λ d l. omega (arith, few_if (held d)) }

module _ (held : ℕ → Bool) (marks : List Bool) (done : List Thread) (x : Thread) (W : Waited held marks done) where
  more : (d : ℕ) → waiting (done ++ x ∷ []) d ≡ waiting done d + one_if (waits_for d x)
  unfolding count
  more d = count_append (waits_for d) done (x ∷ []) ∙ omega arith

  -- a thread that waits for no device
  pub wait_skips : device_of x.state ≡ None → Waited held marks (done ++ x ∷ [])
  wait_skips n =
      let as_before : (d : ℕ) → d < devices → waiting (done ++ x ∷ []) d ≡ waiting done d =
      λ d l. omega (arith, more d, ap one_if (none_there x.state n d l)) in
      record { so = still_marked _ _ _ marks W.so as_before; free = λ d l. omega (arith, as_before d l, W.free d l) }

  -- one that waits for e
  module _ (e : ℕ) (waits : device_of x.state ≡ Some e) where
    low : e < devices
    low = (one_there x.state e waits).0

    other : (d : ℕ) → d < devices → d ≢ e → waiting (done ++ x ∷ []) d ≡ waiting done d
    other d l u = omega (arith, more d, ap one_if ((one_there x.state e waits).1 d), ap one_if (ne_eqb d e u))

    same : waiting (done ++ x ∷ []) e ≡ waiting done e + 1
    same = omega (arith, more e, ap one_if ((one_there x.state e waits).1 e), ap one_if (eq-eqb e e refl))

    -- it is the first that has it
    pub wait_next : held e ≡ false → get_or marks e false ≡ false → Waited held (set marks e true) (done ++ x ∷ [])
    wait_next f u =
        let one : waiting (done ++ x ∷ []) e ≡ 1 = omega (arith, same, W.so.says e low, ap one_if u) in
        record {
          so = marked_there _ _ _ marks W.so e low one other;
          free = λ d k. ⊎_elim (λ q. rw q.0 (omega (arith, one, ap one_if f))) (λ q. omega (arith, other d k q.0, W.free d k))
              (same? d e);
        }

    module _ (ts left : List Thread) (split : done ++ x ∷ left ≡ ts) where
      later : waiting done e + 1 ≤ waiting ts e
      unfolding count
      later =
          let a : waiting ts e ≡ waiting done e + (one_if (waits_for e x) + waiting left e) =
          ap (λ (l : List Thread). waiting l e) (sym split) ∙ count_append (waits_for e) done (x ∷ left) in
          omega (arith, a, same, more e)

      -- another has it
      pub wait_fails : get_or marks e false ≡ true → 2 ≤ one_if (held e) + waiting ts e
      wait_fails u = omega (arith, later, W.so.says e low, ap one_if u)

      -- a word is held for it
      pub wait_held : held e ≡ true → 2 ≤ one_if (held e) + waiting ts e
      wait_held f = omega (arith, later, ap one_if f)

-- ---- the rule

module _ (T : Tables) where
  -- what the rule counts
  abbrev both : ℕ → ℕ
  both d = count (waits_for d) T.threads + count (held_for d) T.held

  held_any : (d : ℕ) → one_if (any (held_for d) T.held) ≤ count (held_for d) T.held
  held_any d = go (any (held_for d) T.held) refl
    where
      go : (b : Bool) → any (held_for d) T.held ≡ b → one_if b ≤ count (held_for d) T.held
      go true e = any_count (held_for d) T.held e
      go false e = omega arith

  any_held : chain (λ h k. ltb h.device k.device) T.held ≡ true → (d : ℕ) →
      count (held_for d) T.held ≤ one_if (any (held_for d) T.held)
  any_held c d = go (any (held_for d) T.held) refl
    where
      turned : count (held_for d) T.held ≡ count (λ h. d == h.device) T.held
      turned = count_same (held_for d) (λ h. d == h.device) T.held (λ h. same_turned h.device d)

      go : (b : Bool) → any (held_for d) T.held ≡ b → count (held_for d) T.held ≤ one_if b
      go true e = omega (arith, turned, up_once (λ h. h.device) d T.held c)
      go false e = omega (arith, none_count (held_for d) T.held e)

  -- what the loop counts
  abbrev counted : ℕ → ℕ
  counted d = one_if (any (held_for d) T.held) + count (waits_for d) T.threads

  -- A device that two have breaks the rule.
  pub broken : (d : ℕ) → d < devices → 2 ≤ counted d → false ≡ devices_right T
  broken d h more =
      let two : 2 ≤ both d = omega (arith, held_any d) in
      sym (one_fails (λ k. leb (both k) 1) (from_on 0 devices) d (from_on_mem 0 devices d (omega arith) h) (lt-leb (both d) 1 two))

  -- Where each has one at most, and held devices rise, it holds.
  pub kept : orders_right T ≡ true → ((d : ℕ) → d < devices → counted d ≤ 1) → true ≡ devices_right T
  kept order few = sym (all_of (λ d. leb (both d) 1) (from_on 0 devices) (λ d m. le-leb (both d) 1 (at d (mem_from_on 0 devices d m))))
    where
      rise : chain (λ h k. ltb h.device k.device) T.held ≡ true
      rise = and_right (chain (λ m n. leb m.to n.to) T.messages) _ order

      at : (d : ℕ) → d < devices → both d ≤ 1
      at d h = omega (arith, few d h, any_held rise d)

  -- What is held is in range.
  pub ranged : ranges T ≡ true → all (λ h. ltb h.device devices) T.held ≡ true
  ranged range = all_of _ T.held (λ h m. and_left (ltb h.device devices) _ (all_at fits T.held held h m))
    where
      fits : Held → Bool
      fits h = ltb h.device devices && ltb h.word wrap

      held : all fits T.held ≡ true
      held =
          (six (ltb T.last names) (ltb T.since beat_ticks) (ltb T.beats wrap)
          (all (λ t. ltb t.ticks wrap && state_in_range t.state) T.threads)
          (all (λ m. ltb m.word wrap) T.messages)
          (all fits T.held)
          range).5
