-- The fields of a dump stand in order: every tag is known, none ranks below the one before it, and those that stand once stand once.
use Rattle.std.proofs.Common.{◌==◌}
use Prim.Native.Nat.{ℕ, zero, suc, ◌≤◌, ◌<◌}
use mathlib.Core.Path.{◌≡◌, refl, sym, ap, ◌∙◌, subst}
use mathlib.Core.Bool.{true, false, ◌&&◌}
use mathlib.Core.List.{List, [], ◌∷◌, ◌++◌, map, append_assoc, append-nil, Memᴰ}
use native.Mathlib.Omega.{arith}
use borrow.Author.Tests.{ne_eqb, le-ltb}
use Rattle.rules.specs.Lists.{has}
use Rattle.laws.specs.Words.{Limits}
use Rattle.rules.specs.Tables.{Tables}
use Rattle.rules.specs.Tags.{dump_facts_in, dump_facts}
use Rattle.rules.specs.Dump.{head_value, thread_value, message_value, held_value, dump}
use Rattle.rules.specs.Load.{Field}
use Rattle.rules.specs.Faults.{Placed, placed_from, place_before, misplaced, faults_16}
use Rattle.laws.specs.Types.{Ruled}
use Rattle.laws.proofs.Tests.{and_false}
use Rattle.laws.proofs.Tally.{none_any}
use Rattle.laws.proofs.Offsets.{none_exactly}
use Rattle.laws.proofs.Dump.{tagged, fields, spelled, cut_dump}

-- ---- the fields of a dump

-- the fields from a tag on, and all of them from the front
abbrev pub held_on : Tables → List Field
held_on T = tagged 6 (map held_value T.held)

abbrev pub messages_on : Tables → List Field
messages_on T = tagged 5 (map message_value T.messages) ++ held_on T

abbrev pub clock_on : Tables → List Field
clock_on T = tagged 4 (T.clock ∷ []) ++ messages_on T

abbrev pub queues_on : Tables → List Field
queues_on T = tagged 3 (T.ready ∷ []) ++ clock_on T

abbrev pub threads_on : Tables → List Field
threads_on T = tagged 2 (map thread_value T.threads) ++ queues_on T

pub fields_on : (T : Tables) → fields T ≡ tagged 1 (head_value T ∷ []) ++ threads_on T
unfolding fields
fields_on T = simp append_assoc

-- ---- one field behind another

-- the tags before are known, and go up to k
abbrev Within : ℕ → List ℕ → Type 0
Within k before = (t : ℕ) → Memᴰ t before → (1 ≤ t) × (t ≤ k)

wider : (k n : ℕ) (before : List ℕ) → Within k before → k ≤ n → 1 ≤ n → Within n (n ∷ before)
wider k n before w h p t (Memᴰ.head e) = omega arith
wider k n before w h p t (Memᴰ.tail m) = omega (arith, w t m)

-- a tag's place is counted from 0
place_of : (t : ℕ) → 1 ≤ t → t ≤ 6 → suc (dump_facts t).place ≡ t
unfolding dump_facts dump_facts_in
place_of zero h l = absurd (omega arith)
place_of (suc zero) h l = refl
place_of (suc (suc zero)) h l = refl
place_of (suc (suc (suc zero))) h l = refl
place_of (suc (suc (suc (suc zero)))) h l = refl
place_of (suc (suc (suc (suc (suc zero))))) h l = refl
place_of (suc (suc (suc (suc (suc (suc zero)))))) h l = refl
place_of (suc (suc (suc (suc (suc (suc (suc t))))))) h l = absurd (omega arith)

lower : (k n : ℕ) (before : List ℕ) → Within k before → k ≤ n → 1 ≤ n → n ≤ 6 → suc (place_before before) ≤ n
unfolding place_before
lower k n [] w h p l = p
lower k n (t ∷ before) w h p l = let b = w t (Memᴰ.head refl) in omega (arith, b.0, b.1, place_of t b.0 (omega (arith, b.1)))

not_yet : (k n : ℕ) (before : List ℕ) → Within k before → k < n → has n before ≡ false
not_yet k n before w h = none_any (λ m. n == m) before (λ m i. ne_eqb n m (λ e. omega (arith, w m i)))

-- fields behind some tags: none of them is misplaced
abbrev Follow : List ℕ → List Field → Type 0
Follow before fs = (at : ℕ) (f : Placed) → Memᴰ f (placed_from at before (map spelled fs)) → misplaced f ≡ false

-- one that is known, ranks no lower than the one before it, and does not stand again where it stands once
one_follows : (k n : ℕ) (v : List ℕ) (fs : List Field) (before : List ℕ) → Within k before → k ≤ n → 1 ≤ n → n ≤ 6
    → (dump_facts n).known ≡ true → ((dump_facts n).once && has n before) ≡ false
    → Follow (n ∷ before) fs → Follow before (record { tag = n; value = v } ∷ fs)
unfolding placed_from
one_follows k n v fs before w h p l known once later at f (Memᴰ.head e) = ap misplaced e ∙ right
  where
    right : misplaced (record { at = at; before = before; field = record { tag = n; value = v } }) ≡ false
    right =
        let low : place_before before ≤ (dump_facts n).place = omega (arith, lower k n before w h p l, place_of n p l) in
        unfold misplaced in rw (known, le-ltb (dump_facts n).place (place_before before) low, once)
one_follows k n v fs before w h p l known once later at f (Memᴰ.tail m) = later _ f m

-- any number of fields of a tag that may stand often
many_follow : (k n : ℕ) (vs : List (List ℕ)) (fs : List Field) (before : List ℕ) → Within k before → k ≤ n → 1 ≤ n → n ≤ 6
    → (dump_facts n).known ≡ true → (dump_facts n).once ≡ false
    → ((b : List ℕ) (j : ℕ) → j ≤ n → Within j b → Follow b fs) → Follow before (tagged n vs ++ fs)
many_follow k n [] fs before w h p l known often later = later before k h w
many_follow k n (v ∷ vs) fs before w h p l known often later =
    one_follows k n v (tagged n vs ++ fs) before w h p l known (rw often)
    (many_follow n n vs fs (n ∷ before) (wider k n before w h p) (omega arith) p l known often later)

-- a field of a tag that no field before it has
first_follows : (k n : ℕ) (v : List ℕ) (fs : List Field) (before : List ℕ) → Within k before → k < n → n ≤ 6
    → (dump_facts n).known ≡ true → ((b : List ℕ) (j : ℕ) → j ≤ n → Within j b → Follow b fs) → Follow before (tagged n (v ∷ []) ++ fs)
first_follows k n v fs before w h l known later =
    one_follows k n v fs before w (omega arith) (omega arith) l known (rw (not_yet k n before w h) (and_false (dump_facts n).once))
    (later (n ∷ before) n (omega arith) (wider k n before w (omega arith) (omega arith)))

module _ (T : Tables) where
  end_follows : (b : List ℕ) (j : ℕ) → j ≤ 6 → Within j b → Follow b []
  unfolding placed_from
  end_follows b j l w at f m = elim m [ ]

  held_follow : (b : List ℕ) (j : ℕ) → j ≤ 5 → Within j b → Follow b (held_on T)
  unfolding dump_facts dump_facts_in
  held_follow b j l w =
      subst (λ (fs : List Field). Follow b fs) (append-nil (held_on T))
      (many_follow j 6 (map held_value T.held) [] b w (omega arith) (omega arith) (omega arith) refl refl end_follows)

  messages_follow : (b : List ℕ) (j : ℕ) → j ≤ 4 → Within j b → Follow b (messages_on T)
  unfolding dump_facts dump_facts_in
  messages_follow b j l w =
      many_follow j 5 (map message_value T.messages) (held_on T) b w (omega arith) (omega arith) (omega arith) refl refl held_follow

  clock_follows : (b : List ℕ) (j : ℕ) → j ≤ 3 → Within j b → Follow b (clock_on T)
  unfolding dump_facts dump_facts_in
  clock_follows b j l w = first_follows j 4 T.clock (messages_on T) b w (omega arith) (omega arith) refl messages_follow

  queues_follow : (b : List ℕ) (j : ℕ) → j ≤ 2 → Within j b → Follow b (queues_on T)
  unfolding dump_facts dump_facts_in
  queues_follow b j l w = first_follows j 3 T.ready (clock_on T) b w (omega arith) (omega arith) refl clock_follows

  threads_follow : (b : List ℕ) (j : ℕ) → j ≤ 1 → Within j b → Follow b (threads_on T)
  unfolding dump_facts dump_facts_in
  threads_follow b j l w =
      many_follow j 2 (map thread_value T.threads) (queues_on T) b w (omega arith) (omega arith) (omega arith) refl refl queues_follow

  all_follow : Follow [] (fields T)
  unfolding dump_facts dump_facts_in
  all_follow =
      subst (λ (fs : List Field). Follow [] fs) (sym (fields_on T))
      (first_follows 0 1 (head_value T) (threads_on T) [] (λ t m. elim m [ ]) (omega arith) (omega arith) refl threads_follow)

-- No field of a dump has an unknown tag, stands out of order, or is a second one of those that stand once.
pub none_16 : (L : Limits) (T : Tables) → Ruled L T → faults_16 (dump T) ≡ []
unfolding faults_16
none_16 L T r = rw (cut_dump L T r).0 ((none_exactly misplaced (placed_from 0 [] (map spelled (fields T)))).1 (all_follow T 0))
