-- Held words passed device by device.
use Rattle.std.proofs.Common.{◌==◌}
use Prim.Native.Nat.{ℕ, ◌+◌, ◌≤◌, ◌<◌}
use mathlib.Core.Path.{◌≡◌, refl, ap, ◌∙◌}
use mathlib.Core.Logic.{⊎_elim, ◌≢◌}
use mathlib.Core.Bool.{Bool, true, false}
use mathlib.Core.List.{List, [], ◌∷◌, ◌++◌, Memᴰ}
use native.Mathlib.Omega.{arith}
use lib.Dec.{ltb}
use lib.ListN.{length}
use borrow.Author.Tests.{ltb-true, ltb-false, lt-ltb, le-ltb}
use Rattle.rules.specs.Lists.{all, any, keep, chain}
use Rattle.rules.specs.Numbers.{devices}
use Rattle.laws.specs.Words.{Held}
use Rattle.laws.proofs.Tests.{same?, and_left, and_right}
use Rattle.laws.proofs.Tally.{count_length, length_keep, keep_none, none_count, none_any, all_at}
use Rattle.laws.proofs.Ordered.{up, chain_tail, up_below, up_few}
use Rattle.store.specs.Store.{tables, word_for}
use Rattle.dumping.specs.Dumping.{Dumpable, held_at}

-- ---- device by device

-- the words that are held for devices below d
abbrev pub below : ℕ → List Held → List Held
below d hs = keep (λ h. ltb h.device d) hs

none_below : (d : ℕ) (hs : List Held) → ((h : Held) → Memᴰ h hs → d ≤ h.device) → below d hs ≡ []
none_below d hs far = keep_none _ hs (none_count _ hs (none_any _ hs (λ h m. le-ltb h.device d (far h m))))

all_below : (n : ℕ) (hs : List Held) → all (λ h. ltb h.device n) hs ≡ true → below n hs ≡ hs
unfolding keep all
all_below n [] t = refl
all_below n (h ∷ hs) t =
    rw (and_left (ltb h.device n) _ t) (ap (λ (l : List Held). h ∷ l) (all_below n hs (and_right (ltb h.device n) _ t)))

abbrev by_device : Held → ℕ
by_device h = h.device

-- held words rise: behind those below d stands the word of d, if one is held
next_below : (d : ℕ) (hs : List Held) → chain (up by_device) hs ≡ true → below (d + 1) hs ≡ below d hs ++ held_at d hs
unfolding keep any held_at word_for
next_below d [] c = refl
next_below d (h ∷ hs) c =
    ⊎_elim
    (λ e. here e.0 e.1)
    (λ e. other (next_below d hs (chain_tail (up by_device) h hs c)) e.0 e.1 (ltb h.device d) refl)
    (same? h.device d)
  where
    later : (y : Held) → Memᴰ y hs → h.device < y.device
    later y m = up_below by_device h hs c y m

    here : h.device ≡ d → (h.device == d) ≡ true → below (d + 1) (h ∷ hs) ≡ below d (h ∷ hs) ++ held_at d (h ∷ hs)
    here e t =
        rw (
          lt-ltb h.device (d + 1) (omega arith),
          le-ltb h.device d (omega arith),
          t,
          none_below (d + 1) hs (λ y m. omega (arith, later y m)),
          none_below d hs (λ y m. omega (arith, later y m)),
        )
        (ap (λ (k : ℕ). record { device = k; word = h.word } ∷ []) e)

    other : below (d + 1) hs ≡ below d hs ++ held_at d hs → h.device ≢ d → (h.device == d) ≡ false → (b : Bool) → ltb h.device d ≡ b →
        below (d + 1) (h ∷ hs) ≡ below d (h ∷ hs) ++ held_at d (h ∷ hs)
    other rest n t true e =
        rw (lt-ltb h.device (d + 1) (omega (arith, ltb-true h.device d e)), e, t) (ap (λ (l : List Held). h ∷ l) rest)
    other rest n t false e = rw (le-ltb h.device (d + 1) (omega (arith, ltb-false h.device d e, n)), e, t) rest

module _ {m : List ℕ} (D : Dumpable m) where
  abbrev hs : List Held
  hs = (tables m).held

  pub none_passed : below 0 hs ≡ []
  none_passed = none_below 0 hs (λ h i. omega arith)

  pub one_passed : (d : ℕ) → below (d + 1) hs ≡ below d hs ++ held_at d hs
  one_passed d = next_below d hs D.rising

  pub last_passed : {d : ℕ} → d ≡ devices → below d hs ≡ hs
  last_passed e = ap (λ (d : ℕ). below d hs) e ∙ all_below devices hs D.told

  pub few_passed : (d : ℕ) → length (below d hs) ≤ length hs
  few_passed d = omega (arith, length_keep (λ k. ltb k.device d) hs, count_length (λ k. ltb k.device d) hs)

pub held_few : {m : List ℕ} → Dumpable m → length (tables m).held ≤ devices
held_few {m} D =
    let hs = (tables m).held in
    omega (
      arith,
      up_few by_device 0 devices hs (omega arith) D.rising
          (λ h i. (omega arith, ltb-true h.device devices (all_at (λ k. ltb k.device devices) hs D.told h i))),
    )
