-- What the store's users know of a memory that is Shaped, and of a search by name.
use Rattle.std.proofs.Common.{◌≡◌, ℕ, ◌<◌, ◌≤◌, Bool, true, false, not, ◌||◌, ltb, List, [], ◌∷◌, length, get_or, is_some, None, Some, refl, ltb-false, if◌then◌else◌}
use Rattle.std.specs.List.{find}
use Rattle.std.specs.Option.{option_map}
use borrow.Author.Tests.{not-true}
use Rattle.rules.specs.Lists.{any}
use Rattle.rules.specs.Numbers.{names}
use Rattle.rules.specs.Interrupt.{held_for}
use Rattle.laws.specs.Words.{Thread, Held}
use Rattle.moving.proofs.Found.{passes_at}
use Rattle.store.specs.Store.{limits, Shaped, place, name_where, word_for, held_word}

-- there is a name left for a newcomer
pub names_left : (m : List ℕ) → Shaped m → (limits m).threads < names
unfolding Shaped limits
names_left m s = s.roomy.low

-- who stands at the place of a name has no lower one
pub not_lower : (name : ℕ) (ts : List Thread) (d : Thread) → place (λ t. not (ltb t.name name)) ts < length ts →
    name ≤ (get_or ts (place (λ t. not (ltb t.name name)) ts) d).name
not_lower name ts d h = ltb-false _ name (not-true _ (passes_at (λ t. not (ltb t.name name)) d ts h))

-- whose name was found tells whether there is one
pub some_name : (p : Thread → Bool) (ts : List Thread) → is_some (name_where p ts) ≡ any p ts
unfolding any
some_name p [] = refl
some_name p (t ∷ ts) = go (p t) (some_name p ts)
  where
    go : (b : Bool) → is_some (name_where p ts) ≡ any p ts →
        is_some (option_map (λ u. u.name) (if b then Some t else find p ts)) ≡ (b || any p ts)
    go true later = refl
    go false later = later

-- a held word tells whether one is held
pub some_word : (d : ℕ) (hs : List Held) → is_some (held_word d hs) ≡ any (held_for d) hs
some_word d hs = go (any (held_for d) hs)
  where
    go : (b : Bool) → is_some (if b then Some (word_for d hs) else None) ≡ b
    go true = refl
    go false = refl

-- and which
pub which_word : (d w : ℕ) (hs : List Held) → held_word d hs ≡ Some w → w ≡ word_for d hs
which_word d w hs = go (any (held_for d) hs)
  where
    go : (b : Bool) → (if b then Some (word_for d hs) else None) ≡ Some w → w ≡ word_for d hs
    go true e = cc
    go false e = cc
