-- What one change after another leaves, and what the next may ask of it.
use Rattle.std.proofs.Common.{◌≡◌, ℕ, List, refl, ap, ◌∙◌}
use Rattle.laws.specs.Words.{Limits}
use Rattle.rules.specs.Tables.{Tables}
use Rattle.rules.specs.Waking.{Outcome, ◌handing◌}
use Rattle.laws.specs.Words.{Answer}
use Rattle.laws.specs.Types.{Inv, Ruled}
use Rattle.store.specs.Store.{limits, tables, Holding, Leaves, Hands}
use Rattle.handling.specs.Standing.{MidEvent, AtRest}

-- nothing changed
pub as_it_was : {m : List ℕ} → Holding m → Leaves m m (tables m)
as_it_was h = record { says = refl; same = refl; holding = h }

-- other words for the same tables
pub in_words : {m m' : List ℕ} {T U : Tables} → T ≡ U → Leaves m m' T → Leaves m m' U
in_words e a = record { says = a.says ∙ e; same = a.same; holding = a.holding }

-- one change, then another by f
pub and_then : {m m₁ m₂ : List ℕ} {T : Tables} (f : Tables → Tables) → Leaves m m₁ T → Leaves m₁ m₂ (f (tables m₁)) → Leaves m m₂ (f T)
and_then f a b = record { says = b.says ∙ ap f a.says; same = b.same ∙ a.same; holding = b.holding }

-- a change, and an answer for a runner that goes on
pub and_hands : {m m' : List ℕ} {T : Tables} {a : Answer} {o : Outcome} → Leaves m m' T → (T handing a) ≡ o → Hands m m' a o
and_hands {a = a} l e = record { says = ap (λ (T : Tables). T handing a) l.says ∙ e; same = l.same; holding = l.holding }

-- what holds of the tables holds of what is left
pub carried : {m m' : List ℕ} {T : Tables} (P : Limits → Tables → Type 0) → Leaves m m' T → P (limits m) T → P (limits m') (tables m')
carried P a p = rw (a.same, a.says) p

-- places and names are right, where they are in the tables
pub still_holds : {m m' : List ℕ} {T : Tables} → Leaves m m' T → Inv (limits m) T → MidEvent m'
still_holds a I = record { holding = a.holding; inv = carried Inv a I }

pub still_at_rest : {m m' : List ℕ} {T : Tables} → Leaves m m' T → Ruled (limits m) T → AtRest m'
still_at_rest a R = record { holding = a.holding; ruled = carried Ruled a R }

-- what stands holds
pub holds : {m : List ℕ} → AtRest m → MidEvent m
holds S = record { holding = S.holding; inv = S.ruled.inv }
