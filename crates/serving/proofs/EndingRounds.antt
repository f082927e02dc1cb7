-- Ending: the set closed round by round, the tables without it, and who is released.
use Prim.Native.Nat.{ℕ, ◌+◌, ◌≤◌, ◌<◌}
use mathlib.Core.Path.{◌≡◌, sym, ap, ◌∙◌}
use mathlib.Core.Logic.{◌≢◌}
use mathlib.Core.Bool.{true, false}
use mathlib.Core.List.{List, [], ◌∷◌}
use native.Mathlib.Omega.{arith}
use lib.ListN.{length}
use Rattle.rules.specs.Lists.{has, count, times}
use Rattle.laws.specs.Words.{Limits}
use Rattle.rules.specs.Words.{by_wanted}
use Rattle.rules.specs.Tables.{Tables, live}
use Rattle.rules.specs.Ending.{grow, ended_set, remove, misses, release, end}
use Rattle.laws.specs.Words.{Thread}
use Rattle.laws.specs.Types.{Inv}
use Rattle.laws.proofs.Places.{asleep}
use Rattle.laws.proofs.PlacesKept.{remove_inv}
use Rattle.laws.proofs.Closure.{outside}
use Rattle.laws.proofs.Rounds.{room_kept, outside_falls, one_round_more, no_round_more, grow_same, ended_room, closed_is_ended}
use Rattle.laws.proofs.Room.{released_room}
use Rattle.store.specs.Store.{limits, tables, found, Leaves, Finds, Removes}
use Rattle.handling.specs.Standing.{MidEvent}
use Rattle.handling.proofs.Leaving.{carried}

-- how many threads of these tables are not in a set
abbrev left_out : Tables → List ℕ → ℕ
left_out T set = outside T.threads set

-- what all rounds make of a set
abbrev closed : Tables → List ℕ → List ℕ
closed T set = times (left_out T set) (grow T.threads) set

-- who is found after two steps is who the second found
and_finds : {m m₁ m₂ : List ℕ} {l l₁ l₂ : List ℕ} → Finds m m₁ l → Finds m₁ m₂ l₁ → l₁ ≡ l₂ → Finds m m₂ l₂
and_finds a b e = record { set = b.set ∙ e; says = b.says ∙ a.says; same = b.same ∙ a.same; finding = b.finding }

-- ---- m became m₁, in which these are found

module _ {m m₁ : List ℕ} {l : List ℕ} (a : Finds m m₁ l) where
  same_limit : (limits m₁).threads ≡ (limits m).threads
  same_limit = ap (λ (L : Limits). L.threads) a.same

  out_now : left_out (tables m₁) (found m₁) ≡ left_out (tables m) l
  out_now = ap (λ (T : Tables). left_out T (found m₁)) a.says ∙ ap (left_out (tables m)) a.set

  closed_now : closed (tables m₁) (found m₁) ≡ closed (tables m) l
  closed_now = ap (λ (T : Tables). closed T (found m₁)) a.says ∙ ap (closed (tables m)) a.set

  room_now : length l + left_out (tables m) l ≤ (limits m).threads → length (found m₁) + left_out (tables m₁) (found m₁) ≤ (limits m₁).threads
  room_now h = omega (arith, h, out_now, ap length a.set, same_limit)

-- ---- a round

module _ {m m₁ : List ℕ} (a : Finds m m₁ (grow (tables m).threads (found m))) where
  abbrev ts : List Thread
  ts = (tables m).threads

  -- A round that leaves the count is the last.
  pub last_round : length (found m₁) ≡ length (found m) → Finds m m₁ (closed (tables m) (found m))
  last_round e =
      let d : length (grow ts (found m)) ≡ length (found m) = ap length (sym a.set) ∙ e in
      record {
        set = a.set ∙ (grow_same ts (found m) d ∙ no_round_more ts (found m) d);
        says = a.says;
        same = a.same;
        finding = a.finding;
      }

  -- The room is kept.
  pub room_stays : length (found m) + left_out (tables m) (found m) ≤ (limits m).threads →
      length (found m₁) + left_out (tables m₁) (found m₁) ≤ (limits m₁).threads
  room_stays h = room_now a (room_kept ts (found m) (limits m).threads h)

  module _ (d : length (found m₁) ≢ length (found m)) where
    longer : length (grow ts (found m)) ≢ length (found m)
    longer e = d (ap length a.set ∙ e)

    -- After any other fewer are outside,
    pub fewer_outside : left_out (tables m₁) (found m₁) < left_out (tables m) (found m)
    fewer_outside = omega (arith, out_now a, outside_falls ts (found m) longer)

    -- and what the rest of the rounds make is what all of them make.
    pub round_more : {m₂ : List ℕ} → Finds m₁ m₂ (closed (tables m₁) (found m₁)) → Finds m m₂ (closed (tables m) (found m))
    round_more b = and_finds a b (closed_now a ∙ one_round_more ts (found m) longer)

-- ---- from a live thread alone on

module _ {m : List ℕ} (n : ℕ) (H : MidEvent m) (h : live n (tables m) ≡ true) where
  begin_room : 1 + left_out (tables m) (n ∷ []) ≤ (limits m).threads
  begin_room = omega (arith, ended_room (tables m).threads n h, H.inv.few)

  pub some_room : 0 < (limits m).threads
  some_room = omega (arith, begin_room)

  pub begun_room : {m₁ : List ℕ} → Finds m m₁ (n ∷ []) → length (found m₁) + left_out (tables m₁) (found m₁) ≤ (limits m₁).threads
  begun_room a = room_now a begin_room

pub begun_closed : {m m₁ m₂ : List ℕ} (n : ℕ) → Finds m m₁ (n ∷ []) → Finds m₁ m₂ (closed (tables m₁) (found m₁)) →
    Finds m m₂ (ended_set (tables m).threads n)
begun_closed {m} n a b = and_finds a b (closed_now a ∙ closed_is_ended (tables m).threads n)

-- ---- who is released

-- Those who miss a member are not ready, so they have room in the ready queue.
missed_room : {L : Limits} (T : Tables) (set : List ℕ) → Inv L T →
    length T.ready + count (λ t. misses set t.state) T.threads ≤ L.threads
unfolding misses
missed_room {L} T set I = omega (
  arith,
  I.few,
  released_room L T I (λ t. misses set t.state)
      (λ t e. (asleep (by_wanted false (λ n. has n set)) (λ d. false) (λ k. false) t.state e).1),
)

-- ---- all of it

module _ {m m₁ m₂ : List ℕ} (n : ℕ) (a : Finds m m₁ (ended_set (tables m).threads n)) (b : Removes m₁ m₂ (remove (found m₁) (tables m₁)))
  where
    abbrev set : List ℕ
    set = ended_set (tables m).threads n

    removes : Leaves m m₂ (remove set (tables m))
    removes = record {
      says = b.leaves.says ∙ (ap (λ (l : List ℕ). remove l (tables m₁)) a.set ∙ ap (remove set) a.says);
      same = b.leaves.same ∙ a.same;
      holding = b.leaves.holding;
    }

    pub release_room : Inv (limits m) (tables m) →
        length (tables m₂).ready + count (λ t. misses (found m₂) t.state) (tables m₂).threads ≤ (limits m₂).threads
    release_room I = missed_room (tables m₂) (found m₂) (carried Inv removes (remove_inv set I))

    pub ended : {m₃ : List ℕ} → Leaves m₂ m₃ (release (found m₂) (tables m₂)) → Leaves m m₃ (end n (tables m))
    unfolding end
    ended c = record {
      says = c.says ∙ (ap (λ (l : List ℕ). release l (tables m₂)) (b.set ∙ a.set) ∙ ap (release set) removes.says);
      same = c.same ∙ removes.same;
      holding = c.holding;
    }
