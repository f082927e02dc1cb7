-- What the requests leave, in the words of the rules: a newcomer, an ending or a new entry, a runner that waits, a held word that is taken.
use Rattle.std.proofs.Common.{if◌then◌else◌}
use Prim.Native.Nat.{ℕ, ◌+◌, ◌≤◌, ◌<◌}
use mathlib.Core.Path.{◌≡◌, refl, sym, ap, ◌∙◌}
use mathlib.Core.Bool.{Bool, true, false, ◌||◌, not, false≢true}
use mathlib.Core.List.{List, [], ◌∷◌, ◌++◌}
use native.Mathlib.Omega.{arith}
use lib.Dec.{ltb}
use lib.ListN.{length}
use Rattle.rules.specs.Lists.{one_if, missing, pulled, any, keep, count, behind, pull, insert}
use Rattle.rules.specs.Numbers.{names}
use Rattle.rules.specs.Tables.{Tables, with_last, with_threads, with_ready, with_clock, with_held, live, of_thread, change, manager}
use Rattle.rules.specs.Tables.{new_thread}
use Rattle.rules.specs.Waking.{◌handing◌, stop}
use Rattle.rules.specs.Ending.{end}
use Rattle.rules.specs.Interrupt.{held_for}
use Rattle.rules.specs.Requests.{next_name, create, create_brother, terminate, set_over, set_manager, wait_for_clock, take_held}
use Rattle.rules.specs.Requests.{wait_for_io}
use Rattle.laws.specs.Words.{TrapKind, Ready, Clock, Device, Answer, Nothing, Result, Manager, Unset, Set, Gone, Parent, NoParent, Thread, Held}
use Rattle.laws.specs.Words.{Target}
use Rattle.laws.proofs.Single.{rest_once, rest_none}
use Rattle.laws.proofs.Names.{name_free}
use Rattle.laws.proofs.Room.{queues_room}
use Rattle.store.specs.Store.{limits, tables, Leaves, Hands, word_for}
use Rattle.handling.specs.Standing.{MidEvent, AtRest}
use Rattle.handling.proofs.Leaving.{and_then, and_hands}

-- ---- a newcomer

module _ {m : List ℕ} (p : Parent) (n : ℕ) (x : Thread) (e : n ≡ next_name (tables m)) (f : x ≡ new_thread n p Ready) where
  -- its name is no thread's
  pub newcomer_free : MidEvent m → (limits m).threads < names → live x.name (tables m) ≡ false
  newcomer_free H l =
      ap (λ (y : Thread). live y.name (tables m)) f
      ∙ ap (λ (k : ℕ). live k (tables m)) e
      ∙ name_free (limits m) (tables m) l H.inv.last H.inv.few

  pub created : {m₁ m₂ m₃ : List ℕ} → Leaves m m₁ (with_threads (insert (λ t. ltb t.name x.name) x (tables m).threads) (tables m)) →
      Leaves m₁ m₂ (with_ready ((tables m₁).ready ++ (n ∷ [])) (tables m₁)) → Leaves m₂ m₃ (with_last n (tables m₂)) →
      Hands m m₃ (Result n) (create p (tables m))
  unfolding create
  created a b c =
      and_hands
      (and_then (with_last n) (and_then (λ T. with_ready (T.ready ++ (n ∷ [])) T) a b) c)
      (ap (λ (y : Thread). with_last n
      (with_ready ((tables m).ready ++ (n ∷ [])) (with_threads (insert (λ t. ltb t.name y.name) y (tables m).threads) (tables m)))
      handing Result n) f
      ∙ ap (λ (k : ℕ). with_last k (with_ready ((tables m).ready ++ (k ∷ []))
      (with_threads (insert (λ t. ltb t.name k) (new_thread k p Ready) (tables m).threads) (tables m))) handing Result k) e)

-- it has room in the ready queue, since those who are ready are threads
pub newcomer_room : {m m₁ : List ℕ} {T : Tables} → MidEvent m → length (tables m).threads < (limits m).threads → Leaves m m₁ T →
    T.ready ≡ (tables m).ready →
    length (tables m₁).ready < (limits m₁).threads
newcomer_room {m} H l a e = rw (a.same, a.says, e) (omega (arith, queues_room (limits m) (tables m) H.inv))

-- it has the requester's parent
pub brother : {m m' : List ℕ} {a : Answer} (me : ℕ) (p : Parent) → p ≡ of_thread NoParent (λ t. t.parent) me (tables m).threads →
    Hands m m' a (create p (tables m)) → Hands m m' a (create_brother me (tables m))
brother {m} me p e h = record { says = h.says ∙ ap (λ (q : Parent). create q (tables m)) e; same = h.same; holding = h.holding }

-- ---- by cases: what is left where the target is v, and where the entry stands as v

module _ {m m' : List ℕ} {T : Tables} {a : Answer} (l : Leaves m m' T) (me : ℕ) where
  pub by_target : {w : Target} (v : Target) → w ≡ v → (T handing a) ≡ terminate me v (tables m) → Hands m m' a (terminate me w (tables m))
  by_target v e f = and_hands l (f ∙ ap (λ (x : Target). terminate me x (tables m)) (sym e))

  pub by_entry : (k : TrapKind) (n : ℕ) {g : Manager} (v : Manager) →
      g ≡ of_thread Unset (λ t. manager k t.managers) me (tables m).threads → g ≡ v →
      (T handing a) ≡ set_over v me k n (tables m) → Hands m m' a (set_manager me k n (tables m))
  by_entry k n v d e f = and_hands l (f ∙ ap (λ (x : Manager). set_over x me k n (tables m)) (sym e ∙ d))

-- an entry that is set or gone ends the requester
pub entry_ends : {m m' : List ℕ} (me : ℕ) → Leaves m m' (end me (tables m)) → (k : TrapKind) (n : ℕ) {g : Manager} →
    g ≡ of_thread Unset (λ t. manager k t.managers) me (tables m).threads → (g ≡ Unset → ⊥) →
    Hands m m' Nothing (set_manager me k n (tables m))
unfolding set_over
entry_ends {m} {m'} me l k n {g} d set = go g refl
  where
    go : (v : Manager) → g ≡ v → Hands m m' Nothing (set_manager me k n (tables m))
    go Unset e = absurd (set e)
    go (Set x) e = by_entry l me k n (Set x) d e refl
    go Gone e = by_entry l me k n Gone d e refl

-- ---- the clock

module _ {m m₁ : List ℕ} (me : ℕ) (a : Leaves m m₁ (stop me Clock (tables m))) where
  pub clock_room : length (tables m).clock < (limits m).threads → length (tables m₁).clock < (limits m₁).threads
  unfolding stop change
  clock_room l = rw (a.same, a.says) l

  pub clocked : {m₂ : List ℕ} → Leaves m₁ m₂ (with_clock ((tables m₁).clock ++ (me ∷ [])) (tables m₁)) →
      Hands m m₂ Nothing (wait_for_clock me (tables m))
  unfolding wait_for_clock stop change
  clocked b = and_hands (and_then (λ T. with_clock (T.clock ++ (me ∷ [])) T) a b) refl

-- ---- held words

module _ (d : ℕ) where
  keep_others : (hs : List Held) → count (held_for d) hs ≡ 0 → keep (λ h. not (held_for d h)) hs ≡ hs
  unfolding count keep
  keep_others [] z = refl
  keep_others (h ∷ hs) z = go (held_for d h) z (keep_others hs)
    where
      go : (b : Bool) → one_if b + count (held_for d) hs ≡ 0 → (count (held_for d) hs ≡ 0 → keep (λ x. not (held_for d x)) hs ≡ hs) →
          (if not b then h ∷ keep (λ x. not (held_for d x)) hs else keep (λ x. not (held_for d x)) hs) ≡ h ∷ hs
      go true y later = absurd (omega arith)
      go false y later = ap (λ (l : List Held). h ∷ l) (later (omega arith))

  -- the only word for a device is taken, and the others stay
  record One (hs : List Held) : Type 0 where
    it : Held
    took : pull (held_for d) hs ≡ pulled it (keep (λ h. not (held_for d h)) hs)
    word : word_for d hs ≡ it.word

  one : (hs : List Held) → count (held_for d) hs ≤ 1 → any (held_for d) hs ≡ true → One hs
  unfolding any keep pull behind word_for
  one [] c a = absurd (false≢true a)
  one (h ∷ hs) c a = go (held_for d h) refl (one hs (rest_once (held_for d) h hs c))
    where
      go : (b : Bool) → held_for d h ≡ b → (any (held_for d) hs ≡ true → One hs) → One (h ∷ hs)
      go true e later = record { it = h; took = rw e (ap (pulled h) (sym (keep_others hs (rest_none (held_for d) h hs c e)))); word = rw e }
      go false e later = let r = later (rw e at a) in record { it = r.it; took = rw e (ap (behind h) r.took); word = rw e r.word }

  none : (hs : List Held) → any (held_for d) hs ≡ false → pull (held_for d) hs ≡ missing
  unfolding any pull behind
  none [] a = refl
  none (h ∷ hs) a = go (held_for d h) a (none hs)
    where
      go : (b : Bool) → (b || any (held_for d) hs) ≡ false → (any (held_for d) hs ≡ false → pull (held_for d) hs ≡ missing) →
          (if b then pulled h hs else behind h (pull (held_for d) hs)) ≡ missing
      go true y later = absurd (false≢true (sym y))
      go false y later = ap (behind h) (later y)

module _ {m m₁ : List ℕ} (me d : ℕ) where
  pub word_taken : (w : ℕ) → AtRest m → any (held_for d) (tables m).held ≡ true → w ≡ word_for d (tables m).held →
      Leaves m m₁ (with_held (keep (λ h. not (held_for d h)) (tables m).held) (tables m)) →
      Hands m m₁ (Result w) (wait_for_io me d (tables m))
  unfolding take_held
  word_taken w S h e a =
      let r = one d (tables m).held (omega (arith, S.ruled.fits.waiters d)) h in
      and_hands a
      (ap (λ (k : ℕ). with_held (keep (λ h. not (held_for d h)) (tables m).held) (tables m) handing Result k) (e ∙ r.word)
      ∙ ap (take_held me d (tables m)) (sym r.took))

  pub word_missing : any (held_for d) (tables m).held ≡ false → Leaves m m₁ (stop me (Device d) (tables m)) →
      Hands m m₁ Nothing (wait_for_io me d (tables m))
  unfolding take_held
  word_missing h a = and_hands a (ap (take_held me d (tables m)) (sym (none d (tables m).held h)))
