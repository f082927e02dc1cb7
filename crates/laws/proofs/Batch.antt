-- A batch of events in one call: how the bytes are cut into complete fields and the unread end, when a batch is refused, that it equals
-- single calls in order, and that two batches in a row equal one.
use Rattle.std.proofs.Common.{◌==◌}
use Prim.Native.Nat.{ℕ, zero, suc, ◌+◌, ◌*◌, ◌-◌, ◌≤◌, ◌<◌}
use mathlib.Core.Path.{◌≡◌, refl, sym, ap, ap₂, ◌∙◌, subst}
use mathlib.Core.Bool.{Bool, true, false, false≢true}
use mathlib.Core.List.{List, [], ◌∷◌, ◌++◌, append_assoc}
use mathlib.Core.Logic.{◌↔◌, ◌≢◌, ◌⊎◌, inl, inr}
use native.Mathlib.Omega.{arith}
use lib.Dec.{ltb}
use lib.ListN.{length, take, drop, length-append, length-drop, take-append-drop}
use lib.Seq.{take-append-le, drop-append-le, length-take-le, take-append_seam, drop-append_seam}
use borrow.Author.Tests.{leb-true, le-leb, lt-ltb, le-ltb, ltb-true, ltb-false, eq-eqb, eqb-true}
use Rattle.rules.specs.Lists.{all, each}
use Rattle.rules.specs.Numbers.{decision_numbers}
use Rattle.laws.specs.Words.{Limits}
use Rattle.rules.specs.Tables.{Tables}
use Rattle.rules.specs.Step.{step}
use Rattle.rules.specs.Runs.{Input, run, line, decisions}
use Rattle.rules.specs.Fields.{field_size, whole}
use Rattle.rules.specs.declared.Decision.{Decision}
use Rattle.rules.specs.Batch.{complete_in, unread_in, complete, unread, numbers, Taken, taken, Batched, batch}
use Rattle.laws.specs.Batch.{one_field, past, joined, needed}
use Rattle.laws.proofs.Tests.{and_left, and_right, ◌&◌}
use Rattle.laws.proofs.Steps.{run_append}

-- ---- the first field

-- a complete field has its head, and lies within the bytes
pub whole_within : (l : List ℕ) → whole l ≡ true → (3 ≤ field_size l) × (field_size l ≤ length l)
unfolding field_size whole
whole_within [] w = absurd (false≢true w)
whole_within (a ∷ []) w = absurd (false≢true w)
whole_within (a ∷ b ∷ []) w = absurd (false≢true w)
whole_within (a ∷ b ∷ c ∷ l) w = (omega arith, omega arith)

-- it ends where it ends, whatever comes behind it
pub size_whole : (a more : List ℕ) → whole a ≡ true → field_size (a ++ more) ≡ field_size a
unfolding field_size whole
size_whole [] more w = absurd (false≢true w)
size_whole (a ∷ []) more w = absurd (false≢true w)
size_whole (a ∷ b ∷ []) more w = absurd (false≢true w)
size_whole (a ∷ b ∷ c ∷ l) more w = omega (arith, leb-true (b * 256 + c) (length l) w, length-append l more)

-- and is complete
pub whole_more : (a more : List ℕ) → whole a ≡ true → whole (a ++ more) ≡ true
unfolding whole
whole_more [] more w = absurd (false≢true w)
whole_more (a ∷ []) more w = absurd (false≢true w)
whole_more (a ∷ b ∷ []) more w = absurd (false≢true w)
whole_more (a ∷ b ∷ c ∷ l) more w =
    le-leb (b * 256 + c) (length (l ++ more)) (omega (arith, leb-true (b * 256 + c) (length l) w, length-append l more))

-- the first field, cut off the bytes
pub first_is_one : (l : List ℕ) → whole l ≡ true → one_field (take (field_size l) l) ≡ true
unfolding field_size whole
first_is_one [] w = absurd (false≢true w)
first_is_one (a ∷ []) w = absurd (false≢true w)
first_is_one (a ∷ b ∷ []) w = absurd (false≢true w)
first_is_one (a ∷ b ∷ c ∷ l) w =
    let n = b * 256 + c in
    let h : n ≤ length l = leb-true n (length l) w in
    let k : length (take n l) ≡ n = length-take-le n l h in
    let e : field_size (a ∷ b ∷ c ∷ l) ≡ suc (suc (suc n)) = omega arith in
    let f = a ∷ b ∷ c ∷ take n l in
    subst (λ (j : ℕ). one_field (take j (a ∷ b ∷ c ∷ l)) ≡ true) (sym e)
    (le-leb n (length (take n l)) (omega (arith, k)) & eq-eqb (field_size f) (length f) (omega (arith, k)))

-- ---- fields one behind the other: the bounds of `complete_in` and `unread_in` count no field away

shorter : (l : List ℕ) (k : ℕ) → whole l ≡ true → length l ≤ suc k → length (past l) ≤ k
shorter l k w h = let s = whole_within l w in omega (arith, s.0, s.1, length-drop (field_size l) l)

no_head : (l : List ℕ) → length l ≤ 0 → whole l ≡ false
unfolding whole
no_head [] h = refl
no_head (a ∷ l) h = absurd (omega arith)

-- To show something of all bytes: of those that open with no complete field, and of those that do, if it holds of what is behind it.
pub by_fields : (P : List ℕ → Type 0) → ((l : List ℕ) → whole l ≡ false → P l) → ((l : List ℕ) → whole l ≡ true → P (past l) → P l) →
    (l : List ℕ) → P l
by_fields P none one l = go (length l) l (omega arith)
  where
    on : (l : List ℕ) (b : Bool) → whole l ≡ b → (whole l ≡ true → P (past l)) → P l
    on l false w next = none l w
    on l true w next = one l w (next w)

    go : (k : ℕ) (l : List ℕ) → length l ≤ k → P l
    go zero l h = on l (whole l) refl (λ w. absurd (let s = whole_within l w in omega (arith, s.0, s.1)))
    go (suc k) l h = on l (whole l) refl (λ w. go k (past l) (shorter l k w h))

enough : (j k : ℕ) (l : List ℕ) → length l ≤ j → length l ≤ k → (complete_in j l ≡ complete_in k l) × (unread_in j l ≡ unread_in k l)
unfolding complete_in unread_in
enough zero zero l h g = (refl, refl)
enough zero (suc k) l h g = rw (no_head l (omega arith)) (refl, refl)
enough (suc j) zero l h g = rw (no_head l (omega arith)) (refl, refl)
enough (suc j) (suc k) l h g = on (whole l) refl (λ w. enough j k (past l) (shorter l j w h) (shorter l k w g))
  where
    on : (b : Bool) → whole l ≡ b →
        (whole l ≡ true → (complete_in j (past l) ≡ complete_in k (past l)) × (unread_in j (past l) ≡ unread_in k (past l)))
        → (complete_in (suc j) l ≡ complete_in (suc k) l) × (unread_in (suc j) l ≡ unread_in (suc k) l)
    on false w next = rw w (refl, refl)
    on true w next = rw w (ap (λ (t : Input). take (field_size l) l ∷ t) (next w).0, (next w).1)

-- bytes that open with no complete field: none is run, and all of them are left
pub complete_none : (l : List ℕ) → whole l ≡ false → (complete l ≡ []) × (unread l ≡ l)
unfolding complete_in unread_in
complete_none [] w = (refl, refl)
complete_none (a ∷ l) w = rw w (refl, refl)

-- bytes that open with one: it is run, and then what is behind it
pub complete_first : (l : List ℕ) → whole l ≡ true → (complete l ≡ take (field_size l) l ∷ complete (past l)) × (unread l ≡ unread (past l))
unfolding complete_in unread_in
complete_first [] w = absurd (let s = whole_within [] w in omega (arith, s.0, s.1))
complete_first (a ∷ l) w =
    let e = enough (length l) (length (past (a ∷ l))) (past (a ∷ l)) (shorter (a ∷ l) (length l) w (omega arith)) (omega arith) in
    rw w (ap (λ (t : Input). take (field_size (a ∷ l)) (a ∷ l) ∷ t) e.0, e.1)

-- ---- the cut: complete fields, and an end that opens with none

-- Nothing is lost and nothing is added: the fields and the unread end are the bytes.
pub nothing_is_lost : (l : List ℕ) → joined (complete l) ++ unread l ≡ l
unfolding each
nothing_is_lost = by_fields (λ l. joined (complete l) ++ unread l ≡ l) none one
  where
    none : (l : List ℕ) → whole l ≡ false → joined (complete l) ++ unread l ≡ l
    none l w = let e = complete_none l w in ap₂ (λ (fs : Input) (r : List ℕ). joined fs ++ r) e.0 e.1

    one : (l : List ℕ) → whole l ≡ true → joined (complete (past l)) ++ unread (past l) ≡ past l → joined (complete l) ++ unread l ≡ l
    one l w h =
        let e = complete_first l w in
        let f = take (field_size l) l in
        ap₂ (λ (fs : Input) (r : List ℕ). joined fs ++ r) e.0 e.1
        ∙ (append_assoc f (joined (complete (past l))) (unread (past l))
        ∙ (ap (λ (t : List ℕ). f ++ t) h ∙ take-append-drop (field_size l) l))

-- Each event that is run is exactly one complete field.
pub each_is_complete : (l : List ℕ) → all one_field (complete l) ≡ true
unfolding all
each_is_complete = by_fields (λ l. all one_field (complete l) ≡ true) none one
  where
    none : (l : List ℕ) → whole l ≡ false → all one_field (complete l) ≡ true
    none l w = ap (all one_field) (complete_none l w).0

    one : (l : List ℕ) → whole l ≡ true → all one_field (complete (past l)) ≡ true → all one_field (complete l) ≡ true
    one l w h = ap (all one_field) (complete_first l w).0 ∙ (first_is_one l w & h)

-- The unread end opens with no complete field: it is empty, or a field that is cut short.
pub unread_is_cut : (l : List ℕ) → whole (unread l) ≡ false
unread_is_cut =
    by_fields (λ l. whole (unread l) ≡ false) (λ l w. ap whole (complete_none l w).1 ∙ w) (λ l w h. ap whole (complete_first l w).1 ∙ h)

-- No other cut is like that: complete fields and an end that opens with none are the fields that are run and the unread end.
pub cut_is_the_only_one : (fs : Input) (r : List ℕ) → all one_field fs ≡ true → whole r ≡ false
    → (complete (joined fs ++ r) ≡ fs) × (unread (joined fs ++ r) ≡ r)
unfolding all each
cut_is_the_only_one [] r o w = complete_none r w
cut_is_the_only_one (f ∷ fs) r o w =
    let here = and_left (one_field f) (all one_field fs) o in
    let is = and_left (whole f) (field_size f == length f) here in
    let long : field_size f ≡ length f = eqb-true (field_size f) (length f) (and_right (whole f) (field_size f == length f) here) in
    let rest = joined fs ++ r in
    let size : field_size (f ++ rest) ≡ length f = size_whole f rest is ∙ long in
    let next = cut_is_the_only_one fs r (and_right (one_field f) (all one_field fs) o) w in
    let e = complete_first (f ++ rest) (whole_more f rest is) in
    let front : take (field_size (f ++ rest)) (f ++ rest) ≡ f = ap (λ (n : ℕ). take n (f ++ rest)) size ∙ take-append_seam f rest in
    let behind : past (f ++ rest) ≡ rest = ap (λ (n : ℕ). drop n (f ++ rest)) size ∙ drop-append_seam f rest in
    let all_of_it : joined (f ∷ fs) ++ r ≡ f ++ rest = append_assoc f (joined fs) r in (
      ap complete all_of_it ∙ (e.0 ∙ ap₂ (λ (x : List ℕ) (xs : Input). x ∷ xs) front (ap complete behind ∙ next.0)),
      ap unread all_of_it ∙ (e.1 ∙ (ap unread behind ∙ next.1)),
    )

-- More bytes come behind: the fields that were complete, and then those of the unread end with what came.
pub more_comes : (b a : List ℕ) → (complete (a ++ b) ≡ complete a ++ complete (unread a ++ b)) × (unread (a ++ b) ≡ unread (unread a ++ b))
more_comes b = by_fields Goes none one
  where
    Goes : List ℕ → Type 0
    Goes a = (complete (a ++ b) ≡ complete a ++ complete (unread a ++ b)) × (unread (a ++ b) ≡ unread (unread a ++ b))

    none : (a : List ℕ) → whole a ≡ false → Goes a
    none a w =
        let e = complete_none a w in (
          sym (ap₂ (λ (fs : Input) (r : List ℕ). fs ++ complete (r ++ b)) e.0 e.1),
          sym (ap (λ (r : List ℕ). unread (r ++ b)) e.1),
        )

    one : (a : List ℕ) → whole a ≡ true → Goes (past a) → Goes a
    one a w h =
        let s = whole_within a w in
        let same = size_whole a b w in
        let e = complete_first a w in
        let g = complete_first (a ++ b) (whole_more a b w) in
        let front : take (field_size (a ++ b)) (a ++ b) ≡ take (field_size a) a =
        ap (λ (n : ℕ). take n (a ++ b)) same ∙ take-append-le (field_size a) a b s.1 in
        let behind : past (a ++ b) ≡ past a ++ b = ap (λ (n : ℕ). drop n (a ++ b)) same ∙ drop-append-le (field_size a) a b s.1 in (
          g.0 ∙ (ap₂ (λ (x : List ℕ) (xs : Input). x ∷ xs) front (ap complete behind ∙ h.0)
              ∙ sym (ap₂ (λ (fs : Input) (r : List ℕ). fs ++ complete (r ++ b)) e.0 e.1)),
          g.1 ∙ (ap unread behind ∙ (h.1 ∙ sym (ap (λ (r : List ℕ). unread (r ++ b)) e.1))),
        )

-- ---- decisions in order, and as numbers

module _ (L : Limits) where
  -- some events and then others: the others are decided on the tables that the first left
  pub decisions_append : (T : Tables) (es fs : Input) → decisions L T (es ++ fs) ≡ decisions L T es ++ decisions L (run L T es) fs
  unfolding decisions run
  decisions_append T [] fs = refl
  decisions_append T (e ∷ es) fs = ap (λ (ds : List Decision). (step L T e).decision ∷ ds) (decisions_append (step L T e).tables es fs)

  -- one decision for each event
  pub decisions_count : (T : Tables) (es : Input) → length (decisions L T es) ≡ length es
  unfolding decisions
  decisions_count T [] = refl
  decisions_count T (e ∷ es) = ap suc (decisions_count (step L T e).tables es)

pub numbers_append : (ds es : List Decision) → numbers (ds ++ es) ≡ numbers ds ++ numbers es
unfolding numbers each
numbers_append [] es = refl
numbers_append (d ∷ ds) es = ap (λ (t : List ℕ). line d ++ t) (numbers_append ds es) ∙ sym (append_assoc (line d) (numbers ds) (numbers es))

-- "six per event"
pub line_count : (d : Decision) → length (line d) ≡ decision_numbers
unfolding line
line_count d = refl

pub numbers_count : (ds : List Decision) → length (numbers ds) ≡ decision_numbers * length ds
unfolding numbers each
numbers_count [] = refl
numbers_count (d ∷ ds) = omega (arith, length-append (line d) (numbers ds), line_count d, numbers_count ds)

-- ---- the refusal

module _ (room : ℕ) (bytes : List ℕ) where
  pub taken_refused : room < needed bytes → taken room bytes ≡ record { refusal = 14; events = []; unread = bytes }
  unfolding taken
  taken_refused h = rw (lt-ltb room (needed bytes) h)

  pub taken_whole : needed bytes ≤ room → taken room bytes ≡ record { refusal = 0; events = complete bytes; unread = unread bytes }
  unfolding taken
  taken_whole h = rw (le-ltb room (needed bytes) h)

-- 14 exactly when the buffer holds fewer than six numbers per complete field, and 0 otherwise
pub refused_14 : (room : ℕ) (bytes : List ℕ) → ((taken room bytes).refusal ≡ 14) ↔ (room < needed bytes)
refused_14 room bytes = (to, λ h. ap (λ (t : Taken). t.refusal) (taken_refused room bytes h))
  where
    on : (b : Bool) → ltb room (needed bytes) ≡ b → (taken room bytes).refusal ≡ 14 → room < needed bytes
    on true h e = ltb-true room (needed bytes) h
    on false h e =
        let z : (taken room bytes).refusal ≡ 0 = ap (λ (t : Taken). t.refusal) (taken_whole room bytes (ltb-false room (needed bytes) h)) in
        absurd (omega (arith, e, z))

    to : (taken room bytes).refusal ≡ 14 → room < needed bytes
    to e = on (ltb room (needed bytes)) refl e

-- By whether there is room: what holds of a batch that is refused and of one that is taken.
pub by_room : (P : Taken → Type 0) (room : ℕ) (bytes : List ℕ)
    → (room < needed bytes → P (record { refusal = 14; events = []; unread = bytes }))
    → (needed bytes ≤ room → P (record { refusal = 0; events = complete bytes; unread = unread bytes })) → P (taken room bytes)
by_room P room bytes f g = on (ltb room (needed bytes)) refl
  where
    on : (b : Bool) → ltb room (needed bytes) ≡ b → P (taken room bytes)
    on true h = let k = ltb-true room (needed bytes) h in subst P (sym (taken_refused room bytes k)) (f k)
    on false h = let k = ltb-false room (needed bytes) h in subst P (sym (taken_whole room bytes k)) (g k)

-- ---- the batch

module _ (L : Limits) (T : Tables) (room : ℕ) (bytes : List ℕ) where
  -- "Refusals: 14": there is no other
  pub refusal_is_0_or_14 : ((batch L T room bytes).refusal ≡ 0) ⊎ ((batch L T room bytes).refusal ≡ 14)
  unfolding batch
  refusal_is_0_or_14 = by_room (λ t. (t.refusal ≡ 0) ⊎ (t.refusal ≡ 14)) room bytes (λ h. inr refl) (λ h. inl refl)

  -- "nothing is run then"; "a refused batch hands back all its bytes"
  pub refused_runs_nothing : (batch L T room bytes).refusal ≢ 0
      → ((batch L T room bytes).tables ≡ T) × ((batch L T room bytes).decisions ≡ []) × ((batch L T room bytes).unread ≡ bytes)
  unfolding batch run decisions
  refused_runs_nothing =
      by_room (λ t. t.refusal ≢ 0 → (run L T t.events ≡ T) × (decisions L T t.events ≡ []) × (t.unread ≡ bytes)) room bytes
      (λ h n. (refl, refl, refl)) (λ h n. absurd (n refl))

  -- The decisions have room in the buffer.
  pub decisions_fit : length (numbers (batch L T room bytes).decisions) ≤ room
  unfolding batch decisions
  decisions_fit = by_room (λ t. length (numbers (decisions L T t.events)) ≤ room) room bytes
      (λ h. omega (arith, numbers_count []))
      (λ h. omega (arith, numbers_count (decisions L T (complete bytes)), decisions_count L T (complete bytes)))

  -- "The result equals single calls in order, refused and malformed events included": each complete field, wherever it stands among them,
  -- has the decision of a single call on the tables that the calls before it left; and the last call leaves the tables of the batch.
  pub equals_single_calls : (batch L T room bytes).refusal ≡ 0 → (es fs : Input) (e : List ℕ) → complete bytes ≡ es ++ (e ∷ fs) →
      ((batch L T room bytes).decisions ≡ decisions L T es
      ++ ((step L (run L T es) e).decision ∷ decisions L (step L (run L T es) e).tables fs))
      × ((batch L T room bytes).tables ≡ run L (step L (run L T es) e).tables fs)
  unfolding batch
  equals_single_calls = by_room
      (λ t. t.refusal ≡ 0 → (es fs : Input) (e : List ℕ) → complete bytes ≡ es ++ (e ∷ fs) →
      (decisions L T t.events ≡ decisions L T es ++ ((step L (run L T es) e).decision ∷ decisions L (step L (run L T es) e).tables fs))
      × (run L T t.events ≡ run L (step L (run L T es) e).tables fs))
      room bytes
      (λ h z. absurd (omega arith))
      (λ h z es fs e c. (
        ap (decisions L T) c ∙ (decisions_append L T es (e ∷ fs) ∙ first_decision es fs e),
        ap (run L T) c ∙ (run_append L T es (e ∷ fs) ∙ first_run es fs e),
      ))
    where
      first_decision : (es fs : Input) (e : List ℕ) →
          decisions L T es ++ decisions L (run L T es) (e ∷ fs) ≡ decisions L T es
          ++ ((step L (run L T es) e).decision ∷ decisions L (step L (run L T es) e).tables fs)
      first_decision es fs e = unfold decisions in refl

      first_run : (es fs : Input) (e : List ℕ) → run L (run L T es) (e ∷ fs) ≡ run L (step L (run L T es) e).tables fs
      first_run es fs e = unfold run in refl

-- ---- two batches in a row: a is handed over, and then its unread end with b behind it, with what is left of the buffer

module _ (room : ℕ) (a b : List ℕ) where
  all_needed : needed (a ++ b) ≡ needed a + needed (unread a ++ b)
  all_needed = omega (arith, ap length (more_comes b a).0, length-append (complete a) (complete (unread a ++ b)))

  -- what the first takes, what the second takes of the rest, and what one takes of all the bytes
  abbrev first_taken : Taken
  first_taken = taken room a

  abbrev then_taken : Taken
  then_taken = taken (room - needed a) (first_taken.unread ++ b)

  abbrev one_taken : Taken
  one_taken = taken room (a ++ b)

  -- Where the first is refused, the one is refused too.
  pub refused_at_once : first_taken.refusal ≡ 14 → one_taken.refusal ≡ 14
  refused_at_once e = (refused_14 room (a ++ b)).1 (omega (arith, (refused_14 room a).0 e, all_needed))

  -- Where it is taken, the two equal the one: in the refusal, and, where that is 0, in events and unread end.
  pub taken_twice : first_taken.refusal ≡ 0 →
      (then_taken.refusal ≡ one_taken.refusal)
      × (one_taken.refusal ≡ 0 → (first_taken.events ++ then_taken.events ≡ one_taken.events)
      × (then_taken.unread ≡ one_taken.unread))
  taken_twice z = (same_refusal, λ e. on (enough_for_one e))
    where
      fits : needed a ≤ room
      fits = by_room (λ t. t.refusal ≡ 0 → needed a ≤ room) room a (λ h k. absurd (omega arith)) (λ h k. h) z

      was : first_taken ≡ record { refusal = 0; events = complete a; unread = unread a }
      was = taken_whole room a fits

      then_is : then_taken ≡ taken (room - needed a) (unread a ++ b)
      then_is = ap (λ (t : Taken). taken (room - needed a) (t.unread ++ b)) was

      same_refusal : then_taken.refusal ≡ one_taken.refusal
      same_refusal =
          ap (λ (t : Taken). t.refusal) then_is
          ∙ by_room (λ t. t.refusal ≡ one_taken.refusal) (room - needed a) (unread a ++ b)
          (λ h. sym (ap (λ (t : Taken). t.refusal) (taken_refused room (a ++ b) (omega (arith, all_needed, fits)))))
          (λ h. sym (ap (λ (t : Taken). t.refusal) (taken_whole room (a ++ b) (omega (arith, all_needed, fits)))))

      enough_for_one : one_taken.refusal ≡ 0 → needed (a ++ b) ≤ room
      enough_for_one e = by_room (λ t. t.refusal ≡ 0 → needed (a ++ b) ≤ room) room (a ++ b) (λ h k. absurd (omega arith)) (λ h k. h) e

      on : needed (a ++ b) ≤ room → (first_taken.events ++ then_taken.events ≡ one_taken.events)
          × (then_taken.unread ≡ one_taken.unread)
      on h =
          let all_of_it = taken_whole room (a ++ b) h in
          let next = then_is ∙ taken_whole (room - needed a) (unread a ++ b) (omega (arith, all_needed, fits)) in (
            ap₂ (λ (t u : Taken). t.events ++ u.events) was next
                ∙ (sym (more_comes b a).0 ∙ sym (ap (λ (t : Taken). t.events) all_of_it)),
            ap (λ (t : Taken). t.unread) next ∙ (sym (more_comes b a).1 ∙ sym (ap (λ (t : Taken). t.unread) all_of_it)),
          )

  -- The first leaves the numbers of its decisions less.
  pub room_left : first_taken.refusal ≡ 0 → needed a ≡ decision_numbers * length first_taken.events
  room_left =
      by_room (λ t. t.refusal ≡ 0 → needed a ≡ decision_numbers * length t.events) room a (λ h k. absurd (omega arith)) (λ h k. refl)

module _ (L : Limits) (T : Tables) (room : ℕ) (a b : List ℕ) where
  abbrev first : Batched
  first = batch L T room a

  abbrev second : Batched
  second = batch L first.tables (room - length (numbers first.decisions)) (first.unread ++ b)

  abbrev one : Batched
  one = batch L T room (a ++ b)

  -- The same of the whole batch: in decisions, tables and unread end.
  pub two_equal_one : first.refusal ≡ 0 →
      (second.refusal ≡ one.refusal)
      × (one.refusal ≡ 0 → (first.decisions ++ second.decisions ≡ one.decisions) × (second.tables ≡ one.tables)
      × (second.unread ≡ one.unread))
  unfolding batch
  two_equal_one z = (
    ap (λ (t : Taken). t.refusal) same ∙ twice.0,
    λ e. (
      ap (λ (t : Taken). decisions L T es ++ decisions L (run L T es) t.events) same
          ∙ (sym (decisions_append L T es fs) ∙ ap (decisions L T) (twice.1 e).0),
      ap (λ (t : Taken). run L (run L T es) t.events) same ∙ (sym (run_append L T es fs) ∙ ap (run L T) (twice.1 e).0),
      ap (λ (t : Taken). t.unread) same ∙ (twice.1 e).1,
    ),
  )
    where
      es : Input
      es = (taken room a).events

      fs : Input
      fs = (taken (room - needed a) ((taken room a).unread ++ b)).events

      twice : ((taken (room - needed a) ((taken room a).unread ++ b)).refusal ≡ one.refusal)
          × (one.refusal ≡ 0 → (es ++ fs ≡ (taken room (a ++ b)).events)
          × ((taken (room - needed a) ((taken room a).unread ++ b)).unread ≡ one.unread))
      twice = taken_twice room a b z

      less : length (numbers first.decisions) ≡ needed a
      less = omega (arith, numbers_count (decisions L T es), decisions_count L T es, room_left room a b z)

      same : taken (room - length (numbers first.decisions)) (first.unread ++ b) ≡ taken (room - needed a) (first.unread ++ b)
      same = ap (λ (n : ℕ). taken (room - n) (first.unread ++ b)) less
