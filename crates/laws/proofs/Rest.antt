-- A name rests before it returns: between two givings of one name at least 253 − (threads − 1) threads of other names are created.
-- Names are tried one after the other, each once a round, and one is passed over only if a thread has it. A thread whose name was not given
-- since the round began was there when it began. So of the 253 other names at most threads − 1 are passed over.
use Prim.Native.Nat.{ℕ, zero, suc, ◌+◌, ◌-◌, ◌%◌, ◌≤◌, ◌<◌}
use mathlib.Core.Path.{◌≡◌, refl, sym, ap, ◌∙◌}
use mathlib.Core.Logic.{⊎_elim, ◌≢◌}
use mathlib.Core.Bool.{Bool, true, false, ◌||◌, not}
use mathlib.Core.List.{List, [], ◌∷◌, ◌++◌}
use native.Mathlib.Omega.{arith}
use lib.Dec.{ltb}
use lib.ListN.{length}
use borrow.Author.Tests.{eqb-true, ne_eqb, ltb-true, ltb-false}
use Rattle.rules.specs.Lists.{one_if, any, count, from_on}
use Rattle.rules.specs.Numbers.{small, names}
use Rattle.laws.specs.Words.{Limits}
use Rattle.rules.specs.Tables.{Tables, named, live, start}
use Rattle.rules.specs.Requests.{next_name}
use Rattle.rules.specs.Step.{step}
use Rattle.rules.specs.Runs.{Input, run}
use Rattle.rules.specs.TableRules.{table_rules}
use Rattle.laws.specs.Words.{Thread}
use Rattle.laws.specs.Rest.{Twice, others, rest, big}
use Rattle.laws.specs.Types.{Ruled}
use Rattle.laws.specs.Givings.{given_by, givings, Begun, by_a_start, by_a_dump}
use Rattle.laws.proofs.Tally.{count_append, count_zero, count_le_add}
use Rattle.laws.proofs.Members.{from_on_parts}
use Rattle.laws.proofs.Names.{name_low, name_is_first_free}
use Rattle.laws.proofs.Sound.{tested_ruled}
use Rattle.laws.proofs.Kept.{start_ruled, step_ruled, run_ruled, rules_hold_at_the_start}
use Rattle.laws.proofs.Dump.{load_is_dump}
use Rattle.laws.proofs.Comings.{creation_brings, created_last}
use Rattle.laws.proofs.Givings.{Brings, nobody, somebody, brings, gives_it, given_at}

-- ---- numbers from a on that pass a test

pub all_pass : (p : ℕ → Bool) (a k : ℕ) → ((i : ℕ) → a ≤ i → i < a + k → p i ≡ true) → count p (from_on a k) ≡ k
unfolding from_on count
all_pass p a zero h = refl
all_pass p a (suc k) h =
    omega (arith, ap one_if (h a (omega arith) (omega arith)), all_pass p (suc a) k (λ i l m. h i (omega arith) (omega arith)))

-- where one at most passes
one_passes : (p : ℕ → Bool) (a k : ℕ) → ((i j : ℕ) → a ≤ i → i < j → j < a + k → p i ≡ true → p j ≡ true → ⊥) → count p (from_on a k) ≤ 1
unfolding from_on count
one_passes p a zero h = omega arith
one_passes p a (suc k) h = go (p a) refl (one_passes p (suc a) k (λ i j l m n. h i j (omega arith) m (omega arith)))
  where
    only : p a ≡ true → (i c : ℕ) → a < i → i + c ≡ suc (a + k) → count p (from_on i c) ≡ 0
    only e i zero l m = refl
    only e i (suc c) l m = omega (arith, ap one_if (not_it (p i) refl), only e (suc i) c (omega arith) (omega arith))
      where
        not_it : (b : Bool) → p i ≡ b → p i ≡ false
        not_it true f = absurd (h a i (omega arith) l (omega arith) e f)
        not_it false f = f

    go : (b : Bool) → p a ≡ b → count p (from_on (suc a) k) ≤ 1 → one_if b + count p (from_on (suc a) k) ≤ 1
    go true e later = omega (arith, only e (suc a) k (omega arith) (omega arith))
    go false e later = omega arith

in_parts : (p : ℕ → Bool) (a k l : ℕ) → count p (from_on a (k + l)) ≡ count p (from_on a k) + count p (from_on (a + k) l)
in_parts p a k l = ap (count p) (from_on_parts a k l) ∙ count_append p (from_on a k) (from_on (a + k) l)

-- ---- the names behind n

-- the name i steps behind n
abbrev after : ℕ → ℕ → ℕ
after n i = (n + i) % names

-- how many of the k names from a steps behind n on some thread has
unfoldable had : ℕ → List Thread → ℕ → ℕ → ℕ
had n ts a k = count (λ i. any (named (after n i)) ts) (from_on a k)

-- the first of them, and those behind it
had_first : (n k : ℕ) (ts : List Thread) → had n ts 0 (suc k) ≡ one_if (any (named (after n 0)) ts) + had n ts 1 k
unfolding had from_on count
had_first n k ts = refl

-- each thread has one name
had_few : (n a k : ℕ) (ts : List Thread) → a + k ≤ names → had n ts a k ≤ length ts
unfolding had any
had_few n a k [] l = omega (arith, count_zero (λ (i : ℕ). false) (from_on a k) (λ i. refl))
had_few n a k (t ∷ ts) l =
    omega (
      arith,
      had_few n a k ts l,
      count_le_add (λ i. named (after n i) t || any (named (after n i)) ts) (λ i. named (after n i) t) (λ i. any (named (after n i)) ts)
          (from_on a k) (λ i. either (named (after n i) t) (any (named (after n i)) ts)),
      one_passes (λ i. named (after n i) t) a k
          (λ i j x y z e f. absurd (omega (arith, eqb-true (after n i) t.name e, eqb-true (after n j) t.name f))),
    )
  where
    either : (b c : Bool) → one_if (b || c) ≤ one_if b + one_if c
    either true c = omega arith
    either false c = omega arith

-- ---- a round, from the giving of n in tables U on

-- k names have been given since, none of them n, and the last of them is `steps` names behind n. The names passed over so far were had in
-- U; and so was each of those still to come in this round that a thread has.
record Round (n : ℕ) (U : Tables) (k : ℕ) (T : Tables) : Type 0 where
  steps : ℕ
  below : steps < names
  last : T.last ≡ after n steps
  passed : steps ≤ k + had n U.threads 1 steps
  old : (i : ℕ) → steps < i → i < names → live (after n i) T ≡ true → live (after n i) U ≡ true

-- the round begins with the giving
begins : (n : ℕ) (U : Tables) → n < names → U.last ≡ n → Round n U 0 U
begins n U l e = record { steps = 0; below = omega arith; last = e ∙ omega arith; passed = omega arith; old = λ i a b h. h }

-- what an event does to a round: it gives nothing; it gives another name of this round; or the round is over, and every other name has been
-- given or was had in U
data Onward (L : Limits) (n : ℕ) (U : Tables) (k : ℕ) (T : Tables) (bytes : List ℕ) : Type 0 where
  same : given_by L T bytes ≡ [] → Round n U k (step L T bytes).tables → Onward L n U k T bytes
  next : (m : ℕ) → given_by L T bytes ≡ m ∷ [] → n ≢ m → Round n U (k + 1) (step L T bytes).tables → Onward L n U k T bytes
  over : (m : ℕ) → given_by L T bytes ≡ m ∷ [] → names - 1 ≤ k + had n U.threads 1 (names - 1) → Onward L n U k T bytes

module _ (L : Limits) (few : L.threads < names) (n : ℕ) (low : n < names) (U : Tables) where
  -- c names behind the name given last that threads have: with these too, each name gone through has been given or was had in U
  passed_over : (k : ℕ) (T : Tables) (R : Round n U k T) (c : ℕ) → R.steps + c < names →
      ((j : ℕ) → 1 ≤ j → j ≤ c → live (after T.last j) T ≡ true) → R.steps + c ≤ k + had n U.threads 1 (R.steps + c)
  unfolding had
  passed_over k T R c l h =
      omega (
        arith,
        R.passed,
        in_parts (λ i. live (after n i) U) 1 R.steps c,
        all_pass (λ i. live (after n i) U) (1 + R.steps) c
            (λ i a b. R.old i (omega arith) (omega arith) (ap (λ (x : ℕ). live x T) (behind i a)
            ∙ h (i - R.steps) (omega arith) (omega arith))),
      )
    where
      behind : (i : ℕ) → 1 + R.steps ≤ i → after n i ≡ after T.last (i - R.steps)
      behind i a = omega (arith, R.last)

  -- the further one goes, the more are had
  further : (a b : ℕ) → a ≤ b → had n U.threads 1 a ≤ had n U.threads 1 b
  unfolding had
  further a b l =
      let q : a + (b - a) ≡ b = omega arith in
      let e = in_parts (λ i. live (after n i) U) 1 a (b - a) in
      omega (arith, rw q at e)

  onward : (k : ℕ) (T : Tables) (bytes : List ℕ) → Ruled L T → Round n U k T → Onward L n U k T bytes
  onward k T bytes G R = go (brings L T bytes)
    where
      go : Brings L T bytes → Onward L n U k T bytes
      go (nobody e N) = same e (record {
        steps = R.steps;
        below = R.below;
        last = N.last ∙ R.last;
        passed = R.passed;
        old = λ i a b h. R.old i a b (N.before (after n i) h);
      })
      go (somebody e parent made) =
          let f = name_is_first_free T G.inv.last (omega (arith, G.inv.few)) in
          by_steps f.0 f.1 f.2 f.4 (ltb (R.steps + f.0) names) refl
        where
          by_steps : (s : ℕ) → 1 ≤ s → next_name T ≡ after T.last s → ((j : ℕ) → 1 ≤ j → j < s → live (after T.last j) T ≡ true) →
              (b : Bool) → ltb (R.steps + s) names ≡ b → Onward L n U k T bytes
          by_steps s some g p true l =
              let h = ltb-true (R.steps + s) names l in
              let at : next_name T ≡ after n (R.steps + s) = omega (arith, R.last) in
              next (next_name T) e (λ i. omega arith) (record {
                steps = R.steps + s;
                below = h;
                last = ap (λ (X : Tables). X.last) made ∙ created_last parent T ∙ at;
                passed = omega (
                  arith,
                  passed_over k T R (s - 1) (omega arith) (λ j a b. p j a (omega arith)),
                  further (R.steps + (s - 1))
                      (R.steps + s) (omega arith),
                );
                old = λ i a b x. ⊎_elim (λ y. absurd (omega arith)) (λ y. R.old i (omega arith) b y)
                    (creation_brings parent T (after n i) (ap (live (after n i)) (sym made) ∙ x));
              })
          by_steps s some g p false l =
              let h = ltb-false (R.steps + s) names l in
              let q : R.steps + (names - 1 - R.steps) ≡ names - 1 = omega (arith, R.below) in
              over (next_name T) e
              (rw q at (passed_over k T R (names - 1 - R.steps) (omega arith) (λ j a b. p j a (omega (arith, R.below)))))

  -- until n is given again every other name is given or was had in U
  until_given : (k : ℕ) (T : Tables) (es : Input) → Ruled L T → Round n U k T → (ys zs : List ℕ) → givings L T es ≡ ys ++ (n ∷ zs) →
      names - 1 ≤ k + others n ys + had n U.threads 1 (names - 1)
  unfolding givings others count
  until_given k T [] G R [] zs i = let z : ◌≡◌ {A = ℕ} 0 1 = cc in absurd (omega arith)
  until_given k T [] G R (y ∷ ys) zs i = let z : ◌≡◌ {A = ℕ} 0 1 = cc in absurd (omega arith)
  until_given k T (e ∷ es) G R ys zs i = go (onward k T e G R) (λ j Q. until_given j U' es (step_ruled e few G) Q) ys i
    where
      U' : Tables
      U' = (step L T e).tables

      go : Onward L n U k T e →
          ((j : ℕ) → Round n U j U' → (xs ws : List ℕ) → givings L U' es ≡ xs ++ (n ∷ ws) →
          names - 1 ≤ j + others n xs + had n U.threads 1 (names - 1)) →
          (xs : List ℕ) → given_by L T e ++ givings L U' es ≡ xs ++ (n ∷ zs) →
          names - 1 ≤ k + others n xs + had n U.threads 1 (names - 1)
      go (same x Q) later xs h = later k Q xs zs (rw x at h)
      go (over m x enough) later xs h = omega (arith, enough)
      go (next m x d Q) later [] h = let r : m ∷ givings L U' es ≡ n ∷ zs = rw x at h in absurd (d (sym (let q : m ≡ n = cc in q)))
      go (next m x d Q) later (y ∷ xs) h =
          let r : m ∷ givings L U' es ≡ y ∷ (xs ++ (n ∷ zs)) = rw x at h in
          let q : m ≡ y = cc in
          let t : givings L U' es ≡ xs ++ (n ∷ zs) = cc in
          omega (arith, later (k + 1) Q xs zs t, ap (λ b. one_if (not b)) (ne_eqb n y (λ j. d (j ∙ sym q))))

  -- A name that was given last and whose thread is still there comes round after these others at least.
  given_last_rests : Ruled L U → U.last ≡ n → live n U ≡ true → (es : Input) (ys zs : List ℕ) → givings L U es ≡ ys ++ (n ∷ zs) →
      rest L ≤ others n ys
  given_last_rests G e l es ys zs i =
      omega (arith, until_given 0 U es G (begins n U low e) ys zs i, had_few n 0 names U.threads (omega arith), one_more, G.inv.few)
    where
      itself : after n 0 ≡ n
      itself = omega arith

      one_more : had n U.threads 0 names ≡ 1 + had n U.threads 1 (names - 1)
      one_more = had_first n (names - 1) U.threads
          ∙ ap (λ (b : Bool). one_if b + had n U.threads 1 (names - 1)) (ap (λ (x : ℕ). live x U) itself ∙ l)

-- ---- the laws

-- From any tables that meet the table rules: where a name is given twice, at least these others are given between.
pub given_twice_rests : (L : Limits) → L.threads < names → (T : Tables) → table_rules L T ≡ true →
    (es : Input) (n : ℕ) (t : Twice n (givings L T es)) → rest L ≤ others n t.between
given_twice_rests L l T R es n t =
    let G = given_at L T es n t.earlier (t.between ++ (n ∷ t.later)) t.among in
    let W = run L T G.before in
    let g = gives_it L W G.event n G.gives in
    given_last_rests L l n (rw g.next at (name_low W)) (step L W G.event).tables
    (step_ruled G.event l (run_ruled T G.before l (tested_ruled L T R)))
    g.last g.lives G.behind t.between t.later G.then_given

-- From a start, or from a dump that is read, for any limits under 254 threads: between two givings of one name at least
-- 253 − (threads − 1) threads of other names are created. The start's giving of 0 counts.
pub a_name_rests : (L : Limits) → 1 ≤ L.threads → L.threads < names → {T : Tables} {given : List ℕ} → Begun L T given →
    (es : Input) (n : ℕ) →
    (t : Twice n (given ++ givings L T es)) → rest L ≤ others n t.between
a_name_rests L o l (by_a_dump bytes T e) es n t = given_twice_rests L l T (load_is_dump L bytes T e).0 es n t
a_name_rests L o l by_a_start es n t = go t.earlier t.among
  where
    go : (xs : List ℕ) → 0 ∷ givings L start es ≡ xs ++ (n ∷ (t.between ++ (n ∷ t.later))) → rest L ≤ others n t.between
    go [] i =
        let z : n ≡ 0 = cc in
        let g : givings L start es ≡ t.between ++ (n ∷ t.later) = cc in
        given_last_rests L l n (omega arith) start (start_ruled L o) (sym z) (rw z (unfold any in refl)) es t.between t.later g
    go (x ∷ xs) i =
        let g : givings L start es ≡ xs ++ (n ∷ (t.between ++ (n ∷ t.later))) = cc in
        given_twice_rests L l start (rules_hold_at_the_start L o) es n
        (record { earlier = xs; between = t.between; later = t.later; among = g })

-- For small tables, 20 threads: 234.
pub a_name_rests_for_234 : {T : Tables} {given : List ℕ} → Begun small T given →
    (es : Input) (n : ℕ) (t : Twice n (given ++ givings small T es)) → 234 ≤ others n t.between
a_name_rests_for_234 = a_name_rests small (omega arith) (omega arith)

-- For 64 threads and 128 blocks: 190.
pub a_name_of_64_rests_for_190 : {T : Tables} {given : List ℕ} → Begun big T given →
    (es : Input) (n : ℕ) (t : Twice n (given ++ givings big T es)) → 190 ≤ others n t.between
a_name_of_64_rests_for_190 = a_name_rests big (omega arith) (omega arith)
