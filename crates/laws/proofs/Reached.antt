-- Runs in which a name comes round: all names are given in turn, and then the first that is free again.
use Rattle.std.proofs.Common.{◌==◌}
use Prim.Native.Nat.{ℕ, zero, suc, ◌+◌, ◌-◌, ◌%◌, ◌≤◌, ◌<◌}
use mathlib.Core.Path.{◌≡◌, refl, sym, ap, ◌∙◌, subst}
use mathlib.Core.Logic.{◌⊎◌, inl, inr, ⊎_elim, ◌≢◌}
use mathlib.Core.Bool.{Bool, true, false, not}
use mathlib.Core.List.{List, [], ◌∷◌, ◌++◌, append_assoc}
use native.Mathlib.Omega.{arith}
use lib.Dec.{ltb}
use lib.ListN.{length, replicate}
use borrow.Author.Tests.{eq-eqb, ne_eqb, ltb-true, ltb-false}
use Rattle.rules.specs.Lists.{any, count, each, from_on}
use Rattle.rules.specs.Numbers.{small, names, full_slice}
use Rattle.laws.specs.Words.{Limits}
use Rattle.rules.specs.Tables.{Tables, with_last, live, start}
use Rattle.rules.specs.Requests.{free_name, next_name, create}
use Rattle.rules.specs.Step.{step}
use Rattle.rules.specs.Runs.{Input, run}
use Rattle.rules.specs.Benches.{ask}
use Rattle.rules.specs.Opened.{opened}
use Rattle.laws.specs.Words.{ParentIs, Runs}
use Rattle.laws.specs.Reached.{made_and_ended, a_round}
use Rattle.laws.specs.Types.{Ruled}
use Rattle.laws.specs.Comings.{creates}
use Rattle.laws.specs.Givings.{result, given_by, givings}
use Rattle.laws.specs.Rest.{Twice, others, rest, big}
use Rattle.laws.proofs.Tests.{clash, same?, or_left}
use Rattle.laws.proofs.Tally.{length_count, count_insert}
use Rattle.laws.proofs.Members.{from_on_parts}
use Rattle.laws.proofs.Steps.{run_append}
use Rattle.laws.proofs.Names.{name_is_first_free}
use Rattle.laws.proofs.Sound.{ruled_tested}
use Rattle.laws.proofs.Kept.{start_ruled, step_ruled}
use Rattle.laws.proofs.Comings.{creation_brings, creation_keeps, created_last, created_lives}
use Rattle.laws.proofs.Givings.{givings_append}
use Rattle.laws.proofs.Rest.{all_pass}
use Rattle.laws.proofs.Trace.{son_is_made, made_and_ended_leaves_no_trace, made_and_ended_gives_its_name}

-- ---- rounds

-- a successor that nobody has is the next name
next_free : (k n : ℕ) (T : Tables) → live ((n + 1) % names) T ≡ false → free_name k n T ≡ (n + 1) % names
unfolding free_name
next_free zero n T e = refl
next_free (suc k) n T e = rw (e, free_name)

-- what two parts of a run give
in_parts : (L : Limits) (T : Tables) (es fs : Input) {U : Tables} {xs ys : List ℕ} → run L T es ≡ U → givings L T es ≡ xs →
    givings L U fs ≡ ys → givings L T (es ++ fs) ≡ xs ++ ys
in_parts L T es fs r a b = givings_append L T es fs ∙ rw (r, a, b)

module _ {L : Limits} {T : Tables} (l : L.threads < names) (R : Ruled L T) (m s : ℕ) (e : T.runner ≡ Runs m s)
    (room : length T.threads < L.threads) where
  -- the rules hold whatever name was given last
  any_last : (n : ℕ) → n < names → Ruled L (with_last n T)
  any_last n h = record {
    inv = record { agree = R.inv.agree; low = R.inv.low; few = R.inv.few; last = h };
    steady = record { slice = R.steady.slice; quiet = R.steady.quiet; since = R.steady.since; beats = R.steady.beats };
    fits = R.fits;
  }

  -- one round, with a name that nobody has behind n
  module _ (n : ℕ) (h : suc n < names) (free : live (suc n) T ≡ false) where
    next : next_name (with_last n T) ≡ suc n
    next = let q : (n + 1) % names ≡ suc n = omega arith in next_free (length T.threads) n (with_last n T) (rw q free) ∙ q

    one_round : (run L (with_last n T) (ask 2 0 ∷ ask 3 (suc n) ∷ []) ≡ with_last (suc n) T)
        × (givings L (with_last n T) (ask 2 0 ∷ ask 3 (suc n) ∷ []) ≡ suc n ∷ [])
    one_round =
        let r = ruled_tested (any_last n (omega arith)) in (
          rw next at (made_and_ended_leaves_no_trace L (with_last n T) l r m s e room),
          rw next at (made_and_ended_gives_its_name L (with_last n T) l r m s e room),
        )

  -- k threads, one after the other, with the names behind n, which nobody has
  rounds : (k n : ℕ) → n + k < names → ((x : ℕ) → n < x → live x T ≡ false) →
      (run L (with_last n T) (made_and_ended (suc n) k) ≡ with_last (n + k) T)
      × (givings L (with_last n T) (made_and_ended (suc n) k) ≡ from_on (suc n) k)
  unfolding made_and_ended from_on each
  rounds zero n h free = unfold run givings in (ap (λ x. with_last x T) (omega arith), refl)
  rounds (suc k) n h free =
      let one = one_round n (omega arith) (free (suc n) (omega arith)) in
      let later = rounds k (suc n) (omega arith) (λ x i. free x (omega arith)) in
      let two : Input = ask 2 0 ∷ ask 3 (suc n) ∷ [] in
      let rest = made_and_ended (suc (suc n)) k in (
        run_append L (with_last n T) two rest ∙ ap (λ U. run L U rest) one.0 ∙ later.0 ∙ ap (λ x. with_last x T) (omega arith),
        in_parts L (with_last n T) two rest one.0 one.1 later.1,
      )

-- ---- sons of the first thread

-- the first thread runs and has n sons: the names 0 to n are taken and no others, and n was given last
record Sons (L : Limits) (n : ℕ) (T : Tables) : Type 0 where
  ruled : Ruled L T
  runner : T.runner ≡ Runs 0 full_slice
  last : T.last ≡ n
  length_is : length T.threads ≡ suc n
  taken : (x : ℕ) → x ≤ n → live x T ≡ true
  free : (x : ℕ) → n < x → live x T ≡ false

module _ (L : Limits) (l : L.threads < names) where
  none_yet : 1 ≤ L.threads → Sons L 0 start
  unfolding any
  none_yet o = record {
    ruled = start_ruled L o;
    runner = refl;
    last = refl;
    length_is = refl;
    taken = λ x h. or_left (x == 0) false (eq-eqb x 0 (omega arith));
    free = λ x h. rw (ne_eqb x 0 (λ e. omega arith));
  }

  -- one son more
  module _ (n : ℕ) (T : Tables) (S : Sons L n T) (room : suc n < L.threads) where
    next_is : next_name T ≡ suc n
    next_is =
        let q : (T.last + 1) % names ≡ suc n = omega (arith, S.last) in
        next_free (length T.threads) T.last T (ap (λ x. live x T) q ∙ S.free (suc n) (omega arith)) ∙ q

    made_one : ((step L T (ask 2 0)).tables ≡ (create (ParentIs 0) T).tables) × (given_by L T (ask 2 0) ≡ next_name T ∷ [])
    made_one = son_is_made L T 0 full_slice S.runner (omega (arith, S.length_is))

    one_more : Sons L (suc n) (step L T (ask 2 0)).tables
    one_more = record {
      ruled = step_ruled (ask 2 0) l S.ruled;
      runner = ap (λ U. U.runner) made_one.0 ∙ (unfold create in S.runner);
      last = ap (λ U. U.last) made_one.0 ∙ created_last (ParentIs 0) T ∙ next_is;
      length_is = ap (λ U. length U.threads) made_one.0 ∙ longer;
      taken = λ x h. ap (live x) made_one.0 ∙ stays x h (same? x (suc n));
      free = λ x h. ap (live x) made_one.0 ∙ none x h (live x (create (ParentIs 0) T).tables) refl;
    }
      where
        longer : length (create (ParentIs 0) T).tables.threads ≡ suc (suc n)
        longer = unfold create in length_count _ ∙ count_insert (λ t. true) _ _ T.threads
            ∙ omega (arith, length_count T.threads, S.length_is)

        stays : (x : ℕ) → x ≤ suc n → ((x ≡ suc n) × ((x == suc n) ≡ true)) ⊎ ((x ≢ suc n) × ((x == suc n) ≡ false)) →
            live x (create (ParentIs 0) T).tables ≡ true
        stays x h (inl e) = ap (λ y. live y (create (ParentIs 0) T).tables) (e.0 ∙ sym next_is) ∙ created_lives (ParentIs 0) T
        stays x h (inr e) = creation_keeps (ParentIs 0) T x (S.taken x (omega (arith, e.0)))

        none : (x : ℕ) → suc n < x → (b : Bool) → live x (create (ParentIs 0) T).tables ≡ b →
            live x (create (ParentIs 0) T).tables ≡ false
        none x h true e = ⊎_elim (λ i. absurd (omega (arith, next_is))) (λ i. absurd (clash i (S.free x (omega arith))))
            (creation_brings (ParentIs 0) T x e)
        none x h false e = e

  -- k sons more
  sons : (k n : ℕ) (T : Tables) → Sons L n T → n + k < L.threads →
      Sons L (n + k) (run L T (replicate k (ask 2 0))) × (givings L T (replicate k (ask 2 0)) ≡ from_on (suc n) k)
  unfolding run givings from_on
  sons zero n T S h = (subst (λ x. Sons L x T) (omega arith) S, refl)
  sons (suc k) n T S h =
      let q : suc n + k ≡ n + suc k = omega arith in
      let later = sons k (suc n) (step L T (ask 2 0)).tables (one_more n T S (omega arith)) (omega arith) in (
        subst (λ x. Sons L x (run L (step L T (ask 2 0)).tables (replicate k (ask 2 0)))) q later.0,
        ap (λ xs. xs ++ givings L (step L T (ask 2 0)).tables (replicate k (ask 2 0))) ((made_one n T S (omega arith)).1
            ∙ ap (λ x. x ∷ []) (next_is n T S (omega arith))) ∙ ap (λ xs. suc n ∷ xs) later.1,
      )

  -- behind 253 the next name is the first that is free: that behind the last son's
  again : (n : ℕ) (T : Tables) → Sons L n T → suc n < L.threads → next_name (with_last (names - 1) T) ≡ suc n
  again n T S room =
      let f = name_is_first_free (with_last (names - 1) T) (omega arith) (omega (arith, S.length_is)) in
      go f.0 f.1 f.2 f.3 f.4 (ltb f.0 (n + 2)) refl (ltb (n + 2) f.0) refl
    where
      c : ℕ
      c = next_name (with_last (names - 1) T)

      go : (i : ℕ) → 1 ≤ i → c ≡ (names - 1 + i) % names → live c T ≡ false →
          ((j : ℕ) → 1 ≤ j → j < i → live ((names - 1 + j) % names) T ≡ true) →
          (early : Bool) → ltb i (n + 2) ≡ early → (late : Bool) → ltb (n + 2) i ≡ late → c ≡ suc n
      go i some e dead passed true a late b = let h = ltb-true i (n + 2) a in absurd (clash (S.taken c (omega arith)) dead)
      go i some e dead passed false a true b =
          let h = ltb-true (n + 2) i b in
          let q : (names - 1 + (n + 2)) % names ≡ suc n = omega arith in
          absurd (clash (ap (λ x. live x T) (sym q) ∙ passed (n + 2) (omega arith) h) (S.free (suc n) (omega arith)))
      go i some e dead passed false a false b = let h = ltb-false i (n + 2) a in let k = ltb-false (n + 2) i b in omega arith

-- ---- a round from the start

module _ (L : Limits) (l : L.threads < names) (n : ℕ) (room : suc n < L.threads) where
  -- the tables with n sons of the first thread
  abbrev filled : Tables
  filled = run L start (replicate n (ask 2 0))

  with_sons : Sons L n filled × (givings L start (replicate n (ask 2 0)) ≡ from_on 1 n)
  with_sons =
      let q : 0 + n ≡ n = omega arith in
      let s = sons L l n 0 start (none_yet L l (omega arith)) (omega arith) in
      (rw q at s.0, s.1)

  -- the names up to 253 are passed through, and then come those that the last events give
  a_round_gives : (k : ℕ) → n + k ≡ names - 1 → (es : Input) (xs : List ℕ) → givings L (with_last (names - 1) filled) es ≡ xs →
      givings L start (replicate n (ask 2 0) ++ (made_and_ended (suc n) k ++ es)) ≡ from_on 1 n ++ (from_on (suc n) k ++ xs)
  a_round_gives k h es xs g =
      let S = with_sons.0 in
      let e : with_last n filled ≡ filled = ap (λ x. with_last x filled) (sym S.last) in
      let r = rw (e, h) at (rounds l S.ruled 0 full_slice S.runner (omega (arith, S.length_is)) k n (omega arith) S.free) in
      in_parts L start (replicate n (ask 2 0)) (made_and_ended (suc n) k ++ es) refl with_sons.1
      (in_parts L filled (made_and_ended (suc n) k) es r.0 r.1 g)

  -- one more is made
  gives_again : givings L (with_last (names - 1) filled) (ask 2 0 ∷ []) ≡ suc n ∷ []
  unfolding givings
  gives_again =
      let S = with_sons.0 in
      rw (son_is_made L (with_last (names - 1) filled) 0 full_slice S.runner (omega (arith, S.length_is))).1
      (ap (λ x. x ∷ []) (again L l n filled S room))

-- those up to n and the k behind them are all from 0 on
in_turn : (n k : ℕ) (xs : List ℕ) → 0 ∷ (from_on 1 n ++ (from_on (suc n) k ++ xs)) ≡ from_on 0 (suc (n + k)) ++ xs
unfolding from_on
in_turn n k xs =
    let q : 1 + n ≡ suc n = omega arith in
    ap (λ ys. 0 ∷ ys) (sym (append_assoc (from_on 1 n) (from_on (suc n) k) xs) ∙ ap (λ ys. ys ++ xs) (sym (rw q at (from_on_parts 1 n k))))

comes_round : (L : Limits) → L.threads < names → (n : ℕ) → suc n < L.threads → (k : ℕ) → n + k ≡ names - 1 →
    0 ∷ givings L start (replicate n (ask 2 0) ++ (made_and_ended (suc n) k ++ (ask 2 0 ∷ []))) ≡ from_on 0 (suc (n + k)) ++ (suc n ∷ [])
comes_round L l n room k h = ap (λ xs. 0 ∷ xs) (a_round_gives L l n room k h (ask 2 0 ∷ []) (suc n ∷ []) (gives_again L l n room))
    ∙ in_turn n k (suc n ∷ [])

-- ---- the laws

-- For any limits with two threads or more: the first thread's name 0, the names 1 to 253 in turn, and then the first that is free again.
pub names_come_round : (L : Limits) → 2 ≤ L.threads → L.threads < names → 0 ∷ givings L start (a_round L.threads) ≡ from_on 0 names
    ++ ((L.threads - 1) ∷ [])
unfolding a_round
names_come_round L two l = go (L.threads - 2) (names + 1 - L.threads) (omega arith) (omega arith)
  where
    go : (n k : ℕ) → L.threads ≡ suc (suc n) → n + k ≡ names - 1 → 0 ∷ givings L start (a_round L.threads) ≡ from_on 0 names
        ++ ((L.threads - 1) ∷ [])
    go n k e h =
        let a : L.threads - 2 ≡ n = omega arith in
        let b : L.threads - 1 ≡ suc n = omega arith in
        let c : names + 1 - L.threads ≡ k = omega arith in
        let all : suc (n + k) ≡ names = omega arith in
        rw (a, b, c) (rw all at (comes_round L l n (omega arith) k h))

-- For any limits with two threads or more the bound is reached: exactly so many others lie between the two givings of one name.
pub the_rest_is_reached : (L : Limits) → 2 ≤ L.threads → L.threads < names →
    (t : Twice (L.threads - 1) (0 ∷ givings L start (a_round L.threads))) × (others (L.threads - 1) t.between ≡ rest L)
unfolding others from_on
the_rest_is_reached L two l =
    (record { earlier = from_on 0 m; between = from_on (suc m) (rest L); later = []; among = names_come_round L two l ∙ parts }, only)
  where
    m : ℕ
    m = L.threads - 1

    parts : from_on 0 names ++ (m ∷ []) ≡ from_on 0 m ++ (m ∷ (from_on (suc m) (rest L) ++ (m ∷ [])))
    parts =
        let q : m + suc (rest L) ≡ names = omega arith in
        let z : 0 + m ≡ m = omega arith in
        ap (λ xs. xs ++ (m ∷ [])) (rw (q, z) at (from_on_parts 0 m (suc (rest L))))
        ∙ append_assoc (from_on 0 m) (from_on m (suc (rest L))) (m ∷ [])

    only : count (λ i. not (m == i)) (from_on (suc m) (rest L)) ≡ rest L
    only = all_pass (λ i. not (m == i)) (suc m) (rest L) (λ i a b. ap not (ne_eqb m i (λ e. omega arith)))

-- For small tables, 20 threads: 19 is given twice, with exactly 234 others between.
pub reached_234 : (t : Twice 19 (0 ∷ givings small start (a_round 20))) × (others 19 t.between ≡ 234)
reached_234 = the_rest_is_reached small (omega arith) (omega arith)

-- For 64 threads and 128 blocks: 63 is given twice, with exactly 190 others between.
pub reached_190 : (t : Twice 63 (0 ∷ givings big start (a_round 64))) × (others 63 t.between ≡ 190)
reached_190 = the_rest_is_reached big (omega arith) (omega arith)

-- A name rests from giving to giving, not from the end of its thread: thread 18 stays while all names behind it are given; then it ends,
-- and the next thread made has its name.
pub given_at_once_after_the_end : 0 ∷ givings small start (replicate 18 (ask 2 0) ++ (made_and_ended 19 235 ++ (ask 3 18 ∷ ask 2 0 ∷ [])))
    ≡ from_on 0 names ++ (18 ∷ [])
given_at_once_after_the_end = ap (λ xs. 0 ∷ xs) (a_round_gives small (omega arith) 18 (omega arith) 235 refl _ _ computed)
    ∙ in_turn 18 235 (18 ∷ [])
  where
    computed : givings small (with_last (names - 1) (run small start (replicate 18 (ask 2 0)))) (ask 3 18 ∷ ask 2 0 ∷ []) ≡ 18 ∷ []
    computed = unfold opened creates result given_by givings in refl
