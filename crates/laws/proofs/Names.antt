-- The name given to a new thread: the first successor, modulo 254, of the name given last that no live thread has.
use Rattle.std.proofs.Common.{◌==◌}
use Prim.Native.Nat.{ℕ, zero, suc, ◌+◌, ◌%◌, ◌≤◌, ◌<◌}
use mathlib.Core.Path.{◌≡◌, refl, sym, ◌∙◌}
use mathlib.Core.Logic.{◌≢◌}
use mathlib.Core.Bool.{Bool, true, false, not}
use mathlib.Core.List.{List}
use native.Mathlib.Omega.{arith}
use native.Mathlib.Nat.{mod-lt}
use lib.ListN.{length}
use borrow.Author.Tests.{eqb-true, ne_eqb}
use Rattle.rules.specs.Lists.{any, keep}
use Rattle.rules.specs.Numbers.{names}
use Rattle.laws.specs.Words.{Limits}
use Rattle.rules.specs.Tables.{Tables, with_threads, named, live}
use Rattle.rules.specs.Requests.{free_name, next_name}
use Rattle.laws.specs.Words.{Thread}
use Rattle.laws.proofs.Tally.{count_length, count_not, length_keep, any_count, zero_any, any_counts, all_left}

-- the name i steps behind n
abbrev after : ℕ → ℕ → ℕ
after n i = (n + i) % names

-- the name given is one of the k + 1 names behind n, and those passed over are live
record Found (k n : ℕ) (T : Tables) : Type 0 where
  steps : ℕ
  some : 1 ≤ steps
  most : steps ≤ k + 1
  given : free_name k n T ≡ after n steps
  passed : (j : ℕ) → 1 ≤ j → j < steps → live (after n j) T ≡ true

found : (k n : ℕ) (T : Tables) → Found k n T
unfolding free_name
found zero n T = record { steps = 1; some = omega arith; most = omega arith; given = refl; passed = λ j a b. absurd (omega arith) }
found (suc k) n T = go (live (after n 1) T) refl (found k (after n 1) T)
  where
    go : (b : Bool) → live (after n 1) T ≡ b → Found k (after n 1) T → Found (suc k) n T
    go false e later =
        record { steps = 1; some = omega arith; most = omega arith; given = rw (e, free_name); passed = λ j a b. absurd (omega arith) }
    go true e later = record {
      steps = later.steps + 1;
      some = omega arith;
      most = omega (arith, later.most);
      given = rw (e, free_name) (later.given ∙ omega arith);
      passed = λ j a b. passed j a b;
    }
      where
        passed : (j : ℕ) → 1 ≤ j → j < later.steps + 1 → live (after n j) T ≡ true
        passed zero a b = absurd (omega arith)
        passed (suc zero) a b = e
        passed (suc (suc i)) a b =
            let q : after n (suc (suc i)) ≡ after (after n 1) (suc i) = omega arith in
            rw q (later.passed (suc i) (omega arith) (omega arith))

-- the names tried decide
same_tries : (k n : ℕ) (T U : Tables) → ((i : ℕ) → 1 ≤ i → i ≤ k → live (after n i) T ≡ live (after n i) U) →
    free_name k n T ≡ free_name k n U
unfolding free_name
same_tries zero n T U e = refl
same_tries (suc k) n T U e =
    go (live (after n 1) T) refl
    (same_tries k (after n 1) T U (λ i a b. let q : after (after n 1) i ≡ after n (i + 1) = omega arith in
    rw q (e (i + 1) (omega arith) (omega arith))))
  where
    go : (b : Bool) → live (after n 1) T ≡ b → free_name k (after n 1) T ≡ free_name k (after n 1) U →
        free_name (suc k) n T ≡ free_name (suc k) n U
    go true l later = rw (l, sym (e 1 (omega arith) (omega arith)) ∙ l, free_name) later
    go false l later = rw (l, sym (e 1 (omega arith) (omega arith)) ∙ l, free_name)

-- without the threads of a name: the other names are as live
abbrev others : ℕ → Tables → Tables
others c T = with_threads (keep (λ t. not (named c t)) T.threads) T

live_others : (m c : ℕ) → m ≢ c → (ts : List Thread) → any (named m) (keep (λ t. not (named c t)) ts) ≡ any (named m) ts
live_others m c d ts = any_counts (named m) (named m) _ ts
    (all_left (λ t. t.name) (λ x. c == x) (named m) m (λ t e. eqb-true m t.name e) (ne_eqb c m (λ e. d (sym e))) ts)

-- with at most k threads, k at most 253, the name given is no thread's: of the k + 1 names behind n, which differ, k can be taken
fresh : (k n : ℕ) (T : Tables) → k < names → length T.threads ≤ k → live (free_name k n T) T ≡ false
unfolding free_name
fresh zero n T b l = zero_any (named (after n 1)) T.threads (omega (arith, count_length (named (after n 1)) T.threads))
fresh (suc k) n T b l = go (live (after n 1) T) refl (λ le. fresh k (after n 1) (others (after n 1) T) (omega arith) le)
  where
    c : ℕ
    c = after n 1

    go : (b : Bool) → live c T ≡ b → (length (others c T).threads ≤ k → live (free_name k c (others c T)) (others c T) ≡ false) →
        live (free_name (suc k) n T) T ≡ false
    go false e later = rw (e, free_name) e
    go true e later =
        let hc : c < names = mod-lt (n + 1) (omega arith) in
        let p = found k c T in
        let q : free_name k c (others c T) ≡ free_name k c T =
        same_tries k c (others c T) T (λ i one most. live_others (after c i) c (omega arith) T.threads) in
        rw (e, free_name)
        (sym (live_others (free_name k c T) c (omega (arith, p.given)) T.threads)
        ∙ rw (sym q)
        (later (omega (
          arith,
          length_keep (λ t. not (named c t)) T.threads,
          count_not (named c) T.threads,
          any_count (named c) T.threads e,
        ))))

-- ---- the laws

-- the name given is 0 to 253
pub name_low : (T : Tables) → next_name T < names
name_low T = let p = found (length T.threads) T.last T in rw p.given (mod-lt (T.last + p.steps) (omega arith))

-- where there are fewer than 254 threads, it is no live thread's
pub name_fresh : (T : Tables) → length T.threads < names → live (next_name T) T ≡ false
name_fresh T few = fresh (length T.threads) T.last T few (omega arith)

-- with room for fewer than 254 threads, and no more there than the room, the name given is no live thread's
pub name_free : (L : Limits) (T : Tables) → L.threads < names → T.last < names → length T.threads ≤ L.threads →
    live (next_name T) T ≡ false
name_free L T l h few = name_fresh T (omega arith)

-- The name given is the first of the successors, modulo 254, of the name given last that no live thread has.
pub name_is_first_free : (T : Tables) → T.last < names → length T.threads < names →
    (i : ℕ) × (1 ≤ i) × (next_name T ≡ (T.last + i) % names) × (live (next_name T) T ≡ false)
    × ((j : ℕ) → 1 ≤ j → j < i → live ((T.last + j) % names) T ≡ true)
name_is_first_free T h few =
    let p = found (length T.threads) T.last T in
    (p.steps, p.some, p.given, name_fresh T few, p.passed)
