-- The count of a thread in its present life: what GETCPUTIME hands over is the number of ticks accepted while the requester ran, since
-- it was made, modulo 2^32.
use Rattle.std.proofs.Common.{if◌then◌else◌, ◌==◌}
use Prim.Native.Nat.{ℕ, ◌+◌, ◌%◌, ◌≤◌, ◌<◌}
use mathlib.Core.Path.{◌≡◌, refl, sym, ap, ◌∙◌}
use mathlib.Core.Logic.{⊎_elim}
use mathlib.Core.Bool.{Bool, true, false}
use mathlib.Core.List.{List, [], ◌∷◌, Memᴰ}
use native.Mathlib.Omega.{arith}
use Rattle.rules.specs.Numbers.{names, wrap}
use Rattle.laws.specs.Words.{Limits}
use Rattle.rules.specs.Tables.{Tables, in_state, named, live, of_thread, change, start}
use Rattle.rules.specs.Requests.{create}
use Rattle.rules.specs.Events.{decode}
use Rattle.rules.specs.Refusals.{refusal}
use Rattle.rules.specs.Step.{act, step}
use Rattle.rules.specs.Runs.{Input, run}
use Rattle.rules.specs.TableRules.{table_rules}
use Rattle.laws.specs.Words.{Running, Nothing, Result, Parent, Thread, GetCpuTime, Event}
use Rattle.laws.specs.Lives.{life_ticks}
use Rattle.laws.specs.Counts.{if_accepted, over_run, own_ticks_by, ticks_at, lives_through}
use Rattle.laws.specs.Requests.{Accepted, requester}
use Rattle.laws.specs.Comings.{creates}
use Rattle.laws.proofs.Tests.{by_if, clash, ◌&◌}
use Rattle.laws.proofs.Members.{mem_insert, mem_map}
use Rattle.laws.proofs.Threads.{member_live, looked_up, turned, turned_name}
use Rattle.laws.proofs.Steps.{called, by_step, by_dispatch}
use Rattle.laws.proofs.PlacesKept.{runner_live}
use Rattle.laws.proofs.Sound.{tested_ruled}
use Rattle.laws.proofs.Kept.{rules_hold_at_the_start, rules_are_kept, rules_hold_in_runs}
use Rattle.laws.proofs.Counts.{ticks_counted_alive}
use Rattle.laws.proofs.Requests.{cpu_time_is_the_count}
use Rattle.laws.proofs.Comings.{creation, no_other_brings}

-- ---- a newcomer's count is 0

-- a thread of name n that is there was there before, or its count is 0
record Begins (n : ℕ) (T U : Tables) : Type 0 where
  at_0 : live n T ≡ false → (u : Thread) → Memᴰ u U.threads → n ≡ u.name → u.ticks ≡ 0

module _ (n : ℕ) where
  -- nobody comes
  nobody_comes : (T U : Tables) → (live n U ≡ true → live n T ≡ true) → Begins n T U
  nobody_comes T U h = record { at_0 = λ d u m e. absurd (clash (h (ap (λ (x : ℕ). live x U) e ∙ member_live U.threads u m)) d) }

  created : (p : Parent) (T : Tables) → Begins n T (create p T).tables
  unfolding create
  created p T = record {
    at_0 = λ d u m e. ⊎_elim (λ i. ap (λ (x : Thread). x.ticks) i)
        (λ i. absurd (clash (ap (λ (x : ℕ). live x T) e ∙ member_live T.threads u i) d)) (mem_insert _ _ T.threads m);
  }

  acted : (T : Tables) (e : Event) → Begins n T (act T e).tables
  unfolding act
  acted T e = go (creates e) refl
    where
      go : (b : Bool) → creates e ≡ b → Begins n T (act T e).tables
      go true h = let C = creation T e h in rw (C.asks, C.serves) (created C.parent T)
      go false h = nobody_comes T _ ((no_other_brings T e h).before n)

  stepped : (L : Limits) (T : Tables) (bytes : List ℕ) → Begins n T (step L T bytes).tables
  unfolding change
  stepped L T bytes =
      by_step (λ (U : Tables) (b : Bool). Begins n T U) L T bytes (nobody_comes T T (λ l. l))
      (λ _. by_dispatch (Begins n T) (act T (decode bytes)) (λ _ _ _. acted T (decode bytes)) (λ _ _. acted T (decode bytes))
      (λ x q _ _. record {
        at_0 = λ d u m e.
            let r = mem_map (turned (named x) (in_state Running Nothing)) (act T (decode bytes)).tables.threads m in
            ap (λ (v : Thread). v.ticks) r.2 ∙ by_if (λ (v : Thread). v.ticks ≡ r.0.ticks) (named x r.0) (λ _. refl) (λ _. refl)
            ∙ (acted T (decode bytes)).at_0 d r.0 r.1 (e ∙ ap (λ (v : Thread). v.name) r.2
            ∙ turned_name (named x) (in_state Running Nothing) (λ t. refl) r.0);
      }))

  -- A thread that was not there before an event has the count 0 after it.
  pub newcomer_has_count_0 : (L : Limits) (T : Tables) (bytes : List ℕ) → live n T ≡ false →
      ticks_at n (step L T bytes).tables.threads ≡ 0
  newcomer_has_count_0 L T bytes d = ⊎_elim (λ e. e) (λ r. r.3 ∙ (stepped L T bytes).at_0 d r.0 r.1 (sym r.2))
      (looked_up 0 (λ t. t.ticks) n (step L T bytes).tables.threads)

-- ---- the ticks of a life

module _ (L : Limits) (n : ℕ) (l : L.threads < names) where
  one_step : (T : Tables) (e : List ℕ) (a : ℕ) → table_rules L T ≡ true → (live n T ≡ true → ticks_at n T.threads ≡ a % wrap) →
      live n (step L T e).tables ≡ true →
      ticks_at n (step L T e).tables.threads ≡ (if live n T then a + if_accepted (own_ticks_by n) L T e else 0) % wrap
  one_step T e a R h k = go (live n T) refl
    where
      go : (b : Bool) → live n T ≡ b → ticks_at n (step L T e).tables.threads ≡ (if b then a + if_accepted (own_ticks_by n) L T e else 0)
          % wrap
      go true i =
          let c : ticks_at n (step L T e).tables.threads ≡ (ticks_at n T.threads + (if_accepted (own_ticks_by n) L T e + 0)) % wrap =
          unfold run over_run lives_through in ticks_counted_alive L n l T (e ∷ []) R (i & k) in
          omega (arith, h i)
      go false i = newcomer_has_count_0 n L T e i ∙ omega arith

  -- A live thread's count is the number of the ticks accepted while it ran in this life, modulo 2^32.
  pub count_of_a_life : (T : Tables) (es : Input) (a : ℕ) → table_rules L T ≡ true →
      (live n T ≡ true → ticks_at n T.threads ≡ a % wrap) →
      live n (run L T es) ≡ true → ticks_at n (run L T es).threads ≡ life_ticks L n a T es % wrap
  unfolding run life_ticks
  count_of_a_life T [] a R h k = h k
  count_of_a_life T (e ∷ es) a R h k = count_of_a_life (step L T e).tables es _ (rules_are_kept L T e l R) (one_step T e a R h) k

-- ---- the law

-- From a start, after any events: an accepted GETCPUTIME hands over the number of ticks accepted while the requester ran, since it was
-- made, modulo 2^32.
pub cpu_time_is_counted : (L : Limits) (es : Input) (bytes : List ℕ) → 1 ≤ L.threads → L.threads < names →
    Accepted L (run L start es) bytes GetCpuTime →
    (step L (run L start es) bytes).decision.answer ≡ Result (life_ticks L (requester (run L start es)) 0 start es % wrap)
cpu_time_is_counted L es bytes o l A =
    let T = run L start es in
    let C = called L T GetCpuTime (ap (refusal L T) (sym A.asked) ∙ A.accepted) in
    let k = ap (λ n. live n T) C.caller ∙ runner_live (tested_ruled L T (rules_hold_in_runs L es o l)).inv C.name C.slice
    C.runner in
    (cpu_time_is_the_count L T bytes A).0
    ∙ ap Result (count_of_a_life L (requester T) l start es 0 (rules_hold_at_the_start L o) (λ _. zero_at_start (requester T)) k)
  where
    zero_at_start : (n : ℕ) → ticks_at n start.threads ≡ 0 % wrap
    zero_at_start n = unfold of_thread in by_if (λ (x : ℕ). x ≡ 0) (n == 0) (λ _. refl) (λ _. refl)
