-- State, runner, ready queue and clock queue agree: what each move of threads between them must do for that, and which moves do it.
use Rattle.std.proofs.Common.{if◌then◌else◌, ◌==◌}
use Prim.Native.Nat.{ℕ, ◌+◌, ◌≤◌}
use mathlib.Core.Path.{◌≡◌, refl, sym, ap, ap₂, ◌∙◌}
use mathlib.Core.Logic.{⊎_elim, ◌≢◌}
use mathlib.Core.Bool.{Bool, true, false, ◌&&◌, not, false≢true}
use mathlib.Core.List.{List, [], ◌∷◌, ◌++◌, map}
use native.Mathlib.Omega.{arith}
use borrow.Author.Tests.{eqb-true, eq-eqb, ne_eqb}
use Rattle.rules.specs.Lists.{one_if, keep, count, insert, has, times_in}
use Rattle.rules.specs.Words.{by_state, by_runner}
use Rattle.rules.specs.Tables.{in_state, named, runs_as}
use Rattle.rules.specs.States.{is_running, is_ready, on_clock}
use Rattle.rules.specs.Ending.{without_managers}
use Rattle.laws.specs.Words.{Wanted, TrapKind, State, Running, Ready, Receiving, Clock, Device, Trapped, Answer, Thread, Runner}
use Rattle.laws.specs.Words.{NoRunner, Runs}
use Rattle.laws.specs.Types.{here, Places}
use Rattle.laws.proofs.Tests.{by_if, same?, and_left, and_true, and_false, and_twice, and_self, never}
use Rattle.laws.proofs.Tally.{count_append, count_map, count_same, count_zero, count_insert, count_keep_le, none_left, all_left}
use Rattle.laws.proofs.Queues.{times_none, times_self, times_other, tail_self, tail_other}
use Rattle.laws.proofs.Threads.{names_kept, left, put_name, times_kept, apart}

-- ---- a thread is in one kind of state

-- in none of the three that have a place
abbrev pub Asleep : State → Type 0
Asleep s = (is_running s ≡ false) × (is_ready s ≡ false) × (on_clock s ≡ false)

-- who receives, waits for a device or is trapped is in no place
pub asleep : (f : Wanted → Bool) (g : ℕ → Bool) (h : TrapKind → Bool) (s : State) → by_state false f g h s ≡ true → Asleep s
unfolding is_running is_ready on_clock
asleep f g h Running e = absurd (false≢true e)
asleep f g h Ready e = absurd (false≢true e)
asleep f g h (Receiving w) e = (refl, refl, refl)
asleep f g h Clock e = absurd (false≢true e)
asleep f g h (Device d) e = (refl, refl, refl)
asleep f g h (Trapped k) e = (refl, refl, refl)

clock_apart : (s : State) → on_clock s ≡ true → (is_running s ≡ false) × (is_ready s ≡ false)
unfolding on_clock is_running is_ready
clock_apart Running e = absurd (false≢true e)
clock_apart Ready e = absurd (false≢true e)
clock_apart (Receiving w) e = (refl, refl)
clock_apart Clock e = (refl, refl)
clock_apart (Device d) e = (refl, refl)
clock_apart (Trapped k) e = (refl, refl)

-- ---- where a name stands

pub runs_self : (m s : ℕ) → runs_as m (Runs m s) ≡ true
unfolding runs_as
runs_self m s = eq-eqb m m refl

pub runs_other : (n m s : ℕ) → n ≢ m → runs_as n (Runs m s) ≡ false
unfolding runs_as
runs_other n m s d = ne_eqb n m d

-- of the runner's name, or one at the front of the ready queue, there is one thread, and it stands there once and nowhere else
pub at_run : (m s : ℕ) {ts : List Thread} {q c : List ℕ} → Places ts (Runs m s) q c → (count (named m) ts ≡ 1) × (times_in q m ≡ 0)
    × (times_in c m ≡ 0)
at_run m s {ts} P = omega (arith, apart m ts, P.once m, P.run m, P.wait m, P.beat m, ap one_if (runs_self m s))

pub at_ready : (m : ℕ) {ts : List Thread} {r : Runner} {q c : List ℕ} → Places ts r (m ∷ q) c → (count (named m) ts ≡ 1)
    × (times_in q m ≡ 0) × (times_in c m ≡ 0)
at_ready m {ts} {q = q} P = omega (arith, apart m ts, P.once m, P.run m, P.wait m, P.beat m, times_self m q)

-- ---- the threads that pass are put into a state

module _ (p : Thread → Bool) (s : State) (a : Thread → Answer) where
  abbrev put : Thread → Thread
  put t = if p t then in_state s (a t) t else t

  -- of the threads of a name: those that leave a kind of state, and those that join it
  abbrev leave : (State → Bool) → ℕ → List Thread → ℕ
  leave k n ts = count (λ t. named n t && (p t && k t.state)) ts

  abbrev join : (State → Bool) → ℕ → List Thread → ℕ
  join k n ts = count (λ t. named n t && (p t && k s)) ts

  put_one : (k : State → Bool) (n : ℕ) (t : Thread) →
      one_if (named n (put t) && k (put t).state) + one_if (named n t && (p t && k t.state)) ≡ one_if (named n t && k t.state)
      + one_if (named n t && (p t && k s))
  put_one k n t =
      by_if (λ (u : Thread). one_if (named n u && k u.state) + one_if (named n t && (p t && k t.state)) ≡ one_if (named n t
      && k t.state) + one_if (named n t && (p t && k s))) (p t)
      (λ e. rw e (omega arith))
      (λ e. rw (e, and_false (named n t)) (omega arith))

  put_here : (k : State → Bool) (n : ℕ) (ts : List Thread) → here k n (map put ts) + leave k n ts ≡ here k n ts + join k n ts
  unfolding here count
  put_here k n [] = refl
  put_here k n (t ∷ ts) = omega (arith, put_one k n t, put_here k n ts)

  -- places after agree if each took in who joined it and let go who left it
  put_keeps : {ts : List Thread} {r : Runner} {q c : List ℕ} (r' : Runner) (q' c' : List ℕ) → Places ts r q c →
      ((n : ℕ) → one_if (runs_as n r') + leave is_running n ts ≡ one_if (runs_as n r) + join is_running n ts) →
      ((n : ℕ) → times_in q' n + leave is_ready n ts ≡ times_in q n + join is_ready n ts) →
      ((n : ℕ) → times_in c' n + leave on_clock n ts ≡ times_in c n + join on_clock n ts) →
      Places (map put ts) r' q' c'
  put_keeps {ts} r' q' c' P run wait beat = record {
    once = λ n. rw (names_kept put (put_name p s a) n ts) (P.once n);
    run = λ n. omega (arith, P.run n, put_here is_running n ts, run n);
    wait = λ n. omega (arith, P.wait n, put_here is_ready n ts, wait n);
    beat = λ n. omega (arith, P.beat n, put_here on_clock n ts, beat n);
  }

-- those that sleep, or wait for the clock, become ready: their names join the ready queue and leave the clock queue
pub wake_keeps : (p : Thread → Bool) (a : Thread → Answer) {ts : List Thread} {r : Runner} {q c : List ℕ} (ns c' : List ℕ) →
    Places ts r q c →
    ((t : Thread) → p t ≡ true → (is_running t.state ≡ false) × (is_ready t.state ≡ false)) →
    ((n : ℕ) → times_in ns n ≡ count (λ t. named n t && p t) ts) →
    ((n : ℕ) → times_in c n ≡ times_in c' n + count (λ t. named n t && (p t && on_clock t.state)) ts) →
    Places (map (λ t. if p t then in_state Ready (a t) t else t) ts) r (q ++ ns) c'
unfolding is_running is_ready on_clock
wake_keeps p a {ts} {r} {q} ns c' P sleeps order left =
    put_keeps p Ready a r (q ++ ns) c' P
    (λ n. omega (arith, none_leave is_running n (λ t e. (sleeps t e).0), none_joins n))
    (λ n. omega (arith, none_leave is_ready n (λ t e. (sleeps t e).1), order n, count_append (λ m. n == m) q ns, all_join n))
    (λ n. omega (arith, left n, none_joins n))
  where
    none_leave : (k : State → Bool) (n : ℕ) → ((t : Thread) → p t ≡ true → k t.state ≡ false) →
        count (λ t. named n t && (p t && k t.state)) ts ≡ 0
    none_leave k n h = count_zero _ ts (λ t. never (named n t) (p t) (k t.state) (h t))

    none_joins : (n : ℕ) → count (λ t. named n t && (p t && false)) ts ≡ 0
    none_joins n = count_zero _ ts (λ t. never (named n t) (p t) false (λ _. refl))

    all_join : (n : ℕ) → count (λ t. named n t && (p t && true)) ts ≡ count (λ t. named n t && p t) ts
    all_join n = count_same _ _ ts (λ t. ap (λ (b : Bool). named n t && b) (and_true (p t)))

-- those that are in no place become ready, by rising name
pub rouse_keeps : (p : Thread → Bool) (a : Thread → Answer) {ts : List Thread} {r : Runner} {q c : List ℕ} →
    ((t : Thread) → p t ≡ true → Asleep t.state) → Places ts r q c →
    Places (map (λ t. if p t then in_state Ready (a t) t else t) ts) r (q ++ map (λ t. t.name) (keep p ts)) c
rouse_keeps p a {ts} {c = c} sleeps P =
    wake_keeps p a _ c P
    (λ t e. ((sleeps t e).0, (sleeps t e).1))
    (λ n. times_kept p n ts)
    (λ n. omega (arith, count_zero _ ts (λ t. never (named n t) (p t) (on_clock t.state) (λ e. (sleeps t e).2))))

-- all clock waiters become ready
pub beat_keeps : (a : Thread → Answer) {ts : List Thread} {r : Runner} {q c : List ℕ} → Places ts r q c →
    Places (map (λ t. if on_clock t.state then in_state Ready (a t) t else t) ts) r (q ++ c) []
beat_keeps a {ts} {c = c} P =
    wake_keeps (λ t. on_clock t.state) a c [] P (λ t. clock_apart t.state) (λ n. sym (P.beat n) ∙ opened n)
    (λ n. sym (P.beat n) ∙ opened n ∙ omega (arith, times_none n, count_same _ _ ts (λ t. and_self (named n t) (on_clock t.state))))
  where
    opened : (n : ℕ) → here on_clock n ts ≡ count (λ t. named n t && on_clock t.state) ts
    opened n = unfold here in refl

-- the one thread m is put into a state: the places hold m as that says, and the others as before
pub move : (m : ℕ) (s : State) (a : Answer) {ts : List Thread} {r : Runner} {q c : List ℕ} (r' : Runner) (q' c' : List ℕ) →
    Places ts r q c → count (named m) ts ≡ 1 →
    (runs_as m r' ≡ is_running s) × (times_in q' m ≡ one_if (is_ready s)) × (times_in c' m ≡ one_if (on_clock s)) →
    ((n : ℕ) → n ≢ m → (runs_as n r' ≡ runs_as n r) × (times_in q' n ≡ times_in q n) × (times_in c' n ≡ times_in c n)) →
    Places (map (λ t. if named m t then in_state s a t else t) ts) r' q' c'
move m s a {ts} r' q' c' P one there others =
    put_keeps (named m) s (λ t. a) r' q' c' P
    (λ n. ⊎_elim (λ e. rw e.0 (omega (arith, P.run m, own is_running, goes_in is_running, ap one_if there.0)))
    (λ e. omega (arith, other n e.0 (λ t. is_running t.state), other n e.0 (λ t. is_running s), ap one_if (others n e.0).0))
    (same? n m))
    (λ n. ⊎_elim (λ e. rw e.0 (omega (arith, P.wait m, own is_ready, goes_in is_ready, there.1)))
    (λ e. omega (arith, other n e.0 (λ t. is_ready t.state), other n e.0 (λ t. is_ready s), (others n e.0).1)) (same? n m))
    (λ n. ⊎_elim (λ e. rw e.0 (omega (arith, P.beat m, own on_clock, goes_in on_clock, there.2)))
    (λ e. omega (arith, other n e.0 (λ t. on_clock t.state), other n e.0 (λ t. on_clock s), (others n e.0).2)) (same? n m))
  where
    own : (k : State → Bool) → count (λ t. named m t && (named m t && k t.state)) ts ≡ here k m ts
    own k = unfold here in count_same _ _ ts (λ t. and_twice (named m t) (k t.state))

    goes_in : (k : State → Bool) → count (λ t. named m t && (named m t && k s)) ts ≡ one_if (k s)
    goes_in k = go (k s)
      where
        go : (b : Bool) → count (λ t. named m t && (named m t && b)) ts ≡ one_if b
        go true = count_same _ _ ts (λ t. and_twice (named m t) true ∙ and_true (named m t)) ∙ one
        go false = count_zero _ ts (λ t. never (named m t) (named m t) false (λ _. refl))

    other : (n : ℕ) → n ≢ m → (f : Thread → Bool) → count (λ t. named n t && (named m t && f t)) ts ≡ 0
    other n d f =
        count_zero _ ts (λ t. ⊎_elim (λ e. rw (e.1, ne_eqb m t.name (λ i. d (e.0 ∙ sym i)))) (λ e. rw e.1) (same? n t.name))

-- ---- the moves of one thread

-- the runner becomes ready at the tail, and nobody runs
pub rotate_keeps : (m s : ℕ) (a : Answer) {ts : List Thread} {q c : List ℕ} → Places ts (Runs m s) q c →
    Places (map (λ t. if named m t then in_state Ready a t else t) ts) NoRunner (q ++ (m ∷ [])) c
unfolding is_running is_ready on_clock runs_as
rotate_keeps m s a {q = q} {c = c} P =
    let w = at_run m s P in
    move m Ready a NoRunner (q ++ (m ∷ [])) c P w.0 (refl, omega (arith, tail_self q m), w.2)
    (λ n d. (sym (runs_other n m s d), tail_other q n m d, refl))

-- the runner goes where it is in no place, and nobody runs
pub stop_keeps : (m s : ℕ) (to : State) (a : Answer) {ts : List Thread} {q c : List ℕ} → Asleep to → Places ts (Runs m s) q c →
    Places (map (λ t. if named m t then in_state to a t else t) ts) NoRunner q c
unfolding runs_as
stop_keeps m s to a {q = q} {c = c} z P =
    let w = at_run m s P in
    move m to a NoRunner q c P w.0 (sym z.0, w.1 ∙ sym (ap one_if z.1), w.2 ∙ sym (ap one_if z.2))
    (λ n d. (sym (runs_other n m s d), refl, refl))

-- the runner waits for the clock, and nobody runs
pub clock_keeps : (m s : ℕ) (a : Answer) {ts : List Thread} {q c : List ℕ} → Places ts (Runs m s) q c →
    Places (map (λ t. if named m t then in_state Clock a t else t) ts) NoRunner q (c ++ (m ∷ []))
unfolding is_running is_ready on_clock runs_as
clock_keeps m s a {q = q} {c = c} P =
    let w = at_run m s P in
    move m Clock a NoRunner q (c ++ (m ∷ [])) P w.0 (refl, w.1, omega (arith, tail_self c m))
    (λ n d. (sym (runs_other n m s d), refl, tail_other c n m d))

-- the front of the ready queue runs
pub run_keeps : (m s : ℕ) (a : Answer) {ts : List Thread} {q c : List ℕ} → Places ts NoRunner (m ∷ q) c →
    Places (map (λ t. if named m t then in_state Running a t else t) ts) (Runs m s) q c
unfolding is_running is_ready on_clock runs_as
run_keeps m s a {q = q} {c = c} P =
    let w = at_ready m P in
    move m Running a (Runs m s) q c P w.0 (runs_self m s, w.1, w.2) (λ n d. (runs_other n m s d, sym (times_other n m q d), refl))

-- ---- nobody moves

-- threads change and keep their names and states
pub same_keeps : (f : Thread → Thread) → ((t : Thread) → (f t).name ≡ t.name) → ((t : Thread) → (f t).state ≡ t.state) →
    {ts : List Thread} {r : Runner} {q c : List ℕ} → Places ts r q c → Places (map f ts) r q c
same_keeps f names states {ts} P = record {
  once = λ n. rw (names_kept f names n ts) (P.once n);
  run = λ n. same is_running n ∙ P.run n;
  wait = λ n. same is_ready n ∙ P.wait n;
  beat = λ n. same on_clock n ∙ P.beat n;
}
  where
    same : (k : State → Bool) (n : ℕ) → here k n (map f ts) ≡ here k n ts
    same k n = unfold here in count_map (λ t. named n t && k t.state) f ts
        ∙ count_same _ _ ts (λ t. ap₂ (λ (x : ℕ) (s : State). n == x && k s) (names t) (states t))

-- the runner has another slice
pub slice_keeps : (n s s' : ℕ) {ts : List Thread} {q c : List ℕ} → Places ts (Runs n s) q c → Places ts (Runs n s') q c
unfolding runs_as
slice_keeps n s s' P = record { once = P.once; run = P.run; wait = P.wait; beat = P.beat }

-- ---- a thread more, ready at the tail, of a name that nobody has

pub new_keeps : (n : ℕ) (t : Thread) (p : Thread → Bool) {ts : List Thread} {r : Runner} {q c : List ℕ} → t.name ≡ n → t.state ≡ Ready →
    count (named n) ts ≡ 0 → Places ts r q c →
    Places (insert p t ts) r (q ++ (n ∷ [])) c
unfolding here is_running is_ready on_clock
new_keeps n t p {ts} {q = q} e s z P = record {
  once = λ k. ⊎_elim (λ w. rw w.0 (omega (arith, count_insert (named n) p t ts, own)))
      (λ w. omega (arith, P.once k, count_insert (named k) p t ts, other k w.0)) (same? k n);
  run = λ k. omega (arith, P.run k, count_insert (λ u. named k u && is_running u.state) p t ts, kind is_running k refl);
  wait = λ k.
      ⊎_elim
      (λ w. rw w.0 (omega (arith, P.wait n, count_insert (λ u. named n u && is_ready u.state) p t ts, own_ready, tail_self q n)))
      (λ w. omega (
        arith,
        P.wait k,
        count_insert (λ u. named k u && is_ready u.state) p t ts,
        other_ready k w.0,
        tail_other q k n w.0,
      ))
      (same? k n);
  beat = λ k. omega (arith, P.beat k, count_insert (λ u. named k u && on_clock u.state) p t ts, kind on_clock k refl);
}
  where
    own : one_if (named n t) ≡ 1
    own = rw (eq-eqb n t.name (sym e))

    other : (k : ℕ) → k ≢ n → one_if (named k t) ≡ 0
    other k h = rw (ne_eqb k t.name (λ x. h (x ∙ e)))

    kind : (f : State → Bool) (k : ℕ) → f Ready ≡ false → one_if (named k t && f t.state) ≡ 0
    kind f k h = rw (s, h, and_false (named k t))

    own_ready : one_if (named n t && is_ready t.state) ≡ 1
    own_ready = rw (eq-eqb n t.name (sym e), s)

    other_ready : (k : ℕ) → k ≢ n → one_if (named k t && is_ready t.state) ≡ 0
    other_ready k h = rw (ne_eqb k t.name (λ x. h (x ∙ e)))

-- ---- without the names of a set

module _ (set : List ℕ) where
  abbrev left_queue : List ℕ → List ℕ
  left_queue q = keep (λ n. not (has n set)) q

  abbrev left_runner : Runner → Runner
  left_runner r = by_runner NoRunner (λ n s. if has n set then NoRunner else Runs n s) r

  -- who is in the set runs no more, and the others as before
  runs_left : (n : ℕ) (r : Runner) → runs_as n (left_runner r) ≡ (not (has n set) && runs_as n r)
  unfolding runs_as
  runs_left n NoRunner = sym (and_false (not (has n set)))
  runs_left n (Runs m s) = ⊎_elim (λ e. rw (sym e.0) (own (has n set) refl))
      (λ e. rw (e.1, and_false (not (has n set))) (other (has m set) e.1)) (same? n m)
    where
      own : (b : Bool) → has n set ≡ b → runs_as n (if b then NoRunner else Runs n s) ≡ (not b && (n == n))
      own true h = refl
      own false h = refl

      other : (b : Bool) → (n == m) ≡ false → runs_as n (if b then NoRunner else Runs m s) ≡ false
      other true e = refl
      other false e = e

  here_left : (k : State → Bool) (n : ℕ) (ts : List Thread) →
      here k n (map (without_managers set) (left set ts)) ≡ count (λ t. named n t && k t.state) (left set ts)
  unfolding here without_managers
  here_left k n ts = count_map (λ t. named n t && k t.state) (without_managers set) (left set ts)

  none_here : (k : State → Bool) (n : ℕ) (ts : List Thread) → has n set ≡ true → here k n (map (without_managers set) (left set ts)) ≡ 0
  none_here k n ts o = here_left k n ts ∙ none_left (λ t. t.name) (λ m. has m set) _ n (λ t e. eqb-true n t.name (and_left _ _ e)) o ts

  all_here : (k : State → Bool) (n : ℕ) (ts : List Thread) → has n set ≡ false →
      here k n (map (without_managers set) (left set ts)) ≡ here k n ts
  all_here k n ts o = here_left k n ts ∙ all_left (λ t. t.name) (λ m. has m set) _ n (λ t e. eqb-true n t.name (and_left _ _ e)) o ts
      ∙ (unfold here in refl)

  queue_left : (k : State → Bool) (q : List ℕ) (ts : List Thread) → ((n : ℕ) → here k n ts ≡ times_in q n) → (n : ℕ) →
      here k n (map (without_managers set) (left set ts)) ≡ times_in (left_queue q) n
  queue_left k q ts h n = go (has n set) refl
    where
      go : (b : Bool) → has n set ≡ b → here k n (map (without_managers set) (left set ts)) ≡ times_in (left_queue q) n
      go true o = none_here k n ts o ∙ sym (none_left (λ m. m) (λ m. has m set) _ n (λ m e. eqb-true n m e) o q)
      go false o = all_here k n ts o ∙ h n ∙ sym (all_left (λ m. m) (λ m. has m set) _ n (λ m e. eqb-true n m e) o q)

  run_left : (r : Runner) (ts : List Thread) → ((n : ℕ) → here is_running n ts ≡ one_if (runs_as n r)) → (n : ℕ) →
      here is_running n (map (without_managers set) (left set ts)) ≡ one_if (runs_as n (left_runner r))
  run_left r ts h n = go (has n set) refl
    where
      go : (b : Bool) → has n set ≡ b → here is_running n (map (without_managers set) (left set ts)) ≡ one_if (runs_as n (left_runner r))
      go true o = rw (runs_left n r, o) (none_here is_running n ts o)
      go false o = rw (runs_left n r, o) (all_here is_running n ts o ∙ h n)

  once_left : (ts : List Thread) → ((n : ℕ) → count (named n) ts ≤ 1) → (n : ℕ) →
      count (named n) (map (without_managers set) (left set ts)) ≤ 1
  unfolding without_managers
  once_left ts h n = omega (
    arith,
    h n,
    names_kept (without_managers set) (λ t. refl) n (left set ts),
    count_keep_le (named n)
        (λ t. not (has t.name set)) ts,
  )

  -- Threads, runner and queues without the names of a set agree as before.
  pub left_keeps : {ts : List Thread} {r : Runner} {q c : List ℕ} → Places ts r q c →
      Places (map (without_managers set) (left set ts)) (left_runner r) (left_queue q) (left_queue c)
  left_keeps {ts} {r} {q} {c} P = record {
    once = once_left ts P.once;
    run = run_left r ts P.run;
    wait = queue_left is_ready q ts P.wait;
    beat = queue_left on_clock c ts P.beat;
  }
