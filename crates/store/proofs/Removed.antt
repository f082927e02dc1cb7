-- The tables without those an ending has found, row by row: m became m₁ without their threads, that became m₂ without them in the ready
-- queue, m₃ without them in the clock queue, m₄ without their messages; and a runner among them runs no more.
use Rattle.std.proofs.Common.{◌≡◌, ℕ, ◌≤◌, Bool, true, false, not, ◌||◌, List, map, sym, refl, ap, ◌∙◌, if◌then◌else◌}
use Rattle.rules.specs.Lists.{has, keep}
use Rattle.rules.specs.Words.{by_runner}
use Rattle.rules.specs.Tables.{Tables, with_runner, with_threads, with_ready, with_clock, with_messages}
use Rattle.rules.specs.Ending.{without_managers, remove}
use Rattle.laws.specs.Words.{Runner, NoRunner, Runs}
use Rattle.laws.specs.Types.{Rising}
use Rattle.memory.specs.Rows.{Rows, view, members, put_runner, ThreadsLeft, ReadyIs, ClockIs, MessagesAre}
use Rattle.memory.specs.Memory.{rows_of}
use Rattle.moving.proofs.Steps.{by}
use Rattle.store.specs.Store.{limits, tables, Leaves, Fills, found, Finding, Removes}
use Rattle.store.proofs.Written.{leaves, ready_is, clock_is, messages_are, threads_left, runner_put, after, rising_map, rising_keep}

module _ (set : List ℕ) where
  abbrev no_threads : Tables → Tables
  no_threads T = with_threads (map (without_managers set) (keep (λ t. not (has t.name set)) T.threads)) T

  abbrev no_ready : Tables → Tables
  no_ready T = with_ready (keep (λ n. not (has n set)) T.ready) T

  abbrev no_clock : Tables → Tables
  no_clock T = with_clock (keep (λ n. not (has n set)) T.clock) T

  abbrev no_messages : Tables → Tables
  no_messages T = with_messages (keep (λ x. not (has x.to set || has x.from set)) T.messages) T

  -- all but the runner
  abbrev shed : Tables → Tables
  shed T = no_messages (no_clock (no_ready (no_threads T)))

  abbrev run_left : Runner → Runner
  run_left r = by_runner NoRunner (λ n s. if has n set then NoRunner else Runs n s) r

  shed_is : (T : Tables) → with_runner (run_left T.runner) (shed T) ≡ remove set T
  unfolding remove
  shed_is T = refl

  -- those who are left stand by rising name
  rising_left : (T : Tables) → Rising T.threads → Rising (remove set T).threads
  unfolding remove without_managers
  rising_left T r = rising_map _ (rising_keep T.threads r (λ t. not (has t.name set))) (without_managers set) (λ t. refl)

-- what is asked of a part, where the set is as it was
along : {m m₁ m' : List ℕ} {T : Tables} {s₁ s : List ℕ} (f : List ℕ → Tables → Tables) → s₁ ≡ s → Fills m m₁ T →
    Fills m₁ m' (f s₁ (tables m₁)) → Fills m m' (f s T)
along {m₁ = m₁} {s = s} f e a b =
    record { says = b.says ∙ (ap (λ (q : List ℕ). f q (tables m₁)) e ∙ ap (f s) a.says); same = b.same ∙ a.same; shaped = b.shaped }

module _ (m : List ℕ) (F : Finding m) where
  -- who is found stays
  abbrev Kept : Rows → Type 0
  Kept r = (members r ≡ members (rows_of m)) × (r.ends ≤ r.limits.threads)

  kept : Kept (rows_of m)
  unfolding limits
  kept = (refl, F.low)

  abbrev gone : List ℕ
  gone = members (rows_of m)

  -- one part after the other
  module _ (m₁ : List ℕ) (a : ThreadsLeft (rows_of m) (rows_of m₁)
      (map (without_managers gone) (keep (λ t. not (has t.name gone)) (view (rows_of m)).threads))) where
    pub kept₁ : Kept (rows_of m₁)
    kept₁ = by Kept a.only kept

    pub left₁ : Fills m m₁ (no_threads gone (tables m))
    unfolding tables
    left₁ = threads_left F.holding.shaped a

    module _ (m₂ : List ℕ) (b : ReadyIs (rows_of m₁) (rows_of m₂)
        (keep (λ n. not (has n (members (rows_of m₁)))) (view (rows_of m₁)).ready)) where
      pub kept₂ : Kept (rows_of m₂)
      kept₂ = by Kept b.only kept₁

      pub left₂ : Fills m m₂ (no_ready gone (no_threads gone (tables m)))
      unfolding tables
      left₂ = along (λ s T. no_ready s T) kept₁.0 left₁ (ready_is left₁.shaped b)

      module _ (m₃ : List ℕ) (c : ClockIs (rows_of m₂) (rows_of m₃)
          (keep (λ n. not (has n (members (rows_of m₂)))) (view (rows_of m₂)).clock)) where
        pub kept₃ : Kept (rows_of m₃)
        kept₃ = by Kept c.only kept₂

        pub left₃ : Fills m m₃ (no_clock gone (no_ready gone (no_threads gone (tables m))))
        unfolding tables
        left₃ = along (λ s T. no_clock s T) kept₂.0 left₂ (clock_is left₂.shaped c)

        module _ (m₄ : List ℕ) (d : MessagesAre (rows_of m₃) (rows_of m₄)
            (keep (λ x. not (has x.to (members (rows_of m₃)) || has x.from (members (rows_of m₃)))) (view (rows_of m₃)).messages))
          where
            pub kept₄ : Kept (rows_of m₄)
            kept₄ = by Kept d.only kept₃

            pub left₄ : Fills m m₄ (shed gone (tables m))
            unfolding tables
            left₄ = along (λ s T. no_messages s T) kept₃.0 left₃ (messages_are left₃.shaped d)

            -- nobody else is the runner now
            ran : (r : Runner) → r ≡ (rows_of m₄).runner → (tables m).runner ≡ r
            unfolding tables
            ran r e = sym (ap (λ (T : Tables). T.runner) left₄.says) ∙ sym e

            removes : {m' : List ℕ} (r : Runner) → run_left gone (tables m).runner ≡ r →
                Fills m m' (with_runner r (shed gone (tables m))) →
                Kept (rows_of m') → Removes m m' (remove (found m) (tables m))
            unfolding found limits
            removes {m'} r e f k =
                let l : Leaves m m' (remove gone (tables m))
                = leaves
                (record {
                  says = f.says ∙ (ap (λ (q : Runner). with_runner q (shed gone (tables m))) (sym e) ∙ shed_is gone (tables m));
                  same = f.same;
                  shaped = f.shaped;
                })
                (rising_left gone (tables m) F.holding.rising) in
                record { leaves = l; set = k.0; finding = record { holding = l.holding; low = k.1 } }

            pub removed_idle : (r : Runner) → r ≡ (rows_of m₄).runner → r ≡ NoRunner → Removes m m₄ (remove (found m) (tables m))
            removed_idle r e n =
                let w : (tables m).runner ≡ NoRunner = ran r e ∙ n in
                removes (tables m).runner (ap (run_left gone) w ∙ sym w) left₄ kept₄

            module _ (r : Runner) (k s : ℕ) (e : r ≡ (rows_of m₄).runner) (w : r ≡ Runs k s) where
              known : {b : Bool} → has k (members (rows_of m₄)) ≡ b → run_left gone (tables m).runner ≡ (if b then NoRunner else Runs k s)
              known {b} h =
                  ap (run_left gone) (ran r e ∙ w)
                  ∙ ap (λ (t : Bool). if t then NoRunner else Runs k s) (ap (has k) (sym kept₄.0) ∙ h)

              pub removed_stays : has k (members (rows_of m₄)) ≡ false → Removes m m₄ (remove (found m) (tables m))
              removed_stays h = removes (tables m).runner (known h ∙ sym (ran r e ∙ w)) left₄ kept₄

              pub removed_ends : (m₅ : List ℕ) → has k (members (rows_of m₄)) ≡ true → rows_of m₅ ≡ put_runner NoRunner (rows_of m₄) →
                  Removes m m₅ (remove (found m) (tables m))
              removed_ends m₅ h p =
                  removes NoRunner (known h) (after (with_runner NoRunner) left₄ (runner_put left₄.shaped NoRunner p)) (by Kept p kept₄)
