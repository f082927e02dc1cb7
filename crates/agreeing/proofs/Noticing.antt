-- The rule on notices by one pass over the messages: marks at the places of senders say how many notices of each were met.
-- Names are distinct, so that a notice is the one thread's alone.
use Rattle.std.proofs.Common.{◌==◌, ◌≡◌, ℕ, zero, suc, ◌+◌, ◌<◌, ◌≤◌, Bool, true, false, ◌&&◌, ◌||◌, not, leb, List, [], ◌∷◌, ◌++◌, length, get_or, refl, sym, ap, ◌∙◌, Some, None, position, arith}
use Rattle.std.proofs.Math.ListN.{set, replicate}
use mathlib.Core.Logic.{◌≢◌}
use borrow.Author.Tests.{le-leb, lt-leb}
use Rattle.rules.specs.Lists.{one_if, all, any, count}
use Rattle.rules.specs.Tables.{Tables, named, new_thread}
use Rattle.rules.specs.States.{awaits}
use Rattle.rules.specs.Waking.{is_ordinary, notice_of}
use Rattle.rules.specs.TableRules.{notices_right}
use Rattle.laws.specs.Words.{Running, NoParent, Thread, Message}
use Rattle.laws.proofs.Tests.{and_false, and_left, and_right, or_left}
use Rattle.laws.proofs.Both.{fails_first, and_then}
use Rattle.laws.proofs.Tally.{count_append}
use Rattle.laws.proofs.Single.{first_fails, rest_once, getD_member}
use Rattle.memory.specs.Rows.{place}
use Rattle.memory.proofs.Listing.{found}
use Rattle.moving.proofs.Found.{passes_at}
use Rattle.indexing.specs.Marks.{Marked}
use Rattle.indexing.proofs.Indexing.{found_there, none_found}
use Rattle.indexing.proofs.Marking.{none_marked, still_marked, marked_there, all_places, one_fails}

-- ---- general

-- where one at most passes, one that passes is the first
once_first : {A : Type 0} (p : A → Bool) (z : A) (l : List A) → count p l ≤ 1 → (i : ℕ) → i < length l → p (get_or l i z) ≡ true →
    place p l ≡ i
unfolding place
once_first p z [] c i h e = absurd (omega arith)
once_first p z (x ∷ l) c zero h e = rw e
once_first p z (x ∷ l) c (suc i) h e =
    rw (first_fails p x l i z c (omega arith) e) (ap suc (once_first p z l (rest_once p x l c) i (omega arith) e))

module _ {A : Type 0} (p : A → Bool) where
  pub fails_within : (done : List A) (x : A) (left : List A) → p x ≡ false → all p (done ++ x ∷ left) ≡ false
  unfolding all
  fails_within [] x left e = rw e
  fails_within (y ∷ done) x left e = rw (fails_within done x left e) (and_false (p y))

  pub all_more : (done : List A) (x : A) → all p done ≡ true → p x ≡ true → all p (done ++ x ∷ []) ≡ true
  unfolding all
  all_more [] x a e = rw e
  all_more (y ∷ done) x a e = rw (and_left (p y) _ a) (all_more done x (and_right (p y) _ a) e)

-- ---- the rule's two tests

-- a notice's sender is trapped on its receiver
abbrev trapped : List Thread → Message → Bool
trapped ts m = is_ordinary m.kind || any (λ t. named m.from t && awaits m.to t) ts

-- a thread sent one notice at most
abbrev single : List Message → Thread → Bool
single ms t = leb (count (notice_of t.name) ms) 1

-- stands for a thread that is not there
abbrev none : Thread
none = new_thread 0 NoParent Running

-- ---- the loop, which passed these messages

module _ (T : Tables) where
  abbrev name_at : ℕ → ℕ
  name_at j = (get_or T.threads j none).name

  -- how many notices of the thread at j were met
  abbrev met : List Message → ℕ → ℕ
  met done j = count (notice_of (name_at j)) done

  pub record Noticed (seen : List Bool) (done : List Message) : Type 0 where
    pub passed : all (trapped T.threads) done ≡ true
    pub marks : Marked (length T.threads) (met done) seen

  pub notice_starts : length T.threads ≤ 256 → Noticed (replicate 256 false) []
  unfolding count all
  notice_starts h = record { passed = refl; marks = none_marked _ 256 _ h (λ k. refl) }

  pub notice_ends : (seen : List Bool) (done : List Message) → Noticed seen done → done ≡ T.messages → true ≡ notices_right T
  notice_ends seen done N e =
      sym (and_then (ap (all (trapped T.threads)) (sym e) ∙ N.passed) (all_places (single T.messages) none T.threads
      (λ j l. le-leb _ 1 (omega (arith, N.marks.few j l, ap (λ (ms : List Message). met ms j) e)))))

  module _ (seen : List Bool) (done : List Message) (x : Message) (N : Noticed seen done) where
    more : (n : ℕ) → count (notice_of n) (done ++ x ∷ []) ≡ count (notice_of n) done + one_if (notice_of n x)
    unfolding count
    more n = count_append (notice_of n) done (x ∷ []) ∙ omega arith

    pub notice_skips : is_ordinary x.kind ≡ true → Noticed seen (done ++ x ∷ [])
    notice_skips o =
        record {
          passed = all_more (trapped T.threads) done x N.passed (or_left _ _ o);
          marks = still_marked _ _ _ seen N.marks
              (λ j b. more (name_at j) ∙ (ap (λ (t : Bool). met done j + one_if (not t && x.from == name_at j)) o ∙ omega arith));
        }

    -- ---- it is a notice
    module _ (o : is_ordinary x.kind ≡ false) where
      module _ (left : List Message) (split : done ++ x ∷ left ≡ T.messages) where
        untrapped : trapped T.threads x ≡ false → false ≡ notices_right T
        untrapped e = sym (fails_first _ (ap (all (trapped T.threads)) (sym split) ∙ fails_within (trapped T.threads) done x left e))

        -- nobody is its sender
        pub no_sender : position (named x.from) T.threads ≡ None → false ≡ notices_right T
        no_sender e = untrapped (rw o (none_found (named x.from) (awaits x.to) T.threads e))

      -- j is the place of its sender
      module _ (once : (n : ℕ) → count (named n) T.threads ≤ 1) (j : ℕ) (at : position (named x.from) T.threads ≡ Some j) where
        place_is_j : (j ≡ place (named x.from) T.threads) × (j < length T.threads)
        place_is_j = found (named x.from) j T.threads at

        says : (d : Thread) → trapped T.threads x ≡ awaits x.to (get_or T.threads j d)
        says d = rw o (found_there (named x.from) (awaits x.to) T.threads j d (once x.from) at)

        of_name : (n : ℕ) → count (notice_of n) (done ++ x ∷ []) ≡ count (notice_of n) done + one_if (x.from == n)
        of_name n = more n ∙ ap (λ (t : Bool). count (notice_of n) done + one_if (not t && x.from == n)) o

        named_there : named x.from (get_or T.threads j none) ≡ true
        named_there = ap (λ (k : ℕ). named x.from (get_or T.threads k none)) place_is_j.0
            ∙ passes_at (named x.from) none T.threads (omega (arith, place_is_j.0, place_is_j.1))

        there : met (done ++ x ∷ []) j ≡ met done j + 1
        there = of_name (name_at j) ∙ ap (λ (t : Bool). met done j + one_if t) named_there

        elsewhere : (k : ℕ) → k < length T.threads → k ≢ j → met (done ++ x ∷ []) k ≡ met done k
        elsewhere k l u =
            of_name (name_at k) ∙ (ap (λ (t : Bool). met done k + one_if t) (go (x.from == name_at k) refl) ∙ omega arith)
          where
            go : (b : Bool) → (x.from == name_at k) ≡ b → b ≡ false
            go false e = refl
            go true e = absurd (u (sym (once_first (named x.from) none T.threads (once x.from) k l e) ∙ sym place_is_j.0))

        -- it is trapped on the receiver, and its first
        pub met_now : (d : Thread) → awaits x.to (get_or T.threads j d) ≡ true → get_or seen j false ≡ false →
            Noticed (set seen j true) (done ++ x ∷ [])
        met_now d e u =
            record {
              passed = all_more (trapped T.threads) done x N.passed (says d ∙ e);
              marks = marked_there _ _ _ seen N.marks j place_is_j.1
                  (omega (arith, there, N.marks.says j place_is_j.1, ap one_if u)) elsewhere;
            }

        module _ (left : List Message) (split : done ++ x ∷ left ≡ T.messages) where
          -- it is not trapped on the receiver
          pub not_trapped : (d : Thread) → awaits x.to (get_or T.threads j d) ≡ false → false ≡ notices_right T
          not_trapped d e = untrapped left split (says d ∙ e)

          -- another of it was met
          pub met_again : get_or seen j false ≡ true → false ≡ notices_right T
          unfolding count
          met_again u =
              let a : count (notice_of (name_at j)) T.messages ≡ met done j + (one_if (notice_of (name_at j) x) + count (notice_of (name_at j)) left) =
              ap (count (notice_of (name_at j))) (sym split) ∙ count_append (notice_of (name_at j)) done (x ∷ left) in
              let two : 2 ≤ count (notice_of (name_at j)) T.messages =
              omega (arith, a, there, more (name_at j), N.marks.says j place_is_j.1, ap one_if u) in
              let f = one_fails (single T.messages) T.threads (get_or T.threads j none) (getD_member T.threads j none place_is_j.1)
              (lt-leb _ 1 two) in
              sym (ap (λ (b : Bool). all (trapped T.threads) T.messages && b) f ∙ and_false _)
