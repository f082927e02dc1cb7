-- The rule on messages by one pass over them: both ends of those passed live, and so many of them were ordinary.
use Rattle.std.proofs.Common.{◌≡◌, ℕ, ◌+◌, ◌≤◌, Bool, true, false, ◌&&◌, leb, List, [], ◌∷◌, ◌++◌, length, refl, sym, ap, ◌∙◌, arith}
use Rattle.rules.specs.Lists.{one_if, all, count}
use Rattle.rules.specs.Tables.{Tables, live}
use Rattle.rules.specs.Waking.{is_ordinary}
use Rattle.rules.specs.TableRules.{messages_right}
use Rattle.laws.specs.Words.{Limits, Message}
use Rattle.laws.proofs.Both.{fails_first, and_then}
use Rattle.laws.proofs.Tally.{count_append, count_length}
use Rattle.agreeing.proofs.Noticing.{all_more, fails_within}

module _ (T : Tables) where
  abbrev ends : Message → Bool
  ends x = live x.to T && live x.from T

  pub record Lettered (used : ℕ) (done : List Message) : Type 0 where
    pub passed : all ends done ≡ true
    pub ordinary : used ≡ count (λ x. is_ordinary x.kind) done

  pub letters_start : Lettered 0 []
  unfolding all count
  letters_start = record { passed = refl; ordinary = refl }

  module _ {used : ℕ} {done : List Message} (N : Lettered used done) where
    -- both ends of one more live
    pub letters_next : (x : Message) → ends x ≡ true → (n : ℕ) → n ≡ used + one_if (is_ordinary x.kind) → Lettered n (done ++ x ∷ [])
    unfolding count
    letters_next x e n h =
        record {
          passed = all_more ends done x N.passed e;
          ordinary = omega (arith, h, N.ordinary, count_append (λ y. is_ordinary y.kind) done (x ∷ []));
        }

    pub letters_end : (L : Limits) → done ≡ T.messages → leb used L.blocks ≡ messages_right L T
    letters_end L e =
        sym (and_then (ap (all ends) (sym e) ∙ N.passed)
        (ap (λ (n : ℕ). leb n L.blocks) (sym (N.ordinary ∙ ap (count (λ y. is_ordinary y.kind)) e))))

    pub letters_few : used ≤ length done
    letters_few = omega (arith, N.ordinary, count_length (λ y. is_ordinary y.kind) done)

  -- an end of one does not live
  pub letters_fail : (L : Limits) (done : List Message) (x : Message) (left : List Message) → done ++ x ∷ left ≡ T.messages →
      ends x ≡ false → false ≡ messages_right L T
  letters_fail L done x left split e =
      sym (fails_first _ (ap (all ends) (sym split) ∙ fails_within ends done x left e))
