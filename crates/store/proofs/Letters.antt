-- Messages: the blocks they use, one that joins its inbox, and one that is taken out.
use Rattle.std.proofs.Common.{◌≡◌, ℕ, ◌+◌, ◌<◌, ◌≤◌, Bool, false, not, leb, List, ◌∷◌, ◌++◌, get_or, take, drop, sym, refl, ap, ◌∙◌, arith, Option, None, Some}
use Rattle.std.specs.List.{position}
use Rattle.memory.proofs.Listing.{found, nowhere, is_none}
use borrow.Author.Tests.{lt-leb}
use Rattle.rules.specs.Lists.{Pulled, missing, pulled, insert, pull}
use Rattle.rules.specs.Tables.{with_messages}
use Rattle.rules.specs.Waking.{is_ordinary, blocks_used, queue}
use Rattle.rules.specs.Refusals.{no_block_free}
use Rattle.laws.specs.Words.{Message}
use Rattle.laws.proofs.Tally.{count_length}
use Rattle.memory.specs.Rows.{view, place, no_message, MessagesAre}
use Rattle.memory.specs.Memory.{rows_of}
use Rattle.memory.proofs.Sizes.{messages_whole}
use Rattle.moving.proofs.Found.{found_within, found_pull, no_pull, insert_at}
use Rattle.store.specs.Store.{limits, tables, Shaped, Holding, Leaves, Takes}
use Rattle.store.proofs.Written.{leaves, messages_are}
use Rattle.store.proofs.Searched.{messages_length}

-- with fewer messages than blocks one is free
pub block_free : (m : List ℕ) → Shaped m → (rows_of m).letters < (rows_of m).limits.blocks → false ≡ no_block_free (limits m) (tables m)
unfolding limits
block_free m s h = sym (lt-leb (rows_of m).limits.blocks (blocks_used (tables m))
    (omega (arith, messages_length m s, count_length (λ x. is_ordinary x.kind) (tables m).messages)))

module _ (m : List ℕ) (H : Holding m) where
  -- the end of x's inbox is at i
  module _ (x : Message) (i : ℕ) (f : i ≡ place (λ y. not (leb y.to x.to)) (view (rows_of m)).messages) where
    pub end_inside : i ≤ (rows_of m).letters
    unfolding Shaped
    end_inside = found_within _ (rows_of m).letters (rows_of m).messages i (messages_whole m _ H.shaped) f

    pub queued : {m' : List ℕ} → MessagesAre (rows_of m) (rows_of m') (take i (view (rows_of m)).messages ++ x
        ∷ drop i (view (rows_of m)).messages) → Leaves m m' (queue x (tables m))
    unfolding tables queue
    queued q =
        let e : insert (λ y. leb y.to x.to) x (tables m).messages ≡ take i (tables m).messages ++ x ∷ drop i (tables m).messages
        = insert_at (λ y. leb y.to x.to) (λ y. not (leb y.to x.to)) (λ y. refl) x (tables m).messages
        ∙ ap (λ (j : ℕ). take j (tables m).messages ++ x ∷ drop j (tables m).messages) (sym f) in
        leaves (rw e (messages_are H.shaped q)) H.rising

  -- where the oldest is that is wanted
  module _ (p : Message → Bool) {r : Option ℕ} (f : r ≡ position p (view (rows_of m)).messages) where
    pub oldest_at : {i : ℕ} → r ≡ Some i → (i ≡ place p (view (rows_of m)).messages) × (i < (rows_of m).letters)
    unfolding tables
    oldest_at e = let h = found p _ (view (rows_of m)).messages (sym f ∙ e) in (h.0, omega (arith, h.1, messages_length m H.shaped))

    pub oldest_none : ((i : ℕ) → r ≡ Some i → ⊥) → (rows_of m).letters ≤ place p (view (rows_of m)).messages
    unfolding tables
    oldest_none e =
        omega (arith, nowhere p (view (rows_of m)).messages (is_none (λ i h. e i (f ∙ h))), messages_length m H.shaped)

  -- the oldest that is wanted is at i
  module _ (p : Message → Bool) (i : ℕ) (f : i ≡ place p (view (rows_of m)).messages) where
    pub taken : {m' : List ℕ} (x : Message) → i < (rows_of m).letters → x ≡ get_or (rows_of m).messages i no_message →
        MessagesAre (rows_of m) (rows_of m') (take i (view (rows_of m)).messages ++ drop (i + 1) (view (rows_of m)).messages) →
        Takes m m' (Some x) (pull p (tables m).messages)
    unfolding tables Shaped
    taken {m'} x h e q =
        let l : List Message = take i (tables m).messages ++ drop (i + 1) (tables m).messages in
        let w : pull p (tables m).messages ≡ pulled x l
        = found_pull p (rows_of m).letters (rows_of m).messages i (messages_whole m _ H.shaped) f no_message h
        ∙ ap (λ (y : Message). pulled y l) (sym e) in
        go (pull p (tables m).messages) l w (leaves (messages_are H.shaped q) H.rising)
      where
        go : (P : Pulled Message) (l : List Message) → P ≡ pulled x l → Leaves m m' (with_messages l (tables m)) → Takes m m' (Some x) P
        go P l w L =
            record {
              none = λ z. let no : ◌≡◌ {A = ℕ} 0 1 = cc in absurd (omega (arith, no));
              one = λ y k z. (cc, let same : l ≡ k = cc in rw same at L);
            }

    pub nothing_taken : (rows_of m).letters ≤ i → Takes m m None (pull p (tables m).messages)
    unfolding tables Shaped
    nothing_taken h =
        go (pull p (tables m).messages) (no_pull p (rows_of m).letters (rows_of m).messages i (messages_whole m _ H.shaped) f h)
      where
        go : (P : Pulled Message) → P ≡ missing → Takes m m None P
        go P w =
            record {
              none = λ z. (refl, record { says = refl; same = refl; holding = H });
              one = λ y k z. let no : ◌≡◌ {A = ℕ} 0 1 = cc in absurd (omega (arith, no));
            }
