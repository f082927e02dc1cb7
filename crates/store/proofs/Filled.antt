-- Tables filled in: nothing, and an entry behind the others.
use Rattle.std.proofs.Common.{◌≡◌, ℕ, ◌+◌, ◌<◌, List, [], ◌∷◌, ◌++◌, length, take, set, refl, ap, ◌∙◌, add-one, arith, take-suc-set}
use Rattle.rules.specs.Lists.{count, chain}
use Rattle.laws.specs.Words.{Limits}
use Rattle.rules.specs.Tables.{Tables, with_threads, with_messages}
use Rattle.laws.specs.Words.{Thread, Message}
use Rattle.memory.specs.Rows.{view, Room, nothing, put_threads, put_count, put_messages, put_letters}
use Rattle.memory.specs.Memory.{rows_of}
use Rattle.memory.proofs.Sizes.{threads_long, messages_long}
use Rattle.store.specs.Store.{tables, Shaped, Holding, Fills}
use Rattle.store.proofs.Written.{fills}

behind : {A : Type 0} (l : List A) (n : ℕ) (x : A) → n < length l → take (n + 1) (set l n x) ≡ take n l ++ (x ∷ [])
behind l n x h = rw add-one (take-suc-set l n x h)

-- written at the end n of its row, by way of m₁, and counted
module _ {m m' : List ℕ} (m₁ : List ℕ) (s : Shaped m) (n : ℕ) where
  pub thread_behind : (t : Thread) → n ≡ (rows_of m).count → n < (rows_of m).limits.threads →
      rows_of m₁ ≡ put_threads (set (rows_of m).threads n t) (rows_of m) → rows_of m' ≡ put_count (n + 1) (rows_of m₁) →
      Fills m m' (with_threads ((tables m).threads ++ (t ∷ [])) (tables m))
  unfolding tables Shaped
  thread_behind t c h a b =
      fills _ (b ∙ ap (put_count (n + 1)) a)
      (ap (λ (l : List Thread). with_threads l (view (rows_of m)))
      (behind (rows_of m).threads n t (omega (arith, threads_long m)) ∙ ap (λ (k : ℕ). take k (rows_of m).threads ++ (t ∷ [])) c))
      refl
      (record { limits = refl; roomy = s.roomy; threads = omega arith; ready = s.ready; clock = s.clock; messages = s.messages })

  pub message_behind : (x : Message) → n ≡ (rows_of m).letters → n < (rows_of m).limits.threads + (rows_of m).limits.blocks →
      rows_of m₁ ≡ put_messages (set (rows_of m).messages n x) (rows_of m) → rows_of m' ≡ put_letters (n + 1) (rows_of m₁) →
      Fills m m' (with_messages ((tables m).messages ++ (x ∷ [])) (tables m))
  unfolding tables Shaped
  message_behind x c h a b =
      fills _ (b ∙ ap (put_letters (n + 1)) a)
      (ap (λ (l : List Message). with_messages l (view (rows_of m)))
      (behind (rows_of m).messages n x (omega (arith, messages_long m)) ∙ ap (λ (k : ℕ). take k (rows_of m).messages ++ (x ∷ [])) c))
      refl
      (record { limits = refl; roomy = s.roomy; threads = s.threads; ready = s.ready; clock = s.clock; messages = omega arith })

room_is : (m : List ℕ) → (rows_of m).room ≡ length m
unfolding rows_of
room_is m = refl

-- a memory of that length, with these limits, that holds nothing
pub empty : (m : List ℕ) (L : Limits) (w : ℕ) → Room L w → length m ≡ w → view (rows_of m) ≡ nothing → (rows_of m).limits ≡ L →
    (rows_of m).count ≡ 0 → (rows_of m).readies ≡ 0 → (rows_of m).clocks ≡ 0 → (rows_of m).letters ≡ 0 → Holding m
unfolding tables Shaped count chain
empty m L w R l v e t r c k =
    record {
      shaped = record {
        limits = refl;
        roomy = rw (e, room_is m ∙ l) R;
        threads = omega arith;
        ready = omega arith;
        clock = omega arith;
        messages = omega arith;
      };
      rising = rw (ap (λ (T : Tables). T.threads) v);
      once = λ n. rw (ap (λ (T : Tables). T.threads) v) (omega arith);
    }
