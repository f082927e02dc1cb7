-- Rows filled in: the memory that a stage of reading leaves.
use Rattle.std.proofs.Common.{if◌then◌else◌, ◌==◌}
use Prim.Native.Nat.{ℕ, ◌+◌, ◌≤◌, ◌<◌}
use mathlib.Core.Path.{◌≡◌, refl, sym, ap, ap₂, ◌∙◌}
use mathlib.Core.Logic.{⊎_elim}
use mathlib.Core.Bool.{Bool, true, false, not}
use mathlib.Core.List.Memᴰ
use mathlib.Core.List.{List, [], ◌∷◌, ◌++◌, Memᴰ}
use native.Mathlib.Numerals.{add-one}
use native.Mathlib.Omega.{arith}
use lib.Dec.{ltb}
use lib.ListN.{length, take, drop, get_or, length-append}
use lib.Seq.{take-suc, take_all, length-take-le}
use borrow.Author.Tests.{ltb-true, lt-ltb, ne_eqb}
use Rattle.rules.specs.Lists.{all, keep, insert, chain}
use Rattle.rules.specs.Numbers.{small, devices}
use Rattle.rules.specs.Tables.{Tables, with_last, with_runner, with_time, with_threads, with_ready, with_clock, with_messages, with_held}
use Rattle.rules.specs.Interrupt.{held_for, hold}
use Rattle.rules.specs.Dump.{thread_value, message_value, held_value}
use Rattle.rules.specs.Load.{thread_from, message_from, held_from}
use Rattle.laws.specs.Words.{Thread, Message, Held, Runner}
use Rattle.laws.proofs.Tally.{all_of, all_at}
use Rattle.laws.proofs.Members.{mem_keep, mem_insert}
use Rattle.laws.proofs.Ordered.{chain_tail, up_below}
use Rattle.laws.proofs.DumpLength.{thread_length, message_length, held_length}
use Rattle.store.specs.Store.{limits, tables, Shaped, Leaves, Fills}
use Rattle.loading.specs.Reading.{opens, Small, names_in, with_names, RowRead, Backs, HeldFine}
use Rattle.loading.proofs.Cutting.{Cut, cut_starts, cut_next, cut_ends, cut_full, cut_stops}

pub still_small : {m m' : List ℕ} {T : Tables} → Small m → Fills m m' T → Small m'
still_small S F = record { shaped = F.shaped; limits = F.same ∙ S.limits }

-- ---- a row of one kind

-- what a kind of row is: its fields, where it stands in the tables, and what holds of a row that n fields gave
pub record Kind (A : Type 0) : Type 1 where
  pub most : ℕ
  pub tag : ℕ
  pub size : ℕ
  pub value : A → List ℕ
  pub back : List ℕ → A
  pub fine : List A → Type 0
  pub get : Tables → List A
  pub put : List A → Tables → Tables
  pub holds : List A → ℕ → Type 0
  pub sized : (x : A) → length (value x) ≡ size
  pub short : size < 256
  pub backs : (xs : List A) → fine xs → (x : A) → Memᴰ x xs → back (value x) ≡ x
  pub put_get : (T : Tables) → put (get T) T ≡ T
  pub get_put : (l : List A) (T : Tables) → get (put l T) ≡ l
  pub put_put : (l k : List A) (T : Tables) → put l (put k T) ≡ put l T

-- the loop of a stage: the memory m₀ became m after n fields
pub record Rowing {A : Type 0} (K : Kind A) (m₀ bytes : List ℕ) (from : ℕ) (m : List ℕ) (n at : ℕ) : Type 0 where
  pub long : length m ≡ length m₀
  pub only : Fills m₀ m (K.put (K.get (tables m)) (tables m₀))
  pub small : limits m₀ ≡ small
  pub holds : K.holds (K.get (tables m)) n
  pub cut : Cut K.most K.tag K.value K.fine bytes from (K.get (tables m)) n at

-- what a stage leaves
abbrev pub Left : {A : Type 0} → Kind A → List ℕ → List ℕ → ℕ → List ℕ → ℕ → Type 0
Left K m₀ bytes from m at =
    (at ≤ length bytes)
    × Fills m₀ m (K.put (K.get (tables m)) (tables m₀))
    × RowRead K.most K.tag K.value K.fine (drop from bytes) (K.get (tables m)) (drop at bytes)

module _ {A : Type 0} (K : Kind A) (m₀ bytes : List ℕ) (from : ℕ) where
  pub rowing_starts : Small m₀ → K.get (tables m₀) ≡ [] → from ≤ length bytes → K.holds (K.get (tables m₀)) 0 →
      Rowing K m₀ bytes from m₀ 0 from
  rowing_starts S e h k = record {
    long = refl;
    only = record { says = sym (K.put_get (tables m₀)); same = refl; shaped = S.shaped };
    small = S.limits;
    holds = k;
    cut = cut_starts K.most K.tag K.size K.value K.back K.fine K.sized K.short K.backs bytes from
        (K.get (tables m₀)) e h;
  }

  module _ (m : List ℕ) (n at : ℕ) (R : Rowing K m₀ bytes from m n at) where
    -- the memory m became m', in which the row is l
    pub rowing_next : (m' : List ℕ) (x : A) (l : List A) → n < K.most → opens K.tag K.size (drop at bytes) ≡ true
        → x ≡ K.back (take K.size (drop (at + 3) bytes)) → Fills m m' (K.put l (tables m)) → K.holds l (n + 1)
        → ((xs zs : List A) → K.fine xs → K.get (tables m) ++ x ∷ zs ≡ xs → l ≡ K.get (tables m) ++ (x ∷ []))
        → length m' ≡ length m → Rowing K m₀ bytes from m' (n + 1) (at + (K.size + 3))
    rowing_next m' x l h o e F k grown j =
        let now : K.get (tables m') ≡ l = ap K.get F.says ∙ K.get_put l (tables m) in
        record {
          long = j ∙ R.long;
          only = record {
            says = F.says ∙ ap (K.put l) R.only.says ∙ K.put_put l (K.get (tables m)) (tables m₀)
                ∙ ap (λ (r : List A). K.put r (tables m₀)) (sym now);
            same = F.same ∙ R.only.same;
            shaped = F.shaped;
          };
          small = R.small;
          holds = rw now k;
          cut = cut_next K.most K.tag K.size K.value K.back K.fine K.sized K.short K.backs bytes from
              (K.get (tables m)) (K.get (tables m')) n at x R.cut h o e (λ xs zs f g. now ∙ grown xs zs f g);
        }

    left : RowRead K.most K.tag K.value K.fine (drop from bytes) (K.get (tables m)) (drop at bytes) → Left K m₀ bytes from m at
    left r = (R.cut.within, R.only, r)

    pub rowing_ends : opens K.tag K.size (drop at bytes) ≡ false → Left K m₀ bytes from m at
    rowing_ends o = left (cut_ends K.most K.tag K.size K.value K.back K.fine K.sized K.short K.backs bytes from
        (K.get (tables m)) n at R.cut o)

    pub rowing_full : K.most ≤ n → Left K m₀ bytes from m at
    rowing_full h = left (cut_full K.most K.tag K.size K.value K.back K.fine K.sized K.short K.backs bytes from
        (K.get (tables m)) n at R.cut h)

    pub rowing_stops : (x : A) → opens K.tag K.size (drop at bytes) ≡ true →
        x ≡ K.back (take K.size (drop (at + 3) bytes))
        → ((xs : List A) → K.fine xs → Memᴰ x xs → ⊥) → Left K m₀ bytes from m at
    rowing_stops x o e never = left (cut_stops K.most K.tag K.size K.value K.back K.fine K.sized K.short K.backs
        bytes from (K.get (tables m)) n at x R.cut o e never)

-- ---- threads and messages: each behind the others

abbrev pub thread_kind : Kind Thread
thread_kind =
    record {
      most = 20;
      tag = 2;
      size = 17;
      value = thread_value;
      back = thread_from;
      fine = Backs thread_value thread_from;
      get = λ T. T.threads;
      put = with_threads;
      holds = λ l n. length l ≡ n;
      sized = thread_length;
      short = omega arith;
      backs = λ xs f. f.each_back;
      put_get = λ T. refl;
      get_put = λ l T. refl;
      put_put = λ l k T. refl;
    }

abbrev pub message_kind : Kind Message
message_kind =
    record {
      most = 40;
      tag = 5;
      size = 7;
      value = message_value;
      back = message_from;
      fine = Backs message_value message_from;
      get = λ T. T.messages;
      put = with_messages;
      holds = λ l n. length l ≡ n;
      sized = message_length;
      short = omega arith;
      backs = λ xs f. f.each_back;
      put_get = λ T. refl;
      get_put = λ l T. refl;
      put_put = λ l k T. refl;
    }

-- one more is there
pub one_longer : {A : Type 0} (l : List A) (x : A) (n : ℕ) → length l ≡ n → length (l ++ (x ∷ [])) ≡ n + 1
one_longer l x n e = omega (arith, length-append l (x ∷ []), e)

-- there is room for it
pub thread_room : {m₀ bytes : List ℕ} {from : ℕ} {m : List ℕ} {n at : ℕ} → Rowing thread_kind m₀ bytes from m n at → n < 20 →
    Shaped m × (length (tables m).threads < (limits m).threads)
thread_room {m₀} {bytes} {from} {m} R h = let l : limits m ≡ small = R.only.same ∙ R.small in
    (R.only.shaped, rw l (omega (arith, R.holds)))

pub message_room : {m₀ bytes : List ℕ} {from : ℕ} {m : List ℕ} {n at : ℕ} → Rowing message_kind m₀ bytes from m n at → n < 40 →
    Shaped m × (length (tables m).messages < (limits m).threads + (limits m).blocks)
message_room {m₀} {bytes} {from} {m} R h = let l : limits m ≡ small = R.only.same ∙ R.small in
    (R.only.shaped, rw l (omega (arith, R.holds)))

-- ---- held words: each in its place

abbrev low : Held → Bool
low h = ltb h.device devices

abbrev pub held_kind : Kind Held
held_kind =
    record {
      most = 48;
      tag = 6;
      size = 5;
      value = held_value;
      back = held_from;
      fine = HeldFine;
      get = λ T. T.held;
      put = with_held;
      holds = λ l n. all (λ h. ltb h.device devices) l ≡ true;
      sized = held_length;
      short = omega arith;
      backs = λ xs f. f.backs.each_back;
      put_get = λ T. refl;
      get_put = λ l T. refl;
      put_put = λ l k T. refl;
    }

-- behind lower devices a word stands last
rising_last : (hs zs : List Held) (h : Held) → chain (λ a b. ltb a.device b.device) (hs ++ h ∷ zs) ≡ true →
    hold h.device h.word hs ≡ hs ++ (h ∷ [])
unfolding hold keep insert
rising_last [] zs h c = refl
rising_last (k ∷ hs) zs h c =
    let l : k.device < h.device = up_below (λ (a : Held). a.device) k (hs ++ h ∷ zs) c h (Memᴰ.append_right hs (Memᴰ.head refl)) in
    let r = rising_last hs zs h (chain_tail (λ a b. ltb a.device b.device) k (hs ++ h ∷ zs) c) in
    rw (ne_eqb k.device h.device (λ i. omega arith), lt-ltb k.device h.device l) (ap (λ (s : List Held). k ∷ s) r)

pub held_last : (xs hs zs : List Held) (h : Held) → HeldFine xs → hs ++ h ∷ zs ≡ xs → hold h.device h.word hs ≡ hs ++ (h ∷ [])
held_last xs hs zs h f e = rising_last hs zs h (ap (chain (λ a b. ltb a.device b.device)) e ∙ f.rising)

pub held_low : (hs : List Held) (d w : ℕ) → d < devices → all (λ h. ltb h.device devices) hs ≡ true →
    all (λ h. ltb h.device devices) (hold d w hs) ≡ true
unfolding hold
held_low hs d w l a =
    all_of low _ (λ x m. ⊎_elim
    (λ i. ap low i ∙ lt-ltb d devices l)
    (λ i. all_at low hs a x (mem_keep (λ h. not (held_for d h)) hs i).0)
    (mem_insert (λ h. ltb h.device d) (record { device = d; word = w }) (keep (λ h. not (held_for d h)) hs) m))

-- no row that is fine has a device that there is not
pub never_high : (h : Held) → devices ≤ h.device → (xs : List Held) → HeldFine xs → Memᴰ h xs → ⊥
never_high h l xs f m = let k : h.device < devices = ltb-true h.device devices (f.low h m) in omega arith

-- ---- names

names_back : (tag : ℕ) (q : List ℕ) (T : Tables) → names_in tag (with_names tag q T) ≡ q
names_back tag q T = go (tag == 3)
  where
    go : (b : Bool) →
        (if b then (if b then with_ready q T else with_clock q T).ready else (if b then with_ready q T else with_clock q T).clock) ≡ q
    go true = refl
    go false = refl

names_over : (tag : ℕ) (q p : List ℕ) (T : Tables) → with_names tag q (with_names tag p T) ≡ with_names tag q T
names_over tag q p T = go (tag == 3)
  where
    go : (b : Bool) →
        (if b then with_ready q (if b then with_ready p T else with_clock p T) else with_clock q
        (if b then with_ready p T else with_clock p T)) ≡ (if b then with_ready q T else with_clock q T)
    go true = refl
    go false = refl

pub names_same : (tag : ℕ) (T : Tables) → with_names tag (names_in tag T) T ≡ T
names_same tag T = go (tag == 3)
  where
    go : (b : Bool) → (if b then with_ready (if b then T.ready else T.clock) T else with_clock (if b then T.ready else T.clock) T) ≡ T
    go true = refl
    go false = refl

-- the loop: i names stand in the queue
pub record Naming (tag : ℕ) (names m₀ m : List ℕ) (i : ℕ) : Type 0 where
  pub few : length names ≤ 20
  pub within : i ≤ length names
  pub long : length m ≡ length m₀
  pub small : limits m₀ ≡ small
  pub only : Fills m₀ m (with_names tag (take i names) (tables m₀))

module _ (tag : ℕ) (names m₀ : List ℕ) where
  pub naming_starts : Small m₀ → names_in tag (tables m₀) ≡ [] → length names ≤ 20 → Naming tag names m₀ m₀ 0
  naming_starts S e h = record {
    few = h;
    within = omega arith;
    long = refl;
    small = S.limits;
    only = record {
      says = sym (ap (λ (q : List ℕ). with_names tag q (tables m₀)) (sym e) ∙ names_same tag (tables m₀));
      same = refl;
      shaped = S.shaped;
    };
  }

  module _ (m : List ℕ) (i : ℕ) (N : Naming tag names m₀ m i) where
    pub names_now : names_in tag (tables m) ≡ take i names
    names_now = ap (names_in tag) N.only.says ∙ names_back tag (take i names) (tables m₀)

    pub naming_room : i < length names → Shaped m × (length (names_in tag (tables m)) < (limits m).threads)
    naming_room h =
        let k : length (names_in tag (tables m)) ≡ i = ap length names_now ∙ length-take-le i names N.within in
        let l : limits m ≡ small = N.only.same ∙ N.small in
        (N.only.shaped, rw l (omega (arith, k, N.few)))

    pub naming_next : (m' : List ℕ) (x : ℕ) → i < length names → x ≡ get_or names i 0 →
        Fills m m' (with_names tag (names_in tag (tables m) ++ (x ∷ [])) (tables m)) → length m' ≡ length m → Naming tag names m₀ m' (i + 1)
    naming_next m' x h e F j =
        let more : names_in tag (tables m) ++ (x ∷ []) ≡ take (i + 1) names =
        ap (λ (q : List ℕ). q ++ (x ∷ [])) names_now ∙ ap (λ (y : ℕ). take i names ++ (y ∷ [])) e
        ∙ sym (ap (λ (j : ℕ). take j names) (add-one i) ∙ take-suc names i 0 h) in
        record {
          few = N.few;
          within = omega arith;
          long = j ∙ N.long;
          small = N.small;
          only = record {
            says = F.says ∙ ap (λ (q : List ℕ). with_names tag q (tables m)) more
                ∙ ap (with_names tag (take (i + 1) names)) N.only.says
                ∙ names_over tag (take (i + 1) names) (take i names) (tables m₀);
            same = F.same ∙ N.only.same;
            shaped = F.shaped;
          };
        }

    pub naming_ends : length names ≤ i → Fills m₀ m (with_names tag names (tables m₀))
    naming_ends h = record {
      says = N.only.says ∙ ap (λ (q : List ℕ). with_names tag q (tables m₀)) (take_all i names h);
      same = N.only.same;
      shaped = N.only.shaped;
    }

-- the names q were
module _ (tag : ℕ) (q m m' : List ℕ) (F : Fills m m' (with_names tag q (tables m))) where
  pub named_now : names_in tag (tables m') ≡ q
  named_now = ap (names_in tag) F.says ∙ names_back tag q (tables m)

  pub named : Fills m m' (with_names tag (names_in tag (tables m')) (tables m))
  named = record { says = F.says ∙ ap (λ (l : List ℕ). with_names tag l (tables m)) (sym named_now); same = F.same; shaped = F.shaped }

-- ---- the head

-- m became m₁, m₂ and then m'
pub head_written : {m m₁ m₂ m' : List ℕ} {a c w v : ℕ} {r s : Runner} → Leaves m m₁ (with_last a (tables m)) →
    Leaves m₁ m₂ (with_runner r (tables m₁)) → Leaves m₂ m' (with_time c w (tables m₂))
    → r ≡ s → w ≡ v → Leaves m m' (with_time c v (with_runner s (with_last a (tables m))))
head_written {m} {a = a} {c = c} {w = w} {r = r} A B C e f = record {
  says = C.says ∙ ap (with_time c w) (B.says ∙ ap (with_runner r) A.says)
      ∙ ap₂ (λ (x : Runner) (y : ℕ). with_time c y (with_runner x (with_last a (tables m)))) e f;
  same = C.same ∙ B.same ∙ A.same;
  holding = C.holding;
}
