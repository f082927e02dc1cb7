-- Bytes put at the front of a lent buffer, and more of them put into the part behind those.
use Prim.Native.Nat.{ℕ, suc, ◌+◌, ◌-◌, ◌/◌, ◌%◌, ◌≤◌, ◌<◌}
use mathlib.Core.Path.{◌≡◌, refl, sym, ap, ap₂, ◌∙◌, subst}
use mathlib.Core.List.{List, [], ◌∷◌, ◌++◌, append-nil, append_assoc}
use native.Mathlib.Omega.{arith}
use lib.ListN.{length, take, drop, get_or, set, length-append, length-drop, drop_of_length-le}
use lib.Seq.{take_all, take_at, drop_at, drop-drop, drop-cons, drop-append-add, drop-append_seam, set_at, append_snoc}
use Rattle.rules.specs.Lists.{two_bytes}
use Rattle.buffer.specs.Puts.{Puts}

-- a length of one byte
pub short_length : (n : ℕ) → n < 256 → two_bytes n ≡ 0 ∷ n ∷ []
short_length n h =
    let high : n / 256 % 256 ≡ 0 = omega arith in
    let low : n % 256 ≡ n = omega arith in
    rw (high, low)

-- ---- a part of the buffer behind what was put

-- the part from k on, as it is lent
abbrev pub rest : ℕ → List ℕ → List ℕ
rest k l = take (length l - k) (drop k l)

-- the buffer when the part comes back as ys
abbrev pub back : ℕ → List ℕ → List ℕ → List ℕ
back k l ys = take k l ++ (ys ++ drop (length l - k) (drop k l))

rest_is : (k : ℕ) (l : List ℕ) → rest k l ≡ drop k l
rest_is k l = take_all (length l - k) (drop k l) (omega (arith, length-drop k l))

back_is : (k : ℕ) (l ys : List ℕ) → back k l ys ≡ take k l ++ ys
back_is k l ys =
    let none : drop (length l - k) (drop k l) ≡ [] = drop_of_length-le (drop k l) {i = length l - k} (omega (arith, length-drop k l)) in
    ap (λ (t : List ℕ). take k l ++ (ys ++ t)) none ∙ ap (λ (t : List ℕ). take k l ++ t) (append-nil ys)

module _ {a before mid : List ℕ} {k : ℕ} (p : Puts a before mid k) where
  -- the part is what it was before
  pub rest_same : rest k mid ≡ drop k before
  rest_same =
      rest_is k mid ∙ (ap (drop k) p.shows
      ∙ (drop_at a (drop (length a) before) k (sym p.counts) ∙ ap (λ (j : ℕ). drop j before) (sym p.counts)))

  -- More is put into the part: all of it stands at the front.
  pub behind : {c ys : List ℕ} {n : ℕ} → Puts c (rest k mid) ys n → Puts (a ++ c) before (back k mid ys) (k + n)
  behind {c} {ys} {n} q =
      record {
        counts = omega (arith, p.counts, q.counts, length-append a c);
        shows = back_is k mid ys
            ∙ (ap₂ (λ (s t : List ℕ). s ++ t) front tail
            ∙ (sym (append_assoc a c (drop (k + length c) before)) ∙ ap (λ (j : ℕ). (a ++ c) ++ drop j before) total));
      }
    where
      front : take k mid ≡ a
      front = ap (take k) p.shows ∙ take_at a (drop (length a) before) k (sym p.counts)

      tail : ys ≡ c ++ drop (k + length c) before
      tail = q.shows ∙ ap (λ (l : List ℕ). c ++ l) (ap (drop (length c)) rest_same ∙ drop-drop (length c) k before)

      total : k + length c ≡ length (a ++ c)
      total = omega (arith, p.counts, length-append a c)

  -- a place that is named by its number
  pub counted : (m : ℕ) → m ≡ length a → Puts a before mid m
  counted m e = record { counts = e; shows = p.shows }

  -- what was put lies within the buffer
  pub place_within : k ≤ length mid
  place_within = omega (arith, p.counts, ap length p.shows, length-append a (drop (length a) before))

  -- the buffer stays as long as it was
  pub stays_long : length a ≤ length before → length mid ≡ length before
  stays_long h = ap length p.shows ∙ omega (arith, length-append a (drop (length a) before), length-drop (length a) before)

  -- and so the part has what is left of it
  pub room : length (rest k mid) ≡ length before - k
  room = ap length rest_same ∙ length-drop k before

  -- the same bytes, said otherwise
  pub said : {c : List ℕ} → a ≡ c → Puts c before mid k
  said e = subst (λ (t : List ℕ). Puts t before mid k) e p

  -- More is put over them: the buffer is as if only that had been put.
  pub over : {c after : List ℕ} {n : ℕ} → length a ≤ length c → Puts c mid after n → Puts c before after n
  over {c} {after} {n} h q = record { counts = q.counts; shows = q.shows ∙ ap (λ (l : List ℕ). c ++ l) same }
    where
      same : drop (length c) mid ≡ drop (length c) before
      same =
          let more : length c ≡ length a + (length c - length a) = omega arith in
          ap (λ (j : ℕ). drop j mid) more ∙ (ap (drop (length a + (length c - length a))) p.shows
          ∙ (drop-append-add a (drop (length a) before) (length c - length a)
          ∙ (drop-drop (length c - length a) (length a) before ∙ ap (λ (j : ℕ). drop j before) (sym more))))

  -- They stand at the front of the buffer that they were put in.
  pub at_the_front : Puts a mid mid k
  at_the_front =
      let same : drop (length a) mid ≡ drop (length a) before =
      ap (drop (length a)) p.shows ∙ drop-append_seam a (drop (length a) before) in
      record { counts = p.counts; shows = p.shows ∙ ap (λ (l : List ℕ). a ++ l) (sym same) }

  -- one more byte
  pub one_more : (x : ℕ) → k < length before → Puts (a ++ (x ∷ [])) before (set mid k x) (k + 1)
  one_more x h =
      let longer : suc k ≡ length (a ++ (x ∷ [])) = omega (arith, p.counts, length-append a (x ∷ [])) in
      record {
        counts = omega (arith, longer);
        shows = ap (λ (l : List ℕ). set l k x) (p.shows
            ∙ ap (λ (l : List ℕ). a ++ l) (ap (λ (j : ℕ). drop j before) (sym p.counts) ∙ drop-cons before k 0 h))
            ∙ (set_at a (get_or before k 0) (drop (suc k) before) x k (sym p.counts)
            ∙ (sym (append_snoc a x (drop (suc k) before)) ∙ ap (λ (j : ℕ). (a ++ (x ∷ [])) ++ drop j before) longer));
      }

-- what stands at the front of a buffer, wherever that was learnt
pub record Front (a before : List ℕ) : Type 0 where
  pub mid : List ℕ
  pub place : ℕ
  pub so : Puts a before mid place

abbrev pub front : {a before mid : List ℕ} {k : ℕ} → Puts a before mid k → Front a before
front {a} {before} {mid} {k} p = record { mid = mid; place = k; so = p }

abbrev pub after : {a c before ys : List ℕ} {n : ℕ} (f : Front a before) → Puts c (rest f.place f.mid) ys n → Front (a ++ c) before
after f p = front (behind f.so p)

-- nothing was put yet
pub puts_none : (b : List ℕ) → Puts [] b b 0
puts_none b = record { counts = refl; shows = refl }
