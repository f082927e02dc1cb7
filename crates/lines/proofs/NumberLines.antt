-- A line of numbers, put number by number.
use Prim.Native.Nat.{ℕ, ◌+◌, ◌-◌, ◌*◌, ◌≤◌, ◌<◌}
use mathlib.Core.Path.{◌≡◌, refl, sym, ap, ◌∙◌}
use mathlib.Core.List.{List, [], ◌∷◌, ◌++◌, append-nil, append_assoc}
use native.Mathlib.Numerals.{add-one}
use native.Mathlib.Omega.{arith}
use lib.ListN.{length, get_or, take, drop, set, length-append, length-drop}
use lib.Seq.{take-suc, take_all, length-take-le}
use Rattle.std.proofs.lemmas.Grind.{get_or_after_one}
use Rattle.rules.specs.Lists.{each}
use Rattle.laws.proofs.Tally.{each_append}
use Rattle.buffer.specs.Puts.{Puts}
use Rattle.buffer.proofs.Putting.{rest, back, behind, over, at_the_front, stays_long, one_more, puts_none, said}
use Rattle.lines.specs.Text.{decimal, numbers_line}
use Rattle.lines.proofs.Numerals.{few_digits}

abbrev spaced : ℕ → List ℕ
spaced m = 32 ∷ decimal m

-- the numbers of a line, without its end
unfoldable pub body : List ℕ → List ℕ
body [] = []
body (n ∷ ns) = decimal n ++ each (λ m. 32 ∷ decimal m) ns

body_first : (row : List ℕ) → 0 < length row → body (take 1 row) ≡ decimal (get_or row 0 0)
unfolding body each
body_first [] h = absurd (omega arith)
body_first (n ∷ ns) h = append-nil (decimal n)

body_more : (l : List ℕ) (m : ℕ) → 0 < length l → body (l ++ (m ∷ [])) ≡ body l ++ spaced m
unfolding body each
body_more [] m h = absurd (omega arith)
body_more (n ∷ ns) m h =
    ap (λ (t : List ℕ). decimal n ++ t) (each_append spaced ns (m ∷ []) ∙ ap (λ (t : List ℕ). each spaced ns ++ t) (append-nil (spaced m)))
    ∙ sym (append_assoc (decimal n) (each spaced ns) (spaced m))

body_end : (row : List ℕ) → 0 < length row → body row ++ (10 ∷ []) ≡ numbers_line row
unfolding body numbers_line
body_end [] h = absurd (omega arith)
body_end (n ∷ ns) h = refl

spaced_few : (ns : List ℕ) → length (each spaced ns) ≤ 21 * length ns
unfolding each
spaced_few [] = omega arith
spaced_few (n ∷ ns) = omega (arith, length-append (spaced n) (each spaced ns), few_digits 20 n, spaced_few ns)

body_few : (l : List ℕ) → length (body l) ≤ 21 * length l
unfolding body
body_few [] = omega arith
body_few (n ∷ ns) = omega (arith, length-append (decimal n) (each spaced ns), few_digits 20 n, spaced_few ns)

-- a line is no longer than 21 bytes a number, and its end
pub line_few : (l : List ℕ) → length (numbers_line l) ≤ 1 + 21 * length l
unfolding numbers_line
line_few [] = omega arith
line_few (n ∷ ns) =
    omega (
      arith,
      length-append (decimal n ++ each spaced ns) (10 ∷ []),
      length-append (decimal n) (each spaced ns),
      few_digits 20 n,
      spaced_few ns,
    )

first_within : (row : List ℕ) → 0 < length row → length (decimal (get_or row 0 0)) ≤ length (numbers_line row)
unfolding numbers_line
first_within [] h = absurd (omega arith)
first_within (n ∷ ns) h = omega (arith, length-append (decimal n ++ each spaced ns) (10 ∷ []), length-append (decimal n) (each spaced ns))

-- The first i numbers of the row stand at the front of the buffer, which has room for the line.
pub record Row (row : List ℕ) (before after : List ℕ) (at i : ℕ) : Type 0 where
  pub room : 1 + 21 * length row ≤ length before
  pub some : 0 < i
  pub within : i ≤ length row
  pub low : at ≤ 21 * i
  pub long : length after ≡ length before
  pub puts : Puts (body (take i row)) before after at

row_made : {row before after : List ℕ} {at i : ℕ} → 1 + 21 * length row ≤ length before → 0 < i → i ≤ length row
    → Puts (body (take i row)) before after at → Row row before after at i
row_made {row} {before} {after} {at} {i} r s w p =
    let e : length (take i row) ≡ i = length-take-le i row w in
    let few : length (body (take i row)) ≤ 21 * i = omega (arith, body_few (take i row)) in
    record { room = r; some = s; within = w; low = omega (arith, p.counts); long = stays_long p (omega arith); puts = p }

-- the first number was put before the loop begins
pub row_first : {row before mid : List ℕ} {k : ℕ} → 1 + 21 * length row ≤ length before → 0 < length row
    → Puts (decimal (get_or row 0 0)) before mid k → Row row mid mid k 1
row_first {row} {before} {mid} {k} r h p =
    let long : length mid ≡ length before = stays_long p (omega (arith, few_digits 20 (get_or row 0 0))) in
    row_made (omega arith) (omega arith) (omega arith) (said (at_the_front p) (sym (body_first row h)))

pub row_next : {row before mid ys : List ℕ} {at i k : ℕ} → Row row before mid at i → i < length row
    → Puts (32 ∷ decimal (get_or row i 0)) (rest at mid) ys k → Row row before (back at mid ys) (at + k) (i + 1)
row_next {row} {before} {mid} {ys} {at} {i} {k} l h q =
    row_made l.room (omega arith) (omega arith) (said (behind l.puts q) more)
  where
    more : body (take i row) ++ spaced (get_or row i 0) ≡ body (take (i + 1) row)
    more =
        let e : length (take i row) ≡ i = length-take-le i row l.within in
        sym (body_more (take i row) (get_or row i 0) (omega (arith, l.some)))
        ∙ ap body (sym (take-suc row i 0 h) ∙ ap (λ (j : ℕ). take j row) (sym (add-one i)))

-- the same for the number at i behind the first
pub row_next_behind : {row before mid ys : List ℕ} {at k : ℕ} (i : ℕ) → Row row before mid at (i + 1) → i + 1 < length row
    → Puts (32 ∷ decimal (get_or (take (length row - 1) (drop 1 row)) i 0)) (rest at mid) ys k → Row row before (back at mid ys) (at + k) (i + 1 + 1)
row_next_behind {row} i l h q = row_next l h (said q (ap (λ (x : ℕ). 32 ∷ decimal x) same))
  where
    same : get_or (take (length row - 1) (drop 1 row)) i 0 ≡ get_or row (i + 1) 0
    same =
        ap (λ (l : List ℕ). get_or l i 0) (take_all (length row - 1) (drop 1 row) (omega (arith, length-drop 1 row)))
        ∙ get_or_after_one row i 0 ∙ ap (λ (j : ℕ). get_or row j 0) (omega arith)

-- the line's end behind the last number
pub row_ends : {row before mid after : List ℕ} {k at i : ℕ} → Puts (decimal (get_or row 0 0)) before mid k
    → Row row mid after at i → length row ≤ i → Puts (numbers_line row) before (set after at 10) (at + 1)
row_ends {row} {before} {mid} {after} {k} {at} {i} p l h =
    over p (omega (arith, long)) (said (one_more l.puts 10 (omega (arith, l.low, l.within, l.room))) whole)
  where
    all : take i row ≡ row
    all = take_all i row h

    whole : body (take i row) ++ (10 ∷ []) ≡ numbers_line row
    whole = ap (λ (t : List ℕ). body t ++ (10 ∷ [])) all ∙ body_end row (omega (arith, l.some, l.within))

    long : length (decimal (get_or row 0 0)) ≤ length (numbers_line row)
    long = first_within row (omega (arith, l.some, l.within))

-- an empty row
pub row_none : (row before : List ℕ) → length row ≡ 0 → 0 < length before → Puts (numbers_line row) before (set before 0 10) 1
unfolding numbers_line
row_none [] before e h = one_more (puts_none before) 10 h
row_none (n ∷ ns) before e h = absurd (omega arith)

-- ---- a line put from its first number, and then each number behind a space

pub line_first : (n : ℕ) {before mid : List ℕ} {k : ℕ} → Puts (decimal n) before mid k → Puts (body (n ∷ [])) before mid k
unfolding body each
line_first n p = said p (sym (append-nil (decimal n)))

module _ (l : List ℕ) {before mid : List ℕ} {at : ℕ} (p : Puts (body l) before mid at) where
  pub line_within : at ≤ 21 * length l
  line_within = omega (arith, p.counts, body_few l)

  module _ (some : 0 < length l) where
    pub line_next : (m : ℕ) {k : ℕ} {ys : List ℕ} → Puts (32 ∷ decimal m) (rest at mid) ys k
        → Puts (body (l ++ (m ∷ []))) before (back at mid ys) (at + k)
    line_next m q = said (behind p q) (sym (body_more l m some))

    pub line_ends : at < length before → Puts (numbers_line l) before (set mid at 10) (at + 1)
    line_ends h = said (one_more p 10 h) (body_end l some)
