-- Loops that put a table into a buffer: what the entries passed are written as stands at the front, all behind it is as it was.
use Prim.Native.Nat.{ℕ, ◌+◌, ◌*◌, ◌≤◌}
use mathlib.Core.Path.{◌≡◌, refl, sym, ap, ◌∙◌}
use Rattle.std.proofs.Common.{Option, Some, None, if◌then◌else◌, is_some}
use mathlib.Core.Bool.{Bool, true, false}
use mathlib.Core.List.{List, [], ◌∷◌, ◌++◌, append-nil}
use native.Mathlib.Nat.{mul-suc, mul-le-mul_left}
use native.Mathlib.Omega.{arith}
use lib.ListN.{length, length-append}
use lib.Seq.{append_snoc}
use mir.Val.{bool_byte}
use Rattle.rules.specs.Lists.{any, each}
use Rattle.rules.specs.Interrupt.{held_for}
use Rattle.laws.specs.Words.{Held}
use Rattle.laws.proofs.Tally.{each_append}
use Rattle.store.specs.Store.{word_for}
use Rattle.memory.specs.Rows.{held_word}
use Rattle.buffer.specs.Puts.{Puts}
use Rattle.buffer.proofs.Putting.{rest, back, behind, said, room, stays_long, puts_none}
use Rattle.dumping.specs.Dumping.{held_at}

-- ---- entries of a length at most, a part of the table at a time

pub each_few : {A : Type 0} (f : A → List ℕ) (k : ℕ) → ((x : A) → length (f x) ≤ k) → (xs : List A) → length (each f xs) ≤ k * length xs
unfolding each
each_few f k h [] = omega arith
each_few f k h (x ∷ xs) = omega (arith, length-append (f x) (each f xs), h x, each_few f k h xs, mul-suc k (length xs))

-- the entries of `done` are written; f writes an entry, in k bytes at most
pub record Written {A : Type 0} (f : A → List ℕ) (k : ℕ) (whole done : List A) (before now : List ℕ) (at : ℕ) : Type 0 where
  pub sized : (x : A) → length (f x) ≤ k
  pub enough : k * length whole ≤ length before
  pub few : length done ≤ length whole
  pub so : Puts (each f done) before now at

pub write_starts : {A : Type 0} {f : A → List ℕ} {k : ℕ} {whole : List A} {before : List ℕ} →
    ((x : A) → length (f x) ≤ k) → k * length whole ≤ length before → Written f k whole [] before before 0
unfolding each
write_starts {before = before} s e = record { sized = s; enough = e; few = omega arith; so = puts_none before }

module _ {A : Type 0} {f : A → List ℕ} {k : ℕ} {whole done : List A} {before now : List ℕ} {at : ℕ}
    (W : Written f k whole done before now at) where
  -- the buffer is as long as it was
  pub written_long : length now ≡ length before
  written_long = stays_long W.so (omega (arith, each_few f k W.sized done, W.enough, mul-le-mul_left k W.few))

  module _ (next : List A) (h : length (done ++ next) ≤ length whole) where
    -- what comes next has room behind what was passed
    pub write_room : at + k * length next ≤ length before
    write_room =
        let more : length done + length next ≤ length whole = omega (arith, length-append done next, h) in
        omega (arith, W.so.counts, each_few f k W.sized done, W.enough, mul-le-mul_left k more)

    pub write_fits : k * length next ≤ length (rest at now)
    write_fits = omega (arith, write_room, room W.so)

    module _ {ys : List ℕ} {m : ℕ} (p : Puts (each f next) (rest at now) ys m) where
      pub write_within : at + m ≤ length before
      write_within = omega (arith, write_room, p.counts, each_few f k W.sized next)

      pub write_next : Written f k whole (done ++ next) before (back at now ys) (at + m)
      write_next =
          record { sized = W.sized; enough = W.enough; few = h; so = said (behind W.so p) (sym (each_append f done next)) }

-- ---- one entry more, of a walk over them

module _ {A : Type 0} {whole : List A} (done : List A) {left rest : List A} {x : A} (e : done ++ left ≡ whole) (s : left ≡ x ∷ rest) where
  pub passes : done ++ (x ∷ []) ++ rest ≡ whole
  passes = append_snoc done x rest ∙ ap (λ (l : List A). done ++ l) (sym s) ∙ e

  pub some_left : length (done ++ (x ∷ [])) ≤ length whole
  some_left = omega (arith, ap length passes, length-append (done ++ (x ∷ [])) rest)

-- a part that is one entry
pub one_field : {A : Type 0} (f : A → List ℕ) {x : A} {b c : List ℕ} {m : ℕ} → Puts (f x) b c m → Puts (each f (x ∷ [])) b c m
unfolding each
one_field f {x} p = said p (sym (append-nil (f x)))

-- ---- the part of a device

-- the word, if one is held
abbrev pub if_one : ℕ → Option ℕ → List Held
if_one d None = []
if_one d (Some w) = record { device = d; word = w } ∷ []

module _ (d : ℕ) (hs : List Held) where
  pub held_is : {o p : Option ℕ} → o ≡ held_word d hs → o ≡ p → held_at d hs ≡ if_one d p
  unfolding held_at
  held_is e f = go (any (held_for d) hs) ∙ ap (if_one d) (sym e ∙ f)
    where
      go : (b : Bool) → (if b then record { device = d; word = word_for d hs } ∷ [] else []) ≡ if_one d (if b then Some (word_for d hs) else None)
      go true = refl
      go false = refl

  pub held_counted : {o : Option ℕ} {b : Bool} {n : ℕ} → o ≡ held_word d hs → b ≡ is_some o → n ≡ bool_byte b → n ≡ length (held_at d hs)
  held_counted {o} e f g = g ∙ ap bool_byte f ∙ go o ∙ ap length (sym (held_is e refl))
    where
      go : (o : Option ℕ) → bool_byte (is_some o) ≡ length (if_one d o)
      go None = refl
      go (Some w) = refl

  module _ (f : Held → List ℕ) where
    pub no_word : {o : Option ℕ} → o ≡ held_word d hs → o ≡ None → (b : List ℕ) → Puts (each f (held_at d hs)) b b 0
    unfolding each
    no_word e g b = said (puts_none b) (sym (ap (each f) (held_is e g)))

    pub one_word : {o : Option ℕ} {w : ℕ} {b c : List ℕ} {m : ℕ} → o ≡ held_word d hs → o ≡ Some w →
        Puts (f (record { device = d; word = w })) b c m → Puts (each f (held_at d hs)) b c m
    one_word e g p = said (one_field f p) (sym (ap (each f) (held_is e g)))

  pub word_room : {o : Option ℕ} {k w n : ℕ} → o ≡ held_word d hs → o ≡ Some w → k * length (held_at d hs) ≤ n → k ≤ n
  word_room {k = k} e f h = omega (arith, ap (λ (l : List Held). k * length l) (held_is e f), h)
