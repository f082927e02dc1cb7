-- One turn of the event program, field by field.
use Prim.Native.Nat.{ℕ, suc, ◌+◌, ◌-◌, ◌≤◌, ◌<◌}
use mathlib.Core.Path.{◌≡◌, refl, sym, ap, ap₂, ◌∙◌}
use mathlib.Core.Bool.{Bool, true, ◌&&◌, ◌||◌, not}
use mathlib.Core.List.{List, [], ◌∷◌, ◌++◌, append_assoc}
use mathlib.Core.Logic.{◌⊎◌, ⊎_elim}
use native.Mathlib.Numerals.{add-one}
use native.Mathlib.Omega.{arith}
use lib.Dec.{eqb, ltb}
use lib.ListN.{length, take, drop, length-append, length-drop}
use lib.Seq.{take_at, drop_at, drop-drop}
use borrow.Author.Tests.{lt-ltb, eq-eqb}
use borrow.Rule.Slice.PartMut.{same_len_mid}
use Rattle.rules.specs.Numbers.{small}
use Rattle.laws.specs.Words.{Limits}
use Rattle.rules.specs.Tables.{Tables}
use Rattle.rules.specs.Step.{step}
use Rattle.rules.specs.Runs.{Input, run}
use Rattle.rules.specs.declared.Decision.{Decision}
use Rattle.laws.proofs.Tests.{or_left, or_right, ◌&◌}
use Rattle.laws.proofs.Steps.{run_last}
use Rattle.laws.proofs.Batch.{size_whole}
use Rattle.store.specs.Store.{limits, tables}
use Rattle.stepping.specs.Stepping.{Steps}
use Rattle.fields.specs.Fields.{field_size, whole}
use Rattle.fields.proofs.Sizes.{size_some}
use Rattle.buffer.specs.Puts.{Puts}
use Rattle.buffer.proofs.Putting.{rest, back, behind, said, room, puts_none}
use Rattle.printing.specs.declared.Turned.{Turned}
use Rattle.lines.specs.Text.{line}
use Rattle.printing.specs.Printing.{prints, fields, Standing, Turns}
use Rattle.printing.proofs.Streams.{size_last, first_step, past_first, prints_field, fields_field}

-- ---- bytes in a buffer

-- what was put stands at the front, and what is behind it is as it was
put_front : {a before after : List ℕ} {n : ℕ} → Puts a before after n → take n after ≡ a
put_front {a} {before} {after} {n} p = ap (take n) p.shows ∙ take_at a (drop (length a) before) n (sym p.counts)

put_behind : {a before after : List ℕ} {n : ℕ} → Puts a before after n → drop n after ≡ drop n before
put_behind {a} {before} {after} {n} p =
    ap (drop n) p.shows ∙ (drop_at a (drop (length a) before) n (sym p.counts) ∙ ap (λ (j : ℕ). drop j before) (sym p.counts))

-- a lent buffer stays as long as it was, so what was put into it had room there
put_within : {a before after : List ℕ} {n : ℕ} → Puts a before after n → length after ≡ length before → n ≤ length before
put_within {a} {before} {after} {n} p e =
    omega (arith, e, p.counts, ap length p.shows, length-append a (drop (length a) before), length-drop (length a) before)

-- ---- a turn so far

-- what is not served yet
abbrev left : List ℕ → Turned → List ℕ
left input t = drop t.used input

-- the three reasons to stop: all is served, there is no room for a line, and the next field is cut off with more to come
abbrev all_served : List ℕ → Turned → Bool
all_served input t = eqb t.used (length input)

abbrev full : List ℕ → Turned → Bool
full before t = ltb (length before) (t.filled + 160)

abbrev cut : List ℕ → Bool → Turned → Bool
cut input ended t = not ended && not (whole (left input t))

-- What stands whenever the loop's test is reached: what a turn promises, but for where it stops. m is the memory at the entry, m₁ as it
-- is now.
pub record Going (m : List ℕ) (k : ℕ) (input : List ℕ) (ended : Bool) (before after : List ℕ) (t : Turned) (m₁ : List ℕ) : Type 0 where
  pub standing : Standing m₁
  pub words : length m₁ ≡ length m
  pub used : t.used ≤ length input
  pub filled : t.filled ≤ length before
  pub long : length after ≡ length before
  pub numbered : t.line ≤ k + t.used
  pub puts : Puts (take t.filled after) before after t.filled
  pub says : (more : List ℕ) → (ended ≡ true → more ≡ [])
      → prints k (tables m) (input ++ more) ≡ take t.filled after ++ prints t.line (tables m₁) (drop t.used input ++ more)
  pub served : Input
  pub first : (more : List ℕ) → (ended ≡ true → more ≡ []) → fields (input ++ more) ≡ served ++ fields (drop t.used input ++ more)
  pub leaves : tables m₁ ≡ run small (tables m) served

pub going_starts : (m : List ℕ) (k : ℕ) (input : List ℕ) (ended : Bool) (b : List ℕ) → Standing m
    → Going m k input ended b b (record { line = k; used = 0; filled = 0 }) m
unfolding run
going_starts m k input ended b s =
    record {
      standing = s;
      words = refl;
      used = omega arith;
      filled = omega arith;
      long = refl;
      numbered = omega arith;
      puts = puts_none b;
      says = λ more h. refl;
      served = [];
      first = λ more h. refl;
      leaves = refl;
    }

module _ {m : List ℕ} {k : ℕ} {input : List ℕ} {ended : Bool} {before after : List ℕ} {t : Turned} {m₁ : List ℕ}
    (g : Going m k input ended before after t m₁) where
  -- a line behind those that stand there
  pub line_fits : {a ys : List ℕ} {n : ℕ} → Puts a (rest t.filled after) ys n → length ys ≡ length (rest t.filled after)
      → t.filled + n ≤ length before
  line_fits q e = omega (arith, put_within q e, room g.puts, g.filled)

  -- ---- where it stops

  ends : (all_served input t || full before t || cut input ended t) ≡ true → Turns m k input ended before after t m₁
  ends s =
      record {
        standing = g.standing;
        used = g.used;
        filled = g.filled;
        numbered = g.numbered;
        prints = g.says;
        served = g.served;
        first = g.first;
        leaves = g.leaves;
        stays = put_behind g.puts;
        stops = s;
      }

  pub ends_served : length input ≤ t.used → Turns m k input ended before after t m₁
  ends_served h =
      ends
      (or_left (all_served input t || full before t) (cut input ended t)
      (or_left (all_served input t) (full before t) (eq-eqb t.used (length input) (omega (arith, g.used)))))

  pub ends_full : length after - t.filled < 160 → Turns m k input ended before after t m₁
  ends_full h =
      ends
      (or_left (all_served input t || full before t) (cut input ended t)
      (or_right (all_served input t) (full before t) (lt-ltb (length before) (t.filled + 160) (omega (arith, g.long)))))

  pub ends_cut : not ended ≡ true → not (whole (left input t)) ≡ true → Turns m k input ended before after t m₁
  ends_cut e w = ends (or_right (all_served input t || full before t) (cut input ended t) (e & w))

  -- ---- one field more is served: it is all there, or the input has ended

  module _ (inside : t.used < length input) (there : (whole (left input t) ≡ true) ⊎ (ended ≡ true)) where
    some : 0 < length (left input t)
    some = omega (arith, length-drop t.used input)

    settled : (more : List ℕ) → (ended ≡ true → more ≡ []) → field_size (left input t ++ more) ≡ field_size (left input t)
    settled more h = ⊎_elim (λ w. size_whole (left input t) more w) (λ e. size_last (left input t) more (h e)) there

    pub going_on : {end n : ℕ} {d : Decision} {m₂ ys : List ℕ} → end ≡ t.used + field_size (left input t) → end ≤ length input
        → Steps m₁ m₂ d (step (limits m₁) (tables m₁) (take (end - t.used) (left input t))) → length m₂ ≡ length m₁
        → Puts (line t.line d) (rest t.filled after) ys n
        → length ys ≡ length (rest t.filled after)
        → Going m k input ended before (back t.filled after ys) (record { line = t.line + 1; used = end; filled = t.filled + n }) m₂
    going_on {end} {n} {d} {m₂} {ys} at_end within s same q kept =
        record {
          standing = record { at_rest = s.at_rest; small = s.same ∙ own };
          words = same ∙ g.words;
          used = within;
          filled = line_fits q kept;
          long = same_len_mid t.filled (length after - t.filled) after ys kept ∙ g.long;
          numbered = omega (arith, g.numbered, at_end, size_some (left input t) some);
          puts = said both (sym (put_front both));
          says = told;
          served = g.served ++ (event ∷ []);
          first = split;
          leaves = sym stepped ∙ (ap (λ (U : Tables). (step small U event).tables) g.leaves
              ∙ sym (run_last small (tables m) g.served event));
        }
      where
        own : limits m₁ ≡ small
        own = g.standing.small

        event : List ℕ
        event = take (field_size (left input t)) (left input t)

        both : Puts (take t.filled after ++ line t.line d) before (back t.filled after ys) (t.filled + n)
        both = behind g.puts q

        bytes : event ≡ take (end - t.used) (left input t)
        bytes = let e : field_size (left input t) ≡ end - t.used = omega (arith, at_end) in ap (λ (j : ℕ). take j (left input t)) e

        decided : (first_step (tables m₁) (left input t)).decision ≡ d
        decided = ap₂ (λ (L : Limits) (b : List ℕ). (step L (tables m₁) b).decision) (sym own) bytes ∙ sym s.decides

        stepped : (first_step (tables m₁) (left input t)).tables ≡ tables m₂
        stepped = ap₂ (λ (L : Limits) (b : List ℕ). (step L (tables m₁) b).tables) (sym own) bytes ∙ sym s.leaves

        past_it : past_first (left input t) ≡ drop end input
        past_it = drop-drop (field_size (left input t)) t.used input ∙ ap (λ (j : ℕ). drop j input) (sym at_end)

        split : (more : List ℕ) → (ended ≡ true → more ≡ [])
            → fields (input ++ more) ≡ (g.served ++ (event ∷ [])) ++ fields (drop end input ++ more)
        split more h =
            g.first more h
            ∙ (ap (λ (f : Input). g.served ++ f)
            (fields_field (left input t) more (settled more h) some ∙ ap (λ (b : List ℕ). event ∷ fields (b ++ more)) past_it)
            ∙ sym (append_assoc g.served (event ∷ []) (fields (drop end input ++ more))))

        field : (more : List ℕ) → (ended ≡ true → more ≡ [])
            → prints t.line (tables m₁) (left input t ++ more)
            ≡ line t.line d ++ prints (t.line + 1) (tables m₂) (drop end input ++ more)
        field more h =
            prints_field (left input t) more (settled more h) t.line (tables m₁) some
            ∙ (ap₂ (λ (x : Decision) (b : List ℕ). line t.line x ++ b) decided
            (ap₂ (λ (U : Tables) (b : List ℕ). prints (suc t.line) U (b ++ more)) stepped past_it)
            ∙ ap (λ (j : ℕ). line t.line d ++ prints j (tables m₂) (drop end input ++ more)) (sym (add-one t.line)))

        told : (more : List ℕ) → (ended ≡ true → more ≡ [])
            → prints k (tables m) (input ++ more)
            ≡ take (t.filled + n) (back t.filled after ys) ++ prints (t.line + 1) (tables m₂) (drop end input ++ more)
        told more h =
            let rest_of = prints (t.line + 1) (tables m₂) (drop end input ++ more) in
            g.says more h
            ∙ (ap (λ (b : List ℕ). take t.filled after ++ b) (field more h)
            ∙ (sym (append_assoc (take t.filled after) (line t.line d) rest_of)
            ∙ ap (λ (b : List ℕ). b ++ rest_of) (sym (put_front both))))
