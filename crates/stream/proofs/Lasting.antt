-- Where a turn stops. With room for a line it stops, told that more comes, only before a field that is not all there; and told that nothing
-- comes, it serves a field that is not all there as the last.
use Prim.Native.Nat.{ℕ, suc, ◌+◌, ◌*◌, ◌≤◌, ◌<◌}
use mathlib.Core.Path.{◌≡◌, refl, sym, ap, ◌∙◌}
use mathlib.Core.Bool.{Bool, true, false, ◌&&◌, not, false≢true}
use mathlib.Core.List.{List, [], ◌∷◌, ◌++◌, append-nil}
use mathlib.Core.Logic.{⊎_elim}
use native.Mathlib.Omega.{arith}
use lib.Dec.{eqb}
use lib.ListN.{length, take, drop, get_or, length-append, drop_of_length-le}
use lib.Seq.{length-take-le}
use borrow.Author.Tests.{ltb-true, leb-false, eqb-true, not-true}
use Rattle.rules.specs.Tables.{Tables}
use Rattle.rules.specs.Dispatch.{status}
use Rattle.rules.specs.declared.Decision.{Decision}
use Rattle.rules.specs.declared.Status.{Status}
use Rattle.rules.specs.declared.Status.TheVariants.{Running, Idle, Halted, Panicked}
use Rattle.laws.proofs.Tests.{or_cases}
use Rattle.store.specs.Store.{tables}
use Rattle.fields.specs.Fields.{field_size, whole}
use Rattle.printing.specs.declared.Turned.{Turned}
use Rattle.lines.specs.Text.{line}
use Rattle.lines.specs.Text.{last_line}
use Rattle.printing.specs.Printing.{prints, Turns}
use Rattle.lines.proofs.NumberLines.{line_few}
use Rattle.printing.proofs.Streams.{first_step, past_first, prints_none, prints_first}

none_whole : {w : List ℕ} → w ≡ [] → whole w ≡ false
unfolding whole
none_whole e = ap whole e

-- the three reasons to stop: all is served, there is no room for a line, and the next field is cut off with more to come
module _ {m : List ℕ} {k : ℕ} {w : List ℕ} {ended : Bool} {before after : List ℕ} {t : Turned} {m' : List ℕ}
    (p : Turns m k w ended before after t m') where
  by_stop : (P : Type 0) → (drop t.used w ≡ [] → P) → (length before < t.filled + 160 → P)
      → ((not ended && not (whole (drop t.used w))) ≡ true → P) → P
  by_stop P served full cut =
      ⊎_elim (λ x. ⊎_elim (λ a. served (all a)) (λ f. full (ltb-true _ _ f)) (or_cases _ _ x)) cut (or_cases _ _ p.stops)
    where
      all : eqb t.used (length w) ≡ true → drop t.used w ≡ []
      all a = drop_of_length-le w {i = t.used} (omega (arith, eqb-true t.used (length w) a))

-- a turn that had room for a line, and put none, is at a field that is not all there
pub stops_cut : {m : List ℕ} {k : ℕ} {w before after : List ℕ} {t : Turned} {m' : List ℕ} → Turns m k w false before after t m'
    → 160 ≤ length before → t.filled ≡ 0 → whole (drop t.used w) ≡ false
stops_cut {w = w} {t = t} p room e =
    by_stop p (whole (drop t.used w) ≡ false) none_whole (λ f. absurd (omega arith)) (not-true (whole (drop t.used w)))

-- a field that is not all there takes all the bytes
cut_size : (w : List ℕ) → whole w ≡ false → field_size w ≡ length w
unfolding field_size whole
cut_size [] c = refl
cut_size (a ∷ []) c = refl
cut_size (a ∷ b ∷ []) c = refl
cut_size (a ∷ b ∷ d ∷ l) c = omega (arith, leb-false (b * 256 + d) (length l) c)

-- and is no longer than 65,537 bytes
pub cut_few : (w : List ℕ) → whole w ≡ false → ((i : ℕ) → i < length w → get_or w i 0 < 256) → length w ≤ 65537
unfolding whole
cut_few [] c b = omega arith
cut_few (a ∷ []) c b = omega arith
cut_few (a ∷ h ∷ []) c b = omega arith
cut_few (a ∷ h ∷ d ∷ l) c b = omega (arith, leb-false (h * 256 + d) (length l) c, b 1 (omega arith), b 2 (omega arith))

last_few : (s : Status) → length (last_line s) ≤ 14
unfolding last_line
last_few Halted = omega arith
last_few Panicked = omega arith
last_few Running = omega arith
last_few Idle = omega arith

line_short : (k : ℕ) (d : Decision) → length (line k d) ≤ 148
line_short k d = line_few _

-- what is printed for it and the last line are no more than 162 bytes
prints_few : (k : ℕ) (T : Tables) (w : List ℕ) → whole w ≡ false → length (prints k T w) ≤ 162
prints_few k T [] c = omega (arith, ap length (prints_none k T), last_few (status T))
prints_few k T (b ∷ l) c =
    let w = b ∷ l in
    let s = first_step T w in
    let all : past_first w ≡ [] = drop_of_length-le w {i = field_size w} (omega (arith, cut_size w c)) in
    let rest : prints (suc k) s.tables (past_first w) ≡ last_line (status s.tables) =
    ap (λ (x : List ℕ). prints (suc k) s.tables x) all ∙ prints_none (suc k) s.tables in
    omega (
      arith,
      ap length (prints_first k T w (omega arith)),
      length-append (line k s.decision) (prints (suc k) s.tables (past_first w)),
      line_short k s.decision,
      ap length rest,
      last_few (status s.tables),
    )

-- nothing comes: all is served, if there is room for what that prints and a line more
pub last_served : {m : List ℕ} {k : ℕ} {w before after : List ℕ} {t : Turned} {m' : List ℕ} → Turns m k w true before after t m'
    → whole w ≡ false → 322 ≤ length before → length after ≡ length before → drop t.used w ≡ []
last_served {m} {k} {w} {before} {after} {t} {m'} p c room same =
    by_stop p (drop t.used w ≡ []) (λ e. e) (λ f. absurd (full f)) (λ e. absurd (false≢true e))
  where
    full : length before < t.filled + 160 → ⊥
    full h =
        let says = p.prints [] (λ e. refl) in
        omega (
          arith,
          prints_few k (tables m) w c,
          ap length (ap (λ (l : List ℕ). prints k (tables m) l) (sym (append-nil w)) ∙ says),
          length-append (take t.filled after) (prints t.line (tables m') (drop t.used w ++ [])),
          length-take-le t.filled after (omega (arith, p.filled, same)),
        )
