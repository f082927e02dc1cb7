-- What the check tells, what it needs, and the exits of the public step and start.
use Rattle.std.proofs.Common.{◌≡◌, refl, ap, ◌∙◌, ℕ, Bool, true, false, if◌then◌else◌, Ok, Err, List, rules, arith}
use Rattle.rules.specs.Numbers.{small}
use Rattle.laws.specs.Words.{Limits}
use Rattle.rules.specs.Tables.{start}
use Rattle.rules.specs.Step.{step}
use Rattle.rules.specs.declared.Decision.{Decision}
use Rattle.rules.specs.declared.refusal.Refusal.TheVariants.{NoTables}
use Rattle.laws.proofs.Tests.{clash, and_left, and_right, ◌&◌}
use Rattle.laws.specs.Types.{Ruled}
use Rattle.laws.proofs.Sound.{tested_ruled, ruled_tested}
use Rattle.laws.proofs.Kept.{start_ruled}
use Rattle.store.specs.Store.{limits, tables, Holding}
use Rattle.handling.specs.Standing.{AtRest}
use Rattle.stepping.specs.Stepping.{Steps}
use Rattle.memory.specs.Shape.{shaped}
use Rattle.checking.specs.Stands.{stands}
use Rattle.dumping.specs.Dumping.{Dumpable}
use Rattle.loading.proofs.Exits.{writable}
use Rattle.checking.proofs.Shapes.{own_limits, shaped_right, right_shaped}
use Rattle.lending.specs.Lent.{no_tables, standing_of, Answered, Started}

-- a memory that passes the check stands, and has the small limits
pub checked : (m : List ℕ) → stands small m ≡ true → AtRest m × (limits m ≡ small)
unfolding stands
checked m e =
    let s : shaped small m ≡ true = and_left (shaped small m) _ e in
    let l : limits m ≡ small = own_limits small m s in
    let r : Ruled (limits m) (tables m) = rw l (tested_ruled small (tables m) (and_right (shaped small m) _ e)) in (
      record {
        holding = record {
          shaped = shaped_right small m s (omega arith) (omega arith);
          rising = r.fits.rising;
          once = r.inv.agree.once;
        };
        ruled = r;
      },
      l,
    )

-- and one that stands with these limits passes
pub passes : (m : List ℕ) → AtRest m → limits m ≡ small → stands small m ≡ true
unfolding stands
passes m S e = right_shaped small m S.holding.shaped e & (rw e at (ruled_tested S.ruled))

-- where the check refused nothing, a dump can be written
not_refused : (b : Bool) (u : Unit {0}) → (if b then Ok tt else Err NoTables) ≡ Ok u → b ≡ true
not_refused true u h = refl
not_refused false u h = search rules

pub writable_standing : {m : List ℕ} {u : Unit {0}} → standing_of m ≡ Ok u → Dumpable m
unfolding standing_of
writable_standing {m} {u} h = (writable m (not_refused (stands small m) u h)).0

-- 11: nothing stands, and nothing is touched
pub refused_11 : {m bytes : List ℕ} {d : Decision} → stands small m ≡ false → d ≡ no_tables → Answered m bytes m d
refused_11 e h = record {
  decides = λ v. absurd (clash v e);
  leaves = λ v. absurd (clash v e);
  refuses = λ _. h;
  keeps = λ _. refl;
}

-- a step on what stands
pub stepped : {m bytes m' : List ℕ} {d : Decision} → stands small m ≡ true → Steps m m' d (step (limits m) (tables m) bytes) →
    Answered m bytes m' d
stepped {m} {bytes} {m'} v S =
    let e : limits m ≡ small = (checked m v).1 in
    record {
      decides = λ _. S.decides ∙ ap (λ (L : Limits). (step L (tables m) bytes).decision) e;
      leaves = λ _. (passes m' S.at_rest (S.same ∙ e), S.leaves ∙ ap (λ (L : Limits). (step L (tables m) bytes).tables) e);
      refuses = λ f. absurd (clash v f);
      keeps = S.keeps;
    }

-- the start meets the rules
pub started : {m : List ℕ} → tables m ≡ start → limits m ≡ small → Holding m → Started m
started {m} t l h =
    record { valid = passes m (record { holding = h; ruled = rw (l, t) (start_ruled small (omega arith)) }) l; says = t }
