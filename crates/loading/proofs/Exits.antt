-- The exits of reading: sound, since what is accepted meets the rules and is written as those bytes again; complete, since the first
-- stage finds the tables whose dump the bytes are.
use Prim.Native.Nat.{ℕ, ◌≤◌}
use mathlib.Core.Path.{◌≡◌, refl, sym, ap, ◌∙◌}
use mathlib.Core.Bool.{Bool, true, false}
use mathlib.Core.List.{List, ◌++◌}
use native.Mathlib.Omega.{arith}
use lib.ListN.{length, take, drop, length-append}
use lib.Seq.{take_at}
use borrow.Author.Tests.{lt-ltb}
use Rattle.rules.specs.Lists.{same}
use Rattle.rules.specs.Numbers.{small, devices}
use Rattle.rules.specs.Tables.{Tables}
use Rattle.rules.specs.TableRules.{table_rules}
use Rattle.rules.specs.Dump.{dump}
use Rattle.rules.specs.Load.{Loaded, no_dump, loaded, load}
use Rattle.rules.specs.Faults.{where_bad, verdict_on, verdict}
use Rattle.rules.specs.declared.Verdict.{Verdict}
use Rattle.laws.proofs.Tests.{clash, and_left, and_right, ◌&◌}
use Rattle.laws.proofs.Tally.{all_of}
use Rattle.laws.proofs.Sound.{tested_ruled}
use Rattle.laws.proofs.DumpLength.{dump_fits_small}
use Rattle.laws.proofs.Dump.{load_dump, load_is_dump}
use Rattle.laws.proofs.Members.{same_true}
use Rattle.store.specs.Store.{tables}
use Rattle.memory.specs.Shape.{shaped}
use Rattle.checking.specs.Stands.{stands}
use Rattle.checking.proofs.Shapes.{shaped_right, right_shaped}
use Rattle.buffer.specs.Puts.{Puts}
use Rattle.dumping.specs.Dumping.{Dumpable}
use Rattle.loading.specs.Reading.{Small, Found, Accepts}
use Rattle.loading.specs.Loading.{Loads}
use Rattle.loading.proofs.Comparing.{alike}
use Rattle.loading.proofs.Placing.{tables_front, stands_front}

-- ---- the writer's bytes, to be compared

-- a memory that stands meets the rules
pub rules_of : (m : List ℕ) → stands small m ≡ true → table_rules small (tables m) ≡ true
unfolding stands
rules_of m v = and_right (shaped small m) _ v

-- a memory that stands can be written, and a buffer of 1,241 bytes is long enough
pub writable : (m : List ℕ) → stands small m ≡ true → Dumpable m × (length (dump (tables m)) ≤ 1241)
unfolding stands
writable m v =
    let r = tested_ruled small (tables m) (rules_of m v) in (
      record {
        shaped = shaped_right small m (and_left (shaped small m) _ v) (omega arith) (omega arith);
        told = all_of _ (tables m).held (λ h k. lt-ltb h.device devices (r.fits.held h k).0);
        rising = r.fits.held_order;
      },
      dump_fits_small (tables m) (rules_of m v),
    )

-- what was put stands in front
pub front : (bytes before after : List ℕ) (n : ℕ) → Puts bytes before after n → take n after ≡ bytes
front bytes before after n p = ap (take n) p.shows ∙ take_at bytes (drop (length bytes) before) n (sym p.counts)

pub front_fits : (bytes before after : List ℕ) (n : ℕ) → Puts bytes before after n → n ≤ length after
front_fits bytes before after n p = omega (arith, p.counts, ap length p.shows, length-append bytes (drop (length bytes) before))

-- ---- the stages together

module _ {bytes m : List ℕ} {good : Bool} (F : Found bytes m good) where
  -- a stage failed: the bytes are the dump of no tables
  refused : ((T : Tables) → table_rules small T ≡ true → dump T ≡ bytes → good ≡ true → tables m ≡ T → Small m → ⊥) → Accepts bytes m false
  refused never = record {
    takes = λ T e. let d = load_is_dump small bytes T e in let g = F.finds T d.0 d.1 in
        absurd (never T d.0 d.1 g.0 g.1 g.2);
    refuses = λ _. refl;
  }

  pub nothing_found : good ≡ false → Accepts bytes m false
  nothing_found b = refused (λ T h e g t s. clash g b)

  pub rules_broken : stands small m ≡ false → Accepts bytes m false
  unfolding stands
  rules_broken b = refused (λ T h e g t s. clash (right_shaped small m s.shaped s.limits & (ap (table_rules small) t ∙ h)) b)

  other_bytes : same (dump (tables m)) bytes ≡ false → Accepts bytes m false
  other_bytes b = refused (λ T h e g t s. clash (alike (ap dump t ∙ e)) b)

  -- the rules hold and the bytes are written again
  accepted : stands small m ≡ true → same (dump (tables m)) bytes ≡ true → Accepts bytes m true
  accepted v s = record { takes = λ T e. (refl, v, told T (sym e ∙ reads)); refuses = λ e. absurd (never (sym e ∙ reads)) }
    where
      reads : load small bytes ≡ loaded (tables m)
      reads = ap (load small) (sym (same_true (dump (tables m)) bytes s)) ∙ load_dump small (tables m) (rules_of m v)

      told : (T : Tables) → loaded T ≡ loaded (tables m) → tables m ≡ T
      told T e = cc

      never : no_dump ≡ loaded (tables m) → ⊥
      never e = let z : ◌≡◌ {A = ℕ} 0 1 = cc in omega arith

  pub compared : stands small m ≡ true → (b : Bool) → b ≡ same (dump (tables m)) bytes → Accepts bytes m b
  compared v true e = accepted v (sym e)
  compared v false e = other_bytes (sym e)

-- ---- reading into a lent memory

module _ {bytes w : List ℕ} {good : Bool} (A : Accepts bytes w good) where
  -- a good memory is what the rules read
  good_reads : good ≡ true → (load small bytes ≡ loaded (tables w)) × (stands small w ≡ true)
  good_reads g = go (load small bytes) refl
    where
      go : (x : Loaded) → load small bytes ≡ x → (load small bytes ≡ loaded (tables w)) × (stands small w ≡ true)
      go no_dump e = absurd (clash g (A.refuses e))
      go (loaded T) e = let t = A.takes T e in (e ∙ ap loaded (sym t.2), t.1)

  bad_refused : good ≡ false → load small bytes ≡ no_dump
  bad_refused b = go (load small bytes) refl
    where
      go : (x : Loaded) → load small bytes ≡ x → x ≡ no_dump
      go no_dump e = refl
      go (loaded T) e = absurd (clash (A.takes T e).0 b)

  -- where the bytes are bad, and the memory as it was lent
  pub refused_there : (m : List ℕ) (v : Verdict) → good ≡ false → v ≡ where_bad bytes → Loads m bytes m v
  unfolding verdict verdict_on
  refused_there m v b e =
      let n = bad_refused b in
      record { decides = e ∙ sym (ap (verdict_on bytes) n); leaves = λ T k. absurd (never T (sym n ∙ k)); keeps = λ _. refl }
    where
      never : (T : Tables) → no_dump ≡ loaded T → ⊥
      never T e = let z : ◌≡◌ {A = ℕ} 0 1 = cc in omega arith

  -- the words copied to the front of it
  pub copied : (m m' : List ℕ) → good ≡ true → length w ≡ 656 → m' ≡ w ++ drop (length w) m →
      Loads m bytes m' (record { refusal = 0; offset = 0 })
  unfolding verdict verdict_on
  copied m m' g l c =
      let r = good_reads g in
      record {
        decides = sym (ap (verdict_on bytes) r.0);
        leaves = λ T e. (
          ap (stands small) c ∙ stands_front w (drop (length w) m) r.1 l,
          ap tables c
              ∙ tables_front w (drop (length w) m) r.1 l ∙ told T (sym r.0 ∙ e),
        );
        keeps = λ n. absurd (n refl);
      }
    where
      told : (T : Tables) → loaded (tables w) ≡ loaded T → tables w ≡ T
      told T e = cc
