-- The names that a run gives, in order, and what the event that gives a name does: the new thread has it, and it is the name given last.
use Rattle.std.proofs.Common.{if◌then◌else◌, ◌==◌}
use Prim.Native.Nat.{ℕ, zero, suc}
use mathlib.Core.Path.{◌≡◌, refl, sym, ap, ◌∙◌, subst}
use mathlib.Core.Bool.{Bool, true, false, ◌&&◌}
use mathlib.Core.List.{List, [], ◌∷◌, ◌++◌, append-nil, append_assoc}
use native.Mathlib.Omega.{arith}
use borrow.Author.Tests.{ne_eqb}
use Rattle.laws.specs.Words.{Limits}
use Rattle.rules.specs.Tables.{Tables, live}
use Rattle.rules.specs.Requests.{next_name, create}
use Rattle.rules.specs.Events.{decode}
use Rattle.rules.specs.Refusals.{refusal}
use Rattle.rules.specs.Step.{Stepped, settle, step}
use Rattle.rules.specs.Runs.{Input, run}
use Rattle.laws.specs.Words.{Parent}
use Rattle.laws.specs.Givings.{result, given_by, givings}
use Rattle.laws.specs.Requests.{Accepted}
use Rattle.laws.specs.Comings.{creates, NobodyComes}
use Rattle.laws.proofs.Requests.{goes_on}
use Rattle.laws.proofs.Comings.{unmoved, and_on, creation, created_last, created_lives, no_other_brings, dispatch_brings_nobody}

-- ---- runs in parts

pub givings_append : (L : Limits) (T : Tables) (es fs : Input) → givings L T (es ++ fs) ≡ givings L T es ++ givings L (run L T es) fs
unfolding givings run
givings_append L T [] fs = refl
givings_append L T (e ∷ es) fs =
    ap (λ (x : List ℕ). given_by L T e ++ x) (givings_append L (step L T e).tables es fs) ∙ sym (append_assoc (given_by L T e) _ _)

pub givings_last : (L : Limits) (T : Tables) (es : Input) (e : List ℕ) → givings L T (es ++ (e ∷ [])) ≡ givings L T es
    ++ given_by L (run L T es) e
unfolding givings
givings_last L T es e = givings_append L T es (e ∷ []) ∙ ap (λ (x : List ℕ). givings L T es ++ x) (append-nil (given_by L (run L T es) e))

-- ---- one event

-- In tables T the event gives no name and brings nobody; or it gives the next name and creates the thread that has it.
pub data Brings (L : Limits) (T : Tables) (bytes : List ℕ) : Type 0 where
  nobody : given_by L T bytes ≡ [] → NobodyComes T (step L T bytes).tables → Brings L T bytes
  somebody : given_by L T bytes ≡ next_name T ∷ [] → (p : Parent) → (step L T bytes).tables ≡ (create p T).tables → Brings L T bytes

pub brings : (L : Limits) (T : Tables) (bytes : List ℕ) → Brings L T bytes
unfolding given_by
brings L T bytes = go (refusal L T (decode bytes)) refl
  where
    told : (r : ℕ) → refusal L T (decode bytes) ≡ r → step L T bytes ≡ settle r T (decode bytes)
    told r f = unfold step in ap (λ (x : ℕ). settle x T (decode bytes)) f

    accepted : (b : Bool) → creates (decode bytes) ≡ b → refusal L T (decode bytes) ≡ 0 → Brings L T bytes
    accepted true c f =
        let C = creation T (decode bytes) c in
        let A : Accepted L T bytes C.call = record { asked = C.asks; accepted = f } in
        let s = goes_on A (create C.parent T) C.serves (unfold create in refl) in
        somebody
        (ap (λ (x : Stepped). if x.decision.refusal == 0 && creates (decode bytes) then result x.decision.answer else []) s
        ∙ unfold create result in rw c)
        C.parent (ap (λ (x : Stepped). x.tables) s)
    accepted false c f =
        let s = told 0 f in
        nobody
        (ap (λ (x : Stepped). if x.decision.refusal == 0 && creates (decode bytes) then result x.decision.answer else []) s
        ∙ unfold settle in rw c)
        (subst (λ (x : Stepped). NobodyComes T x.tables) (sym s) (unfold settle in
        and_on (no_other_brings T (decode bytes) c) (dispatch_brings_nobody _)))

    go : (r : ℕ) → refusal L T (decode bytes) ≡ r → Brings L T bytes
    go zero f = accepted (creates (decode bytes)) refl f
    go (suc r) f =
        let s = told (suc r) f in
        nobody
        (ap (λ (x : Stepped). if x.decision.refusal == 0 && creates (decode bytes) then result x.decision.answer else []) s
        ∙ unfold settle in rw (ne_eqb (suc r) 0 (λ e. omega arith)))
        (subst (λ (x : Stepped). NobodyComes T x.tables) (sym s) (unfold settle in unmoved T))

-- ---- where a run gives a name

-- an event that gives n creates a thread of that name, which is then the name given last
pub record Given (L : Limits) (T : Tables) (bytes : List ℕ) (n : ℕ) : Type 0 where
  pub next : next_name T ≡ n
  pub parent : Parent
  pub tables : (step L T bytes).tables ≡ (create parent T).tables
  pub last : (step L T bytes).tables.last ≡ n
  pub lives : live n (step L T bytes).tables ≡ true

pub gives_it : (L : Limits) (T : Tables) (bytes : List ℕ) (n : ℕ) → given_by L T bytes ≡ n ∷ [] → Given L T bytes n
gives_it L T bytes n e = go (brings L T bytes)
  where
    go : Brings L T bytes → Given L T bytes n
    go (nobody x N) = let z : ◌≡◌ {A = ℕ} 0 1 = cc in absurd (omega arith)
    go (somebody x p s) =
        let q : next_name T ≡ n = cc in
        record {
          next = q;
          parent = p;
          tables = s;
          last = ap (λ (U : Tables). U.last) s ∙ created_last p T ∙ q;
          lives = ap (λ (y : ℕ). live y (step L T bytes).tables) (sym q) ∙ ap (live (next_name T)) s ∙ created_lives p T;
        }

-- one of these events gives the name n, and those behind it the names ws
pub record GivenAt (L : Limits) (T : Tables) (es : Input) (n : ℕ) (ws : List ℕ) : Type 0 where
  pub before : Input
  pub event : List ℕ
  pub behind : Input
  pub among : es ≡ before ++ (event ∷ behind)
  pub gives : given_by L (run L T before) event ≡ n ∷ []
  pub then_given : givings L (step L (run L T before) event).tables behind ≡ ws

pub given_at : (L : Limits) (T : Tables) (es : Input) (n : ℕ) (xs ws : List ℕ) → givings L T es ≡ xs ++ (n ∷ ws) → GivenAt L T es n ws
unfolding givings run
given_at L T [] n [] ws i = let z : ◌≡◌ {A = ℕ} 0 1 = cc in absurd (omega arith)
given_at L T [] n (x ∷ xs) ws i = let z : ◌≡◌ {A = ℕ} 0 1 = cc in absurd (omega arith)
given_at L T (e ∷ es) n xs ws i = go (brings L T e) xs i (given_at L U es n)
  where
    U : Tables
    U = (step L T e).tables

    later : GivenAt L U es n ws → GivenAt L T (e ∷ es) n ws
    later G = record {
      before = e ∷ G.before;
      event = G.event;
      behind = G.behind;
      among = ap (λ (x : Input). e ∷ x) G.among;
      gives = G.gives;
      then_given = G.then_given;
    }

    go : Brings L T e → (xs : List ℕ) → given_by L T e ++ givings L U es ≡ xs ++ (n ∷ ws) →
        ((xs ws : List ℕ) → givings L U es ≡ xs ++ (n ∷ ws) → GivenAt L U es n ws) → GivenAt L T (e ∷ es) n ws
    go (nobody x N) xs h on = later (on xs ws (rw x at h))
    go (somebody x p s) [] h on =
        let r : next_name T ∷ givings L U es ≡ n ∷ ws = rw x at h in
        let q : next_name T ≡ n = cc in
        let t : givings L U es ≡ ws = cc in
        record { before = []; event = e; behind = es; among = refl; gives = x ∙ ap (λ (y : ℕ). y ∷ []) q; then_given = t }
    go (somebody x p s) (y ∷ xs) h on =
        let r : next_name T ∷ givings L U es ≡ y ∷ (xs ++ (n ∷ ws)) = rw x at h in
        let t : givings L U es ≡ xs ++ (n ∷ ws) = cc in
        later (on xs ws t)
