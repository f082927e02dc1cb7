-- Nothing names an ended thread: whoever a message, a wait, a parent, a manager entry or the runner names is live. The answers already
-- due are the exception: "An answer already due to a thread stays, even if its sender has ended." The name given last is no such place:
-- it only says where names go on. And a newcomer is not named yet.
use Rattle.std.proofs.Common.{◌==◌}
use Prim.Native.Nat.{ℕ, ◌≤◌, ◌<◌}
use mathlib.Core.Path.{◌≡◌, refl, sym, ap, ◌∙◌, subst}
use mathlib.Core.Logic.{⊎_elim, ◌≢◌}
use mathlib.Core.Bool.{true, false, false≢true}
use mathlib.Core.List.{List, [], ◌∷◌, Memᴰ}
use native.Mathlib.Omega.{arith}
use borrow.Author.Tests.{eq-eqb}
use Rattle.rules.specs.Lists.{one_if, any, has, count, times_in}
use Rattle.rules.specs.Numbers.{names}
use Rattle.laws.specs.Words.{Limits}
use Rattle.rules.specs.Tables.{Tables, named, live, manager}
use Rattle.rules.specs.Words.{by_manager}
use Rattle.rules.specs.States.{is_ready, on_clock}
use Rattle.rules.specs.Requests.{next_name, create}
use Rattle.rules.specs.Step.{step}
use Rattle.rules.specs.Runs.{Input, run}
use Rattle.rules.specs.TableRules.{table_rules}
use Rattle.laws.specs.Words.{Only, TrapKind, State, Receiving, Trapped, Answer, Manager, Unset, Set, Gone, Managers, Parent, ParentIs}
use Rattle.laws.specs.Words.{Thread, Message}
use Rattle.laws.specs.Living.{NamesTheLiving, NotYetNamed}
use Rattle.laws.specs.Types.{Entry, Detail, Family, Ruled}
use Rattle.laws.specs.Ending.{Forgotten}
use Rattle.laws.specs.Requests.{Made}
use Rattle.laws.specs.Givings.{given_by, Begun, by_a_start, by_a_dump}
use Rattle.laws.proofs.Tests.{clash, same?}
use Rattle.laws.proofs.Tally.{count_append, none_count}
use Rattle.laws.proofs.Threads.{member_live, here_le, here_live}
use Rattle.laws.proofs.PlacesKept.{runner_live}
use Rattle.laws.proofs.Members.{member_times}
use Rattle.laws.proofs.Sound.{tested_ruled}
use Rattle.laws.proofs.Kept.{start_ruled, step_ruled, run_ruled}
use Rattle.laws.proofs.Dump.{load_is_dump}
use Rattle.laws.proofs.Requests.{made}
use Rattle.laws.proofs.Givings.{gives_it}

-- ---- tables that meet the table rules name the living

module _ (ts : List Thread) where
  entry_live : (own : ℕ) (g : Manager) (n : ℕ) → g ≡ Set n → Entry ts own g → any (named n) ts ≡ true
  unfolding Entry
  entry_live own g n e h = (subst (Entry ts own) e h).0

  wanted_live : (ms : List Message) (own n : ℕ) (g : Managers) (s : State) → s ≡ Receiving (Only n) → Detail ts ms own g s →
      any (named n) ts ≡ true
  unfolding Detail
  wanted_live ms own n g s e h = (subst (Detail ts ms own g) e h).0

  awaited_set : (ms : List Message) (own : ℕ) (g : Managers) (s : State) (k : TrapKind) → s ≡ Trapped k → Detail ts ms own g s →
      (n : ℕ) × (manager k g ≡ Set n)
  unfolding Detail
  awaited_set ms own g s k e h = go (manager k g) refl (subst (Detail ts ms own g) e h)
    where
      go : (x : Manager) → manager k g ≡ x → by_manager false (λ m. true) x ≡ true → (n : ℕ) × (manager k g ≡ Set n)
      go Unset i j = absurd (false≢true j)
      go (Set n) i j = (n, i)
      go Gone i j = absurd (false≢true j)

  parent_live : Family ts → (t : Thread) → Memᴰ t ts → (n : ℕ) → t.parent ≡ ParentIs n → any (named n) ts ≡ true
  parent_live F t m n e =
      ⊎_elim (λ z. let q = F.root t m z.0 in let c : ◌≡◌ {A = ℕ} 0 1 = cc in absurd (omega arith))
      (λ z. let u = F.under t m z.0 in let q : u.0 ≡ n = cc u.1 in ap (λ (x : ℕ). any (named x) ts) (sym q) ∙ u.2)
      (same? t.name 0)

pub ruled_names_the_living : (L : Limits) (T : Tables) → Ruled L T → NamesTheLiving T
ruled_names_the_living L T R = record {
  senders = λ m i. (R.fits.messages m i).from_live;
  receivers = λ m i. (R.fits.messages m i).to_live;
  wanted = λ t i n e. wanted_live T.threads T.messages t.name n t.managers t.state e (R.fits.threads t i).detail;
  awaited = λ t i k e.
      let x = awaited_set T.threads T.messages t.name t.managers t.state k e (R.fits.threads t i).detail in
      (x.0, x.1, entry_live T.threads t.name _ x.0 x.1 ((R.fits.threads t i).entries k));
  at_devices = λ t i d e. member_live T.threads t i;
  on_the_clock = λ n i. here_live on_clock n T.threads (omega (arith, R.inv.agree.beat n, member_times T.clock n i));
  ready = λ n i. here_live is_ready n T.threads (omega (arith, R.inv.agree.wait n, member_times T.ready n i));
  parents = λ t i n e. parent_live T.threads R.fits.family t i n e;
  managers = λ t i k n e. entry_live T.threads t.name _ n e ((R.fits.threads t i).entries k);
  runner = λ n s e. runner_live R.inv n s e;
}

-- a set of names that nobody has is named nowhere
pub named_nowhere : {T : Tables} → NamesTheLiving T → (set : List ℕ) → ((x : ℕ) → live x T ≡ true → has x set ≡ false) → Forgotten set T
named_nowhere {T} N set free = record {
  threads = λ t m. free t.name (member_live T.threads t m);
  parents = λ t m n e. free n (N.parents t m n e);
  wanted = λ t m n e. free n (N.wanted t m n e);
  managers = λ t m k n e. free n (N.managers t m k n e);
  senders = λ m i. free m.from (N.senders m i);
  receivers = λ m i. free m.to (N.receivers m i);
  ready = λ n i. free n (N.ready n i);
  clock = λ n i. free n (N.on_the_clock n i);
  runner = λ n s e. free n (N.runner n s e);
}

-- ---- a newcomer

module _ (T U : Tables) (N : NamesTheLiving T) (p : Parent) (a : Answer) (M : Made p T U a) where
  -- whoever was there has another name
  other : (x : ℕ) → live x T ≡ true → x ≢ M.thread.name
  other x l e = clash (ap (λ (y : ℕ). live y T) (sym e) ∙ l) M.new

  -- what a thread's row names: the others' rows name the living, and the newcomer's own row does not name it
  of_others : (Names : Thread → ℕ → Type 0) → ((t : Thread) → Memᴰ t T.threads → (x : ℕ) → Names t x → live x T ≡ true) →
      ((x : ℕ) → Names M.thread x → x ≢ M.thread.name) → (t : Thread) → Memᴰ t U.threads → (x : ℕ) → Names t x →
      x ≢ M.thread.name
  of_others Names old new t m x h = ⊎_elim (λ i. new x (subst (λ (y : Thread). Names y x) i h)) (λ i. other x (old t i x h)) (M.only t m)

  -- it is not its own parent
  own_parent : Family U.threads → (x : ℕ) → M.thread.parent ≡ ParentIs x → x ≢ M.thread.name
  own_parent F x e i =
      ⊎_elim (λ z. let q = F.root M.thread M.there z.0 in let c : ◌≡◌ {A = ℕ} 0 1 = cc in absurd (omega arith))
      (λ z. let u = F.under M.thread M.there z.0 in let q : u.0 ≡ M.thread.name = cc u.1 in
      absurd (omega (arith, ap F.depth q, u.3)))
      (same? M.thread.name 0)

  not_yet_named : Family U.threads → U.messages ≡ T.messages → U.clock ≡ T.clock → U.runner ≡ T.runner →
      times_in U.ready M.thread.name ≡ 1 → NotYetNamed M.thread.name U
  not_yet_named F ms c r q = record {
    senders = λ m i. other m.from (N.senders m (subst (Memᴰ m) ms i));
    receivers = λ m i. other m.to (N.receivers m (subst (Memᴰ m) ms i));
    wanted = of_others (λ t x. t.state ≡ Receiving (Only x)) N.wanted (λ x e. let s = M.state in let z : ◌≡◌ {A = ℕ} 0 1 = cc in
        absurd (omega arith));
    on_the_clock = λ x i. other x (N.on_the_clock x (subst (Memᴰ x) c i));
    parents = of_others (λ t x. t.parent ≡ ParentIs x) N.parents (own_parent F);
    managers = λ t m k. of_others (λ u x. manager k u.managers ≡ Set x) (λ u i x e. N.managers u i k x e)
        (λ x e. let s = M.managers k in let z : ◌≡◌ {A = ℕ} 0 1 = cc in absurd (omega arith)) t m;
    runner = λ x s e. other x (N.runner x s (sym r ∙ e));
    state = λ t m e. ⊎_elim (λ i. (ap (λ (x : Thread). x.state) i ∙ M.state, ap (λ (x : Thread). x.answer) i ∙ M.answer))
        (λ i. absurd (other t.name (member_live T.threads t i) e)) (M.only t m);
    ready = q;
  }

alone : (x y : ℕ) → x ≡ y → times_in (y ∷ []) x ≡ 1
unfolding count
alone x y e = omega (arith, ap one_if (eq-eqb x y e))

-- the thread that is created
created_not_yet_named : (L : Limits) (T : Tables) → L.threads < names → table_rules L T ≡ true → (p : Parent) →
    Family (create p T).tables.threads → NotYetNamed (next_name T) (create p T).tables
unfolding create
created_not_yet_named L T l R p F =
    let G = tested_ruled L T R in
    let M = made L T p l R in
    let told = M.told in
    let q : M.thread.name ≡ next_name T = cc in
    let none : times_in T.ready M.thread.name ≡ 0 = omega (
      arith,
      G.inv.agree.wait M.thread.name,
      here_le is_ready M.thread.name T.threads,
      none_count (named M.thread.name)
          T.threads M.new,
    ) in
    let once = count_append (λ m. M.thread.name == m) T.ready (next_name T ∷ []) in
    subst (λ (x : ℕ). NotYetNamed x (create p T).tables) q
    (not_yet_named T (create p T).tables (ruled_names_the_living L T G) p (create p T).answer M F refl refl refl
    (omega (arith, once, none, alone M.thread.name (next_name T) q)))

-- ---- the laws

-- From a start, or from a dump that is read, after any events: no message, wait, parent, manager or runner names a thread that has ended.
-- Of the answers due it is not so: Examples.antt shows three.
pub nothing_names_the_ended : (L : Limits) → 1 ≤ L.threads → L.threads < names → {T : Tables} {given : List ℕ} → Begun L T given →
    (es : Input) → NamesTheLiving (run L T es)
nothing_names_the_ended L o l B es = ruled_names_the_living L _ (run_ruled _ es l (begun B))
  where
    begun : {T : Tables} {given : List ℕ} → Begun L T given → Ruled L T
    begun by_a_start = start_ruled L o
    begun (by_a_dump bytes T e) = tested_ruled L T (load_is_dump L bytes T e).0

-- An event that gives a name brings a thread that is not named yet, and to which no answer is due.
pub newcomer_is_not_yet_named : (L : Limits) (T : Tables) (bytes : List ℕ) (n : ℕ) → L.threads < names → table_rules L T ≡ true →
    given_by L T bytes ≡ n ∷ [] → NotYetNamed n (step L T bytes).tables
newcomer_is_not_yet_named L T bytes n l R e =
    let g = gives_it L T bytes n e in
    let G = tested_ruled L T R in
    let F = subst (λ (U : Tables). Family U.threads) g.tables (step_ruled bytes l G).fits.family in
    subst (NotYetNamed n) (sym g.tables)
    (subst (λ (x : ℕ). NotYetNamed x (create g.parent T).tables) g.next (created_not_yet_named L T l R g.parent F))
