-- Who comes: an accepted request 1 or 2 brings one thread, of the next name, which is then the name given last. Every other event brings
-- nobody and leaves the name given last, also when that thread ends.
use Rattle.std.proofs.Common.{◌==◌}
use Prim.Native.Nat.{ℕ, zero, suc, ◌+◌}
use mathlib.Core.Path.{◌≡◌, refl, sym, ap, ◌∙◌}
use mathlib.Core.Logic.{◌⊎◌, inl, inr, ⊎_elim}
use mathlib.Core.Bool.{Bool, true, false, true≢false, false≢true}
use mathlib.Core.List.{List, Memᴰ}
use lib.Dec.{ltb}
use Rattle.rules.specs.Lists.{any, Pulled, missing, pulled, pull}
use Rattle.rules.specs.Numbers.{beat_ticks}
use Rattle.rules.specs.Words.{by_manager}
use Rattle.rules.specs.Tables.{Tables, in_state, with_managers, with_ticks, named, live, of_thread, change, manager, set_entry, new_thread}
use Rattle.rules.specs.Tables.{me}
use Rattle.rules.specs.States.{waits_for}
use Rattle.rules.specs.Waking.{Outcome, wake_those, accepts, queue, deliver, stop}
use Rattle.rules.specs.Ending.{remove, release, end}
use Rattle.rules.specs.Send.{message, decides, decide, send}
use Rattle.rules.specs.Receive.{wanted_by, received, receive}
use Rattle.rules.specs.Trap.{notice, trap}
use Rattle.rules.specs.Tick.{one_more, charge, beat, rotate, tick}
use Rattle.rules.specs.Interrupt.{interrupt}
use Rattle.rules.specs.Requests.{next_name, create, terminate, set_over, wait_for_clock, take_held}
use Rattle.rules.specs.Dispatch.{dispatch}
use Rattle.rules.specs.Step.{serve, act}
use Rattle.laws.specs.Words.{Wanted, TrapKind, State, Running, Ready, Receiving, Clock, Device, Trapped, Answer, Nothing, Manager}
use Rattle.laws.specs.Words.{Unset, Set, Gone, Parent, Thread, Message, Held, Oneself, Named, Call, Send, Receive, CreateBrother}
use Rattle.laws.specs.Words.{CreateSon, Terminate, SetManager, GetCpuTime, WaitForClock, WaitForIo, Trap, Event, Malformed, ByRunner}
use Rattle.laws.specs.Words.{Tick, Interrupt}
use Rattle.laws.specs.Comings.{creates, NobodyComes}
use Rattle.laws.proofs.Tests.{by_if, by_runs}
use Rattle.laws.proofs.Members.{insert_new, insert_old, mem_insert}
use Rattle.laws.proofs.Threads.{member_live, live_member, turned_live}
use Rattle.laws.proofs.Steps.{by_dispatch}
use Rattle.laws.proofs.Ending.{origins}

-- ---- what is said

-- where the threads and the name given last are the same
aside : (T U : Tables) → U.last ≡ T.last → U.threads ≡ T.threads → NobodyComes T U
aside T U e i = record { last = e; before = λ n l. ap (any (named n)) (sym i) ∙ l }

pub unmoved : (T : Tables) → NobodyComes T T
unmoved T = aside T T refl refl

-- one after the other
pub and_on : {T U W : Tables} → NobodyComes T U → NobodyComes U W → NobodyComes T W
and_on A B = record { last = B.last ∙ A.last; before = λ n l. A.before n (B.before n l) }

-- ---- the moves that events share

woken : (p : Thread → Bool) (a : Thread → Answer) (ns : List ℕ) (T : Tables) → NobodyComes T (wake_those p a ns T)
unfolding wake_those
woken p a ns T = record { last = refl; before = λ n l. sym (turned_live p (λ t. in_state Ready (a t) t) (λ t. refl) n T.threads) ∙ l }

changed : (m : ℕ) (g : Thread → Thread) → ((t : Thread) → (g t).name ≡ t.name) → (T : Tables) → NobodyComes T (change m g T)
unfolding change
changed m g h T = record { last = refl; before = λ n l. sym (turned_live (named m) g h n T.threads) ∙ l }

stopped : (m : ℕ) (s : State) (T : Tables) → NobodyComes T (stop m s T)
unfolding stop
stopped m s T = and_on (changed m (in_state s Nothing) (λ t. refl) T) (aside _ _ refl refl)

delivered : (m : Message) (T : Tables) → NobodyComes T (deliver m T)
unfolding deliver queue
delivered m T = by_if (NobodyComes T) (any (accepts m) T.threads) (λ _. woken _ _ _ T) (λ _. aside T _ refl refl)

-- "the name given last" stays when its thread ends
ended : (m : ℕ) (T : Tables) → NobodyComes T (end m T)
unfolding end release remove wake_those
ended m T = record { last = refl; before = λ n l. survived n (live_member (end m T).threads n l) }
  where
    survived : (n : ℕ) → (u : Thread) × Memᴰ u (end m T).threads × (n ≡ u.name) → live n T ≡ true
    survived n r = let o = origins m T r.0 r.1 in
        ap (λ (x : ℕ). live x T) (r.2 ∙ o.3.name) ∙ member_live T.threads o.0 o.1

-- ---- each event

sent : (m to w : ℕ) (T : Tables) → NobodyComes T (send m to w T)
unfolding send decide
sent m to w T = by_if (NobodyComes T) (decides m to T) (λ _. go w) (λ _. delivered (message to m w) T)
  where
    go : (w : ℕ) → NobodyComes T (decide m to w T)
    go zero = and_on (aside T _ refl refl) (woken _ _ _ _)
    go (suc w) = ended to T

got : (m : ℕ) (w : Wanted) (T : Tables) → NobodyComes T (receive m w T).tables
unfolding receive received
got m w T = go (pull (wanted_by m w) T.messages)
  where
    go : (x : Pulled Message) → NobodyComes T (received m w T x).tables
    go missing = stopped m (Receiving w) T
    go (pulled x xs) = aside T _ refl refl

trapped : (m : ℕ) (k : TrapKind) (c : ℕ) (T : Tables) → NobodyComes T (trap m k c T)
unfolding trap
trapped m k c T = go (of_thread Unset (λ t. manager k t.managers) m T.threads)
  where
    go : (g : Manager) → NobodyComes T (by_manager (end m T) (λ x. deliver (notice x m c) (stop m (Trapped k) T)) g)
    go Unset = ended m T
    go (Set x) = and_on (stopped m (Trapped k) T) (delivered (notice x m c) _)
    go Gone = ended m T

managed : (g : Manager) (m : ℕ) (k : TrapKind) (x : ℕ) (T : Tables) → NobodyComes T (set_over g m k x T).tables
unfolding set_over
managed Unset m k x T = changed m (λ t. with_managers (set_entry k (Set x) t.managers) t) (λ t. refl) T
managed (Set y) m k x T = ended m T
managed Gone m k x T = ended m T

asked : (m d : ℕ) (T : Tables) (x : Pulled Held) → NobodyComes T (take_held m d T x).tables
unfolding take_held
asked m d T missing = stopped m (Device d) T
asked m d T (pulled h hs) = aside T _ refl refl

served : (m : ℕ) (T : Tables) (c : Call) → creates (ByRunner c) ≡ false → NobodyComes T (serve m T c).tables
unfolding serve wait_for_clock terminate creates
served m T (Send to w) h = sent m to w T
served m T (Receive w) h = got m w T
served m T CreateBrother h = absurd (true≢false h)
served m T CreateSon h = absurd (true≢false h)
served m T (Terminate Oneself) h = ended m T
served m T (Terminate (Named x)) h = ended x T
served m T (SetManager k x) h = managed _ m k x T
served m T GetCpuTime h = unmoved T
served m T WaitForClock h = and_on (stopped m Clock T) (aside _ _ refl refl)
served m T (WaitForIo d) h = asked m d T _
served m T (Trap k c) h = trapped m k c T

ticked : (T : Tables) → NobodyComes T (tick T)
unfolding tick charge beat rotate
ticked T = and_on (charged T) (and_on (beaten (charge T)) (rotated (beat (charge T))))
  where
    charged : (U : Tables) → NobodyComes U (charge U)
    charged U = by_runs (NobodyComes U) U.runner (λ _. unmoved U)
        (λ m s _. and_on (changed m (λ t. with_ticks (one_more t.ticks) t) (λ t. refl) U) (aside _ _ refl refl))

    beaten : (U : Tables) → NobodyComes U (beat U)
    beaten U =
        by_if (NobodyComes U) (U.since + 1 == beat_ticks) (λ _. and_on (aside U _ refl refl) (woken _ _ _ _)) (λ _. aside U _ refl refl)

    rotated : (U : Tables) → NobodyComes U (rotate U)
    rotated U = by_runs (NobodyComes U) U.runner (λ _. unmoved U)
        (λ m s _. by_if (NobodyComes U) (s == 0) (λ _. and_on (woken _ _ _ U) (aside _ _ refl refl)) (λ _. unmoved U))

-- ---- the laws

-- an event is request 1 or 2: a thread is created, with this parent
pub record Creation (T : Tables) (e : Event) : Type 0 where
  pub call : Call
  pub asks : e ≡ ByRunner call
  pub parent : Parent
  pub serves : serve (me T.runner) T call ≡ create parent T

pub creation : (T : Tables) (e : Event) → creates e ≡ true → Creation T e
unfolding creates serve
creation T (ByRunner CreateBrother) h = record { call = CreateBrother; asks = refl; parent = _; serves = refl }
creation T (ByRunner CreateSon) h = record { call = CreateSon; asks = refl; parent = _; serves = refl }
creation T Malformed h = absurd (false≢true h)
creation T (ByRunner (Send n w)) h = absurd (false≢true h)
creation T (ByRunner (Receive w)) h = absurd (false≢true h)
creation T (ByRunner (Terminate n)) h = absurd (false≢true h)
creation T (ByRunner (SetManager k n)) h = absurd (false≢true h)
creation T (ByRunner GetCpuTime) h = absurd (false≢true h)
creation T (ByRunner WaitForClock) h = absurd (false≢true h)
creation T (ByRunner (WaitForIo d)) h = absurd (false≢true h)
creation T (ByRunner (Trap k c)) h = absurd (false≢true h)
creation T Tick h = absurd (false≢true h)
creation T (Interrupt d w) h = absurd (false≢true h)

-- What is created comes, with the next name, and nobody else.
pub creation_brings : (p : Parent) (T : Tables) (n : ℕ) → live n (create p T).tables ≡ true → (n ≡ next_name T) ⊎ (live n T ≡ true)
unfolding create
creation_brings p T n l =
    let r = live_member (create p T).tables.threads n l in
    ⊎_elim (λ i. inl (r.2 ∙ ap (λ (x : Thread). x.name) i))
    (λ i. inr (ap (λ (x : ℕ). live x T) r.2 ∙ member_live T.threads r.0 i)) (mem_insert _ _ T.threads r.1)

-- and whoever was there stays
pub creation_keeps : (p : Parent) (T : Tables) (n : ℕ) → live n T ≡ true → live n (create p T).tables ≡ true
unfolding create
creation_keeps p T n l =
    let r = live_member T.threads n l in
    ap (λ (x : ℕ). live x (create p T).tables) r.2
    ∙ member_live (create p T).tables.threads r.0 (insert_old _ _ T.threads r.1)

pub created_last : (p : Parent) (T : Tables) → (create p T).tables.last ≡ next_name T
unfolding create
created_last p T = refl

pub created_lives : (p : Parent) (T : Tables) → live (next_name T) (create p T).tables ≡ true
unfolding create
created_lives p T = member_live _ _ (insert_new (λ t. ltb t.name (next_name T)) (new_thread (next_name T) p Ready) T.threads)

-- An event that is no request 1 or 2 brings nobody.
pub no_other_brings : (T : Tables) (e : Event) → creates e ≡ false → NobodyComes T (act T e).tables
unfolding act interrupt
no_other_brings T Malformed h = unmoved T
no_other_brings T (ByRunner c) h = served _ T c h
no_other_brings T Tick h = ticked T
no_other_brings T (Interrupt d w) h = by_if (NobodyComes T) (any (waits_for d) T.threads) (λ _. woken _ _ _ T) (λ _. aside T _ refl refl)

-- Nor does the dispatch.
pub dispatch_brings_nobody : (o : Outcome) → NobodyComes o.tables (dispatch o).tables
dispatch_brings_nobody o =
    by_dispatch (NobodyComes o.tables) o (λ _ _ _. unmoved o.tables) (λ _ _. unmoved o.tables)
    (λ x q _ _. and_on (changed x (in_state Running Nothing) (λ t. refl) o.tables) (aside _ _ refl refl))
