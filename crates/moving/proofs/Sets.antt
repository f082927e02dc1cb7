-- The loops of an ending over the rows of a memory: the set grows, rows are closed up, receivers become ready. All else is as it was.
use Rattle.std.proofs.Common.{if◌then◌else◌, ◌==◌}
use Prim.Native.Nat.{ℕ, ◌+◌, ◌≤◌, ◌<◌}
use mathlib.Core.Path.{◌≡◌, refl, sym, ap, ◌∙◌}
use mathlib.Core.Bool.{Bool, true, false, not, ◌&&◌, true≢false}
use mathlib.Core.List.{List, [], ◌∷◌, ◌++◌, map}
use native.Mathlib.Omega.{arith}
use lib.Dec.{eqb}
use lib.ListN.{length, take, drop, get_or, set, length-set, length-append}
use lib.Seq.{length-take-le, take-take, take-set-le, drop-set-lt, get_or-set_same, set-get_or, set-set}
use borrow.Author.Tests.{eqb-true, eq-eqb}
use Rattle.rules.specs.Lists.{any, has, keep, count}
use Rattle.rules.specs.Words.{by_parent, by_manager}
use Rattle.rules.specs.Tables.{in_state, manager, with_managers, set_entry}
use Rattle.rules.specs.States.{awaits, trapped_on}
use Rattle.rules.specs.Ending.{depends, grow, gone_if, without_managers, misses, told_gone}
use Rattle.laws.specs.Words.{Running, Receiving, Clock, Device, Trapped}
use Rattle.laws.specs.Words.{State, Ready, Answer, TrapKind, Program, Tlb, SysBp, Manager, Managers, Unset, Set, Gone, Thread}
use Rattle.laws.proofs.Closure.{joins}
use Rattle.memory.specs.Rows.{Rows, view, Roomy, members, put_threads, put_ready, put_readies, put_ended, put_ends, ReadyIs, MembersAre}
use Rattle.memory.specs.Rows.{Woken, no_thread}
use Rattle.moving.specs.Marks.{Marks}
use Rattle.moving.proofs.Loops.{wrote, Left, moves, same_here, Sifted, sift_drops, sift_holds, Gathered, gather_starts, gather_by}
use Rattle.moving.proofs.Loops.{gather_joins, gather_room, gather_ends, Turned, turn_starts, turn_next, turn_by, turn_ends}
use Rattle.moving.proofs.Steps.{the_threads, Only, writes, stays}

-- what a test against the set needs of the rows and the marks, and one of the thread at a place
abbrev pub Listed : List ℕ → Rows → Type 0
Listed marks r = Roomy r × (r.ends ≤ r.limits.threads) × Marks (members r) marks

abbrev pub ListedAt : List ℕ → ℕ → Rows → Type 0
ListedAt marks i r = Roomy r × (r.ends ≤ r.limits.threads) × (i < r.limits.threads) × Marks (members r) marks

-- ---- who waits for one of a list

any_never : (l : List ℕ) → any (λ k. false) l ≡ false
unfolding any
any_never [] = refl
any_never (x ∷ l) = any_never l

eqb_turned : (a b : ℕ) (p : Bool) → eqb a b ≡ p → eqb b a ≡ p
eqb_turned a b true e = eq-eqb b a (sym (eqb-true a b e))
eqb_turned a b false e = go (eqb b a) refl
  where
    go : (q : Bool) → eqb b a ≡ q → eqb b a ≡ false
    go true f = absurd (true≢false (sym (eq-eqb a b (sym (eqb-true b a f))) ∙ e))
    go false f = f

has_turned : (n : ℕ) (l : List ℕ) → any (λ k. k == n) l ≡ has n l
has_turned n l = ap (λ (p : ℕ → Bool). any p l) (λ ι k. eqb_turned n k (eqb n k) refl ι)

pub managed : (l : List ℕ) (g : Manager) → any (λ k. by_manager false (λ j. k == j) g) l ≡ by_manager false (λ j. has j l) g
managed l Unset = any_never l
managed l (Set n) = has_turned n l
managed l Gone = any_never l

pub never : (l : List ℕ) → false ≡ any (λ k. false) l
never l = sym (any_never l)

-- nor who is not trapped
pub not_trapped : (l : List ℕ) (t : Thread) → ((k : TrapKind) → t.state ≡ Trapped k → ⊥) → false ≡ any (λ n. awaits n t) l
unfolding trapped_on
not_trapped l t h = go t.state refl
  where
    go : (s : State) → t.state ≡ s → false ≡ any (λ n. awaits n t) l
    go Running e = rw e (never l)
    go Ready e = rw e (never l)
    go (Receiving w) e = rw e (never l)
    go Clock e = rw e (never l)
    go (Device d) e = rw e (never l)
    go (Trapped k) e = absurd (h k e)

-- the first of all that are found are all
pub whole_set : (r : Rows) (n k : ℕ) → n ≡ r.ends → has k (take n (members r)) ≡ has k (members r)
whole_set r n k e = ap (λ (j : ℕ). has k (take j (members r))) e
    ∙ ap (has k) (take-take r.ends r.ends r.ended (omega arith))

and_no : (d : Bool) → false ≡ (d && false)
and_no true = refl
and_no false = refl

or_yes : (b c : Bool) → b ≡ c → b ≡ (c && true)
or_yes b true q = q
or_yes b false q = q

-- l: the set, t: a thread that may join it
module _ (l : List ℕ) (t : Thread) where
  pub joins_in : has t.name l ≡ true → false ≡ joins l t
  joins_in e = rw e (and_no (depends l t))

  pub joins_child : has t.name l ≡ false → by_parent false (λ p. has p l) t.parent ≡ true → true ≡ joins l t
  joins_child e f = rw (f, e)

  pub joins_trapped : (b : Bool) → has t.name l ≡ false → by_parent false (λ p. has p l) t.parent ≡ false →
      b ≡ any (λ n. awaits n t) l → b ≡ joins l t
  joins_trapped b e f q = rw (f, e) (or_yes b (any (λ n. awaits n t) l) q)

-- ---- the set begins, and grows

pub begun : {r r₁ r₂ : Rows} {x : ℕ} → length r.ended ≡ r.limits.threads → 0 < r.limits.threads →
    r₁ ≡ put_ended (set r.ended 0 x) r → r₂ ≡ put_ends 1 r₁ → MembersAre r r₂ (x ∷ [])
begun {r} {r₁} {r₂} {x} l h e₁ e₂ =
    rw (e₂, e₁) (record { only = refl; says = wrote r.ended 0 x (omega arith); counts = refl; fits = omega arith })

-- A round over the threads, i of them behind. old: its tests read the set as it was when the round began, and that is still its front.
pub record Growing (r₀ r : Rows) (i : ℕ) : Type 0 where
  pub only : r ≡ put_ends r.ends (put_ended r.ended r₀)
  pub gathered : Gathered (joins (members r₀)) (λ (t : Thread). t.name) r₀.count r₀.threads (members r₀) r₀.ends (members r)
      r.ends i
  pub old : take r₀.ends r.ended ≡ members r₀
  pub since : r₀.ends ≤ r.ends
  pub long : length r.ended ≡ length r₀.ended

pub grow_starts : {r₀ : Rows} → r₀.count ≤ length r₀.threads → Growing r₀ r₀ 0
grow_starts h = record { only = refl; gathered = gather_starts _ _ _ _ _ _ h; old = refl; since = omega arith; long = refl }

module _ {r₀ r : Rows} {i : ℕ} (G : Growing r₀ r i) where
  -- what a test of the thread at i against the first e says
  pub grow_tests : {e : ℕ} {b : Bool} → e ≡ r₀.ends → b ≡ joins (take e (members r)) (get_or r.threads i no_thread) →
      joins (members r₀) (get_or r₀.threads i no_thread) ≡ b
  grow_tests n t =
      let x : Thread = get_or r.threads i no_thread in
      sym (t ∙ (ap (λ (k : ℕ). joins (take k (members r)) x) n
      ∙ (ap (λ (l : List ℕ). joins l x) (take-take r₀.ends r.ends r.ended G.since ∙ G.old)
      ∙ ap (λ (s : Rows). joins (members r₀) (get_or s.threads i no_thread)) G.only)))

  pub grow_by : i < r₀.count → joins (members r₀) (get_or r₀.threads i no_thread) ≡ false → Growing r₀ r (i + 1)
  grow_by h e = record {
    only = G.only;
    gathered = gather_by _ _ _ _ _ _ _ _ _ no_thread G.gathered h e;
    old = G.old;
    since = G.since;
    long = G.long;
  }

  pub grow_room : i < r₀.count → joins (members r₀) (get_or r₀.threads i no_thread) ≡ true →
      r.ends + 1 ≤ r₀.ends + count (joins (members r₀)) (view r₀).threads
  grow_room h e = gather_room _ _ _ _ _ _ _ _ _ no_thread G.gathered h e

  pub grow_next : {r₁ : Rows} {x : ℕ} → i < r₀.count → joins (members r₀) (get_or r₀.threads i no_thread) ≡ true →
      x ≡ (get_or r.threads i no_thread).name → r.ends < length r₀.ended →
      r₁ ≡ put_ends (r.ends + 1) (put_ended (set r.ended r.ends x) r) → Growing r₀ r₁ (i + 1)
  grow_next {r₁} {x} h e z room w =
      let y : x ≡ (get_or r₀.threads i no_thread).name = z ∙ ap (λ (s : Rows). (get_or s.threads i no_thread).name) G.only in
      rw w (record {
        only = ap (λ (s : Rows). put_ends (r.ends + 1) (put_ended (set r.ended r.ends x) s)) G.only;
        gathered = gather_joins _ _ _ _ _ _ _ _ _ _ _ no_thread G.gathered h e (wrote r.ended r.ends x (omega (arith, G.long))
            ∙ ap (λ (n : ℕ). members r ++ (n ∷ [])) y) refl;
        old = take-set-le r₀.ends r.ended r.ends x G.since ∙ G.old;
        since = omega (arith, G.since);
        long = length-set r.ended r.ends x ∙ G.long;
      })

  pub grow_ends : r₀.count ≤ i → r₀.ends + count (joins (members r₀)) (view r₀).threads ≤ r₀.limits.threads →
      length r₀.ended ≡ r₀.limits.threads → MembersAre r₀ r (grow (view r₀).threads (members r₀))
  unfolding grow
  grow_ends h f l =
      let e = gather_ends _ _ _ _ _ _ _ _ _ G.gathered h in
      let low : r.ends ≤ r₀.limits.threads = omega (arith, e.1) in
      record {
        only = G.only;
        says = e.0;
        counts = sym (length-take-le r.ends r.ended (omega (arith, G.long))) ∙ ap length e.0;
        fits = low;
      }

-- ---- manager entries that name a member are gone

pub is_gone : (l : List ℕ) (g : Manager) → by_manager false (λ n. has n l) g ≡ true → gone_if l g ≡ Gone
unfolding gone_if
is_gone l Unset e = absurd (true≢false (sym e))
is_gone l (Set n) e = rw e
is_gone l Gone e = refl

is_kept : (l : List ℕ) (g : Manager) → by_manager false (λ n. has n l) g ≡ false → gone_if l g ≡ g
unfolding gone_if
is_kept l Unset e = refl
is_kept l (Set n) e = rw e
is_kept l Gone e = refl

-- an entry set to what it is
same_entry : (k : TrapKind) (g : Managers) → set_entry k (manager k g) g ≡ g
unfolding set_entry manager
same_entry Program g = refl
same_entry Tlb g = refl
same_entry SysBp g = refl

abbrev lost : List ℕ → TrapKind → Thread → Thread
lost l k t = with_managers (set_entry k (gone_if l (manager k t.managers)) t.managers) t

-- the entry of a kind of the thread at a place
abbrev lost_at : ℕ → TrapKind → Rows → Rows
lost_at i k r = put_threads (set r.threads i (lost (members r) k (get_or r.threads i no_thread))) r

pub lose_none : (i : ℕ) (k : TrapKind) (r : Rows) →
    by_manager false (λ n. has n (members r)) (manager k (get_or r.threads i no_thread).managers) ≡ false → r ≡ lost_at i k r
lose_none i k r e =
    let t : Thread = get_or r.threads i no_thread in
    let same : lost (members r) k t ≡ t = ap (λ (g : Managers). with_managers g t)
    (ap (λ (g : Manager). set_entry k g t.managers) (is_kept (members r) _ e) ∙ same_entry k t.managers) in
    ap (λ (l : List Thread). put_threads l r) (sym (ap (set r.threads i) same ∙ set-get_or r.threads i no_thread))

-- what a loss at i is after the thread there has become t
lost_then : (i : ℕ) (k : TrapKind) (r : Rows) (t : Thread) → i < length r.threads →
    lost_at i k (put_threads (set r.threads i t) r) ≡ put_threads (set r.threads i (lost (members r) k t)) r
lost_then i k r t h =
    ap (λ (x : Thread). put_threads (set (set r.threads i t) i (lost (members r) k x)) r) (get_or-set_same r.threads i t no_thread h)
    ∙ ap (λ (l : List Thread). put_threads l r) (set-set r.threads i t (lost (members r) k t))

pub lose_all : (i : ℕ) (r : Rows) {r₁ r₂ r₃ : Rows} → i < length r.threads → r₁ ≡ lost_at i Program r → r₂ ≡ lost_at i Tlb r₁ →
    r₃ ≡ lost_at i SysBp r₂ →
    r₃ ≡ put_threads (set r.threads i (without_managers (members r) (get_or r.threads i no_thread))) r
unfolding without_managers set_entry manager
lose_all i r h e₁ e₂ e₃ =
    let t : Thread = get_or r.threads i no_thread in
    e₃
    ∙ (ap (lost_at i SysBp) (e₂ ∙ (ap (lost_at i Tlb) e₁ ∙ lost_then i Tlb r (lost (members r) Program t) h))
    ∙ lost_then i SysBp r (lost (members r) Tlb (lost (members r) Program t)) h)

-- ---- threads without the members

-- an entry is changed where it stands, and then written at k
sift_turns : {A : Type 0} (p : A → Bool) (g : A → A) (n : ℕ) (l₀ l : List A) (k i : ℕ) (x d : A) → Sifted p g n l₀ l k i → i < n →
    p (get_or l i d) ≡ true → x ≡ g (get_or l i d) → Sifted p g n l₀ (set (set l i x) k x) (k + 1) (i + 1)
sift_turns {A} p g n l₀ l k i x d S h e q =
    let L : Left n l₀ (set l i x) (i + 1) = moves n l₀ l i i x S.left h (omega arith) in
    let j : k < length l = omega (arith, S.left.whole, S.left.long, S.behind) in
    let front : take (k + 1) (set (set l i x) k x) ≡ take (k + 1) (set l k x) =
    wrote (set l i x) k x (omega (arith, length-set l i x))
    ∙ (ap (λ (z : List A). z ++ (x ∷ [])) (take-set-le k l i x S.behind) ∙ sym (wrote l k x j))
    in
    record {
      left = record {
        whole = L.whole;
        within = L.within;
        long = length-set (set l i x) k x ∙ L.long;
        rest = drop-set-lt (i + 1) (set l i x) k x (omega (arith, S.behind)) ∙ L.rest;
      };
      behind = omega (arith, S.behind);
      so = ap (λ (z : List A). z ++ map g (keep p (drop (i + 1) (take n l₀)))) front ∙ (sift_holds p g n l₀ l k i x d S h e q).so;
    }

abbrev lives_on : Rows → Thread → Bool
lives_on r₀ t = not (has t.name (members r₀))

abbrev pub Leaving : Rows → Rows → ℕ → ℕ → Type 0
Leaving r₀ r k i =
    Only the_threads r₀ (λ (l : List Thread). Sifted (lives_on r₀) (without_managers (members r₀)) r₀.count r₀.threads l k i) r

module _ {r₀ r : Rows} {k i x : ℕ} {b : Bool} (U : Leaving r₀ r k i) (h : i < r₀.count) (z : x ≡ (get_or r.threads i no_thread).name)
    (t : b ≡ has x (members r)) where
  leave_tests : lives_on r₀ (get_or r.threads i no_thread) ≡ not b
  leave_tests = ap not (sym (t ∙ (ap (λ (s : Rows). has x (members s)) U.only ∙ ap (λ (y : ℕ). has y (members r₀)) z)))

  pub leave_drops : b ≡ true → Leaving r₀ r k (i + 1)
  leave_drops e = stays the_threads U (sift_drops _ _ _ _ _ _ _ no_thread U.so h (leave_tests ∙ ap not e))

  -- r₁: the thread's entries are gone; r₂: it stands at k
  pub leave_holds : {r₁ r₂ : Rows} → b ≡ false →
      r₁ ≡ put_threads (set r.threads i (without_managers (members r) (get_or r.threads i no_thread))) r →
      r₂ ≡ put_threads (set r₁.threads k (get_or r₁.threads i no_thread)) r₁ → Leaving r₀ r₂ (k + 1) (i + 1)
  leave_holds {r₁} {r₂} e w₁ w₂ =
      let l : List Thread = r.threads in
      let y : Thread = without_managers (members r) (get_or l i no_thread) in
      let at : get_or (set l i y) i no_thread ≡ y = get_or-set_same l i y no_thread (omega (arith, U.so.left.whole, U.so.left.long)) in
      let w : r₂ ≡ put_threads (set (set l i y) k y) r = w₂
      ∙ (ap (λ (s : Rows). put_threads (set s.threads k (get_or s.threads i no_thread)) s) w₁
      ∙ ap (λ (v : Thread). put_threads (set (set l i y) k v) r) at) in
      writes the_threads _ U w (sift_turns _ _ _ _ _ _ _ y no_thread U.so h (leave_tests ∙ ap not e)
      (ap (λ (s : Rows). without_managers (members s) (get_or l i no_thread)) U.only))

-- ---- receivers of members become ready

abbrev miss : Rows → Thread → Bool
miss r₀ t = misses (members r₀) t.state

abbrev told : Thread → Thread
told t = in_state Ready (told_gone t.state) t

pub record Freeing (r₀ r : Rows) (i : ℕ) : Type 0 where
  pub only : r ≡ put_readies r.readies (put_ready r.ready (put_threads r.threads r₀))
  pub turned : Turned (miss r₀) told r₀.count r₀.threads r.threads i
  pub gathered : Gathered (miss r₀) (λ (t : Thread). t.name) r₀.count r₀.threads (view r₀).ready r₀.readies (view r).ready
      r.readies i
  pub counted : length (view r).ready ≡ r.readies

pub free_starts : {r₀ : Rows} → r₀.count ≤ length r₀.threads → r₀.readies ≤ length r₀.ready → Freeing r₀ r₀ 0
free_starts {r₀} h k = record {
  only = refl;
  turned = turn_starts _ _ _ _ h;
  gathered = gather_starts _ _ _ _ _ _ h;
  counted = length-take-le r₀.readies r₀.ready k;
}

module _ {r₀ r : Rows} {i : ℕ} (F : Freeing r₀ r i) where
  -- the thread at i is as it was
  free_same : get_or r.threads i no_thread ≡ get_or r₀.threads i no_thread
  free_same = same_here _ _ _ _ no_thread F.turned.mapped.left

  pub free_tests : {s : State} {b : Bool} → s ≡ (get_or r.threads i no_thread).state → b ≡ misses (members r) s →
      miss r₀ (get_or r.threads i no_thread) ≡ b
  free_tests {s} z t = sym (t ∙ (ap (λ (u : Rows). misses (members u) s) F.only ∙ ap (misses (members r₀)) z))

  pub free_by : i < r₀.count → miss r₀ (get_or r.threads i no_thread) ≡ false → Freeing r₀ r (i + 1)
  free_by h e =
      record {
        only = F.only;
        turned = turn_by _ _ _ _ _ _ no_thread F.turned h e;
        gathered = gather_by _ _ _ _ _ _ _ _ _ no_thread F.gathered h (ap (miss r₀) (sym free_same) ∙ e);
        counted = F.counted;
      }

  -- r₁: the thread at i is ready; before its name joins there is room for it
  pub free_room : {r₁ : Rows} {l : List Thread} → i < r₀.count → miss r₀ (get_or r.threads i no_thread) ≡ true →
      r₀.readies + count (miss r₀) (view r₀).threads ≤ r₀.limits.threads →
      r₁ ≡ put_threads l r → r₁.readies < r₁.limits.threads
  free_room h e f w =
      let j = gather_room _ _ _ _ _ _ _ _ _ no_thread F.gathered h (ap (miss r₀) (sym free_same) ∙ e) in
      rw w (rw (ap (λ (s : Rows). s.limits.threads) F.only) (omega (arith, j, f)))

  pub free_next : {r₁ r₂ : Rows} {x : ℕ} {a : Answer} → i < r₀.count → miss r₀ (get_or r.threads i no_thread) ≡ true →
      x ≡ (get_or r.threads i no_thread).name → a ≡ told_gone (get_or r.threads i no_thread).state →
      r₁ ≡ put_threads (set r.threads i (in_state Ready a (get_or r.threads i no_thread))) r →
      ReadyIs r₁ r₂ ((view r₁).ready ++ (x ∷ [])) → Freeing r₀ r₂ (i + 1)
  free_next {r₁} {r₂} {x} {a} h e z q w j =
      let y : Thread = in_state Ready a (get_or r.threads i no_thread) in
      let was : (view r₁).ready ≡ (view r).ready = ap (λ (s : Rows). (view s).ready) w in
      let one : r₂.readies ≡ r.readies + 1 = j.counts
      ∙ (length-append (view r₁).ready (x ∷ []) ∙ (ap (λ (l : List ℕ). length l + 1) was ∙ ap (λ (k : ℕ). k + 1) F.counted)) in
      let threads : r₂.threads ≡ set r.threads i y = ap (λ (s : Rows). s.threads) j.only ∙ ap (λ (s : Rows). s.threads) w in
      record {
        only = j.only ∙ ap (λ (s : Rows). put_readies r₂.readies (put_ready r₂.ready s))
            (w ∙ (ap (put_threads (set r.threads i y)) F.only
            ∙ ap (λ (ts : List Thread). put_readies r.readies (put_ready r.ready (put_threads ts r₀))) (sym threads)));
        turned = rw threads (turn_next _ _ _ _ _ _ y no_thread F.turned h e
            (ap (λ (b : Answer). in_state Ready b (get_or r.threads i no_thread)) q));
        gathered = gather_joins _ _ _ _ _ _ _ _ _ _ _ no_thread F.gathered h (ap (miss r₀) (sym free_same) ∙ e)
            (j.says ∙ (ap (λ (l : List ℕ). l ++ (x ∷ [])) was
            ∙ ap (λ (k : ℕ). (view r).ready ++ (k ∷ [])) (z ∙ ap (λ (t : Thread). t.name) free_same))) one;
        counted = ap length j.says ∙ sym j.counts;
      }

  pub free_ends : r₀.count ≤ i → r₀.readies + count (miss r₀) (view r₀).threads ≤ r₀.limits.threads →
      Woken r₀ r (map (λ (t : Thread). if miss r₀ t then told t else t) (view r₀).threads) ((view r₀).ready
      ++ map (λ (t : Thread). t.name) (keep (miss r₀) (view r₀).threads))
  free_ends h f =
      let e = gather_ends _ _ _ _ _ _ _ _ _ F.gathered h in
      let n : r.count ≡ r₀.count = ap (λ (s : Rows). s.count) F.only in
      record {
        only = F.only;
        threads = ap (λ (k : ℕ). take k r.threads) n ∙ turn_ends _ _ _ _ _ _ F.turned h;
        ready = e.0;
        fits = omega (arith, e.1);
      }
