-- What the stages of reading promise: the parts of a dump, put into a memory that is lent.
use Rattle.std.specs.Prelude.{ℕ, ◌+◌, ◌*◌, ◌≤◌, Bool, true, false, ◌&&◌, ◌≡◌, leb, ltb, length, take, drop, get_or, if◌then◌else◌, ◌==◌, Option, None, Some}
use Rattle.std.specs.Borrow.{Bor}
use mathlib.Core.List.{List, [], ◌∷◌, ◌++◌, Memᴰ}
use Rattle.rules.specs.Lists.{each, chain}
use Rattle.rules.specs.Numbers.{small, devices}
use Rattle.rules.specs.Tables.{Tables, with_last, with_runner, with_time, with_ready, with_clock}
use Rattle.rules.specs.TableRules.{table_rules}
use Rattle.rules.specs.Tags.{before_value, thread_tag, ready_tag, message_tag, held_tag}
use Rattle.rules.specs.Dump.{field, thread_value, message_value, held_value, dump}
use Rattle.rules.specs.Load.{loaded, no_dump, load, runner_from, word_at, thread_from, message_from, held_from}
use Rattle.laws.specs.Words.{Thread, Message, Held}
use Rattle.store.specs.Store.{limits, tables, Shaped}
use Rattle.checking.specs.Stands.{stands}

-- do the bytes start with this tag?
unfoldable pub starts : ℕ → List ℕ → Bool
starts tag [] = false
starts tag (b ∷ bs) = b == tag

-- do the bytes start with a whole field of this tag and this length?
unfoldable pub opens : ℕ → ℕ → List ℕ → Bool
opens tag size [] = false
opens tag size (t ∷ []) = false
opens tag size (t ∷ high ∷ []) = false
opens tag size (t ∷ high ∷ low ∷ rest) = (t == tag) && (high * 256 + low == size) && leb size (length rest)

-- the value of the field of this tag and this length that starts at a place, if one does
pub record FieldAt (tag size : ℕ) (bytes : List ℕ) (at : ℕ) (value : Option (Bor (List ℕ))) : Type 0 where
  pub shut : value ≡ None → opens tag size (drop at bytes) ≡ false
  pub opened : (v : Bor (List ℕ)) → value ≡ Some v → (opens tag size (drop at bytes) ≡ true) × (v.now ≡ take size (drop (at + 3) bytes))

-- ---- the memory that is filled

-- it has the small limits, and its counts are within them
pub record Small (m : List ℕ) : Type 0 where
  pub shaped : Shaped m
  pub limits : limits m ≡ small

-- nothing but a head
pub record Empty (T : Tables) : Type 0 where
  pub threads : T.threads ≡ []
  pub ready : T.ready ≡ []
  pub clock : T.clock ≡ []
  pub messages : T.messages ≡ []
  pub held : T.held ≡ []

-- the head of T₀ and all else of T
abbrev pub behind_head : Tables → Tables → Tables
behind_head T₀ T = record {
  last = T₀.last;
  runner = T₀.runner;
  since = T₀.since;
  beats = T₀.beats;
  threads = T.threads;
  ready = T.ready;
  clock = T.clock;
  messages = T.messages;
  held = T.held;
}

-- the head as the first twelve bytes tell it, without the status, which is computed
abbrev pub head_from : List ℕ → Tables → Tables
head_from bytes T = with_time (get_or bytes 7 0) (word_at bytes 8)
    (with_runner (runner_from (get_or bytes 5 0) (get_or bytes 6 0)) (with_last (get_or bytes 4 0) T))

-- the queue of a field's tag: 3 ready names, 4 clock waiters
abbrev pub names_in : ℕ → Tables → List ℕ
names_in tag T = if tag == ready_tag then T.ready else T.clock

abbrev pub with_names : ℕ → List ℕ → Tables → Tables
with_names tag q T = if tag == ready_tag then with_ready q T else with_clock q T

-- ---- the stages

-- A row was read from these bytes and `behind` is left: where the bytes are the fields of a row that is fine and something behind them,
-- those.
pub record RowRead {A : Type 0} (most tag : ℕ) (value : A → List ℕ) (fine : List A → Type 0) (bytes : List ℕ) (row : List A)
    (behind : List ℕ) : Type 0 where
  pub reads : (xs : List A) (rest : List ℕ) → length xs ≤ most → fine xs → starts tag rest ≡ false
      → bytes ≡ each (λ x. field tag (value x)) xs ++ rest → (row ≡ xs) × (behind ≡ rest)

-- every element comes back from its value
pub record Backs {A : Type 0} (value : A → List ℕ) (back : List ℕ → A) (xs : List A) : Type 0 where
  pub each_back : (x : A) → Memᴰ x xs → back (value x) ≡ x

-- and held words rise by their devices, of which there are 48
pub record HeldFine (hs : List Held) : Type 0 where
  pub backs : Backs held_value held_from hs
  pub low : (h : Held) → Memᴰ h hs → ltb h.device devices ≡ true
  pub rising : chain (λ h k. ltb h.device k.device) hs ≡ true

abbrev pub ThreadsRead : List ℕ → List Thread → List ℕ → Type 0
ThreadsRead bytes row behind = RowRead small.threads thread_tag thread_value (Backs thread_value thread_from) bytes row behind

abbrev pub MessagesRead : List ℕ → List Message → List ℕ → Type 0
MessagesRead bytes row behind =
    RowRead (small.blocks + small.threads) message_tag message_value (Backs message_value message_from) bytes row behind

abbrev pub HeldRead : List ℕ → List Held → List ℕ → Type 0
HeldRead bytes row behind = RowRead devices held_tag held_value HeldFine bytes row behind

-- From a place on there is a field of so many names: where such a field stands there, as many as it has. Where there is one, so many bytes
-- are there.
pub record NamesCounted (tag : ℕ) (bytes : List ℕ) (from : ℕ) (many : Option ℕ) : Type 0 where
  pub whole : (n : ℕ) → many ≡ Some n → (n ≤ small.threads) × (from + before_value + n ≤ length bytes)
  pub counts : (q rest : List ℕ) → length q ≤ small.threads → drop from bytes ≡ field tag q ++ rest → many ≡ Some (length q)

-- Names were read from a place on, and there is a place behind their field, as for a row.
pub record NamesRead (tag : ℕ) (bytes : List ℕ) (from : ℕ) (place : Option ℕ) (names : List ℕ) : Type 0 where
  pub within : (n : ℕ) → place ≡ Some n → n ≤ length bytes
  pub reads : (q rest : List ℕ) → length q ≤ small.threads → drop from bytes ≡ field tag q ++ rest
      → (n : ℕ) × (place ≡ Some n) × (names ≡ q) × (drop n bytes ≡ rest)

-- What stands behind a head T₀, if the bytes are the dump of tables that meet the rules: all else of them.
pub record RestFound (T₀ : Tables) (bytes m : List ℕ) (good : Bool) : Type 0 where
  pub finds : (T : Tables) → table_rules small T ≡ true → dump T ≡ bytes → (good ≡ true) × (tables m ≡ behind_head T₀ T) × Small m

-- Those tables stand in the memory. If the bytes are no dump, it holds anything.
pub record Found (bytes m : List ℕ) (good : Bool) : Type 0 where
  pub finds : (T : Tables) → table_rules small T ≡ true → dump T ≡ bytes → (good ≡ true) × (tables m ≡ T) × Small m

-- ---- all of reading

-- the memory stands for what reading gives, or the bytes are refused
pub record Accepts (bytes m : List ℕ) (good : Bool) : Type 0 where
  pub takes : (T : Tables) → load small bytes ≡ loaded T → (good ≡ true) × (stands small m ≡ true) × (tables m ≡ T)
  pub refuses : load small bytes ≡ no_dump → good ≡ false
