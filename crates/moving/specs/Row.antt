-- One row of a memory's rows with its count: what a move of its entries changes, and what it leaves.
use Rattle.std.specs.Prelude.{ℕ, ◌+◌, ◌≤◌, ◌≡◌, List, length, take, refl}
use Rattle.laws.specs.Words.{Limits}
use Rattle.laws.specs.Words.{Thread, Message}
use Rattle.memory.specs.Rows.{Rows, no_thread, no_message, put_threads, put_count, put_ready, put_readies, put_clock, put_clocks, put_messages}
use Rattle.memory.specs.Rows.{put_letters}

-- limit: how many entries there is room for; none: what an entry behind the end would be
pub record Row (A : Type 0) : Type 0 where
  pub of : Rows → List A
  pub put : List A → Rows → Rows
  pub count : Rows → ℕ
  pub put_count : ℕ → Rows → Rows
  pub limit : Limits → ℕ
  pub none : A
  pub put_own : (r : Rows) → put (of r) r ≡ r
  pub put_of : (l : List A) (r : Rows) → of (put l r) ≡ l
  pub put_over : (l k : List A) (r : Rows) → put l (put k r) ≡ put l r
  pub put_room : (l : List A) (r : Rows) → (put l r).room ≡ r.room
  pub put_limits : (l : List A) (r : Rows) → (put l r).limits ≡ r.limits
  pub count_is : (n : ℕ) (r : Rows) → count (put_count n r) ≡ n
  pub count_of : (n : ℕ) (r : Rows) → of (put_count n r) ≡ of r
  pub count_room : (n : ℕ) (r : Rows) → (put_count n r).room ≡ r.room

abbrev pub the_threads : Row Thread
the_threads = record {
  of = λ r. r.threads;
  put = λ l r. put_threads l r;
  count = λ r. r.count;
  put_count = λ n r. put_count n r;
  limit = λ L. L.threads;
  none = no_thread;
  put_own = λ r. refl;
  put_of = λ l r. refl;
  put_over = λ l k r. refl;
  put_room = λ l r. refl;
  put_limits = λ l r. refl;
  count_is = λ n r. refl;
  count_of = λ n r. refl;
  count_room = λ n r. refl;
}

abbrev pub the_ready : Row ℕ
the_ready = record {
  of = λ r. r.ready;
  put = λ l r. put_ready l r;
  count = λ r. r.readies;
  put_count = λ n r. put_readies n r;
  limit = λ L. L.threads;
  none = 0;
  put_own = λ r. refl;
  put_of = λ l r. refl;
  put_over = λ l k r. refl;
  put_room = λ l r. refl;
  put_limits = λ l r. refl;
  count_is = λ n r. refl;
  count_of = λ n r. refl;
  count_room = λ n r. refl;
}

abbrev pub the_clock : Row ℕ
the_clock = record {
  of = λ r. r.clock;
  put = λ l r. put_clock l r;
  count = λ r. r.clocks;
  put_count = λ n r. put_clocks n r;
  limit = λ L. L.threads;
  none = 0;
  put_own = λ r. refl;
  put_of = λ l r. refl;
  put_over = λ l k r. refl;
  put_room = λ l r. refl;
  put_limits = λ l r. refl;
  count_is = λ n r. refl;
  count_of = λ n r. refl;
  count_room = λ n r. refl;
}

abbrev pub the_messages : Row Message
the_messages = record {
  of = λ r. r.messages;
  put = λ l r. put_messages l r;
  count = λ r. r.letters;
  put_count = λ n r. put_letters n r;
  limit = λ L. L.threads + L.blocks;
  none = no_message;
  put_own = λ r. refl;
  put_of = λ l r. refl;
  put_over = λ l k r. refl;
  put_room = λ l r. refl;
  put_limits = λ l r. refl;
  count_is = λ n r. refl;
  count_of = λ n r. refl;
  count_room = λ n r. refl;
}

-- the entries that are counted
abbrev pub entries : {A : Type 0} → Row A → Rows → List A
entries w r = take (w.count r) (w.of r)

-- it stands for these entries now, and all else is as it was
pub record RowIs {A : Type 0} (w : Row A) (r r' : Rows) (l : List A) : Type 0 where
  pub only : r' ≡ w.put_count (w.count r') (w.put (w.of r') r)
  pub says : entries w r' ≡ l
  pub counts : w.count r' ≡ length l
  pub fits : w.count r' ≤ w.limit r.limits
