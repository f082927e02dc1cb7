-- What the code keeps of the fields before one, and what it says by it.
use Rattle.std.specs.Prelude.{ℕ, Bool, false, ◌&&◌, ◌||◌, not, List, ◌≡◌, ltb, if◌then◌else◌, ◌==◌}
use Rattle.rules.specs.Lists.{has}
use Rattle.rules.specs.Tags.{head_tag, ready_tag, clock_tag, dump_facts}
use Rattle.rules.specs.Faults.{place_before}
use Rattle.faults.specs.declared.order.Before.{Before}

abbrev pub nothing_before : Before
nothing_before = record { place = 0; head = false; ready = false; clock = false }

-- of a tag that stands once
unfoldable pub seen : Before → ℕ → Bool
seen b tag = if tag == head_tag then b.head else (if tag == ready_tag then b.ready else b.clock)

unfoldable pub misplaced_behind : Before → ℕ → Bool
misplaced_behind b tag = let r = dump_facts tag in not r.known || ltb r.place b.place || (r.once && seen b tag)

unfoldable pub after : Before → ℕ → Before
after b tag = record {
  place = (dump_facts tag).place;
  head = (head_tag == tag) || b.head;
  ready = (ready_tag == tag) || b.ready;
  clock = (clock_tag == tag) || b.clock;
}

unfoldable pub missing : Before → Bool
missing b = not b.head || not b.ready || not b.clock

-- it tells of these tags
pub record Tells (tags : List ℕ) (b : Before) : Type 0 where
  pub place : b.place ≡ place_before tags
  pub head : b.head ≡ has head_tag tags
  pub ready : b.ready ≡ has ready_tag tags
  pub clock : b.clock ≡ has clock_tag tags
