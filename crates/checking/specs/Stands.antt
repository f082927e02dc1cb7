-- A memory stands for tables that meet the table rules exactly if it is long enough for the limits, has them and counts within them in its
-- head, and the tables that it shows meet the rules. Every word of a thread, a queue, a message or the head that counts says something, and
-- one that would not be written says what no rule allows (words/specs/Saying.antt). Spare words, hints and what stands behind a count are
-- free.
use Rattle.std.specs.Prelude.{ℕ, Bool, ◌&&◌, List}
use Rattle.laws.specs.Words.{Limits}
use Rattle.rules.specs.TableRules.{table_rules}
use Rattle.memory.specs.Shape.{shaped}
use Rattle.store.specs.Store.{tables}

unfoldable pub stands : Limits → List ℕ → Bool
stands L m = shaped L m && table_rules L (tables m)
