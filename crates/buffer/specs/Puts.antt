-- Bytes put at the front of a lent buffer.
use Rattle.std.specs.Prelude.{ℕ, ◌≡◌, List, ◌++◌, length, drop}

-- n bytes were put at the front of a lent buffer; those behind them are as they were
pub record Puts (bytes before after : List ℕ) (n : ℕ) : Type 0 where
  pub counts : n ≡ length bytes
  pub shows : after ≡ bytes ++ drop (length bytes) before
