-- Bytes that are kept in a room taken beforehand.
use Rattle.std.specs.Prelude.{ℕ, List}

-- bytes, and how many there may ever be
pub record BytesInRoom : Type 0 where
  pub bytes : List ℕ
  pub size : ℕ
