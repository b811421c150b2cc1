-- What a writer has after a write that fails: its bytes before, and a front of those that were to be written.
--
--   write_bytes of `abc` that fails after two bytes     `ab`
use Rattle.std.specs.Prelude.{ℕ, List, Option, take}
use Rattle.std.specs.Io.KnownBytes.{Appends}

-- Known bytes grow by a front of some bytes.
pub record AppendsFront (old new : Option (List ℕ)) (bytes : List ℕ) : Type 0 where
  pub count : ℕ
  pub front : Appends old new (take count bytes)
