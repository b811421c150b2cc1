-- Prefix keys of names: the first eight bytes as one number, the first byte as the most significant.
--
-- They are compared before names, because numbers are compared faster. For "ab" the key is 0x6162000000000000.
use Rattle.std.specs.Prelude.{◌≡◌, ℕ, ◌<◌, List, slice_index, slice_index_or}
use Rattle.std.specs.Int.{w64, from_be_bytes}
use Rattle.wast_base.specs.declared.ids.Id.{Id}
use Rattle.wast_base.specs.Ids.{text_of, name_of}
use Rattle.wast_resolve_namespace.specs.declared.heads.Headed.{Headed}

-- The pair without its key.
abbrev pub pair_of : Headed → Id × ℕ
pair_of h = h.pair.now

-- The first eight bytes of a text are this number. Missing bytes count as 0.
pub record IsHead (text : List ℕ) (head : ℕ) : Type 0 where
  pub number : head ≡ from_be_bytes w64 text
  pub bytes : (i : ℕ) → i < 8 → slice_index text i < 256

-- The first n pairs have the keys of their names beside them.
pub record AreHeads (pairs : List (Id × ℕ)) (heads : List ℕ) (n : ℕ) : Type 0 where
  pub head : (k : ℕ) (d : Id × ℕ) → k < n → IsHead (text_of (name_of (slice_index_or pairs k d).0)) (slice_index heads k)
