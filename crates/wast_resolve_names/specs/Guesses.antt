-- Cached positions of ids in an index space.
use Rattle.std.specs.Prelude.{◌≡◌, ℕ, ◌<◌, true, List, length, slice_index_or}
use Rattle.wast_base.specs.declared.ids.Id.{Id}
use Rattle.wast_base.specs.Ids.{same_id}

-- The id at a position is the same as this one.
pub record Bears (es : List (Id × ℕ)) (id : Id) (at : ℕ) : Type 0 where
  pub within : at < length es
  pub same : (d : Id × ℕ) → same_id (slice_index_or es at d).0 id ≡ true
