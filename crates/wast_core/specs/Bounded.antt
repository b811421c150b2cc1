-- Which text modules are small enough to encode: every count, length and position in the binary format is below 2^32,
-- the bytes fit in a usize, and the counter does not overflow.
--
--   (module (func))                                  bounded
--   a module with a data segment of 2^32 bytes       not bounded
use Rattle.std.specs.Prelude.{ℕ, ◌+◌, ◌<◌, ◌^◌, List, Option}
use Rattle.wast_resolve_rules.specs.Explicit.{explicit_fields, by_positions, generated_id_count}
use Rattle.wast_resolve_rules.specs.Demands.{IsCrowded}
use Rattle.wast_resolve_rules.specs.Resolved.{resolved_fields}
use Rattle.wast_core_sections.specs.Writable.{IsWritable}
use Rattle.wast_core.specs.Tree.{ModuleField}

-- what the module means is writable, and the counter that gives ids does not run out
pub record IsBounded (n : ℕ) (name : Option (List ℕ)) (fields : List ModuleField) : Type 0 where
  pub spaces : IsCrowded (explicit_fields fields) → ⊥
  pub counter : n + generated_id_count fields < 2 ^ 64
  pub writable : IsWritable name (resolved_fields (by_positions fields))
