-- The contracts of Module::resolve and EncodeOptions::encode_module: what they return, and what they leave in the
-- module and the counter. Read this file first if you want to know what the project proves.
--
--   Resolves old before result new after     `old` held the module and `before` was the counter; the call returned
--                                            `result`, and left `new` and `after`
--   Encodes                                  the same for encode_module
--
-- A text module, a binary module and a module that an earlier error left are separate cases. Both calls permit E12 for a
-- text module, and encode_module for a binary one, because a contract cannot express whether memory was left; tests check
-- that it is not returned without need. E10 is permitted only if a bound is exceeded: see IsTooLarge (resolving) and
-- IsBounded (encoding).
use Rattle.std.specs.Prelude.{◌≡◌, ℕ, ◌+◌, List, [], Option, None, Result, Ok, Err, ◌⊎◌}
use Rattle.std.specs.List.{flat_map}
use Rattle.std.specs.Borrow.{Bor}
use Rattle.std.specs.Global.{Vec}
use Rattle.wast_base.specs.declared.faults.Error.{Error}
use Rattle.wast_base.specs.Faults.{out_of_memory}
use Rattle.wast_tree_nodes.specs.Known.{id_context}
use Rattle.wast_tree_nodes.specs.Items.{items}
use Rattle.wasm_out.specs.Reads.{Reads}
use Rattle.wast_resolve_rules.specs.Explicit.{explicit_fields, explicit_fields_from, generated_id_count}
use Rattle.wast_resolve_rules.specs.Demands.{demands, first_unmet, IsUnresolved}
use Rattle.wast_resolve_rules.specs.Finished.{resolved_fields_from}
use Rattle.wast_resolve_names.specs.Resolvers.{KnownNames, known_to}
use Rattle.wast_core.specs.Tree.{ModuleField}
use Rattle.wast_core.specs.declared.module.Module.{Module}
use Rattle.wast_core.specs.declared.module.ModuleKind.{ModuleKind}
use Rattle.wast_core.specs.declared.module.ModuleKind.TheVariants as kind
use Rattle.wast_core_name_section.specs.GivenNames.{given_name}
use Rattle.wast_core.specs.Meaning.{meaning}
use Rattle.wast_core.specs.Bounded.{IsBounded}
use Rattle.wast_core_sections.specs.Encoding.{IsUnwritten}
use Rattle.wast_core_sections.specs.Uncovered.{head_of, uncovered_forms, IsCovered}

-- Each demand (check of resolving) is met. The demands are those of the fields after inline forms became fields, with
-- the implicit type definitions.
abbrev pub IsMet : List ModuleField → Type 0
IsMet fields = first_unmet (demands (explicit_fields fields)) ≡ None

-- What resolving returns, and the new content. A text module is resolved only if each demand is met; its ids are then
-- those of the counter. An error is kept, and returned from then on.
abbrev pub ResolvesKind : ℕ → ModuleKind → Result KnownNames Error → ModuleKind → Type 0
ResolvesKind n (kind.Text fields) (Ok names) new = IsMet fields × (new ≡ kind.Text (resolved_fields_from n fields)) × (known_to names ≡ id_context (items (explicit_fields_from n fields)))
ResolvesKind n (kind.Text fields) (Err e) new = IsUnresolved n fields e × (new ≡ kind.Refused e)
ResolvesKind n (kind.Binary pieces) (Ok names) new = (known_to names ≡ id_context []) × (new ≡ kind.Binary pieces)
ResolvesKind n (kind.Binary pieces) (Err e) new = ⊥
ResolvesKind n (kind.Refused e) (Ok names) new = ⊥
ResolvesKind n (kind.Refused e) (Err d) new = (d ≡ e) × (new ≡ kind.Refused e)

-- How the counter changes. It rises by the number of generated ids if fields are resolved. Otherwise it does not
-- change, after an error either.
abbrev pub Counts : ModuleKind → ModuleKind → ℕ → ℕ → Type 0
Counts (kind.Text fields) (kind.Text resolved) before after = after ≡ before + generated_id_count fields
Counts (kind.Text fields) (kind.Binary pieces) before after = ⊥
Counts (kind.Text fields) (kind.Refused e) before after = after ≡ before
Counts (kind.Binary pieces) new before after = after ≡ before
Counts (kind.Refused e) new before after = after ≡ before

-- Resolving the content of a module: the result and the counter.
pub record Resolves (old : ModuleKind) (before : ℕ) (result : Result KnownNames Error) (new : ModuleKind) (after : ℕ) : Type 0 where
  pub kind : ResolvesKind before old result new
  pub counter : Counts old new before after

-- The name of the module in the name section.
abbrev pub name_of_module : Module → Option (List ℕ)
name_of_module m = given_name m.name m.id

-- The pieces of a binary module, joined.
abbrev pub joined_pieces : List (Bor (List ℕ)) → List ℕ
joined_pieces pieces = flat_map (λ p. p.now) pieces

-- Why a text module is not encoded: it is not resolved, and keeps the error; or it is resolved, and its fields are not
-- encoded.
abbrev pub IsUnencoded : ℕ → Option (List ℕ) → List ModuleField → Error → ModuleKind → Type 0
IsUnencoded n name fields e new =
    (IsUnresolved n fields e × (new ≡ kind.Refused e))
    ⊎ (IsMet fields × IsUnwritten (head_of (uncovered_forms (resolved_fields_from n fields))) (IsBounded n name fields) e × (new ≡ kind.Text (resolved_fields_from n fields)))

-- What encoding returns, and the new content. A text module is encoded only if each demand is met and each construct is
-- supported. The grammar reads its bytes as the module's meaning.
abbrev pub EncodesKind : ℕ → Option (List ℕ) → ModuleKind → Result (Vec ℕ) Error → ModuleKind → Type 0
EncodesKind n name (kind.Text fields) (Ok bytes) new = IsMet fields × IsCovered (resolved_fields_from n fields) × Reads bytes.items (meaning name fields) × (new ≡ kind.Text (resolved_fields_from n fields))
EncodesKind n name (kind.Text fields) (Err e) new = IsUnencoded n name fields e new
EncodesKind n name (kind.Binary pieces) (Ok bytes) new = (bytes.items ≡ joined_pieces pieces) × (new ≡ kind.Binary pieces)
EncodesKind n name (kind.Binary pieces) (Err e) new = (e ≡ out_of_memory) × (new ≡ kind.Binary pieces)
EncodesKind n name (kind.Refused e) (Ok bytes) new = ⊥
EncodesKind n name (kind.Refused e) (Err d) new = (d ≡ e) × (new ≡ kind.Refused e)

-- Encoding a module: the result and the counter.
pub record Encodes (old : Module) (before : ℕ) (result : Result (Vec ℕ) Error) (new : Module) (after : ℕ) : Type 0 where
  pub kind : EncodesKind before (name_of_module old) old.kind result new.kind
  pub counter : Counts old.kind new.kind before after
