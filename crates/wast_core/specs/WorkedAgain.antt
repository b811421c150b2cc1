-- Example modules that are resolved and encoded a second time, as the prover computes it. They hold for texts at any
-- addresses.
use Rattle.std.specs.Prelude.{◌≡◌, ℕ, List, None, Ok, codes}
use Rattle.std.specs.Global.{Vec}
use Rattle.wasm_out.specs.WorkedBytes as out
use Rattle.wast_tree_nodes.specs.Items.{items}
use Rattle.wast_tree_nodes.specs.Known.{id_context}
use Rattle.wast_tree_nodes.specs.WorkedModules.{Address, by_id, by_number, row27_with, row27}
use Rattle.wast_resolve_rules.specs.Explicit.{generated_id_count}
use Rattle.wast_resolve_rules.specs.Finished.{resolved_fields_from}
use Rattle.wast_resolve_rules.specs.WorkedBodies.{catching}
use Rattle.wast_resolve_rules.specs.WorkedFields.{reading}
use Rattle.wast_resolve_names.specs.Resolvers.{KnownNames, known_to}
use Rattle.wast_core.specs.Bounded.{IsBounded}
use Rattle.wast_core.specs.Headline.{IsMet, Resolves, EncodesKind}
use Rattle.wast_core.specs.Meaning.{meaning}
use Rattle.wast_core.specs.Tree.{ModuleField}
use Rattle.wast_core.specs.declared.module.ModuleKind.TheVariants as kind

-- `(module (type $t (func)) (func $f (type $t) call $f) (export "a" (func $f)))` after a first call: its indices are
-- numbers.
abbrev pub numbered27 : (a b c : Address) → List ModuleField
numbered27 a b c = row27_with a b c (by_number 0 40) (by_number 0 49) (by_number 0 71)

-- A second call of `resolve`, with the counter at 5, changes neither the fields nor the counter, and the names know
-- what they knew.
abbrev pub ResolvedAgain : Type 0
ResolvedAgain = (a b c d e f : Address) (names : KnownNames) → known_to names ≡ id_context (items (row27 a b c d e f))
    → Resolves (kind.Text (numbered27 a b c)) 5 (Ok names) (kind.Text (numbered27 a b c)) 5

-- A second call of `encode_module` returns the bytes of the first. The fields are bounded, so it cannot fail with E10.
abbrev pub EncodedAgain : Type 0
EncodedAgain = (a b c : Address) (bytes : Vec ℕ) → bytes.items ≡ out.worked_bytes
    → EncodesKind 5 None (kind.Text (numbered27 a b c)) (Ok bytes) (kind.Text (numbered27 a b c)) × IsBounded 5 None (numbered27 a b c)

-- Fields that a first call left pass each check with the counter at 5, need no new id, do not change, and mean what the
-- source means.
abbrev pub StaysAgain : List ModuleField → Type 0
StaysAgain fields =
    let list = resolved_fields_from 5 fields in
    IsMet list × (generated_id_count list ≡ 0) × (resolved_fields_from 9 list ≡ list) × (meaning None list ≡ meaning None fields)

-- `(module (tag $e) (func block $h try_table (catch $e $h) end end))`: the type that the first call appended is one of
-- its types.
abbrev pub Row9 : Type 0
Row9 = (a b c d : Address) → StaysAgain (catching a b c d)

-- `(module (type $s (struct (field $y i32))) (func ref.null $s struct.get $s $y drop))`: the field is a number.
abbrev pub Row48 : Type 0
Row48 = (a b c d e : Address) → StaysAgain (reading a b c d (by_id e (codes "y") 74))
