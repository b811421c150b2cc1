-- Example modules with start fields added at the end, and what they mean, as the prover computes it. They hold for
-- texts at any addresses.
use Rattle.std.specs.Prelude.{◌≡◌, List, [], ◌∷◌, ◌++◌, None, codes}
use Rattle.wast_tree_nodes.specs.WorkedModules.{Address, by_id, by_number, row27}
use Rattle.wast_resolve_rules.specs.Finished.{resolved_fields_from}
use Rattle.wast_resolve_rules.specs.WorkedBodies.{catching}
use Rattle.wast_resolve_rules.specs.WorkedFields.{reading}
use Rattle.wast_resolve_laws.specs.Rests.{start_fields_of, numbers, with_start_fields}
use Rattle.wast_resolve_laws.specs.WorkedRests.{two_numbers}
use Rattle.wast_core.specs.Meaning.{meaning}
use Rattle.wast_core.specs.Tree.{ModuleField}
use Rattle.wast_core.specs.WorkedMeanings.{HasBytes, one_type, one_func}

-- With start fields of numbers after them, the resolved fields mean what the source means with these start fields at
-- the end.
abbrev pub MeansWithTwo : List ModuleField → Type 0
MeansWithTwo fields = meaning None (with_start_fields 5 fields two_numbers) ≡ meaning None (fields ++ start_fields_of (numbers two_numbers))

-- `(module (type $t (func)) (func $f (type $t) call $f) (export "a" (func $f)) (start $f))`: the start section comes
-- after the exports.
abbrev pub Row27 : Type 0
Row27 = (a b c d e f g : Address) →
    let fields = row27 a b c d e f in
    let one_export = 0x07 ∷ 0x05 ∷ 0x01 ∷ 0x01 ∷ 0x61 ∷ 0x00 ∷ 0x00 ∷ [] in
    let one_start = 0x08 ∷ 0x01 ∷ 0x00 ∷ [] in
    let one_call = 0x0a ∷ 0x06 ∷ 0x01 ∷ 0x04 ∷ 0x00 ∷ 0x10 ∷ 0x00 ∷ 0x0b ∷ [] in
    let two_names = 0x00 ∷ 0x11 ∷ 0x04 ∷ 0x6e ∷ 0x61 ∷ 0x6d ∷ 0x65 ∷ 0x01 ∷ 0x04 ∷ 0x01 ∷ 0x00 ∷ 0x01 ∷ 0x66 ∷ 0x04 ∷ 0x04 ∷ 0x01 ∷ 0x00 ∷ 0x01 ∷ 0x74 ∷ [] in
    HasBytes (fields ++ start_fields_of (by_id g (codes "f") 80 ∷ [])) (one_type ++ (one_func ++ (one_export ++ (one_start ++ (one_call ++ two_names)))))
    × (meaning None (resolved_fields_from 5 fields ++ start_fields_of (by_number 0 80 ∷ [])) ≡ meaning None (fields ++ start_fields_of (by_id g (codes "f") 80 ∷ [])))
    × MeansWithTwo fields

-- `(module (tag $e) (func block $h try_table (catch $e $h) end end))`: its type is implicit.
abbrev pub Row9 : Type 0
Row9 = (a b c d : Address) → MeansWithTwo (catching a b c d)

-- `(module (type $s (struct (field $y i32))) (func ref.null $s struct.get $s $y drop))`
abbrev pub Row48 : Type 0
Row48 = (a b c d e : Address) → MeansWithTwo (reading a b c d (by_id e (codes "y") 74))
