-- Example modules with blocks and labels, and what they mean, as the prover computes it. They hold for texts at any
-- addresses.
use Rattle.std.specs.Prelude.{ℕ, List, [], ◌∷◌, ◌++◌, Some, None, codes}
use Rattle.wast_tree_nodes.specs.WorkedModules.{Address, id_at, by_id}
use Rattle.wast_resolve_rules.specs.WorkedBodies.{not_said, body, labelled, nested, same_label}
use Rattle.wast_core.specs.Tree.instr
use Rattle.wast_core.specs.WorkedMeanings.{HasBytes, one_type, one_func}

-- The code section with a body of 12 bytes that begins with two blocks.
abbrev pub two_blocks : List ℕ → List ℕ
two_blocks rest = 0x0a ∷ 0x0e ∷ 0x01 ∷ 0x0c ∷ 0x00 ∷ 0x02 ∷ 0x40 ∷ 0x02 ∷ 0x40 ∷ (rest ++ 0x0b ∷ [])

-- The name section with two labels in function 0, whose names are these letters.
abbrev pub two_labels : (first second : ℕ) → List ℕ
two_labels first second = 0x00 ∷ 0x10 ∷ 0x04 ∷ 0x6e ∷ 0x61 ∷ 0x6d ∷ 0x65 ∷ 0x03 ∷ 0x09 ∷ 0x01 ∷ 0x00 ∷ 0x02 ∷ 0x00 ∷ 0x01 ∷ first ∷ 0x01 ∷ 0x01 ∷ second ∷ []

-- `(module (func block $a block $b br $a br $b end end))`: labels count from the innermost block outwards, and each has
-- a name.
abbrev pub Row28 : Type 0
Row28 = (a b c d : Address) →
    HasBytes (nested a b c d) (one_type ++ (one_func ++ (two_blocks (0x0c ∷ 0x01 ∷ 0x0c ∷ 0x00 ∷ 0x0b ∷ 0x0b ∷ []) ++ two_labels 0x61 0x62)))

-- `(module (func block $a block $a br $a end br $a end))`: two blocks have the same label, and both have its name.
abbrev pub Row55 : Type 0
Row55 = (a b c d : Address) →
    HasBytes (same_label a b c d) (one_type ++ (one_func ++ (two_blocks (0x0c ∷ 0x00 ∷ 0x0b ∷ 0x0c ∷ 0x00 ∷ 0x0b ∷ []) ++ two_labels 0x61 0x61)))

-- `(module (func end block $l br $l end))`: an `end` without a block closes none, and the block after it is the first.
abbrev pub Row56 : Type 0
Row56 = (a b : Address) →
    let fields = body not_said (instr.end_ None ∷ instr.block (labelled (Some (id_at a (codes "l") 24)) not_said) ∷ instr.br (by_id b (codes "l") 30) ∷ instr.end_ None ∷ []) in
    let one_block = 0x0a ∷ 0x0a ∷ 0x01 ∷ 0x08 ∷ 0x00 ∷ 0x0b ∷ 0x02 ∷ 0x40 ∷ 0x0c ∷ 0x00 ∷ 0x0b ∷ 0x0b ∷ [] in
    let one_label = 0x00 ∷ 0x0d ∷ 0x04 ∷ 0x6e ∷ 0x61 ∷ 0x6d ∷ 0x65 ∷ 0x03 ∷ 0x06 ∷ 0x01 ∷ 0x00 ∷ 0x01 ∷ 0x00 ∷ 0x01 ∷ 0x6c ∷ [] in
    HasBytes fields (one_type ++ (one_func ++ (one_block ++ one_label)))
