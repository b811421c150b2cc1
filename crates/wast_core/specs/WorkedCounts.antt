-- Example modules with data segments, with and without a data count section, and what they mean, as the prover computes
-- it. They hold for texts at any addresses.
use Rattle.std.specs.Prelude.{ℕ, List, [], ◌∷◌, ◌++◌, None, codes}
use Rattle.wast_tree_nodes.specs.WorkedModules.{Address, by_number, plain_func}
use Rattle.wast_core.specs.WorkedMeanings.{HasBytes, one_type, one_func, one_body, first_type, first_func}
use Rattle.wast_core.specs.WorkedEntries.{data_of}
use Rattle.wast_core.specs.Tree.{Instruction, ModuleField}
use Rattle.wast_core.specs.Tree.instr
use Rattle.wast_core.specs.Tree.data_kind
use Rattle.wast_core.specs.Tree.field

-- An instruction that needs a data count.
abbrev pub needing : Instruction
needing = instr.data_drop (by_number 0 46)

-- `(func (type 0) ..)` at 22, with that instruction.
abbrev pub needing_func : ModuleField
needing_func = field.Func (plain_func None 22 (by_number 0 34) (needing ∷ []))

-- The code section with its body.
abbrev pub needing_body : List ℕ
needing_body = 0x0a ∷ 0x07 ∷ 0x01 ∷ 0x05 ∷ 0x00 ∷ 0xfc ∷ 0x09 ∷ 0x00 ∷ 0x0b ∷ []

-- `(module (type (func)) (func (type 0) ..) (data "x") (data "y"))`: the count is before the code section, and is 2.
abbrev pub CountedData : Type 0
CountedData = (a b : Address) →
    let two_segments = 0x0b ∷ 0x07 ∷ 0x02 ∷ 0x01 ∷ 0x01 ∷ 0x78 ∷ 0x01 ∷ 0x01 ∷ 0x79 ∷ [] in
    let two_data = data_of a data_kind.Passive (codes "x") ∷ data_of b data_kind.Passive (codes "y") ∷ [] in
    HasBytes (first_type ∷ needing_func ∷ two_data) (one_type ++ (one_func ++ 0x0c ∷ 0x01 ∷ 0x02 ∷ (needing_body ++ two_segments)))

-- `(module (type (func)) (func (type 0) ..))`: the count is 0.
abbrev pub CountedNone : Type 0
CountedNone = HasBytes (first_type ∷ needing_func ∷ []) (one_type ++ (one_func ++ 0x0c ∷ 0x01 ∷ 0x00 ∷ needing_body))

-- `(module (type (func)) (func (type 0)) (data "x"))`: no body needs a count, so there is none.
abbrev pub UncountedData : Type 0
UncountedData = (a : Address) →
    let one_segment = 0x0b ∷ 0x04 ∷ 0x01 ∷ 0x01 ∷ 0x01 ∷ 0x78 ∷ [] in
    HasBytes (first_type ∷ first_func ∷ data_of a data_kind.Passive (codes "x") ∷ []) (one_type ++ (one_func ++ (one_body ++ one_segment)))
