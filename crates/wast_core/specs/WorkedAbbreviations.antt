-- Example modules with inline exports, elements and data, and what they mean, as the prover computes it. They hold for
-- texts at any addresses.
use Rattle.std.specs.Prelude.{false, [], ◌∷◌, ◌++◌, Some, None, codes}
use Rattle.wast_tree_nodes.specs.WorkedModules.{Address, text, id_at, by_id, by_number, plain_func}
use Rattle.wast_expand_inline.specs.WorkedFields.{no_type, memory_at, empty_memory, funcref, table_at}
use Rattle.wast_core.specs.Tree.{Func}
use Rattle.wast_core.specs.Tree.field
use Rattle.wast_core.specs.Tree.memory
use Rattle.wast_core.specs.Tree.table
use Rattle.wast_core.specs.Tree.payload
use Rattle.wast_core.specs.Tree.bytes
use Rattle.wast_core.specs.WorkedMeanings.{HasBytes, one_type, one_func, one_body, one_name}

-- `(func)`, which begins at 8 and has no id.
abbrev pub a_func : Func
a_func = record (plain_func None 8 (by_number 0 0) []) { ty = no_type }

-- `(module (func (export "a")))`: the export is in its section, with the index of the function.
abbrev pub Row4 : Type 0
Row4 = (a : Address) →
    let one_export = 0x07 ∷ 0x05 ∷ 0x01 ∷ 0x01 ∷ 0x61 ∷ 0x00 ∷ 0x00 ∷ [] in
    HasBytes (field.Func (record a_func { exports = record { names = text a (codes "a") ∷ [] } }) ∷ []) (one_type ++ (one_func ++ (one_export ++ one_body)))

-- `(module (memory (data "ab")))`: the memory has one page, which is enough for the bytes, and an active data segment.
abbrev pub Row5 : Type 0
Row5 = (a : Address) →
    let one_page = 0x05 ∷ 0x04 ∷ 0x01 ∷ 0x01 ∷ 0x01 ∷ 0x01 ∷ [] in
    let two_bytes = 0x0b ∷ 0x08 ∷ 0x01 ∷ 0x00 ∷ 0x41 ∷ 0x00 ∷ 0x0b ∷ 0x02 ∷ 0x61 ∷ 0x62 ∷ [] in
    HasBytes (memory_at 9 None (memory.Inline false (bytes.«String» (text a (codes "ab")) ∷ []) None) ∷ []) (one_page ++ two_bytes)

-- `(module (func $f) (table funcref (elem $f)))`: the table has one element, and an active element segment.
abbrev pub Row6 : Type 0
Row6 = (a b : Address) →
    let one_element = 0x04 ∷ 0x05 ∷ 0x01 ∷ 0x70 ∷ 0x01 ∷ 0x01 ∷ 0x01 ∷ [] in
    let one_segment = 0x09 ∷ 0x09 ∷ 0x01 ∷ 0x02 ∷ 0x00 ∷ 0x41 ∷ 0x00 ∷ 0x0b ∷ 0x00 ∷ 0x01 ∷ 0x00 ∷ [] in
    HasBytes (field.Func (record a_func { id = Some (id_at a (codes "f") 14) }) ∷ table_at 19 None (table.Inline funcref false false (payload.Indices (by_id b (codes "f") 39 ∷ []))) ∷ [])
    (one_type ++ (one_func ++ (one_element ++ (one_segment ++ (one_body ++ one_name 0x00 0x66)))))

-- `(module (memory (export "a") (export "b") (data)))`: no page, two exports, and a segment without bytes.
abbrev pub Row44 : Type 0
Row44 = (a b : Address) →
    let no_page = 0x05 ∷ 0x04 ∷ 0x01 ∷ 0x01 ∷ 0x00 ∷ 0x00 ∷ [] in
    let two_exports = 0x07 ∷ 0x09 ∷ 0x02 ∷ 0x01 ∷ 0x61 ∷ 0x02 ∷ 0x00 ∷ 0x01 ∷ 0x62 ∷ 0x02 ∷ 0x00 ∷ [] in
    HasBytes (empty_memory a b) (no_page ++ (two_exports ++ 0x0b ∷ 0x06 ∷ 0x01 ∷ 0x00 ∷ 0x41 ∷ 0x00 ∷ 0x0b ∷ 0x00 ∷ []))
