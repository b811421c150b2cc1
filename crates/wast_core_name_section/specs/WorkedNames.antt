-- Example modules whose name sections the prover computes: names of items of each index space, of locals, labels,
-- fields and parameters.
--
-- The statements hold for texts at any addresses in memory.
use Rattle.std.specs.Prelude.{◌≡◌, ℕ, ◌+◌, negsuc, true, false, List, [], ◌∷◌, Option, Some, None, length, codes}
use Rattle.std.specs.List.{flat_map}
use Rattle.wasm_out.specs.Parts.{part}
use Rattle.wast_base.specs.Ids.{gensym_id}
use Rattle.wast_tree_nodes.specs.WorkedModules.{Address, text, place, id_at, by_number, plain_def, plain_type, plain_func, plain_memory}
use Rattle.wast_core_name_section.specs.NamesPart.{names_part}
use Rattle.wast_core_name_section.specs.ModuleNames.{name_subsections}
use Rattle.wast_core_name_section.specs.Tree.{Id, NameAnnotation, ValType, FunctionType, TypeUse, InnerTypeKind, BlockType, Instruction, Local, ItemKind, ItemSig, ModuleField}
use Rattle.wast_core_name_section.specs.Tree.ty
use Rattle.wast_core_name_section.specs.Tree.value as val
use Rattle.wast_core_name_section.specs.Tree.storage
use Rattle.wast_core_name_section.specs.Tree.inner
use Rattle.wast_core_name_section.specs.Tree.func
use Rattle.wast_core_name_section.specs.Tree.instr
use Rattle.wast_core_name_section.specs.Tree.heap
use Rattle.wast_core_name_section.specs.Tree.abstract
use Rattle.wast_core_name_section.specs.Tree.import_items
use Rattle.wast_core_name_section.specs.Tree.kind
use Rattle.wast_core_name_section.specs.Tree.table
use Rattle.wast_core_name_section.specs.Tree.global
use Rattle.wast_core_name_section.specs.Tree.elem
use Rattle.wast_core_name_section.specs.Tree.payload
use Rattle.wast_core_name_section.specs.Tree.data_kind
use Rattle.wast_core_name_section.specs.Tree.tag
use Rattle.wast_core_name_section.specs.Tree.tag_kind
use Rattle.wast_core_name_section.specs.Tree.field

-- An id of these letters at offset n.
abbrev pub id_of : Address → List ℕ → ℕ → Option Id
id_of a letters n = Some (id_at a letters n)

-- The name section of resolved fields, of a module without a name.
abbrev pub name_section : List ModuleField → List ℕ
name_section fields = flat_map part (names_part (name_subsections None fields))

-- These are the subsections of the module's name section.
abbrev pub HasNames : List ModuleField → List ℕ → Type 0
HasNames fields bytes = name_section fields ≡ 0x00 ∷ (5 + length bytes) ∷ 0x04 ∷ 0x6e ∷ 0x61 ∷ 0x6d ∷ 0x65 ∷ bytes

-- A parameter of type `i32`, with a name or without one.
abbrev pub i32_param : Option Id → Option NameAnnotation → Option Id × Option NameAnnotation × ValType
i32_param id name = (id, name, val.I32)

-- A local of type `i64`.
abbrev pub i64_local : Option Id → Local
i64_local id = record { id = id; name = None; ty = val.I64 }

-- `(func (param ..))`
abbrev pub takes : List (Option Id × Option NameAnnotation × ValType) → FunctionType
takes params = record { params = params; results = [] }

-- A type field, or a member of a recursion group.
abbrev pub type_of : Option Id → InnerTypeKind → ty.«Type»
type_of id kind = record (plain_type id 8) { def = record plain_def { kind = kind } }

-- `(struct (field $y (mut i32)))`
abbrev pub struct_with : Option Id → InnerTypeKind
struct_with id = inner.Struct (record { fields = record { id = id; name = None; mutable = true; ty = storage.Val val.I32 } ∷ [] })

-- `(func (type 0) (local ..))`
abbrev pub func_with : Option FunctionType → List Local → ModuleField
func_with inline locals = field.Func (record (plain_func None 40 (by_number 0 51) []) { kind = func.Inline locals (record { instrs = []; branch_hints = [] }); ty = record { index = Some (by_number 0 51); inline = inline } })

-- `(module (type $s (struct (field $y (mut i32)))))`: the type has a name, and so has its field.
abbrev pub Row34 : Type 0
Row34 = (a b : Address) →
    HasNames (field.Ty (type_of (id_of a (codes "s") 14) (struct_with (id_of b (codes "y") 31))) ∷ []) (0x04 ∷ 0x04 ∷ 0x01 ∷ 0x00 ∷ 0x01 ∷ 0x73 ∷ 0x0a ∷ 0x06 ∷ 0x01 ∷ 0x00 ∷ 0x01 ∷ 0x00 ∷ 0x01 ∷ 0x79 ∷ [])

-- `(module (type (func (param $p i32))) (func (type 0) (local $l i64)))`: the local comes after the parameter of the
-- type. The parameter's name belongs to the type alone.
abbrev pub Row35 : Type 0
Row35 = (a b : Address) →
    HasNames (field.Ty (type_of None (inner.Func (takes (i32_param (id_of a (codes "p") 28) None ∷ [])))) ∷ func_with None (i64_local (id_of b (codes "l") 63) ∷ []) ∷ [])
    (0x02 ∷ 0x06 ∷ 0x01 ∷ 0x00 ∷ 0x01 ∷ 0x01 ∷ 0x01 ∷ 0x6c ∷ 0x0c ∷ 0x06 ∷ 0x01 ∷ 0x00 ∷ 0x01 ∷ 0x00 ∷ 0x01 ∷ 0x70 ∷ [])

-- `(module (type (func (param i32))) (func (type 0) (param $p (@name "q") i32) (local i64) (local $l i64)))`: with an
-- inline type, its parameters have names, and the annotation is the name. A local without a name is counted.
abbrev pub InlineParameter : Type 0
InlineParameter = (a b c : Address) →
    HasNames (field.Ty (type_of None (inner.Func (takes (i32_param None None ∷ [])))) ∷ func_with (Some (takes (i32_param (id_of a (codes "p") 57) (Some (record { name = text b (codes "q") })) ∷ []))) (i64_local None ∷ i64_local (id_of c (codes "l") 99) ∷ []) ∷ [])
    (0x02 ∷ 0x09 ∷ 0x01 ∷ 0x00 ∷ 0x02 ∷ 0x00 ∷ 0x01 ∷ 0x71 ∷ 0x02 ∷ 0x01 ∷ 0x6c ∷ [])

-- `(module (rec (type (func)) (type (struct (field $y (mut i32))))))`: members of a recursion group have type indices
-- of their own.
abbrev pub SecondOfGroup : Type 0
SecondOfGroup = (a : Address) →
    HasNames (field.Rec (record { span = place 9; types = type_of None (inner.Func (takes [])) ∷ type_of None (struct_with (id_of a (codes "y") 45)) ∷ [] }) ∷ []) (0x0a ∷ 0x06 ∷ 0x01 ∷ 0x01 ∷ 0x01 ∷ 0x00 ∷ 0x01 ∷ 0x79 ∷ [])

-- `(module (type (struct (field (mut i32)))) (func (type 0) (local $l i64)))`: the index has no function type, so the
-- function has no names of locals, and the module has no names.
abbrev pub NoFunctionType : Type 0
NoFunctionType = (a : Address) → name_section (field.Ty (type_of None (struct_with None)) ∷ func_with None (i64_local (id_of a (codes "l") 60) ∷ []) ∷ []) ≡ []

-- A generated id is not the name of a field.
abbrev pub GeneratedField : Type 0
GeneratedField = name_section (field.Ty (type_of None (struct_with (Some (gensym_id 7 (place 31))))) ∷ []) ≡ []

-- `(type (func (param i32)))`
abbrev pub takes_i32 : ModuleField
takes_i32 = field.Ty (type_of None (inner.Func (takes (i32_param None None ∷ []))))

-- `(type 0)`, with an inline type or without one.
abbrev pub typed : Option FunctionType → TypeUse FunctionType
typed inline = record { index = Some (by_number 0 51); inline = inline }

-- `(import "m" "n" ..)`
abbrev pub import_of : Option Id → ItemKind → (a b : Address) → ModuleField
import_of id of a b =
    field.Import (record { span = place 37; items = import_items.Single (text a (codes "m")) (text b (codes "n")) (record { span = place 53; id = id; name = None; kind = of }) })

-- `(tag (type 0) ..)`
abbrev pub tag_with : Option Id → Option FunctionType → ModuleField
tag_with id inline =
    field.Tag (record { span = place 90; id = id; name = None; exports = record { names = [] }; ty = tag.Exception (typed inline); kind = tag_kind.Inline })

-- `(global .. (mut i64) (i64.const -1))`
abbrev pub global_of : Option Id → ModuleField
global_of id =
    field.Global (record {
      span = place 20;
      id = id;
      name = None;
      exports = record { names = [] };
      ty = record { ty = val.I64; mutable = true; shared = false };
      kind = global.Inline (record { instrs = instr.i64_const (negsuc 0) ∷ []; branch_hints = [] });
    })

-- `(table .. 0 funcref)`
abbrev pub table_of : Option Id → ModuleField
table_of id =
    field.Table (record {
      span = place 70;
      id = id;
      name = None;
      exports = record { names = [] };
      kind = table.Normal (record { limits = record { is64 = false; min = 0; max = None }; elem = record { nullable = true; heap = heap.Abstract false abstract.Func }; shared = false }) None;
    })

-- `(elem .. func)`
abbrev pub elem_of : Option Id → ModuleField
elem_of id = field.Elem (record { span = place 20; id = id; name = None; kind = elem.Passive; payload = payload.Indices [] })

-- `(data ..)`
abbrev pub data_of : Option Id → ModuleField
data_of id = field.Data (record { span = place 9; id = id; name = None; kind = data_kind.Passive; bytes = [] })

-- `(module (memory 1) (global $g (mut i64) (i64.const -1)))`: the memory has no name, so its index space has no
-- subsection.
abbrev pub NamedGlobal : Type 0
NamedGlobal = (a : Address) → HasNames (field.Memory (plain_memory None 8) ∷ global_of (id_of a (codes "g") 28) ∷ []) (0x07 ∷ 0x04 ∷ 0x01 ∷ 0x00 ∷ 0x01 ∷ 0x67 ∷ [])

-- `(module (type (func (param i32))) (import "m" "n" (func $f (type 0) (param i32))) (start $f))`: an import has a name
-- as other items do.
abbrev pub ImportedFunction : Type 0
ImportedFunction = (a b c : Address) →
    HasNames (takes_i32 ∷ import_of (id_of c (codes "f") 58) (kind.Func (typed (Some (takes (i32_param None None ∷ []))))) a b ∷ field.Start (by_number 0 90) ∷ []) (0x01 ∷ 0x04 ∷ 0x01 ∷ 0x00 ∷ 0x01 ∷ 0x66 ∷ [])

-- `(module (data $d) (elem $e func) (global $g (mut i64) (i64.const -1)) (memory $m 1) (table $t 0 funcref) (type (func
-- (param i32))) (tag $x (type 0)))`: the index spaces are in the order of their subsections.
abbrev pub EachSpace : Type 0
EachSpace = (a b c d e f : Address) →
    HasNames (data_of (id_of a (codes "d") 14) ∷ elem_of (id_of b (codes "e") 24) ∷ global_of (id_of c (codes "g") 41) ∷ field.Memory (plain_memory (id_of d (codes "m") 83) 75) ∷ table_of (id_of e (codes "t") 95) ∷ takes_i32 ∷ tag_with (id_of f (codes "x") 142) None ∷ [])
    (0x05 ∷ 0x04 ∷ 0x01 ∷ 0x00 ∷ 0x01 ∷ 0x74 ∷ 0x06 ∷ 0x04 ∷ 0x01 ∷ 0x00 ∷ 0x01 ∷ 0x6d ∷ 0x07 ∷ 0x04 ∷ 0x01 ∷ 0x00 ∷ 0x01 ∷ 0x67 ∷ 0x08 ∷ 0x04 ∷ 0x01 ∷ 0x00 ∷ 0x01 ∷ 0x65 ∷ 0x09 ∷ 0x04 ∷ 0x01 ∷ 0x00 ∷ 0x01 ∷ 0x64 ∷ 0x0b ∷ 0x04 ∷ 0x01 ∷ 0x00 ∷ 0x01 ∷ 0x78 ∷ [])

-- `(module (type (func (param i32))) (import "m" "n" (func (type 0))) (import "m" "n" (func (type 0) (param $p
-- i32))))`: parameters of imported functions are names of locals.
abbrev pub ImportedParameter : Type 0
ImportedParameter = (a b c d e : Address) →
    HasNames (takes_i32 ∷ import_of None (kind.Func (typed None)) a b ∷ import_of None (kind.Func (typed (Some (takes (i32_param (id_of e (codes "p") 116) None ∷ []))))) c d ∷ [])
    (0x02 ∷ 0x06 ∷ 0x01 ∷ 0x01 ∷ 0x01 ∷ 0x00 ∷ 0x01 ∷ 0x70 ∷ [])

-- `(module (type (func (param i32))) (import "m" "n" (tag (type 0) (param $p i32))) (tag (type 0) (param $q i32)))`:
-- parameters of an imported tag have no names, but the tag is counted.
abbrev pub TagParameter : Type 0
TagParameter = (a b c d : Address) →
    HasNames (takes_i32 ∷ import_of None (kind.Tag (tag.Exception (typed (Some (takes (i32_param (id_of c (codes "p") 73) None ∷ [])))))) a b ∷ tag_with None (Some (takes (i32_param (id_of d (codes "q") 107) None ∷ []))) ∷ [])
    (0x0d ∷ 0x06 ∷ 0x01 ∷ 0x01 ∷ 0x01 ∷ 0x00 ∷ 0x01 ∷ 0x71 ∷ [])

-- The type of a block with this label.
abbrev pub labelled : Option Id → Option NameAnnotation → BlockType
labelled id name = record { label = id; label_name = name; ty = record { index = None; inline = None } }

-- `(func (type 0) ..)` with these instructions.
abbrev pub func_of : List Instruction → ModuleField
func_of is = field.Func (plain_func None 40 (by_number 0 51) is)

-- `(module (type (func)) (import "m" "n" (func (type 0))) (func (type 0) block $a block loop $b (@name "c") end end
-- try_table $d end end))`: a block without a label is counted, and so is an imported function. A generated id is not a
-- name.
abbrev pub NamedLabels : Type 0
NamedLabels = (a b c d e f : Address) →
    HasNames (field.Ty (type_of None (inner.Func (takes []))) ∷ import_of None (kind.Func (typed None)) a b
    ∷ func_of (instr.block (labelled (id_of c (codes "a") 70) None) ∷ instr.block (labelled (Some (gensym_id 7 (place 75))) None)
    ∷ instr.loop_ (labelled (id_of d (codes "b") 80) (Some (record { name = text e (codes "c") }))) ∷ instr.end_ None ∷ instr.end_ None
    ∷ instr.try_table (record { block = labelled (id_of f (codes "d") 99) None; catches = [] }) ∷ instr.end_ None ∷ instr.end_ None ∷ [])
    ∷ [])
    (0x03 ∷ 0x0c ∷ 0x01 ∷ 0x01 ∷ 0x03 ∷ 0x00 ∷ 0x01 ∷ 0x61 ∷ 0x02 ∷ 0x01 ∷ 0x63 ∷ 0x03 ∷ 0x01 ∷ 0x64 ∷ [])

-- An imported item at offset n.
abbrev pub sig_of : Option Id → ItemKind → ℕ → ItemSig
sig_of id of n = record { span = place n; id = id; name = None; kind = of }

-- `(module (type (func (param i32))) (import "m" (item "a" (func $f (type 0))) (item "b" (func $g (type 0)))) (func $h
-- (type 0)))`: each item of an import is counted.
abbrev pub GroupedImport : Type 0
GroupedImport = (a b c d e f : Address) →
    HasNames (takes_i32
    ∷ field.Import (record {
      span = place 37;
      items = import_items.Group1 (text a (codes "m")) ((text b (codes "a"), sig_of (id_of d (codes "f") 65) (kind.Func (typed None)) 60) ∷ (text c (codes "b"), sig_of (id_of e (codes "g") 96) (kind.Func (typed None)) 91) ∷ []);
    })
    ∷ field.Func (plain_func (id_of f (codes "h") 119) 114 (by_number 0 128) []) ∷ [])
    (0x01 ∷ 0x0a ∷ 0x03 ∷ 0x00 ∷ 0x01 ∷ 0x66 ∷ 0x01 ∷ 0x01 ∷ 0x67 ∷ 0x02 ∷ 0x01 ∷ 0x68 ∷ [])

-- `(module (type (func (param i32))) (import "m" (item "a") (item "b") (func (exact (type 0) (param $p i32)))))`: items
-- that share a signature all have its names.
abbrev pub SharedSignature : Type 0
SharedSignature = (a b c d : Address) →
    HasNames (takes_i32
    ∷ field.Import (record {
      span = place 37;
      items = import_items.Group2 (text a (codes "m")) (sig_of None (kind.FuncExact (typed (Some (takes (i32_param (id_of d (codes "p") 99) None ∷ []))))) 75) (text b (codes "a") ∷ text c (codes "b") ∷ []);
    })
    ∷ [])
    (0x02 ∷ 0x0b ∷ 0x02 ∷ 0x00 ∷ 0x01 ∷ 0x00 ∷ 0x01 ∷ 0x70 ∷ 0x01 ∷ 0x01 ∷ 0x00 ∷ 0x01 ∷ 0x70 ∷ [])
