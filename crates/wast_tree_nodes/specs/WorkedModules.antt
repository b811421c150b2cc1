-- Example modules as lists of fields, for examples that compute (text format: modules).
--
-- A text in a contract has an address, so each text of an example has one as a parameter: the examples hold for all addresses.
use Rattle.std.specs.Prelude.{ℕ, ◌+◌, false, List, [], ◌∷◌, Option, Some, None, codes}
use Rattle.std.specs.Borrow.{Bor}
use Rattle.wast_tree_nodes.specs.Tree.{Span, Id, Index, TypeDef, Instruction, MemoryType, GlobalType, Func, Memory, Data, Export, ModuleField}
use Rattle.wast_tree_nodes.specs.Tree.index
use Rattle.wast_tree_nodes.specs.Tree.value
use Rattle.wast_tree_nodes.specs.Tree.inner
use Rattle.wast_tree_nodes.specs.Tree.ty
use Rattle.wast_tree_nodes.specs.Tree.instr
use Rattle.wast_tree_nodes.specs.Tree.func
use Rattle.wast_tree_nodes.specs.Tree.import_items
use Rattle.wast_tree_nodes.specs.Tree.kind
use Rattle.wast_tree_nodes.specs.Tree.memory
use Rattle.wast_tree_nodes.specs.Tree.data_kind
use Rattle.wast_tree_nodes.specs.Tree.bytes
use Rattle.wast_tree_nodes.specs.Tree.export
use Rattle.wast_tree_nodes.specs.Tree.field
use Rattle.wast_base.specs.Ids.{source_id}

-- the address of a text
abbrev pub Address : Type 0
Address = ℕ × ℕ

-- a text at an address
abbrev pub text : Address → List ℕ → Bor (List ℕ)
text a t = record { ref_ptr = a; now = t }

-- a position in the source of a module
abbrev pub place : ℕ → Span
place n = record { offset = n }

-- a source id at n
abbrev pub id_at : Address → List ℕ → ℕ → Id
id_at a t n = source_id (text a t) (place n)

-- an index that is an id
abbrev pub by_id : Address → List ℕ → ℕ → Index
by_id a t n = index.Id (id_at a t n)

-- an index that is a number
abbrev pub by_number : ℕ → ℕ → Index
by_number k n = index.Num k (place n)

-- the definition of `(type (func))`
abbrev pub plain_def : TypeDef
plain_def = record { kind = inner.Func (record { params = []; results = [] }); shared = false; parents = []; descriptor = None; describes = None; final_type = None }

-- `(type .. (func))`, which begins at n; its position is that of its keyword, as for each field
abbrev pub plain_type : Option Id → ℕ → ty.«Type»
plain_type id n = record { span = place (n + 1); id = id; name = None; def = plain_def }

-- `(func .. (type ..) ..)`, which begins at n
abbrev pub plain_func : Option Id → ℕ → Index → List Instruction → Func
plain_func id n type instrs = record {
  span = place (n + 1);
  id = id;
  name = None;
  exports = record { names = [] };
  kind = func.Inline [] (record { instrs = instrs; branch_hints = [] });
  ty = record { index = Some type; inline = None };
}

-- `(export "a" (func ..))`, which begins at n
abbrev pub plain_export : Address → ℕ → Index → Export
plain_export a n item = record { span = place (n + 1); name = text a (codes "a"); kind = export.Func; item = item }

-- `(type $t (func))`, which begins at n
abbrev pub type_field : Address → ℕ → ModuleField
type_field a n = field.Ty (plain_type (Some (id_at a (codes "t") (n + 6))) n)

-- `(func $f (type ..) ..)`, which begins at n
abbrev pub func_field : Address → ℕ → Index → List Instruction → ModuleField
func_field a n type instrs = field.Func (plain_func (Some (id_at a (codes "f") (n + 6))) n type instrs)

-- `(export "a" (func ..))`, which begins at n
abbrev pub export_field : Address → ℕ → Index → ModuleField
export_field a n item = field.Export (plain_export a n item)

-- `(module (type $t (func)) (func $f (type $t) call $f) (export "a" (func $f)))`, with its three indices
abbrev pub row27_with : (a b c : Address) → Index → Index → Index → List ModuleField
row27_with a b c type callee exported = type_field a 8 ∷ func_field b 25 type (instr.call callee ∷ []) ∷ export_field c 53 exported ∷ []

-- the same module with the ids of its source
abbrev pub row27 : (a b c d e f : Address) → List ModuleField
row27 a b c d e f = row27_with a b c (by_id d (codes "t") 40) (by_id e (codes "f") 49) (by_id f (codes "f") 71)

-- `(module (type $t (func)) (export "a" (func $g)) (func $f (type $t)))`
abbrev pub row31 : (a b c d e : Address) → List ModuleField
row31 a b c d e = type_field a 8 ∷ export_field b 25 (by_id c (codes "g") 43) ∷ func_field d 48 (by_id e (codes "t") 63) [] ∷ []

-- `(module (type $t (func)) (type $t (func)))`
abbrev pub row32 : (a b : Address) → List ModuleField
row32 a b = type_field a 8 ∷ type_field b 25 ∷ []

-- the type of an immutable global of type `i32`
abbrev pub plain_global_type : GlobalType
plain_global_type = record { ty = value.I32; mutable = false; shared = false }

-- the type of a memory of at least one page
abbrev pub plain_memory_type : MemoryType
plain_memory_type = record { limits = record { is64 = false; min = 1; max = None }; shared = false; page_size_log2 = None }

-- `(memory .. 1)`, which begins at n
abbrev pub plain_memory : Option Id → ℕ → Memory
plain_memory id n = record { span = place (n + 1); id = id; name = None; exports = record { names = [] }; kind = memory.Normal plain_memory_type }

-- `(data (memory ..) (offset global.get ..) "a")`, which begins at n
abbrev pub plain_data : Address → ℕ → Index → Index → Data
plain_data a n filled start = record {
  span = place (n + 1);
  id = None;
  name = None;
  kind = data_kind.Active filled (record { instrs = instr.global_get start ∷ []; branch_hints = [] });
  bytes = bytes.«String» (text a (codes "a")) ∷ [];
}

-- `(import "e" "g" (global $g i32))`, which begins at n
abbrev pub import_field : Address → ℕ → ModuleField
import_field a n = field.Import (record {
  span = place (n + 1);
  items = import_items.Single (text a (codes "e")) (text a (codes "g")) (record { span = place (n + 17); id = Some (id_at a (codes "g") (n + 24)); name = None; kind = kind.Global plain_global_type });
})

-- `(memory $m 1)`, which begins at n
abbrev pub memory_field : Address → ℕ → ModuleField
memory_field a n = field.Memory (plain_memory (Some (id_at a (codes "m") (n + 8))) n)

-- `(module (import "e" "g" (global $g i32)) (memory $m 1) (data (memory $m) (offset global.get $g) "a"))`
abbrev pub filled_memory : (a b c d e : Address) → List ModuleField
filled_memory a b c d e = import_field a 8 ∷ memory_field b 41 ∷ field.Data (plain_data c 55 (by_id d (codes "m") 69) (by_id e (codes "g") 92)) ∷ []
