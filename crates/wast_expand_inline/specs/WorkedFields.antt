-- Example modules with their expansions, which the definitions compute (text format: abbreviations). Names may be at
-- any address, because the result does not depend on it.
use Rattle.std.specs.Prelude.{◌≡◌, ℕ, pos, Bool, true, false, List, [], ◌∷◌, Option, Some, None, codes}
use Rattle.std.specs.Borrow.{Bor}
use Rattle.wast_base.specs.Ids.{gensym_id}
use Rattle.wast_tree_nodes.specs.WorkedModules.{Address, text, place, id_at, by_id, by_number, plain_memory_type, plain_global_type}
use Rattle.wast_expand_inline.specs.Tree.{Id, Index, RefType, FunctionType, TypeUse, MemoryType, ItemKind, ElemPayload, TableKind, MemoryKind, ExportKind, ModuleField}
use Rattle.wast_expand_inline.specs.Tree.index
use Rattle.wast_expand_inline.specs.Tree.heap
use Rattle.wast_expand_inline.specs.Tree.abstract
use Rattle.wast_expand_inline.specs.Tree.instr
use Rattle.wast_expand_inline.specs.Tree.tag
use Rattle.wast_expand_inline.specs.Tree.import_items
use Rattle.wast_expand_inline.specs.Tree.kind
use Rattle.wast_expand_inline.specs.Tree.elem
use Rattle.wast_expand_inline.specs.Tree.payload
use Rattle.wast_expand_inline.specs.Tree.data_kind
use Rattle.wast_expand_inline.specs.Tree.bytes
use Rattle.wast_expand_inline.specs.Tree.func
use Rattle.wast_expand_inline.specs.Tree.table
use Rattle.wast_expand_inline.specs.Tree.memory
use Rattle.wast_expand_inline.specs.Tree.global
use Rattle.wast_expand_inline.specs.Tree.tag_kind
use Rattle.wast_expand_inline.specs.Tree.export
use Rattle.wast_expand_inline.specs.Tree.field
use Rattle.wast_expand_inline.specs.Written.{desugared_from, reference_id_count, desugared_by_position}

-- a generated id for the field at position n, and the same as an index
abbrev pub made : ℕ → ℕ → Id
made g n = gensym_id g (place n)

abbrev pub by_made : ℕ → ℕ → Index
by_made g n = index.Id (made g n)

-- an export and an import of one item at position n
abbrev pub export_at : ℕ → Address → List ℕ → ExportKind → Index → ModuleField
export_at n a name kind item = field.Export (record { span = place n; name = text a name; kind = kind; item = item })

abbrev pub import_at : ℕ → (a b : Address) → Option Id → ItemKind → ModuleField
import_at n a b id k = field.Import (record {
  span = place n;
  items = import_items.Single (text a (codes "m")) (text b (codes "n")) (record { span = place n; id = id; name = None; kind = k });
})

-- `(module (memory (export "a") (export "b") (data)))`: two exports, an empty segment, and a memory without pages.
abbrev pub memory_at : ℕ → Option Id → MemoryKind → ModuleField
memory_at n id k = field.Memory (record { span = place n; id = id; name = None; exports = record { names = [] }; kind = k })

abbrev pub empty_memory : (a b : Address) → List ModuleField
empty_memory a b = field.Memory (record { span = place 9; id = None; name = None; exports = record { names = text a (codes "a") ∷ text b (codes "b") ∷ [] }; kind = memory.Inline false [] None }) ∷ []

abbrev pub memory_of : Bool → ℕ → Option ℕ → MemoryType
memory_of is64 n exponent = record { limits = record { is64 = is64; min = n; max = Some n }; shared = false; page_size_log2 = exponent }

abbrev pub empty_memory_with : (a b : Address) → Index → Option Id → List ModuleField
empty_memory_with a b item id =
    export_at 9 a (codes "a") export.Memory item ∷ export_at 9 b (codes "b") export.Memory item
    ∷ field.Data (record { span = place 9; id = None; name = None; kind = data_kind.Active item (record { instrs = instr.i32_const (pos 0) ∷ []; branch_hints = [] }); bytes = [] })
    ∷ memory_at 9 id (memory.Normal (memory_of false 0 None)) ∷ []

abbrev pub EmptyMemory : Type 0
EmptyMemory = (a b : Address) →
    (reference_id_count (empty_memory a b) ≡ 1)
    × (desugared_from 5 (empty_memory a b) ≡ empty_memory_with a b (by_made 5 9) (Some (made 5 9)))
    × (desugared_by_position (empty_memory a b) ≡ empty_memory_with a b (by_number 0 9) None)

-- `(module (import "m" "n" (memory 1)) (memory $m i64 (pagesize 2) (data "ab" "c")))`: the source id stays. Three bytes
-- take two pages of two bytes. The offset has 64 bits. By position the memory is number 1.
abbrev pub long_memory : (a b c d e : Address) → List ModuleField
long_memory a b c d e =
    import_at 9 a b None (kind.Memory plain_memory_type)
    ∷ memory_at 37 (Some (id_at c (codes "m") 44)) (memory.Inline true (bytes.«String» (text d (codes "ab")) ∷ bytes.«String» (text e (codes "c")) ∷ []) (Some 1)) ∷ []

abbrev pub long_memory_with : (a b c d e : Address) → Index → List ModuleField
long_memory_with a b c d e item =
    import_at 9 a b None (kind.Memory plain_memory_type)
    ∷ field.Data (record {
      span = place 37;
      id = None;
      name = None;
      kind = data_kind.Active item (record { instrs = instr.i64_const (pos 0) ∷ []; branch_hints = [] });
      bytes = bytes.«String» (text d (codes "ab")) ∷ bytes.«String» (text e (codes "c")) ∷ [];
    })
    ∷ memory_at 37 (Some (id_at c (codes "m") 44)) (memory.Normal (memory_of true 2 (Some 1))) ∷ []

abbrev pub LongMemory : Type 0
LongMemory = (a b c d e : Address) →
    (reference_id_count (long_memory a b c d e) ≡ 0)
    × (desugared_from 5 (long_memory a b c d e) ≡ long_memory_with a b c d e (by_id c (codes "m") 44))
    × (desugared_by_position (long_memory a b c d e) ≡ long_memory_with a b c d e (by_number 1 44))

-- `(module (func (export "f") (import "m" "n")) (func $g (import "m" "n")))`: two imports, the first of them exported.
abbrev pub no_type : TypeUse FunctionType
no_type = record { index = None; inline = None }

abbrev pub imported_func : ℕ → (a b : Address) → Option Id → List (Bor (List ℕ)) → ModuleField
imported_func n a b id names = field.Func (record {
  span = place n;
  id = id;
  name = None;
  exports = record { names = names };
  kind = func.Import (record { «module» = text a (codes "m"); field = text b (codes "n") }) false;
  ty = no_type;
})

abbrev pub imported_funcs : (a b c d e f : Address) → List ModuleField
imported_funcs a b c d e f = imported_func 9 a b None (text c (codes "f") ∷ []) ∷ imported_func 45 d e (Some (id_at f (codes "g") 50)) [] ∷ []

abbrev pub imported_funcs_with : (a b c d e f : Address) → Index → Option Id → List ModuleField
imported_funcs_with a b c d e f item id =
    export_at 9 c (codes "f") export.Func item ∷ import_at 9 a b id (kind.Func no_type) ∷ import_at 45 d e (Some (id_at f (codes "g") 50)) (kind.Func no_type) ∷ []

abbrev pub ImportedFuncs : Type 0
ImportedFuncs = (a b c d e f : Address) →
    (reference_id_count (imported_funcs a b c d e f) ≡ 1)
    × (desugared_from 5 (imported_funcs a b c d e f) ≡ imported_funcs_with a b c d e f (by_made 5 9) (Some (made 5 9)))
    × (desugared_by_position (imported_funcs a b c d e f) ≡ imported_funcs_with a b c d e f (by_number 0 9) None)

-- `(func (import "m" "n") exact)`: an exact import replaces it.
abbrev pub exact_func : (a b : Address) → ModuleField
exact_func a b = field.Func (record {
  span = place 33;
  id = None;
  name = None;
  exports = record { names = [] };
  kind = func.Import (record { «module» = text a (codes "m"); field = text b (codes "n") }) true;
  ty = no_type;
})

abbrev pub exact_import_of : (a b : Address) → ModuleField
exact_import_of a b = field.Import (record {
  span = place 33;
  items = import_items.Single (text a (codes "m")) (text b (codes "n")) (record { span = place 33; id = None; name = None; kind = kind.FuncExact no_type });
})

abbrev pub ExactImport : Type 0
ExactImport = (a b : Address) → desugared_from 1 (exact_func a b ∷ []) ≡ exact_import_of a b ∷ []

-- `(module (table funcref (elem $f $f)))`: a segment of two elements, and a table of two.
abbrev pub funcref : RefType
funcref = record { nullable = true; heap = heap.Abstract false abstract.Func }

abbrev pub two_elements : (a b : Address) → ElemPayload
two_elements a b = payload.Indices (by_id a (codes "f") 29 ∷ by_id b (codes "f") 32 ∷ [])

abbrev pub table_at : ℕ → Option Id → TableKind → ModuleField
table_at n id k = field.Table (record { span = place n; id = id; name = None; exports = record { names = [] }; kind = k })

abbrev pub table_of_two : (a b : Address) → List ModuleField
table_of_two a b = table_at 9 None (table.Inline funcref false false (two_elements a b)) ∷ []

abbrev pub table_of_two_with : (a b : Address) → Index → Option Id → List ModuleField
table_of_two_with a b item id =
    field.Elem (record { span = place 9; id = None; name = None; kind = elem.Active (Some item) (record { instrs = instr.i32_const (pos 0) ∷ []; branch_hints = [] }); payload = two_elements a b })
    ∷ table_at 9 id (table.Normal (record { limits = record { is64 = false; min = 2; max = Some 2 }; elem = funcref; shared = false }) None) ∷ []

abbrev pub TableOfTwo : Type 0
TableOfTwo = (a b : Address) →
    (reference_id_count (table_of_two a b) ≡ 1)
    × (desugared_from 5 (table_of_two a b) ≡ table_of_two_with a b (by_made 5 9) (Some (made 5 9)))
    × (desugared_by_position (table_of_two a b) ≡ table_of_two_with a b (by_number 0 9) None)

-- `(module (global (export "g") (import "m" "n") i32) (start 0) (tag $t (export "t")))`: only the global needs an id.
abbrev pub global_and_tag : (a b c d e : Address) → List ModuleField
global_and_tag a b c d e =
    field.Global (record {
      span = place 9;
      id = None;
      name = None;
      exports = record { names = text a (codes "g") ∷ [] };
      ty = plain_global_type;
      kind = global.Import (record { «module» = text b (codes "m"); field = text c (codes "n") });
    })
    ∷ field.Start (by_number 0 59)
    ∷ field.Tag (record { span = place 63; id = Some (id_at d (codes "t") 67); name = None; exports = record { names = text e (codes "t") ∷ [] }; ty = tag.Exception no_type; kind = tag_kind.Inline }) ∷ []

abbrev pub global_and_tag_with : (a b c d e : Address) → Index → Index → Option Id → List ModuleField
global_and_tag_with a b c d e first second id =
    export_at 9 a (codes "g") export.Global first ∷ import_at 9 b c id (kind.Global plain_global_type) ∷ field.Start (by_number 0 59)
    ∷ export_at 63 e (codes "t") export.Tag second
    ∷ field.Tag (record { span = place 63; id = Some (id_at d (codes "t") 67); name = None; exports = record { names = [] }; ty = tag.Exception no_type; kind = tag_kind.Inline }) ∷ []

abbrev pub GlobalAndTag : Type 0
GlobalAndTag = (a b c d e : Address) →
    (reference_id_count (global_and_tag a b c d e) ≡ 1)
    × (desugared_from 5 (global_and_tag a b c d e) ≡ global_and_tag_with a b c d e (by_made 5 9) (by_id d (codes "t") 67) (Some (made 5 9)))
    × (desugared_by_position (global_and_tag a b c d e) ≡ global_and_tag_with a b c d e (by_number 0 9) (by_number 0 67) None)
