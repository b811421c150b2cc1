-- Examples that compute: the values of the definitions of the AST for small modules.
--
-- A row is an example module of docs/ROWS.md. For example, row 27 is
-- `(module (type $t (func)) (func $f (type $t) call $f) (export "a" (func $f)))`.
use Rattle.std.specs.Borrow.{Bor}
use Rattle.std.specs.Prelude.{◌≡◌, ℕ, pos, Bool, true, false, List, [], ◌∷◌, map, Option, Some, None, codes}
use Rattle.wast_tree.specs.Tree.{Id, Index, Space, RefType, ValType, StructField, FunctionType, TypeUse, TypeDef, BlockType, Instruction, BranchHint, Expression, TableType, GlobalType, InlineImport, Func, ElemPayload, Form, ModuleField}
use Rattle.wast_tree.specs.Tree.index
use Rattle.wast_tree.specs.Tree.space
use Rattle.wast_tree.specs.Tree.form
use Rattle.wast_tree.specs.Tree.heap
use Rattle.wast_tree.specs.Tree.abstract
use Rattle.wast_tree.specs.Tree.value
use Rattle.wast_tree.specs.Tree.storage
use Rattle.wast_tree.specs.Tree.inner
use Rattle.wast_tree.specs.Tree.bare
use Rattle.wast_tree.specs.Tree.target
use Rattle.wast_base.specs.declared.mem_ops.MemOp.TheVariants as mem_op
use Rattle.wast_tree.specs.Tree.plain
use Rattle.wast_tree.specs.Tree.caught
use Rattle.wast_tree.specs.Tree.ordering
use Rattle.wast_tree.specs.Tree.instr
use Rattle.wast_tree.specs.Tree.func
use Rattle.wast_tree.specs.Tree.import_items
use Rattle.wast_tree.specs.Tree.kind
use Rattle.wast_tree.specs.Tree.table
use Rattle.wast_tree.specs.Tree.memory
use Rattle.wast_tree.specs.Tree.global
use Rattle.wast_tree.specs.Tree.elem
use Rattle.wast_tree.specs.Tree.payload
use Rattle.wast_tree.specs.Tree.bytes
use Rattle.wast_tree.specs.Tree.field
use Rattle.wast_base.specs.Ids.{Name, Written, Generated, Mark, mark_of, gensym_id, same_id, same_index}
use Rattle.wast_tree_nodes.specs.Items.{items}
use Rattle.wast_tree_nodes.specs.Sites.{ItemIndex, PlainId, Clause, Covered, Site, OfItem, OfBlock, Asked, Used, Declared, LocalAt, FieldAt, LabelAt, Repeated, Begins, Ends, in_module, checks_of}
use Rattle.wast_tree_nodes.specs.Known.{id_context}
use Rattle.wast_tree_nodes.specs.Uncovered.{uncovered_forms}
use Rattle.wast_tree_nodes.specs.WellFormed.{is_well_formed, ill_formed}
use Rattle.wast_tree_visit.specs.FirstUncovered.{first_uncovered}
use Rattle.wast_tree_visit.specs.IllFormed.{first_ill_formed}
use Rattle.wast_tree_nodes.specs.WrittenOut.{is_written_out}
use Rattle.wast_tree_nodes.specs.Generations.{generation_or_zero, generation_in, greatest_generation}
use Rattle.wast_tree_nodes.specs.WorkedModules.{Address, text, place, id_at, by_id, by_number, plain_def, plain_type, plain_func, export_field, row27_with, row27, row31, row32, plain_global_type, plain_memory_type, plain_memory, filled_memory}

-- a generated id
abbrev pub made : ℕ → Id
made n = gensym_id n (place 0)

-- a generated id as an index
abbrev pub made_index : ℕ → Index
made_index n = index.Id (made n)

-- a generated id as a name with a position
abbrev pub made_mark : ℕ → Mark
made_mark n = mark_of (made n)

-- Ids are compared by texts and generations, not by positions. `$gensym` is not a generated id.
abbrev pub SameIds : Type 0
SameIds = (a b : Address) →
    (same_id (id_at a (codes "f") 1) (id_at b (codes "f") 2) ≡ true)
    × (same_id (id_at a (codes "f") 1) (id_at b (codes "ff") 1) ≡ false)
    × (same_id (gensym_id 3 (place 1)) (gensym_id 3 (place 2)) ≡ true)
    × (same_id (gensym_id 3 (place 1)) (gensym_id 4 (place 1)) ≡ false)
    × (same_id (gensym_id 0 (place 1)) (id_at a (codes "gensym") 1) ≡ false)
    × (same_index (by_number 3 1) (by_number 3 2) ≡ true)
    × (same_index (by_number 3 1) (by_number 4 1) ≡ false)
    × (same_index (by_number 3 1) (made_index 3) ≡ false)

-- `(ref null ..)` of an index
abbrev pub ref_to : Index → ValType
ref_to i = value.Ref (record { nullable = true; heap = heap.Concrete i })

-- `(ref null func)`, of shared functions or not
abbrev pub ref_func : Bool → ValType
ref_func shared = value.Ref (record { nullable = true; heap = heap.Abstract shared abstract.Func })

-- a struct field with such an id and value type
abbrev pub field_of : Option Id → ValType → StructField
field_of id t = record { id = id; name = None; mutable = true; ty = storage.Val t }

-- a constant expression of these instructions
abbrev pub expression_of : List Instruction → Expression
expression_of instrs = record { instrs = instrs; branch_hints = [] }

-- a type use without an index and without an inline type
abbrev pub nothing_used : TypeUse FunctionType
nothing_used = record { index = None; inline = None }

-- the label of a block, and its type use
abbrev pub block_of : Option Id → TypeUse FunctionType → BlockType
block_of label u = record { label = label; label_name = None; ty = u }

-- a type use with a generated id at each position for one
abbrev pub used_everywhere : TypeUse FunctionType
used_everywhere = record { index = Some (made_index 9); inline = Some (record { params = (Some (made 10), None, value.I32) ∷ []; results = [] }) }

-- blocks with a generated id at each position for one
abbrev pub everywhere_in_blocks : List Instruction
everywhere_in_blocks =
    instr.try_table (record {
      block = block_of (Some (made 20)) (record { index = Some (made_index 21); inline = None });
      catches = record { kind = caught.Catch (made_index 22); label = made_index 23 } ∷ [];
    })
    ∷ instr.if_ (block_of (Some (made 24)) nothing_used)
    ∷ instr.local_get (made_index 25)
    ∷ instr.br_table (record { labels = made_index 26 ∷ []; default = made_index 27 })
    ∷ instr.else_ (Some (made 28))
    ∷ instr.br (made_index 29)
    ∷ instr.end_ (Some (made 30))
    ∷ instr.delegate (made_index 31)
    ∷ []

-- a module with a generated id at each position for one
abbrev pub everywhere_generated : Address → List ModuleField
everywhere_generated a =
    field.Ty (record (plain_type (Some (made 1)) 0) {
      def = record {
        kind = inner.Func (record { params = (Some (made 2), None, ref_to (made_index 12)) ∷ []; results = ref_to (made_index 13) ∷ [] });
        shared = false;
        parents = made_index 3 ∷ [];
        descriptor = Some (made_index 4);
        describes = Some (made_index 5);
        final_type = None;
      };
    })
    ∷ field.Rec (record {
      span = place 0;
      types =
          record (plain_type (Some (made 14)) 0) { def = record plain_def { kind = inner.Struct (record { fields = field_of (Some (made 15)) (ref_to (made_index 16)) ∷ [] }) } }
          ∷ record (plain_type (Some (made 17)) 0) { def = record plain_def { kind = inner.Array (record { mutable = true; ty = storage.Val (ref_to (made_index 18)) }) } }
          ∷ [];
    })
    ∷ field.Func (record (plain_func (Some (made 6)) 0 (made_index 9) []) {
      kind = func.Inline (record { id = Some (made 7); name = None; ty = ref_to (made_index 19) } ∷ []) (expression_of (instr.call (made_index 8) ∷ everywhere_in_blocks));
      ty = used_everywhere;
    })
    ∷ export_field a 0 (made_index 11)
    ∷ []

-- a site of an index
abbrev pub wanted : Space → Index → Site
wanted s i = Asked (ItemIndex s i)

-- a site of an unsupported form, and whether the module is free of it
abbrev pub covers : Form → Bool → Site
covers f holds = Asked (Covered f holds)

-- the site of a part that may be shared, and is not
abbrev pub unshared : Bool → Site
unshared holds = covers form.Shared holds

-- the site of the rule for branch hints, and whether it holds
abbrev pub hinted : Bool → Site
hinted holds = Asked (Clause 2 holds)

-- the site of the rule for the blocks of a constant expression, and whether it holds
abbrev pub balanced : Bool → Site
balanced holds = Asked (Clause 5 holds)

-- Row 27 has two items. Its sites are a type use and two indices, the first of them in a body. Ids and numbers occur as they
-- are in the source.
abbrev pub StandsInRow27 : Type 0
StandsInRow27 = (a b c d e f : Address) →
    (items (row27 a b c d e f)
    ≡ record { space = space.Ty; id = Some (Written (codes "t"), place 14); fields = [] }
    ∷ record { space = space.Func; id = Some (Written (codes "f"), place 31); fields = [] }
    ∷ [])
    × (in_module (row27 a b c d e f)
    ≡ unshared true
    ∷ Used OfItem (record { index = Some (by_id d (codes "t") 40); inline = None })
    ∷ wanted space.Func (by_id e (codes "f") 49)
    ∷ hinted true
    ∷ wanted space.Func (by_id f (codes "f") 71)
    ∷ [])
    × (in_module (row27_with a b c (by_number 0 40) (by_number 1 49) (by_number 2 71))
    ≡ unshared true
    ∷ Used OfItem (record { index = Some (by_number 0 40); inline = None })
    ∷ wanted space.Func (by_number 1 49)
    ∷ hinted true
    ∷ wanted space.Func (by_number 2 71)
    ∷ [])

-- An imported global, a memory and a data segment are items. The sites are the memory of the segment and the global of its
-- offset.
abbrev pub StandsInFilledMemory : Type 0
StandsInFilledMemory = (a b c d e : Address) →
    (items (filled_memory a b c d e)
    ≡ record { space = space.Global; id = Some (Written (codes "g"), place 32); fields = [] }
    ∷ record { space = space.Memory; id = Some (Written (codes "m"), place 49); fields = [] }
    ∷ record { space = space.Data; id = None; fields = [] }
    ∷ [])
    × (in_module (filled_memory a b c d e)
    ≡ unshared true
    ∷ wanted space.Memory (by_id d (codes "m") 69)
    ∷ wanted space.Global (by_id e (codes "g") 92)
    ∷ balanced true
    ∷ [])
    × (is_well_formed (filled_memory a b c d e) ≡ true)

-- The order of the sites. A type has its supertypes, `descriptor`, `describes`, parameters, results, and whether it is
-- shared. A function has its type use, locals and body. Parameters and locals are declared before the body, each after the
-- names of those before it. A catch clause looks up its label outside of the block, and `delegate` after the end of its
-- block. Each type of a group is an item, and a struct type has its fields.
abbrev pub StandsEverywhere : Type 0
StandsEverywhere = (a : Address) →
    (items (everywhere_generated a)
    ≡ record { space = space.Ty; id = Some (made_mark 1); fields = [] }
    ∷ record { space = space.Ty; id = Some (made_mark 14); fields = Some (made_mark 15) ∷ [] }
    ∷ record { space = space.Ty; id = Some (made_mark 17); fields = [] }
    ∷ record { space = space.Func; id = Some (made_mark 6); fields = [] }
    ∷ [])
    × (in_module (everywhere_generated a)
    ≡ wanted space.Ty (made_index 3)
    ∷ wanted space.Ty (made_index 4)
    ∷ covers form.Descriptor false
    ∷ wanted space.Ty (made_index 5)
    ∷ covers form.Descriptor false
    ∷ Asked (PlainId (made_mark 2))
    ∷ wanted space.Ty (made_index 12)
    ∷ wanted space.Ty (made_index 13)
    ∷ unshared true
    ∷ Asked (PlainId (made_mark 15))
    ∷ wanted space.Ty (made_index 16)
    ∷ unshared true
    ∷ wanted space.Ty (made_index 18)
    ∷ unshared true
    ∷ Used OfItem used_everywhere
    ∷ wanted space.Ty (made_index 19)
    ∷ Asked (PlainId (made_mark 7))
    ∷ Declared [] (Some (made_mark 10))
    ∷ Declared (Some (Generated 10) ∷ []) (Some (made_mark 7))
    ∷ wanted space.Func (made_index 8)
    ∷ Used OfBlock (record { index = Some (made_index 21); inline = None })
    ∷ wanted space.Tag (made_index 22)
    ∷ LabelAt [] (made_index 23)
    ∷ Begins [] (Some (made_mark 20))
    ∷ Used OfBlock nothing_used
    ∷ Begins (Some (Generated 20) ∷ []) (Some (made_mark 24))
    ∷ LocalAt (record { owner = Some used_everywhere; names = Some (Generated 10) ∷ Some (Generated 7) ∷ [] }) (made_index 25)
    ∷ LabelAt (Some (Generated 24) ∷ Some (Generated 20) ∷ []) (made_index 26)
    ∷ LabelAt (Some (Generated 24) ∷ Some (Generated 20) ∷ []) (made_index 27)
    ∷ Repeated (Some (Generated 24) ∷ Some (Generated 20) ∷ []) (Some (made_mark 28))
    ∷ LabelAt (Some (Generated 24) ∷ Some (Generated 20) ∷ []) (made_index 29)
    ∷ Repeated (Some (Generated 24) ∷ Some (Generated 20) ∷ []) (Some (made_mark 30))
    ∷ Ends
    ∷ Ends
    ∷ LabelAt [] (made_index 31)
    ∷ hinted true
    ∷ wanted space.Func (made_index 11)
    ∷ [])

-- the index that a name refers to in a space, in a list of fields
abbrev pub number_known : List ModuleField → Space → Name → Option ℕ
number_known fields s name = (id_context (items fields)).number s name

-- In row 27 `$f` is function 0 and `$t` is type 0, and no other name is defined. Of two types `$t` the first counts.
abbrev pub KnownInRows : Type 0
KnownInRows = (a b c d e f : Address) →
    (number_known (row27 a b c d e f) space.Func (Written (codes "f")) ≡ Some 0)
    × (number_known (row27 a b c d e f) space.Ty (Written (codes "t")) ≡ Some 0)
    × (number_known (row27 a b c d e f) space.Func (Written (codes "g")) ≡ None)
    × (number_known (row27 a b c d e f) space.Func (Written (codes "t")) ≡ None)
    × (number_known (row27 a b c d e f) space.Ty (Written (codes "f")) ≡ None)
    × (number_known (row27 a b c d e f) space.Func (Generated 1) ≡ None)
    × (number_known (row32 a b) space.Ty (Written (codes "t")) ≡ Some 0)
    × (number_known (field.Ty (plain_type None 0) ∷ row32 a b) space.Ty (Written (codes "t")) ≡ Some 1)

-- The example modules are well formed, even if two items have the same id or an id is not defined.
abbrev pub WellFormedRows : Type 0
WellFormedRows = (a b c d e f : Address) →
    (is_well_formed (row27 a b c d e f) ≡ true)
    × (is_well_formed (row31 a b c d e) ≡ true)
    × (is_well_formed (row32 a b) ≡ true)

-- A generated id that is used as an index has to name an item of the space.
abbrev pub SettledIndices : Type 0
SettledIndices = (a : Address) →
    (is_well_formed (export_field a 0 (made_index 1) ∷ []) ≡ false)
    × (is_well_formed (field.Ty (plain_type (Some (made 1)) 0) ∷ export_field a 0 (made_index 1) ∷ []) ≡ false)
    × (is_well_formed (field.Func (plain_func (Some (made 2)) 0 (by_number 0 0) []) ∷ export_field a 0 (made_index 1) ∷ []) ≡ false)
    × (is_well_formed (export_field a 0 (made_index 1) ∷ field.Func (plain_func (Some (made 1)) 0 (by_number 0 0) []) ∷ []) ≡ true)

-- `(func (type 0))`
abbrev pub nameless_func : Func
nameless_func = plain_func None 8 (by_number 0 20) []

-- a module of one type with this definition
abbrev pub def_alone : TypeDef → List ModuleField
def_alone def = field.Ty (record (plain_type None 8) { def = def }) ∷ []

-- a module of one function
abbrev pub func_alone : Func → List ModuleField
func_alone f = field.Func f ∷ []

-- A generated id that names no item is found in a supertype, a type use and a call. That of a parameter or a local is allowed.
abbrev pub UnsettledIndices : Type 0
UnsettledIndices =
    (is_well_formed (def_alone (record plain_def { parents = by_number 0 20 ∷ made_index 1 ∷ [] })) ≡ false)
    × (is_well_formed (func_alone (plain_func None 8 (made_index 1) [])) ≡ false)
    × (is_well_formed (func_alone (plain_func None 8 (by_number 0 20) (instr.call (made_index 1) ∷ []))) ≡ false)
    × (is_well_formed (def_alone (record plain_def { kind = inner.Func (record { params = (Some (made 1), None, value.I32) ∷ []; results = [] }) })) ≡ true)
    × (is_well_formed (func_alone (record nameless_func { kind = func.Inline (record { id = Some (made 1); name = None; ty = value.I32 } ∷ []) (expression_of []) })) ≡ true)

-- the inline import `(import "m" "m")`
abbrev pub from_m : Address → InlineImport
from_m a = record { «module» = text a (codes "m"); field = text a (codes "m") }

-- whether a module of one function is well formed
abbrev pub is_well_formed_func : Func → Bool
is_well_formed_func f = is_well_formed (func_alone f)

-- whether a module of one type with this definition is well formed
abbrev pub is_well_formed_def : TypeDef → Bool
is_well_formed_def def = is_well_formed (def_alone def)

-- Well-formed functions: `(func (type 0))`, `(func)`, one with a local, and one with an inline type, with or without an index.
-- So are one with an inline export, one with an inline import, exact or not, and one with a local or result of a shared type.
abbrev pub WellFormedFuncs : Type 0
WellFormedFuncs = (a : Address) →
    (is_well_formed_func nameless_func ≡ true)
    × (is_well_formed_func (record nameless_func { ty = record { index = None; inline = None } }) ≡ true)
    × (is_well_formed_func (record nameless_func { exports = record { names = text a (codes "a") ∷ [] } }) ≡ true)
    × (is_well_formed_func (record nameless_func { kind = func.Import (from_m a) false }) ≡ true)
    × (is_well_formed_func (record nameless_func { kind = func.Import (from_m a) true }) ≡ true)
    × (is_well_formed_func (record nameless_func { kind = func.Inline (record { id = None; name = None; ty = value.I32 } ∷ []) (expression_of (instr.Plain (plain.Bare bare.drop) ∷ [])) }) ≡ true)
    × (is_well_formed_func (record nameless_func { kind = func.Inline (record { id = Some (id_at a (codes "x") 20); name = Some (record { name = text a (codes "x") }); ty = value.I32 } ∷ []) (expression_of []) }) ≡ true)
    × (is_well_formed_func (record nameless_func { kind = func.Inline (record { id = None; name = None; ty = ref_func true } ∷ []) (expression_of []) }) ≡ true)
    × (is_well_formed_func (record nameless_func { ty = record { index = Some (by_number 0 20); inline = Some (record { params = []; results = ref_func false ∷ [] }) } }) ≡ true)
    × (is_well_formed_func (record nameless_func { ty = record { index = None; inline = Some (record { params = []; results = [] }) } }) ≡ true)
    × (is_well_formed_func (record nameless_func { ty = record { index = None; inline = Some (record { params = []; results = ref_func true ∷ [] }) } }) ≡ true)

-- a branch hint of this value, on the instruction of this number
abbrev pub hint : ℕ → ℕ → BranchHint
hint i value = record { instr_index = i; value = value }

-- an expression of three instructions, with these hints
abbrev pub hinted_drops : List BranchHint → Expression
hinted_drops hints = let one = instr.Plain (plain.Bare bare.drop) in record { instrs = one ∷ one ∷ one ∷ []; branch_hints = hints }

-- whether a function with such a body is well formed
abbrev pub are_well_formed_hints : List BranchHint → Bool
are_well_formed_hints hints = is_well_formed_func (record nameless_func { kind = func.Inline [] (hinted_drops hints) })

-- Each of the three instructions of a body may have one branch hint. Two hints on one, hints in decreasing order and a hint on
-- a fourth instruction are not allowed. The values are 0 and 1. The hints of a constant expression are not checked.
abbrev pub WellFormedHints : Type 0
WellFormedHints =
    (are_well_formed_hints [] ≡ true)
    × (are_well_formed_hints (hint 0 1 ∷ hint 1 0 ∷ hint 2 1 ∷ []) ≡ true)
    × (are_well_formed_hints (hint 0 0 ∷ hint 2 0 ∷ []) ≡ true)
    × (are_well_formed_hints (hint 1 0 ∷ hint 1 1 ∷ []) ≡ false)
    × (are_well_formed_hints (hint 1 0 ∷ hint 0 0 ∷ []) ≡ false)
    × (are_well_formed_hints (hint 3 0 ∷ []) ≡ false)
    × (are_well_formed_hints (hint 0 2 ∷ []) ≡ false)
    × (is_well_formed (field.Global (record { span = place 1; id = None; name = None; exports = record { names = [] }; ty = plain_global_type; kind = global.Inline (hinted_drops (hint 3 2 ∷ hint 3 2 ∷ [])) }) ∷ []) ≡ true)

-- Well-formed types: `(func (param i32) (result i32))`, also not final, with a supertype, with references or with names. So
-- are structs and arrays, with or without ids of fields, and a shared type. So are one with `descriptor` or `describes`, and
-- one that refers to a shared heap type.
abbrev pub WellFormedTypes : Type 0
WellFormedTypes = (a : Address) →
    (is_well_formed_def (record plain_def { kind = inner.Func (record { params = (None, None, ref_func false) ∷ []; results = ref_to (by_number 0 20) ∷ [] }) }) ≡ true)
    × (is_well_formed_def (record plain_def { final_type = Some false; parents = by_number 0 20 ∷ [] }) ≡ true)
    × (is_well_formed_def (record plain_def { shared = true }) ≡ true)
    × (is_well_formed_def (record plain_def { descriptor = Some (by_number 0 20) }) ≡ true)
    × (is_well_formed_def (record plain_def { describes = Some (by_number 0 20) }) ≡ true)
    × (is_well_formed_def (record plain_def { kind = inner.Func (record { params = (Some (id_at a (codes "x") 20), None, value.I32) ∷ []; results = [] }) }) ≡ true)
    × (is_well_formed_def (record plain_def { kind = inner.Func (record { params = (None, Some (record { name = text a (codes "x") }), value.I32) ∷ []; results = [] }) }) ≡ true)
    × (is_well_formed_def (record plain_def { kind = inner.Func (record { params = []; results = ref_func true ∷ [] }) }) ≡ true)
    × (is_well_formed_def (record plain_def { kind = inner.Struct (record { fields = field_of None (ref_func false) ∷ [] }) }) ≡ true)
    × (is_well_formed_def (record plain_def { kind = inner.Struct (record { fields = field_of (Some (id_at a (codes "x") 20)) value.I32 ∷ [] }) }) ≡ true)
    × (is_well_formed_def (record plain_def { kind = inner.Array (record { mutable = false; ty = storage.I8 }) }) ≡ true)
    × (is_well_formed_def (record plain_def { kind = inner.Array (record { mutable = false; ty = storage.Val (ref_func true) }) }) ≡ true)

-- an active segment without expressions, of this type
abbrev pub elems_of : Option Index → RefType → ModuleField
elems_of table ty = field.Elem (record { span = place 1; id = None; name = None; kind = elem.Active table (expression_of (instr.global_get (by_number 0 20) ∷ [])); payload = payload.Exprs ty [] })

-- An element segment without a table has functions, or expressions of type `funcref`. One with a table may have others.
abbrev pub WellFormedSegments : Type 0
WellFormedSegments =
    (is_well_formed (elems_of None (record { nullable = true; heap = heap.Abstract false abstract.Func }) ∷ []) ≡ true)
    × (is_well_formed (elems_of None (record { nullable = false; heap = heap.Abstract false abstract.Func }) ∷ []) ≡ false)
    × (is_well_formed (elems_of None (record { nullable = true; heap = heap.Abstract false abstract.Extern }) ∷ []) ≡ false)
    × (is_well_formed (elems_of (Some (by_number 0 20)) (record { nullable = true; heap = heap.Abstract false abstract.Extern }) ∷ []) ≡ true)
    × (is_well_formed (elems_of (Some (by_number 0 20)) (record { nullable = true; heap = heap.Abstract true abstract.Extern }) ∷ []) ≡ true)

-- a global of this type
abbrev pub global_of : GlobalType → ModuleField
global_of ty = field.Global (record { span = place 1; id = None; name = None; exports = record { names = [] }; ty = ty; kind = global.Inline (expression_of (instr.global_get (by_number 0 20) ∷ [])) })

-- a table of this type
abbrev pub table_of : TableType → ModuleField
table_of ty = field.Table (record { span = place 1; id = None; name = None; exports = record { names = [] }; kind = table.Normal ty None })

-- `1 funcref`
abbrev pub plain_table_type : TableType
plain_table_type = record { limits = record { is64 = false; min = 1; max = None }; elem = record { nullable = true; heap = heap.Abstract false abstract.Func }; shared = false }

-- A memory, a global and a table may be shared.
abbrev pub WellFormedEntities : Type 0
WellFormedEntities =
    (is_well_formed (global_of plain_global_type ∷ []) ≡ true)
    × (is_well_formed (global_of (record plain_global_type { shared = true }) ∷ []) ≡ true)
    × (is_well_formed (table_of plain_table_type ∷ []) ≡ true)
    × (is_well_formed (table_of (record plain_table_type { shared = true }) ∷ []) ≡ true)
    × (is_well_formed (field.Memory (record (plain_memory None 0) { kind = memory.Normal (record plain_memory_type { shared = true }) }) ∷ []) ≡ true)

-- `(table funcref (elem ..))`
abbrev pub table_in_place : RefType → Bool → ElemPayload → ModuleField
table_in_place ty shared elements = field.Table (record { span = place 1; id = None; name = None; exports = record { names = [] }; kind = table.Inline ty false shared elements })

-- `(memory (data "a"))`, with pages of 2 to the exponent
abbrev pub memory_in_place : Address → Option ℕ → ModuleField
memory_in_place a exponent = field.Memory (record (plain_memory None 0) { kind = memory.Inline false (bytes.«String» (text a (codes "a")) ∷ []) exponent })

-- `funcref`
abbrev pub funcref : RefType
funcref = record { nullable = true; heap = heap.Abstract false abstract.Func }

-- Inline elements come after their type, and their checks are those of the module. A function with an inline import has its
-- type use and no body.
abbrev pub StandsInPlace : Type 0
StandsInPlace = (a : Address) →
    (in_module (table_in_place (record { nullable = true; heap = heap.Concrete (made_index 1) }) false (payload.Indices (made_index 2 ∷ made_index 3 ∷ [])) ∷ [])
    ≡ wanted space.Ty (made_index 1)
    ∷ wanted space.Func (made_index 2)
    ∷ wanted space.Func (made_index 3)
    ∷ unshared true
    ∷ [])
    × (in_module (table_in_place funcref true (payload.Exprs (record { nullable = true; heap = heap.Concrete (made_index 2) }) (expression_of (instr.ref_func (made_index 1) ∷ []) ∷ [])) ∷ [])
    ≡ unshared true ∷ covers form.StackSwitching true
    ∷ wanted space.Func (made_index 1)
    ∷ balanced true
    ∷ wanted space.Ty (made_index 2)
    ∷ unshared false
    ∷ [])
    × (in_module (func_alone (record nameless_func { kind = func.Import (from_m a) false; ty = record { index = Some (made_index 1); inline = None } }))
    ≡ Used OfItem (record { index = Some (made_index 1); inline = None })
    ∷ covers form.Descriptor true
    ∷ [])
    × (in_module (memory_in_place a None ∷ []) ≡ Asked (Clause 3 true) ∷ [])

-- `(elem (table ..) (offset global.get ..) (ref null ..) ref.func ..)`: its table, its offset, and then its elements,
-- expressions before their type. `(table 1 (ref null ..) ref.func ..)` and `(global (ref null ..) global.get ..)`: the
-- type, and then the initial value.
abbrev pub StandsInSegments : Type 0
StandsInSegments =
    (in_module (field.Elem (record {
      span = place 1;
      id = None;
      name = None;
      kind = elem.Active (Some (made_index 1)) (expression_of (instr.global_get (made_index 2) ∷ []));
      payload = payload.Exprs (record { nullable = true; heap = heap.Concrete (made_index 4) }) (expression_of (instr.ref_func (made_index 3) ∷ []) ∷ []);
    }) ∷ [])
    ≡ wanted space.Table (made_index 1)
    ∷ wanted space.Global (made_index 2)
    ∷ balanced true
    ∷ wanted space.Func (made_index 3)
    ∷ balanced true
    ∷ wanted space.Ty (made_index 4)
    ∷ Asked (Clause 4 true)
    ∷ [])
    × (in_module (field.Table (record {
      span = place 1;
      id = None;
      name = None;
      exports = record { names = [] };
      kind = table.Normal (record plain_table_type { elem = record { nullable = true; heap = heap.Concrete (made_index 1) } }) (Some (expression_of (instr.ref_func (made_index 2) ∷ [])));
    }) ∷ [])
    ≡ wanted space.Ty (made_index 1) ∷ unshared true ∷ wanted space.Func (made_index 2) ∷ balanced true ∷ [])
    × (in_module (field.Global (record {
      span = place 1;
      id = None;
      name = None;
      exports = record { names = [] };
      ty = record plain_global_type { ty = ref_to (made_index 1) };
      kind = global.Inline (expression_of (instr.global_get (made_index 2) ∷ []));
    }) ∷ [])
    ≡ wanted space.Ty (made_index 1) ∷ unshared true ∷ wanted space.Global (made_index 2) ∷ balanced true ∷ [])

-- the source id `$l` at n
abbrev pub label_at : Address → ℕ → Id
label_at a n = id_at a (codes "l") n

-- a function with this type use and these instructions
abbrev pub func_of : TypeUse FunctionType → List Instruction → Func
func_of u instrs = record nameless_func { ty = u; kind = func.Inline [] (expression_of instrs) }

-- `(param $p i32)`
abbrev pub param_used : Address → TypeUse FunctionType
param_used a = record { index = None; inline = Some (record { params = (Some (id_at a (codes "p") 20), None, value.I32) ∷ []; results = [] }) }

-- `(func (param $p i32) block $l local.get $p br_if $l end $l)`: a label and a local are looked up at their position. `(func
-- try $l delegate $l)`: the label is looked up after the end of the block, so that no enclosing block has it.
abbrev pub StandsInBlocks : Type 0
StandsInBlocks = (a : Address) →
    (in_module (func_alone (func_of (param_used a) (
    instr.block (block_of (Some (label_at a 30)) nothing_used)
    ∷ instr.local_get (by_id a (codes "p") 40)
    ∷ instr.br_if (index.Id (label_at a 50))
    ∷ instr.end_ (Some (label_at a 60))
    ∷ [])))
    ≡ Used OfItem (param_used a)
    ∷ Declared [] (Some (Written (codes "p"), place 20))
    ∷ Used OfBlock nothing_used
    ∷ Begins [] (Some (Written (codes "l"), place 30))
    ∷ LocalAt (record { owner = Some (param_used a); names = Some (Written (codes "p")) ∷ [] }) (by_id a (codes "p") 40)
    ∷ LabelAt (Some (Written (codes "l")) ∷ []) (index.Id (label_at a 50))
    ∷ Repeated (Some (Written (codes "l")) ∷ []) (Some (Written (codes "l"), place 60))
    ∷ Ends
    ∷ hinted true
    ∷ [])
    × (in_module (func_alone (func_of nothing_used (instr.try_ (block_of (Some (label_at a 30)) nothing_used) ∷ instr.delegate (index.Id (label_at a 40)) ∷ [])))
    ≡ Used OfItem nothing_used
    ∷ Used OfBlock nothing_used
    ∷ Begins [] (Some (Written (codes "l"), place 30))
    ∷ Ends
    ∷ LabelAt [] (index.Id (label_at a 40))
    ∷ hinted true
    ∷ [])

-- a global with this value
abbrev pub global_as : List Instruction → ModuleField
global_as instrs = field.Global (record { span = place 1; id = None; name = None; exports = record { names = [] }; ty = plain_global_type; kind = global.Inline (expression_of instrs) })

-- a block without a label
abbrev pub plain_block : Instruction
plain_block = instr.block (block_of None nothing_used)

-- The blocks of a constant expression are balanced, but those of `i32.const 0 end`, of `end block` and of a block without an
-- end are not. A function may have these. `delegate` closes a block. A generated id must not be a label or a local.
abbrev pub WellFormedBlocks : Type 0
WellFormedBlocks =
    (is_well_formed (global_as (plain_block ∷ instr.end_ None ∷ instr.i32_const (pos 0) ∷ []) ∷ []) ≡ true)
    × (is_well_formed (global_as (instr.i32_const (pos 0) ∷ instr.end_ None ∷ []) ∷ []) ≡ false)
    × (is_well_formed (global_as (instr.end_ None ∷ plain_block ∷ []) ∷ []) ≡ false)
    × (is_well_formed (global_as (plain_block ∷ []) ∷ []) ≡ false)
    × (is_well_formed (global_as (instr.try_ (block_of None nothing_used) ∷ instr.delegate (by_number 0 20) ∷ []) ∷ []) ≡ true)
    × (is_well_formed_func (func_of nothing_used (instr.end_ None ∷ plain_block ∷ [])) ≡ true)
    × (is_well_formed_func (func_of nothing_used (instr.local_get (by_number 0 20) ∷ instr.br (by_number 0 20) ∷ [])) ≡ true)
    × (is_well_formed_func (func_of nothing_used (instr.local_get (made_index 1) ∷ [])) ≡ false)
    × (is_well_formed_func (func_of nothing_used (instr.block (block_of (Some (made 1)) nothing_used) ∷ instr.br (made_index 1) ∷ [])) ≡ false)

-- Inline elements may have any type that is not shared. The page size of inline data is less than 2^64.
abbrev pub WellFormedInPlace : Type 0
WellFormedInPlace = (a : Address) →
    (is_well_formed (table_in_place (record { nullable = true; heap = heap.Abstract false abstract.Extern }) false (payload.Exprs (record { nullable = true; heap = heap.Abstract false abstract.Extern }) []) ∷ []) ≡ true)
    × (is_well_formed (table_in_place funcref true (payload.Indices []) ∷ []) ≡ true)
    × (is_well_formed (table_in_place (record { nullable = true; heap = heap.Abstract true abstract.Func }) false (payload.Indices []) ∷ []) ≡ true)
    × (is_well_formed (table_in_place funcref false (payload.Indices (made_index 1 ∷ [])) ∷ []) ≡ false)
    × (is_well_formed (memory_in_place a None ∷ []) ≡ true)
    × (is_well_formed (memory_in_place a (Some 63) ∷ []) ≡ true)
    × (is_well_formed (memory_in_place a (Some 64) ∷ []) ≡ false)

-- `i32.load` of memory 0, with an alignment that is not a power of two
abbrev pub misaligned : Instruction
misaligned = instr.Mem mem_op.i32_load (record { align = 3; offset = 0; target = target.Memory (by_number 0 30); ordering = None })

-- Each rule can fail alone. If two fail, `ill_formed` is the lesser, and if none does, it is None.
abbrev pub IllFormedClauses : Type 0
IllFormedClauses = (a : Address) →
    (ill_formed (func_alone (func_of nothing_used (misaligned ∷ []))) ≡ Some 1)
    × (ill_formed (func_alone (record nameless_func { kind = func.Inline [] (hinted_drops (hint 1 0 ∷ hint 1 1 ∷ [])) })) ≡ Some 2)
    × (ill_formed (memory_in_place a (Some 64) ∷ []) ≡ Some 3)
    × (ill_formed (elems_of None (record { nullable = true; heap = heap.Abstract false abstract.Extern }) ∷ []) ≡ Some 4)
    × (ill_formed (global_as (instr.i32_const (pos 0) ∷ instr.end_ None ∷ []) ∷ []) ≡ Some 5)
    × (ill_formed (export_field a 0 (made_index 1) ∷ []) ≡ Some 6)
    × (ill_formed (export_field a 0 (made_index 1) ∷ memory_in_place a (Some 64) ∷ global_as (plain_block ∷ []) ∷ []) ≡ Some 3)
    × (ill_formed (field.Func nameless_func ∷ memory_in_place a (Some 63) ∷ []) ≡ None)

-- a generated id as an index, at a position
abbrev pub made_index_at : ℕ → ℕ → Index
made_index_at n place_of_it = index.Id (gensym_id n (place place_of_it))

-- The first rule that fails has the position of its index, of the index before it in its field, or of its field. A segment
-- comes before its table, and the memory that is read before the one that is written.
abbrev pub FirstIllFormed : Type 0
FirstIllFormed = (a : Address) →
    (first_ill_formed (field.Func nameless_func ∷ export_field a 50 (index.Id (gensym_id 1 (place 57))) ∷ memory_in_place a (Some 64) ∷ []) ≡ Some (record { clause = 6; span = place 57 }))
    × (first_ill_formed (func_alone (func_of nothing_used (instr.call (by_number 0 25) ∷ misaligned ∷ instr.call (by_number 0 35) ∷ []))) ≡ Some (record { clause = 1; span = place 30 }))
    × (first_ill_formed (field.Func nameless_func ∷ global_as (plain_block ∷ []) ∷ field.Func nameless_func ∷ []) ≡ Some (record { clause = 5; span = place 1 }))
    × (first_ill_formed (field.Func nameless_func ∷ memory_in_place a (Some 63) ∷ []) ≡ None)
    × (first_ill_formed (func_alone (func_of nothing_used (instr.table_init (record { table = made_index_at 1 40; elem = made_index_at 2 45 }) ∷ []))) ≡ Some (record { clause = 6; span = place 45 }))
    × (first_ill_formed (func_alone (func_of nothing_used (instr.memory_copy (record { dst = made_index_at 1 40; src = made_index_at 2 45 }) ∷ []))) ≡ Some (record { clause = 6; span = place 45 }))

-- Row 27 is desugared. Fields with inline parts are not.
abbrev pub WrittenOutFields : Type 0
WrittenOutFields = (a b c d e f : Address) →
    (is_written_out (row27 a b c d e f) ≡ true)
    × (is_written_out (filled_memory a b c d e) ≡ true)
    × (is_written_out (global_of plain_global_type ∷ table_of plain_table_type ∷ []) ≡ true)
    × (is_written_out (func_alone (record nameless_func { exports = record { names = text a (codes "a") ∷ [] } })) ≡ false)
    × (is_written_out (func_alone (record nameless_func { kind = func.Import (from_m a) false })) ≡ false)
    × (is_written_out (table_in_place funcref false (payload.Indices []) ∷ []) ≡ false)
    × (is_written_out (memory_in_place a None ∷ []) ≡ false)

-- `(import "m" (item ..) (global ..))`: an import of these names that share a signature with this id
abbrev pub shared_import : Address → Option Id → List (Bor (List ℕ)) → ModuleField
shared_import a id names =
    field.Import (record {
      span = place 1;
      items = import_items.Group2 (text a (codes "m")) (record { span = place 9; id = id; name = None; kind = kind.Global (record plain_global_type { ty = ref_to (made_index 2) }) }) names;
    })

-- The id of a signature that names share is that of an item for each name. If there is no name, it is a site of its own, after
-- those of the signature.
abbrev pub StandsInSharedImports : Type 0
StandsInSharedImports = (a b : Address) →
    (items (shared_import a (Some (made 5)) [] ∷ []) ≡ [])
    × (in_module (shared_import a (Some (made 5)) [] ∷ [])
    ≡ wanted space.Ty (made_index 2) ∷ unshared true ∷ Asked (PlainId (made_mark 5)) ∷ covers form.CompactImports false ∷ [])
    × (items (shared_import a (Some (made 5)) (text b (codes "n") ∷ text b (codes "n") ∷ []) ∷ [])
    ≡ record { space = space.Global; id = Some (made_mark 5); fields = [] } ∷ record { space = space.Global; id = Some (made_mark 5); fields = [] } ∷ [])
    × (in_module (shared_import a (Some (made 5)) (text b (codes "n") ∷ text b (codes "n") ∷ []) ∷ [])
    ≡ wanted space.Ty (made_index 2) ∷ unshared true ∷ covers form.CompactImports false ∷ [])

-- The greatest generation is that of an item or of another id. A source id has 0. All ids of a module count.
abbrev pub GenerationsOfRows : Type 0
GenerationsOfRows = (a b c d e f : Address) →
    (greatest_generation (row27 a b c d e f) ≡ 0)
    × (greatest_generation (field.Ty (plain_type (Some (made 3)) 0) ∷ export_field a 0 (made_index 7) ∷ []) ≡ 7)
    × (greatest_generation (export_field a 0 (made_index 7) ∷ field.Ty (plain_type (Some (made 3)) 0) ∷ []) ≡ 7)
    × (greatest_generation (field.Ty (plain_type (Some (made 7)) 0) ∷ export_field a 0 (made_index 3) ∷ []) ≡ 7)
    × (greatest_generation [] ≡ 0)
    × (greatest_generation (shared_import a (Some (made 5)) [] ∷ []) ≡ 5)
    × (greatest_generation (shared_import a (Some (made 5)) (text b (codes "n") ∷ []) ∷ []) ≡ 5)
    × (greatest_generation (shared_import a None [] ∷ []) ≡ 2)
    × (map (λ x. generation_or_zero x.id) (items (everywhere_generated a)) ≡ 1 ∷ 14 ∷ 17 ∷ 6 ∷ [])
    × (map generation_in (checks_of (in_module (everywhere_generated a))) ≡ 3 ∷ 4 ∷ 0 ∷ 5 ∷ 0 ∷ 2 ∷ 12 ∷ 13 ∷ 0 ∷ 15 ∷ 16 ∷ 0 ∷ 18 ∷ 0 ∷ 9 ∷ 10 ∷ 19 ∷ 7 ∷ 8 ∷ 21 ∷ 22 ∷ 23 ∷ 20 ∷ 24 ∷ 25 ∷ 26 ∷ 27 ∷ 28 ∷ 29 ∷ 30 ∷ 31 ∷ 0 ∷ 11 ∷ [])

-- the unsupported forms of a function of these instructions
abbrev pub uncovered_by : List Instruction → List Form
uncovered_by instrs = uncovered_forms (func_alone (func_of (record { index = Some (by_number 0 20); inline = None }) instrs))

-- `(struct.get 0 $x)`: the field belongs to the struct type at the index.
abbrev pub StandsInAccess : Type 0
StandsInAccess = (a : Address) →
    (in_module (func_alone (func_of nothing_used (instr.struct_get (record { owner = by_number 0 20; field = by_id a (codes "x") 30 }) ∷ [])))
    ≡ Used OfItem nothing_used
    ∷ FieldAt (by_number 0 20) (by_id a (codes "x") 30)
    ∷ hinted true
    ∷ [])

-- Unsupported types, entities and instructions, each with its form. Of two forms the first in source order comes first.
abbrev pub UncoveredForms : Type 0
UncoveredForms = (a : Address) →
    (uncovered_forms (def_alone (record plain_def { shared = true })) ≡ form.Shared ∷ [])
    × (uncovered_forms (def_alone (record plain_def { descriptor = Some (by_number 0 20); describes = Some (by_number 0 20) })) ≡ form.Descriptor ∷ form.Descriptor ∷ [])
    × (uncovered_forms (def_alone (record plain_def { kind = inner.Cont (record { 0 = by_number 0 20 }) })) ≡ form.StackSwitching ∷ [])
    × (uncovered_forms (table_of (record plain_table_type { shared = true }) ∷ []) ≡ form.Shared ∷ [])
    × (uncovered_forms (func_alone (record nameless_func { kind = func.Import (from_m a) true })) ≡ form.Descriptor ∷ [])
    × (uncovered_by [] ≡ [])
    × (uncovered_by (instr.atomic_fence None ∷ instr.atomic_fence (Some ordering.SeqCst) ∷ instr.atomic_fence (Some ordering.AcqRel) ∷ []) ≡ form.Ordering ∷ [])
    × (uncovered_by (instr.ref_null (heap.Exact (by_number 0 20)) ∷ instr.suspend (by_number 0 20) ∷ []) ≡ form.Descriptor ∷ form.StackSwitching ∷ [])
    × (uncovered_by (instr.Beyond (text a (codes "i64.add128")) ∷ []) ≡ form.Beyond ∷ [])

-- The first of them has the position of its index, of the index before it in its field, or of its field.
abbrev pub FirstUncovered : Type 0
FirstUncovered =
    (first_uncovered (field.Func nameless_func ∷ table_of (record plain_table_type { shared = true }) ∷ []) ≡ Some (record { form = form.Shared; span = place 1 }))
    × (first_uncovered (func_alone (func_of nothing_used (instr.call (by_number 0 25) ∷ instr.atomic_fence (Some ordering.AcqRel) ∷ instr.suspend (by_number 0 35) ∷ []))) ≡ Some (record { form = form.Ordering; span = place 25 }))
    × (first_uncovered (func_alone (func_of nothing_used (instr.call (by_number 0 25) ∷ instr.suspend (by_number 0 35) ∷ []))) ≡ Some (record { form = form.StackSwitching; span = place 35 }))
    × (first_uncovered (func_alone (func_of nothing_used (instr.call (by_number 0 25) ∷ []))) ≡ None)
