-- Rules of well-formedness for single parts of a module: page sizes, branch hints, and segments without a table (text format:
-- memories, element segments; binary format: element section; branch hinting).
--
-- Each rule is a test that a clause of `Sites` uses. A module that is built by hand may break them.
--
--   page size 2^63; 2^64                                     allowed; not allowed: it does not fit in 64 bits
--   3 instructions, hints on 0 and 2; on 2 and 2; on 3       allowed; not allowed; not allowed
--   (elem (i32.const 0) externref ..)                        not allowed without a table
use Rattle.std.specs.Prelude.{ℕ, ◌+◌, nat_le, nat_lt, Bool, true, false, not, ◌&&◌, List, [], ◌∷◌, length, Option, Some, None}
use Rattle.wast_tree_nodes.specs.Tree.{Index, HeapType, AbstractHeapType, RefType, BranchHint, Expression, ElemKind, ElemPayload}
use Rattle.wast_tree_nodes.specs.Tree.heap
use Rattle.wast_tree_nodes.specs.Tree.abstract
use Rattle.wast_tree_nodes.specs.Tree.elem
use Rattle.wast_tree_nodes.specs.Tree.payload

-- Whether a page of 2 to this many bytes has a size that fits in 64 bits. Without an exponent a page has 65,536 bytes.
abbrev pub is_page_exponent : Option ℕ → Bool
is_page_exponent None = true
is_page_exponent (Some n) = nat_lt n 64

-- Whether a branch hint is on one of `count` instructions, not before number `first`, with the value 0 or 1.
abbrev pub is_hint_in_order : ℕ → ℕ → BranchHint → Bool
is_hint_in_order count first h = nat_le first h.instr_index && (nat_lt h.instr_index count && nat_lt h.value 2)

-- the same of a list of branch hints, each on a later instruction than the one before it
abbrev pub stand_from : ℕ → ℕ → List BranchHint → Bool
stand_from count first [] = true
stand_from count first (h ∷ hs) = is_hint_in_order count first h && stand_from count (h.instr_index + 1) hs

-- whether the branch hints of a body are on its instructions, in increasing order
abbrev pub hints_stand : Expression → Bool
hints_stand e = stand_from (length e.instrs) 0 e.branch_hints

-- whether an abstract heap type is `func`
abbrev pub is_func : AbstractHeapType → Bool
is_func abstract.Func = true
is_func abstract.Extern = false
is_func abstract.Exn = false
is_func abstract.NoExn = false
is_func abstract.Any = false
is_func abstract.Eq = false
is_func abstract.Struct = false
is_func abstract.Array = false
is_func abstract.NoFunc = false
is_func abstract.NoExtern = false
is_func abstract.None = false
is_func abstract.I31 = false
is_func abstract.Cont = false
is_func abstract.NoCont = false

-- whether a heap type is `func`, not shared
abbrev pub is_func_heap : HeapType → Bool
is_func_heap (heap.Abstract shared ty) = not shared && is_func ty
is_func_heap (heap.Concrete i) = false
is_func_heap (heap.Exact i) = false

-- whether a reference type is `funcref`
abbrev pub is_funcref : RefType → Bool
is_funcref r = r.nullable && is_func_heap r.heap

-- whether elements are functions or references of type `funcref`
abbrev pub holds_functions : ElemPayload → Bool
holds_functions (payload.Indices is) = true
holds_functions (payload.Exprs ty es) = is_funcref ty

-- whether there is an index, or else the value of `other`
abbrev pub is_some_or : Option Index → Bool → Bool
is_some_or None other = other
is_some_or (Some i) other = true

-- Whether an active segment without a table has functions as elements, because the binary format has no form of it with
-- another type (element section).
abbrev pub is_segment_type_allowed : ElemKind → ElemPayload → Bool
is_segment_type_allowed elem.Passive p = true
is_segment_type_allowed elem.Declared p = true
is_segment_type_allowed (elem.Active table offset) p = is_some_or table (holds_functions p)
