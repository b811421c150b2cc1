-- The words of the text format that mean something of their own: instructions and keywords (text format: instructions, tokens).
-- tools/ops writes this file.
--
--   word_named (codes "i32.add")     Some (word.Plain (plain.I32 i32.i32_add))
--   word_named (codes "func")        Some (word.Key key.Func)
--   word_named (codes "i32.sum")     None
--
-- The texts of most instructions are in the rows of wat_grammar. A load or a store has its natural alignment there, which the text may
-- leave out.
use Rattle.std.specs.Prelude.{ℕ, nat_eq, Bool, not, List, [], ◌∷◌, ◌++◌, map, filter, find, Option, unwrap_or, bytes_eq, codes}
use Rattle.std.specs.List.{list_any}
use Rattle.std.specs.Map.{lookup}
use Rattle.wat_grammar.specs.Each.{each}
use Rattle.wat_grammar.specs.InstrRows.{row_of_plain, row_of_mem, row_of_lane, row_of_mem_lane, row_of_index, plains}
use Rattle.wast_base.specs.contracts.mem_ops.MemOp as mems
use Rattle.wast_base.specs.contracts.lane_ops.LaneOp as lanes
use Rattle.wast_base.specs.contracts.lane_ops.MemLaneOp as mem_lanes
use Rattle.wast_base.specs.contracts.index_ops.IndexOp as indices
use Rattle.wast_base.specs.contracts.index_ops.IndexOpPartialEq.TheImpl as index_ops
use Rattle.wast_base.specs.declared.index_ops.IndexOp.{IndexOp}
use Rattle.wast_base.specs.declared.index_ops.IndexOp.TheVariants as index
use Rattle.wat_tokens.specs.declared.words.Alignment.{Alignment}
use Rattle.wat_tokens.specs.declared.words.Alignment.TheVariants as alignment
use Rattle.wat_tokens.specs.declared.words.IndexOrZeroOp.{IndexOrZeroOp}
use Rattle.wat_tokens.specs.declared.words.IndexOrZeroOp.TheVariants as index_or_zero
use Rattle.wat_tokens.specs.declared.words.UncoveredOp.TheVariants as uncovered
use Rattle.wat_tokens.specs.declared.words.PairOp.TheVariants as pair
use Rattle.wat_tokens.specs.declared.words.BlockOp.TheVariants as block
use Rattle.wat_tokens.specs.declared.words.OwnOp.TheVariants as own
use Rattle.wat_tokens.specs.declared.words.AtomicOp.TheVariants as atomic
use Rattle.wat_tokens.specs.declared.words.Key.TheVariants as key
use Rattle.wat_tokens.specs.declared.words.Word.{Word}
use Rattle.wat_tokens.specs.declared.words.Word.TheVariants as word

-- the bytes of an alignment
abbrev pub alignment_bytes : Alignment → ℕ
alignment_bytes alignment.One = 1
alignment_bytes alignment.Two = 2
alignment_bytes alignment.Four = 4
alignment_bytes alignment.Eight = 8
alignment_bytes alignment.Sixteen = 16

-- the alignment of so many bytes
abbrev pub alignment_of : ℕ → Alignment
alignment_of n =
    unwrap_or (find (λ a. nat_eq (alignment_bytes a) n) (alignment.One ∷ alignment.Two ∷ alignment.Four ∷ alignment.Eight ∷ alignment.Sixteen ∷ [])) alignment.One

-- an instruction whose index may be left out, as one whose index is written
abbrev pub op_of : IndexOrZeroOp → IndexOp
op_of index_or_zero.table_get = index.TableGet
op_of index_or_zero.table_set = index.TableSet
op_of index_or_zero.memory_size = index.MemorySize
op_of index_or_zero.memory_grow = index.MemoryGrow
op_of index_or_zero.memory_fill = index.MemoryFill
op_of index_or_zero.table_grow = index.TableGrow
op_of index_or_zero.table_size = index.TableSize
op_of index_or_zero.table_fill = index.TableFill

-- the instructions whose index may be left out
abbrev pub or_zeros : List IndexOrZeroOp
or_zeros = index_or_zero.table_get ∷ index_or_zero.table_set ∷ index_or_zero.memory_size ∷ index_or_zero.memory_grow ∷ index_or_zero.memory_fill ∷
    index_or_zero.table_grow ∷ index_or_zero.table_size ∷ index_or_zero.table_fill ∷ []

-- whether the index of an instruction may be left out
abbrev pub may_be_left_out : IndexOp → Bool
may_be_left_out op = list_any (λ o. index_ops.ghosts.eq (op_of o) op) or_zeros

-- words, by the text and the word of each thing of a list
abbrev pub texts : {A : Type 0} → (A → List ℕ) → (A → Word) → List A → List (List ℕ × Word)
texts text meaning things = map (λ x. (text x, meaning x)) things

-- each text with the word that it is
unfoldable pub words : List (List ℕ × Word)
words =
    texts (λ op. (row_of_plain op).0) word.Plain plains
    ++ texts (λ op. (row_of_mem op).0) (λ op. word.Mem op (alignment_of (row_of_mem op).2)) (each mems.enum)
    ++ texts (λ op. (row_of_lane op).0) word.Lane (each lanes.enum)
    ++ texts (λ op. (row_of_mem_lane op).0) (λ op. word.MemLane op (alignment_of (row_of_mem_lane op).2)) (each mem_lanes.enum)
    ++ texts (λ op. (row_of_index op).0) word.Index (filter (λ op. not (may_be_left_out op)) (each indices.enum))
    ++ texts (λ o. (row_of_index (op_of o)).0) word.IndexOrZero or_zeros
    ++ texts (λ t. codes "global.atomic." ++ t) (λ t. word.Atomic atomic.Global) (codes "get" ∷ codes "set" ∷ codes "rmw.add" ∷ codes "rmw.sub" ∷
    codes "rmw.and" ∷ codes "rmw.or" ∷ codes "rmw.xor" ∷ codes "rmw.xchg" ∷ codes "rmw.cmpxchg" ∷ [])
    ++ texts (λ t. codes "table.atomic." ++ t) (λ t. word.Atomic atomic.Table) (codes "get" ∷ codes "set" ∷ codes "rmw.xchg" ∷ codes "rmw.cmpxchg" ∷ [])
    ++ texts (λ t. codes "struct.atomic." ++ t) (λ t. word.Atomic atomic.Struct) (codes "get" ∷ codes "get_s" ∷ codes "get_u" ∷ codes "set" ∷ codes "rmw.add"
    ∷ codes "rmw.sub" ∷ codes "rmw.and" ∷ codes "rmw.or" ∷ codes "rmw.xor" ∷ codes "rmw.xchg" ∷ codes "rmw.cmpxchg" ∷ [])
    ++ texts (λ t. codes "array.atomic." ++ t) (λ t. word.Atomic atomic.Array) (codes "get" ∷ codes "get_s" ∷ codes "get_u" ∷ codes "set" ∷ codes "rmw.add" ∷
    codes "rmw.sub" ∷ codes "rmw.and" ∷ codes "rmw.or" ∷ codes "rmw.xor" ∷ codes "rmw.xchg" ∷ codes "rmw.cmpxchg" ∷ [])
    ++ texts (λ t. t) (λ t. word.Beyond) (codes "i64.add128" ∷ codes "i64.sub128" ∷ codes "i64.mul_wide_s" ∷ codes "i64.mul_wide_u" ∷ codes "ref.i31_shared" ∷
    [])
    ++ (codes "block", word.Block block.block)
    ∷ (codes "loop", word.Block block.loop_)
    ∷ (codes "if", word.Block block.if_)
    ∷ (codes "else", word.Own own.else_)
    ∷ (codes "try", word.Block block.try_)
    ∷ (codes "end", word.Own own.end_)
    ∷ (codes "br_table", word.Own own.br_table)
    ∷ (codes "call_indirect", word.Own own.call_indirect)
    ∷ (codes "return_call_indirect", word.Own own.return_call_indirect)
    ∷ (codes "select", word.Own own.select)
    ∷ (codes "try_table", word.Block block.try_table)
    ∷ (codes "i32.const", word.Own own.i32_const)
    ∷ (codes "i64.const", word.Own own.i64_const)
    ∷ (codes "f32.const", word.Own own.f32_const)
    ∷ (codes "f64.const", word.Own own.f64_const)
    ∷ (codes "ref.null", word.Own own.ref_null)
    ∷ (codes "struct.get", word.Pair pair.struct_get)
    ∷ (codes "struct.get_s", word.Pair pair.struct_get_s)
    ∷ (codes "struct.get_u", word.Pair pair.struct_get_u)
    ∷ (codes "struct.set", word.Pair pair.struct_set)
    ∷ (codes "array.new_fixed", word.Own own.array_new_fixed)
    ∷ (codes "array.new_data", word.Pair pair.array_new_data)
    ∷ (codes "array.new_elem", word.Pair pair.array_new_elem)
    ∷ (codes "array.copy", word.Pair pair.array_copy)
    ∷ (codes "array.init_data", word.Pair pair.array_init_data)
    ∷ (codes "array.init_elem", word.Pair pair.array_init_elem)
    ∷ (codes "ref.test", word.Own own.ref_test)
    ∷ (codes "ref.cast", word.Own own.ref_cast)
    ∷ (codes "br_on_cast", word.Own own.br_on_cast)
    ∷ (codes "br_on_cast_fail", word.Own own.br_on_cast_fail)
    ∷ (codes "memory.init", word.OneOrTwo pair.memory_init)
    ∷ (codes "memory.copy", word.NoneOrTwo pair.memory_copy)
    ∷ (codes "table.init", word.OneOrTwo pair.table_init)
    ∷ (codes "table.copy", word.NoneOrTwo pair.table_copy)
    ∷ (codes "v128.const", word.Own own.v128_const)
    ∷ (codes "i8x16.shuffle", word.Own own.i8x16_shuffle)
    ∷ (codes "atomic.fence", word.Own own.atomic_fence)
    ∷ (codes "struct.new_desc", word.Uncovered uncovered.struct_new_desc)
    ∷ (codes "struct.new_default_desc", word.Uncovered uncovered.struct_new_default_desc)
    ∷ (codes "ref.get_desc", word.Uncovered uncovered.ref_get_desc)
    ∷ (codes "cont.new", word.Uncovered uncovered.cont_new)
    ∷ (codes "cont.bind", word.Pair pair.cont_bind)
    ∷ (codes "suspend", word.Uncovered uncovered.suspend)
    ∷ (codes "switch", word.Pair pair.switch)
    ∷ (codes "memory.discard", word.UncoveredOrZero uncovered.memory_discard)
    ∷ (codes "resume", word.Own own.resume)
    ∷ (codes "resume_throw", word.Own own.resume_throw)
    ∷ (codes "resume_throw_ref", word.Own own.resume_throw_ref)
    ∷ (codes "br_on_cast_desc_eq", word.Own own.br_on_cast_desc_eq)
    ∷ (codes "br_on_cast_desc_eq_fail", word.Own own.br_on_cast_desc_eq_fail)
    ∷ (codes "ref.cast_desc_eq", word.Own own.ref_cast_desc_eq)
    ∷ (codes "module", word.Key key.Module)
    ∷ (codes "binary", word.Key key.Binary)
    ∷ (codes "quote", word.Key key.Quote)
    ∷ (codes "type", word.Key key.Ty)
    ∷ (codes "rec", word.Key key.Rec)
    ∷ (codes "sub", word.Key key.Sub)
    ∷ (codes "final", word.Key key.Final)
    ∷ (codes "shared", word.Key key.Shared)
    ∷ (codes "descriptor", word.Key key.Descriptor)
    ∷ (codes "describes", word.Key key.Describes)
    ∷ (codes "exact", word.Key key.Exact)
    ∷ (codes "func", word.Key key.Func)
    ∷ (codes "struct", word.Key key.Struct)
    ∷ (codes "array", word.Key key.Array)
    ∷ (codes "cont", word.Key key.Cont)
    ∷ (codes "field", word.Key key.Field)
    ∷ (codes "mut", word.Key key.Mut)
    ∷ (codes "param", word.Key key.Param)
    ∷ (codes "result", word.Key key.Result)
    ∷ (codes "local", word.Key key.Local)
    ∷ (codes "import", word.Key key.Import)
    ∷ (codes "export", word.Key key.Export)
    ∷ (codes "table", word.Key key.Table)
    ∷ (codes "memory", word.Key key.Memory)
    ∷ (codes "global", word.Key key.Global)
    ∷ (codes "tag", word.Key key.Tag)
    ∷ (codes "elem", word.Key key.Elem)
    ∷ (codes "data", word.Key key.Data)
    ∷ (codes "start", word.Key key.Start)
    ∷ (codes "item", word.Key key.Item)
    ∷ (codes "offset", word.Key key.Offset)
    ∷ (codes "declare", word.Key key.Declare)
    ∷ (codes "then", word.Key key.Then)
    ∷ (codes "do", word.Key key.Do)
    ∷ (codes "on", word.Key key.On)
    ∷ (codes "catch_ref", word.Key key.CatchRef)
    ∷ (codes "catch_all_ref", word.Key key.CatchAllRef)
    ∷ (codes "pagesize", word.Key key.Pagesize)
    ∷ (codes "before", word.Key key.Before)
    ∷ (codes "after", word.Key key.After)
    ∷ (codes "first", word.Key key.First)
    ∷ (codes "last", word.Key key.Last)
    ∷ (codes "code", word.Key key.Code)
    ∷ (codes "i8", word.Key key.I8)
    ∷ (codes "i16", word.Key key.I16)
    ∷ (codes "i32", word.Key key.I32)
    ∷ (codes "i64", word.Key key.I64)
    ∷ (codes "f32", word.Key key.F32)
    ∷ (codes "f64", word.Key key.F64)
    ∷ (codes "v128", word.Key key.V128)
    ∷ (codes "i8x16", word.Key key.I8x16)
    ∷ (codes "i16x8", word.Key key.I16x8)
    ∷ (codes "i32x4", word.Key key.I32x4)
    ∷ (codes "i64x2", word.Key key.I64x2)
    ∷ (codes "f32x4", word.Key key.F32x4)
    ∷ (codes "f64x2", word.Key key.F64x2)
    ∷ (codes "ref", word.Key key.Ref)
    ∷ (codes "null", word.Key key.Null)
    ∷ (codes "extern", word.Key key.Extern)
    ∷ (codes "exn", word.Key key.Exn)
    ∷ (codes "noexn", word.Key key.Noexn)
    ∷ (codes "any", word.Key key.Any)
    ∷ (codes "eq", word.Key key.Eq)
    ∷ (codes "nofunc", word.Key key.Nofunc)
    ∷ (codes "noextern", word.Key key.Noextern)
    ∷ (codes "none", word.Key key.None)
    ∷ (codes "i31", word.Key key.I31)
    ∷ (codes "nocont", word.Key key.Nocont)
    ∷ (codes "funcref", word.Key key.Funcref)
    ∷ (codes "externref", word.Key key.Externref)
    ∷ (codes "exnref", word.Key key.Exnref)
    ∷ (codes "anyref", word.Key key.Anyref)
    ∷ (codes "eqref", word.Key key.Eqref)
    ∷ (codes "structref", word.Key key.Structref)
    ∷ (codes "arrayref", word.Key key.Arrayref)
    ∷ (codes "i31ref", word.Key key.I31ref)
    ∷ (codes "nullref", word.Key key.Nullref)
    ∷ (codes "nullfuncref", word.Key key.Nullfuncref)
    ∷ (codes "nullexternref", word.Key key.Nullexternref)
    ∷ (codes "nullexnref", word.Key key.Nullexnref)
    ∷ (codes "contref", word.Key key.Contref)
    ∷ (codes "nullcontref", word.Key key.Nullcontref)
    ∷ (codes "seq_cst", word.Key key.SeqCst)
    ∷ (codes "acq_rel", word.Key key.AcqRel)
    ∷ (codes "language", word.Key key.Language)
    ∷ (codes "sdk", word.Key key.Sdk)
    ∷ (codes "processed-by", word.Key key.ProcessedBy)
    ∷ (codes "mem-info", word.Key key.MemInfo)
    ∷ (codes "needed", word.Key key.Needed)
    ∷ (codes "export-info", word.Key key.ExportInfo)
    ∷ (codes "import-info", word.Key key.ImportInfo)
    ∷ (codes "runtime-path", word.Key key.RuntimePath)
    ∷ (codes "target-arch", word.Key key.TargetArch)
    ∷ (codes "binding-weak", word.Key key.BindingWeak)
    ∷ (codes "binding-local", word.Key key.BindingLocal)
    ∷ (codes "visibility-hidden", word.Key key.VisibilityHidden)
    ∷ (codes "undefined", word.Key key.Undefined)
    ∷ (codes "exported", word.Key key.Exported)
    ∷ (codes "explicit-name", word.Key key.ExplicitName)
    ∷ (codes "no-strip", word.Key key.NoStrip)
    ∷ (codes "tls", word.Key key.Tls)
    ∷ (codes "absolute", word.Key key.Absolute)
    ∷ []

-- the word of a text in a table
abbrev pub found_in : List ℕ → List (List ℕ × Word) → Option Word
found_in name rows = lookup (λ text. bytes_eq text name) rows

-- the word that a text is, if it means something of its own
abbrev pub word_named : List ℕ → Option Word
word_named name = found_in name words
