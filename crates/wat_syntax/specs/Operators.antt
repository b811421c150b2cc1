-- Plain instructions whose immediates are indices alone (text format: instructions): what each word means. tools/ops writes this
-- file.
use Rattle.wat_syntax.specs.Tree.{Index, Instruction}
use Rattle.wat_syntax.specs.Tree.instr
use Rattle.wast_base.specs.declared.index_ops.IndexOp.{IndexOp}
use Rattle.wast_base.specs.declared.index_ops.IndexOp.TheVariants as one
use Rattle.wat_tokens.specs.declared.words.UncoveredOp.{UncoveredOp}
use Rattle.wat_tokens.specs.declared.words.UncoveredOp.TheVariants as other
use Rattle.wat_tokens.specs.declared.words.PairOp.{PairOp}
use Rattle.wat_tokens.specs.declared.words.PairOp.TheVariants as two

-- One index. plaininstr ::= 'local.get' x:localidx ⇒ local.get x | 'global.get' x:globalidx ⇒ global.get x | .. (text format: variable
-- instructions). plaininstr ::= 'table.get' x:tableidx ⇒ table.get x | .. (text format: table instructions).
-- plaininstr ::= 'memory.size' x:memidx ⇒ memory.size x | .. (text format: memory instructions).
-- plaininstr ::= 'ref.func' x:funcidx ⇒ ref.func x (text format: reference instructions).
-- plaininstr ::= 'br' l:labelidx ⇒ br l | 'call' x:funcidx ⇒ call x | .. (text format: control instructions).
-- plaininstr ::= 'struct.new' x:typeidx ⇒ struct.new x | 'array.get' x:typeidx ⇒ array.get x | .. (text format: aggregate instructions).
abbrev pub index_instr : IndexOp → Index → Instruction
index_instr one.Catch x = instr.catch x
index_instr one.Throw x = instr.throw x
index_instr one.Rethrow x = instr.rethrow x
index_instr one.Br x = instr.br x
index_instr one.BrIf x = instr.br_if x
index_instr one.Call x = instr.call x
index_instr one.ReturnCall x = instr.return_call x
index_instr one.CallRef x = instr.call_ref x
index_instr one.ReturnCallRef x = instr.return_call_ref x
index_instr one.Delegate x = instr.delegate x
index_instr one.LocalGet x = instr.local_get x
index_instr one.LocalSet x = instr.local_set x
index_instr one.LocalTee x = instr.local_tee x
index_instr one.GlobalGet x = instr.global_get x
index_instr one.GlobalSet x = instr.global_set x
index_instr one.TableGet x = instr.table_get (record { dst = x })
index_instr one.TableSet x = instr.table_set (record { dst = x })
index_instr one.MemorySize x = instr.memory_size (record { mem = x })
index_instr one.MemoryGrow x = instr.memory_grow (record { mem = x })
index_instr one.RefFunc x = instr.ref_func x
index_instr one.BrOnNull x = instr.br_on_null x
index_instr one.BrOnNonNull x = instr.br_on_non_null x
index_instr one.StructNew x = instr.struct_new x
index_instr one.StructNewDefault x = instr.struct_new_default x
index_instr one.ArrayNew x = instr.array_new x
index_instr one.ArrayNewDefault x = instr.array_new_default x
index_instr one.ArrayGet x = instr.array_get x
index_instr one.ArrayGetS x = instr.array_get_s x
index_instr one.ArrayGetU x = instr.array_get_u x
index_instr one.ArraySet x = instr.array_set x
index_instr one.ArrayFill x = instr.array_fill (record { array = x })
index_instr one.DataDrop x = instr.data_drop x
index_instr one.MemoryFill x = instr.memory_fill (record { mem = x })
index_instr one.ElemDrop x = instr.elem_drop x
index_instr one.TableGrow x = instr.table_grow (record { dst = x })
index_instr one.TableSize x = instr.table_size (record { dst = x })
index_instr one.TableFill x = instr.table_fill (record { dst = x })

-- one index, of an instruction that is not in version 3.0
abbrev pub uncovered_instr : UncoveredOp → Index → Instruction
uncovered_instr other.struct_new_desc x = instr.struct_new_desc x
uncovered_instr other.struct_new_default_desc x = instr.struct_new_default_desc x
uncovered_instr other.ref_get_desc x = instr.ref_get_desc x
uncovered_instr other.cont_new x = instr.cont_new x
uncovered_instr other.suspend x = instr.suspend x
uncovered_instr other.memory_discard x = instr.memory_discard (record { mem = x })

-- Two indices, in the order of the text. plaininstr ::= 'table.copy' x:tableidx y:tableidx ⇒ table.copy x y
-- | 'table.init' x:tableidx y:elemidx ⇒ table.init x y (text format: table instructions).
-- plaininstr ::= 'memory.copy' x:memidx y:memidx ⇒ memory.copy x y | 'memory.init' x:memidx y:dataidx ⇒ memory.init x y
-- (text format: memory instructions). plaininstr ::= 'struct.get' x:typeidx i:fieldidx ⇒ struct.get x i | .. (text format: aggregate
-- instructions).
abbrev pub pair_instr : PairOp → Index → Index → Instruction
pair_instr two.struct_get x y = instr.struct_get (record { owner = x; field = y })
pair_instr two.struct_get_s x y = instr.struct_get_s (record { owner = x; field = y })
pair_instr two.struct_get_u x y = instr.struct_get_u (record { owner = x; field = y })
pair_instr two.struct_set x y = instr.struct_set (record { owner = x; field = y })
pair_instr two.array_new_data x y = instr.array_new_data (record { array = x; data_idx = y })
pair_instr two.array_new_elem x y = instr.array_new_elem (record { array = x; elem_idx = y })
pair_instr two.array_copy x y = instr.array_copy (record { dest_array = x; src_array = y })
pair_instr two.array_init_data x y = instr.array_init_data (record { array = x; segment = y })
pair_instr two.array_init_elem x y = instr.array_init_elem (record { array = x; segment = y })
pair_instr two.memory_init x y = instr.memory_init (record { segment = y; mem = x })
pair_instr two.memory_copy x y = instr.memory_copy (record { src = y; dst = x })
pair_instr two.table_init x y = instr.table_init (record { elem = y; table = x })
pair_instr two.table_copy x y = instr.table_copy (record { dst = x; src = y })
pair_instr two.cont_bind x y = instr.cont_bind (record { argument_index = x; result_index = y })
pair_instr two.switch x y = instr.switch (record { type_index = x; tag_index = y })
