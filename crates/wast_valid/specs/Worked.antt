-- Bodies, each with its first violation or none, that compute.
use Rattle.std.specs.Prelude.{◌≡◌, ℕ, true, false, List, [], ◌∷◌, Some, None}
use Rattle.wast_valid_machine.specs.declared.types.Ty.{Ty}
use Rattle.wast_valid_machine.specs.declared.types.Ty.TheVariants as t
use Rattle.wast_valid_machine.specs.declared.types.Heap.TheVariants as heap
use Rattle.wast_valid_machine.specs.declared.types.Shape.TheVariants as shape
use Rattle.wast_valid_machine.specs.declared.types.Def.{Def}
use Rattle.wast_valid_machine.specs.declared.state.Sig.{Sig}
use Rattle.wast_valid_machine.specs.declared.state.Sig.TheVariants as sig
use Rattle.wast_valid_machine.specs.declared.state.Context.{Context}
use Rattle.wast_valid_machine.specs.declared.state.Cause.{Cause}
use Rattle.wast_valid_machine.specs.declared.state.Cause.TheVariants as cause
use Rattle.wast_base.specs.declared.plain.I32Op.TheVariants as i32
use Rattle.wast_base.specs.declared.plain.BareOp.TheVariants as bare
use Rattle.wast_base.specs.declared.plain.Plain.TheVariants as plain
use Rattle.wast_base.specs.declared.mem_ops.MemOp.TheVariants as mem
use Rattle.wast_valid.specs.declared.instrs.Instr.{Instr}
use Rattle.wast_valid.specs.declared.instrs.Instr.TheVariants as i
use Rattle.wast_valid.specs.Bodies.{first_invalid_body}

abbrev pub func : (params results : List Ty) → Def
func params results = record { shape = shape.Func (record { params = params; results = results }); parent = None }

abbrev pub maybe : ℕ → Ty
maybe n = t.Ref (record { nullable = true; heap = heap.Defined n })

abbrev pub sure : ℕ → Ty
sure n = t.Ref (record { nullable = false; heap = heap.Defined n })

-- 0: (func), 1: (func (param i32 i32) (result i32)), 2: (sub (struct (field i32))), 3: (sub 2 (struct (field i32) (field i64))),
-- 4: (func (param i32) (result i32 i64))
abbrev pub types : List Def
types = func [] []
    ∷ func (t.I32 ∷ t.I32 ∷ []) (t.I32 ∷ [])
    ∷ record { shape = shape.Record (record { ty = t.I32; packed = false; mutable = false } ∷ []); parent = None }
    ∷ record { shape = shape.Record (record { ty = t.I32; packed = false; mutable = false } ∷ record { ty = t.I64; packed = false; mutable = false } ∷ []); parent = Some 2 }
    ∷ func (t.I32 ∷ []) (t.I32 ∷ t.I64 ∷ []) ∷ []

-- Functions 0 and 1 of types 0 and 1, of which 1 is declared, a table of functions, a memory, an immutable global of type i32, and the locals i32 (a parameter), i64 and
-- (ref 2).
abbrev pub context : Context
context = record {
  types = types;
  funcs = 0 ∷ 1 ∷ [];
  tables = record { elem = record { nullable = true; heap = heap.Funcs }; is_64 = false } ∷ [];
  memories = record { is_64 = false } ∷ [];
  elems = [];
  datas = 0;
  globals = record { ty = t.I32; mutable = false } ∷ [];
  locals = t.I32 ∷ t.I64 ∷ sure 2 ∷ [];
  params = 1;
  declared = false ∷ true ∷ [];
}

-- the body of a function without results, or with one
abbrev pub Valid : Sig → List Instr → Type 0
Valid b is = first_invalid_body context b is ≡ None

abbrev pub Fails : Sig → List Instr → ℕ → Cause → Type 0
Fails b is n e = first_invalid_body context b is ≡ Some (record { instr = n; cause = e })

-- i32.const 1  local.get 0  i32.add
abbrev pub Adds : Type 0
Adds = Valid (sig.One t.I32) ((i.Const t.I32) ∷ (i.local_get 0) ∷ (i.Plain (plain.I32 i32.i32_add)) ∷ [])

-- local.get 1, where the result is i32: found at the end, instruction 1
abbrev pub WrongResult : Type 0
WrongResult = Fails (sig.One t.I32) ((i.local_get 1) ∷ []) 1 (cause.Mismatch t.I32 t.I64)

-- i32.const 1  i32.add
abbrev pub NoOperand : Type 0
NoOperand = Fails (sig.One t.I32) ((i.Const t.I32) ∷ (i.Plain (plain.I32 i32.i32_add)) ∷ []) 1 (cause.Missing t.I32)

-- i32.const 1, in a function without results
abbrev pub LeftOver : Type 0
LeftOver = Fails sig.Empty ((i.Const t.I32) ∷ []) 1 (cause.Surplus 1)

-- unreachable  i32.add: the stack is polymorphic
abbrev pub AnyOperand : Type 0
AnyOperand = Valid (sig.One t.I32) ((i.Plain (plain.Bare bare.unreachable)) ∷ (i.Plain (plain.I32 i32.i32_add)) ∷ [])

-- unreachable  local.get 1  i32.add: but not of this type
abbrev pub SomeOperand : Type 0
SomeOperand = Fails (sig.One t.I32) ((i.Plain (plain.Bare bare.unreachable)) ∷ (i.local_get 1) ∷ (i.Plain (plain.I32 i32.i32_add)) ∷ []) 2 (cause.Mismatch t.I32 t.I64)

-- i32.const 1  loop (type 4)  br 0  end  drop: the label of a loop has the types of its start
abbrev pub LoopLabel : Type 0
LoopLabel = Valid (sig.One t.I32) ((i.Const t.I32) ∷ (i.loop_ (sig.Func 4)) ∷ (i.br 0) ∷ i.end_ ∷ (i.Plain (plain.Bare bare.drop)) ∷ [])

-- i32.const 1  block (type 4)  br 0  end: the label of a block has those of its end
abbrev pub BlockLabel : Type 0
BlockLabel = Fails sig.Empty ((i.Const t.I32) ∷ (i.block (sig.Func 4)) ∷ (i.br 0) ∷ i.end_ ∷ []) 2 (cause.Mismatch t.I64 t.I32)

-- i32.const 1  if (result i32)  i32.const 1  end
abbrev pub NoElse : Type 0
NoElse = Fails (sig.One t.I32) ((i.Const t.I32) ∷ (i.if_ (sig.One t.I32)) ∷ (i.Const t.I32) ∷ i.end_ ∷ []) 3 (cause.Missing t.I32)

-- the same with an else
abbrev pub WithElse : Type 0
WithElse = Valid (sig.One t.I32) ((i.Const t.I32) ∷ (i.if_ (sig.One t.I32)) ∷ (i.Const t.I32) ∷ i.else_ ∷ (i.Plain (plain.Bare bare.unreachable)) ∷ i.end_ ∷ [])

-- i32.const 1  i32.const 1  br_table 0 0: both labels are that of the body
abbrev pub Tables : Type 0
Tables = Valid (sig.One t.I32) ((i.Const t.I32) ∷ (i.Const t.I32) ∷ (i.br_table (0 ∷ []) 0) ∷ [])

-- block  i32.const 1  i32.const 1  br_table 0 1  end: label 1 has one type, label 0 has none
abbrev pub UnevenTables : Type 0
UnevenTables = Fails (sig.One t.I32) ((i.block sig.Empty) ∷ (i.Const t.I32) ∷ (i.Const t.I32) ∷ (i.br_table (0 ∷ []) 1) ∷ i.end_ ∷ []) 3 (cause.Arity 1 0)

-- i32.const 1  i32.const 1  call 1
abbrev pub Calls : Type 0
Calls = Valid (sig.One t.I32) ((i.Const t.I32) ∷ (i.Const t.I32) ∷ (i.call 1) ∷ [])

-- i32.const 1  i32.const 1  i32.const 1  call_indirect 0 (type 1)
abbrev pub Indirect : Type 0
Indirect = Valid (sig.One t.I32) ((i.Const t.I32) ∷ (i.Const t.I32) ∷ (i.Const t.I32) ∷ (i.call_indirect 1 0) ∷ [])

-- unreachable  select, and then any reference: the result is of unknown type
abbrev pub Selects : Type 0
Selects = Valid (sig.One t.I32) ((i.Plain (plain.Bare bare.unreachable)) ∷ i.select ∷ [])

-- ref.null func  ref.null func  i32.const 1  select
abbrev pub SelectsReference : Type 0
SelectsReference = Fails sig.Empty ((i.ref_null heap.Funcs) ∷ (i.ref_null heap.Funcs) ∷ (i.Const t.I32) ∷ i.select ∷ (i.Plain (plain.Bare bare.drop)) ∷ []) 3 (cause.NotNumeric (t.Ref (record { nullable = true; heap = heap.Funcs })))

-- local.get 2, of type (ref 2)
abbrev pub Unset : Type 0
Unset = Fails sig.Empty ((i.local_get 2) ∷ (i.Plain (plain.Bare bare.drop)) ∷ []) 0 (cause.Unset 2)

-- block  i32.const 1  struct.new 2  local.set 2  end  local.get 2: it is not set after the block
abbrev pub SetInBlock : Type 0
SetInBlock = Fails sig.Empty ((i.block sig.Empty) ∷ (i.Const t.I32) ∷ (i.struct_new 2) ∷ (i.local_set 2) ∷ i.end_ ∷ (i.local_get 2) ∷ (i.Plain (plain.Bare bare.drop)) ∷ []) 5 (cause.Unset 2)

-- ref.null 3  struct.get 2 0: type 3 extends type 2
abbrev pub Subtype : Type 0
Subtype = Valid (sig.One t.I32) ((i.ref_null (heap.Defined 3)) ∷ (i.struct_get 2 0) ∷ [])

-- ref.null 2  struct.get 3 0
abbrev pub NoSubtype : Type 0
NoSubtype = Fails (sig.One t.I32) ((i.ref_null (heap.Defined 2)) ∷ (i.struct_get 3 0) ∷ []) 1 (cause.Mismatch (maybe 3) (maybe 2))

-- ref.null any  ref.cast (ref null 3)  br_on_null 0 in a body without results
abbrev pub Casts : Type 0
Casts = Valid sig.Empty ((i.ref_null heap.Any) ∷ (i.ref_cast (record { nullable = true; heap = heap.Defined 3 })) ∷ (i.br_on_null 0) ∷ (i.Plain (plain.Bare bare.drop)) ∷ [])

-- i32.const 1  global.set 0
abbrev pub Immutable : Type 0
Immutable = Fails sig.Empty ((i.Const t.I32) ∷ (i.global_set 0) ∷ []) 1 (cause.Immutable 0)

-- ref.func 0
abbrev pub Undeclared : Type 0
Undeclared = Fails sig.Empty ((i.ref_func 0) ∷ (i.Plain (plain.Bare bare.drop)) ∷ []) 0 (cause.Undeclared 0)

-- end  nop
abbrev pub TooManyEnds : Type 0
TooManyEnds = Fails sig.Empty (i.end_ ∷ []) 1 cause.NoBlock

-- i32.const 1  i64.load8_u align=2: one byte is accessed
abbrev pub TooAligned : Type 0
TooAligned = Fails (sig.One t.I64) ((i.Const t.I32) ∷ (i.Mem mem.i64_load8_u (record { memory = 0; align = 2; offset = 0 })) ∷ []) 1 (cause.Align 1 2)

-- i32.const 1  i32.const 1  i32.store offset=4
abbrev pub Stores : Type 0
Stores = Valid sig.Empty ((i.Const t.I32) ∷ (i.Const t.I32) ∷ (i.Mem mem.i32_store (record { memory = 0; align = 4; offset = 4 })) ∷ [])

-- i32.const 1  i32.const 1  return_call 1, in a function with the result i32
abbrev pub TailCalls : Type 0
TailCalls = Valid (sig.One t.I32) ((i.Const t.I32) ∷ (i.Const t.I32) ∷ (i.return_call 1) ∷ [])

-- the same in a function without results
abbrev pub OtherResults : Type 0
OtherResults = Fails sig.Empty ((i.Const t.I32) ∷ (i.Const t.I32) ∷ (i.return_call 1) ∷ []) 2 (cause.Results 1)

-- ref.null 1  br_on_non_null 0, in a function without results
abbrev pub NoReferenceLabel : Type 0
NoReferenceLabel = Fails sig.Empty ((i.ref_null (heap.Defined 1)) ∷ (i.br_on_non_null 0) ∷ []) 1 (cause.NoReference 0)
