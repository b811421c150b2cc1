-- One instruction (validation: instructions): the state after it, or why it is invalid.
--
-- Operands are popped from the top of the stack, so the last operand comes first.
use Rattle.std.specs.Prelude.{ℕ, Bool, true, false, not, ◌&&◌, ◌==◌, nat_le, nat_lt, List, [], ◌∷◌, length, map, reverse, Option, Some, None, Result, Ok, Err, slice_get}
use Rattle.wast_base.specs.declared.plain.Plain.{Plain}
use Rattle.wast_base.specs.declared.plain.Plain.TheVariants as plain
use Rattle.wast_base.specs.declared.plain.BareOp.{BareOp}
use Rattle.wast_base.specs.declared.plain.BareOp.TheVariants as bare
use Rattle.wast_base.specs.declared.plain.RefOp.{RefOp}
use Rattle.wast_base.specs.declared.plain.RefOp.TheVariants as refs
use Rattle.wast_base.specs.declared.mem_ops.MemOp.{MemOp}
use Rattle.wast_valid_machine.specs.declared.types.Ty.{Ty}
use Rattle.wast_valid_machine.specs.declared.types.Ty.TheVariants as t
use Rattle.wast_valid_machine.specs.declared.types.Heap.{Heap}
use Rattle.wast_valid_machine.specs.declared.types.Heap.TheVariants as heap
use Rattle.wast_valid_machine.specs.declared.types.RefTy.{RefTy}
use Rattle.wast_valid_machine.specs.declared.state.Sig.{Sig}
use Rattle.wast_valid_machine.specs.declared.state.Sig.TheVariants as sig
use Rattle.wast_valid_machine.specs.declared.state.Kind.{Kind}
use Rattle.wast_valid_machine.specs.declared.state.Kind.TheVariants as kind
use Rattle.wast_valid_machine.specs.declared.state.State.{State}
use Rattle.wast_valid_machine.specs.declared.state.Context.{Context}
use Rattle.wast_valid_machine.specs.declared.state.Cause.{Cause}
use Rattle.wast_valid_machine.specs.declared.state.Cause.TheVariants as cause
use Rattle.wast_valid_machine.specs.Checks.{bind, check, known}
use Rattle.wast_valid_machine.specs.Types.{Types, heap_matches, ref_matches, is_numeric}
use Rattle.wast_valid_machine.specs.Machine.{tys_of, pop_or, expect, expect_all, push, cut_off, reference_in}
use Rattle.wast_valid_machine.specs.Control.{converts, func_type, begins, label, branch, may_branch, branch_table, returns, calls, tail_calls, ends_block, turns_block}
use Rattle.wast_valid_machine.specs.Lookups.{is_set, mark, is_declared, top_of, heap_known, ty_known, maybe, sure, struct_type}
use Rattle.wast_valid.specs.declared.rows.Row.{Row}
use Rattle.wast_valid.specs.declared.rows.Row.TheVariants as row
use Rattle.wast_valid.specs.declared.rows.Access.{Access}
use Rattle.wast_valid.specs.declared.rows.Access.TheVariants as access
use Rattle.wast_valid.specs.declared.rows.LaneUse.{LaneUse}
use Rattle.wast_valid.specs.declared.rows.LaneAccess.{LaneAccess}
use Rattle.wast_valid.specs.declared.instrs.MemUse.{MemUse}
use Rattle.wast_valid.specs.declared.instrs.Instr.{Instr}
use Rattle.wast_valid.specs.declared.instrs.Instr.TheVariants as i
use Rattle.wast_valid.specs.Rows.{row_of, row_of_ref, access_of, lane_access_of, lane_use_of}

-- operands and the result of a row
unfoldable pub applies : Types → Row → State → Result State Cause
applies ts (row.Unary a r) s = bind (expect ts a s) (λ s. Ok (push r s))
applies ts (row.Binary a b r) s = bind (expect ts b s) (λ s. bind (expect ts a s) (λ s. Ok (push r s)))
applies ts (row.Ternary a b c r) s = bind (expect ts c s) (λ s. bind (expect ts b s) (λ s. bind (expect ts a s) (λ s. Ok (push r s))))

-- an instruction that has a row
unfoldable pub by_row : Types → Option Row → State → Result State Cause
by_row ts None s = Err cause.Unsupported
by_row ts (Some r) s = applies ts r s

-- `ref.is_null` and `ref.as_non_null`
unfoldable pub tests_null : State → Result State Cause
tests_null s = bind (pop_or cause.MissingAny s) (λ p. bind (reference_in p) (λ r. Ok (push t.I32 r.1)))

unfoldable pub removes_null : State → Result State Cause
removes_null s = bind (pop_or cause.MissingAny s) (λ p. bind (reference_in p) (λ r. Ok (push (sure r.0.heap) r.1)))

-- `drop`
unfoldable pub drops : State → Result State Cause
drops s = bind (pop_or cause.MissingAny s) (λ p. Ok p.rest)

-- an instruction whose name has no dot
unfoldable pub bare_step : Types → BareOp → State → Result State Cause
bare_step ts bare.unreachable s = Ok (cut_off s)
bare_step ts bare.nop s = Ok s
bare_step ts bare.return_ s = returns ts s
bare_step ts bare.drop s = drops s
bare_step ts op s = Err cause.Unsupported

-- an instruction whose name begins with `ref`
unfoldable pub ref_step : Types → RefOp → State → Result State Cause
ref_step ts refs.ref_is_null s = tests_null s
ref_step ts refs.ref_as_non_null s = removes_null s
ref_step ts op s = by_row ts (row_of_ref op) s

-- an instruction without immediates
unfoldable pub without_immediates : Types → Plain → State → Result State Cause
without_immediates ts (plain.Bare op) s = bare_step ts op s
without_immediates ts (plain.Ref op) s = ref_step ts op s
without_immediates ts op s = by_row ts (row_of op) s

-- the type of an address or a table index
unfoldable pub address : Bool → Ty
address true = t.I64
address false = t.I32

-- whether an offset is an address of a memory
unfoldable pub offset_fits : Bool → ℕ → Bool
offset_fits true offset = true
offset_fits false offset = nat_lt offset 0x100000000

-- the number of bytes of an access
unfoldable pub bytes_of : Access → ℕ
bytes_of (access.Load ty n) = n
bytes_of (access.Store ty n) = n

-- a memory argument of an access of `n` bytes: the type of the address
unfoldable pub use_of : Bool → ℕ → MemUse → Result Ty Cause
use_of is_64 n m = bind (check (nat_le m.align n) (cause.Align n m.align) m) (λ m.
    check (offset_fits is_64 m.offset) (cause.Offset m.offset) (address is_64))

unfoldable pub memory_use : Context → ℕ → MemUse → Result Ty Cause
memory_use c n m = bind (known (cause.Memory m.memory) (slice_get c.memories m.memory)) (λ mem. use_of mem.is_64 n m)

-- the operands and results of an access
unfoldable pub moves : Types → Ty → Access → State → Result State Cause
moves ts at (access.Load ty n) s = bind (expect ts at s) (λ s. Ok (push ty s))
moves ts at (access.Store ty n) s = bind (expect ts ty s) (λ s. expect ts at s)

-- a load or a store
unfoldable pub accesses : Context → Option Access → MemUse → State → Result State Cause
accesses c None m s = Err cause.Unsupported
accesses c (Some a) m s = bind (memory_use c (bytes_of a) m) (λ at. moves c.types at a s)

-- a load or a store of a lane: of a load, the vector is an operand too
unfoldable pub lane_moves : Types → Ty → Access → State → Result State Cause
lane_moves ts at (access.Load ty n) s = bind (expect ts t.V128 s) (λ s. bind (expect ts at s) (λ s. Ok (push t.V128 s)))
lane_moves ts at (access.Store ty n) s = bind (expect ts t.V128 s) (λ s. expect ts at s)

unfoldable pub lane_accesses : Context → LaneAccess → MemUse → ℕ → State → Result State Cause
lane_accesses c a m l s = bind (memory_use c (bytes_of a.access) m) (λ at. bind (check (nat_lt l a.lanes) (cause.Lane l) s) (λ s. lane_moves c.types at a.access s))

-- an instruction on a lane
unfoldable pub on_lane : Types → LaneUse → ℕ → State → Result State Cause
on_lane ts u l s = bind (check (nat_lt l u.lanes) (cause.Lane l) s) (λ s. applies ts u.row s)

-- `i8x16.shuffle`, with the first lane that is not below 32
unfoldable pub shuffles : Types → Option ℕ → State → Result State Cause
shuffles ts (Some l) s = Err (cause.Lane l)
shuffles ts None s = applies ts (row.Binary t.V128 t.V128 t.V128) s

-- whether two operands of `select` have the same type
unfoldable pub same_numeric : Ty → Ty → Bool
same_numeric t.Unknown b = true
same_numeric a t.Unknown = true
same_numeric t.I32 t.I32 = true
same_numeric t.I64 t.I64 = true
same_numeric t.F32 t.F32 = true
same_numeric t.F64 t.F64 = true
same_numeric t.V128 t.V128 = true
same_numeric a b = false

-- the type of two operands of the same type
unfoldable pub joined : Ty → Ty → Ty
joined t.Unknown b = b
joined a b = a

unfoldable pub selects : Types → State → Result State Cause
selects ts s = bind (expect ts t.I32 s) (λ s. bind (pop_or cause.MissingAny s) (λ p. bind (pop_or cause.MissingAny p.rest) (λ q.
    bind (check (is_numeric p.ty) (cause.NotNumeric p.ty) s) (λ s. bind (check (is_numeric q.ty) (cause.NotNumeric q.ty) s) (λ s.
    check (same_numeric p.ty q.ty) (cause.Different q.ty p.ty) (push (joined p.ty q.ty) q.rest))))))

unfoldable pub selects_typed : Types → Ty → State → Result State Cause
selects_typed ts ty s = bind (ty_known ts ty s) (λ s. bind (expect ts t.I32 s) (λ s. bind (expect ts ty s) (λ s. bind (expect ts ty s) (λ s. Ok (push ty s)))))

-- the type of a block refers to types of the module
unfoldable pub sig_known : Types → Sig → State → Result State Cause
sig_known ts (sig.One ty) s = ty_known ts ty s
sig_known ts b s = Ok s

unfoldable pub opens : Types → Kind → Sig → State → Result State Cause
opens ts k b s = bind (sig_known ts b s) (λ s. begins ts k b s)

unfoldable pub opens_if : Types → Sig → State → Result State Cause
opens_if ts b s = bind (expect ts t.I32 s) (λ s. opens ts kind.If b s)

unfoldable pub branches_if : Types → ℕ → State → Result State Cause
branches_if ts n s = bind (expect ts t.I32 s) (λ s. may_branch ts n s)

unfoldable pub branches_on_null : Types → ℕ → State → Result State Cause
branches_on_null ts n s = bind (label s n) (λ l. bind (pop_or cause.MissingAny s) (λ p. bind (reference_in p) (λ r.
    bind (converts ts l l r.1) (λ s. Ok (push (sure r.0.heap) s)))))

-- The last type of the label is a reference, which the operand matches if it is not null.
unfoldable pub branches_on_non_null : Types → ℕ → State → Result State Cause
branches_on_non_null ts n s = bind (label s n) (λ l. bind (check (not (length (tys_of ts l) == 0)) (cause.NoReference n) s) (λ s.
    bind (pop_or cause.MissingAny s) (λ p. bind (reference_in p) (λ r. bind (converts ts l l (push (sure r.0.heap) r.1)) (λ s. drops s)))))

-- the type of the function that is called
unfoldable pub callee : Context → ℕ → Result ℕ Cause
callee c x = known (cause.Function x) (slice_get c.funcs x)

unfoldable pub calls_one : Context → ℕ → State → Result State Cause
calls_one c x s = bind (callee c x) (λ n. calls c.types n s)

unfoldable pub tail_calls_one : Context → ℕ → State → Result State Cause
tail_calls_one c x s = bind (callee c x) (λ n. tail_calls c.types n s)

-- the function reference that is called
unfoldable pub takes_callee : Types → ℕ → State → Result State Cause
takes_callee ts n s = bind (func_type ts n) (λ n. expect ts (maybe (heap.Defined n)) s)

unfoldable pub calls_ref : Types → ℕ → State → Result State Cause
calls_ref ts n s = bind (takes_callee ts n s) (λ s. calls ts n s)

unfoldable pub tail_calls_ref : Types → ℕ → State → Result State Cause
tail_calls_ref ts n s = bind (takes_callee ts n s) (λ s. tail_calls ts n s)

-- the table index of an indirect call
unfoldable pub takes_index : Context → (n x : ℕ) → State → Result State Cause
takes_index c n x s = bind (known (cause.Table x) (slice_get c.tables x)) (λ r.
    bind (check (heap_matches c.types r.elem.heap heap.Funcs) (cause.NotFuncs x) s) (λ s.
    bind (func_type c.types n) (λ n. expect c.types (address r.is_64) s)))

unfoldable pub calls_indirect : Context → (n x : ℕ) → State → Result State Cause
calls_indirect c n x s = bind (takes_index c n x s) (λ s. calls c.types n s)

unfoldable pub tail_calls_indirect : Context → (n x : ℕ) → State → Result State Cause
tail_calls_indirect c n x s = bind (takes_index c n x s) (λ s. tail_calls c.types n s)

-- locals
unfoldable pub gets_local : Context → ℕ → State → Result State Cause
gets_local c x s = bind (known (cause.Local x) (slice_get c.locals x)) (λ ty. check (is_set c s x ty) (cause.Unset x) (push ty s))

unfoldable pub sets_local : Context → ℕ → State → Result State Cause
sets_local c x s = bind (known (cause.Local x) (slice_get c.locals x)) (λ ty. bind (expect c.types ty s) (λ s. Ok (mark c x ty s)))

unfoldable pub tees_local : Context → ℕ → State → Result State Cause
tees_local c x s = bind (known (cause.Local x) (slice_get c.locals x)) (λ ty. bind (expect c.types ty s) (λ s. Ok (push ty (mark c x ty s))))

-- globals
unfoldable pub gets_global : Context → ℕ → State → Result State Cause
gets_global c x s = bind (known (cause.Global x) (slice_get c.globals x)) (λ g. Ok (push g.ty s))

unfoldable pub sets_global : Context → ℕ → State → Result State Cause
sets_global c x s = bind (known (cause.Global x) (slice_get c.globals x)) (λ g. bind (check g.mutable (cause.Immutable x) s) (λ s. expect c.types g.ty s))

-- three operands
unfoldable pub takes_three : Types → (a b c : Ty) → State → Result State Cause
takes_three ts a b c s = bind (expect ts c s) (λ s. bind (expect ts b s) (λ s. expect ts a s))

-- tables
unfoldable pub gets_table : Context → ℕ → State → Result State Cause
gets_table c x s = bind (known (cause.Table x) (slice_get c.tables x)) (λ r. applies c.types (row.Unary (address r.is_64) (t.Ref r.elem)) s)

unfoldable pub sets_table : Context → ℕ → State → Result State Cause
sets_table c x s = bind (known (cause.Table x) (slice_get c.tables x)) (λ r. bind (expect c.types (t.Ref r.elem) s) (λ s. expect c.types (address r.is_64) s))

unfoldable pub sizes_table : Context → ℕ → State → Result State Cause
sizes_table c x s = bind (known (cause.Table x) (slice_get c.tables x)) (λ r. Ok (push (address r.is_64) s))

unfoldable pub grows_table : Context → ℕ → State → Result State Cause
grows_table c x s = bind (known (cause.Table x) (slice_get c.tables x)) (λ r.
    applies c.types (row.Binary (t.Ref r.elem) (address r.is_64) (address r.is_64)) s)

unfoldable pub fills_table : Context → ℕ → State → Result State Cause
fills_table c x s = bind (known (cause.Table x) (slice_get c.tables x)) (λ r.
    takes_three c.types (address r.is_64) (t.Ref r.elem) (address r.is_64) s)

-- the number of items that are copied has the smaller type
unfoldable pub copies_table : Context → (x y : ℕ) → State → Result State Cause
copies_table c x y s = bind (known (cause.Table x) (slice_get c.tables x)) (λ dst. bind (known (cause.Table y) (slice_get c.tables y)) (λ src.
    bind (check (ref_matches c.types src.elem dst.elem) (cause.Elements dst.elem src.elem) s) (λ s.
    takes_three c.types (address dst.is_64) (address src.is_64) (address (dst.is_64 && src.is_64)) s)))

unfoldable pub inits_table : Context → (x y : ℕ) → State → Result State Cause
inits_table c x y s = bind (known (cause.Table x) (slice_get c.tables x)) (λ dst. bind (known (cause.Elem y) (slice_get c.elems y)) (λ src.
    bind (check (ref_matches c.types src dst.elem) (cause.Elements dst.elem src) s) (λ s.
    takes_three c.types (address dst.is_64) t.I32 t.I32 s)))

unfoldable pub drops_elem : Context → ℕ → State → Result State Cause
drops_elem c x s = bind (known (cause.Elem x) (slice_get c.elems x)) (λ r. Ok s)

-- memories
unfoldable pub sizes_memory : Context → ℕ → State → Result State Cause
sizes_memory c x s = bind (known (cause.Memory x) (slice_get c.memories x)) (λ m. Ok (push (address m.is_64) s))

unfoldable pub grows_memory : Context → ℕ → State → Result State Cause
grows_memory c x s = bind (known (cause.Memory x) (slice_get c.memories x)) (λ m. applies c.types (row.Unary (address m.is_64) (address m.is_64)) s)

unfoldable pub fills_memory : Context → ℕ → State → Result State Cause
fills_memory c x s = bind (known (cause.Memory x) (slice_get c.memories x)) (λ m. takes_three c.types (address m.is_64) t.I32 (address m.is_64) s)

unfoldable pub copies_memory : Context → (x y : ℕ) → State → Result State Cause
copies_memory c x y s = bind (known (cause.Memory x) (slice_get c.memories x)) (λ dst. bind (known (cause.Memory y) (slice_get c.memories y)) (λ src.
    takes_three c.types (address dst.is_64) (address src.is_64) (address (dst.is_64 && src.is_64)) s))

unfoldable pub drops_data : Context → ℕ → State → Result State Cause
drops_data c x s = check (nat_lt x c.datas) (cause.Data x) s

unfoldable pub inits_memory : Context → (x y : ℕ) → State → Result State Cause
inits_memory c x y s = bind (known (cause.Memory x) (slice_get c.memories x)) (λ m. bind (drops_data c y s) (λ s.
    takes_three c.types (address m.is_64) t.I32 t.I32 s))

-- references
unfoldable pub makes_null : Types → Heap → State → Result State Cause
makes_null ts h s = bind (heap_known ts h s) (λ s. Ok (push (maybe h) s))

unfoldable pub makes_ref : Context → ℕ → State → Result State Cause
makes_ref c x s = bind (callee c x) (λ n. bind (check (is_declared c x) (cause.Undeclared x) s) (λ s. Ok (push (sure (heap.Defined n)) s)))

unfoldable pub casts : Types → RefTy → Ty → State → Result State Cause
casts ts r ty s = bind (heap_known ts r.heap s) (λ s. bind (expect ts (maybe (top_of ts r.heap)) s) (λ s. Ok (push ty s)))

unfoldable pub makes_struct : Types → ℕ → State → Result State Cause
makes_struct ts n s = bind (struct_type ts n) (λ fs. bind (expect_all ts (reverse (map (λ f. f.ty) fs)) s) (λ s. Ok (push (sure (heap.Defined n)) s)))

unfoldable pub reads_field : Types → (n k : ℕ) → State → Result State Cause
reads_field ts n k s = bind (struct_type ts n) (λ fs. bind (known (cause.Field k) (slice_get fs k)) (λ f.
    bind (check (not f.packed) (cause.Packed k) s) (λ s. applies ts (row.Unary (maybe (heap.Defined n)) f.ty) s)))

-- one instruction
unfoldable pub step : Context → Instr → State → Result State Cause
step c i.Unsupported s = Err cause.Unsupported
step c (i.Plain op) s = without_immediates c.types op s
step c (i.Mem op m) s = accesses c (access_of op) m s
step c (i.MemLane op m l) s = lane_accesses c (lane_access_of op) m l s
step c (i.Lane op l) s = on_lane c.types (lane_use_of op) l s
step c (i.Const ty) s = Ok (push ty s)
step c (i.i8x16_shuffle l) s = shuffles c.types l s
step c i.select s = selects c.types s
step c (i.select_typed ty) s = selects_typed c.types ty s
step c (i.select_many n) s = Err (cause.SelectTypes n)
step c (i.block b) s = opens c.types kind.Block b s
step c (i.loop_ b) s = opens c.types kind.Loop b s
step c (i.if_ b) s = opens_if c.types b s
step c i.else_ s = turns_block c.types s
step c i.end_ s = ends_block c.types s
step c (i.br n) s = branch c.types n s
step c (i.br_if n) s = branches_if c.types n s
step c (i.br_table ns n) s = branch_table c.types ns n s
step c (i.br_on_null n) s = branches_on_null c.types n s
step c (i.br_on_non_null n) s = branches_on_non_null c.types n s
step c (i.call x) s = calls_one c x s
step c (i.call_ref n) s = calls_ref c.types n s
step c (i.call_indirect n x) s = calls_indirect c n x s
step c (i.return_call x) s = tail_calls_one c x s
step c (i.return_call_ref n) s = tail_calls_ref c.types n s
step c (i.return_call_indirect n x) s = tail_calls_indirect c n x s
step c (i.local_get x) s = gets_local c x s
step c (i.local_set x) s = sets_local c x s
step c (i.local_tee x) s = tees_local c x s
step c (i.global_get x) s = gets_global c x s
step c (i.global_set x) s = sets_global c x s
step c (i.table_get x) s = gets_table c x s
step c (i.table_set x) s = sets_table c x s
step c (i.table_size x) s = sizes_table c x s
step c (i.table_grow x) s = grows_table c x s
step c (i.table_fill x) s = fills_table c x s
step c (i.table_copy x y) s = copies_table c x y s
step c (i.table_init x y) s = inits_table c x y s
step c (i.elem_drop x) s = drops_elem c x s
step c (i.memory_size x) s = sizes_memory c x s
step c (i.memory_grow x) s = grows_memory c x s
step c (i.memory_fill x) s = fills_memory c x s
step c (i.memory_copy x y) s = copies_memory c x y s
step c (i.memory_init x y) s = inits_memory c x y s
step c (i.data_drop x) s = drops_data c x s
step c (i.ref_null h) s = makes_null c.types h s
step c (i.ref_func x) s = makes_ref c x s
step c (i.ref_test r) s = casts c.types r t.I32 s
step c (i.ref_cast r) s = casts c.types r (t.Ref r) s
step c (i.struct_new n) s = makes_struct c.types n s
step c (i.struct_get n k) s = reads_field c.types n k s
