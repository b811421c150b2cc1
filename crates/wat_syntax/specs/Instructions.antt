-- Plain instructions and their immediates (text format: instructions).
use Rattle.std.specs.Prelude.{ℕ, zero, suc, ℤ, ◌&&◌, ◌||◌, not, Bool, true, false, if◌then◌else◌, List, [], ◌∷◌, Option, None, Some, option_map, is_some, codes}
use Rattle.std.specs.Int.{is_power_of_two}
use Rattle.std.specs.Float.{binary32, binary64}
use Rattle.std.specs.Borrow.{Bor}
use Rattle.wat_syntax.specs.Tree.{Index, Ordering, MemArg, MemArgOrdering, LaneArg, LoadOrStoreLane, StructAccess, CallIndirect}
use Rattle.wat_syntax.specs.Tree.{BrOnCast, ResumeTable, Handle, TryTableCatch, BlockType, F32, F64, V128Const, Instruction}
use Rattle.wat_syntax.specs.Tree.instr
use Rattle.wat_syntax.specs.Tree.ordering
use Rattle.wat_syntax.specs.Tree.target
use Rattle.wat_syntax.specs.Tree.v128
use Rattle.wat_syntax.specs.Tree.handle as handler
use Rattle.wat_syntax.specs.Tree.bare
use Rattle.wat_syntax.specs.Tree.plain
use Rattle.wat_syntax.specs.Tree.caught
use Rattle.wast_base.specs.declared.ids.Index.TheVariants as by
use Rattle.wast_base.specs.declared.index_ops.IndexOp.TheVariants as one
use Rattle.wast_tree_nodes.specs.declared.immediates.MemArgOrdering.TheVariants as access
use Rattle.wat_grammar.specs.Parts.{◌>>=◌, after as text_after}
use Rattle.wat_grammar.specs.Integers.{uN, integer, signed_of}
use Rattle.wat_grammar.specs.Floats.{fN}
use Rattle.wat_tokens.specs.declared.words.Key.TheVariants as key
use Rattle.wat_tokens.specs.declared.words.Word.{Word}
use Rattle.wat_tokens.specs.declared.words.Word.TheVariants as word
use Rattle.wat_tokens.specs.declared.words.OwnOp.{OwnOp}
use Rattle.wat_tokens.specs.declared.words.OwnOp.TheVariants as own
use Rattle.wat_tokens.specs.declared.words.PairOp.TheVariants as two
use Rattle.wat_tokens.specs.declared.words.AtomicOp.{AtomicOp}
use Rattle.wat_tokens.specs.declared.words.AtomicOp.TheVariants as atomic
use Rattle.wat_tokens.specs.declared.words.BlockOp.{BlockOp}
use Rattle.wat_tokens.specs.declared.words.BlockOp.TheVariants as opens
use Rattle.wat_tokens.specs.declared.tokens.Token.{Token}
use Rattle.wat_tokens.specs.Words.{alignment_bytes, op_of}
use Rattle.wat_tokens.specs.declared.tokens.Token.TheVariants as token
use Rattle.wat_syntax.specs.Tokens.{Toks, Parse, peek, after, count, word_of, is_lparen, lparen, rparen, keyword, form, is_form, optional, many}
use Rattle.wat_syntax.specs.Values.{number, u32, is_number, id, name_annotation, index, optional_index, index_or_zero}
use Rattle.wat_syntax.specs.Types.{heaptype, reftype, indices, all_results, typeuse}
use Rattle.wat_syntax.specs.Operators.{index_instr, uncovered_instr, pair_instr}

-- u8
abbrev pub u8 : Toks → Parse ℕ
u8 toks = number (uN 8) toks

-- iN: the number that N bits stand for, with a sign (text format: integers)
abbrev pub signed_number : ℕ → Toks → Parse ℤ
signed_number N toks = number (λ text. option_map (signed_of N) (integer N text)) toks

-- f32 and f64: their bits (text format: floating-point)
abbrev pub f32 : Toks → Parse F32
f32 toks = number (fN binary32) toks >>= λ b. Some (record { bits = b.0 }, b.1)

abbrev pub f64 : Toks → Parse F64
f64 toks = number (fN binary64) toks >>= λ b. Some (record { bits = b.0 }, b.1)

-- laneidx ::= x:u8 ⇒ x (text format: vector instructions)
abbrev pub laneidx : Toks → Parse LaneArg
laneidx toks = u8 toks >>= λ l. Some (record { lane = l.0 }, l.1)

-- so many parts, one after another
abbrev pub times : {T : Type 0} → ℕ → (Toks → Parse T) → Toks → Parse (List T)
times zero part toks = Some ([], toks)
times (suc n) part toks = part toks >>= λ x. times n part x.1 >>= λ xs. Some (x.0 ∷ xs.0, xs.1)

-- the lanes of a shape, one after another
abbrev pub lanes : {T : Type 0} → (List T → V128Const) → ℕ → (Toks → Parse T) → Toks → Parse V128Const
lanes shape n part toks = times n part toks >>= λ ls. Some (shape ls.0, ls.1)

-- 'v128.const' 'i8x16' (n:i8)^16 ⇒ .. | .. (text format: vector instructions): without the word
abbrev pub f64x2 : Toks → Parse V128Const
f64x2 toks = keyword key.F64x2 toks >>= λ t. lanes v128.F64x2 2 f64 t

abbrev pub f32x4 : Toks → Parse V128Const
f32x4 toks = elim (keyword key.F32x4 toks) [ Some t ↦ lanes v128.F32x4 4 f32 t | None ↦ f64x2 toks ]

abbrev pub i64x2 : Toks → Parse V128Const
i64x2 toks = elim (keyword key.I64x2 toks) [ Some t ↦ lanes v128.I64x2 2 (signed_number 64) t | None ↦ f32x4 toks ]

abbrev pub i32x4 : Toks → Parse V128Const
i32x4 toks = elim (keyword key.I32x4 toks) [ Some t ↦ lanes v128.I32x4 4 (signed_number 32) t | None ↦ i64x2 toks ]

abbrev pub i16x8 : Toks → Parse V128Const
i16x8 toks = elim (keyword key.I16x8 toks) [ Some t ↦ lanes v128.I16x8 8 (signed_number 16) t | None ↦ i32x4 toks ]

abbrev pub v128const : Toks → Parse V128Const
v128const toks = elim (keyword key.I8x16 toks) [ Some t ↦ lanes v128.I8x16 16 (signed_number 8) t | None ↦ i16x8 toks ]

-- i8x16.shuffle i:laneidx^16 (text format: vector instructions): without the word
abbrev pub shuffle : Toks → Parse Instruction
shuffle toks = times 16 u8 toks >>= λ ls. Some (instr.i8x16_shuffle (record { lanes = ls.0 }), ls.1)

-- two indices: a type and a field of it (text format: aggregate instructions)
abbrev pub struct_access : Toks → Parse StructAccess
struct_access toks = index toks >>= λ x. index x.1 >>= λ y. Some (record { owner = x.0; field = y.0 }, y.1)

-- 'seq_cst' | 'acq_rel' | ε (shared-everything threads)
abbrev pub memory_ordering : Toks → Parse (Option Ordering)
memory_ordering toks = elim (keyword key.SeqCst toks) [
  | Some rest ↦ Some (Some ordering.SeqCst, rest)
  | None ↦ elim (keyword key.AcqRel toks) [ Some rest ↦ Some (Some ordering.AcqRel, rest) | None ↦ Some (None, toks) ]
]

-- the text of a token after `offset=` or `align=`
abbrev pub assigned : List ℕ → Option Token → Option (List ℕ)
assigned name (Some (token.Other text)) = text_after name text.now
assigned name t = None

abbrev pub assignment : List ℕ → Toks → Parse (List ℕ)
assignment name toks = assigned name (peek 0 toks) >>= λ text. Some (text, after toks)

-- offset ::= 'offset=' n:u64 ⇒ n | ε ⇒ 0 (text format: memory instructions)
abbrev pub offset : Toks → Parse ℕ
offset toks = elim (assignment (codes "offset=") toks) [
  | Some digits ↦ uN 64 digits.0 >>= λ n. Some (n, digits.1)
  | None ↦ Some (0, toks)
]

-- align_N ::= 'align=' m:u64 ⇒ m, if m is a power of two | ε ⇒ N
abbrev pub align : ℕ → Toks → Parse ℕ
align N toks = elim (assignment (codes "align=") toks) [
  | Some digits ↦ uN 64 digits.0 >>= λ n. if is_power_of_two n then Some (n, digits.1) else None
  | None ↦ Some (N, toks)
]

-- memarg_N ::= n:offset m:align_N, of a memory and with an ordering
abbrev pub memarg_of : ℕ → Index → Option MemArgOrdering → Toks → Parse MemArg
memarg_of N x o toks = offset toks >>= λ n. align N n.1 >>= λ a.
    Some (record { align = a.0; offset = n.0; target = target.Memory x; ordering = o }, a.1)

-- x:memidx m:memarg_N: the memory may be left out, and an ordering is before it
abbrev pub memarg : ℕ → Toks → Parse MemArg
memarg N toks = memory_ordering toks >>= λ o. index_or_zero o.1 >>= λ x. memarg_of N x.0 (option_map access.Op o.0) x.1

-- whether a token is `offset=..` or `align=..`
abbrev pub is_assigned : Option Token → Bool
is_assigned t = is_some (assigned (codes "offset=") t) || is_some (assigned (codes "align=") t)

-- One number alone is that of a lane, and not that of a memory.
abbrev pub is_lane_alone : Toks → Bool
is_lane_alone toks = (is_number (peek 0 toks) && not (is_number (peek 1 toks))) && not (is_assigned (peek 1 toks))

-- x:memidx m:memarg_N i:laneidx
abbrev pub lane_memarg : ℕ → Toks → Parse LoadOrStoreLane
lane_memarg N toks = elim (is_lane_alone toks) [
  | true ↦ laneidx toks >>= λ l. Some
      (record { memarg = record { align = N; offset = 0; target = target.Memory (by.Num 0 toks.before); ordering = None }; lane = l.0 }, l.1)
  | false ↦ memarg N toks >>= λ m. laneidx m.1 >>= λ l. Some (record { memarg = m.0; lane = l.0 }, l.1)
]

-- One index or two, of which the first is 0 if it is left out: `memory.init 1` is `memory.init 0 1` (text format: memory
-- instructions: abbreviations).
abbrev pub one_or_two : Toks → Parse (Index × Index)
one_or_two toks = index toks >>= λ x. optional_index x.1 >>= λ y. elim y.0 [
  | Some second ↦ Some ((x.0, second), y.1)
  | None ↦ Some ((by.Num 0 toks.before, x.0), y.1)
]

-- two indices, which are 0 if they are left out: `memory.copy` is `memory.copy 0 0`
abbrev pub none_or_two : Toks → Parse (Index × Index)
none_or_two toks = optional_index toks >>= λ x. elim x.0 [
  | Some first ↦ index x.1 >>= λ y. Some ((first, y.0), y.1)
  | None ↦ Some ((by.Num 0 toks.before, by.Num 0 toks.before), x.1)
]

-- select t*:result* (text format: parametric instructions): without the word
abbrev pub select : Toks → Parse Instruction
select toks = elim (is_form key.Result toks) [
  | true ↦ all_results toks >>= λ ts. Some (instr.select (record { tys = Some ts.0 }), ts.1)
  | false ↦ Some (instr.select (record { tys = None }), toks)
]

-- array.new_fixed x:typeidx n:u32 (text format: aggregate instructions): without the word
abbrev pub array_new_fixed : Toks → Parse Instruction
array_new_fixed toks = index toks >>= λ x. u32 x.1 >>= λ n. Some (instr.array_new_fixed (record { array = x.0; length = n.0 }), n.1)

-- the last of some labels, and those before it
abbrev pub last : Index → List Index → Index
last x [] = x
last x (y ∷ ys) = last y ys

abbrev pub before_last : Index → List Index → List Index
before_last x [] = []
before_last x (y ∷ ys) = x ∷ before_last y ys

-- br_table l*:labelidx* l:labelidx (text format: control instructions): without the word
abbrev pub br_table : Toks → Parse Instruction
br_table toks = index toks >>= λ x. indices x.1 >>= λ xs. Some (instr.br_table (record { labels = before_last x.0 xs.0; default = last x.0 xs.0 }), xs.1)

-- whether a word is `switch`
abbrev pub is_switch : Option Word → Bool
is_switch (Some (word.Pair two.switch)) = true
is_switch w = false

-- x:tagidx l:labelidx | x:tagidx 'switch' (stack switching)
abbrev pub handle : Toks → Parse Handle
handle toks = index toks >>= λ x. elim (is_switch (word_of (peek 0 x.1))) [
  | true ↦ Some (handler.OnSwitch x.0, after x.1)
  | false ↦ index x.1 >>= λ l. Some (handler.OnLabel x.0 l.0, l.1)
]

-- '(' 'on' x:tagidx l:labelidx ')' | '(' 'on' x:tagidx 'switch' ')'
abbrev pub on : Toks → Parse Handle
on toks = form key.On toks >>= λ t. handle t >>= λ h. rparen h.1 >>= λ rest. Some (h.0, rest)

abbrev pub on_clauses : Toks → Parse (List Handle)
on_clauses toks = many (is_form key.On) on (count toks) toks

abbrev pub resumetable : Toks → Parse ResumeTable
resumetable toks = on_clauses toks >>= λ hs. Some (record { handlers = hs.0 }, hs.1)

-- call_indirect x:tableidx t:typeuse, where the table may be left out (text format: control instructions): without the word
abbrev pub callindirect : Toks → Parse CallIndirect
callindirect toks = index_or_zero toks >>= λ x. typeuse false x.1 >>= λ u. Some (record { table = x.0; ty = u.0 }, u.1)

-- br_on_cast l:labelidx t1:reftype t2:reftype (text format: control instructions): without the word
abbrev pub cast : Toks → Parse BrOnCast
cast toks = index toks >>= λ l. reftype l.1 >>= λ s. reftype s.1 >>= λ t. Some (record { label = l.0; from_type = s.0; to_type = t.0 }, t.1)

-- An instruction with immediates of its own, without its word. plaininstr ::= 'i32.const' n:i32 ⇒ i32.const n | .. (text format:
-- numeric instructions). plaininstr ::= 'ref.null' ht:heaptype ⇒ ref.null ht | 'ref.test' t:reftype ⇒ ref.test t | .. (text format:
-- reference instructions). The label of a block may be repeated: 'else' id? and 'end' id? (text format: labels).
abbrev pub own_instr : OwnOp → Toks → Parse Instruction
own_instr own.else_ toks = optional id toks >>= λ x. Some (instr.else_ x.0, x.1)
own_instr own.end_ toks = optional id toks >>= λ x. Some (instr.end_ x.0, x.1)
own_instr own.br_table toks = br_table toks
own_instr own.call_indirect toks = callindirect toks >>= λ c. Some (instr.call_indirect c.0, c.1)
own_instr own.return_call_indirect toks = callindirect toks >>= λ c. Some (instr.return_call_indirect c.0, c.1)
own_instr own.select toks = select toks
own_instr own.i32_const toks = signed_number 32 toks >>= λ n. Some (instr.i32_const n.0, n.1)
own_instr own.i64_const toks = signed_number 64 toks >>= λ n. Some (instr.i64_const n.0, n.1)
own_instr own.f32_const toks = f32 toks >>= λ n. Some (instr.f32_const n.0, n.1)
own_instr own.f64_const toks = f64 toks >>= λ n. Some (instr.f64_const n.0, n.1)
own_instr own.v128_const toks = v128const toks >>= λ v. Some (instr.v128_const v.0, v.1)
own_instr own.i8x16_shuffle toks = shuffle toks
own_instr own.ref_null toks = heaptype toks >>= λ t. Some (instr.ref_null t.0, t.1)
own_instr own.ref_test toks = reftype toks >>= λ t. Some (instr.ref_test (record { rt = t.0 }), t.1)
own_instr own.ref_cast toks = reftype toks >>= λ t. Some (instr.ref_cast (record { rt = t.0 }), t.1)
own_instr own.ref_cast_desc_eq toks = reftype toks >>= λ t. Some (instr.ref_cast_desc_eq (record { rt = t.0 }), t.1)
own_instr own.br_on_cast toks = cast toks >>= λ c. Some (instr.br_on_cast c.0, c.1)
own_instr own.br_on_cast_fail toks =
    cast toks >>= λ c. Some (instr.br_on_cast_fail (record { label = c.0.label; from_type = c.0.from_type; to_type = c.0.to_type }), c.1)
own_instr own.br_on_cast_desc_eq toks =
    cast toks >>= λ c. Some (instr.br_on_cast_desc_eq (record { label = c.0.label; from_type = c.0.from_type; to_type = c.0.to_type }), c.1)
own_instr own.br_on_cast_desc_eq_fail toks = cast toks
    >>= λ c. Some (instr.br_on_cast_desc_eq_fail (record { label = c.0.label; from_type = c.0.from_type; to_type = c.0.to_type }), c.1)
own_instr own.array_new_fixed toks = array_new_fixed toks
own_instr own.atomic_fence toks = memory_ordering toks >>= λ o. Some (instr.atomic_fence o.0, o.1)
own_instr own.resume toks = index toks >>= λ x. resumetable x.1 >>= λ t. Some (instr.resume (record { type_index = x.0; table = t.0 }), t.1)
own_instr own.resume_throw toks = index toks >>= λ x. index x.1 >>= λ y. resumetable y.1
    >>= λ t. Some (instr.resume_throw (record { type_index = x.0; tag_index = y.0; table = t.0 }), t.1)
own_instr own.resume_throw_ref toks = index toks >>= λ x. resumetable x.1 >>= λ t. Some (instr.resume_throw_ref (record { type_index = x.0; table = t.0 }), t.1)

-- the ordering of an atomic access, `seq_cst` if it is left out
abbrev pub ordering_or_default : Option Ordering → Ordering
ordering_or_default (Some o) = o
ordering_or_default None = ordering.SeqCst

-- an atomic access of what is no memory, without its word (shared-everything threads)
abbrev pub atomic_of : AtomicOp → Ordering → Toks → Parse Instruction
atomic_of atomic.Global o toks = index toks >>= λ x. Some (instr.GlobalAtomic (record { ordering = o; inner = x.0 }), x.1)
atomic_of atomic.Table o toks = index_or_zero toks >>= λ x. Some (instr.TableAtomic (record { ordering = o; inner = record { dst = x.0 } }), x.1)
atomic_of atomic.Struct o toks = struct_access toks >>= λ x. Some (instr.StructAtomic (record { ordering = o; inner = x.0 }), x.1)
atomic_of atomic.Array o toks = index toks >>= λ x. Some (instr.ArrayAtomic (record { ordering = o; inner = x.0 }), x.1)

abbrev pub atomic_instr : AtomicOp → Toks → Parse Instruction
atomic_instr op toks = memory_ordering toks >>= λ o. atomic_of op (ordering_or_default o.0) o.1

-- whether a word is one of a plain instruction, and neither a keyword nor the first word of a block
abbrev pub is_plaininstr : Word → Bool
is_plaininstr (word.Key k) = false
is_plaininstr (word.Block op) = false
is_plaininstr w = true

-- An instruction by its word and without it. A word that no table knows keeps its name. plaininstr ::= 'nop' ⇒ nop | 'drop' ⇒ drop | ..:
-- `words` of wat_tokens has the instruction of each word (text format: plain instructions). plaininstr ::= 'i32.add' ⇒ i32.add | ..
-- (text format: numeric instructions). plaininstr ::= 'i32.load' x:memidx m:memarg_4 ⇒ i32.load x m | .. (text format: memory
-- instructions). plaininstr ::= 'i8x16.extract_lane_s' l:laneidx ⇒ i8x16.extract_lane_s l | .. (text format: vector instructions).
abbrev pub plaininstr : Word → Bor (List ℕ) → Toks → Parse Instruction
plaininstr (word.Plain op) name toks = Some (instr.Plain op, toks)
plaininstr (word.Mem op N) name toks = memarg (alignment_bytes N) toks >>= λ m. Some (instr.Mem op m.0, m.1)
plaininstr (word.Lane op) name toks = laneidx toks >>= λ l. Some (instr.Lane op l.0, l.1)
plaininstr (word.MemLane op N) name toks = lane_memarg (alignment_bytes N) toks >>= λ m. Some (instr.MemLane op m.0, m.1)
plaininstr (word.Index op) name toks = index toks >>= λ x. Some (index_instr op x.0, x.1)
plaininstr (word.IndexOrZero op) name toks = index_or_zero toks >>= λ x. Some (index_instr (op_of op) x.0, x.1)
plaininstr (word.Uncovered op) name toks = index toks >>= λ x. Some (uncovered_instr op x.0, x.1)
plaininstr (word.UncoveredOrZero op) name toks = index_or_zero toks >>= λ x. Some (uncovered_instr op x.0, x.1)
plaininstr (word.Pair op) name toks = index toks >>= λ x. index x.1 >>= λ y. Some (pair_instr op x.0 y.0, y.1)
plaininstr (word.OneOrTwo op) name toks = one_or_two toks >>= λ x. Some (pair_instr op x.0.0 x.0.1, x.1)
plaininstr (word.NoneOrTwo op) name toks = none_or_two toks >>= λ x. Some (pair_instr op x.0.0 x.0.1, x.1)
plaininstr (word.Own op) name toks = own_instr op toks
plaininstr (word.Atomic op) name toks = atomic_instr op toks
plaininstr word.Beyond name toks = Some (instr.Beyond name, toks)
plaininstr w name toks = None

-- label ::= v:id ⇒ v | ε, with a name annotation (text format: labels). blocktype ::= t:result? ⇒ t? | x:typeuse ⇒ x, whose parameters
-- have no ids (text format: control instructions).
abbrev pub blocktype : Toks → Parse BlockType
blocktype toks = optional id toks >>= λ l. name_annotation l.1 >>= λ n. typeuse false n.1 >>= λ u.
    Some (record { label = l.0; label_name = n.0; ty = u.0 }, u.1)

-- whether a word begins a catch clause
abbrev pub is_catch_word : Option Word → Bool
is_catch_word (Some (word.Index one.Catch)) = true
is_catch_word (Some (word.Key key.CatchRef)) = true
is_catch_word (Some (word.Key key.CatchAllRef)) = true
is_catch_word (Some (word.Plain (plain.Bare bare.catch_all))) = true
is_catch_word w = false

abbrev pub is_catch : Toks → Bool
is_catch toks = is_lparen (peek 0 toks) && is_catch_word (word_of (peek 1 toks))

-- catch ::= '(' 'catch' x:tagidx l:labelidx ')' | '(' 'catch_ref' x:tagidx l:labelidx ')' | '(' 'catch_all' l:labelidx ')'
--   | '(' 'catch_all_ref' l:labelidx ')': by its word, after it
abbrev pub catch_of : Option Word → Toks → Parse TryTableCatch
catch_of (Some (word.Index one.Catch)) toks = index toks >>= λ x. index x.1 >>= λ l. Some (record { kind = caught.Catch x.0; label = l.0 }, l.1)
catch_of (Some (word.Key key.CatchRef)) toks = index toks >>= λ x. index x.1 >>= λ l. Some (record { kind = caught.CatchRef x.0; label = l.0 }, l.1)
catch_of (Some (word.Key key.CatchAllRef)) toks = index toks >>= λ l. Some (record { kind = caught.CatchAllRef; label = l.0 }, l.1)
catch_of (Some (word.Plain (plain.Bare bare.catch_all))) toks = index toks >>= λ l. Some (record { kind = caught.CatchAll; label = l.0 }, l.1)
catch_of w toks = None

abbrev pub catch_clause : Toks → Parse TryTableCatch
catch_clause toks = catch_of (word_of (peek 0 toks)) (after toks)

abbrev pub catch : Toks → Parse TryTableCatch
catch toks = lparen toks >>= λ t. catch_clause t >>= λ c. rparen c.1 >>= λ rest. Some (c.0, rest)

abbrev pub catches : Toks → Parse (List TryTableCatch)
catches toks = many is_catch catch (count toks) toks

-- the clauses of `try_table`, after its block type
abbrev pub try_table_of : BlockType → Toks → Parse Instruction
try_table_of b toks = catches toks >>= λ cs. Some (instr.try_table (record { block = b; catches = cs.0 }), cs.1)

-- the word of a block with its label and type, and of `try_table` its clauses: without the word
abbrev pub opener : BlockOp → Toks → Parse Instruction
opener opens.block toks = blocktype toks >>= λ b. Some (instr.block b.0, b.1)
opener opens.loop_ toks = blocktype toks >>= λ b. Some (instr.loop_ b.0, b.1)
opener opens.if_ toks = blocktype toks >>= λ b. Some (instr.if_ b.0, b.1)
opener opens.try_ toks = blocktype toks >>= λ b. Some (instr.try_ b.0, b.1)
opener opens.try_table toks = blocktype toks >>= λ b. try_table_of b.0 b.1

-- an instruction without parentheses, by its token
abbrev pub instruction_of : Option Token → Toks → Parse Instruction
instruction_of (Some (token.Word (word.Key k) name)) toks = None
instruction_of (Some (token.Word (word.Block op) name)) toks = opener op toks
instruction_of (Some (token.Word w name)) toks = plaininstr w name toks
instruction_of t toks = None

abbrev pub instruction : Toks → Parse Instruction
instruction toks = instruction_of (peek 0 toks) (after toks)
