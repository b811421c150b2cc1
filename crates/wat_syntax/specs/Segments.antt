-- Element and data segments (text format: element segments, data segments).
use Rattle.std.specs.Prelude.{ℕ, ℤ, ◌||◌, ◌&&◌, not, Bool, true, false, List, [], ◌∷◌, Option, None, Some, is_some}
use Rattle.std.specs.Int.{Width, w8, w16, w32, w64, cast_unsigned, to_le_bytes}
use Rattle.wat_syntax.specs.Tree.{Span, Index, RefType, HeapType, Expression, Elem, ElemKind, ElemPayload, Data, DataKind, DataVal}
use Rattle.wat_syntax.specs.Tree.heap
use Rattle.wat_syntax.specs.Tree.abstract
use Rattle.wat_syntax.specs.Tree.instr
use Rattle.wat_syntax.specs.Tree.elem
use Rattle.wat_syntax.specs.Tree.payload
use Rattle.wat_syntax.specs.Tree.data_kind
use Rattle.wat_syntax.specs.Tree.bytes
use Rattle.wast_base.specs.declared.ids.Index.TheVariants as by
use Rattle.wat_grammar.specs.Parts.{◌>>=◌}
use Rattle.wat_tokens.specs.declared.words.Key.{Key}
use Rattle.wat_tokens.specs.declared.words.Key.TheVariants as key
use Rattle.wat_syntax.specs.Tokens.{Toks, Parse, peek, after, position, count, is_lparen, is_end, key_of}
use Rattle.wat_syntax.specs.Tokens.{is_key, lparen, rparen, keyword, form, optional, many, many_lists}
use Rattle.wat_syntax.specs.Values.{is_number, string, is_string, id, name_annotation, index}
use Rattle.wat_syntax.specs.Types.{reftype, is_reftype, goes_on, related}
use Rattle.wat_syntax.specs.Instructions.{signed_number, f32, f64}
use Rattle.wat_syntax.specs.Bodies.{expression, folded_expression}

-- '(' k e:expr ')' ⇒ e, and one folded instruction in its place (text format: element segments, data segments: abbreviations)
abbrev pub expression_in : Key → Toks → Parse Expression
expression_in k toks = elim (form k toks) [
  | Some t ↦ expression false t >>= λ e. rparen e.1 >>= λ rest. Some (e.0, rest)
  | None ↦ folded_expression toks
]

-- '(' 'offset' e:expr ')' ⇒ e, and '(' instr ')' ≡ '(' 'offset' instr ')', of an active segment of data or elements (text format: data
-- segments)
abbrev pub offset_expression : Toks → Parse Expression
offset_expression toks = expression_in key.Offset toks

-- elemexpr ::= '(' 'item' e:expr ')' ⇒ e, and '(' instr ')' ≡ '(' 'item' instr ')' (text format: element segments)
abbrev pub elemexpr : Toks → Parse Expression
elemexpr toks = expression_in key.Item toks

-- e*:elemexpr*, up to the end of the form
abbrev pub elemexprs : Toks → Parse (List Expression)
elemexprs toks = many goes_on elemexpr (count toks) toks

-- x*:funcidx*, up to the end of the form
abbrev pub funcindices : Toks → Parse (List Index)
funcindices toks = many goes_on index (count toks) toks

-- x:funcidx ⇒ ref.func x
abbrev pub funcref_of : Toks → Parse Expression
funcref_of toks = index toks >>= λ x. Some (record { instrs = instr.ref_func x.0 ∷ []; branch_hints = [] }, x.1)

abbrev pub funcrefs : Toks → Parse (List Expression)
funcrefs toks = many goes_on funcref_of (count toks) toks

-- expressions of a type
abbrev pub exprs_payload : RefType → Toks → Parse ElemPayload
exprs_payload t toks = elemexprs toks >>= λ es. Some (payload.Exprs t es.0, es.1)

-- Functions stay indices, because the bytes of a segment can have them as such.
abbrev pub funcs_payload : Toks → Parse ElemPayload
funcs_payload toks = funcindices toks >>= λ xs. Some (payload.Indices xs.0, xs.1)

-- functions as expressions of a type
abbrev pub funcrefs_payload : RefType → Toks → Parse ElemPayload
funcrefs_payload t toks = funcrefs toks >>= λ es. Some (payload.Exprs t es.0, es.1)

-- elemlist ::= t:reftype e*:elemexpr* ⇒ (t, e*), and 'func' x*:funcidx*, which abbreviates elements 'ref.func' x (text format: element
-- segments). `func 0 1` has the functions 0 and 1, and `funcref (ref.null func)` an expression.
abbrev pub elemlist : Toks → Parse ElemPayload
elemlist toks = elim (keyword key.Func toks) [
  | Some t ↦ funcs_payload t
  | None ↦ reftype toks >>= λ t. exprs_payload t.0 t.1
]

-- The same, and x*:funcidx* ≡ 'func' x*:funcidx*, for an active segment without '(' 'table' ')'.
abbrev pub short_elemlist : Toks → Parse ElemPayload
short_elemlist toks = elim (is_key key.Func (key_of (peek 0 toks)) || is_reftype toks) [ true ↦ elemlist toks | false ↦ funcs_payload toks ]

-- tableuse ::= '(' 'table' x:tableidx ')' ⇒ x, or nothing (text format: element segments)
abbrev pub tableuse : Toks → Parse (Option Index)
tableuse toks = related key.Table toks

-- An index may stand alone in a table use, but only as a number: an id there is that of the segment.
abbrev pub optional_number_index : Toks → Parse (Option Index)
optional_number_index toks = elim (is_number (peek 0 toks)) [ true ↦ index toks >>= λ x. Some (Some x.0, x.1) | false ↦ Some (None, toks) ]

-- whether a heap type is 'func'
abbrev pub is_func : HeapType → Bool
is_func (heap.Abstract false abstract.Func) = true
is_func t = false

-- whether a reference type is 'funcref'
abbrev pub is_funcref : RefType → Bool
is_funcref t = t.nullable && is_func t.heap

-- whether elements are of another type than 'funcref'
abbrev pub are_typed : ElemPayload → Bool
are_typed (payload.Indices xs) = false
are_typed (payload.Exprs t es) = not (is_funcref t)

-- A table use that is left out is that of table 0 (text format: element segments: abbreviations). The tree has it as `None`, and
-- as index 0 if the elements are of another type than `funcref`, because the bytes of a segment without a table have no place for
-- the type. `(elem (i32.const 0) externref)` has table 0, at the position of the token before its offset.
abbrev pub table_or_first : Option Index → ElemPayload → Span → Option Index
table_or_first (Some x) p span = Some x
table_or_first None p span = elim (are_typed p) [ true ↦ Some (by.Num 0 span) | false ↦ None ]

-- x:tableuse '(' 'offset' e:expr ')' el:elemlist ⇒ active x e, with el (text format: element segments): without '(' 'table' ')', 'func'
-- may be left out
abbrev pub active_elems : Toks → Parse (ElemKind × ElemPayload)
active_elems toks = tableuse toks >>= λ x. elim x.0 [
  | Some table ↦ offset_expression x.1 >>= λ e. elemlist e.1 >>= λ el. Some ((elem.Active (Some table) e.0, el.0), el.1)
  | None ↦ optional_number_index x.1 >>= λ n. offset_expression n.1 >>= λ e. short_elemlist e.1 >>= λ el.
      Some ((elem.Active (table_or_first n.0 el.0 toks.before) e.0, el.0), el.1)
]

-- whether a segment of elements is active: a table use or an offset is next
abbrev pub is_active : Toks → Bool
is_active toks = is_number (peek 0 toks) || (is_lparen (peek 0 toks) && not (is_reftype toks))

-- el:elemlist ⇒ passive | x:tableuse '(' 'offset' e:expr ')' el:elemlist ⇒ active x e | 'declare' el:elemlist ⇒ declare (text format:
-- element segments)
abbrev pub elem_of : Toks → Parse (ElemKind × ElemPayload)
elem_of toks = elim (keyword key.Declare toks) [
  | Some t ↦ elemlist t >>= λ el. Some ((elem.Declared, el.0), el.1)
  | None ↦ elim (is_active toks) [
    | true ↦ active_elems toks
    | false ↦ elemlist toks >>= λ el. Some ((elem.Passive, el.0), el.1)
  ]
]

-- elem ::= '(' 'elem' id? .. ')' (text format: element segments): from the keyword on
abbrev pub elemfield : Toks → Parse Elem
elemfield toks = optional id (after toks) >>= λ x. name_annotation x.1 >>= λ n. elem_of n.1 >>= λ k.
    Some (record { span = position toks; id = x.0; name = n.0; kind = k.0.0; payload = k.0.1 }, k.1)

-- an integer, as its bytes: those of -2 in 16 bits are 0xfe and 0xff
abbrev pub integer_bytes : Width → ℤ → List ℕ
integer_bytes w i = to_le_bytes w (cast_unsigned w i)

-- A number of a type, as the bytes of a data segment, the lowest first: 'i8', 'i16', 'i32', 'i64', 'f32' or 'f64' (numeric values in
-- data segments).
abbrev pub data_number : Key → Toks → Parse (List ℕ)
data_number key.I8 toks = signed_number 8 toks >>= λ i. Some (integer_bytes w8 i.0, i.1)
data_number key.I16 toks = signed_number 16 toks >>= λ i. Some (integer_bytes w16 i.0, i.1)
data_number key.I32 toks = signed_number 32 toks >>= λ i. Some (integer_bytes w32 i.0, i.1)
data_number key.I64 toks = signed_number 64 toks >>= λ i. Some (integer_bytes w64 i.0, i.1)
data_number key.F32 toks = f32 toks >>= λ z. Some (to_le_bytes w32 z.0.bits, z.1)
data_number key.F64 toks = f64 toks >>= λ z. Some (to_le_bytes w64 z.0.bits, z.1)
data_number k toks = None

-- the types of such numbers
abbrev pub numtype : Option Key → Option Key
numtype (Some key.I8) = Some key.I8
numtype (Some key.I16) = Some key.I16
numtype (Some key.I32) = Some key.I32
numtype (Some key.I64) = Some key.I64
numtype (Some key.F32) = Some key.F32
numtype (Some key.F64) = Some key.F64
numtype k = None

abbrev pub numtype_keyword : Toks → Parse Key
numtype_keyword toks = numtype (key_of (peek 0 toks)) >>= λ k. Some (k, after toks)

-- numbers up to the end of the form
abbrev pub data_numbers : Key → Toks → Parse (List ℕ)
data_numbers k toks = many_lists goes_on (data_number k) (count toks) toks

-- '(' t:numtype n* ')' ⇒ the bytes of the numbers, as `(i16 1 2)` (numeric values in data segments)
abbrev pub numlist : Toks → Parse DataVal
numlist toks = lparen toks >>= λ t. numtype_keyword t >>= λ k. data_numbers k.0 k.1 >>= λ bs. rparen bs.1 >>= λ rest.
    Some (bytes.Integral bs.0, rest)

-- a string, or numbers
abbrev pub datavalue : Toks → Parse DataVal
datavalue toks = elim (is_string (peek 0 toks)) [ true ↦ string toks >>= λ b. Some (bytes.String b.0, b.1) | false ↦ numlist toks ]

-- datastring ::= (b*:string)* ⇒ b* (text format: data segments), up to the end of the form. The pieces are joined in the bytes.
abbrev pub datastring : Toks → Parse (List DataVal)
datastring toks = many goes_on datavalue (count toks) toks

-- The types of numbers, and 'v128': the proposal has vectors among the bytes. None is read, so a segment with one is refused.
abbrev pub is_numtype : Option Key → Bool
is_numtype (Some key.V128) = true
is_numtype k = is_some (numtype k)

-- whether '(' and a type of numbers are next
abbrev pub is_numlist : Toks → Bool
is_numlist toks = is_lparen (peek 0 toks) && is_numtype (key_of (peek 1 toks))

-- memuse ::= '(' 'memory' x:memidx ')' ⇒ x (text format: data segments). It may be a number alone, and if it is left out, then it
-- is memory 0, at the position of the token before.
abbrev pub memuse : Toks → Parse Index
memuse toks = elim (form key.Memory toks) [
  | Some t ↦ index t >>= λ x. rparen x.1 >>= λ rest. Some (x.0, rest)
  | None ↦ elim (is_number (peek 0 toks)) [ true ↦ index toks | false ↦ Some (by.Num 0 toks.before, toks) ]
]

-- whether the bytes of a segment are next
abbrev pub is_data : Toks → Bool
is_data toks = is_end (peek 0 toks) || (is_string (peek 0 toks) || is_numlist toks)

-- x:memuse '(' 'offset' e:expr ')' ⇒ active x e, or nothing ⇒ passive (text format: data segments)
abbrev pub data_kind_of : Toks → Parse DataKind
data_kind_of toks = elim (is_data toks) [
  | true ↦ Some (data_kind.Passive, toks)
  | false ↦ memuse toks >>= λ x. offset_expression x.1 >>= λ e. Some (data_kind.Active x.0 e.0, e.1)
]

-- data ::= '(' 'data' id? b*:datastring ')' ⇒ data b* passive | '(' 'data' id? x:memuse '(' 'offset' e:expr ')' b*:datastring ')' ⇒
-- data b* active x e (text format: data segments): from the keyword on
abbrev pub datafield : Toks → Parse Data
datafield toks = optional id (after toks) >>= λ x. name_annotation x.1 >>= λ n. data_kind_of n.1 >>= λ k. datastring k.1 >>= λ bs.
    Some (record { span = position toks; id = x.0; name = n.0; kind = k.0; bytes = bs.0 }, bs.1)
