-- The fields with expressions (text format: functions, tables, memories, globals). Each rule is from the keyword on. The
-- abbreviations with an inline import or with inline exports are in `head` and `inline_import` (Modules).
use Rattle.std.specs.Prelude.{Bool, true, false, Option, None, Some}
use Rattle.wat_syntax.specs.Tree.{RefType, FunctionType, TypeUse, Expression, InlineImport, ElemPayload}
use Rattle.wat_syntax.specs.Tree.{Func, FuncKind, Table, TableKind, Memory, MemoryKind, Global, GlobalKind}
use Rattle.wat_syntax.specs.Tree.func
use Rattle.wat_syntax.specs.Tree.table
use Rattle.wat_syntax.specs.Tree.memory
use Rattle.wat_syntax.specs.Tree.global
use Rattle.wat_grammar.specs.Parts.{◌>>=◌}
use Rattle.wat_tokens.specs.declared.words.Key.{Key}
use Rattle.wat_tokens.specs.declared.words.Key.TheVariants as key
use Rattle.wat_syntax.specs.Tokens.{Toks, Parse, peek, is_lparen, is_end, key_of, rparen, keyword, form, is_there}
use Rattle.wat_syntax.specs.Values.{is_number}
use Rattle.wat_syntax.specs.Types.{reftype, addrtype, limits, tabletype, pagesize, memtype, globaltype, typeuse}
use Rattle.wat_syntax.specs.Bodies.{expression}
use Rattle.wat_syntax.specs.Modules.{head, inline_import, locals}
use Rattle.wat_syntax.specs.Segments.{exprs_payload, funcs_payload, funcrefs_payload, is_funcref, datastring}

-- an imported function: its type, in '(' 'exact' ')' if it is exact (custom descriptors)
abbrev pub imported_func : InlineImport → Toks → Parse (FuncKind × TypeUse FunctionType)
imported_func i toks = elim (form key.Exact toks) [
  | Some t ↦ typeuse true t >>= λ u. rparen u.1 >>= λ rest. Some ((func.Import i true, u.0), rest)
  | None ↦ typeuse true toks >>= λ u. Some ((func.Import i false, u.0), u.1)
]

-- loc*:local* e:expr: the body may have branch hints
abbrev pub func_body : Toks → Parse FuncKind
func_body toks = locals toks >>= λ loc. expression true loc.1 >>= λ e. Some (func.Inline loc.0 e.0, e.1)

abbrev pub func_of : Option InlineImport → Toks → Parse (FuncKind × TypeUse FunctionType)
func_of (Some i) toks = imported_func i toks
func_of None toks = typeuse true toks >>= λ u. func_body u.1 >>= λ k. Some ((k.0, u.0), k.1)

-- func ::= '(' 'func' id? x:typeuse loc*:local* e:expr ')' ⇒ func x loc* e (text format: functions)
abbrev pub funcfield : Toks → Parse Func
funcfield toks = head toks >>= λ h. inline_import h.1 >>= λ i. func_of i.0 i.1 >>= λ k.
    Some (record { span = h.0.span; id = h.0.id; name = h.0.name; exports = h.0.exports; kind = k.0.0; ty = k.0.1 }, k.1)

-- Elements of a type inline in a table, after '(' 'elem': e*:elemexpr* | x*:funcidx* (text format: tables: abbreviations). Functions
-- become expressions if the type of the table is not `funcref`, because the bytes of a segment of functions have no place for
-- another type: `(table (ref $t) (elem $f))` has the element `ref.func $f`.
abbrev pub inline_elements : RefType → Toks → Parse ElemPayload
inline_elements t toks = elim (is_lparen (peek 0 toks)) [
  | true ↦ exprs_payload t toks
  | false ↦ elim (is_funcref t) [ true ↦ funcs_payload toks | false ↦ funcrefs_payload t toks ]
]

-- e:expr?: the value that the elements of a table begin with
abbrev pub init_expression : Toks → Parse (Option Expression)
init_expression toks = elim (is_end (peek 0 toks)) [ true ↦ Some (None, toks) | false ↦ expression false toks >>= λ e. Some (Some e.0, e.1) ]

-- tt:tabletype e:expr?, after 'shared' and the address type
abbrev pub table_of_type : Bool → Bool → Toks → Parse TableKind
table_of_type shared is64 toks = limits is64 toks >>= λ lim. reftype lim.1 >>= λ t. init_expression t.1 >>= λ e.
    Some (table.Normal (record { limits = lim.0; elem = t.0; shared = shared }) e.0, e.1)

-- t:reftype '(' 'elem' .. ')' (text format: tables: abbreviations)
abbrev pub table_of_elements : Bool → Bool → Toks → Parse TableKind
table_of_elements shared is64 toks = reftype toks >>= λ t. form key.Elem t.1 >>= λ u. inline_elements t.0 u >>= λ el. rparen el.1 >>= λ rest.
    Some (table.Inline t.0 is64 shared el.0, rest)

abbrev pub defined_table : Toks → Parse TableKind
defined_table toks = is_there (keyword key.Shared) toks >>= λ shared. addrtype shared.1 >>= λ at. elim (is_number (peek 0 at.1)) [
  | true ↦ table_of_type shared.0 at.0 at.1
  | false ↦ table_of_elements shared.0 at.0 at.1
]

abbrev pub table_of : Option InlineImport → Toks → Parse TableKind
table_of (Some i) toks = tabletype toks >>= λ tt. Some (table.Import i tt.0, tt.1)
table_of None toks = defined_table toks

-- table ::= '(' 'table' id? tt:tabletype e:expr ')' ⇒ table tt e (text format: tables). If e is left out, then the elements begin
-- as null.
abbrev pub tablefield : Toks → Parse Table
tablefield toks = head toks >>= λ h. inline_import h.1 >>= λ i. table_of i.0 i.1 >>= λ k.
    Some (record { span = h.0.span; id = h.0.id; name = h.0.name; exports = h.0.exports; kind = k.0 }, k.1)

-- whether a keyword is an address type
abbrev pub is_addrtype : Option Key → Bool
is_addrtype (Some key.I32) = true
is_addrtype (Some key.I64) = true
is_addrtype k = false

-- Whether the data of a memory is inline: then '(' is next, after the address type if there is one. No memory type has a '(' there.
abbrev pub has_inline_data : Toks → Bool
has_inline_data toks = elim (is_addrtype (key_of (peek 0 toks))) [ true ↦ is_lparen (peek 1 toks) | false ↦ is_lparen (peek 0 toks) ]

-- at:addrtype '(' 'data' b*:datastring ')' (text format: memories: abbreviations), with the size of the pages before the data
abbrev pub inline_data : Toks → Parse MemoryKind
inline_data toks = addrtype toks >>= λ at. pagesize at.1 >>= λ p. form key.Data p.1 >>= λ t. datastring t >>= λ bs. rparen bs.1 >>= λ rest.
    Some (memory.Inline at.0 bs.0 p.0, rest)

abbrev pub defined_memory : Toks → Parse MemoryKind
defined_memory toks = elim (has_inline_data toks) [
  | true ↦ inline_data toks
  | false ↦ memtype toks >>= λ mt. Some (memory.Normal mt.0, mt.1)
]

abbrev pub memory_of : Option InlineImport → Toks → Parse MemoryKind
memory_of (Some i) toks = memtype toks >>= λ mt. Some (memory.Import i mt.0, mt.1)
memory_of None toks = defined_memory toks

-- mem ::= '(' 'memory' id? mt:memtype ')' ⇒ memory mt (text format: memories)
abbrev pub memoryfield : Toks → Parse Memory
memoryfield toks = head toks >>= λ h. inline_import h.1 >>= λ i. memory_of i.0 i.1 >>= λ k.
    Some (record { span = h.0.span; id = h.0.id; name = h.0.name; exports = h.0.exports; kind = k.0 }, k.1)

-- an imported global has no value
abbrev pub global_of : Option InlineImport → Toks → Parse GlobalKind
global_of (Some i) toks = Some (global.Import i, toks)
global_of None toks = expression false toks >>= λ e. Some (global.Inline e.0, e.1)

-- global ::= '(' 'global' id? gt:globaltype e:expr ')' ⇒ global gt e (text format: globals)
abbrev pub globalfield : Toks → Parse Global
globalfield toks = head toks >>= λ h. inline_import h.1 >>= λ i. globaltype i.1 >>= λ t. global_of i.0 t.1 >>= λ k.
    Some (record { span = h.0.span; id = h.0.id; name = h.0.name; exports = h.0.exports; ty = t.0; kind = k.0 }, k.1)
