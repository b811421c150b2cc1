-- Modules (text format: modules), in the order of the specification. Here are the fields without expressions.
use Rattle.std.specs.Prelude.{ℕ, ◌||◌, true, false, List, [], ◌∷◌, Option, None, Some, is_some}
use Rattle.std.specs.Borrow.{Bor}
use Rattle.wat_syntax.specs.Tree.{Span, Id, NameAnnotation, InlineExport, InlineImport, Local, Tag, TagKind}
use Rattle.wat_syntax.specs.Tree.{ItemKind, ItemSig, ImportItems, Imports, ExportKind, Export, ModuleField}
use Rattle.wat_syntax.specs.Tree.tag
use Rattle.wat_syntax.specs.Tree.tag_kind
use Rattle.wat_syntax.specs.Tree.kind
use Rattle.wat_syntax.specs.Tree.import_items
use Rattle.wat_syntax.specs.Tree.export
use Rattle.wat_syntax.specs.Tree.field
use Rattle.wat_grammar.specs.Parts.{◌>>=◌}
use Rattle.wat_tokens.specs.declared.words.Key.{Key}
use Rattle.wat_tokens.specs.declared.words.Key.TheVariants as key
use Rattle.wat_syntax.specs.Tokens.{Toks, Parse, peek, after, position, count, is_end, key_of, lparen}
use Rattle.wat_syntax.specs.Tokens.{rparen, is_form, form, optional, many, many_lists, with_parts}
use Rattle.wat_syntax.specs.Values.{id, name, name_annotation, index, is_string}
use Rattle.wat_syntax.specs.Types.{valtype, goes_on, tabletype, memtype, globaltype, typeuse}

-- '(' 'export' nm:name ')' in a field (text format: exports: abbreviations)
abbrev pub inline_export : Toks → Parse (Bor (List ℕ))
inline_export toks = form key.Export toks >>= λ t. name t >>= λ nm. rparen nm.1 >>= λ rest. Some (nm.0, rest)

abbrev pub export_names : Toks → Parse (List (Bor (List ℕ)))
export_names toks = many (is_form key.Export) inline_export (count toks) toks

abbrev pub inline_exports : Toks → Parse InlineExport
inline_exports toks = export_names toks >>= λ nms. Some (record { names = nms.0 }, nms.1)

-- '(' 'import' nm1:name nm2:name ')' in a field, or nothing (text format: imports: abbreviations)
abbrev pub inline_import : Toks → Parse (Option InlineImport)
inline_import toks = elim (form key.Import toks) [
  | Some t ↦ name t >>= λ a. name a.1 >>= λ b. rparen b.1 >>= λ rest. Some (Some (record { «module» = a.0; field = b.0 }), rest)
  | None ↦ Some (None, toks)
]

-- What fields begin with: the position of the keyword, the id, the name annotation and the exports.
pub record Head : Type 0 where
  pub span : Span
  pub id : Option Id
  pub name : Option NameAnnotation
  pub exports : InlineExport

-- from the keyword on
abbrev pub head : Toks → Parse Head
head toks = optional id (after toks) >>= λ x. name_annotation x.1 >>= λ n. inline_exports n.1 >>= λ e.
    Some (record { span = position toks; id = x.0; name = n.0; exports = e.0 }, e.1)

-- the type of a function, in '(' 'exact' ')' if it is exact (custom descriptors)
abbrev pub functype_of : Toks → Parse ItemKind
functype_of toks = elim (form key.Exact toks) [
  | Some t ↦ typeuse true t >>= λ u. rparen u.1 >>= λ rest. Some (kind.FuncExact u.0, rest)
  | None ↦ typeuse true toks >>= λ u. Some (kind.Func u.0, u.1)
]

-- externtype ::= '(' 'func' id? x:typeuse ')' ⇒ func x | '(' 'table' id? tt:tabletype ')' ⇒ table tt | .. (text format: external
-- types): by the keyword, after the id
abbrev pub externtype_of : Option Key → Toks → Parse ItemKind
externtype_of (Some key.Func) toks = functype_of toks
externtype_of (Some key.Table) toks = tabletype toks >>= λ t. Some (kind.Table t.0, t.1)
externtype_of (Some key.Memory) toks = memtype toks >>= λ t. Some (kind.Memory t.0, t.1)
externtype_of (Some key.Global) toks = globaltype toks >>= λ t. Some (kind.Global t.0, t.1)
externtype_of (Some key.Tag) toks = typeuse true toks >>= λ u. Some (kind.Tag (tag.Exception u.0), u.1)
externtype_of k toks = None

abbrev pub externtype : Toks → Parse ItemSig
externtype toks = lparen toks >>= λ t. optional id (after t) >>= λ x. name_annotation x.1 >>= λ n.
    externtype_of (key_of (peek 0 t)) n.1 >>= λ k. rparen k.1 >>= λ rest.
    Some (record { span = position t; id = x.0; name = n.0; kind = k.0 }, rest)

-- '(' 'item' nm:name xt:externtype ')' and '(' 'item' nm:name ')' (compact import section)
abbrev pub import_item : Toks → Parse (Bor (List ℕ) × ItemSig)
import_item toks = form key.Item toks >>= λ t. name t >>= λ nm. externtype nm.1 >>= λ xt. rparen xt.1 >>= λ rest. Some ((nm.0, xt.0), rest)

abbrev pub import_name : Toks → Parse (Bor (List ℕ))
import_name toks = form key.Item toks >>= λ t. name t >>= λ nm. rparen nm.1 >>= λ rest. Some (nm.0, rest)

abbrev pub import_items_of : Toks → Parse (List (Bor (List ℕ) × ItemSig))
import_items_of toks = many (is_form key.Item) import_item (count toks) toks

abbrev pub import_names : Toks → Parse (List (Bor (List ℕ)))
import_names toks = many (is_form key.Item) import_name (count toks) toks

-- after the first '(' 'item' nm:name
abbrev pub import_group : Bor (List ℕ) → Bor (List ℕ) → Toks → Parse ImportItems
import_group from first toks = elim (is_end (peek 0 toks)) [
  | true ↦ rparen toks >>= λ t. with_parts (first ∷ []) (import_names t) >>= λ ns. externtype ns.1 >>= λ xt. Some (import_items.Group2 from xt.0 ns.0, xt.1)
  | false ↦ externtype toks >>= λ xt. rparen xt.1 >>= λ t. with_parts ((first, xt.0) ∷ []) (import_items_of t)
      >>= λ xs. Some (import_items.Group1 from xs.0, xs.1)
]

-- import ::= '(' 'import' nm1:name nm2:name xt:externtype ')' ⇒ import nm1 nm2 xt (text format: imports): from the keyword on
abbrev pub import_items_from : Bor (List ℕ) → Toks → Parse ImportItems
import_items_from from toks = elim (is_string (peek 0 toks)) [
  | true ↦ name toks >>= λ nm. externtype nm.1 >>= λ xt. Some (import_items.Single from nm.0 xt.0, xt.1)
  | false ↦ form key.Item toks >>= λ t. name t >>= λ nm. import_group from nm.0 nm.1
]

abbrev pub importfield : Toks → Parse Imports
importfield toks = name (after toks) >>= λ nm. import_items_from nm.0 nm.1 >>= λ is. Some (record { span = position toks; items = is.0 }, is.1)

-- whether a field is imported
abbrev pub tag_kind_of : Option InlineImport → TagKind
tag_kind_of (Some i) = tag_kind.Import i
tag_kind_of None = tag_kind.Inline

-- tag ::= '(' 'tag' id? x:typeuse ')' ⇒ tag x (text format: tags): from the keyword on. tagtype ::= x:typeuse ⇒ x, whose parameters may
-- have ids (text format: tag types).
abbrev pub tagfield : Toks → Parse Tag
tagfield toks = head toks >>= λ h. inline_import h.1 >>= λ i. typeuse true i.1 >>= λ u.
    Some (record { span = h.0.span; id = h.0.id; name = h.0.name; exports = h.0.exports; ty = tag.Exception u.0; kind = tag_kind_of i.0 }, u.1)

-- a local without an id
abbrev pub unnamed_local : Toks → Parse Local
unnamed_local toks = valtype toks >>= λ t. Some (record { id = None; name = None; ty = t.0 }, t.1)

abbrev pub unnamed_locals : Toks → Parse (List Local)
unnamed_locals toks = many goes_on unnamed_local (count toks) toks

-- local ::= '(' 'local' id? t:valtype ')' ⇒ t, and '(' 'local' t*:valtype* ')' ≡ ('(' 'local' t:valtype ')')* (text format:
-- functions): after '(' 'local'
abbrev pub locals_of : Toks → Parse (List Local)
locals_of toks = optional id toks >>= λ x. name_annotation x.1 >>= λ n. elim (is_some x.0 || is_some n.0) [
  | true ↦ valtype n.1 >>= λ t. Some (record { id = x.0; name = n.0; ty = t.0 } ∷ [], t.1)
  | false ↦ unnamed_locals n.1
]

abbrev pub local : Toks → Parse (List Local)
local toks = form key.Local toks >>= λ t. locals_of t >>= λ ls. rparen ls.1 >>= λ rest. Some (ls.0, rest)

-- local*
abbrev pub locals : Toks → Parse (List Local)
locals toks = many_lists (is_form key.Local) local (count toks) toks

-- start ::= '(' 'start' x:funcidx ')' ⇒ start x (text format: start function): from the keyword on
abbrev pub startfield : Toks → Parse ModuleField
startfield toks = index (after toks) >>= λ x. Some (field.Start x.0, x.1)

-- what is exported, by its keyword
abbrev pub export_kind : Option Key → Option ExportKind
export_kind (Some key.Func) = Some export.Func
export_kind (Some key.Table) = Some export.Table
export_kind (Some key.Memory) = Some export.Memory
export_kind (Some key.Global) = Some export.Global
export_kind (Some key.Tag) = Some export.Tag
export_kind k = None

abbrev pub externidx_keyword : Toks → Parse ExportKind
externidx_keyword toks = export_kind (key_of (peek 0 toks)) >>= λ k. Some (k, after toks)

-- export ::= '(' 'export' nm:name xx:externidx ')' ⇒ export nm xx; externidx ::= '(' 'func' x:funcidx ')' ⇒ func x | ..
-- (text format: exports): from the keyword on
abbrev pub exportfield : Toks → Parse Export
exportfield toks = name (after toks) >>= λ nm. lparen nm.1 >>= λ t. externidx_keyword t >>= λ k.
    index k.1 >>= λ x. rparen x.1 >>= λ rest.
    Some (record { span = position toks; name = nm.0; kind = k.0; item = x.0 }, rest)
