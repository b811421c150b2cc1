-- Custom sections (text format: custom annotations; tool conventions: producers section, dynamic linking), from the annotation to what
-- is before its ')'.
--
--   (@custom "a" (after func) "x" "y")                     the section a after that of functions, of the pieces x and y
--   (@custom "a")                                          the section a after all others, without bytes
--   (@producers (language "R" "1") (language "C" "2"))     the field language, of two values
--   (@dylink.0 (needed "a") (export-info "b" tls 0x80))    two subsections; the flags of b are 0x180
use Rattle.std.specs.Prelude.{ℕ, zero, suc, bit_or, ◌&&◌, Bool, true, false, List, [], ◌∷◌, ◌++◌, codes, Option, None, Some}
use Rattle.std.specs.Borrow.{Bor}
use Rattle.wat_syntax.specs.Tree.{Custom, CustomPlace, CustomPlaceAnchor, Dylink0Subsection}
use Rattle.wat_syntax.specs.Tree.custom
use Rattle.wat_syntax.specs.Tree.custom_place
use Rattle.wat_syntax.specs.Tree.anchor
use Rattle.wat_syntax.specs.Tree.dylink
use Rattle.wat_grammar.specs.Parts.{◌>>=◌}
use Rattle.wat_tokens.specs.declared.words.Key.{Key}
use Rattle.wat_tokens.specs.declared.words.Key.TheVariants as key
use Rattle.wat_syntax.specs.Tokens.{Toks, Parse, peek, after, position, count, is_lparen, is_rparen}
use Rattle.wat_syntax.specs.Tokens.{key_of, is_key, lparen, rparen, keyword, form, keyword_in, many}
use Rattle.wat_syntax.specs.Values.{u32, string, name, text_of}
use Rattle.wat_syntax.specs.Types.{goes_on}

-- sec ::= 'type' | 'import' | 'func' | 'table' | 'memory' | 'tag' | 'global' | 'export' | 'start' | 'elem' | 'code' | 'data' (text format:
-- custom annotations)
abbrev pub section_of : Key → Option CustomPlaceAnchor
section_of key.Ty = Some anchor.Ty
section_of key.Import = Some anchor.Import
section_of key.Func = Some anchor.Func
section_of key.Table = Some anchor.Table
section_of key.Memory = Some anchor.Memory
section_of key.Tag = Some anchor.Tag
section_of key.Global = Some anchor.Global
section_of key.Export = Some anchor.Export
section_of key.Start = Some anchor.Start
section_of key.Elem = Some anchor.Elem
section_of key.Code = Some anchor.Code
section_of key.Data = Some anchor.Data
section_of k = None

abbrev pub section : Toks → Parse CustomPlaceAnchor
section toks = keyword_in section_of toks

-- 'before' 'first' | 'before' sec: after 'before'
abbrev pub place_before : Toks → Parse CustomPlace
place_before toks = elim (keyword key.First toks) [
  | Some rest ↦ Some (custom_place.BeforeFirst, rest)
  | None ↦ section toks >>= λ s. Some (custom_place.Before s.0, s.1)
]

-- 'after' sec | 'after' 'last': after 'after'
abbrev pub place_after : Toks → Parse CustomPlace
place_after toks = elim (keyword key.Last toks) [
  | Some rest ↦ Some (custom_place.AfterLast, rest)
  | None ↦ section toks >>= λ s. Some (custom_place.After s.0, s.1)
]

abbrev pub place_of : Toks → Parse CustomPlace
place_of toks = elim (keyword key.Before toks) [
  | Some t ↦ place_before t
  | None ↦ keyword key.After toks >>= λ t. place_after t
]

-- customplace ::= '(' 'before' 'first' ')' | '(' 'before' sec ')' | '(' 'after' sec ')' | '(' 'after' 'last' ')', and after the last section if
-- it is left out (text format: custom annotations)
abbrev pub customplace : Toks → Parse CustomPlace
customplace toks = elim (lparen toks) [
  | Some t ↦ place_of t >>= λ p. rparen p.1 >>= λ rest. Some (p.0, rest)
  | None ↦ Some (custom_place.AfterLast, toks)
]

-- string*
abbrev pub strings : Toks → Parse (List (Bor (List ℕ)))
strings toks = many goes_on string (count toks) toks

-- customannot ::= '(@custom' string customplace? datastring ')' (text format: custom annotations): the name of a section is UTF-8
abbrev pub customfield : Toks → Parse Custom
customfield toks = name (after toks) >>= λ nm. customplace nm.1 >>= λ p. strings p.1 >>= λ bs.
    Some (custom.Raw (record { span = position toks; place = p.0; name = nm.0; bytes = bs.0 }), bs.1)

-- the fields of the section producers
pub data ProducersField : Type 0 where
  Language : ProducersField
  Sdk : ProducersField
  ProcessedBy : ProducersField

abbrev pub producers_field_of : Option Key → Option ProducersField
producers_field_of (Some key.Language) = Some Language
producers_field_of (Some key.Sdk) = Some Sdk
producers_field_of (Some key.ProcessedBy) = Some ProcessedBy
producers_field_of k = None

-- the field that a keyword is, which is taken already
abbrev pub known_field : Option Key → Toks → Parse ProducersField
known_field k toks = producers_field_of k >>= λ f. Some (f, toks)

-- the name of a tool and its version
abbrev pub Version : Type 0
Version = Bor (List ℕ) × Bor (List ℕ)

-- '(' 'language' name name ')' | '(' 'sdk' name name ')' | '(' 'processed-by' name name ')' (tool conventions: producers section)
abbrev pub version : Toks → Parse Version
version toks = name toks >>= λ a. name a.1 >>= λ b. Some ((a.0, b.0), b.1)

-- before the ')'
abbrev pub producer_open : Toks → Parse (ProducersField × Version)
producer_open toks = lparen toks >>= λ t. version (after t) >>= λ v. known_field (key_of (peek 0 t)) v.1 >>= λ f. Some ((f.0, v.0), f.1)

abbrev pub producer : Toks → Parse (ProducersField × Version)
producer toks = producer_open toks >>= λ p. rparen p.1 >>= λ rest. Some (p.0, rest)

abbrev pub all_producers : Toks → Parse (List (ProducersField × Version))
all_producers toks = many goes_on producer (count toks) toks

abbrev pub is_same_field : ProducersField → ProducersField → Bool
is_same_field Language Language = true
is_same_field Sdk Sdk = true
is_same_field ProcessedBy ProcessedBy = true
is_same_field f g = false

-- the values of a field, in the order of the text
abbrev pub versions_of : ProducersField → List (ProducersField × Version) → List Version
versions_of f [] = []
versions_of f (p ∷ ps) = elim (is_same_field f p.0) [ true ↦ p.1 ∷ versions_of f ps | false ↦ versions_of f ps ]

-- a field by its name, if it has values
abbrev pub named_field : List ℕ → List Version → List (Bor (List ℕ) × List Version)
named_field nm [] = []
named_field nm (v ∷ vs) = (text_of nm, v ∷ vs) ∷ []

-- Each field has all its values, wherever they are. The fields are in this order.
abbrev pub fields_of : List Version → List Version → List Version → List (Bor (List ℕ) × List Version)
fields_of languages sdks processors =
    named_field (codes "language") languages ++ (named_field (codes "sdk") sdks ++ named_field (codes "processed-by") processors)

-- '(@producers' producer* ')' (tool conventions: producers section)
abbrev pub producersfield : Toks → Parse Custom
producersfield toks = all_producers (after toks) >>= λ ps.
    Some (custom.Producers (record { fields = fields_of (versions_of Language ps.0) (versions_of Sdk ps.0) (versions_of ProcessedBy ps.0) }), ps.1)

-- A flag of an export or an import, by its name (tool conventions: dynamic linking, which has the numbers of flags in the symbol table of
-- linking).
abbrev pub flag_of : Key → Option ℕ
flag_of key.BindingWeak = Some 0x1
flag_of key.BindingLocal = Some 0x2
flag_of key.VisibilityHidden = Some 0x4
flag_of key.Undefined = Some 0x10
flag_of key.Exported = Some 0x20
flag_of key.ExplicitName = Some 0x40
flag_of key.NoStrip = Some 0x80
flag_of key.Tls = Some 0x100
flag_of key.Absolute = Some 0x200
flag_of k = None

-- a flag, or a number that has the bits of flags
abbrev pub flag : Toks → Parse ℕ
flag toks = elim (keyword_in flag_of toks) [ Some f ↦ Some f | None ↦ u32 toks ]

-- flag*, up to the end of the form
abbrev pub all_flags : Toks → Parse (List ℕ)
all_flags toks = many goes_on flag (count toks) toks

-- the bits that any of these numbers has, beside those of n
abbrev pub bits_with : ℕ → List ℕ → ℕ
bits_with n [] = n
bits_with n (f ∷ fs) = bits_with (bit_or n f) fs

abbrev pub flags : Toks → Parse ℕ
flags toks = all_flags toks >>= λ fs. Some (bits_with 0 fs.0, fs.1)

-- '(' k size:u32 align:u32 ')', and 0 and 0 if it is left out
abbrev pub size_and_align : Key → Toks → Parse (ℕ × ℕ)
size_and_align k toks = elim (form k toks) [
  | Some t ↦ u32 t >>= λ s. u32 s.1 >>= λ a. rparen a.1 >>= λ rest. Some ((s.0, a.0), rest)
  | None ↦ Some ((0, 0), toks)
]

-- name*, up to the end of the form
abbrev pub names : Toks → Parse (List (Bor (List ℕ)))
names toks = many goes_on name (count toks) toks

-- ')' '(' k: the end of a form, and the beginning of another with the same keyword
abbrev pub is_again : Key → Toks → Bool
is_again k toks = is_rparen (peek 0 toks) && (is_lparen (peek 1 toks) && is_key k (key_of (peek 2 toks)))

abbrev pub again : Key → Toks → Option Toks
again k toks = elim (is_again k toks) [ true ↦ Some (after (after (after toks))) | false ↦ None ]

-- Entries of neighbouring forms: entry (')' '(' k entry)*, in so many forms at most. If no tokens are left there is no entry, and the ')'
-- that must follow is missing.
abbrev pub entries : {T : Type 0} → Key → (Toks → Parse T) → ℕ → Toks → Parse (List T)
entries k entry zero toks = Some ([], toks)
entries k entry (suc n) toks = entry toks >>= (λ x. elim (again k x.1) [
  | Some t ↦ entries k entry n t >>= λ xs. Some (x.0 ∷ xs.0, xs.1)
  | None ↦ Some (x.0 ∷ [], x.1)
])

-- name flag*
abbrev pub exported : Toks → Parse (Bor (List ℕ) × ℕ)
exported toks = name toks >>= λ nm. flags nm.1 >>= λ fs. Some ((nm.0, fs.0), fs.1)

-- name name flag*
abbrev pub imported : Toks → Parse (Bor (List ℕ) × Bor (List ℕ) × ℕ)
imported toks = name toks >>= λ m. name m.1 >>= λ nm. flags nm.1 >>= λ fs. Some ((m.0, nm.0, fs.0), fs.1)

-- ('(' 'export-info' name flag* ')')+ and ('(' 'import-info' name name flag* ')')+: neighbouring forms are one subsection
abbrev pub exports_info : Toks → Parse (List (Bor (List ℕ) × ℕ))
exports_info toks = entries key.ExportInfo exported (count toks) toks

abbrev pub imports_info : Toks → Parse (List (Bor (List ℕ) × Bor (List ℕ) × ℕ))
imports_info toks = entries key.ImportInfo imported (count toks) toks

abbrev pub memory_info : Toks → Parse Dylink0Subsection
memory_info toks = size_and_align key.Memory toks >>= λ m. size_and_align key.Table m.1 >>= λ t.
    Some (dylink.MemInfo m.0.0 m.0.1 t.0.0 t.0.1, t.1)

-- what a subsection contains, by its keyword
abbrev pub subsection_of : Option Key → Toks → Parse Dylink0Subsection
subsection_of (Some key.MemInfo) toks = memory_info toks
subsection_of (Some key.Needed) toks = names toks >>= λ nms. Some (dylink.Needed nms.0, nms.1)
subsection_of (Some key.ExportInfo) toks = exports_info toks >>= λ es. Some (dylink.ExportInfo es.0, es.1)
subsection_of (Some key.ImportInfo) toks = imports_info toks >>= λ is. Some (dylink.ImportInfo is.0, is.1)
subsection_of (Some key.RuntimePath) toks = names toks >>= λ nms. Some (dylink.RuntimePath nms.0, nms.1)
subsection_of (Some key.TargetArch) toks = name toks >>= λ nm. Some (dylink.TargetArch nm.0, nm.1)
subsection_of k toks = None

-- from the keyword on
abbrev pub subsection : Toks → Parse Dylink0Subsection
subsection toks = subsection_of (key_of (peek 0 toks)) (after toks)

-- '(' 'mem-info' ('(' 'memory' size align ')')? ('(' 'table' size align ')')? ')' | '(' 'needed' name* ')' | '(' 'export-info' name flag* ')'
--   | '(' 'import-info' name name flag* ')' | '(' 'runtime-path' name* ')' | '(' 'target-arch' name ')', as `wast` writes them
abbrev pub subsection_form : Toks → Parse Dylink0Subsection
subsection_form toks = lparen toks >>= λ t. subsection t >>= λ s. rparen s.1 >>= λ rest. Some (s.0, rest)

abbrev pub subsections : Toks → Parse (List Dylink0Subsection)
subsections toks = many goes_on subsection_form (count toks) toks

-- '(@dylink.0' subsection* ')' (tool conventions: dynamic linking)
abbrev pub dylinkfield : Toks → Parse Custom
dylinkfield toks = subsections (after toks) >>= λ ss. Some (custom.Dylink0 (record { subsections = ss.0 }), ss.1)
