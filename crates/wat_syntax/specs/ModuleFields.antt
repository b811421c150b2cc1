-- The fields of a module, by their keywords (text format: modules).
use Rattle.std.specs.Prelude.{List, Option, None, Some}
use Rattle.wat_syntax.specs.Tree.{ModuleField}
use Rattle.wat_syntax.specs.Tree.field
use Rattle.wat_grammar.specs.Parts.{◌>>=◌}
use Rattle.wat_tokens.specs.declared.words.Key.{Key}
use Rattle.wat_tokens.specs.declared.words.Key.TheVariants as key
use Rattle.wat_tokens.specs.declared.tokens.Token.{Token}
use Rattle.wat_tokens.specs.declared.tokens.Token.TheVariants as token
use Rattle.wat_tokens.specs.declared.tokens.Annotation.TheVariants as annotation
use Rattle.wat_syntax.specs.Tokens.{Toks, Parse, peek, after, count, key_of, rparen, many}
use Rattle.wat_syntax.specs.Types.{goes_on, typedef, rectype}
use Rattle.wat_syntax.specs.Modules.{importfield, tagfield, startfield, exportfield}
use Rattle.wat_syntax.specs.Fields.{funcfield, tablefield, memoryfield, globalfield}
use Rattle.wat_syntax.specs.Segments.{elemfield, datafield}
use Rattle.wat_syntax.specs.Customs.{customfield, producersfield, dylinkfield}

-- a field after its '(', by its keyword
abbrev pub form_of : Option Key → Toks → Parse ModuleField
form_of (Some key.Ty) toks = typedef toks >>= λ x. Some (field.Ty x.0, x.1)
form_of (Some key.Rec) toks = rectype toks >>= λ x. Some (field.Rec x.0, x.1)
form_of (Some key.Import) toks = importfield toks >>= λ x. Some (field.Import x.0, x.1)
form_of (Some key.Func) toks = funcfield toks >>= λ x. Some (field.Func x.0, x.1)
form_of (Some key.Table) toks = tablefield toks >>= λ x. Some (field.Table x.0, x.1)
form_of (Some key.Memory) toks = memoryfield toks >>= λ x. Some (field.Memory x.0, x.1)
form_of (Some key.Global) toks = globalfield toks >>= λ x. Some (field.Global x.0, x.1)
form_of (Some key.Export) toks = exportfield toks >>= λ x. Some (field.Export x.0, x.1)
form_of (Some key.Start) toks = startfield toks
form_of (Some key.Elem) toks = elemfield toks >>= λ x. Some (field.Elem x.0, x.1)
form_of (Some key.Data) toks = datafield toks >>= λ x. Some (field.Data x.0, x.1)
form_of (Some key.Tag) toks = tagfield toks >>= λ x. Some (field.Tag x.0, x.1)
form_of k toks = None

abbrev pub fieldform : Toks → Parse ModuleField
fieldform toks = form_of (key_of (peek 0 toks)) toks

-- a field before its ')', by its first token: a custom section is an annotation
abbrev pub field_of : Option Token → Toks → Parse ModuleField
field_of (Some token.Open) toks = fieldform (after toks)
field_of (Some (token.Annotation annotation.Custom)) toks = customfield toks >>= λ x. Some (field.Custom x.0, x.1)
field_of (Some (token.Annotation annotation.Producers)) toks = producersfield toks >>= λ x. Some (field.Custom x.0, x.1)
field_of (Some (token.Annotation annotation.Dylink0)) toks = dylinkfield toks >>= λ x. Some (field.Custom x.0, x.1)
field_of t toks = None

abbrev pub open_field : Toks → Parse ModuleField
open_field toks = field_of (peek 0 toks) toks

-- modulefield ::= ty:rectype | im:import | fn:func | .. (text format: modules), and custom sections
abbrev pub modulefield : Toks → Parse ModuleField
modulefield toks = open_field toks >>= λ f. rparen f.1 >>= λ rest. Some (f.0, rest)

-- modulefield*
abbrev pub modulefields : Toks → Parse (List ModuleField)
modulefields toks = many goes_on modulefield (count toks) toks
