-- Custom sections and the fields of a module, as the rules compute them.
use Rattle.std.specs.Prelude.{◌≡◌, [], ◌∷◌, Some, None, codes}
use Rattle.wast_base.specs.declared.ids.Index.TheVariants as by
use Rattle.wat_tokens.specs.declared.words.Key.TheVariants as key
use Rattle.wat_tokens.specs.declared.tokens.Token.TheVariants as token
use Rattle.wat_tokens.specs.declared.tokens.Annotation.TheVariants as annotation
use Rattle.wat_syntax.specs.Tree.custom
use Rattle.wat_syntax.specs.Tree.custom_place
use Rattle.wat_syntax.specs.Tree.anchor
use Rattle.wat_syntax.specs.Tree.dylink
use Rattle.wat_syntax.specs.Tree.field
use Rattle.wat_syntax.specs.Values.{u32, text_of}
use Rattle.wat_syntax.specs.Customs.{customplace, strings, customfield, Language, Sdk, Version, known_field}
use Rattle.wat_syntax.specs.Customs.{versions_of, fields_of, producersfield, flags, entries, dylinkfield}
use Rattle.wat_syntax.specs.ModuleFields.{modulefield, modulefields}
use Rattle.wat_syntax.specs.Worked.{the, num, quoted, toks, made}

-- `(after func)`, `(before first)`, `(after last)` and no place; `(before last)`, `(func)` and `(after func` without its end are none
abbrev pub Places : Type 0
Places = (made (customplace (toks (token.Open ∷ the key.After ∷ the key.Func ∷ token.Close ∷ []))) ≡ Some (custom_place.After anchor.Func, 0))
    × (made (customplace (toks (token.Open ∷ the key.Before ∷ the key.First ∷ token.Close ∷ []))) ≡ Some (custom_place.BeforeFirst, 0))
    × (made (customplace (toks (token.Open ∷ the key.After ∷ the key.Last ∷ token.Close ∷ []))) ≡ Some (custom_place.AfterLast, 0))
    × (made (customplace (toks (quoted (codes "x") ∷ token.Close ∷ []))) ≡ Some (custom_place.AfterLast, 2))
    × (made (customplace (toks (token.Open ∷ the key.Before ∷ the key.Last ∷ token.Close ∷ []))) ≡ None)
    × (made (customplace (toks (token.Open ∷ the key.Func ∷ token.Close ∷ []))) ≡ None)
    × (made (customplace (toks (token.Open ∷ the key.After ∷ the key.Func ∷ []))) ≡ None)
    × (made (strings (toks (quoted (codes "x") ∷ quoted (codes "y") ∷ token.Close ∷ []))) ≡ Some (text_of (codes "x") ∷ (text_of (codes "y") ∷ []), 1))
    × (made (customfield (toks (token.Annotation annotation.Custom ∷ token.Close ∷ []))) ≡ None)

-- the tool R in version 1
abbrev r1 : Version
r1 = (text_of (codes "R"), text_of (codes "1"))

-- two values of language, before and after one of sdk, are one field; no value is no field; `func` is none
abbrev pub Tools : Type 0
Tools = (versions_of Language ((Language, r1) ∷ ((Sdk, r1) ∷ ((Language, r1) ∷ []))) ≡ r1 ∷ (r1 ∷ []))
    × (fields_of (r1 ∷ (r1 ∷ [])) (r1 ∷ []) [] ≡ (text_of (codes "language"), r1 ∷ (r1 ∷ [])) ∷ ((text_of (codes "sdk"), r1 ∷ []) ∷ []))
    × (made (producersfield (toks (token.Annotation annotation.Producers ∷ token.Close ∷ []))) ≡ Some (custom.Producers (record { fields = [] }), 1))
    × (made (known_field (Some key.Sdk) (toks [])) ≡ Some (Sdk, 0)) × (made (known_field (Some key.Func) (toks [])) ≡ None)

-- `tls 0x80` and `func`, which is no flag; `(mem-info (memory 1 2))` has no table; `) (export-info` goes on; two entries of one key
abbrev pub Linking : Type 0
Linking = (made (flags (toks (the key.Tls ∷ num (codes "0x80") ∷ token.Close ∷ []))) ≡ Some (0x180, 1))
    × (made (flags (toks (the key.Func ∷ token.Close ∷ []))) ≡ None)
    × (made (dylinkfield (toks (token.Annotation annotation.Dylink0 ∷ token.Open ∷ the key.MemInfo ∷ token.Open
    ∷ the key.Memory ∷ num (codes "1") ∷ num (codes "2") ∷ token.Close ∷ token.Close ∷ token.Close ∷ [])))
    ≡ Some (custom.Dylink0 (record { subsections = dylink.MemInfo 1 2 0 0 ∷ [] }), 1))
    × (made (entries key.Needed u32 3 (toks (num (codes "1") ∷ token.Close ∷ token.Open ∷ the key.Needed ∷ num (codes "2") ∷ token.Close ∷ [])))
    ≡ Some (1 ∷ (2 ∷ []), 1))
    × (made (entries key.Needed u32 3 (toks (num (codes "1") ∷ token.Close ∷ token.Open ∷ the key.Memory ∷ num (codes "2") ∷ token.Close ∷ [])))
    ≡ Some (1 ∷ [], 5))

-- `(start 0) (@producers)`; `(local)` is no field, and `(start 0` has no end
abbrev pub Fields : Type 0
Fields = (made (modulefields (toks (token.Open ∷ the key.Start ∷ num (codes "0") ∷ token.Close ∷ token.Annotation annotation.Producers ∷ token.Close ∷ [])))
    ≡ Some (field.Start (by.Num 0 (record { offset = 2 })) ∷ (field.Custom (custom.Producers (record { fields = [] })) ∷ []), 0))
    × (made (modulefield (toks (token.Open ∷ the key.Local ∷ token.Close ∷ []))) ≡ None)
    × (made (modulefield (toks (token.Open ∷ the key.Start ∷ num (codes "0") ∷ []))) ≡ None)
