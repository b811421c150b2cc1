-- The values of `producers`, as the code keeps them, and the tokens that a reader counts.
use Rattle.std.specs.Prelude.{◌≡◌, List, [], ◌∷◌, ◌++◌, Some, None, codes}
use Rattle.wat_tokens.specs.declared.tokens.Token.TheVariants as token
use Rattle.wat_syntax.specs.Customs.{Language, Sdk, ProcessedBy, Version}
use Rattle.wat_syntax.specs.Values.{text_of}
use Rattle.wat_syntax.specs.Worked.{placed, toks}
use Rattle.wat_text.specs.declared.customs.Made.{Made}
use Rattle.wat_text.specs.declared.customs.Tool.TheVariants as tool
use Rattle.wat_text.specs.MadeProducers.{tool_field, IsPut, versions_with}
use Rattle.wat_text.specs.Readers.{exactly, grouped}

-- the tools R and S in version 1
abbrev pub r1 : Version
r1 = (text_of (codes "R"), text_of (codes "1"))

abbrev pub s1 : Version
s1 = (text_of (codes "S"), text_of (codes "1"))

-- values of language alone
abbrev pub languages : List Version → Made
languages versions = record { languages = versions; sdks = []; processors = [] }

-- `(language "S" "1")` is put behind the languages that there are; of the values that come next, those of language go behind them
abbrev pub Producers : Type 0
Producers = (tool_field tool.ProcessedBy ≡ ProcessedBy) × IsPut (tool.Language, s1) (languages (r1 ∷ [])) (languages (r1 ∷ (s1 ∷ [])))
    × (versions_with (r1 ∷ []) Language (Some ((Sdk, r1) ∷ ((Language, s1) ∷ []), toks [])) ≡ Some (r1 ∷ (s1 ∷ []), toks []))
    × (versions_with (r1 ∷ []) Language None ≡ None)

-- Of the tokens `( )`, one is '(' alone. Where three are counted and no group comes after them, a ')' at the start takes the place of the
-- third.
abbrev pub Counted : Type 0
Counted = (exactly 1 (placed 0 (token.Open ∷ (token.Close ∷ []))) ≡ placed 0 (token.Open ∷ []))
    × (grouped (placed 0 (token.Open ∷ (token.Close ∷ []))) 3 [] ≡ placed 0 (token.Open ∷ (token.Close ∷ [])) ++ placed 0 (token.Close ∷ []))
