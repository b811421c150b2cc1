-- An example module whose generated id is renamed by a map of one entry, as the prover computes it. It holds for texts
-- at any addresses.
use Rattle.std.specs.Prelude.{◌≡◌, List, [], ◌∷◌, None, codes}
use Rattle.wast_base.specs.Ids.{Written, Generated}
use Rattle.wast_tree_nodes.specs.WorkedModules.{Address, text}
use Rattle.wast_expand_inline.specs.Written.{desugared_from}
use Rattle.wast_resolve_laws.specs.Extended.{FiniteNaming}
use Rattle.wast_resolve_laws.specs.Renaming.{Renaming, IsRenaming, renamed_fields}
use Rattle.wast_core.specs.FiniteNames.{renaming_by}
use Rattle.wast_core.specs.Front.{front_bytes, names_bytes}
use Rattle.wast_core.specs.Headline.{IsMet}
use Rattle.wast_core.specs.Tree.{ModuleField}
use Rattle.wast_core.specs.Tree.field
use Rattle.wast_core.specs.WorkedAbbreviations.{a_func}
use Rattle.wast_core.specs.WorkedMeanings.{one_name}

-- `(module (func (export "a")))`: its export is inline, and its function has no id.
abbrev pub exported : Address → List ModuleField
exported a = field.Func (record a_func { exports = record { names = text a (codes "a") ∷ [] } }) ∷ []

-- The map from the id that the counter generates at 1 to `$f`.
abbrev pub one_sent : FiniteNaming
one_sent = (Generated 1, Written (codes "f")) ∷ []

-- The renaming by this map, with the text of each id at one address.
abbrev pub sending : Address → Renaming
sending b = renaming_by (λ id. b) one_sent

-- The map is a renaming. Desugaring from 1 returns `(func $gensym) (export "a" (func $gensym))`. Renamed, it is `(func
-- $f) (export "a" (func $f))`. The bytes before the name section are those of the module. A name section that calls
-- function 0 `f` follows, which the module does not have.
abbrev pub GeneratedIsWritten : Type 0
GeneratedIsWritten = (a b : Address) →
    let out = desugared_from 1 (exported a) in
    let others = renamed_fields (sending b) out in
    IsRenaming (sending b)
    × IsMet others
    × (front_bytes others ≡ front_bytes (exported a))
    × (names_bytes None (exported a) ≡ [])
    × (names_bytes None out ≡ [])
    × (names_bytes None others ≡ one_name 0x00 0x66)
