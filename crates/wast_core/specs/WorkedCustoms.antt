-- Example modules with custom sections, and what they mean, as the prover computes it. They hold for texts at any
-- addresses.
use Rattle.std.specs.Prelude.{ℕ, List, [], ◌∷◌, ◌++◌, Some, codes}
use Rattle.wast_tree_nodes.specs.WorkedModules.{Address, text, place, id_at, by_number, plain_func}
use Rattle.wast_core.specs.Tree.{CustomPlace}
use Rattle.wast_core.specs.Tree.anchor
use Rattle.wast_core.specs.Tree.custom_place as at
use Rattle.wast_core.specs.Tree.dylink
use Rattle.wast_core.specs.WorkedMeanings.{HasBytes, one_type, one_func, one_body, first_type}
use Rattle.wast_core.specs.Tree.{ModuleField}
use Rattle.wast_core.specs.Tree.custom
use Rattle.wast_core.specs.Tree.field

-- `(@custom ".." .. "..")`, with a name, a position and one piece.
abbrev pub custom_of : Address → Address → List ℕ → CustomPlace → List ℕ → ModuleField
custom_of a b name stands letters = field.Custom (custom.Raw (record { span = place 9; place = stands; name = text a name; bytes = text b letters ∷ [] }))

-- `(module (type (func)) (func $f (type 0)) (@custom "name" ""))`: the names of the module are left out.
abbrev pub OwnNames : Type 0
OwnNames = (a b c : Address) →
    let named = field.Func (plain_func (Some (id_at a (codes "f") 28)) 22 (by_number 0 37) []) in
    HasBytes (first_type ∷ named ∷ custom_of b c (codes "name") at.AfterLast [] ∷ []) (one_type ++ (one_func ++ (one_body ++ 0x00 ∷ 0x05 ∷ 0x04 ∷ 0x6e ∷ 0x61 ∷ 0x6d ∷ 0x65 ∷ [])))

-- `(module (@custom "c" (before start) "x"))`: it is written, although there is no start section.
abbrev pub Row29 : Type 0
Row29 = (a b : Address) → HasBytes (custom_of a b (codes "c") (at.Before anchor.Start) (codes "x") ∷ []) (0x00 ∷ 0x03 ∷ 0x01 ∷ 0x63 ∷ 0x78 ∷ [])

-- `(module (@custom "a" (before func) "1") (@custom "b" (after type) "2"))`: the positions decide, and not the order of
-- the source.
abbrev pub Row51 : Type 0
Row51 = (a b c d : Address) →
    HasBytes (custom_of a b (codes "a") (at.Before anchor.Func) (codes "1") ∷ custom_of c d (codes "b") (at.After anchor.Ty) (codes "2") ∷ [])
    (0x00 ∷ 0x03 ∷ 0x01 ∷ 0x62 ∷ 0x32 ∷ 0x00 ∷ 0x03 ∷ 0x01 ∷ 0x61 ∷ 0x31 ∷ [])

-- `(module (@producers (language "R" "1")))`
abbrev pub Row52 : Type 0
Row52 = (a b c : Address) →
    HasBytes (field.Custom (custom.Producers (record { fields = (text a (codes "language"), (text b (codes "R"), text c (codes "1")) ∷ []) ∷ [] })) ∷ [])
    (0x00 ∷ 0x19 ∷ 0x09 ∷ 0x70 ∷ 0x72 ∷ 0x6f ∷ 0x64 ∷ 0x75 ∷ 0x63 ∷ 0x65 ∷ 0x72 ∷ 0x73 ∷ 0x01 ∷ 0x08 ∷ 0x6c ∷ 0x61 ∷ 0x6e ∷ 0x67 ∷ 0x75 ∷ 0x61 ∷ 0x67 ∷ 0x65 ∷ 0x01 ∷ 0x01 ∷ 0x52 ∷ 0x01 ∷ 0x31 ∷ [])

-- `(module (@dylink.0 (mem-info (memory 1 0))))`
abbrev pub Row53 : Type 0
Row53 =
    HasBytes (field.Custom (custom.Dylink0 (record { subsections = dylink.MemInfo 1 0 0 0 ∷ [] })) ∷ [])
    (0x00 ∷ 0x0f ∷ 0x08 ∷ 0x64 ∷ 0x79 ∷ 0x6c ∷ 0x69 ∷ 0x6e ∷ 0x6b ∷ 0x2e ∷ 0x30 ∷ 0x01 ∷ 0x04 ∷ 0x01 ∷ 0x00 ∷ 0x00 ∷ 0x00 ∷ [])
