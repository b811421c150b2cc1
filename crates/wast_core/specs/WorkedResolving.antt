-- Which example modules may be resolved, and what resolving them leaves, as the prover computes it. They hold for texts
-- at any addresses.
use Rattle.std.specs.Prelude.{◌≡◌, ℕ, false, List, [], ◌∷◌, Some, None, Ok, Err, codes}
use Rattle.wast_base.specs.declared.ids.Index.TheVariants as index
use Rattle.wast_base.specs.Faults.{error_at}
use Rattle.wast_base.specs.declared.faults.Fault.TheVariants as fault
use Rattle.wast_base.specs.Ids.{Written, Generated, gensym_id}
use Rattle.wast_resolve_namespace.specs.Namespaces.{NameSpace, empty_from, registered}
use Rattle.wast_tree_nodes.specs.Items.{items}
use Rattle.wast_tree_nodes.specs.Known.{id_context}
use Rattle.wast_tree_nodes.specs.WorkedModules.{Address, text, place, by_number, export_field, row27_with, row27, row32}
use Rattle.wast_resolve_names.specs.Resolvers.{KnownNames, no_names, known_to}
use Rattle.wast_core.specs.Tree.space
use Rattle.wast_core.specs.Modules.{is_well_formed, generation_bound, IsReady}
use Rattle.wast_core.specs.Headline.{ResolvesKind, Resolves}
use Rattle.wast_core.specs.declared.module.Module.{Module}
use Rattle.wast_core.specs.declared.module.ModuleKind.{ModuleKind}
use Rattle.wast_core.specs.declared.module.ModuleKind.TheVariants as kind

-- `(module ..)` with this content.
abbrev pub module_of : ModuleKind → Module
module_of k = record { span = place 1; id = None; name = None; kind = k }

-- Row 27 may be resolved with any counter, and so may content without fields. A generated id needs a counter past it.
-- If an index is a generated id and no item has it, the module is not well formed.
abbrev pub ReadyModules : Type 0
ReadyModules = (a b c d e f : Address) →
    let unknown = module_of (kind.Text (export_field a 8 (index.Id (gensym_id 7 (place 26))) ∷ [])) in
    IsReady (module_of (kind.Text (row27 a b c d e f))) 1
    × IsReady (module_of (kind.Binary (text a (codes "a") ∷ []))) 1
    × IsReady (record (module_of (kind.Text [])) { id = Some (gensym_id 7 (place 8)) }) 8
    × (generation_bound unknown ≡ 7)
    × (is_well_formed unknown ≡ false)

-- A namespace with one item, which has this name.
abbrev pub space_of_one : List ℕ → NameSpace
space_of_one name = registered (empty_from 0) (Some (Written name, place 14))

-- The names of row 27: of its functions, of five namespaces without names, of two without items, and of its types.
abbrev pub names27 : KnownNames
names27 = let none = empty_from 0 in record { spaces = space_of_one (codes "f") ∷ none ∷ none ∷ none ∷ none ∷ none ∷ none ∷ space_of_one (codes "t") ∷ [] }

-- In row 27 `$f` is function 0 and `$t` is type 0, and no other id is known.
abbrev pub KnownNames27 : Type 0
KnownNames27 =
    ((known_to names27).number space.Func (Written (codes "f")) ≡ Some 0)
    × ((known_to names27).number space.Ty (Written (codes "t")) ≡ Some 0)
    × ((known_to names27).number space.Func (Written (codes "t")) ≡ None)
    × ((known_to names27).number space.Memory (Written (codes "f")) ≡ None)
    × ((known_to names27).number space.Ty (Generated 1) ≡ None)
    × ((known_to no_names).number space.Func (Written (codes "f")) ≡ None)

-- `(module)` does not change, and has no names. In row 27 each index becomes a number, and no id is generated. A second
-- type `$t` is an error at its id, and the module keeps it. Content without fields does not change.
abbrev pub ResolvedModules : Type 0
ResolvedModules = (a b c d e f : Address) (names : KnownNames) →
    let refusal = error_at (place 31) (fault.Duplicate (text c (codes "type"))) in
    let pieces = text a (codes "a") ∷ [] in
    Resolves (kind.Text []) 1 (Ok no_names) (kind.Text []) 1
    × (known_to names ≡ id_context (items (row27 a b c d e f))
    → Resolves (kind.Text (row27 a b c d e f)) 1 (Ok names) (kind.Text (row27_with a b c (by_number 0 40) (by_number 0 49) (by_number 0 71))) 1)
    × ResolvesKind 1 (kind.Text (row32 a b)) (Err refusal) (kind.Refused refusal)
    × Resolves (kind.Binary pieces) 3 (Ok no_names) (kind.Binary pieces) 3
    × Resolves (kind.Refused refusal) 3 (Err refusal) (kind.Refused refusal) 3
