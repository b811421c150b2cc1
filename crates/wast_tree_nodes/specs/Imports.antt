-- The signatures of an import, and the fields that no import may come after (text format: imports, modules).
--
-- A group of imports can share a signature. `item_sigs` has one for each item, and `unique_sigs` one for each in the source.
--
--   a group of the names "a", "b" that share `(func $f)`     item_sigs: 2 signatures; unique_sigs: 1
use Rattle.std.specs.Prelude.{List, [], ◌∷◌, map, Option, None, option_map}
use Rattle.wast_tree_nodes.specs.Tree.{Space, ItemSig, ImportItems, ModuleField}
use Rattle.wast_tree_nodes.specs.Tree.import_items
use Rattle.wast_tree_nodes.specs.Profiles.{Defined, Nothing, Types, Imported, Lone, profile_of}

-- the signatures, one for each item
abbrev pub item_sigs : ImportItems → List ItemSig
item_sigs (import_items.Single source name sig) = sig ∷ []
item_sigs (import_items.Group1 source items) = map (λ p. p.1) items
item_sigs (import_items.Group2 source sig names) = map (λ name. sig) names

-- the signatures, one for each in the source
abbrev pub unique_sigs : ImportItems → List ItemSig
unique_sigs (import_items.Single source name sig) = sig ∷ []
unique_sigs (import_items.Group1 source items) = map (λ p. p.1) items
unique_sigs (import_items.Group2 source sig items) = sig ∷ []

-- the index space of a field's item, if the field has one item of a kind that can be imported
abbrev pub importable_space : Defined → Option Space
importable_space Nothing = None
importable_space (Types ts) = None
importable_space (Imported i) = None
importable_space (Lone a) = option_map (λ imported. a.space) a.imported

-- the same for a field
abbrev pub defined_space : ModuleField → Option Space
defined_space f = importable_space (profile_of f).items
