-- The ids of a text with their indices and positions: those of the items of the module that the text denotes (text format: identifiers,
-- indices).
--
--   (module (func) (func $f))      $f, at 21, is the function 1
use Rattle.std.specs.Prelude.{◌≡◌, ⊤, ℕ, List, [], ◌∷◌, map, flat_map, Option, Some, None, Result, Ok, Err, ◌⊎◌, if◌then◌else◌}
use Rattle.std.specs.Global.{Vec}
use Rattle.wast_base.specs.declared.faults.Error.{Error}
use Rattle.wast_base.specs.declared.spaces.Space.{Space}
use Rattle.wast_base.specs.Faults.{out_of_memory}
use Rattle.wast_base.specs.Ids.{Written, Generated, Mark, mark_of}
use Rattle.wast_base.specs.Spaces.{spaces, same_space}
use Rattle.wast_tree_nodes.specs.Items.{Item, items}
use Rattle.wast_tree_nodes.specs.Known.{id_context}
use Rattle.wast_resolve_names.specs.Resolvers.{KnownNames}
use Rattle.wast_resolve_rules.specs.Explicit.{explicit_fields, explicit_fields_from}
use Rattle.wast_core_name_section.specs.GivenNames.{named_from}
use Rattle.wast_core.specs.declared.module.Module.{Module}
use Rattle.wast_core.specs.declared.module.ModuleKind.{ModuleKind}
use Rattle.wast_core.specs.declared.module.ModuleKind.TheVariants as kind
use Rattle.wast_core.specs.Modules.{IsReady}
use Rattle.wast_core.specs.Headline.{IsMet, ResolvesKind}
use Rattle.wat_text.specs.declared.modules.TextModule.{TextModule}
use Rattle.wat_bytes.specs.declared.names.Denoted.{Denoted}
use Rattle.wat_bytes.specs.declared.refusals.Refused.{Refused}
use Rattle.wat_bytes.specs.declared.refusals.Refused.TheVariants as answer
use Rattle.wat_bytes.specs.Texts.{module_of}

-- The result of resolving a module that may be resolved, as the headline theorem states it, with the id counter at 1.
pub record ResolvesReady (m : Module) (r : Result KnownNames Error) : Type 0 where
  pub ready : IsReady m 1
  pub left : ModuleKind
  pub resolves : ResolvesKind 1 m.kind r left

-- The items of a module, with the ids that resolving generates from a counter at 1.
abbrev pub items_with_ids : ModuleKind → List Item
items_with_ids (kind.Text fields) = items (explicit_fields_from 1 fields)
items_with_ids (kind.Binary pieces) = []
items_with_ids (kind.Refused e) = []

-- Each check of resolving passes.
abbrev pub IsMetKind : ModuleKind → Type 0
IsMetKind (kind.Text fields) = IsMet fields
IsMetKind (kind.Binary pieces) = ⊤
IsMetKind (kind.Refused e) = ⊥

-- A module that resolves.
pub record IsResolvable (m : Module) : Type 0 where
  pub ready : IsReady m 1
  pub met : IsMetKind m.kind

-- The index of a source name in an index space of a module, if there is one.
abbrev pub number_in : Module → Space → List ℕ → Option ℕ
number_in m s name = (id_context (items_with_ids m.kind)).number s (Written name)

-- Why a module has no names.
abbrev pub HasNoNames : Module → Refused → Type 0
HasNoNames m (answer.Text e) = ⊥
HasNoNames m (answer.Module e) = ResolvesReady m (Err e)
HasNoNames m (answer.Uncovered u) = ⊥

-- The result of resolving a module.
abbrev pub ResolvesModule : Module → Result KnownNames Refused → Type 0
ResolvesModule m (Ok names) = ResolvesReady m (Ok names)
ResolvesModule m (Err r) = HasNoNames m r

-- What an entry of a list says: an index space, and an index with the name and the position of its id.
abbrev pub Entry : Type 0
Entry = Space × (ℕ × Mark)

-- The same of the code's entry, without the address of the name.
abbrev pub content_of : Denoted → Entry
content_of d = (d.space, (d.number, mark_of d.id))

-- An id, if it is from the source. `$f` is, and a generated id is not.
abbrev pub source_mark : Option Mark → Option Mark
source_mark None = None
source_mark (Some (Written text, place)) = Some (Written text, place)
source_mark (Some (Generated n, place)) = None

-- The source id of an item, or none, if the item is of this index space.
abbrev pub id_in : Space → Item → List (Option Mark)
id_in s x = if same_space s x.space then source_mark x.id ∷ [] else []

-- The source ids of the items of an index space, in the order of the items, each with its index: its position among these items.
abbrev pub ids_in : Space → List Item → List (ℕ × Mark)
ids_in s xs = named_from 0 (flat_map (id_in s) xs)

-- The same, as entries.
abbrev pub entries_in : List Item → Space → List Entry
entries_in xs s = map (λ e. (s, e)) (ids_in s xs)

-- The entries of all index spaces, in the order of their ranks. Those of `(func) (func $f) (memory $m 1)` are $f, the function 1, and $m,
-- the memory 0. WorkedNames computes an example.
abbrev pub entries_of : List Item → List Entry
entries_of xs = flat_map (entries_in xs) spaces

-- The items of a module, those of its inline parts and implicit types included. A binary module has none here.
abbrev pub items_of : ModuleKind → List Item
items_of (kind.Text fields) = items (explicit_fields fields)
items_of (kind.Binary pieces) = []
items_of (kind.Refused e) = []

-- The list of the names of a module: the module resolves, and the list has the source ids of its items.
pub record Lists (m : Module) (all : List Denoted) : Type 0 where
  pub resolves : IsResolvable m
  pub listed : map content_of all ≡ entries_of (items_of m.kind)

-- The result of listing the names of a module that may be resolved. It may fail for want of memory for the list.
abbrev pub ListsReady : Module → Result (Vec Denoted) Error → Type 0
ListsReady m (Ok all) = Lists m all.items
ListsReady m (Err e) = ResolvesReady m (Err e) ⊎ (IsReady m 1 × (e ≡ out_of_memory))

-- Why a module has no list of names.
abbrev pub HasNoList : Module → Refused → Type 0
HasNoList m (answer.Text e) = ⊥
HasNoList m (answer.Module e) = ListsReady m (Err e)
HasNoList m (answer.Uncovered u) = ⊥

-- The result of listing the names of a module, and of a parsed one.
abbrev pub ListsModule : Module → Result (Vec Denoted) Refused → Type 0
ListsModule m (Ok all) = Lists m all.items
ListsModule m (Err r) = HasNoList m r

abbrev pub ListsText : TextModule → Result (Vec Denoted) Refused → Type 0
ListsText t r = ListsModule (module_of t) r

-- The index of a name in an index space of a module, if there is one.
pub record Numbers (space : Space) (name : List ℕ) (m : Module) (found : Option ℕ) : Type 0 where
  pub resolves : IsResolvable m
  pub denotes : found ≡ number_in m space name

-- The result of looking a name up in a module, and in a parsed one.
abbrev pub NumbersModule : Space → List ℕ → Module → Result (Option ℕ) Refused → Type 0
NumbersModule space name m (Ok found) = Numbers space name m found
NumbersModule space name m (Err r) = HasNoNames m r

abbrev pub NumbersText : Space → List ℕ → TextModule → Result (Option ℕ) Refused → Type 0
NumbersText space name t r = NumbersModule space name (module_of t) r
