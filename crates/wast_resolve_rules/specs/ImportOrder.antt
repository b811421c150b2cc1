-- The order of imports: they must come before definitions (text format: modules). A field with an inline import is an
-- import too (abbreviations).
--
--   (func) (import "" "" (func))                     E1 at the import: it is after a function
--   (func) (func (import "" ""))                     E1 at the second function
--   (memory 1) (tag) (import "" "" (func))           E1: it is after a tag, the last definition
use Rattle.std.specs.Prelude.{ℕ, Bool, true, false, List, [], ◌∷◌, Option, Some, None, codes}
use Rattle.std.specs.Option.{option_or}
use Rattle.wast_base.specs.Faults.{ImportAfter}
use Rattle.wast_tree_nodes.specs.Imports.{defined_space}
use Rattle.wast_base.specs.Spaces.{word_of}
use Rattle.wast_tree_nodes.specs.Profiles.{Defined, Nothing, Types, Imported, Lone, profile_of}
use Rattle.wast_resolve_rules.specs.Tree.{Span, Space, ModuleField}
use Rattle.wast_resolve_rules.specs.Tree.space
use Rattle.wast_base.specs.FirstUnmet.{Demand, one_demand}

-- the span of a field, if its import is inline
abbrev pub imported_at : Span → Option Bool → Option Span
imported_at span None = None
imported_at span (Some false) = None
imported_at span (Some true) = Some span

-- the span of a field, if it is an import
abbrev pub import_at : Span → Defined → Option Span
import_at span Nothing = None
import_at span (Types ts) = None
import_at span (Imported i) = Some span
import_at span (Lone a) = imported_at span a.imported

-- the same for a field
abbrev pub import_place : ModuleField → Option Span
import_place f = import_at (profile_of f).span (profile_of f).items

-- what a field defines, unless it is an import
abbrev pub unless_import : Option Span → Option Space → Option Space
unless_import None s = s
unless_import (Some place) s = None

-- The index space in which a field defines an item, if such items can be imported. An import defines nothing.
abbrev pub defines : ModuleField → Option Space
defines x = unless_import (import_place x) (defined_space x)

-- the index space of the last definition
abbrev pub last_defined : List ModuleField → Option Space
last_defined [] = None
last_defined (x ∷ xs) = option_or (last_defined xs) (defines x)

-- the kind of item in an index space, as a word for the message
abbrev pub defined_word : Space → List ℕ
defined_word space.Func = codes "function"
defined_word space.Table = word_of space.Table
defined_word space.Memory = word_of space.Memory
defined_word space.Global = word_of space.Global
defined_word space.Tag = word_of space.Tag
defined_word space.Elem = word_of space.Elem
defined_word space.Data = word_of space.Data
defined_word space.Ty = word_of space.Ty

-- The check that there is no definition before an import.
abbrev pub nothing_defined : Option Space → Option Span → List Demand
nothing_defined last None = []
nothing_defined None (Some place) = []
nothing_defined (Some s) (Some place) = one_demand (ImportAfter (defined_word s)) place false

-- the check of a field, given the fields before it
abbrev pub order_demand : List ModuleField → ModuleField → List Demand
order_demand before x = nothing_defined (last_defined before) (import_place x)
