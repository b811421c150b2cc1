-- Listing the source ids of a resolved module: a visitor for each index space, item by item.
--
--   the index space func; items (func $f) (memory $m 1) (func $g)      it adds $f with 0 and $g with 1
use Rattle.std.specs.Prelude.{◌≡◌, ◌+◌, false, List, [], ◌++◌, length, map, Option}
use Rattle.wast_base.specs.Ids.{Mark}
use Rattle.wast_tree_nodes.specs.Items.{Item, items}
use Rattle.wast_core_name_section.specs.GivenNames.{named_from}
use Rattle.wast_core.specs.declared.module.ModuleKind.{ModuleKind}
use Rattle.wast_core.specs.declared.module.ModuleKind.TheVariants as kind
use Rattle.wat_bytes.specs.Names.{content_of}
use Rattle.wat_bytes.specs.declared.lister.Lister.{Lister}

-- A lister before and after items of its index space with these source ids. If it has not stopped, it has counted the items, and has
-- added an entry for each id.
pub record ListsOn (old : Lister) (ids : List (Option Mark)) (new : Lister) : Type 0 where
  pub space : new.space ≡ old.space
  pub runs : new.is_stopped ≡ false → old.is_stopped ≡ false
  pub next : new.is_stopped ≡ false → new.next ≡ old.next + length ids
  pub listed : new.is_stopped ≡ false → map content_of new.listed.items ≡ map content_of old.listed.items ++ map (λ e. (old.space, e)) (named_from old.next ids)

-- The items of the fields that a module holds.
abbrev pub items_held : ModuleKind → List Item
items_held (kind.Text fields) = items fields
items_held (kind.Binary pieces) = []
items_held (kind.Refused e) = []
