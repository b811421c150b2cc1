-- The names in fields that have to be UTF-8: those in the import, export and custom sections (binary format, values:
-- names).
--
-- They are all UTF-8, because the AST has them as `&str`.
use Rattle.std.specs.Prelude.{IsTrue}
use Rattle.std.specs.Str.{is_utf8}
use Rattle.wast_tree_nodes.specs.Customs.{custom_name}
use Rattle.wast_core_sections.specs.Tree.{ImportItems, ModuleField}
use Rattle.wast_core_sections.specs.Tree.import_items
use Rattle.wast_core_sections.specs.Tree.field

-- The module name and the item name of an import are UTF-8. A compact import group is an unsupported construct, and has
-- no entry.
abbrev pub HasUtf8Items : ImportItems → Type 0
HasUtf8Items (import_items.Single source name sig) = IsTrue (is_utf8 source.now) × IsTrue (is_utf8 name.now)
HasUtf8Items (import_items.Group1 source items) = Unit {0}
HasUtf8Items (import_items.Group2 source sig names) = Unit {0}

-- The names that a field has in the sections are UTF-8.
abbrev pub HasUtf8Names : ModuleField → Type 0
HasUtf8Names (field.Import i) = HasUtf8Items i.items
HasUtf8Names (field.Export e) = IsTrue (is_utf8 e.name.now)
HasUtf8Names (field.Custom c) = IsTrue (is_utf8 (custom_name c))
HasUtf8Names x = Unit {0}
