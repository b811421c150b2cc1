-- The items of a module, and what a field defines, do not depend on the addresses of names and strings.
--
--   (func $f (export "a"))      one item, the function $f, wherever "a" is
use Rattle.std.specs.Borrow.{Bor}
use Rattle.std.specs.List.{flat_map}
use Rattle.std.proofs.Common.{◌≡◌, ℕ, List, [], ◌∷◌, ◌++◌, map, refl, ap}
use Rattle.wast_base.specs.Ids.{mark_of_option}
use Rattle.wast_tree_nodes.specs.Imports.{item_sigs, defined_space}
use Rattle.wast_tree_nodes.specs.Items.{space_of_kind, item_of_sig, items_of_type, items_of_import, items_in, items}
use Rattle.wast_tree_nodes.specs.Profiles.{is_imported_func, is_imported_table, is_imported_memory, is_imported_global, is_imported_tag}
use Rattle.wat_syntax.specs.Tree.{FuncKind, TableKind, MemoryKind, GlobalKind, TagKind, ItemKind, ItemSig, ImportItems, ModuleField}
use Rattle.wat_syntax.specs.Tree.space
use Rattle.wat_syntax.specs.Tree.ty
use Rattle.wat_syntax.specs.Tree.func
use Rattle.wat_syntax.specs.Tree.table
use Rattle.wat_syntax.specs.Tree.memory
use Rattle.wat_syntax.specs.Tree.global
use Rattle.wat_syntax.specs.Tree.tag_kind
use Rattle.wat_syntax.specs.Tree.kind
use Rattle.wat_syntax.specs.Tree.import_items
use Rattle.wat_syntax.specs.Tree.field
use Rattle.wat_syntax.specs.Bare.{bare_text}
use Rattle.wat_syntax.specs.BareFields.{bare_import_items, bare_item_sig, bare_memory_kind, bare_tag_kind}
use Rattle.wat_ready.specs.Shown.{shown_field, shown_fields, shown_func_kind, shown_global_kind, shown_item, shown_item_kind}
use Rattle.wat_ready.specs.Shown.{shown_item_sig, shown_items, shown_table_kind, shown_type}
use Rattle.wat_ready.proofs.ShownLists.{flat_same}
use Rattle.wat_ready.proofs.ShownTypeParts.{fields_shown}

-- the item of a type
pub type_items : (t : ty.«Type») → items_of_type (shown_type t) ≡ items_of_type t
type_items t = λ i. record { space = space.Ty; id = mark_of_option t.id; fields = fields_shown t.def.kind i } ∷ []

-- imported items
pub kind_space : (k : ItemKind) → space_of_kind (shown_item_kind k) ≡ space_of_kind k
kind_space (kind.Func u) = refl
kind_space x = refl

sig_item : (s : ItemSig) → item_of_sig (shown_item_sig s) ≡ item_of_sig s
sig_item s = λ i. record { space = kind_space s.kind i; id = mark_of_option s.id; fields = [] }

-- The signatures of an import, each changed: those of a group, and one that names share.
abbrev Named : Type 0
Named = Bor (List ℕ) × ItemSig

module _ (change : ItemSig → ItemSig) where
  grouped : (ps : List Named)
      → map (λ (p : Named). p.1) (map (λ (p : Named). (bare_text p.0, change p.1)) ps) ≡ map change (map (λ (p : Named). p.1) ps)
  grouped [] = refl
  grouped (p ∷ ps) = ap (λ (sigs : List ItemSig). change p.1 ∷ sigs) (grouped ps)

  shared : (s : ItemSig) (names : List (Bor (List ℕ)))
      → map (λ (name : Bor (List ℕ)). change s) (map bare_text names) ≡ map change (map (λ (name : Bor (List ℕ)). s) names)
  shared s [] = refl
  shared s (name ∷ names) = ap (λ (sigs : List ItemSig). change s ∷ sigs) (shared s names)

pub sigs_shown : (x : ImportItems) → item_sigs (shown_items x) ≡ map shown_item_sig (item_sigs x)
sigs_shown (import_items.Single source name sig) = refl
sigs_shown (import_items.Group1 source items) = grouped shown_item_sig items
sigs_shown (import_items.Group2 source sig names) = shared shown_item_sig sig names

pub sigs_bare : (x : ImportItems) → item_sigs (bare_import_items x) ≡ map bare_item_sig (item_sigs x)
sigs_bare (import_items.Single source name sig) = refl
sigs_bare (import_items.Group1 source items) = grouped bare_item_sig items
sigs_bare (import_items.Group2 source sig names) = shared bare_item_sig sig names

-- a signature that names share
shared_items : (s : ItemSig) (names : List (Bor (List ℕ)))
    → flat_map (λ (name : Bor (List ℕ)). item_of_sig (shown_item_sig s) ∷ []) (map bare_text names)
    ≡ flat_map (λ (name : Bor (List ℕ)). item_of_sig s ∷ []) names
shared_items s [] = refl
shared_items s (name ∷ names) = λ i. sig_item s i ∷ shared_items s names i

import_items_same : (m : ImportItems) → items_of_import (shown_items m) ≡ items_of_import m
import_items_same (import_items.Single source name sig) = λ i. sig_item sig i ∷ []
import_items_same (import_items.Group1 source items) =
    flat_same shown_item (λ (p : Bor (List ℕ) × ItemSig). item_of_sig p.1 ∷ []) (λ p i. sig_item p.1 i ∷ []) items
import_items_same (import_items.Group2 source sig names) = shared_items sig names

-- the items of a field, and of all fields
pub items_of_shown : (x : ModuleField) → items_in (shown_field x) ≡ items_in x
items_of_shown (field.Ty t) = type_lone t
  where
    type_lone : (t : ty.«Type») → flat_map items_of_type (shown_type t ∷ []) ≡ flat_map items_of_type (t ∷ [])
    type_lone t = λ i. type_items t i ++ []
items_of_shown (field.Rec r) = flat_same shown_type items_of_type type_items r.types
items_of_shown (field.Import m) = import_items_same m.items
items_of_shown x = refl

pub items_shown : (xs : List ModuleField) → items (shown_fields xs) ≡ items xs
items_shown xs = flat_same shown_field items_in items_of_shown xs

-- the index space in which a field defines an item that could be imported
pub defined_shown : (x : ModuleField) → defined_space (shown_field x) ≡ defined_space x
defined_shown (field.Ty t) = refl
defined_shown x = refl

-- whether a field has an inline import
pub func_imported : (k : FuncKind) → is_imported_func (shown_func_kind k) ≡ is_imported_func k
func_imported (func.Import source exact) = refl
func_imported (func.Inline locals e) = refl

pub table_imported : (k : TableKind) → is_imported_table (shown_table_kind k) ≡ is_imported_table k
table_imported (table.Import source ty) = refl
table_imported x = refl

pub memory_imported : (k : MemoryKind) → is_imported_memory (bare_memory_kind k) ≡ is_imported_memory k
memory_imported (memory.Import source ty) = refl
memory_imported x = refl

pub global_imported : (k : GlobalKind) → is_imported_global (shown_global_kind k) ≡ is_imported_global k
global_imported (global.Import source) = refl
global_imported (global.Inline e) = refl

pub tag_imported : (k : TagKind) → is_imported_tag (bare_tag_kind k) ≡ is_imported_tag k
tag_imported (tag_kind.Import source) = refl
tag_imported tag_kind.Inline = refl
