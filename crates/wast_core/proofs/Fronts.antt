-- The parts before the name section do not change, if each index has the same number and each type use the same type.
use Rattle.std.proofs.Common.{◌≡◌, ℕ, Bool, true, false, ◌==◌, not, List, [], ◌∷◌, ◌++◌, map, length, Option, Some, None, refl, ap, ◌∙◌}
use Rattle.std.specs.Prelude.{if◌then◌else◌}
use Rattle.std.specs.Borrow.{Bor}
use Rattle.std.specs.List.{flat_map, filter}
use Rattle.wasm_out.specs.Parts.{SectionKind, Data}
use Rattle.wasm_out.specs.Bodies.{Body}
use Rattle.wast_base.specs.Spaces.{same_space}
use Rattle.wast_tree_nodes.specs.Imports.{item_sigs}
use Rattle.wast_tree_nodes.specs.Items.{space_of_kind}
use Rattle.wast_tree_nodes.specs.Customs.{customs_in, customs_at}
use Rattle.wast_tree_map.specs.Mapped.{Change, mapped_func_kind, mapped_import_items, mapped_item_kind, mapped_sig, mapped_field}
use Rattle.wast_tree_map.specs.Laws.{all_mapped}
use Rattle.wast_core.specs.Tree.{CustomPlace, FunctionType, TypeUse, FuncKind, ItemKind, ItemSig, ImportItems, ModuleField}
use Rattle.wast_core.specs.Tree.space
use Rattle.wast_core.specs.Tree.func
use Rattle.wast_core.specs.Tree.kind
use Rattle.wast_core.specs.Tree.import_items
use Rattle.wast_core.specs.Tree.field
use Rattle.wast_core_sections.specs.declared.slots.Slot.{Slot}
use Rattle.wast_core_sections.specs.declared.slots.Slot.TheVariants as slot
use Rattle.wast_core_sections.specs.Slots.{section_kind, order}
use Rattle.wast_core_conv.specs.Customs.{custom_part}
use Rattle.wast_core_name_section.specs.GivenNames.{named_from}
use Rattle.wast_core_name_section.proofs.Each.{each_like}
use Rattle.wast_core_sections.specs.DataCounts.{count_parts}
use Rattle.wast_core.specs.Front.{KeepsNumbers, is_front, FrontStays}
use Rattle.wast_core_sections.specs.Hints.{if_hinted, imported_func, functions_in, hinted_functions, hints_part}
use Rattle.wast_core_sections.specs.Sections.{Contribution, start_part, starts_in, of_kind, entries_in, entries, section_part, in_slot}
use Rattle.wast_core.proofs.Counting.{same_need}
use Rattle.wast_core.proofs.Told.{contributed_told, body_told}

-- An import does not change, except for its ids and types. An item of a group has its name there.
module _ (f : Change) where
  pub same_space_of : (k : ItemKind) → space_of_kind (mapped_item_kind f k) ≡ space_of_kind k
  same_space_of (kind.Func u) = refl
  same_space_of k = refl

  abbrev Named : Type 0
  Named = Bor (List ℕ) × ItemSig

  pub sigs_changed : (x : ImportItems) → item_sigs (mapped_import_items f x) ≡ map (mapped_sig f) (item_sigs x)
  sigs_changed (import_items.Single source name sig) = refl
  sigs_changed (import_items.Group1 source items) = pairs items
    where
      pairs : (ps : List Named) → map (λ (p : Named). p.1) (map (λ (p : Named). (p.0, mapped_sig f p.1)) ps) ≡ map (mapped_sig f) (map (λ (p : Named). p.1) ps)
      pairs [] = refl
      pairs (p ∷ ps) = ap (λ sigs. mapped_sig f p.1 ∷ sigs) (pairs ps)
  sigs_changed (import_items.Group2 source sig []) = refl
  sigs_changed (import_items.Group2 source sig (name ∷ names)) = copies (name ∷ names)
    where
      copies : (names : List (Bor (List ℕ))) → map (λ name. mapped_sig f sig) names ≡ map (mapped_sig f) (map (λ name. sig) names)
      copies [] = refl
      copies (name ∷ names) = ap (λ sigs. mapped_sig f sig ∷ sigs) (copies names)

module _ (f : Change) (tells : KeepsNumbers f) where
  -- What is read of all fields.
  same_entries : (kind : SectionKind) (xs : List ModuleField) → entries kind (all_mapped f xs) ≡ entries kind xs
  same_entries kind xs = each_like (mapped_field f) (entries_in kind) (entries_in kind) (λ x. ap (of_kind kind) (contributed_told f tells x)) xs

  -- A custom section does not change.
  pub same_customs : (place : CustomPlace) (xs : List ModuleField) → customs_at place (all_mapped f xs) ≡ customs_at place xs
  same_customs place xs = each_like (mapped_field f) (customs_in place) (customs_in place) each xs
    where
      each : (x : ModuleField) → customs_in place (mapped_field f x) ≡ customs_in place x
      each (field.Ty t) = refl
      each x = refl

  -- A function has the same body and hints, and an import the same functions.
  same_hints : (u : TypeUse FunctionType) (k : FuncKind) → if_hinted (mapped_func_kind f u k) ≡ if_hinted k
  same_hints u (func.Import import exact) = refl
  same_hints u (func.Inline locals e) =
      ap (λ (b : Body). if not (length e.branch_hints == 0) then Some (record { body = b; hints = e.branch_hints }) else None)
      (body_told f tells u (func.Inline locals e))

  same_imported : (i : ImportItems) → flat_map imported_func (item_sigs (mapped_import_items f i)) ≡ flat_map imported_func (item_sigs i)
  same_imported i =
      ap (flat_map imported_func) (sigs_changed f i)
      ∙ each_like (mapped_sig f) imported_func imported_func (λ s. ap (λ k. if same_space space.Func k then None ∷ [] else [])
      (same_space_of f s.kind)) (item_sigs i)

  same_functions : (x : ModuleField) → functions_in (mapped_field f x) ≡ functions_in x
  same_functions (field.Func x) = ap (λ o. o ∷ []) (same_hints x.ty x.kind)
  same_functions (field.Import i) = same_imported i.items
  same_functions x = refl

  pub same_hinted : (xs : List ModuleField) → hinted_functions (all_mapped f xs) ≡ hinted_functions xs
  same_hinted xs = ap (named_from 0) (each_like (mapped_field f) functions_in functions_in same_functions xs)

  -- Each position but that of the name section.
  pub same_slot : (name : Option (List ℕ)) (xs : List ModuleField) (s : Slot) → is_front s ≡ true → in_slot name (all_mapped f xs) s ≡ in_slot name xs s
  same_slot name xs (slot.Custom place) h = ap (map custom_part) (same_customs place xs)
  same_slot name xs (slot.Section kind) h = ap (section_part (section_kind kind)) (same_entries (section_kind kind) xs)
  same_slot name xs slot.Start h =
      each_like (mapped_field f) starts_in starts_in (λ x. ap (λ (c : Contribution). map start_part c.starts) (contributed_told f tells x)) xs
  same_slot name xs slot.DataCount h = λ i. count_parts (same_need f xs i) (length (same_entries Data xs i))
  same_slot name xs slot.Hints h = ap hints_part (same_hinted xs)
  same_slot name xs slot.Names h = absurd (cc h)

  same_places : (xs : List ModuleField) (ss : List Slot) → flat_map (in_slot None (all_mapped f xs)) (filter is_front ss) ≡ flat_map
      (in_slot None xs) (filter is_front ss)
  same_places xs [] = refl
  same_places xs (s ∷ ss) = by (is_front s) refl (same_places xs ss)
    where
      by : (b : Bool) → is_front s ≡ b → flat_map (in_slot None (all_mapped f xs)) (filter is_front ss) ≡ flat_map (in_slot None xs) (filter is_front ss)
          → flat_map (in_slot None (all_mapped f xs)) (if b then (s ∷ filter is_front ss) else filter is_front ss) ≡ flat_map (in_slot None xs)
          (if b then (s ∷ filter is_front ss) else filter is_front ss)
      by true h rest = λ i. same_slot None xs s h i ++ rest i
      by false h rest = rest

pub front_stays : FrontStays
front_stays f tells xs = same_places f tells xs order
