-- Renaming keeps the parts before the name section, and their bytes.
use Rattle.std.proofs.Common.{◌≡◌, ℕ, List, [], ◌∷◌, ◌++◌, map, Option, Some, None, option_map, refl, sym, ap, ◌∙◌}
use Rattle.std.specs.Prelude.{unwrap_or}
use Rattle.std.specs.List.{flat_map, filter}
use Rattle.std.proofs.lemmas.Grind.{flat_map-append}
use Rattle.std.proofs.lemmas.List.{append-nil}
use Rattle.wasm_ops.specs.declared.blocks.BlockType.TheVariants as out_block
use Rattle.wasm_out.specs.Parts.{Part, part}
use Rattle.wasm_out.specs.Reads.{header, Reads}
use Rattle.wast_tree_map.specs.Mapped.{mapped_val}
use Rattle.wast_resolve_laws.specs.Renaming.{Renaming, renamed_index, renamed_type, renaming, renamed_fields, RenamedPositions, WrittenPositions}
use Rattle.wast_expand_inline.specs.Written.{desugared_from}
use Rattle.wast_resolve_rules.specs.Explicit.{by_positions}
use Rattle.wast_resolve_rules.specs.Resolved.{resolved_fields}
use Rattle.wast_resolve_rules.specs.Stripped.{stripping}
use Rattle.wast_core.specs.Tree.{Index, FunctionType, ValType, ModuleField}
use Rattle.wast_core.specs.Tree.index
use Rattle.wast_core_sections.specs.declared.slots.Slot.TheVariants as slot
use Rattle.wast_core_sections.specs.Slots.{order}
use Rattle.wast_core_conv.specs.Values.{index_value, short_block_type, use_as_block}
use Rattle.wast_core.specs.Front.{KeepsNumbers, is_front, parts_before_names, meant_front, RenamedParts, WrittenMeans, front_bytes}
use Rattle.wast_core.specs.Front.{names_bytes, BeginAlike, SameFront, WrittenFront}
use Rattle.wast_core_sections.specs.Sections.{in_slot, parts}
use Rattle.wast_core.specs.Meaning.{meaning}
use Rattle.wast_core.proofs.Fronts.{front_stays}
use Rattle.wast_core.proofs.Stripping.{stripping_tells}
use Rattle.wast_core.proofs.ToldTypes.{val_told}

module _ (r : Renaming) where
  index_told : (i : Index) → index_value (renamed_index r i) ≡ index_value i
  index_told (index.Num n span) = refl
  index_told (index.Id id) = refl

  use_told : (o : Option Index) → unwrap_or (option_map index_value (option_map (renamed_index r) o)) 0 ≡ unwrap_or (option_map index_value o) 0
  use_told None = refl
  use_told (Some i) = index_told i

  given_told : (ts : List ValType) → short_block_type (map (mapped_val (λ s. renamed_index r)) ts) ≡ short_block_type ts
  given_told [] = refl
  given_told (t ∷ ts) = ap out_block.Result (val_told (λ s. renamed_index r) (λ s. index_told) t)

  block_told : (o : Option Index) (t : Option FunctionType) → use_as_block (option_map (renamed_index r) o) (option_map (renamed_type r) t) ≡ use_as_block o t
  block_told (Some i) t = ap out_block.FunctionType (index_told i)
  block_told None None = refl
  block_told None (Some t) = given_told t.results

  pub renaming_tells : KeepsNumbers (renaming r)
  renaming_tells = record {
    index = λ s i. index_told i;
    local = λ l i. index_told i;
    member = λ owner i. index_told i;
    label = λ blocks i. index_told i;
    used = λ w u. use_told u.index;
    block = λ u. block_told u.index u.inline;
  }

-- Names do not matter.
pub renamed_parts : RenamedPositions → RenamedParts
renamed_parts positions r is fields = ap parts_before_names (positions r is fields)
    ∙ front_stays (renaming r) (renaming_tells r) (resolved_fields (by_positions fields))

pub written_means : RenamedPositions → WrittenPositions → WrittenMeans
written_means renamed written r is n fields above met =
    let old = resolved_fields (by_positions fields) in
    let new = resolved_fields (by_positions (desugared_from n fields)) in
    let same : meant_front (desugared_from n fields) ≡ meant_front fields =
    sym (front_stays stripping stripping_tells new) ∙ (ap parts_before_names (written n fields above met) ∙ front_stays stripping stripping_tells old) in
    (same, renamed_parts renamed r is (desugared_from n fields) ∙ same)

-- The name section is last.
names_last : (name : Option (List ℕ)) (xs : List ModuleField) → parts name xs ≡ parts_before_names xs ++ in_slot name xs slot.Names
names_last name xs =
    flat_map-append (in_slot name xs) (filter is_front order) (slot.Names ∷ [])
    ∙ ap (λ (ps : List Part). parts_before_names xs ++ ps) (append-nil (in_slot name xs slot.Names))

bytes_are : (name : Option (List ℕ)) (fields : List ModuleField) (b : List ℕ) → Reads b (meaning name fields)
    → b ≡ front_bytes fields ++ names_bytes name fields
bytes_are name fields b reads =
    let xs = resolved_fields (by_positions fields) in
    reads.spelled ∙ (ap (λ (ps : List Part). header ++ flat_map part ps) (names_last name xs)
    ∙ ap (λ (bs : List ℕ). header ++ bs) (flat_map-append part (parts_before_names xs) (in_slot name xs slot.Names)))

begin_alike : (fields others : List ModuleField) → meant_front others ≡ meant_front fields → BeginAlike fields others
begin_alike fields others same name other b c reads so = (
  bytes_are name fields b reads,
  bytes_are other others c so ∙ ap (λ (ps : List Part). (header ++ flat_map part ps) ++ names_bytes other others) same,
)

pub same_front : RenamedPositions → SameFront
same_front renamed r is fields = begin_alike fields (renamed_fields r fields) (renamed_parts renamed r is fields)

pub written_front : RenamedPositions → WrittenPositions → WrittenFront
written_front renamed written r is n fields above met =
    let same = written_means renamed written r is n fields above met in
    (begin_alike fields (desugared_from n fields) same.0, begin_alike fields (renamed_fields r (desugared_from n fields)) same.1)
