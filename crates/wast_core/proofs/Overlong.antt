-- Fields that are too large to resolve are too large to encode: a memory with too many bytes of inline data has a data
-- segment that is too long.
use Rattle.std.proofs.Common.{◌≡◌, ℕ, ◌^◌, Bool, true, false, not, ◌||◌, List, [], ◌∷◌, ◌++◌, map, length, Option, inl, inr, refl, sym, ap, ◌∙◌, arith}
use Rattle.std.specs.Prelude.{All}
use Rattle.std.specs.List.{list_any}
use Rattle.std.proofs.Math.Bool.{or-true}
use Rattle.std.proofs.lemmas.Bool.{lt-ltb}
use Rattle.std.proofs.lemmas.List.Elements.{All-nil, All-head}
use Rattle.std.proofs.lemmas.List.Folds.{list_any-append}
use Rattle.wast_tree_nodes.specs.DataBytes.{all_bytes}
use Rattle.wast_tree_nodes.specs.Items.{Item, items_in}
use Rattle.wasm_ops.proofs.Everywhere.{all_left, all_right}
use Rattle.wasm_out.specs.DataSegments.{DataEntry, data_entry}
use Rattle.wasm_out.specs.Parts.{Data, InRangePart}
use Rattle.wast_tree_map.specs.Mapped.{Change, mapped_field}
use Rattle.wast_expand_inline.specs.Segments.{are_too_many, overflows_kind, has_oversized_data}
use Rattle.wast_expand_inline.specs.WriteOut.{exports_of, data_in, memory_alone, desugar_field}
use Rattle.wast_expand_inline.specs.Referring.{by_position}
use Rattle.wast_expand_inline.specs.Written.{written_after, desugared_by_position}
use Rattle.wast_expand_keys.specs.ImpliedTypes.{implied_signatures}
use Rattle.wast_expand_keys.specs.Expanded.{unnamed_type, binding_change}
use Rattle.wast_expand_keys.specs.Completed.{fields_with_implied_types}
use Rattle.wast_expand_keys.specs.Positioned.{position_for}
use Rattle.wast_resolve_rules.specs.Explicit.{by_positions}
use Rattle.wast_resolve_rules.specs.Resolved.{numbering_change, resolved_fields}
use Rattle.wast_resolve_rules.specs.Scopes.{module_scope}
use Rattle.wast_core.specs.Tree.{Index, Memory, MemoryKind, ModuleField}
use Rattle.wast_core.specs.Tree.space
use Rattle.wast_core.specs.Tree.export
use Rattle.wast_core.specs.Tree.memory
use Rattle.wast_core.specs.Tree.field
use Rattle.wast_core_sections.specs.declared.slots.Slot.TheVariants as slot
use Rattle.wast_core_sections.specs.Sections.{entries_in, entries, section_part}
use Rattle.wast_core_sections.specs.Writable.{InRangeModule}
use Rattle.wast_core.specs.Laws.{TooLargeIsUnbounded}

-- A data segment of 2^32 bytes or more.
abbrev is_long : ModuleField → Bool
is_long (field.Data d) = are_too_many d.bytes
is_long x = false

abbrev any_long : List ModuleField → Bool
any_long xs = list_any is_long xs

-- It is among the desugared fields.
first_true : (a b : Bool) → a ≡ true → (a || b) ≡ true
first_true a b h = ap (λ c. c || b) h

second_true : (a b : Bool) → b ≡ true → (a || b) ≡ true
second_true a b h = ap (λ c. a || c) h ∙ or-true a

memory_long : (m : Memory) (k : MemoryKind) (i : Index) → overflows_kind k ≡ true → any_long (data_in k m.span i ++ memory_alone m k ∷ []) ≡ true
memory_long m (memory.Import source ty) i h = absurd (cc h)
memory_long m (memory.Normal ty) i h = absurd (cc h)
memory_long m (memory.Inline is64 pieces exponent) i h = first_true (are_too_many pieces) false h

field_long : (before : List Item) (x : ModuleField) → has_oversized_data x ≡ true → any_long (desugar_field (by_position before) x) ≡ true
field_long before (field.Memory m) h =
    let i = by_position before space.Memory m.span m.id in
    let exports = exports_of m.span export.Memory i m.exports in
    list_any-append is_long exports (data_in m.kind m.span i ++ memory_alone m m.kind ∷ [])
    ∙ second_true (any_long exports) (any_long (data_in m.kind m.span i ++ memory_alone m m.kind ∷ [])) (memory_long m m.kind i h)
field_long before x h = absurd (cc h)

either_true : (p q a b : Bool) → (p ≡ true → a ≡ true) → (q ≡ true → b ≡ true) → (p || q) ≡ true → (a || b) ≡ true
either_true true q a b first second h = first_true a b (first refl)
either_true false q a b first second h = second_true a b (second h)

after_long : (before : List Item) (xs : List ModuleField) → list_any has_oversized_data xs ≡ true → any_long (written_after before xs) ≡ true
after_long before [] h = absurd (cc h)
after_long before (x ∷ xs) h =
    let here = desugar_field (by_position before) x in
    let rest = written_after (before ++ items_in x) xs in
    list_any-append is_long here rest ∙ either_true (has_oversized_data x) (list_any has_oversized_data xs) (any_long here) (any_long rest)
    (field_long before x) (after_long (before ++ items_in x) xs) h

-- It does not change when type uses and indices are resolved.
each_long : (f : ModuleField → ModuleField) → ((x : ModuleField) → is_long (f x) ≡ is_long x) → (xs : List ModuleField) → any_long (map f xs) ≡ any_long xs
each_long f same [] = refl
each_long f same (x ∷ xs) = ap (λ b. b || any_long (map f xs)) (same x) ∙ ap (λ b. is_long x || b) (each_long f same xs)

mapped_long : (f : Change) (x : ModuleField) → is_long (mapped_field f x) ≡ is_long x
mapped_long f (field.Data d) = refl
mapped_long f x = refl

stays_long : (fields : List ModuleField) → list_any has_oversized_data fields ≡ true → any_long (resolved_fields (by_positions fields)) ≡ true
stays_long fields h =
    let xs = desugared_by_position fields in
    let types = map unnamed_type (implied_signatures xs) in
    let all = by_positions fields in
    let numbers = numbering_change (module_scope all) in
    let bind = binding_change (position_for xs) in
    each_long (mapped_field numbers) (mapped_long numbers) all
    ∙ (each_long (mapped_field bind) (mapped_long bind) (fields_with_implied_types xs)
    ∙ (list_any-append is_long xs types ∙ first_true (any_long xs) (any_long types) (after_long [] fields h)))

-- But if everything is in range, there is none.
not_long : (x : ModuleField) → All (λ x. (data_entry x).in_range) (entries_in Data x) → is_long x ≡ false
not_long (field.Data d) h = ap not (lt-ltb (length (all_bytes d.bytes)) (2 ^ 32) (All-head (λ x. (data_entry x).in_range) _ [] h).1)
not_long x h = refl

none_long : (xs : List ModuleField) → All (λ x. (data_entry x).in_range) (entries Data xs) → any_long xs ≡ false
none_long [] h = refl
none_long (x ∷ xs) h =
    ap (λ b. b || any_long xs) (not_long x (all_left (λ x. (data_entry x).in_range) (entries_in Data x) (entries Data xs) h))
    ∙ none_long xs (all_right (λ x. (data_entry x).in_range) (entries_in Data x) (entries Data xs) h)

all_in_range : (ds : List DataEntry) → All InRangePart (section_part Data ds) → All (λ x. (data_entry x).in_range) ds
all_in_range [] h = All-nil (λ x. (data_entry x).in_range)
all_in_range (d ∷ ds) h = (All-head InRangePart _ [] h).1.1

-- The section has its position in the order.
data_in_range : (name : Option (List ℕ)) (xs : List ModuleField) → InRangeModule name xs → All (λ x. (data_entry x).in_range) (entries Data xs)
data_in_range name xs h = all_in_range (entries Data xs) (h 37 slot.Names (omega arith)).0

pub too_large_is_unbounded : TooLargeIsUnbounded
too_large_is_unbounded n name fields h b =
    elim h [
      | inl crowded ↦ b.spaces crowded
      | inr more ↦ elim more [
        | inl counter ↦ let small = b.counter in absurd (omega (arith, counter, small))
        | inr long ↦ absurd (cc (sym (stays_long fields long)
            ∙ none_long (resolved_fields (by_positions fields)) (data_in_range name (resolved_fields (by_positions fields)) b.writable.in_range)))
      ]
    ]
