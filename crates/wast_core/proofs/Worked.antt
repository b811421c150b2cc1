-- Proves the example modules by computing them.
use Rattle.std.proofs.Common.{◌≡◌, ℕ, ◌<◌, ◌^◌, true, List, [], ◌∷◌, Option, None, inl, inr, codes, refl, arith}
use Rattle.std.specs.Prelude.{All, nat_lt}
use Rattle.std.specs.List.{list_all}
use Rattle.std.specs.Str.{is_utf8}
use Rattle.std.proofs.lemmas.Bool.{ltb-true}
use Rattle.std.proofs.lemmas.List.Elements.{All-nil, All-from_recursion}
use Rattle.std.proofs.lemmas.Str.{is_utf8-from_IsUtf8}
use lib.Utf8.{encode}
use Rattle.wasm_ops.specs.Leb128.{unsigned, unsigned_in}
use Rattle.wasm_ops.specs.Spelling.{InRangeU32, InRangeVec, val_type}
use Rattle.wasm_ops.specs.Table.{instr}
use Rattle.wasm_ops.proofs.Everywhere.{all_each, all_one, all_both, all_of_flat, all_tested}
use Rattle.wasm_out.specs.NameSectionBytes.{name_entry, name_subsection}
use Rattle.wasm_out.specs.Parts.{Types, Functions, Exports, Code, InRangeEntry, InRangePart}
use Rattle.wasm_out.specs.Reads.{Reads}
use Rattle.wasm_out.specs.WorkedBytes as out
use Rattle.wast_tree_nodes.specs.Items.{items}
use Rattle.wast_tree_nodes.specs.WorkedModules as worked
use Rattle.wast_tree_nodes.specs.WorkedModules.{Address}
use Rattle.wast_resolve_rules.specs.Explicit.{explicit_fields, by_positions}
use Rattle.wast_resolve_rules.specs.Demands.{item_counts, body_counts, HasMany, IsCrowded}
use Rattle.wast_resolve_rules.specs.Resolved.{resolved_fields}
use Rattle.wast_core.specs.Tree.{ModuleField}
use Rattle.wast_core_sections.specs.declared.slots.Slot.{Slot}
use Rattle.wast_core_sections.specs.declared.slots.Slot.TheVariants as slot
use Rattle.wast_core_sections.specs.Writable.{InRangeHeld, InRangeSlot, InRangeModule}
use Rattle.wast_core.specs.Bounded.{IsBounded}
use Rattle.wast_core_sections.specs.Hints.{hinted_functions, InRangeHinted, InRangeHints}
use Rattle.wast_core_sections.specs.Sections.{in_slot, subsections_of, parts}
use Rattle.wast_core.specs.Meaning.{meaning}
use Rattle.wast_core_sections.specs.Utf8Names.{HasUtf8Names}
use Rattle.wast_tree_nodes.specs.Customs.{customs_at}
use Rattle.wast_core.specs.Tree.{CustomPlace}
use Rattle.wast_core_conv.specs.Customs.{custom_bytes}
use Rattle.wast_core_sections.specs.Slots.{order}
use Rattle.wast_core.specs.WorkedMeanings.{Row1, Row2, Row8, Row24, Row27, AnnotatedFunction, SecondNamed, LongSection}
use Rattle.wast_core_sections.proofs.Readings.{reads_module}

-- A test of each number.
below : (bound : ℕ) (xs : List ℕ) → list_all (λ x. nat_lt x bound) xs ≡ true → All (λ x. x < bound) xs
below bound xs e = λ k d lt. ltb-true _ _ (all_tested (λ x. nat_lt x bound) xs e k d lt)

not_many : (ns : List ℕ) → list_all (λ n. nat_lt n (2 ^ 32)) ns ≡ true → HasMany ns → ⊥
not_many ns e c = let at = c.1.0 in let few = below (2 ^ 32) ns e at.0 c.0 at.1 in let many = c.1.1 in let same = at.2 in absurd (omega arith)

not_crowded : (fields : List ModuleField) → list_all (λ n. nat_lt n (2 ^ 32)) (item_counts (items fields)) ≡ true
    → list_all (λ n. nat_lt n (2 ^ 32)) (body_counts fields) ≡ true → IsCrowded fields → ⊥
not_crowded fields e f c = elim c [ inl many ↦ not_many (item_counts (items fields)) e many | inr many ↦ not_many (body_counts fields) f many.1 ]

-- A list of none, and of one.
none : {A : Type 0} (P : A → Type 0) → InRangeVec P []
none P = (omega arith, All-nil P)

one : {A : Type 0} (P : A → Type 0) (x : A) → P x → InRangeVec P (x ∷ [])
one P x h = (omega arith, all_one P x h)

-- What is in range in the parts and in the names is so at each position.
each_place : (name : Option (List ℕ)) (fields : List ModuleField) → All InRangePart (parts name fields)
    → ((place : CustomPlace) → All (λ x. (custom_bytes x).in_range) (customs_at place fields)) → InRangeHints (hinted_functions fields)
    → All (λ x. (name_subsection x).in_range) (subsections_of name fields) → InRangeModule name fields
each_place name fields h customs hints names = all_both (λ s. All InRangePart (in_slot name fields s)) (InRangeHeld name fields)
    (InRangeSlot name fields) (λ s p q. (p, q)) order (all_of_flat InRangePart (in_slot name fields) order h) (all_each (InRangeHeld name fields) held order)
  where
    held : (s : Slot) → InRangeHeld name fields s
    held (slot.Custom place) = customs place
    held slot.Hints = hints
    held slot.Names = names
    held x = tt

pub row1 : Row1
row1 = (
  record {
    spaces = not_crowded [] refl refl;
    counter = omega arith;
    writable = record {
      in_range = each_place None [] (All-nil InRangePart) (λ place. All-nil (λ x. (custom_bytes x).in_range)) (none InRangeHinted)
          (All-nil (λ x. (name_subsection x).in_range));
      length = omega arith;
    };
  },
  refl,
)

parts27 : All InRangePart out.worked_parts
unfolding unsigned unsigned_in
parts27 = All-from_recursion InRangePart out.worked_parts (
  (omega arith, one (InRangeEntry Types) _ (none InRangeU32, (none (λ x. (val_type x).in_range), none (λ x. (val_type x).in_range)))),
  (
    (omega arith, one (InRangeEntry Functions) _ (omega arith)),
    (
      (omega arith, one (InRangeEntry Exports) _ (omega arith, omega arith)),
      (
        (omega arith, one (InRangeEntry Code) _ (omega arith, (none (λ x. (val_type x).in_range), all_one (λ x. (instr x).in_range) _ (omega arith, tt)))),
        ((omega arith, omega arith), tt),
      ),
    ),
  ),
)

names27 : (a b c d e f : Address) → All (λ x. (name_subsection x).in_range) (subsections_of None (resolved_fields (by_positions (worked.row27 a b c d e f))))
unfolding unsigned unsigned_in
names27 a b c d e f = All-from_recursion (λ x. (name_subsection x).in_range) (subsections_of None (resolved_fields (by_positions (worked.row27 a b c d e f)))) (
  (omega arith, one (λ x. (name_entry x).in_range) _ (omega arith, omega arith)),
  ((omega arith, one (λ x. (name_entry x).in_range) _ (omega arith, omega arith)), tt),
)

a_is_text : is_utf8 (codes "a") ≡ true
unfolding encode
a_is_text = is_utf8-from_IsUtf8 (codes "a") (codes "a", (refl, refl))

texts27 : (a b c d e f : Address) → All HasUtf8Names (resolved_fields (by_positions (worked.row27 a b c d e f)))
texts27 a b c d e f = All-from_recursion HasUtf8Names (resolved_fields (by_positions (worked.row27 a b c d e f))) (tt, (tt, (a_is_text, tt)))

bounded27 : (a b c d e f : Address) → IsBounded 1 None (worked.row27 a b c d e f)
unfolding unsigned unsigned_in
bounded27 a b c d e f =
    let fields = worked.row27 a b c d e f in
    record {
      spaces = not_crowded (explicit_fields fields) refl refl;
      counter = omega arith;
      writable = record {
        in_range = each_place None (resolved_fields (by_positions fields)) parts27
            (λ place. All-nil (λ x. (custom_bytes x).in_range)) (none InRangeHinted) (names27 a b c d e f);
        length = omega arith;
      };
    }

reads27 : (a b c d e f : Address) → Reads out.worked_bytes (meaning None (worked.row27 a b c d e f))
unfolding unsigned unsigned_in
reads27 a b c d e f =
    let bounded = bounded27 a b c d e f in
    reads_module None (resolved_fields (by_positions (worked.row27 a b c d e f))) out.worked_bytes refl
    (texts27 a b c d e f) bounded.writable.in_range refl (below 256 out.worked_bytes refl)

pub row27 : Row27
unfolding unsigned unsigned_in
row27 a b c d e f = (refl, refl, refl, bounded27 a b c d e f, reads27 a b c d e f)

pub row2 : Row2
unfolding unsigned unsigned_in
row2 = (refl, refl)

pub row8 : Row8
unfolding unsigned unsigned_in
row8 = (refl, refl)

pub row24 : Row24
unfolding unsigned unsigned_in
row24 = (refl, refl)

pub annotated_function : AnnotatedFunction
unfolding unsigned unsigned_in
annotated_function a b = (refl, refl)

pub second_named : SecondNamed
unfolding unsigned unsigned_in
second_named a = (refl, refl)

pub long_section : LongSection
unfolding unsigned unsigned_in
long_section a = ((refl, refl), (refl, refl))
