-- Which fields need a data count, and the section that states it.
use Rattle.std.proofs.Common.{◌≡◌, ℕ, Bool, true, false, not, ◌||◌, List, [], ◌∷◌, length, Result, Ok, refl, sym, ap, ◌∙◌, subst}
use Rattle.std.specs.Prelude.{All}
use Rattle.std.specs.List.{flat_map, list_any}
use Rattle.std.proofs.lemmas.Bool.{not-true}
use Rattle.std.proofs.lemmas.List.Elements.{All-nil, All-head}
use Rattle.std.proofs.lemmas.List.Folds.{list_any-append}
use Rattle.wasm_ops.specs.Leb128.{unsigned}
use Rattle.wasm_ops.specs.Spelling.{InRangeU32}
use Rattle.wasm_ops.specs.declared.sink.Refusal.{Refusal}
use Rattle.wasm_ops.specs.Sinks.{SinkRules, AppendLaws, Writes}
use Rattle.wasm_ops.proofs.Sinking.{puts_as, one_written}
use Rattle.wasm_out.specs.Parts.{Data, DataCount, Part, section, part, InRangePart}
use Rattle.wast_tree_nodes.specs.Kinds.{is_of}
use Rattle.wast_tree_nodes.specs.declared.kinds.FieldKind.TheVariants as kind
use Rattle.wast_core_ranges.specs.declared.stretches.FieldRange.{FieldRange}
use Rattle.wast_core_ranges.specs.FieldRanges.{is_reach, fields_in}
use Rattle.wast_core_ranges.proofs.Reaching.{all_there}
use Rattle.wast_core_sections.specs.Tree.{ModuleField}
use Rattle.wast_core_sections.specs.Tree.field
use Rattle.wast_tree_nodes.specs.Instrs.{needs_data_count}
use Rattle.wast_core_sections.specs.DataCounts.{body_instrs, needs_count, may_be_counted, count_parts}
use Rattle.wast_core_sections.specs.Sections.{entries, data_counts}

-- A test on what the items of a list have.
any_in_flat : {A B : Type 0} (t : B → Bool) (g : A → List B) (xs : List A) → list_any (λ x. list_any t (g x)) xs ≡ list_any t (flat_map g xs)
any_in_flat t g [] = refl
any_in_flat t g (x ∷ xs) = ap (λ b. list_any t (g x) || b) (any_in_flat t g xs) ∙ sym (list_any-append t (g x) (flat_map g xs))

-- Only functions have bodies, so only fields in their range need a data count.
no_body_elsewhere : (x : ModuleField) → is_of kind.Func x ≡ false → body_instrs x ≡ []
no_body_elsewhere (field.Func f) h = cc
no_body_elsewhere x h = refl

pub functions_need : (fields : List ModuleField) (r : FieldRange) → is_reach (is_of kind.Func) fields r ≡ true
    → needs_count (fields_in r fields) ≡ needs_count fields
functions_need fields r h =
    any_in_flat needs_data_count body_instrs (fields_in r fields)
    ∙ (ap (list_any needs_data_count) (all_there body_instrs (is_of kind.Func) fields r no_body_elsewhere h)
    ∙ sym (any_in_flat needs_data_count body_instrs fields))

-- Without an index of a data segment, none needs one.
pub none_needs : (fields : List ModuleField) (asked : Bool) → asked ≡ false → may_be_counted fields asked ≡ true → needs_count fields ≡ false
none_needs fields asked none may = not-true (needs_count fields) (subst (λ b. may_be_counted fields b ≡ true) none may)

-- The count is the number of data segments.
counts_are : (fields : List ModuleField) (needed : Bool) (count : ℕ) → needed ≡ needs_count fields → count ≡ length (entries Data fields)
    → count_parts needed count ≡ data_counts fields
counts_are fields needed count is same = λ i. count_parts (is i) (same i)

-- A data count is left out if it is not needed.
pub count_absent : {S : Type 0} (rules : SinkRules S) (fields : List ModuleField) (a : S) → AppendLaws rules → false ≡ needs_count fields
    → Writes {A = Unit {0}} rules (All InRangePart (data_counts fields)) a a (flat_map part (data_counts fields)) (Ok tt)
count_absent rules fields a laws is =
    subst (λ (ps : List Part). Writes {A = Unit {0}} rules (All InRangePart ps) a a (flat_map part ps) (Ok tt))
    (counts_are fields false (length (entries Data fields)) is refl) (laws.none a, All-nil InRangePart)

-- A needed data count is out of range if there are too many segments.
pub count_in_range : (fields : List ModuleField) → true ≡ needs_count fields → All InRangePart (data_counts fields) → InRangeU32 (length (entries Data fields))
count_in_range fields is h =
    let n = length (entries Data fields) in
    (All-head InRangePart (record { kind = DataCount; items = n }) []
    (subst (λ (ps : List Part). All InRangePart ps) (sym (counts_are fields true n is refl)) h)).1

-- A needed data count is written as a section with one number.
pub count_written : {S A : Type 0} (rules : SinkRules S) (fields : List ModuleField) (count : ℕ) (a b : S) (r : Result A Refusal)
    → true ≡ needs_count fields → count ≡ length (entries Data fields)
    → Writes rules (Unit {0} × (InRangeU32 (length (unsigned count)) × InRangeU32 count)) a b (section 12 (unsigned count)) r
    → Writes rules (All InRangePart (data_counts fields)) a b (flat_map part (data_counts fields)) r
count_written rules fields count a b r is same p =
    let here : Part = record { kind = DataCount; items = count } in
    subst (λ (ps : List Part). Writes rules (All InRangePart ps) a b (flat_map part ps) r) (counts_are fields true count is same)
    (one_written rules part InRangePart a b here r (puts_as rules (Unit {0} × InRangePart here) (InRangePart here) a b (part here) r (λ h. h.1)
    (λ h. (tt, h)) p))
