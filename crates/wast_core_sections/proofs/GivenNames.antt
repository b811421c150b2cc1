-- The name section is written unless a custom section is called `name`.
use Rattle.std.proofs.Common.{◌≡◌, ◌==◌, ◌+◌, not, ℕ, true, false, List, [], ◌∷◌, Option, Result, Ok, refl, sym, ap, subst}
use Rattle.std.specs.Prelude.{All, if◌then◌else◌}
use Rattle.std.specs.List.{flat_map}
use Rattle.std.proofs.lemmas.Bool.{eqb-false, and_parts, not-true}
use Rattle.std.proofs.lemmas.List.Elements.{All-nil}
use Rattle.wasm_ops.specs.Sinks.{SinkRules, AppendLaws, Writes}
use Rattle.wasm_ops.specs.declared.sink.Refusal.{Refusal}
use Rattle.wasm_out.specs.NameSectionBytes.{name_subsection}
use Rattle.wasm_out.specs.Parts.{part, InRangePart}
use Rattle.wast_tree_nodes.specs.Customs.{custom_place, place_rank}
use Rattle.wast_tree_nodes.specs.Kinds.{is_of}
use Rattle.wast_core_ranges.specs.FieldRanges.{none_pass}
use Rattle.wast_tree_nodes.specs.declared.kinds.FieldKind.TheVariants as kind
use Rattle.wast_core_sections.specs.Tree.{CustomPlace, ModuleField}
use Rattle.wast_core_sections.specs.Tree.field
use Rattle.wast_core_sections.specs.Sections.{has_own_names, subsections_of}
use Rattle.wast_core_name_section.specs.ModuleNames.{name_subsections}
use Rattle.wast_core_name_section.specs.NamesPart.{names_part}

given_unless : (name : Option (List ℕ)) (fields : List ModuleField) → has_own_names fields ≡ false → subsections_of name fields ≡ name_subsections name fields
given_unless name fields e = ap (λ b. if b then [] else name_subsections name fields) e

none_given : (name : Option (List ℕ)) (fields : List ModuleField) → has_own_names fields ≡ true → subsections_of name fields ≡ []
none_given name fields e = ap (λ b. if b then [] else name_subsections name fields) e

-- If a custom section is called `name`, no names are written.
pub own_names_alone : {S : Type 0} (rules : SinkRules S) (a : S) (name : Option (List ℕ)) (fields : List ModuleField) → AppendLaws rules
    → has_own_names fields ≡ true
    → Writes {A = Unit {0}} rules (All InRangePart (names_part (subsections_of name fields)) × All (λ x. (name_subsection x).in_range)
    (subsections_of name fields)) a a (flat_map part (names_part (subsections_of name fields))) (Ok tt)
own_names_alone rules a name fields laws own =
    subst (λ ss. Writes {A = Unit {0}} rules (All InRangePart (names_part ss) × All (λ x. (name_subsection x).in_range) ss) a a
    (flat_map part (names_part ss)) (Ok tt)) (sym (none_given name fields own))
    (laws.none a, (All-nil InRangePart, All-nil (λ x. (name_subsection x).in_range)))

-- Otherwise the names of the module are written.
pub names_written : {S A : Type 0} (rules : SinkRules S) (a b : S) (name : Option (List ℕ)) (fields : List ModuleField) (r : Result A Refusal)
    → has_own_names fields ≡ false
    → Writes rules (All InRangePart (names_part (name_subsections name fields)) × All (λ x. (name_subsection x).in_range)
    (name_subsections name fields)) a b (flat_map part (names_part (name_subsections name fields))) r
    → Writes rules (All InRangePart (names_part (subsections_of name fields)) × All (λ x. (name_subsection x).in_range)
    (subsections_of name fields)) a b (flat_map part (names_part (subsections_of name fields))) r
names_written rules a b name fields r none p =
    subst (λ ss. Writes rules (All InRangePart (names_part ss) × All (λ x. (name_subsection x).in_range) ss) a b (flat_map part (names_part ss)) r)
    (sym (given_unless name fields none)) p

-- If no field is a custom section, none is called `name`.
pub none_called : (fields : List ModuleField) → ((place : CustomPlace) → none_pass (is_of (kind.Custom place)) fields ≡ true) → has_own_names fields ≡ false
none_called [] h = refl
none_called (field.Custom c ∷ fields) h =
    let place = custom_place c in
    let rank = 12 + place_rank place in
    let other = (and_parts (not (is_of (kind.Custom place) (field.Custom c))) (none_pass (is_of (kind.Custom place)) fields) (h place)).0 in
    absurd (eqb-false rank rank (not-true (rank == rank) other) refl)
none_called (f ∷ fields) h = none_called fields
    (λ place. (and_parts (not (is_of (kind.Custom place) f)) (none_pass (is_of (kind.Custom place)) fields) (h place)).1)
