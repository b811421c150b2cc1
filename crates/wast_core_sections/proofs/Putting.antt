-- Fields of other kinds have no entry in a section.
use Rattle.std.proofs.Common.{◌≡◌, ◌==◌, ◌<◌, ◌+◌, ◌||◌, ℕ, Bool, true, false, List, [], ◌∷◌, length, refl, sym, ap, ◌∙◌, arith}
use Rattle.wast_base.specs.Filling.{one_if}
use Rattle.std.specs.Prelude.{if◌then◌else◌}
use Rattle.std.proofs.lemmas.Bool.{eqb-true, eqb-false, ne_eqb}
use Rattle.wast_tree_nodes.specs.Customs.{custom_place, place_rank, stands_at, customs_in}
use Rattle.wast_core_sections.specs.Tree.{Custom, CustomPlace}
use Rattle.wasm_out.specs.Parts.{SectionKind, Types, Imports, Functions, Tables, Memories, Tags, Globals, Exports, Elements, Code, Data}
use Rattle.wast_tree_nodes.specs.Kinds.{is_of}
use Rattle.wast_tree_nodes.specs.declared.kinds.FieldKind.TheVariants as kind
use Rattle.wast_core_sections.specs.Sections.{entries_in, starts_in}
use Rattle.wast_core_sections.specs.Putting.{can_contribute}
use Rattle.wast_core_sections.specs.Tree.{ModuleField}
use Rattle.wast_core_sections.specs.Tree.field

-- A custom section has the rank of no other kind.
apart : (n : ℕ) (c : Custom) → n < 12 → (n == 12 + place_rank (custom_place c)) ≡ false
apart n c small = ne_eqb n (12 + place_rank (custom_place c)) (λ same. omega (arith, small, same))

-- A field has one entry in a section of its kind.
pub entries_told : (k : SectionKind) (f : ModuleField) → length (entries_in k f) ≡ one_if (can_contribute k f)
entries_told Types (field.Custom c) = sym (ap one_if (ap (λ b. b || (1 == 12 + place_rank (custom_place c))) (apart 0 c (omega arith))
    ∙ apart 1 c (omega arith)))
entries_told Imports (field.Custom c) = sym (ap one_if (apart 2 c (omega arith)))
entries_told Functions (field.Custom c) = sym (ap one_if (apart 3 c (omega arith)))
entries_told Tables (field.Custom c) = sym (ap one_if (apart 4 c (omega arith)))
entries_told Memories (field.Custom c) = sym (ap one_if (apart 5 c (omega arith)))
entries_told Tags (field.Custom c) = sym (ap one_if (apart 11 c (omega arith)))
entries_told Globals (field.Custom c) = sym (ap one_if (apart 6 c (omega arith)))
entries_told Exports (field.Custom c) = sym (ap one_if (apart 7 c (omega arith)))
entries_told Elements (field.Custom c) = sym (ap one_if (apart 9 c (omega arith)))
entries_told Code (field.Custom c) = sym (ap one_if (apart 3 c (omega arith)))
entries_told Data (field.Custom c) = sym (ap one_if (apart 10 c (omega arith)))
entries_told k f = refl

no_entry : {A : Type 0} (es : List A) → length es ≡ 0 → es ≡ []
no_entry [] none = refl
no_entry (e ∷ es) none = absurd (omega arith)

-- It has none in the others.
pub nothing_elsewhere : (k : SectionKind) (f : ModuleField) → can_contribute k f ≡ false → entries_in k f ≡ []
nothing_elsewhere k f h = no_entry (entries_in k f) (entries_told k f ∙ ap one_if h)

pub no_custom_elsewhere : (place : CustomPlace) (f : ModuleField) → is_of (kind.Custom place) f ≡ false → customs_in place f ≡ []
no_custom_elsewhere place (field.Custom c) h = by_test (stands_at place c) refl
  where
    by_test : (b : Bool) → stands_at place c ≡ b → (if stands_at place c then c ∷ [] else []) ≡ []
    by_test true e = absurd (eqb-false (12 + place_rank place) (12 + place_rank (custom_place c)) h
        (ap (λ n. 12 + n) (eqb-true (place_rank place) (place_rank (custom_place c)) e)))
    by_test false e = ap (λ t. if t then c ∷ [] else []) e
no_custom_elsewhere place f h = refl

pub no_start_elsewhere : (f : ModuleField) → is_of kind.Start f ≡ false → starts_in f ≡ []
no_start_elsewhere (field.Start i) h = cc
no_start_elsewhere f h = refl
