-- A custom section does not depend on the addresses of the texts in it.
--
-- For example, `(@custom "a" "bc" "d")` is the section with the name "a" and the bytes "bcd", wherever these three texts are.
use Rattle.std.proofs.Common.{◌≡◌, List, [], ◌∷◌, ◌++◌, map, length, All, Bool, true, false, ◌||◌, refl, ap, ◌∙◌, subst}
use Rattle.std.proofs.lemmas.List.{length-map}
use Rattle.std.specs.Borrow.{Bor}
use Rattle.std.specs.Prelude.{ℕ, codes, if◌then◌else◌}
use Rattle.wasm_ops.specs.Spelling.{InRangeU32, Encoding, u32, list_of}
use Rattle.wasm_ops.proofs.Everywhere.{all_unmap, all_both}
use Rattle.wasm_out.specs.Parts as parts
use Rattle.wasm_out.specs.Producers.{producers}
use Rattle.wast_tree_nodes.specs.Customs.{custom_name, subsection_id, stands_at, customs_in, customs_at, is_custom_called}
use Rattle.wast_core_conv.specs.Customs.{as_producer_value, as_producer_field, export_flags, import_flags, listed_name, subsection_content}
use Rattle.wast_core_conv.specs.Customs.{subsection, custom_bytes, custom_part}
use Rattle.wast_core_name_section.proofs.Each.{each_like}
use Rattle.wast_core_sections.specs.Sections.{has_own_names}
use Rattle.wast_core.specs.Tree.{CustomPlace}
use Rattle.wast_core.proofs.ToldTypes.{each_alike}
use Rattle.wat_syntax.specs.Customs.{Version}
use Rattle.wat_syntax.specs.Tree.{Custom, Dylink0Subsection, ModuleField}
use Rattle.wat_syntax.specs.Tree.custom
use Rattle.wat_syntax.specs.Tree.dylink
use Rattle.wat_syntax.specs.Tree.field
use Rattle.wat_syntax.specs.Bare.{bare_text}
use Rattle.wat_syntax.specs.BareFields.{bare_custom, bare_exported, bare_imported, bare_producers_field, bare_subsection, bare_version}
use Rattle.wat_ready.proofs.ShownLists.{map_same, flat_changed}
use Rattle.wat_ready.specs.Shown.{shown_field, shown_fields}

-- The bytes of a list, if each item has the same bytes after a change.
list_same : {A : Type 0} (f : A → A) (item : A → Encoding) → ((x : A) → (item (f x)).bytes ≡ (item x).bytes) → (xs : List A)
    → (list_of item (map f xs)).bytes ≡ (list_of item xs).bytes
list_same f item same xs = λ i. (u32 (length-map xs f i)).bytes ++ each_like f (λ x. (item x).bytes) (λ x. (item x).bytes) same xs i

-- subsections of dylink.0
id_same : (s : Dylink0Subsection) → subsection_id (bare_subsection s) ≡ subsection_id s
id_same (dylink.MemInfo memory_size memory_align table_size table_align) = refl
id_same x = refl

content_same : (s : Dylink0Subsection) → (subsection_content (bare_subsection s)).bytes ≡ (subsection_content s).bytes
content_same (dylink.MemInfo memory_size memory_align table_size table_align) = refl
content_same (dylink.Needed names) = list_same bare_text listed_name (λ n. refl) names
content_same (dylink.ExportInfo items) = list_same bare_exported export_flags (λ x. refl) items
content_same (dylink.ImportInfo items) = list_same bare_imported import_flags (λ x. refl) items
content_same (dylink.RuntimePath names) = list_same bare_text listed_name (λ n. refl) names
content_same (dylink.TargetArch name) = refl

subsection_same : (s : Dylink0Subsection) → (subsection (bare_subsection s)).bytes ≡ (subsection s).bytes
subsection_same s = λ i. id_same s i ∷ ((u32 (length (content_same s i))).bytes ++ content_same s i)

-- producers
producer_same : (f : Bor (List ℕ) × List Version) → as_producer_field (bare_producers_field f) ≡ as_producer_field f
producer_same f = λ i. (f.0.now, each_alike bare_version as_producer_value (λ v. refl) f.1 i)

-- a custom section as a part of a module
name_same : (c : Custom) → custom_name (bare_custom c) ≡ custom_name c
name_same (custom.Raw s) = refl
name_same x = refl

bytes_same : (c : Custom) → (custom_bytes (bare_custom c)).bytes ≡ (custom_bytes c).bytes
bytes_same (custom.Raw s) = each_like bare_text (λ (t : Bor (List ℕ)). t.now) (λ (t : Bor (List ℕ)). t.now) (λ t. refl) s.bytes
bytes_same (custom.Producers p) = λ i. (producers (each_alike bare_producers_field as_producer_field producer_same p.fields i)).bytes
bytes_same (custom.Dylink0 d) =
    each_like bare_subsection (λ s. (subsection s).bytes) (λ s. (subsection s).bytes) subsection_same d.subsections

custom_same : (c : Custom) → custom_part (bare_custom c) ≡ custom_part c
custom_same c = λ i. record { kind = parts.Custom; items = record { name = name_same c i; bytes = bytes_same c i } }

-- the custom sections with a position
test_same : (b : Bool) (c : Custom) → (if b then bare_custom c ∷ [] else []) ≡ map bare_custom (if b then c ∷ [] else [])
test_same true c = refl
test_same false c = refl

field_same : (place : CustomPlace) (x : ModuleField) → customs_in place (shown_field x) ≡ map bare_custom (customs_in place x)
field_same place (field.Custom (custom.Raw s)) = test_same (stands_at place (custom.Raw s)) (custom.Raw s)
field_same place (field.Custom (custom.Producers p)) = test_same (stands_at place (custom.Producers p)) (custom.Producers p)
field_same place (field.Custom (custom.Dylink0 d)) = test_same (stands_at place (custom.Dylink0 d)) (custom.Dylink0 d)
field_same place x = refl

shown_at : (place : CustomPlace) (xs : List ModuleField) → customs_at place (shown_fields xs) ≡ map bare_custom (customs_at place xs)
shown_at place xs = flat_changed shown_field (customs_in place) bare_custom (field_same place) xs

pub customs_same : (place : CustomPlace) (xs : List ModuleField)
    → map custom_part (customs_at place (shown_fields xs)) ≡ map custom_part (customs_at place xs)
customs_same place xs = ap (map custom_part) (shown_at place xs) ∙ map_same bare_custom custom_part custom_same (customs_at place xs)

-- their numbers are in range if they are so in the changed sections
all_before : {A : Type 0} (f : A → A) (P : A → Type 0) → ((x : A) → P (f x) → P x) → (xs : List A) → All P (map f xs) → All P xs
all_before f P before xs h = all_both (λ x. P (f x)) (λ x. P (f x)) P (λ x p q. before x p) xs (all_unmap P f xs h) (all_unmap P f xs h)

list_range : {A : Type 0} (f : A → A) (item : A → Encoding) → ((x : A) → (item (f x)).in_range → (item x).in_range) → (xs : List A)
    → (list_of item (map f xs)).in_range → (list_of item xs).in_range
list_range f item before xs h = (subst InRangeU32 (length-map xs f) h.0, all_before f (λ x. (item x).in_range) before xs h.1)

content_range : (s : Dylink0Subsection) → (subsection_content (bare_subsection s)).in_range → (subsection_content s).in_range
content_range (dylink.MemInfo memory_size memory_align table_size table_align) h = h
content_range (dylink.Needed names) h = list_range bare_text listed_name (λ n k. k) names h
content_range (dylink.ExportInfo items) h = list_range bare_exported export_flags (λ x k. k) items h
content_range (dylink.ImportInfo items) h = list_range bare_imported import_flags (λ x k. k) items h
content_range (dylink.RuntimePath names) h = list_range bare_text listed_name (λ n k. k) names h
content_range (dylink.TargetArch name) h = h

subsection_range : (s : Dylink0Subsection) → (subsection (bare_subsection s)).in_range → (subsection s).in_range
subsection_range s h = (subst (λ (bytes : List ℕ). InRangeU32 (length bytes)) (content_same s) h.0, content_range s h.1)

custom_range : (c : Custom) → (custom_bytes (bare_custom c)).in_range → (custom_bytes c).in_range
custom_range (custom.Raw s) h = h
custom_range (custom.Producers p) h = subst (λ fs. (producers fs).in_range) (each_alike bare_producers_field as_producer_field producer_same p.fields) h
custom_range (custom.Dylink0 d) h = all_before bare_subsection (λ s. (subsection s).in_range) subsection_range d.subsections h

pub ranges_same : (place : CustomPlace) (xs : List ModuleField)
    → All (λ c. (custom_bytes c).in_range) (customs_at place (shown_fields xs)) → All (λ c. (custom_bytes c).in_range) (customs_at place xs)
ranges_same place xs h =
    all_before bare_custom (λ c. (custom_bytes c).in_range) custom_range (customs_at place xs)
    (subst (All (λ c. (custom_bytes c).in_range)) (shown_at place xs) h)

-- whether a custom section is called "name"
called_same : (x : ModuleField) → is_custom_called (codes "name") (shown_field x) ≡ is_custom_called (codes "name") x
called_same (field.Custom (custom.Raw s)) = refl
called_same (field.Custom (custom.Producers p)) = refl
called_same (field.Custom (custom.Dylink0 d)) = refl
called_same x = refl

pub own_same : (xs : List ModuleField) → has_own_names (shown_fields xs) ≡ has_own_names xs
own_same [] = refl
own_same (x ∷ xs) = λ i. called_same x i || own_same xs i
