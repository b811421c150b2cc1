-- The section of a list, as a part of the module.
use Rattle.std.proofs.Common.{◌≡◌, ℕ, length, List, [], ◌∷◌, ◌++◌, Result, Ok, refl, sym, ap, ◌∙◌, subst, arith}
use Rattle.std.specs.Prelude.{All}
use Rattle.std.specs.List.{flat_map}
use Rattle.std.proofs.lemmas.List.Elements.{All-nil, All-head}
use Rattle.wasm_ops.specs.declared.sink.Refusal.{Refusal}
use Rattle.wasm_ops.specs.Leb128.{unsigned}
use Rattle.wasm_ops.specs.Sinks.{SinkRules, AppendLaws, Writes}
use Rattle.wasm_ops.specs.Spelling.{InRangeU32, vec, InRangeVec}
use Rattle.wasm_ops.proofs.Everywhere.{flat_in_flat, all_in_flat, all_of_flat}
use Rattle.wasm_ops.proofs.Sinking.{written_as, one_written}
use Rattle.wasm_out.specs.Parts.{SectionKind, Entry, entry, InRangeEntry, Listed, section_id, Part, section, part, InRangePart}
use Rattle.wast_core_sections.specs.Tree.{ModuleField}
use Rattle.wast_core_sections.specs.Sections.{entries_in, entries, section_part}

-- After its id and its length come the bytes of the list.
part_written : {S A : Type 0} (rules : SinkRules S) (k : SectionKind) (es : List (Entry k)) (R : Type 0) (a b : S) (id : ℕ) (body : List ℕ)
    (r : Result A Refusal)
    → id ≡ section_id k → (length es ≡ 0 → ⊥) → body ≡ vec (entry k) es → (R → InRangeVec (InRangeEntry k) es) → (InRangeVec (InRangeEntry k) es → R)
    → Writes rules (Unit {0} × (InRangeU32 (length body) × R)) a b (section id body) r
    → Writes rules (All InRangePart (section_part k es)) a b (flat_map part (section_part k es)) r
part_written rules k [] R a b id body r e some is f g p = absurd (some refl)
part_written rules k (x ∷ xs) R a b id body r e some is f g p =
    let here : Part = record { kind = Listed k; items = x ∷ xs } in
    one_written rules part InRangePart a b here r
    (written_as rules (Unit {0} × (InRangeU32 (length body) × R)) (InRangePart here) a b (section id body) (part here) r
    (λ h. (subst (λ (bs : List ℕ). InRangeU32 (length bs)) is h.1.0, f h.1.1))
    (λ h. (tt, (subst (λ (bs : List ℕ). InRangeU32 (length bs)) (sym is) h.0, g h.1)))
    (ap (λ (i : ℕ). section i body) e ∙ ap (section (section_id k)) is) p)

-- The number of entries, and the entries of each field.
abbrev pub held : SectionKind → ℕ → List ModuleField → List ℕ
held k n fields = unsigned n ++ flat_map (λ f. flat_map (entry k) (entries_in k f)) fields

abbrev pub InRangeHeld : SectionKind → ℕ → List ModuleField → Type 0
InRangeHeld k n fields = InRangeU32 n × All (λ f. All (InRangeEntry k) (entries_in k f)) fields

-- They are the list of the entries.
held_is : (k : SectionKind) (fields : List ModuleField) (n : ℕ) → n ≡ length (entries k fields) → held k n fields ≡ vec (entry k) (entries k fields)
held_is k fields n count =
    ap (λ (m : ℕ). unsigned m ++ flat_map (λ f. flat_map (entry k) (entries_in k f)) fields) count
    ∙ ap (λ (bs : List ℕ). unsigned (length (entries k fields)) ++ bs) (flat_in_flat (entry k) (entries_in k) fields)

-- The section is written with this number of entries. The first fields have all of them.
pub listed_written : {S A : Type 0} (rules : SinkRules S) (k : SectionKind) (fields first : List ModuleField) (a b : S) (id n : ℕ) (r : Result A Refusal)
    → id ≡ section_id k → entries k first ≡ entries k fields → n ≡ length (entries k fields) → (n ≡ 0 → ⊥)
    → Writes rules (Unit {0} × (InRangeU32 (length (held k n first)) × InRangeHeld k n first)) a b (section id (held k n first)) r
    → Writes rules (All InRangePart (section_part k (entries k fields))) a b (flat_map part (section_part k (entries k fields))) r
listed_written rules k fields first a b id n r e same counted some p =
    let count = counted ∙ ap (λ es. length es) (sym same) in
    subst (λ es. Writes rules (All InRangePart (section_part k es)) a b (flat_map part (section_part k es)) r) same
    (part_written rules k (entries k first) (InRangeHeld k n first) a b id (held k n first) r e (λ z. some (count ∙ z)) (held_is k first n count)
    (λ h. (subst InRangeU32 count h.0, all_in_flat (InRangeEntry k) (entries_in k) first h.1))
    (λ h. (subst InRangeU32 (sym count) h.0, all_of_flat (InRangeEntry k) (entries_in k) first h.1))
    p)

-- The section is left out if there are no entries.
pub listed_absent : {S : Type 0} (rules : SinkRules S) (k : SectionKind) (es : List (Entry k)) (a : S) (n : ℕ) → AppendLaws rules → n ≡ length es → n ≡ 0
    → Writes {A = Unit {0}} rules (All InRangePart (section_part k es)) a a (flat_map part (section_part k es)) (Ok tt)
listed_absent rules k [] a n laws count none = (laws.none a, All-nil InRangePart)
listed_absent rules k (e ∷ es) a n laws count none = absurd (omega arith)

-- A part that is in range has less than 2^32 items.
pub counted_in_range : (k : SectionKind) (es : List (Entry k)) → All InRangePart (section_part k es) → InRangeU32 (length es)
counted_in_range k [] h = omega arith
counted_in_range k (x ∷ xs) h = (All-head InRangePart (record { kind = Listed k; items = x ∷ xs }) [] h).1.0
