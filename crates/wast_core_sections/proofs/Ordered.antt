-- The sections of fields are in the standard's order.
use Rattle.std.proofs.Common.{◌≡◌, ◌≤◌, ℕ, ◌+◌, Bool, true, false, ◌&&◌, List, [], ◌∷◌, ◌++◌, map, Option, refl, sym, ap, ◌∙◌, subst, arith}
use Rattle.std.specs.Prelude.{nat_le}
use Rattle.std.specs.List.{flat_map}
use Rattle.std.proofs.lemmas.Bool.{leb-true, le-leb}
use Rattle.wasm_ops.proofs.Everywhere.{both_true}
use Rattle.wasm_out.specs.Parts.{SectionKind, Entry, PartKind, Custom, Start, DataCount, Listed, Part}
use Rattle.wasm_out.specs.NameSectionBytes.{NameSubsection}
use Rattle.wast_core_conv.specs.Customs.{custom_part}
use Rattle.wast_core_conv.specs.Hints.{HintedBody}
use Rattle.wast_core_name_section.specs.NamesPart.{names_part}
use Rattle.wast_tree_nodes.specs.Customs.{customs_at}
use Rattle.wast_core_sections.specs.Tree as tree
use Rattle.wast_core_sections.specs.Tree.{ModuleField}
use Rattle.wast_core_sections.specs.DataCounts.{needs_count, count_parts}
use Rattle.wast_core_sections.specs.Hints.{hinted_functions, hints_part}
use Rattle.wast_core_sections.specs.Sections.{entries, section_part, start_part, starts_in, contribution_of, subsections_of, in_slot}
use Rattle.wast_core_sections.specs.Slots.{section_kind, order}
use Rattle.wast_core_sections.specs.StandardOrder.{place, rises_from, PartsAreOrdered}
use Rattle.wast_core_sections.specs.declared.slots.Slot.{Slot}
use Rattle.wast_core_sections.specs.declared.slots.Slot.TheVariants as slot

-- The kinds of some sections.
abbrev kinds_of : List Part → List PartKind
kinds_of ps = map (λ p. p.kind) ps

-- The kind of the sections at a position, apart from custom sections.
abbrev slot_kinds : Slot → List PartKind
slot_kinds (slot.Custom p) = []
slot_kinds (slot.Section k) = Listed (section_kind k) ∷ []
slot_kinds slot.Start = Start ∷ []
slot_kinds slot.DataCount = DataCount ∷ []
slot_kinds slot.Hints = []
slot_kinds slot.Names = []

both_hold : (a b : Bool) → a ≡ true → b ≡ true → (a && b) ≡ true
both_hold true b h k = k
both_hold false b h k = absurd cc

-- A lower place is enough.
lower_place : (a b : ℕ) (p : ℕ) (rest : Bool) → a ≤ b → (nat_le b p && rest) ≡ true → (nat_le a p && rest) ≡ true
lower_place a b p rest le h =
    let both = both_true (nat_le b p) rest h in
    both_hold (nat_le a p) rest (le-leb a p (omega (arith, leb-true b p both.0))) both.1

from_lower : (a b : ℕ) (kinds : List PartKind) → a ≤ b → rises_from b kinds ≡ true → rises_from a kinds ≡ true
from_lower a b [] le h = refl
from_lower a b (Custom ∷ kinds) le h = from_lower a b kinds le h
from_lower a b (Start ∷ kinds) le h = lower_place a b 9 (rises_from 9 kinds) le h
from_lower a b (DataCount ∷ kinds) le h = lower_place a b 11 (rises_from 12 kinds) le h
from_lower a b (Listed kind ∷ kinds) le h = lower_place a b (place kind) (rises_from (place kind + 1) kinds) le h

-- Sections are in order if what comes before them ends at a place where they are.
abbrev Follows : List PartKind → List PartKind → Type 0
Follows kinds rest = (least : ℕ) → rises_from least rest ≡ true → rises_from least kinds ≡ true

-- What is left out has no place.
left_out : (least p after : ℕ) (kinds rest : List PartKind) → Follows kinds rest → p ≤ after → (nat_le least p && rises_from after rest) ≡ true
    → rises_from least kinds ≡ true
left_out least p after kinds rest follows le h =
    let both = both_true (nat_le least p) (rises_from after rest) h in
    from_lower least after kinds (omega (arith, leb-true least p both.0)) (follows after both.1)

one_there : (least p after : ℕ) (kinds rest : List PartKind) → Follows kinds rest → (nat_le least p && rises_from after rest) ≡ true
    → (nat_le least p && rises_from after kinds) ≡ true
one_there least p after kinds rest follows h =
    let both = both_true (nat_le least p) (rises_from after rest) h in
    both_hold (nat_le least p) (rises_from after kinds) both.0 (follows after both.1)

customs_anywhere : (cs : List tree.Custom) (kinds rest : List PartKind) → Follows kinds rest → Follows (kinds_of (map custom_part cs) ++ kinds) rest
customs_anywhere [] kinds rest follows = follows
customs_anywhere (c ∷ cs) kinds rest follows = customs_anywhere cs kinds rest follows

hints_anywhere : (functions : List (ℕ × HintedBody)) (kinds rest : List PartKind) → Follows kinds rest → Follows (kinds_of (hints_part functions) ++ kinds) rest
hints_anywhere [] kinds rest follows = follows
hints_anywhere (f ∷ fs) kinds rest follows = follows

names_anywhere : (ss : List NameSubsection) (kinds rest : List PartKind) → Follows kinds rest → Follows (kinds_of (names_part ss) ++ kinds) rest
names_anywhere [] kinds rest follows = follows
names_anywhere (s ∷ ss) kinds rest follows = follows

list_once : (kind : SectionKind) (es : List (Entry kind)) (kinds rest : List PartKind) → Follows kinds rest
    → Follows (kinds_of (section_part kind es) ++ kinds) (Listed kind ∷ rest)
list_once kind [] kinds rest follows least h = left_out least (place kind) (place kind + 1) kinds rest follows (omega arith) h
list_once kind (e ∷ es) kinds rest follows least h = one_there least (place kind) (place kind + 1) kinds rest follows h

count_once : (needed : Bool) (n : ℕ) (kinds rest : List PartKind) → Follows kinds rest → Follows (kinds_of (count_parts needed n) ++ kinds) (DataCount ∷ rest)
count_once true n kinds rest follows least h = one_there least 11 12 kinds rest follows h
count_once false n kinds rest follows least h = left_out least 11 12 kinds rest follows (omega arith) h

-- Several start sections, each after the other.
starts_after : (ns : List ℕ) (kinds : List PartKind) → rises_from 9 kinds ≡ true → rises_from 9 (kinds_of (map start_part ns) ++ kinds) ≡ true
starts_after [] kinds h = h
starts_after (n ∷ ns) kinds h = starts_after ns kinds h

starts_there : (ns : List ℕ) (least : ℕ) (kinds : List PartKind) → nat_le least 9 ≡ true → rises_from 9 kinds ≡ true
    → rises_from least (kinds_of (map start_part ns) ++ kinds) ≡ true
starts_there [] least kinds le h = from_lower least 9 kinds (leb-true least 9 le) h
starts_there (n ∷ ns) least kinds le h = both_hold (nat_le least 9) (rises_from 9 (kinds_of (map start_part ns) ++ kinds)) le (starts_after ns kinds h)

starts_are : (fields : List ModuleField) → flat_map starts_in fields ≡ map start_part (flat_map (λ f. (contribution_of f).starts) fields)
starts_are [] = refl
starts_are (f ∷ fs) = ap (λ l. starts_in f ++ l) (starts_are fs) ∙ sym (map_both (contribution_of f).starts (flat_map (λ g. (contribution_of g).starts) fs))
  where
    map_both : (xs ys : List ℕ) → map start_part (xs ++ ys) ≡ map start_part xs ++ map start_part ys
    map_both [] ys = refl
    map_both (x ∷ xs) ys = ap (λ l. start_part x ∷ l) (map_both xs ys)

starts_once : (fields : List ModuleField) (kinds rest : List PartKind) → Follows kinds rest
    → Follows (kinds_of (flat_map starts_in fields) ++ kinds) (Start ∷ rest)
starts_once fields kinds rest follows least h =
    let both = both_true (nat_le least 9) (rises_from 9 rest) h in
    subst (λ ps. rises_from least (kinds_of ps ++ kinds) ≡ true) (sym (starts_are fields))
    (starts_there (flat_map (λ f. (contribution_of f).starts) fields) least kinds both.0 (follows 9 both.1))

slot_follows : (name : Option (List ℕ)) (fields : List ModuleField) (s : Slot) (kinds rest : List PartKind) → Follows kinds rest
    → Follows (kinds_of (in_slot name fields s) ++ kinds) (slot_kinds s ++ rest)
slot_follows name fields (slot.Custom p) kinds rest follows = customs_anywhere (customs_at p fields) kinds rest follows
slot_follows name fields (slot.Section k) kinds rest follows = list_once (section_kind k) (entries (section_kind k) fields) kinds rest follows
slot_follows name fields slot.Start kinds rest follows = starts_once fields kinds rest follows
slot_follows name fields slot.DataCount kinds rest follows = count_once (needs_count fields) _ kinds rest follows
slot_follows name fields slot.Hints kinds rest follows = hints_anywhere (hinted_functions fields) kinds rest follows
slot_follows name fields slot.Names kinds rest follows = names_anywhere (subsections_of name fields) kinds rest follows

kinds_both : (ps qs : List Part) → kinds_of (ps ++ qs) ≡ kinds_of ps ++ kinds_of qs
kinds_both [] qs = refl
kinds_both (p ∷ ps) qs = ap (λ l. p.kind ∷ l) (kinds_both ps qs)

slots_follow : (name : Option (List ℕ)) (fields : List ModuleField) (ss : List Slot)
    → Follows (kinds_of (flat_map (in_slot name fields) ss)) (flat_map slot_kinds ss)
slots_follow name fields [] least h = refl
slots_follow name fields (s ∷ ss) least h =
    subst (λ kinds. rises_from least kinds ≡ true) (sym (kinds_both (in_slot name fields s) (flat_map (in_slot name fields) ss)))
    (slot_follows name fields s (kinds_of (flat_map (in_slot name fields) ss)) (flat_map slot_kinds ss) (slots_follow name fields ss) least h)

pub parts_are_ordered : PartsAreOrdered
parts_are_ordered name fields = slots_follow name fields order 1 refl
