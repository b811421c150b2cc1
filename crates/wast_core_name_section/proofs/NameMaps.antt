-- Subsections of names, and the name section, as they are written.
use Rattle.std.proofs.Common.{◌≡◌, ◌<◌, ◌+◌, ℕ, true, false, nat_lt, List, [], ◌∷◌, ◌++◌, length, Option, Result, Ok, refl, sym, ap, ◌∙◌}
use Rattle.std.proofs.Common.{subst, arith, map}
use Rattle.std.specs.Prelude.{All, codes}
use Rattle.std.specs.List.{flat_map}
use Rattle.std.proofs.lemmas.Bool.{lt-ltb, ltb-false}
use Rattle.std.proofs.lemmas.Grind.{flat_map-append}
use Rattle.std.proofs.lemmas.List.{append_assoc}
use Rattle.std.proofs.lemmas.List.Elements.{All-nil, All-head, All-append}
use Rattle.std.proofs.lemmas.List.Concat.{flat_map-cons}
use Rattle.std.proofs.lemmas.List.Folds.{flat_map-map}
use Rattle.wasm_ops.specs.declared.sink.Refusal.{Refusal}
use Rattle.wasm_ops.specs.Leb128.{unsigned}
use Rattle.wasm_ops.specs.Spelling.{InRangeSized, InRangeU32, length_prefixed, name, InRangeName}
use Rattle.wasm_ops.specs.Sinks.{SinkRules, Writes, AppendLaws}
use Rattle.wasm_ops.proofs.Everywhere.{all_left, all_right, all_one, flat_one, all_in_flat, all_of_flat, flat_in_flat}
use Rattle.wasm_ops.proofs.Sinking.{puts_as, written_as, one_written}
use Rattle.wasm_out.specs.NameSectionBytes.{Named, Direct, Indirect, NameSubsection, subsection_id, map_entry, name_content, name_entry, name_subsection}
use Rattle.wasm_out.specs.Parts.{Part, Custom, part, InRangePart}
use Rattle.wast_base.specs.Spaces.{same_space}
use Rattle.wast_core_name_section.specs.NamesPart.{names_part, payload_of, InRangePayload}
use Rattle.wast_core_name_section.specs.declared.names_payload.NameMap.{NameMap}
use Rattle.wast_core_name_section.specs.declared.names_payload.NameMap.TheVariants as map_of
use Rattle.wast_core_name_section.specs.Tree.{Space}
use Rattle.wast_core_name_section.specs.Tree.space
use Rattle.wast_core_name_section.specs.Tree.ty
use Rattle.wast_core_name_section.specs.FoundNames.{saturated_count, InRangeMap, map_bytes}
use Rattle.wast_core_name_section.specs.ModuleNames.{given_name_in, type_name, direct, indirect}

-- The names of items, each of one thing in a list.
pub names_of_each : {X : Type 0} (s : Space) (name_of : X → Space × Option (List ℕ)) (xs : List X) (items : List (Space × Option (List ℕ)))
    → map name_of xs ≡ items → flat_map (given_name_in s) items ≡ flat_map (λ x. given_name_in s (name_of x)) xs
names_of_each s name_of xs items is = ap (flat_map (given_name_in s)) (sym is) ∙ flat_map-map (given_name_in s) name_of xs

-- Types are items of the type index space alone.
pub other_space : (s : Space) (types : List ty.«Type») → same_space s space.Ty ≡ false → flat_map (given_name_in s) (map type_name types) ≡ []
other_space s [] h = refl
other_space s (t ∷ types) h = flat_map-cons (given_name_in s) (type_name t) (map type_name types) ∙ rw (h, other_space s types h) refl

-- A subsection, by its id and its content after the length.
pub subsection_written : {S R : Type 0} (rules : SinkRules S) (a b : S) (s : NameSubsection) (id : ℕ) (r : Result R Refusal)
    → id ≡ subsection_id s.of → Writes rules (name_subsection s).in_range a b (id ∷ length_prefixed (λ x. (name_content x).bytes) s.content) r
    → Writes rules (All (λ x. (name_subsection x).in_range) (s ∷ [])) a b (flat_map (λ x. (name_subsection x).bytes) (s ∷ [])) r
subsection_written rules a b s id r id_is p =
    one_written rules (λ x. (name_subsection x).bytes) (λ x. (name_subsection x).in_range) a b s r
    (subst (λ n. Writes rules (name_subsection s).in_range a b (n ∷ length_prefixed (λ x. (name_content x).bytes) s.content) r) id_is p)

-- A name map as a subsection.
pub map_counted : {A : Type 0} (entry : ℕ × A → List ℕ) (InRange : ℕ × A → Type 0) (es : List (ℕ × A)) (count : ℕ)
    → count ≡ saturated_count (length es) → 0 < count → InRangeMap entry InRange es → InRangeU32 count
map_counted entry InRange [] count is some h = absurd (omega arith)
map_counted entry InRange (e ∷ es) count is some h = let few : InRangeU32 (length (e ∷ es)) = h.1.0 in omega arith

-- There is no subsection if no entry is counted.
pub no_map : {S A : Type 0} (rules : SinkRules S) (entry : ℕ × A → List ℕ) (InRange : ℕ × A → Type 0) (a : S) (es : List (ℕ × A)) (id count : ℕ)
    → AppendLaws rules → count ≡ saturated_count (length es) → count ≡ 0
    → Writes {A = Unit {0}} rules (InRangeMap entry InRange es) a a (map_bytes id entry es) (Ok tt)
no_map rules entry InRange a [] id count laws is none = (laws.none a, tt)
no_map rules entry InRange a (e ∷ es) id count laws is none = absurd (omega arith)

-- Otherwise it has its entries after their number.
pub map_put : {S R A : Type 0} (rules : SinkRules S) (entry : ℕ × A → List ℕ) (InRange : ℕ × A → Type 0) (a b : S) (es : List (ℕ × A)) (id count : ℕ)
    (r : Result R Refusal) → count ≡ length es → 0 < count
    → Writes rules (Unit {0} × (InRangeU32 (length (unsigned count ++ flat_map entry es)) × (InRangeU32 count × All InRange es))) a b
    (id ∷ (unsigned (length (unsigned count ++ flat_map entry es)) ++ (unsigned count ++ flat_map entry es))) r
    → Writes rules (InRangeMap entry InRange es) a b (map_bytes id entry es) r
map_put rules entry InRange a b [] id count r is some p = absurd (omega arith)
map_put rules entry InRange a b (e ∷ es) id count r is some p =
    let all = e ∷ es in
    puts_as rules (Unit {0} × InRangeMap entry InRange all) (InRangeMap entry InRange all) a b (map_bytes id entry all) r (λ h. h.1) (λ h. (tt, h))
    (subst (λ n. Writes rules (Unit {0} × (InRangeU32 (length (unsigned n ++ flat_map entry all)) × (InRangeU32 n × All InRange all))) a b
    (id ∷ (unsigned (length (unsigned n ++ flat_map entry all)) ++ (unsigned n ++ flat_map entry all))) r) is p)

pub direct_written : {S R : Type 0} (rules : SinkRules S) (a b : S) (of : Named) (names : List (ℕ × List ℕ)) (id : ℕ) (r : Result R Refusal)
    → id ≡ subsection_id of → Writes rules (InRangeMap (λ x. (name_entry x).bytes) (λ x. (name_entry x).in_range) names) a b
    (map_bytes id (λ x. (name_entry x).bytes) names) r
    → Writes rules (All (λ x. (name_subsection x).in_range) (direct of names)) a b (flat_map (λ x. (name_subsection x).bytes) (direct of names)) r
direct_written rules a b of [] id r id_is p = written_as rules (Unit {0}) (All (λ x. (name_subsection x).in_range) []) a b [] [] r
    (λ h. All-nil (λ x. (name_subsection x).in_range)) (λ h. tt) refl p
direct_written rules a b of (e ∷ es) id r id_is p = subsection_written rules a b (record { of = of; content = Direct (e ∷ es) }) id r id_is p

pub indirect_written : {S R : Type 0} (rules : SinkRules S) (a b : S) (of : Named) (lists : List (ℕ × List (ℕ × List ℕ))) (id : ℕ) (r : Result R Refusal)
    → id ≡ subsection_id of → Writes rules (InRangeMap (λ x. (map_entry x).bytes) (λ x. (map_entry x).in_range) lists) a b
    (map_bytes id (λ x. (map_entry x).bytes) lists) r
    → Writes rules (All (λ x. (name_subsection x).in_range) (indirect of lists)) a b (flat_map (λ x. (name_subsection x).bytes) (indirect of lists)) r
indirect_written rules a b of [] id r id_is p = written_as rules (Unit {0}) (All (λ x. (name_subsection x).in_range) []) a b [] [] r
    (λ h. All-nil (λ x. (name_subsection x).in_range)) (λ h. tt) refl p
indirect_written rules a b of (e ∷ es) id r id_is p = subsection_written rules a b (record { of = of; content = Indirect (e ∷ es) }) id r id_is p

-- Whether a map has a subsection.
pub direct_some : (of : Named) (es : List (ℕ × List ℕ)) → nat_lt 0 (length es) ≡ nat_lt 0 (length (direct of es))
direct_some of [] = refl
direct_some of (e ∷ es) = lt-ltb 0 (length (e ∷ es)) (omega arith)

pub indirect_some : (of : Named) (es : List (ℕ × List (ℕ × List ℕ))) → nat_lt 0 (length es) ≡ nat_lt 0 (length (indirect of es))
indirect_some of [] = refl
indirect_some of (e ∷ es) = lt-ltb 0 (length (e ∷ es)) (omega arith)

-- What is read if there is no map.
abbrev pub first_map : NameMap
first_map = map_of.Items space.Func

-- Some items, and those of each element of a list.
pub together : {X Y : Type 0} (spell : Y → List ℕ) (f : X → List Y) (ys : List Y) (xs : List X)
    → flat_map spell ys ++ flat_map (λ x. flat_map spell (f x)) xs ≡ flat_map spell (ys ++ flat_map f xs)
together spell f ys xs = ap (λ z. flat_map spell ys ++ z) (flat_in_flat spell f xs) ∙ sym (flat_map-append spell ys (flat_map f xs))

pub all_together : {X Y : Type 0} (InRange : Y → Type 0) (f : X → List Y) (ys : List Y) (xs : List X) → All InRange ys
    → All (λ x. All InRange (f x)) xs → All InRange (ys ++ flat_map f xs)
all_together InRange f ys xs h k = All-append InRange ys (flat_map f xs) h (all_in_flat InRange f xs k)

pub all_apart : {X Y : Type 0} (InRange : Y → Type 0) (f : X → List Y) (ys : List Y) (xs : List X) → All InRange (ys ++ flat_map f xs)
    → All InRange ys × All (λ x. All InRange (f x)) xs
all_apart InRange f ys xs h = (all_left InRange ys (flat_map f xs) h, all_of_flat InRange f xs (all_right InRange ys (flat_map f xs) h))

-- The subsections after the name of the section.
module _ {X : Type 0} (f : X → List NameSubsection) (ys : List NameSubsection) (xs : List X) where
  abbrev whole : List NameSubsection
  whole = ys ++ flat_map f xs

  abbrev Apart : Type 0
  Apart = (InRangeName (codes "name") × All (λ x. (name_subsection x).in_range) ys) × All (λ x. All (λ x. (name_subsection x).in_range) (f x)) xs

  abbrev first : List ℕ
  first = name (codes "name") ++ flat_map (λ x. (name_subsection x).bytes) ys

  abbrev rest : List ℕ
  rest = flat_map (λ x. flat_map (λ x. (name_subsection x).bytes) (f x)) xs

  payload_bytes : first ++ rest ≡ payload_of whole
  payload_bytes =
      let text = name (codes "name") in
      append_assoc text (flat_map (λ x. (name_subsection x).bytes) ys) rest ∙ ap (λ z. text ++ z) (together (λ x. (name_subsection x).bytes) f ys xs)

  payload_fits : Apart → InRangePayload whole
  payload_fits h = (h.0.0, all_together (λ x. (name_subsection x).in_range) f ys xs h.0.1 h.1)

  parts_fit : InRangePayload whole → Apart
  parts_fit h = let apart = all_apart (λ x. (name_subsection x).in_range) f ys xs h.1 in ((h.0, apart.0), apart.1)

  -- The payload after the id and the length of the section.
  pub name_section_written : {S A : Type 0} (rules : SinkRules S) (a b : S) (r : Result A Refusal)
      → Writes rules (Unit {0} × (InRangeU32 (length (first ++ rest)) × Apart)) a b (0 ∷ (unsigned (length (first ++ rest)) ++ (first ++ rest))) r
      → Writes rules (InRangeSized InRangePayload payload_of whole) a b (0 ∷ length_prefixed payload_of whole) r
  name_section_written rules a b r p =
      written_as rules (Unit {0} × (InRangeU32 (length (first ++ rest)) × Apart)) (InRangeSized InRangePayload payload_of whole) a b
      (0 ∷ (unsigned (length (first ++ rest)) ++ (first ++ rest))) (0 ∷ length_prefixed payload_of whole) r
      (λ h. (subst (λ (bytes : List ℕ). InRangeU32 (length bytes)) payload_bytes h.1.0, payload_fits h.1.1))
      (λ h. (tt, (subst (λ (bytes : List ℕ). InRangeU32 (length bytes)) (sym payload_bytes) h.0, parts_fit h.1)))
      (ap (λ (bytes : List ℕ). 0 ∷ (unsigned (length bytes) ++ bytes)) payload_bytes) p

-- A section is left out if it has no subsections.
pub names_absent : {S : Type 0} (rules : SinkRules S) (a : S) (subsections : List NameSubsection) → AppendLaws rules → nat_lt 0 (length subsections) ≡ false
    → Writes {A = Unit {0}} rules (All InRangePart (names_part subsections) × All (λ x. (name_subsection x).in_range) subsections) a a
    (flat_map part (names_part subsections)) (Ok tt)
names_absent rules a [] laws none = (laws.none a, (All-nil InRangePart, All-nil (λ x. (name_subsection x).in_range)))
names_absent rules a (s ∷ ss) laws none = absurd (omega (arith, ltb-false 0 (length (s ∷ ss)) none))

-- Otherwise its payload comes after its id and its length.
pub names_written : {S A : Type 0} (rules : SinkRules S) (a b : S) (subsections : List NameSubsection) (r : Result A Refusal)
    → nat_lt 0 (length subsections) ≡ true
    → Writes rules (InRangeSized InRangePayload payload_of subsections) a b (0 ∷ length_prefixed payload_of subsections) r
    → Writes rules (All InRangePart (names_part subsections) × All (λ x. (name_subsection x).in_range) subsections) a b
    (flat_map part (names_part subsections)) r
names_written rules a b [] r some p = absurd cc
names_written rules a b (s ∷ ss) r some p =
    let bytes = flat_map (λ x. (name_subsection x).bytes) (s ∷ ss) in
    let it : Part = record { kind = Custom; items = record { name = codes "name"; bytes = bytes } } in
    written_as rules (InRangeSized InRangePayload payload_of (s ∷ ss)) (All InRangePart (it ∷ []) × All (λ x. (name_subsection x).in_range)
    (s ∷ ss)) a b (part it) (flat_map part (it ∷ [])) r
    (λ h. (all_one InRangePart it (h.0, h.1.0), h.1.1)) (λ h. let one = All-head InRangePart it [] h.0 in (one.0, (one.1, h.1))) (sym (flat_one part it)) p
