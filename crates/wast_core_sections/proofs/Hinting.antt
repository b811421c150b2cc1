-- The section of branch hints, as it is written.
use Rattle.std.proofs.Common.{◌≡◌, ◌<◌, ◌≤◌, ◌+◌, ℕ, Bool, true, false, ◌||◌, List, [], ◌∷◌, ◌++◌, map, length, take, drop, get_or, Some}
use Rattle.std.proofs.Common.{None, Result, Ok, refl, sym, ap, ◌∙◌, subst, arith, length-append}
use Rattle.std.specs.Prelude.{All, if◌then◌else◌}
use Rattle.std.specs.List.{flat_map}
use Rattle.std.proofs.lemmas.List.{length-map}
use Rattle.std.proofs.lemmas.List.Elements.{All-nil, All-head}
use Rattle.std.proofs.lemmas.List.Folds.{flat_map-map}
use Rattle.wast_base.specs.Spaces.{same_space}
use Rattle.wasm_ops.specs.declared.sink.Refusal.{Refusal}
use Rattle.wasm_ops.specs.Leb128.{unsigned}
use Rattle.wasm_ops.specs.Sinks.{SinkRules, Writes, AppendLaws}
use Rattle.wasm_ops.specs.Spelling.{InRangeU32, InRangeName, vec, name}
use Rattle.wasm_ops.proofs.Everywhere.{all_one, flat_one}
use Rattle.wasm_ops.proofs.Sinking.{written_as}
use Rattle.wasm_out.specs.Hints.{hints_name, hints_payload, function_hints, hints}
use Rattle.wasm_out.specs.Parts.{Custom, Part, section, part, InRangePart}
use Rattle.wast_core_conv.specs.Hints.{HintedBody, as_hinted}
use Rattle.wast_tree_nodes.specs.Imports.{item_sigs}
use Rattle.wast_core_name_section.specs.GivenNames.{named_from}
use Rattle.wast_core_name_section.proofs.Each.{each_more, each_around}
use Rattle.wast_core_name_section.proofs.NameEntries.{named_append, as_many}
use Rattle.wast_tree_nodes.specs.Kinds.{is_of}
use Rattle.wast_tree_nodes.specs.declared.kinds.FieldKind.TheVariants as kind
use Rattle.wast_tree_nodes.specs.Items.{space_of_kind}
use Rattle.wast_core_sections.specs.Tree.{Func, FuncKind, ImportItems, ItemSig, ModuleField}
use Rattle.wast_core_sections.specs.Tree.space
use Rattle.wast_core_sections.specs.Tree.field
use Rattle.wast_core_sections.specs.Hints.{has_hints, if_hinted, imported_func, functions_in, hinted_functions, as_function_hints}
use Rattle.wast_core_sections.specs.Hints.{hinted_function, hints_part, InRangeHinted, InRangeHints}

-- Only functions and imports define functions.
abbrev pub is_function_or_import : ModuleField → Bool
is_function_or_import f = is_of kind.Func f || is_of kind.Import f

pub no_function_elsewhere : (f : ModuleField) → is_function_or_import f ≡ false → functions_in f ≡ []
no_function_elsewhere (field.Func x) h = cc
no_function_elsewhere (field.Import i) h = cc
no_function_elsewhere f h = refl

-- An imported function has no hints, and an import of another kind defines no function.
pub imported_unhinted : (n : ℕ) (sigs : List ItemSig) → named_from n (flat_map imported_func sigs) ≡ []
imported_unhinted n [] = refl
imported_unhinted n (s ∷ ss) = by_test (same_space space.Func (space_of_kind s.kind)) (imported_unhinted (n + 1) ss) (imported_unhinted n ss)
  where
    by_test : (b : Bool) → named_from (n + 1) (flat_map imported_func ss) ≡ [] → named_from n (flat_map imported_func ss) ≡ []
        → named_from n ((if b then None ∷ [] else []) ++ flat_map imported_func ss) ≡ []
    by_test true counted passed = counted
    by_test false counted passed = passed

pub others_unhinted : (x : ModuleField) → ((f : Func) → x ≡ field.Func f → ⊥) → 0 ≡ length (named_from 0 (functions_in x))
others_unhinted (field.Func f) h = absurd (h f refl)
others_unhinted (field.Import i) h = sym (ap (λ es. length es) (imported_unhinted 0 (item_sigs i.items)))
others_unhinted x h = refl

pub nothing_written : {S : Type 0} (rules : SinkRules S) (a : S) (n : ℕ) (i : ImportItems) → AppendLaws rules
    → rules.appended a a (flat_map hinted_function (named_from n (flat_map imported_func (item_sigs i)))) × All InRangeHinted
    (named_from n (flat_map imported_func (item_sigs i)))
nothing_written rules a n i laws = rw (imported_unhinted n (item_sigs i)) (laws.none a, All-nil InRangeHinted)

-- A function occurs with its hints, or without any.
pub hinted_if : (k : FuncKind) → has_hints k ≡ true → if_hinted k ≡ Some (as_hinted k)
hinted_if k h = ap (λ b. if b then Some (as_hinted k) else None) h

pub unhinted_if : (k : FuncKind) → has_hints k ≡ false → if_hinted k ≡ None
unhinted_if k h = ap (λ b. if b then Some (as_hinted k) else None) h

-- The fields that are walked have the functions of all fields.
pub alike : (fields first : List ModuleField) → flat_map functions_in first ≡ flat_map functions_in fields → hinted_functions first ≡ hinted_functions fields
alike fields first same = ap (named_from 0) same

-- The number of functions with hints among some fields, and with one field more.
pub hinted_more : (xs : List ModuleField) (k : ℕ) (x : ModuleField) → k < length xs → x ≡ get_or xs k x
    → length (hinted_functions (take (k + 1) xs)) ≡ length (hinted_functions (take k xs)) + length (named_from 0 (functions_in x))
hinted_more xs k x lt item =
    let first = flat_map functions_in (take k xs) in
    omega (
      arith,
      ap (λ z. length (named_from 0 z)) (each_more functions_in xs k x (functions_in x) lt item refl),
      ap (λ z. length z) (named_append 0 first (functions_in x)),
      length-append (named_from 0 first) (named_from (0 + length first) (functions_in x)),
      as_many (0 + length first) 0 (functions_in x),
    )

pub hinted_at_most : (xs : List ModuleField) (k : ℕ) (x : ModuleField) → k < length xs → x ≡ get_or xs k x
    → length (hinted_functions (take k xs)) + length (named_from 0 (functions_in x)) ≤ length (hinted_functions xs)
hinted_at_most xs k x lt item =
    let first = flat_map functions_in (take k xs) in
    let here = functions_in x in
    let rest = flat_map functions_in (drop (k + 1) xs) in
    omega (
      arith,
      ap (λ z. length (named_from 0 z)) (each_around functions_in xs k x here lt item refl),
      ap (λ z. length z) (named_append 0 (first ++ here) rest),
      length-append (named_from 0 (first ++ here)) (named_from (0 + length (first ++ here)) rest),
      ap (λ z. length z) (named_append 0 first here),
      length-append (named_from 0 first) (named_from (0 + length first) here),
      as_many (0 + length first) 0 here,
    )

-- The hints of functions are written as their values.
pub hints_are_these : (fs : List (ℕ × HintedBody)) → vec hinted_function fs ≡ (hints (map as_function_hints fs)).bytes
hints_are_these fs =
    ap (λ (n : ℕ). unsigned n ++ flat_map hinted_function fs) (sym (length-map fs as_function_hints))
    ∙ ap (λ (bs : List ℕ). unsigned (length (map as_function_hints fs)) ++ bs) (sym (flat_map-map (λ x. (function_hints x).bytes) as_function_hints fs))

-- The section is the name, the number of functions, and each of them.
abbrev pub held : ℕ → List (ℕ × HintedBody) → List ℕ
held n fs = name hints_name ++ (unsigned n ++ flat_map hinted_function fs)

abbrev pub InRangeHeld : ℕ → List (ℕ × HintedBody) → Type 0
InRangeHeld n fs = InRangeName hints_name × (InRangeU32 n × All InRangeHinted fs)

-- The section is written with this number of functions.
pub section_written : {S A : Type 0} (rules : SinkRules S) (fs : List (ℕ × HintedBody)) (a b : S) (n : ℕ) (r : Result A Refusal)
    → n ≡ length fs → (n ≡ 0 → ⊥)
    → Writes rules (Unit {0} × (InRangeU32 (length (held n fs)) × InRangeHeld n fs)) a b (section 0 (held n fs)) r
    → Writes rules (All InRangePart (hints_part fs) × InRangeHints fs) a b (flat_map part (hints_part fs)) r
section_written rules [] a b n r count some p = absurd (some count)
section_written rules (f ∷ fs) a b n r count some p =
    let all = f ∷ fs in
    let bytes = (hints (map as_function_hints all)).bytes in
    let here : Part = record { kind = Custom; items = record { name = hints_name; bytes = bytes } } in
    let payload : held n all ≡ hints_payload bytes = ap (λ (m : ℕ). name hints_name ++ (unsigned m ++ flat_map hinted_function all)) count
    ∙ ap hints_payload (hints_are_these all) in
    written_as rules (Unit {0} × (InRangeU32 (length (held n all)) × InRangeHeld n all)) (All InRangePart (hints_part all) × InRangeHints all) a b
    (section 0 (held n all)) (flat_map part (hints_part all)) r
    (λ h. (all_one InRangePart here (subst (λ (bs : List ℕ). InRangeU32 (length bs)) payload h.1.0, h.1.1.0), (subst InRangeU32 count h.1.1.1.0, h.1.1.1.1)))
    (λ h. let head = All-head InRangePart here [] h.0 in
    (tt, (subst (λ (bs : List ℕ). InRangeU32 (length bs)) (sym payload) head.0, (head.1, (subst InRangeU32 (sym count) h.1.0, h.1.1)))))
    (ap (section 0) payload ∙ sym (flat_one part here))
    p

-- No function has hints, and nothing is written.
pub section_absent : {S : Type 0} (rules : SinkRules S) (fs : List (ℕ × HintedBody)) (a : S) (n : ℕ) → AppendLaws rules → n ≡ length fs → n ≡ 0
    → Writes {A = Unit {0}} rules (All InRangePart (hints_part fs) × InRangeHints fs) a a (flat_map part (hints_part fs)) (Ok tt)
section_absent rules [] a n laws count none = (laws.none a, (All-nil InRangePart, (omega arith, All-nil InRangeHinted)))
section_absent rules (f ∷ fs) a n laws count none = absurd (omega arith)
