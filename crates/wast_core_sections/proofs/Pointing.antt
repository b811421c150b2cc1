-- Branch hints point at their instructions: the bytes of a module, split at an instruction.
use Rattle.std.proofs.Common.{◌≡◌, ℕ, zero, suc, ◌+◌, not, List, [], ◌∷◌, ◌++◌, length, take, drop, Option, Some, refl, sym, ap, ◌∙◌, subst}
use Rattle.std.proofs.Common.{arith, append_assoc}
use Rattle.std.specs.Prelude.{slice_get, Contains}
use Rattle.std.specs.List.{flat_map}
use Rattle.std.proofs.lemmas.Bool.{ne_eqb}
use Rattle.std.proofs.lemmas.Grind.{flat_map-append}
use Rattle.std.proofs.lemmas.List.Elements.{Contains-append_right}
use Rattle.std.proofs.lemmas.Option.{none-some, same_Some}
use Rattle.wasm_ops.specs.Leb128.{unsigned}
use Rattle.wasm_ops.specs.Spelling.{vec}
use Rattle.wasm_ops.specs.Table.{Instr, instr}
use Rattle.wasm_out.specs.Bodies.{Body, locals, body_content}
use Rattle.wasm_out.specs.Parts.{Code, Listed, section_id, body, Part, part}
use Rattle.wasm_out.specs.Reads.{header, Reads}
use Rattle.wast_core_conv.specs.Hints.{HintedBody, hints_of, as_hinted, bytes_before}
use Rattle.wast_core_name_section.specs.GivenNames.{named_from}
use Rattle.wast_core_name_section.proofs.NameEntries.{named_append}
use Rattle.wast_core_sections.specs.Tree.{BranchHint, Func, FuncKind, ModuleField}
use Rattle.wast_core_sections.specs.Tree.field
use Rattle.wast_core_sections.specs.HintPlaces.{IsSpelledAt, until_code, up_to_size, up_to_body, HintsPointAtInstructions}
use Rattle.wast_core_sections.specs.Hints.{if_hinted, functions_in, hinted_functions}
use Rattle.wast_core_sections.specs.Sections.{as_body, entries_in, entries, section_part, in_slot, parts}
use Rattle.wast_core_sections.specs.Slots.{order}
use Rattle.wast_core_sections.specs.declared.slots.SectionKind.TheVariants as kind
use Rattle.wast_core_sections.specs.declared.slots.Slot.{Slot}
use Rattle.wast_core_sections.specs.declared.slots.Slot.TheVariants as slot
use Rattle.wast_core_sections.proofs.Hinting.{hinted_if}

-- ---- The entry of the function.

has_some : (k : FuncKind) (h : BranchHint) → Contains (hints_of k) h → if_hinted k ≡ Some (as_hinted k)
has_some k h c = let some = c.1 in hinted_if k (ap not (ne_eqb (length (hints_of k)) 0 (λ z. omega arith)))

told_by_index : (before behind : List ModuleField) (f : Func) → if_hinted f.kind ≡ Some (as_hinted f.kind)
    → Contains (hinted_functions (before ++ field.Func f ∷ behind)) (length (flat_map functions_in before), as_hinted f.kind)
told_by_index before behind f is =
    let first = flat_map functions_in before in
    let rest = flat_map functions_in behind in
    let n = length first in
    let here : ℕ × HintedBody = (n, as_hinted f.kind) in
    let start : 0 + n ≡ n = omega arith in
    let apart : hinted_functions (before ++ field.Func f ∷ behind) ≡ named_from 0 first ++ (here ∷ named_from (n + 1) rest) =
    ap (named_from 0) (flat_map-append functions_in before (field.Func f ∷ behind) ∙ ap (λ o. first ++ (o ∷ rest)) is)
    ∙ (named_append 0 first (Some (as_hinted f.kind) ∷ rest) ∙ ap (λ m. named_from 0 first ++ ((m, as_hinted f.kind) ∷ named_from (m + 1) rest)) start) in
    subst (λ es. Contains es here) (sym apart) (Contains-append_right (named_from 0 first) (here ∷ named_from (n + 1) rest) here (0, omega arith, refl))

-- ---- The body, at an instruction.

list_split : {A : Type 0} (f : A → List ℕ) (xs : List A) (n : ℕ) (x : A) → slice_get xs n ≡ Some x
    → flat_map f xs ≡ flat_map f (take n xs) ++ (f x ++ flat_map f (drop (suc n) xs))
list_split f [] n x h = absurd (none-some x h)
list_split f (y ∷ ys) zero x h = ap (λ z. f z ++ flat_map f ys) (same_Some y x h)
list_split f (y ∷ ys) (suc n) x h = ap (λ z. f y ++ z) (list_split f ys n x h)
    ∙ sym (append_assoc (f y) (flat_map f (take n ys)) (f x ++ flat_map f (drop (suc n) ys)))

content_regrouped : (l t i d e : List ℕ) → l ++ ((t ++ (i ++ d)) ++ e) ≡ (l ++ t) ++ (i ++ (d ++ e))
content_regrouped l t i d e = simp append_assoc

content_split : (b : Body) (n : ℕ) (i : Instr) → slice_get b.instrs n ≡ Some i
    → (body_content b).bytes ≡ bytes_before b n ++ ((instr i).bytes ++ (flat_map (λ x. (instr x).bytes) (drop (suc n) b.instrs) ++ 0x0b ∷ []))
content_split b n i h =
    ap (λ (z : List ℕ). locals b.locals ++ (z ++ 0x0b ∷ [])) (list_split (λ x. (instr x).bytes) b.instrs n i h)
    ∙ content_regrouped (locals b.locals) (flat_map (λ x. (instr x).bytes) (take n b.instrs)) (instr i).bytes
    (flat_map (λ x. (instr x).bytes) (drop (suc n) b.instrs)) (0x0b ∷ [])

-- ---- The code section, at a body.

code_regrouped : (l n x s c y : List ℕ) → l ++ (n ++ (x ++ ((s ++ c) ++ y))) ≡ (l ++ (n ++ (x ++ s))) ++ (c ++ y)
code_regrouped l n x s c y = simp append_assoc

code_split : (all xs ys : List Body) (b : Body) → all ≡ xs ++ b ∷ ys → part (record { kind = Listed Code; items = all }) ≡ up_to_size all xs b ++
    ((body_content b).bytes ++ flat_map body ys)
code_split all xs ys b e =
    let long = unsigned (length (vec body all)) in
    let many = unsigned (length all) in
    ap (λ (z : List ℕ). section_id Code ∷ (long ++ (many ++ z))) (ap (flat_map body) e ∙ flat_map-append body xs (b ∷ ys))
    ∙ ap (λ (z : List ℕ). section_id Code ∷ z) (code_regrouped long many (flat_map body xs) (unsigned (length (body_content b).bytes))
    (body_content b).bytes (flat_map body ys))

one_section : (xs ys : List Body) (b : Body) → section_part Code (xs ++ b ∷ ys) ≡ record { kind = Listed Code; items = xs ++ b ∷ ys } ∷ []
one_section [] ys b = refl
one_section (x ∷ xs) ys b = refl

-- ---- The module, at its code section.

-- The positions after the code section.
abbrev behind_code : List Slot
behind_code = drop 35 order

module_split : (name : Option (List ℕ)) (fields : List ModuleField) → section_part Code (entries Code fields) ≡ record {
  kind = Listed Code;
  items = entries Code fields;
} ∷ []
    → flat_map part (parts name fields) ≡ flat_map part (flat_map (in_slot name fields) (until_code order)) ++
    (part (record { kind = Listed Code; items = entries Code fields }) ++ flat_map part (flat_map (in_slot name fields) behind_code))
module_split name fields one =
    let code : Part = record { kind = Listed Code; items = entries Code fields } in
    let first = flat_map (in_slot name fields) (until_code order) in
    let last = flat_map (in_slot name fields) behind_code in
    ap (flat_map part) (flat_map-append (in_slot name fields) (until_code order) (slot.Section kind.Code ∷ behind_code) ∙ ap (λ ps. first ++ (ps ++ last)) one)
    ∙ flat_map-append part first (code ∷ last)

whole_regrouped : (h u s b i r y v : List ℕ) → h ++ (u ++ ((s ++ ((b ++ (i ++ r)) ++ y)) ++ v)) ≡ (h ++ (u ++ s)) ++ (b ++ (i ++ ((r ++ y) ++ v)))
whole_regrouped h u s b i r y v = simp append_assoc

spelled_at : (bytes : List ℕ) (name : Option (List ℕ)) (before behind : List ModuleField) (f : Func) (n : ℕ) (i : Instr)
    → let fields = before ++ field.Func f ∷ behind in
    Reads bytes (parts name fields) → slice_get (as_body f.kind).instrs n ≡ Some i
    → IsSpelledAt bytes (up_to_body name fields before f) (length (bytes_before (as_body f.kind) n)) i
spelled_at bytes name before behind f n i reads h =
    let fields = before ++ field.Func f ∷ behind in
    let b = as_body f.kind in
    let all = entries Code fields in
    let xs = entries Code before in
    let ys = entries Code behind in
    let bodies : all ≡ xs ++ b ∷ ys = flat_map-append (entries_in Code) before (field.Func f ∷ behind) in
    let one = subst (λ es. section_part Code es ≡ record { kind = Listed Code; items = es } ∷ []) (sym bodies) (one_section xs ys b) in
    let upto = flat_map part (flat_map (in_slot name fields) (until_code order)) in
    let last = flat_map part (flat_map (in_slot name fields) behind_code) in
    let size = up_to_size all xs b in
    let rest = flat_map (λ x. (instr x).bytes) (drop (suc n) b.instrs) ++ 0x0b ∷ [] in
    record {
      between = bytes_before b n;
      behind = (rest ++ flat_map body ys) ++ last;
      counted = refl;
      spelled =
          reads.spelled
          ∙ (ap (λ (z : List ℕ). header ++ z) (module_split name fields one)
          ∙ (ap (λ (z : List ℕ). header ++ (upto ++ (z ++ last))) (code_split all xs ys b bodies
          ∙ ap (λ (z : List ℕ). size ++ (z ++ flat_map body ys)) (content_split b n i h))
          ∙ whole_regrouped header upto size (bytes_before b n) (instr i).bytes rest (flat_map body ys) last));
    }

pub hints_point : HintsPointAtInstructions
hints_point bytes name before behind f h i reads held at =
    (told_by_index before behind f (has_some f.kind h held), spelled_at bytes name before behind f h.instr_index i reads at)
