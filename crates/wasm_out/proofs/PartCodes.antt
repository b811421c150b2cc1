-- The parts of a module show their value: bytes are read as one module.
use Rattle.std.proofs.Common.{◌≡◌, ◌≢◌, ◌<◌, ℕ, List, [], ◌++◌, refl, sym, ap, ◌∙◌, subst, arith}
use Rattle.std.specs.Prelude.{Option, Some, None, All}
use Rattle.std.proofs.lemmas.List.Elements.{All-head}
use Rattle.std.specs.List.{flat_map}
use Rattle.wasm_ops.specs.declared.types.ValType.{ValType}
use Rattle.wasm_ops.specs.Codes.{IsCode, IsWhole}
use Rattle.wasm_ops.specs.declared.types.SubType.{SubType}
use Rattle.wasm_ops.specs.ConstExprs.{HasRowsExpression, IsBalancedExpression, IsExpression, expression}
use Rattle.wasm_ops.specs.Entities.{global_type, table_type}
use Rattle.wasm_ops.specs.declared.entities.TableType.{TableType}
use Rattle.wasm_ops.specs.Spelling.{InRangeU32, vec, InRangeVec, length_prefixed, InRangeSized, Spellable, list_of, sub_type, val_type}
use Rattle.wasm_ops.specs.Table.{Instr}
use Rattle.wasm_ops.proofs.Codes.{index_code, code_within, code_whole, after_byte, whole_within, pair_code, pair_whole, code_by, whole_by}
use Rattle.wasm_ops.proofs.Codes.{vec_code, sized_code, filled_whole, name_code, bytes_whole, spellable_vec}
use Rattle.wasm_ops.proofs.EntityCodes.{table_type_code, table_front, memory_type_code, global_type_code, tag_type_code, entity_type_code}
use Rattle.wasm_ops.proofs.Everywhere.{all_both, both_true}
use Rattle.wasm_ops.proofs.RefTypeCodes.{front}
use Rattle.wasm_ops.proofs.TypeCodes.{val_type_code, export_kind_code, sub_type_code, sub_front}
use Rattle.wasm_ops.proofs.ExpressionCodes.{expression_code, content_code, are_instrs, is_expression}
use Rattle.wasm_out.specs.Bodies.{Body, LocalRun, local_runs, locals, IsSpellableContent, body_content, local_run}
use Rattle.wasm_out.specs.Parts.{SectionKind, Types, Imports, Functions, Tables, Memories, Tags, Globals, Exports, Code, TypeEntry, Single}
use Rattle.wasm_out.specs.Parts.{Group, ImportEntry, TableEntry, GlobalEntry, ExportEntry, Entry, table_bytes, entry, InRangeEntry}
use Rattle.wasm_out.specs.Parts.{PartKind, Custom, Start, Listed, CustomPart, PartItems, section_id, part_id, Part, part, InRangePart}
use Rattle.wasm_out.specs.Parts.{Elements, Data, DataCount, export_entry, global_entry, import_entry, payload, table_entry, table_init}
use Rattle.wasm_out.specs.Parts.{type_entry}
use Rattle.wasm_out.specs.Readable.{IsReadable, AreReadable, IsReadablePart, IsSpellable, AreSpellable, IsSpellablePart}
use Rattle.wasm_out.specs.Reads.{header, Reads}
use Rattle.wasm_out.proofs.SegmentCodes.{element_code, data_code}
use Rattle.wasm_out.proofs.LocalRuns.{expanded, expanded-local_runs, runs_in_range}

-- ---- bodies

run_code : IsCode LocalRun (λ (r : LocalRun). InRangeU32 r.0 × Spellable (val_type r.1)) (λ x. (local_run x).bytes)
run_code = pair_code index_code val_type_code

locals_code : IsCode (List ValType) (InRangeVec (λ x. Spellable (val_type x))) locals
locals_code = code_within (runs_in_range (λ x. Spellable (val_type x))) (code_by local_runs expanded expanded-local_runs (vec_code run_code))

content_whole : IsWhole Body IsSpellableContent (λ x. (body_content x).bytes)
content_whole = whole_within (λ b p. (p.locals, p.instrs)) (whole_by (λ (b : Body). (b.locals, b.instrs)) (λ p. record {
  locals = p.0;
  instrs = p.1;
}) (λ b. refl) (pair_whole locals_code content_code))

-- ---- entries

types_code : IsCode (List SubType) (InRangeVec (λ x. Spellable (sub_type x))) (vec (λ x. (sub_type x).bytes))
types_code = vec_code sub_type_code

type_entry_code : IsCode TypeEntry (IsSpellable Types) (λ x. (type_entry x).bytes)
type_entry_code = record { begins = type_begins }
  where
    type_begins : (x y : TypeEntry) (r s : List ℕ) → IsSpellable Types x → IsSpellable Types y
        → (type_entry x).bytes ++ r ≡ (type_entry y).bytes ++ s → (x ≡ y) × (r ≡ s)
    type_begins (Single x) (Single y) r s p q e =
        let one = sub_type_code.begins x y r s (p.covered, p.in_range) (q.covered, q.in_range) e in
        (ap Single one.0, one.1)
    type_begins (Group x) (Group y) r s p q e =
        let one = (after_byte 0x4e types_code).begins x y r s (spellable_vec sub_type x p.covered p.in_range)
        (spellable_vec sub_type y q.covered q.in_range) e in
        (ap Group one.0, one.1)
    type_begins (Single x) (Group y) r s p q e = absurd (omega (arith, sub_front x r p.covered, ap front e))
    type_begins (Group x) (Single y) r s p q e = absurd (omega (arith, sub_front y s q.covered, ap front e))

import_entry_code : IsCode ImportEntry (IsSpellable Imports) (λ x. (import_entry x).bytes)
import_entry_code = code_within (λ i p. (p.in_range.0, (p.in_range.1.0, (p.covered, p.in_range.1.1))))
    (code_by (λ (i : ImportEntry). (i.«module», (i.name, i.entity))) (λ p. record { «module» = p.0; name = p.1.0; entity = p.1.1 }) (λ i. refl)
    (pair_code name_code (pair_code name_code entity_type_code)))

export_entry_code : IsCode ExportEntry (λ x. (export_entry x).in_range) (λ x. (export_entry x).bytes)
export_entry_code = code_within (λ e p. (p.0, (tt, p.1))) (code_by (λ (e : ExportEntry). (e.name, (e.kind, e.index))) (λ p. record {
  name = p.0;
  kind = p.1.0;
  index = p.1.1;
}) (λ e. refl) (pair_code name_code (pair_code export_kind_code index_code)))

-- a table, and what its elements are at first
abbrev Filled : Type 0
Filled = TableType × List Instr

filled_code : IsCode Filled (λ f. Spellable (table_type f.0) × IsExpression f.1) (λ f. (table_type f.0).bytes ++ (expression f.1).bytes)
filled_code = pair_code table_type_code expression_code

abbrev IsSpellableTable : TableType → Option (List Instr) → Type 0
IsSpellableTable ty init = IsSpellable Tables (record { ty = ty; init = init })

plain_table : (t : TableType) → IsSpellableTable t None → Spellable (table_type t)
plain_table t p = ((both_true (table_type t).is_covered (table_init None).is_covered p.covered).0, p.in_range.0)

filled_table : (t : TableType) (is : List Instr) → IsSpellableTable t (Some is) → Spellable (table_type t) × IsExpression is
filled_table t is p =
    let both = both_true (table_type t).is_covered (expression is).is_covered p.covered in
    ((both.0, p.in_range.0), is_expression is both.1 p.in_range.1 (All-head HasRowsExpression is [] p.rows) (All-head IsBalancedExpression is [] p.balanced))

table_begins : (t u : TableType) (i j : Option (List Instr)) (r s : List ℕ) → IsSpellableTable t i → IsSpellableTable u j
    → table_bytes t i ++ r ≡ table_bytes u j ++ s → (t ≡ u) × (i ≡ j) × (r ≡ s)
table_begins t u None None r s p q e = let one = table_type_code.begins t u r s (plain_table t p) (plain_table u q) e in (one.0, refl, one.1)
table_begins t u (Some i) (Some j) r s p q e =
    let one = (after_byte 0x40 (after_byte 0x00 filled_code)).begins (t, i) (u, j) r s (filled_table t i p) (filled_table u j q) e in
    let first : Filled → TableType = λ f. f.0 in
    let second : Filled → Option (List Instr) = λ f. Some f.1 in
    (ap first one.0, ap second one.0, one.1)
table_begins t u None (Some j) r s p q e = absurd (omega (arith, table_front t r (plain_table t p), ap front e))
table_begins t u (Some i) None r s p q e = absurd (omega (arith, table_front u s (plain_table u q), ap front e))

table_entry_code : IsCode TableEntry (IsSpellable Tables) (λ x. (table_entry x).bytes)
table_entry_code = record {
  begins = λ x y r s p q e.
      let one = table_begins x.ty y.ty x.init y.init r s p q e in
      let f : TableType → TableEntry = λ t. record { ty = t; init = x.init } in
      let g : Option (List Instr) → TableEntry = λ i. record { ty = y.ty; init = i } in
      (ap f one.0 ∙ ap g one.1, one.2);
}

global_entry_code : IsCode GlobalEntry (IsSpellable Globals) (λ x. (global_entry x).bytes)
global_entry_code =
    code_within (λ g p. let both = both_true (global_type g.ty).is_covered (expression g.init).is_covered p.covered
    in (
      (both.0, p.in_range.0),
      is_expression g.init both.1 p.in_range.1 (All-head HasRowsExpression g.init [] p.rows)
          (All-head IsBalancedExpression g.init [] p.balanced),
    ))
    (code_by (λ (g : GlobalEntry). (g.ty, g.init)) (λ p. record { ty = p.0; init = p.1 }) (λ g. refl) (pair_code global_type_code expression_code))

-- a body whose locals and instructions are covered, and whose instructions are rows of the table
spellable_body : (b : Body) → IsSpellable Code b → InRangeSized IsSpellableContent (λ x. (body_content x).bytes) b
spellable_body b p =
    let both = both_true (list_of val_type b.locals).is_covered (expression b.instrs).is_covered p.covered in (
      p.in_range.0,
      record {
        locals = spellable_vec val_type b.locals both.0 p.in_range.1.0;
        instrs = are_instrs b.instrs both.1 p.in_range.1.1 (All-head HasRowsExpression b.instrs [] p.rows);
      },
    )

pub entry_code : (kind : SectionKind) → IsCode (Entry kind) (IsSpellable kind) (entry kind)
entry_code Types = type_entry_code
entry_code Imports = import_entry_code
entry_code Functions = code_within (λ n p. p.in_range) index_code
entry_code Tables = table_entry_code
entry_code Memories = code_within (λ m p. (p.covered, p.in_range)) memory_type_code
entry_code Tags = code_within (λ t p. (p.covered, p.in_range)) tag_type_code
entry_code Globals = global_entry_code
entry_code Exports = code_within (λ e p. p.in_range) export_entry_code
entry_code Elements = code_within (λ e p. record { in_range = p.in_range; covered = p.covered; rows = p.rows; balanced = p.balanced }) element_code
entry_code Code = code_within spellable_body (sized_code content_whole)
entry_code Data = code_within (λ d p. record { in_range = p.in_range; covered = p.covered; rows = p.rows; balanced = p.balanced }) data_code

-- ---- parts

custom_whole : IsWhole CustomPart (AreSpellable Custom) (λ c. (payload Custom c).bytes)
custom_whole = whole_within (λ c p. (p, tt)) (whole_by (λ (c : CustomPart). (c.name, c.bytes)) (λ p. record { name = p.0; bytes = p.1 }) (λ c. refl)
    (pair_whole name_code bytes_whole))

pub payload_whole : (kind : PartKind) → IsWhole (PartItems kind) (AreSpellable kind) (λ x. (payload kind x).bytes)
payload_whole Custom = custom_whole
payload_whole Start = code_whole index_code
payload_whole DataCount = code_whole index_code
payload_whole (Listed kind) = code_whole (vec_code (entry_code kind))

section_shows : (k l : SectionKind) → section_id k ≡ section_id l → k ≡ l
section_shows Types Types e = refl
section_shows Imports Imports e = refl
section_shows Functions Functions e = refl
section_shows Tables Tables e = refl
section_shows Memories Memories e = refl
section_shows Tags Tags e = refl
section_shows Globals Globals e = refl
section_shows Exports Exports e = refl
section_shows Elements Elements e = refl
section_shows Code Code e = refl
section_shows Data Data e = refl
section_shows k l e = absurd (omega arith)

-- a section with a list is none of the others
listed_apart : (k : SectionKind) → (0 < section_id k) × (section_id k ≢ 8) × (section_id k ≢ 12)
listed_apart Types = (omega arith, omega arith, omega arith)
listed_apart k = (omega arith, omega arith, omega arith)

id_shows : (k l : PartKind) → part_id k ≡ part_id l → k ≡ l
id_shows Custom Custom e = refl
id_shows Start Start e = refl
id_shows DataCount DataCount e = refl
id_shows (Listed k) (Listed l) e = ap Listed (section_shows k l e)
id_shows (Listed k) Custom e = absurd (omega (arith, (listed_apart k).0, e))
id_shows Custom (Listed l) e = absurd (omega (arith, (listed_apart l).0, e))
id_shows (Listed k) Start e = absurd ((listed_apart k).1 e)
id_shows Start (Listed l) e = absurd ((listed_apart l).1 (sym e))
id_shows (Listed k) DataCount e = absurd ((listed_apart k).2 e)
id_shows DataCount (Listed l) e = absurd ((listed_apart l).2 (sym e))
id_shows k l e = absurd (omega (arith, e))

abbrev part_of : (kind : PartKind) → PartItems kind → Part
part_of kind items = record { kind = kind; items = items }

abbrev IsSpellablePayload : (kind : PartKind) → PartItems kind → Type 0
IsSpellablePayload kind items = InRangeSized (AreSpellable kind) (λ x. (payload kind x).bytes) items

-- items of two kinds that are one
payloads_begin : (k l : PartKind) (x : PartItems k) (y : PartItems l) (r s : List ℕ) → k ≡ l → IsSpellablePayload k x → IsSpellablePayload l y
    → length_prefixed (λ x. (payload k x).bytes) x ++ r ≡ length_prefixed (λ x. (payload l x).bytes) y ++ s → (part_of k x ≡ part_of l y) × (r ≡ s)
payloads_begin k l x y r s e p q h =
    let Motive : PartKind → Type 0 = λ m. (z : PartItems m) → IsSpellablePayload m z
    → length_prefixed (λ x. (payload k x).bytes) x ++ r ≡ length_prefixed (λ x. (payload m x).bytes) z ++ s → (part_of k x ≡ part_of m z) × (r ≡ s) in
    let here : Motive k = λ z t f. let one = (sized_code (payload_whole k)).begins x z r s p t f in (ap (part_of k) one.0, one.1) in
    subst Motive e here y q h

pub part_code : IsCode Part IsSpellablePart part
part_code = record {
  begins = λ x y r s p q e.
      let h : part_id x.kind ≡ part_id y.kind = cc in
      let t : length_prefixed (λ i. (payload x.kind i).bytes) x.items ++ r ≡ length_prefixed (λ i. (payload y.kind i).bytes) y.items ++ s = cc in
      payloads_begin x.kind y.kind x.items y.items r s (id_shows x.kind y.kind h) p q t;
}

-- ---- modules

-- what is in range and readable is spellable
spellable_items : (kind : PartKind) (items : PartItems kind) → (payload kind items).in_range → AreReadable kind items → AreSpellable kind items
spellable_items Custom c r p = r
spellable_items Start n r p = r
spellable_items DataCount n r p = r
spellable_items (Listed kind) items r p = (
  r.0,
  all_both (InRangeEntry kind) (IsReadable kind) (IsSpellable kind) (λ e q h. record {
    in_range = q;
    covered = h.covered;
    rows = h.rows;
    balanced = h.balanced;
  }) items r.1 p,
)

are_spellable : {bytes : List ℕ} (p : List Part) → Reads bytes p → All IsSpellablePart p
are_spellable p h = all_both InRangePart IsReadablePart IsSpellablePart (λ x r q. (r.0, spellable_items x.kind x.items r.1 q)) p h.in_range h.readable

pub one_module : (bytes : List ℕ) (p q : List Part) → Reads bytes p → Reads bytes q → p ≡ q
one_module bytes p q a b =
    let e : header ++ flat_map part p ≡ header ++ flat_map part q = sym a.spelled ∙ b.spelled in
    let f : flat_map part p ≡ flat_map part q = cc in
    (filled_whole (λ x h. omega arith) part_code).same p q (are_spellable p a) (are_spellable q b) f

pub one_spelling : (b c : List ℕ) (p : List Part) → Reads b p → Reads c p → b ≡ c
one_spelling b c p x y = x.spelled ∙ sym y.spelled
