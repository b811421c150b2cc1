-- The spellings of the instructions of the table show their value.
use Rattle.std.proofs.Common.{◌≡◌, ◌<◌, ℕ, Bool, true, false, eqb, List, [], ◌∷◌, ◌++◌, length, Option, Some, refl, sym, ap, ◌∙◌, subst}
use Rattle.std.proofs.Common.{append_assoc, arith, inl, inr, ◌⊎◌}
use Rattle.std.proofs.lemmas.Bool.{eqb-true, ltb-true}
use Rattle.wasm_ops.specs.Codes.{IsCode}
use Rattle.wasm_ops.specs.Leb128.{unsigned}
use Rattle.wasm_ops.specs.Opcodes.{opcode_bytes, same_opcode, is_apart}
use Rattle.wasm_ops.specs.declared.opcodes.Opcode.{Opcode}
use Rattle.wasm_ops.specs.declared.opcodes.Opcode.TheVariants.{Byte, Prefixed}
use Rattle.wasm_ops.specs.Table.{Kind, Index, Signed32, Signed64, Bits32, Bits64, Heap, Types, Memarg, Block, Labels, Catches, Lane, Lanes}
use Rattle.wasm_ops.specs.Table.{Nullables, Order, Row, Field, Fields, Instr, table, kinds_of, are_distinct, all_apart, IsInstr, field}
use Rattle.wasm_ops.specs.Table.{fields, instr}
use Rattle.wasm_ops.proofs.Numbers.{unsigned_begins}
use Rattle.wasm_ops.proofs.Codes.{number_code, signed_code, byte_code, code_within, pair_code}
use Rattle.wasm_ops.proofs.ControlCodes.{block_type_code, labels_code, catches_code}
use Rattle.wasm_ops.proofs.Everywhere.{both_true}
use Rattle.wasm_ops.proofs.FieldCodes.{bits32_code, bits64_code, types_code, memarg_code, lanes_code, nullables_code, ordering_code}
use Rattle.wasm_ops.specs.Spelling.{Spellable}
use Rattle.wasm_ops.proofs.RefTypeCodes.{heap_type_code}

-- ---- the table, computed

pub table_distinct : are_distinct table ≡ true
unfolding are_distinct kinds_of table
table_distinct = refl

pub table_apart : all_apart table ≡ true
unfolding all_apart table
table_apart = refl

-- ---- immediates

abbrev IsSpellableField : (kind : Kind) → Field kind → Type 0
IsSpellableField kind x = Spellable (field kind x)

pub field_code : (kind : Kind) → IsCode (Field kind) (IsSpellableField kind) (λ x. (field kind x).bytes)
field_code Index = number_code
field_code Signed32 = signed_code
field_code Signed64 = signed_code
field_code Bits32 = code_within (λ n p. p.1) bits32_code
field_code Bits64 = code_within (λ n p. p.1) bits64_code
field_code Heap = heap_type_code
field_code Types = types_code
field_code Memarg = memarg_code
field_code Block = block_type_code
field_code Labels = code_within (λ ls p. p.1) labels_code
field_code Catches = code_within (λ cs p. p.1) catches_code
field_code Lane = code_within (λ n p. p.1) byte_code
field_code Lanes = code_within (λ ls p. p.1) lanes_code
field_code Nullables = code_within (λ x p. p.1) nullables_code
field_code Order = code_within (λ o p. p.1) ordering_code

abbrev IsSpellableFields : (kinds : List Kind) → Fields kinds → Type 0
IsSpellableFields kinds x = Spellable (fields kinds x)

pub fields_code : (kinds : List Kind) → IsCode (Fields kinds) (IsSpellableFields kinds) (λ x. (fields kinds x).bytes)
fields_code [] = record { begins = λ x y r s p q e. (refl, e) }
fields_code (kind ∷ kinds) =
    code_within (λ x p. let both = both_true (field kind x.0).is_covered (fields kinds x.1).is_covered p.0 in ((both.0, p.1.0), (both.1, p.1.1)))
    (pair_code (field_code kind) (fields_code kinds))

-- ---- opcodes

then_true : (b c : Bool) → elim b as (λ v. Bool) [ true ↦ c | false ↦ false ] ≡ true → (b ≡ true) × (c ≡ true)
then_true true c e = (refl, e)
then_true false c e = absurd cc

which : {A : Type 0} (b : Bool) (x y z : A) → elim b as (λ v. A) [ true ↦ x | false ↦ y ] ≡ z → ((b ≡ true) × (x ≡ z)) ⊎ ((b ≡ false) × (y ≡ z))
which true x y z e = inl (refl, e)
which false x y z e = inr (refl, e)

same_opcode_is : (k l : Opcode) → same_opcode k l ≡ true → k ≡ l
same_opcode_is (Byte a) (Byte b) e = ap Byte (eqb-true a b e)
same_opcode_is (Byte a) (Prefixed q n) e = absurd cc
same_opcode_is (Prefixed p m) (Byte b) e = absurd cc
same_opcode_is (Prefixed p m) (Prefixed q n) e = let h = both_true (eqb p q) (eqb m n) e in let a = eqb-true p q h.0 in let b = eqb-true m n h.1 in cc

-- what holds of each opcode in a table in which no opcode of one byte is a prefix
pub apart_at : (k : Opcode) (rows : List Row) (kinds : List Kind) → all_apart rows ≡ true → kinds_of k rows ≡ Some kinds → is_apart k ≡ true
unfolding all_apart kinds_of
apart_at k [] kinds a h = absurd cc
apart_at k (r ∷ rs) kinds a h =
    let both = then_true (is_apart r.opcode) (all_apart rs) a in
    elim (which (same_opcode r.opcode k) (Some r.kinds) (kinds_of k rs) (Some kinds) h) [
      | inl w ↦ subst (λ l. is_apart l ≡ true) (same_opcode_is r.opcode k w.0) both.0
      | inr w ↦ apart_at k rs kinds both.1 w.1
    ]

opcode_begins : (k l : Opcode) (r s : List ℕ) → is_apart k ≡ true → is_apart l ≡ true → opcode_bytes k ++ r ≡ opcode_bytes l ++ s → (k ≡ l) × (r ≡ s)
opcode_begins (Byte a) (Byte b) r s p q e = let h : a ≡ b = cc in (ap Byte h, cc)
opcode_begins (Byte a) (Prefixed b n) r s p q e = let h : a ≡ b = cc in absurd (omega (arith, ltb-true a 0xfb p, ltb-true 0xfa b q))
opcode_begins (Prefixed b n) (Byte a) r s p q e = let h : b ≡ a = cc in absurd (omega (arith, ltb-true a 0xfb q, ltb-true 0xfa b p))
opcode_begins (Prefixed a m) (Prefixed b n) r s p q e =
    let h : a ≡ b = cc in
    let t : unsigned m ++ r ≡ unsigned n ++ s = cc in
    let one = unsigned_begins m n r s t in
    let k = one.0 in
    (cc, one.1)

-- ---- instructions

abbrev instruction : (row : Row) → Fields row.kinds → Instr
instruction row numbers = record { row = row; numbers = numbers }

-- numbers of two rows that are one
numbers_begin : (i j : Row) (x : Fields i.kinds) (y : Fields j.kinds) (r s : List ℕ) → i ≡ j → IsSpellableFields i.kinds x
    → IsSpellableFields j.kinds y → (fields i.kinds x).bytes ++ r ≡ (fields j.kinds y).bytes ++ s
    → (instruction i x ≡ instruction j y) × (r ≡ s)
numbers_begin i j x y r s e p q h =
    let Motive : Row → Type 0 = λ l. (z : Fields l.kinds) → IsSpellableFields l.kinds z
    → (fields i.kinds x).bytes ++ r ≡ (fields l.kinds z).bytes ++ s → (instruction i x ≡ instruction l z) × (r ≡ s) in
    let here : Motive i = λ z t f. let one = (fields_code i.kinds).begins x z r s p t f in (ap (instruction i) one.0, one.1) in
    subst Motive e here y q h

abbrev some : {A : Type 0} → A → Option A
some x = Some x

some_is : {A : Type 0} (x y : A) → some x ≡ some y → x ≡ y
some_is x y e = cc

pub instr_code : IsCode Instr IsInstr (λ x. (instr x).bytes)
instr_code = record {
  begins = λ x y r s p q e.
      let xs = (fields x.row.kinds x.numbers).bytes in
      let ys = (fields y.row.kinds y.numbers).bytes in
      let one = opcode_begins x.row.opcode y.row.opcode (xs ++ r) (ys ++ s) (apart_at x.row.opcode table x.row.kinds table_apart p.row)
      (apart_at y.row.opcode table y.row.kinds table_apart q.row) (sym (append_assoc (opcode_bytes x.row.opcode) xs r) ∙ e
      ∙ append_assoc (opcode_bytes y.row.opcode) ys s) in
      let kinds : x.row.kinds ≡ y.row.kinds = some_is x.row.kinds y.row.kinds (sym p.row ∙ ap (λ k. kinds_of k table) one.0 ∙ q.row) in
      let f : Opcode → Row = λ k. record { opcode = k; kinds = x.row.kinds } in
      let g : List Kind → Row = λ ks. record { opcode = y.row.opcode; kinds = ks } in
      let row : x.row ≡ y.row = ap f one.0 ∙ ap g kinds in
      numbers_begin x.row y.row x.numbers y.numbers r s row (p.covered, p.numbers) (q.covered, q.numbers) one.1;
}

-- the opcode has a byte or more
opcode_nonempty : (k : Opcode) (xs : List ℕ) → 0 < length (opcode_bytes k ++ xs)
opcode_nonempty (Byte b) xs = omega arith
opcode_nonempty (Prefixed p n) xs = omega arith

pub instr-nonempty : (i : Instr) → 0 < length (instr i).bytes
instr-nonempty i = opcode_nonempty i.row.opcode (fields i.row.kinds i.numbers).bytes
