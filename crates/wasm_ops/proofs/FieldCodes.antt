-- The spellings of immediates show their value: bits, lists of value types, memory arguments, lanes, flags, orderings.
use Rattle.std.proofs.Common.{◌≡◌, ◌<◌, ◌+◌, ◌*◌, ℕ, Bool, true, false, ◌&&◌, Option, Some, None, List, [], ◌∷◌, ◌++◌, length, refl, sym}
use Rattle.std.proofs.Common.{ap, ◌∙◌, append_assoc, arith}
use Rattle.std.proofs.lemmas.Bool.{eqb-true}
use Rattle.std.proofs.lemmas.Nat.{from_le_bytes-to_le_bytes_4, from_le_bytes-to_le_bytes_8}
use Rattle.std.specs.Int.{Width, w32, w64, to_le_bytes, from_le_bytes}
use Rattle.std.specs.Prelude.{nat_eq, is_none}
use Rattle.wasm_ops.specs.Codes.{IsCode, IsPrefixCode}
use Rattle.wasm_ops.specs.Leb128.{unsigned}
use Rattle.wasm_ops.specs.Entities.{bit}
use Rattle.wasm_ops.specs.Memargs.{ordering_byte, index_of, is_covered_target, memarg_bytes, memarg}
use Rattle.wasm_ops.specs.Spelling.{list_of, Any, InRangeU32, InRangeU64, Spellable, val_type}
use Rattle.wasm_ops.specs.declared.memargs.MemArg.{MemArg}
use Rattle.wasm_ops.specs.declared.memargs.MemArgTarget.{MemArgTarget}
use Rattle.wasm_ops.specs.declared.memargs.MemArgTarget.TheVariants.{Memory, Array}
use Rattle.wasm_ops.specs.declared.memargs.MemArgOrdering.{MemArgOrdering}
use Rattle.wasm_ops.specs.declared.memargs.Ordering.{Ordering}
use Rattle.wasm_ops.specs.declared.memargs.Ordering.TheVariants.{SeqCst, AcqRel}
use Rattle.wasm_ops.specs.declared.types.ValType.{ValType}
use Rattle.wasm_ops.proofs.Codes.{byte_code, code_within, pair_is, same_front, spellable_vec, vec_code}
use Rattle.wasm_ops.proofs.EntityCodes.{bit_below, bit_is}
use Rattle.wasm_ops.proofs.Numbers.{unsigned_begins}
use Rattle.wasm_ops.proofs.TypeCodes.{val_type_code}

-- ---- bits

bits_code : {F : ℕ → Type 0} (w : Width) (count : ℕ) → ((n : ℕ) → length (to_le_bytes w n) ≡ count)
    → ((n : ℕ) → F n → from_le_bytes w (to_le_bytes w n) ≡ n) → IsCode ℕ F (to_le_bytes w)
bits_code w count long back = record {
  begins = λ m n r s p q e.
      let one = same_front (to_le_bytes w m) (to_le_bytes w n) r s (long m ∙ sym (long n)) e in
      (sym (back m p) ∙ ap (from_le_bytes w) one.0 ∙ back n q, one.1);
}

pub bits32_code : IsCode ℕ InRangeU32 (to_le_bytes w32)
bits32_code = bits_code w32 4 (λ n. refl) from_le_bytes-to_le_bytes_4

pub bits64_code : IsCode ℕ InRangeU64 (to_le_bytes w64)
bits64_code = bits_code w64 8 (λ n. refl) from_le_bytes-to_le_bytes_8

-- ---- lists of value types

pub types_code : IsCode (List ValType) (λ ts. Spellable (list_of val_type ts)) (λ ts. (list_of val_type ts).bytes)
types_code = code_within (λ ts p. spellable_vec val_type ts p.0 p.1) (vec_code val_type_code)

-- ---- memory arguments

-- a number behind another
two_begin : (a b k l : ℕ) (r s : List ℕ) → (unsigned a ++ unsigned b) ++ r ≡ (unsigned k ++ unsigned l) ++ s → (a ≡ k) × (b ≡ l) × (r ≡ s)
two_begin a b k l r s e =
    let one = unsigned_begins a k (unsigned b ++ r) (unsigned l ++ s) (sym (append_assoc (unsigned a) (unsigned b) r) ∙ e
    ∙ append_assoc (unsigned k) (unsigned l) s) in
    let two = unsigned_begins b l r s one.1 in
    (one.0, two.0, two.1)

-- the logarithm of an alignment, the index of a memory, and an offset
abbrev Parts : Type 0
Parts = ℕ × (ℕ × ℕ)

parts_begin : (b c : Bool) (x y : Parts) (r s : List ℕ) → nat_eq x.1.0 0 ≡ b → nat_eq y.1.0 0 ≡ c → x.0 < 64 → y.0 < 64
    → memarg_bytes b x.0 x.1.0 x.1.1 ++ r ≡ memarg_bytes c y.0 y.1.0 y.1.1 ++ s → (x ≡ y) × (r ≡ s)
parts_begin true true x y r s f g p q e =
    let one = two_begin x.0 x.1.1 y.0 y.1.1 r s e in
    let memory : x.1.0 ≡ y.1.0 = eqb-true x.1.0 0 f ∙ sym (eqb-true y.1.0 0 g) in
    (pair_is x y one.0 (pair_is x.1 y.1 memory one.1), one.2)
parts_begin false false x y r s f g p q e =
    let first = unsigned_begins (x.0 + 64) (y.0 + 64) ((unsigned x.1.0 ++ unsigned x.1.1) ++ r) ((unsigned y.1.0 ++ unsigned y.1.1) ++ s)
    (sym (append_assoc (unsigned (x.0 + 64)) (unsigned x.1.0 ++ unsigned x.1.1) r) ∙ e
    ∙ append_assoc (unsigned (y.0 + 64)) (unsigned y.1.0 ++ unsigned y.1.1) s) in
    let one = two_begin x.1.0 x.1.1 y.1.0 y.1.1 r s first.1 in
    (pair_is x y (omega (arith, first.0)) (pair_is x.1 y.1 one.0 one.1), one.2)
parts_begin true false x y r s f g p q e =
    let first = unsigned_begins x.0 (y.0 + 64) (unsigned x.1.1 ++ r) ((unsigned y.1.0 ++ unsigned y.1.1) ++ s)
    (sym (append_assoc (unsigned x.0) (unsigned x.1.1) r) ∙ e ∙ append_assoc (unsigned (y.0 + 64)) (unsigned y.1.0 ++ unsigned y.1.1) s) in
    absurd (omega (arith, first.0))
parts_begin false true x y r s f g p q e =
    let first = unsigned_begins (x.0 + 64) y.0 ((unsigned x.1.0 ++ unsigned x.1.1) ++ r) (unsigned y.1.1 ++ s)
    (sym (append_assoc (unsigned (x.0 + 64)) (unsigned x.1.0 ++ unsigned x.1.1) r) ∙ e ∙ append_assoc (unsigned y.0) (unsigned y.1.1) s) in
    absurd (omega (arith, first.0))

parts_code : IsCode Parts (λ x. (x.0 < 64) × (InRangeU32 x.1.0 × InRangeU64 x.1.1)) (λ x. memarg_bytes (nat_eq x.1.0 0) x.0 x.1.0 x.1.1)
parts_code = record { begins = λ x y r s p q e. parts_begin (nat_eq x.1.0 0) (nat_eq y.1.0 0) x y r s refl refl p.0 q.0 e }

-- a memory argument that is covered is of a memory, and has no ordering
abbrev made : Parts → MemArg
made x = record { align = x.0; target = Memory x.1.0; offset = x.1.1; ordering = None }

abbrev seen : MemArg → Parts
seen m = (m.align, (index_of m.target, m.offset))

made_by : (align offset : ℕ) (target : MemArgTarget) (ordering : Option MemArgOrdering) → (is_covered_target target && is_none ordering) ≡ true
    → record { align = align; target = target; offset = offset; ordering = ordering } ≡ made (align, (index_of target, offset))
made_by align offset (Memory index) None h = refl
made_by align offset (Memory index) (Some o) h = absurd cc
made_by align offset (Array index) ordering h = absurd cc

is_made : (m : MemArg) → (memarg m).is_covered ≡ true → m ≡ made (seen m)
is_made m h = made_by m.align m.offset m.target m.ordering h

pub memarg_code : IsPrefixCode memarg
memarg_code = record {
  begins = λ x y r s p q e.
      let one = parts_code.begins (seen x) (seen y) r s p.1 q.1 e in
      (is_made x p.0 ∙ ap made one.0 ∙ sym (is_made y q.0), one.1);
}

-- ---- lanes, flags and orderings

pub lanes_code : IsCode (List ℕ) (λ ls. length ls ≡ 16) (λ ls. ls)
lanes_code = record { begins = λ x y r s p q e. same_front x y r s (p ∙ sym q) e }

flags_show : (a b k l : Bool) → bit a + 2 * bit b ≡ bit k + 2 * bit l → (a ≡ k) × (b ≡ l)
flags_show a b k l e =
    let first : bit a ≡ bit k = omega (arith, e, bit_below a, bit_below k) in
    (bit_is a k first, bit_is b l (omega (arith, e, first)))

pub nullables_code : IsCode (Bool × Bool) Any (λ p. (bit p.0 + 2 * bit p.1) ∷ [])
nullables_code = record {
  begins = λ x y r s p q e.
      let one = byte_code.begins (bit x.0 + 2 * bit x.1) (bit y.0 + 2 * bit y.1) r s tt tt e in
      let both = flags_show x.0 x.1 y.0 y.1 one.0 in
      (pair_is x y both.0 both.1, one.1);
}

ordering_is : (o p : Ordering) → ordering_byte o ≡ ordering_byte p → o ≡ p
ordering_is SeqCst SeqCst e = refl
ordering_is AcqRel AcqRel e = refl
ordering_is SeqCst AcqRel e = absurd (omega (arith, e))
ordering_is AcqRel SeqCst e = absurd (omega (arith, e))

pub ordering_code : IsCode Ordering Any (λ o. ordering_byte o ∷ [])
ordering_code = record {
  begins = λ x y r s p q e.
      let one = byte_code.begins (ordering_byte x) (ordering_byte y) r s tt tt e in
      (ordering_is x y one.0, one.1);
}
