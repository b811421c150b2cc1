-- The spellings of types show their value.
use Rattle.std.proofs.Common.{◌≡◌, ◌≢◌, ◌<◌, ◌&&◌, ℕ, Bool, true, false, Option, Some, None, List, [], ◌∷◌, ◌++◌, refl, sym, ap, ◌∙◌, arith}
use Rattle.std.specs.Prelude.{nat_eq, IsTrue, not, is_none}
use Rattle.wasm_ops.specs.Codes.{IsCode, IsPrefixCode}
use Rattle.wasm_ops.specs.Leb128.{unsigned}
use Rattle.wasm_ops.specs.Spelling.{list_of, Any, InRangeU32, vec, InRangeVec, mutability, export_kind, sub_bytes, Spellable, array_type}
use Rattle.wasm_ops.specs.Spelling.{composite_inner_type, composite_type, field_type, func_type, storage_type, struct_type, sub_type}
use Rattle.wasm_ops.specs.Spelling.{val_type}
use Rattle.wasm_ops.specs.declared.types.ValType.{ValType}
use Rattle.wasm_ops.specs.declared.types.ValType.TheVariants as val
use Rattle.wasm_ops.specs.declared.types.StorageType.{StorageType}
use Rattle.wasm_ops.specs.declared.types.StorageType.TheVariants as storage
use Rattle.wasm_ops.specs.declared.types.FieldType.{FieldType}
use Rattle.wasm_ops.specs.declared.types.ExportKind.{ExportKind}
use Rattle.wasm_ops.specs.declared.types.ExportKind.TheVariants as kind
use Rattle.wasm_ops.specs.declared.types.FuncType.{FuncType}
use Rattle.wasm_ops.specs.declared.types.StructType.{StructType}
use Rattle.wasm_ops.specs.declared.types.ArrayType.{ArrayType}
use Rattle.wasm_ops.specs.declared.types.CompositeInnerType.{CompositeInnerType}
use Rattle.wasm_ops.specs.declared.types.CompositeInnerType.TheVariants as inner
use Rattle.wasm_ops.specs.declared.types.CompositeType.{CompositeType}
use Rattle.wasm_ops.specs.declared.types.SubType.{SubType}
use Rattle.wasm_ops.proofs.RefTypeCodes.{front, not_true, ref_type_code, ref_front}
use Rattle.wasm_ops.proofs.Codes.{index_code, byte_code, pair_code, code_by, code_within, after_byte, vec_code, spellable_vec}
use Rattle.wasm_ops.proofs.Everywhere.{both_true}

-- ---- value types, storage types and fields

val_begins : (x y : ValType) (r s : List ℕ) → Spellable (val_type x) → Spellable (val_type y) → (val_type x).bytes ++ r ≡ (val_type y).bytes ++ s
    → (x ≡ y) × (r ≡ s)
val_begins val.I32 val.I32 r s p q e = (refl, cc)
val_begins val.I64 val.I64 r s p q e = (refl, cc)
val_begins val.F32 val.F32 r s p q e = (refl, cc)
val_begins val.F64 val.F64 r s p q e = (refl, cc)
val_begins val.V128 val.V128 r s p q e = (refl, cc)
val_begins (val.Ref x) (val.Ref y) r s p q e = let one = ref_type_code.begins x y r s p q e in (ap val.Ref one.0, one.1)
val_begins (val.Ref x) y r s p q e = absurd (omega (arith, ap front e, (ref_front x r p).1))
val_begins x (val.Ref y) r s p q e = absurd (omega (arith, ap front e, (ref_front y s q).1))
val_begins x y r s p q e = absurd (omega (arith, ap front e))

pub val_type_code : IsPrefixCode val_type
val_type_code = record { begins = val_begins }

-- no value type begins with the byte of a packed type
val_front : (t : ValType) (r : List ℕ) → Spellable (val_type t) → (front ((val_type t).bytes ++ r) ≢ 0x77) × (front ((val_type t).bytes ++ r) ≢ 0x78)
val_front val.I32 r p = (omega arith, omega arith)
val_front (val.Ref t) r p = let one = ref_front t r p in (omega (arith, one.1), omega (arith, one.1))
val_front t r p = (omega arith, omega arith)

storage_begins : (x y : StorageType) (r s : List ℕ) → Spellable (storage_type x) → Spellable (storage_type y)
    → (storage_type x).bytes ++ r ≡ (storage_type y).bytes ++ s → (x ≡ y) × (r ≡ s)
storage_begins storage.I8 storage.I8 r s p q e = (refl, cc)
storage_begins storage.I16 storage.I16 r s p q e = (refl, cc)
storage_begins (storage.Val x) (storage.Val y) r s p q e = let one = val_begins x y r s p q e in (ap storage.Val one.0, one.1)
storage_begins (storage.Val x) y r s p q e = absurd (omega (arith, ap front e, (val_front x r p).0, (val_front x r p).1))
storage_begins x (storage.Val y) r s p q e = absurd (omega (arith, ap front e, (val_front y s q).0, (val_front y s q).1))
storage_begins x y r s p q e = absurd (omega (arith, ap front e))

pub storage_type_code : IsPrefixCode storage_type
storage_type_code = record { begins = storage_begins }

mutability_shown : (m : Bool) → nat_eq (mutability m) 1 ≡ m
mutability_shown false = refl
mutability_shown true = refl

pub mutability_code : IsCode Bool Any (λ m. mutability m ∷ [])
mutability_code = code_by mutability (λ byte. nat_eq byte 1) mutability_shown byte_code

pub field_type_code : IsPrefixCode field_type
field_type_code = code_within (λ f p. (p, tt)) (code_by (λ (f : FieldType). (f.element_type, f.mutable)) (λ p. record {
  element_type = p.0;
  mutable = p.1;
}) (λ f. refl) (pair_code storage_type_code mutability_code))

-- ---- kinds of exports

kind_begins : (x y : ExportKind) (r s : List ℕ) → Any x → Any y → export_kind x ++ r ≡ export_kind y ++ s → (x ≡ y) × (r ≡ s)
kind_begins kind.Func kind.Func r s p q e = (refl, cc)
kind_begins kind.Table kind.Table r s p q e = (refl, cc)
kind_begins kind.Memory kind.Memory r s p q e = (refl, cc)
kind_begins kind.Global kind.Global r s p q e = (refl, cc)
kind_begins kind.Tag kind.Tag r s p q e = (refl, cc)
kind_begins x y r s p q e = absurd (omega (arith, ap front e))

pub export_kind_code : IsCode ExportKind Any export_kind
export_kind_code = record { begins = kind_begins }

-- ---- composite types

pub func_type_code : IsPrefixCode func_type
func_type_code =
    code_within (λ f p. let both = both_true (list_of val_type f.params).is_covered (list_of val_type f.results).is_covered p.0 in
    (spellable_vec val_type f.params both.0 p.1.0, spellable_vec val_type f.results both.1 p.1.1))
    (code_by (λ (f : FuncType). (f.params, f.results)) (λ p. record { params = p.0; results = p.1 }) (λ x. refl)
    (after_byte 0x60 (pair_code (vec_code val_type_code) (vec_code val_type_code))))

pub struct_type_code : IsPrefixCode struct_type
struct_type_code =
    code_within (λ t p. spellable_vec field_type t.fields p.0 p.1)
    (code_by (λ (t : StructType). t.fields) (λ fields. record { fields = fields }) (λ x. refl) (after_byte 0x5f (vec_code field_type_code)))

pub array_type_code : IsPrefixCode array_type
array_type_code = code_by (λ (a : ArrayType). a.0) (λ f. record { 0 = f }) (λ a. refl) (after_byte 0x5e field_type_code)

inner_begins : (x y : CompositeInnerType) (r s : List ℕ) → Spellable (composite_inner_type x) → Spellable (composite_inner_type y)
    → (composite_inner_type x).bytes ++ r ≡ (composite_inner_type y).bytes ++ s → (x ≡ y) × (r ≡ s)
inner_begins (inner.Func x) (inner.Func y) r s p q e = let one = func_type_code.begins x y r s p q e in (ap inner.Func one.0, one.1)
inner_begins (inner.Struct x) (inner.Struct y) r s p q e = let one = struct_type_code.begins x y r s p q e in (ap inner.Struct one.0, one.1)
inner_begins (inner.Array x) (inner.Array y) r s p q e = let one = array_type_code.begins x y r s p q e in (ap inner.Array one.0, one.1)
inner_begins (inner.Cont x) y r s p q e = not_true p.0
inner_begins x (inner.Cont y) r s p q e = not_true q.0
inner_begins x y r s p q e = absurd (omega (arith, ap front e))

-- a composite type that is covered is what it is made of
abbrev plain : CompositeInnerType → CompositeType
plain i = record { inner = i; shared = false; descriptor = None; describes = None }

plain_by : (i : CompositeInnerType) (shared : Bool) (descriptor describes : Option ℕ)
    → (not shared && (is_none descriptor && is_none describes)) ≡ true → record {
      inner = i;
      shared = shared;
      descriptor = descriptor;
      describes = describes;
    } ≡ plain i
plain_by i false None None e = refl
plain_by i true descriptor describes e = absurd cc
plain_by i false (Some n) describes e = absurd cc
plain_by i false None (Some n) e = absurd cc

-- what is asked of it, and of what it is made of
covered_both : (x : CompositeType) → IsTrue (composite_type x).is_covered
    → IsTrue (not x.shared && (is_none x.descriptor && is_none x.describes)) × IsTrue (composite_inner_type x.inner).is_covered
covered_both x e = both_true (not x.shared && (is_none x.descriptor && is_none x.describes)) (composite_inner_type x.inner).is_covered e

is_plain : (x : CompositeType) → IsTrue (composite_type x).is_covered → x ≡ plain x.inner
is_plain x e = plain_by x.inner x.shared x.descriptor x.describes (covered_both x e).0

pub composite_type_code : IsPrefixCode composite_type
composite_type_code = record {
  begins = λ x y r s p q e.
      let one = inner_begins x.inner y.inner r s ((covered_both x p.0).1, p.1) ((covered_both y q.0).1, q.1) e in
      (is_plain x p.0 ∙ ap plain one.0 ∙ sym (is_plain y q.0), one.1);
}

composite_front : (i : CompositeInnerType) (r : List ℕ) → IsTrue (composite_inner_type i).is_covered → 0x50 < front ((composite_inner_type i).bytes ++ r)
composite_front (inner.Cont c) r h = not_true h
composite_front x r h = omega arith

-- the types above it and the composite type, behind a byte
abbrev Below : Type 0
Below = List ℕ × CompositeType

abbrev below : List ℕ → CompositeType → Below
below ps c = (ps, c)

below_code : IsCode Below (λ p. InRangeVec InRangeU32 p.0 × Spellable (composite_type p.1)) (λ p. vec unsigned p.0 ++ (composite_type p.1).bytes)
below_code = pair_code (vec_code index_code) composite_type_code

abbrev Fine : List ℕ → CompositeType → Type 0
Fine ps c = InRangeVec InRangeU32 ps × Spellable (composite_type c)

sub_begins : (m n : Bool) (ps qs : List ℕ) (c d : CompositeType) (r s : List ℕ) → Fine ps c → Fine qs d
    → sub_bytes m ps (composite_type c).bytes ++ r ≡ sub_bytes n qs (composite_type d).bytes ++ s → (m ≡ n) × (below ps c ≡ below qs d) × (r ≡ s)
sub_begins true true [] [] c d r s p q e =
    let one = composite_type_code.begins c d r s p.1 q.1 e in
    let f : CompositeType → Below = λ t. ([], t) in
    (refl, ap f one.0, one.1)
sub_begins true true [] (y ∷ ys) c d r s p q e = absurd (omega (arith, ap front e, composite_front c.inner r (covered_both c p.1.0).1))
sub_begins true true (x ∷ xs) [] c d r s p q e = absurd (omega (arith, ap front e, composite_front d.inner s (covered_both d q.1.0).1))
sub_begins true true (x ∷ xs) (y ∷ ys) c d r s p q e =
    let one = (after_byte 0x4f below_code).begins (x ∷ xs, c) (y ∷ ys, d) r s p q e in
    (refl, one.0, one.1)
sub_begins false false ps qs c d r s p q e =
    let one = (after_byte 0x50 below_code).begins (ps, c) (qs, d) r s p q e in
    (refl, one.0, one.1)
sub_begins true false [] qs c d r s p q e = absurd (omega (arith, ap front e, composite_front c.inner r (covered_both c p.1.0).1))
sub_begins true false (x ∷ xs) qs c d r s p q e = absurd (omega (arith, ap front e))
sub_begins false true ps [] c d r s p q e = absurd (omega (arith, ap front e, composite_front d.inner s (covered_both d q.1.0).1))
sub_begins false true ps (y ∷ ys) c d r s p q e = absurd (omega (arith, ap front e))

pub sub_type_code : IsPrefixCode sub_type
sub_type_code = record {
  begins = λ x y r s p q e.
      let one = sub_begins x.is_final y.is_final x.supertype_idxs y.supertype_idxs x.composite_type y.composite_type r s (p.1.0, (p.0, p.1.1))
      (q.1.0, (q.0, q.1.1)) e in
      let f : Bool → SubType = λ b. record { is_final = b; supertype_idxs = x.supertype_idxs; composite_type = x.composite_type } in
      let g : Below → SubType = λ p. record { is_final = y.is_final; supertype_idxs = p.0; composite_type = p.1 } in
      (ap f one.0 ∙ ap g one.1, one.2);
}

-- no type begins with the byte of a group
pub sub_front : (s : SubType) (r : List ℕ) → IsTrue (sub_type s).is_covered → 0x4e < front ((sub_type s).bytes ++ r)
sub_front s r h = sub_bytes_front s.is_final s.supertype_idxs s.composite_type.inner r (covered_both s.composite_type h).1
  where
    sub_bytes_front : (m : Bool) (ps : List ℕ) (i : CompositeInnerType) (r : List ℕ) → IsTrue (composite_inner_type i).is_covered
        → 0x4e < front (sub_bytes m ps (composite_inner_type i).bytes ++ r)
    sub_bytes_front true [] i r h = omega (arith, composite_front i r h)
    sub_bytes_front true (p ∷ ps) i r h = omega arith
    sub_bytes_front false ps i r h = omega arith
