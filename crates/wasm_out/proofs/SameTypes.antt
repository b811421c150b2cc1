-- Two types are the same where they are one.
use Rattle.std.proofs.Common.{◌≡◌, Bool, true, false, refl, ap, ◌∙◌}
use Rattle.std.specs.Prelude.{◌==◌, ◌&&◌}
use Rattle.std.proofs.lemmas.Bool.{eqb-true, eq-eqb}
use Rattle.wasm_ops.specs.declared.ref_types.AbstractHeapType.{AbstractHeapType}
use Rattle.wasm_ops.specs.declared.ref_types.HeapType.{HeapType}
use Rattle.wasm_ops.specs.declared.ref_types.HeapType.TheVariants as heap
use Rattle.wasm_ops.specs.declared.ref_types.RefType.{RefType}
use Rattle.wasm_ops.specs.declared.types.ValType.{ValType}
use Rattle.wasm_ops.specs.declared.types.ValType.TheVariants as val
use Rattle.wasm_ops.specs.Spelling.{abstract_byte}
use Rattle.wasm_ops.proofs.Everywhere.{both_true}
use Rattle.wasm_ops.proofs.RefTypeCodes.{abstract_is}
use Rattle.wasm_out.specs.Bodies.{is_same_flag, is_same_heap_type, is_same_ref_type, is_same_type}

flag_is : (a b : Bool) → is_same_flag a b ≡ true → a ≡ b
flag_is true true e = refl
flag_is false false e = refl
flag_is a b e = absurd cc

heap_is : (h k : HeapType) → is_same_heap_type h k ≡ true → h ≡ k
heap_is (heap.Abstract s a) (heap.Abstract t b) e =
    let both = both_true (is_same_flag s t) (abstract_byte a == abstract_byte b) e in
    let f : Bool → HeapType = λ x. heap.Abstract x a in
    let g : AbstractHeapType → HeapType = λ x. heap.Abstract t x in
    ap f (flag_is s t both.0) ∙ ap g (abstract_is a b (eqb-true (abstract_byte a) (abstract_byte b) both.1))
heap_is (heap.Concrete m) (heap.Concrete n) e = ap heap.Concrete (eqb-true m n e)
heap_is (heap.Exact m) (heap.Exact n) e = ap heap.Exact (eqb-true m n e)
heap_is h k e = absurd cc

ref_is : (r s : RefType) → is_same_ref_type r s ≡ true → r ≡ s
ref_is r s e =
    let both = both_true (is_same_flag r.nullable s.nullable) (is_same_heap_type r.heap_type s.heap_type) e in
    let f : Bool → RefType = λ x. record { nullable = x; heap_type = r.heap_type } in
    let g : HeapType → RefType = λ x. record { nullable = s.nullable; heap_type = x } in
    ap f (flag_is r.nullable s.nullable both.0) ∙ ap g (heap_is r.heap_type s.heap_type both.1)

pub type_is : (t u : ValType) → is_same_type t u ≡ true → t ≡ u
type_is val.I32 val.I32 e = refl
type_is val.I64 val.I64 e = refl
type_is val.F32 val.F32 e = refl
type_is val.F64 val.F64 e = refl
type_is val.V128 val.V128 e = refl
type_is (val.Ref r) (val.Ref s) e = ap val.Ref (ref_is r s e)
type_is t u e = absurd cc

own_flag : (a : Bool) → is_same_flag a a ≡ true
own_flag true = refl
own_flag false = refl

own_heap : (h : HeapType) → is_same_heap_type h h ≡ true
own_heap (heap.Abstract s a) = rw (own_flag s) (eq-eqb (abstract_byte a) (abstract_byte a) refl)
own_heap (heap.Concrete n) = eq-eqb n n refl
own_heap (heap.Exact n) = eq-eqb n n refl

own_ref : (m : Bool) (h : HeapType) → (is_same_flag m m && is_same_heap_type h h) ≡ true
own_ref m h = rw (own_flag m) (own_heap h)

pub own_type : (t : ValType) → is_same_type t t ≡ true
own_type (val.Ref r) = own_ref r.nullable r.heap_type
own_type t = refl
