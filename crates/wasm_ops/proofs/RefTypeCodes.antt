-- The spellings of heap types and reference types show their value.
use Rattle.std.proofs.Common.{◌≡◌, ◌<◌, ◌≤◌, ◌-◌, ℕ, Bool, true, false, List, [], ◌∷◌, ◌++◌, get_or, refl, sym, ap, ◌∙◌, arith}
use Rattle.std.specs.Prelude.{pos, IsTrue}
use Rattle.wasm_ops.specs.Codes.{IsCode, IsPrefixCode}
use Rattle.wasm_ops.specs.Leb128.{last_byte, signed}
use Rattle.wasm_ops.specs.Spelling.{Any, abstract_byte, is_short, ref_bytes, Spellable, heap_type, ref_type}
use Rattle.wasm_ops.specs.declared.ref_types.AbstractHeapType.{AbstractHeapType}
use Rattle.wasm_ops.specs.declared.ref_types.AbstractHeapType.TheVariants as heaps
use Rattle.wasm_ops.specs.declared.ref_types.HeapType.{HeapType}
use Rattle.wasm_ops.specs.declared.ref_types.HeapType.TheVariants as heap
use Rattle.wasm_ops.specs.declared.ref_types.RefType.{RefType}
use Rattle.wasm_ops.proofs.Chains.{chain_begins}
use Rattle.wasm_ops.proofs.SignedNumbers.{signed_spells, signed_begins}
use Rattle.wasm_ops.proofs.Codes.{byte_code, code_by, after_byte}

-- the first byte
abbrev pub front : List ℕ → ℕ
front [] = 0
front (b ∷ bs) = b

-- ---- heap types

-- the abstract heap types in the order of their bytes, from 0x68 on
abbrev abstract_at : ℕ → AbstractHeapType
abstract_at byte =
    get_or (heaps.Cont ∷ heaps.Exn ∷ heaps.Array ∷ heaps.Struct ∷ heaps.I31 ∷ heaps.Eq ∷ heaps.Any ∷ heaps.Extern ∷ heaps.Func ∷ heaps.None
    ∷ heaps.NoExtern ∷ heaps.NoFunc ∷ heaps.NoExn ∷ heaps.NoCont ∷ []) (byte - 0x68) heaps.Func

abstract_shown : (t : AbstractHeapType) → abstract_at (abstract_byte t) ≡ t
abstract_shown heaps.Func = refl
abstract_shown t = refl

pub abstract_is : (a b : AbstractHeapType) → abstract_byte a ≡ abstract_byte b → a ≡ b
abstract_is a b e = sym (abstract_shown a) ∙ ap abstract_at e ∙ abstract_shown b

abstract_range : (t : AbstractHeapType) → (0x68 ≤ abstract_byte t) × (abstract_byte t ≤ 0x75)
abstract_range heaps.Func = (omega arith, omega arith)
abstract_range t = (omega arith, omega arith)

abstract_code : IsCode AbstractHeapType Any (λ t. abstract_byte t ∷ [])
abstract_code = code_by abstract_byte abstract_at abstract_shown byte_code

-- an index does not begin with a byte from 64 to 127
pub index_apart : (n b : ℕ) (r s : List ℕ) → 64 ≤ b → b < 128 → signed (pos n) ++ r ≡ b ∷ s → ⊥
index_apart n b r s low high e =
    let u = signed_spells (pos n) in
    let one = chain_begins (signed (pos n)) (b ∷ []) r s u.chain high e in
    let two : last_byte (signed (pos n)) ≡ b = ap last_byte one.0 in
    omega (arith, u.sum.0)

abstract_apart : (t : AbstractHeapType) (n : ℕ) (r s : List ℕ) → abstract_byte t ∷ r ≡ signed (pos n) ++ s → ⊥
abstract_apart t n r s e = let h = abstract_range t in index_apart n (abstract_byte t) s r (omega (arith, h.0)) (omega (arith, h.1)) (sym e)

pub not_true : {A : Type 0} → IsTrue false → A
not_true h = absurd cc

heap_begins : (x y : HeapType) (r s : List ℕ) → Spellable (heap_type x) → Spellable (heap_type y)
    → (heap_type x).bytes ++ r ≡ (heap_type y).bytes ++ s → (x ≡ y) × (r ≡ s)
heap_begins (heap.Abstract false a) (heap.Abstract false b) r s p q e =
    let one = abstract_code.begins a b r s tt tt e in
    let f : AbstractHeapType → HeapType = λ t. heap.Abstract false t in
    (ap f one.0, one.1)
heap_begins (heap.Concrete m) (heap.Concrete n) r s p q e =
    let one = signed_begins (pos m) (pos n) r s e in
    let same = one.0 in
    let h : m ≡ n = cc in
    (ap heap.Concrete h, one.1)
heap_begins (heap.Abstract false a) (heap.Concrete n) r s p q e = absurd (abstract_apart a n r s e)
heap_begins (heap.Concrete m) (heap.Abstract false b) r s p q e = absurd (abstract_apart b m s r (sym e))
heap_begins (heap.Abstract true a) y r s p q e = not_true p.0
heap_begins (heap.Exact m) y r s p q e = not_true p.0
heap_begins x (heap.Abstract true b) r s p q e = not_true q.0
heap_begins x (heap.Exact n) r s p q e = not_true q.0

pub heap_type_code : IsPrefixCode heap_type
heap_type_code = record { begins = heap_begins }

-- ---- reference types

short_front : (h : HeapType) (r : List ℕ) → Spellable (heap_type h) → is_short h ≡ true
    → (0x68 ≤ front ((heap_type h).bytes ++ r)) × (front ((heap_type h).bytes ++ r) ≤ 0x75)
short_front (heap.Abstract false ty) r p short = abstract_range ty
short_front (heap.Abstract true ty) r p short = not_true p.0
short_front (heap.Concrete n) r p short = not_true short
short_front (heap.Exact n) r p short = not_true short

ref_begins : (m n a b : Bool) (h k : HeapType) (r s : List ℕ) → Spellable (heap_type h) → Spellable (heap_type k) → is_short h ≡ a → is_short k ≡ b
    → ref_bytes m a (heap_type h).bytes ++ r ≡ ref_bytes n b (heap_type k).bytes ++ s
    → (m ≡ n) × (h ≡ k) × (r ≡ s)
ref_begins true true true true h k r s p q u v e = let one = heap_begins h k r s p q e in (refl, one.0, one.1)
ref_begins true true false false h k r s p q u v e = let one = (after_byte 0x63 heap_type_code).begins h k r s p q e in (refl, one.0, one.1)
ref_begins false false a b h k r s p q u v e = let one = (after_byte 0x64 heap_type_code).begins h k r s p q e in (refl, one.0, one.1)
ref_begins true true true false h k r s p q u v e = absurd (omega (arith, (short_front h r p u).0, ap front e))
ref_begins true true false true h k r s p q u v e = absurd (omega (arith, (short_front k s q v).0, ap front e))
ref_begins true false true b h k r s p q u v e = absurd (omega (arith, (short_front h r p u).0, ap front e))
ref_begins true false false b h k r s p q u v e = absurd (omega (arith, ap front e))
ref_begins false true a true h k r s p q u v e = absurd (omega (arith, (short_front k s q v).0, ap front e))
ref_begins false true a false h k r s p q u v e = absurd (omega (arith, ap front e))

pub ref_type_code : IsPrefixCode ref_type
ref_type_code = record {
  begins = λ x y r s p q e.
      let one = ref_begins x.nullable y.nullable (is_short x.heap_type) (is_short y.heap_type) x.heap_type y.heap_type r s p q refl refl e in
      let f : Bool → RefType = λ b. record { nullable = b; heap_type = x.heap_type } in
      let g : HeapType → RefType = λ h. record { nullable = y.nullable; heap_type = h } in
      (ap f one.0 ∙ ap g one.1, one.2);
}

pub ref_front : (t : RefType) (r : List ℕ) → Spellable (ref_type t) → (0x63 ≤ front ((ref_type t).bytes ++ r)) × (front ((ref_type t).bytes ++ r) ≤ 0x75)
ref_front t r p = by_bytes t.nullable (is_short t.heap_type) t.heap_type r p refl
  where
    by_bytes : (m a : Bool) (h : HeapType) (r : List ℕ) → Spellable (heap_type h) → is_short h ≡ a
        → (0x63 ≤ front (ref_bytes m a (heap_type h).bytes ++ r)) × (front (ref_bytes m a (heap_type h).bytes ++ r) ≤ 0x75)
    by_bytes true true h r p u = let one = short_front h r p u in (omega (arith, one.0), one.1)
    by_bytes true false h r p u = (omega arith, omega arith)
    by_bytes false a h r p u = (omega arith, omega arith)
