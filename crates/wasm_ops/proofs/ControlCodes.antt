-- The spellings of block types, catch clauses and lists of labels show their value.
use Rattle.std.proofs.Common.{◌≡◌, ◌<◌, ◌≤◌, ℕ, List, [], ◌∷◌, ◌++◌, refl, sym, ap, arith}
use Rattle.std.specs.Prelude.{pos}
use Rattle.wasm_ops.specs.Codes.{IsCode, IsPrefixCode}
use Rattle.wasm_ops.specs.Control.{block_type, catch_clause}
use Rattle.wasm_ops.specs.Leb128.{unsigned, signed}
use Rattle.wasm_ops.specs.Spelling.{InRangeU32, vec, InRangeVec, Spellable, val_type}
use Rattle.wasm_ops.specs.declared.blocks.BlockType.{BlockType}
use Rattle.wasm_ops.specs.declared.blocks.BlockType.TheVariants as block
use Rattle.wasm_ops.specs.declared.blocks.Catch.{Catch}
use Rattle.wasm_ops.specs.declared.blocks.Catch.TheVariants as catches
use Rattle.wasm_ops.specs.declared.types.ValType.{ValType}
use Rattle.wasm_ops.specs.declared.types.ValType.TheVariants as val
use Rattle.wasm_ops.proofs.Codes.{index_code, pair_code, after_byte, vec_code}
use Rattle.wasm_ops.proofs.RefTypeCodes.{front, index_apart, ref_front}
use Rattle.wasm_ops.proofs.SignedNumbers.{signed_begins}
use Rattle.wasm_ops.proofs.TypeCodes.{val_type_code}

-- ---- block types

-- each value type begins with a byte above 0x40 that is no byte of an index
val_front : (t : ValType) (r : List ℕ) → Spellable (val_type t) → (0x63 ≤ front ((val_type t).bytes ++ r)) × (front ((val_type t).bytes ++ r) < 128)
val_front val.I32 r p = (omega arith, omega arith)
val_front (val.Ref t) r p = let one = ref_front t r p in (one.0, omega (arith, one.1))
val_front t r p = (omega arith, omega arith)

index_front : (n : ℕ) (r l : List ℕ) → signed (pos n) ++ r ≡ l → 64 ≤ front l → front l < 128 → ⊥
index_front n r [] e low high = absurd (omega (arith, low))
index_front n r (b ∷ s) e low high = index_apart n b r s low high e

val_apart : (t : ValType) (n : ℕ) (r s : List ℕ) → Spellable (val_type t) → (val_type t).bytes ++ r ≡ signed (pos n) ++ s → ⊥
val_apart t n r s p e = let h = val_front t r p in index_front n s ((val_type t).bytes ++ r) (sym e) (omega (arith, h.0)) h.1

block_begins : (x y : BlockType) (r s : List ℕ) → Spellable (block_type x) → Spellable (block_type y)
    → (block_type x).bytes ++ r ≡ (block_type y).bytes ++ s → (x ≡ y) × (r ≡ s)
block_begins block.Empty block.Empty r s p q e = (refl, cc)
block_begins (block.Result x) (block.Result y) r s p q e = let one = val_type_code.begins x y r s p q e in (ap block.Result one.0, one.1)
block_begins (block.FunctionType m) (block.FunctionType n) r s p q e =
    let one = signed_begins (pos m) (pos n) r s e in
    let same = one.0 in
    let h : m ≡ n = cc in
    (ap block.FunctionType h, one.1)
block_begins block.Empty (block.Result y) r s p q e = absurd (omega (arith, ap front e, (val_front y s q).0))
block_begins (block.Result x) block.Empty r s p q e = absurd (omega (arith, ap front e, (val_front x r p).0))
block_begins block.Empty (block.FunctionType n) r s p q e = absurd (index_apart n 0x40 s r (omega arith) (omega arith) (sym e))
block_begins (block.FunctionType m) block.Empty r s p q e = absurd (index_apart m 0x40 r s (omega arith) (omega arith) e)
block_begins (block.Result x) (block.FunctionType n) r s p q e = absurd (val_apart x n r s p e)
block_begins (block.FunctionType m) (block.Result y) r s p q e = absurd (val_apart y m s r q (sym e))

pub block_type_code : IsPrefixCode block_type
block_type_code = record { begins = block_begins }

-- ---- catch clauses, and lists of labels

-- a tag and a label
tagged_code : IsCode (ℕ × ℕ) (λ p. InRangeU32 p.0 × InRangeU32 p.1) (λ p. unsigned p.0 ++ unsigned p.1)
tagged_code = pair_code index_code index_code

catch_begins : (x y : Catch) (r s : List ℕ) → (catch_clause x).in_range → (catch_clause y).in_range
    → (catch_clause x).bytes ++ r ≡ (catch_clause y).bytes ++ s → (x ≡ y) × (r ≡ s)
catch_begins (catches.One t l) (catches.One u m) r s p q e =
    let one = (after_byte 0x00 tagged_code).begins (t, l) (u, m) r s p q e in
    let f : ℕ × ℕ → Catch = λ v. catches.One v.0 v.1 in
    (ap f one.0, one.1)
catch_begins (catches.OneRef t l) (catches.OneRef u m) r s p q e =
    let one = (after_byte 0x01 tagged_code).begins (t, l) (u, m) r s p q e in
    let f : ℕ × ℕ → Catch = λ v. catches.OneRef v.0 v.1 in
    (ap f one.0, one.1)
catch_begins (catches.All l) (catches.All m) r s p q e = let one = (after_byte 0x02 index_code).begins l m r s p q e in (ap catches.All one.0, one.1)
catch_begins (catches.AllRef l) (catches.AllRef m) r s p q e = let one = (after_byte 0x03 index_code).begins l m r s p q e in (ap catches.AllRef one.0, one.1)
catch_begins x y r s p q e = absurd (omega (arith, ap front e))

pub catch_code : IsCode Catch (λ x. (catch_clause x).in_range) (λ x. (catch_clause x).bytes)
catch_code = record { begins = catch_begins }

pub catches_code : IsCode (List Catch) (InRangeVec (λ x. (catch_clause x).in_range)) (vec (λ x. (catch_clause x).bytes))
catches_code = vec_code catch_code

pub labels_code : IsCode (List ℕ) (InRangeVec InRangeU32) (vec unsigned)
labels_code = vec_code index_code
