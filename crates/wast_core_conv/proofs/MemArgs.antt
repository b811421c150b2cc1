-- A memory argument that may be encoded has a number as its index, a logarithm below 64, and a supported value.
use Rattle.std.proofs.Common.{◌≡◌, ℕ, ◌<◌, ◌^◌, true, refl, arith}
use Rattle.std.specs.Prelude.{count_ones, is_none, Option, Some, None, option_map}
use Rattle.std.specs.Int.{w64, is_power_of_two, trailing_zeros}
use Rattle.std.proofs.lemmas.Bool.{eqb-true}
use Rattle.std.proofs.lemmas.Nat.{ones_le_self}
use Rattle.std.proofs.lemmas.Nat.Bits.{bit_at-trailing_zeros}
use Rattle.wast_base.specs.Ids.{is_number}
use Rattle.wast_tree_nodes.specs.Sites.{in_target, in_mem_arg}
use Rattle.wast_tree_nodes.specs.Resolved.{are_numbered}
use Rattle.wasm_ops.specs.Memargs.{is_covered_target, memarg}
use Rattle.wast_core_conv.specs.Tree.{MemArg, MemArgTarget, MemArgOrdering}
use Rattle.wast_core_conv.specs.Tree.target
use Rattle.wast_core_conv.specs.Encodable.{is_encodable_ask, are_encodable}
use Rattle.wast_core_conv.specs.Meaning as meaning
use Rattle.wast_core_conv.proofs.EachPasses.{both_pass, both_true, both_lists}

-- The index of a memory or type is a number, and the target is a memory.
target_parts : (t : MemArgTarget) → are_encodable (in_target t) ≡ true
    → (are_numbered (in_target t) ≡ true) × (is_covered_target (meaning.as_mem_arg_target t) ≡ true)
target_parts (target.Memory i) h = (h, refl)
target_parts (target.Array i) h = let both = both_pass (is_number i) _ h in (both_true (is_number i) true both.0 refl, both.1)

-- The source has no ordering.
ordering_parts : (o : Option MemArgOrdering) → is_none o ≡ true → is_none (option_map meaning.as_mem_arg_ordering o) ≡ true
ordering_parts None h = refl
ordering_parts (Some x) h = h

-- What a memory argument that may be encoded satisfies: its index is a number, and its alignment is a power of two.
pub record MemArgParts (m : MemArg) : Type 0 where
  pub numbered : are_numbered (in_target m.target) ≡ true
  pub aligned : is_power_of_two m.align ≡ true
  pub covered : (memarg (meaning.as_mem_arg m)).is_covered ≡ true

pub mem_arg_parts : (m : MemArg) → are_encodable (in_mem_arg m) ≡ true → MemArgParts m
mem_arg_parts m h =
    let both = both_lists is_encodable_ask (in_target m.target) _ h in
    let is = target_parts m.target both.0 in
    let rest = both_pass (is_power_of_two m.align) _ both.1 in
    record { numbered = is.0; aligned = rest.0; covered = both_true _ _ is.1 (ordering_parts m.ordering (both_pass (is_none m.ordering) true rest.1).0) }

-- No bit of 0 is set.
positive : (n : ℕ) → is_power_of_two n ≡ true → 0 < n
positive n h = let one = eqb-true (count_ones n) 1 h in let bits = ones_le_self n in omega arith

pub aligned_below : (n : ℕ) → is_power_of_two n ≡ true → n < 2 ^ 64 → trailing_zeros w64 n < 64
aligned_below n h fits = (bit_at-trailing_zeros w64 n (positive n h) fits).0
