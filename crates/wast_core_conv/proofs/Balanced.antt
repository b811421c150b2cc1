-- Instructions open and close blocks as their entries in the opcode table do, and labels do not affect that.
use native.Mathlib.Omega.{arith}
use Rattle.std.proofs.Common.{◌≡◌, ◌+◌, ◌==◌, ℕ, zero, suc, Bool, true, false, ◌&&◌, length, take, map, List, [], ◌∷◌, Option, refl, ap, ◌∙◌}
use Rattle.std.specs.Prelude.{nat_le, None, Some, option_map}
use Rattle.std.proofs.lemmas.List.{length-map, take-map}
use Rattle.wast_base.specs.Blocks.{BlockEffect, Opens, Closes, Stays, openers, closers, never_closed, stays_open, is_balanced}
use Rattle.wast_base.specs.declared.mem_ops.MemOp.{MemOp}
use Rattle.wast_base.specs.declared.plain.Plain.{Plain}
use Rattle.wast_base.specs.declared.lane_ops.LaneOp.{LaneOp}
use Rattle.wast_base.specs.declared.lane_ops.MemLaneOp.{MemLaneOp}
use Rattle.wast_tree_nodes.specs.Instrs as tree
use Rattle.wast_tree_nodes.specs.Instrs.{block_effects}
use Rattle.wasm_ops.specs.CastInstrs.{cast_key, cast_instr}
use Rattle.wasm_ops.specs.MemoryInstrs.{mem_instr}
use Rattle.wasm_ops.specs.Opcodes.{opcode_of}
use Rattle.wasm_ops.specs.PlainInstrs.{plain_instr}
use Rattle.wasm_ops.specs.SelectInstrs.{select_instr}
use Rattle.wasm_ops.specs.Turns.{opcode_turn, turn_of, are_balanced}
use Rattle.wasm_ops.specs.VectorInstrs.{lane_instr, mem_lane_instr}
use Rattle.wasm_ops.specs.declared.casts.CastOp.{CastOp}
use Rattle.wasm_ops.specs.declared.casts.CastOp.TheVariants as cast
use Rattle.wasm_ops.specs.declared.ref_types.RefType.{RefType}
use Rattle.wasm_ops.specs.declared.memargs.MemArg.{MemArg}
use Rattle.wasm_ops.specs.declared.types.ValType.{ValType}
use Rattle.wast_core_conv.specs.Tree.{Instruction}
use Rattle.wast_core_conv.specs.Tree.instr as instruction
use Rattle.wast_core_conv.specs.Meaning as meaning

-- ---- Block effects without their labels.

-- A block opens with no label.
abbrev bare : BlockEffect → BlockEffect
bare (Opens l) = Opens None
bare Closes = Closes
bare Stays = Stays

openers_bare : (ts : List BlockEffect) → openers (map bare ts) ≡ openers ts
openers_bare [] = refl
openers_bare (Opens l ∷ ts) = ap (λ (n : ℕ). n + 1) (openers_bare ts)
openers_bare (Closes ∷ ts) = openers_bare ts
openers_bare (Stays ∷ ts) = openers_bare ts

closers_bare : (ts : List BlockEffect) → closers (map bare ts) ≡ closers ts
closers_bare [] = refl
closers_bare (Opens l ∷ ts) = closers_bare ts
closers_bare (Closes ∷ ts) = ap (λ (n : ℕ). n + 1) (closers_bare ts)
closers_bare (Stays ∷ ts) = closers_bare ts

-- A prefix has the same number of closers and openers.
front_bare : (ts : List BlockEffect) (n : ℕ) → nat_le (closers (take n (map bare ts))) (openers (take n (map bare ts))) ≡ nat_le
    (closers (take n ts)) (openers (take n ts))
front_bare ts n =
    ap (λ us. nat_le (closers us) (openers us)) (take-map bare n ts)
    ∙ ap (λ k. nat_le k (openers (map bare (take n ts)))) (closers_bare (take n ts))
    ∙ ap (nat_le (closers (take n ts))) (openers_bare (take n ts))

never_bare : (ts : List BlockEffect) (n : ℕ) → never_closed (map bare ts) n ≡ never_closed ts n
never_bare ts zero = refl
never_bare ts (suc n) =
    ap (λ b. b && nat_le (closers (take (suc n) (map bare ts))) (openers (take (suc n) (map bare ts)))) (never_bare ts n)
    ∙ ap (λ b. never_closed ts n && b) (front_bare ts (suc n))

stays_bare : (ts : List BlockEffect) → stays_open (map bare ts) ≡ stays_open ts
unfolding stays_open
stays_bare ts = ap (never_closed (map bare ts)) (length-map ts bare) ∙ never_bare ts (length ts)

balanced_bare : (ts : List BlockEffect) → is_balanced (map bare ts) ≡ is_balanced ts
balanced_bare ts =
    ap (λ b. b && closers (map bare ts) == openers (map bare ts)) (stays_bare ts)
    ∙ ap (λ k. stays_open ts && k == openers (map bare ts)) (closers_bare ts)
    ∙ ap (λ k. stays_open ts && closers ts == k) (openers_bare ts)

-- ---- What instructions become.

plain_turn : (op : Plain) → turn_of (plain_instr op) ≡ Stays
plain_turn op = grind (arith)

mem_turn : (op : MemOp) (m : MemArg) → turn_of (mem_instr op m) ≡ Stays
mem_turn op m = grind (arith)

lane_turn : (op : LaneOp) (lane : ℕ) → turn_of (lane_instr op lane) ≡ Stays
lane_turn op lane = grind (arith)

mem_lane_turn : (op : MemLaneOp) (m : MemArg) (lane : ℕ) → turn_of (mem_lane_instr op m lane) ≡ Stays
mem_lane_turn op m lane = grind (arith)

cast_turn : (op : CastOp) (ty : RefType) → turn_of (cast_instr op ty) ≡ Stays
cast_turn op ty = by_nullable op ty.nullable
  where
    by_nullable : (op : CastOp) (nullable : Bool) → opcode_turn (opcode_of (cast_key op nullable)) ≡ Stays
    by_nullable cast.Test true = refl
    by_nullable cast.Test false = refl
    by_nullable cast.Cast true = refl
    by_nullable cast.Cast false = refl

select_turn : (o : Option (List ValType)) → turn_of (select_instr o) ≡ Stays
select_turn None = refl
select_turn (Some ts) = refl

turn_as : (i : Instruction) → turn_of (meaning.as_instr i) ≡ bare (tree.turn_of i)
turn_as (instruction.Plain op) = plain_turn op
turn_as (instruction.Mem op m) = mem_turn op (meaning.as_mem_arg m)
turn_as (instruction.Lane op a) = lane_turn op a.lane
turn_as (instruction.MemLane op a) = mem_lane_turn op (meaning.as_mem_arg a.memarg) a.lane.lane
turn_as (instruction.ref_test a) = cast_turn cast.Test (meaning.as_ref_type a.rt)
turn_as (instruction.ref_cast a) = cast_turn cast.Cast (meaning.as_ref_type a.rt)
turn_as (instruction.select t) = select_turn (option_map (map meaning.as_val_type) t.tys)
turn_as i = refl

turns_as : (is : List Instruction) → map turn_of (map meaning.as_instr is) ≡ map bare (block_effects is)
turns_as [] = refl
turns_as (i ∷ is) = ap (λ t. t ∷ map turn_of (map meaning.as_instr is)) (turn_as i) ∙ ap (λ ts. bare (tree.turn_of i) ∷ ts) (turns_as is)

-- Instructions that close their blocks become entries that do.
pub balanced_as : (is : List Instruction) → is_balanced (block_effects is) ≡ true → are_balanced (map meaning.as_instr is) ≡ true
balanced_as is h = ap is_balanced (turns_as is) ∙ balanced_bare (block_effects is) ∙ h
