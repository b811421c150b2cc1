-- Instructions that may be encoded are written as supported entries of the opcode table, and a constant expression
-- closes its blocks.
use Rattle.std.proofs.Common.{◌≡◌, ℕ, true, ◌&&◌, List, [], ◌∷◌, ◌++◌, map, Result, subst, inl, inr, refl, sym, ap, ◌∙◌}
use Rattle.std.specs.Prelude.{All}
use Rattle.std.specs.List.{flat_map, list_all}
use Rattle.std.proofs.lemmas.List.Elements.{All-map}
use Rattle.std.proofs.lemmas.List.Folds.{flat_map-map}
use Rattle.wast_tree_nodes.specs.Instrs.{block_effects}
use Rattle.wast_tree_nodes.specs.Sites.{OfBlock, constant_context, check_sites, in_heap, in_ref, in_mem_arg, in_cast, in_select, in_use}
use Rattle.wast_base.specs.Blocks.{is_balanced}
use Rattle.wast_base.specs.declared.faults.Error.{Error}
use Rattle.wasm_ops.specs.CastInstrs.{cast_instr, br_cast_instr}
use Rattle.wasm_ops.specs.Control.{block_type}
use Rattle.wasm_ops.specs.ConstExprs.{SpellsExpression, expression}
use Rattle.wasm_ops.specs.Memargs.{memarg}
use Rattle.wasm_ops.specs.declared.casts.BrCastOp.{BrCastOp}
use Rattle.wasm_ops.specs.declared.casts.BrCastOp.TheVariants as branch
use Rattle.wasm_ops.specs.declared.casts.CastOp.{CastOp}
use Rattle.wasm_ops.specs.declared.casts.CastOp.TheVariants as cast
use Rattle.wasm_ops.specs.declared.sink.Refusal.{Refusal}
use Rattle.wasm_ops.specs.Sinks.{SinkRules, Writes}
use Rattle.wasm_ops.specs.Table.{instrs, instr}
use Rattle.wasm_ops.specs.Turns.{are_balanced}
use Rattle.wasm_ops.proofs.Everywhere.{all_unmap}
use Rattle.wasm_ops.proofs.ExpressionCodes.{is_expression}
use Rattle.wasm_ops.proofs.Sinking.{written_as}
use Rattle.wasm_out.specs.Built.{IsRefused}
use Rattle.wast_core_conv.specs.Tree.{Index, RefType, BlockType, MemArg, Instruction, Expression}
use Rattle.wast_core_conv.specs.Tree.instr as instruction
use Rattle.wast_core_conv.specs.Encodable.{encodable, is_encodable_instr, is_encodable_expression}
use Rattle.wast_core_conv.specs.Meaning as meaning
use Rattle.wast_core_conv.proofs.EachPasses.{both_true, each_becomes}
use Rattle.wast_core_conv.proofs.Balanced.{balanced_as}
use Rattle.wast_core_conv.proofs.MemArgs.{mem_arg_parts}
use Rattle.wast_core_conv.proofs.Rows.{instrs_rows}
use Rattle.wast_core_conv.proofs.Standing.{asking_passes, cast_parts, try_table_parts, ready_instrs, ready_balanced}
use Rattle.wast_core_conv.proofs.TypesReady.{heap_covered, select_covered, block_covered, fence_covered}

-- The type of a block.
opener_covered : (b : BlockType) → encodable (in_use OfBlock b.ty) ≡ true → ((block_type (meaning.as_block_type b)).is_covered && true) ≡ true
opener_covered b e = both_true _ true (block_covered b e) refl

-- The memory argument of a load or a store.
mem_arg_covered : (m : MemArg) → encodable (check_sites (in_mem_arg m)) ≡ true → (memarg (meaning.as_mem_arg m)).is_covered ≡ true
mem_arg_covered m e = (mem_arg_parts m (sym (asking_passes (in_mem_arg m)) ∙ e)).covered

-- The types of a cast.
cast_covered : (op : CastOp) (ty : RefType) → encodable (check_sites (in_ref ty)) ≡ true → (instr (cast_instr op (meaning.as_ref_type ty))).is_covered ≡ true
cast_covered op ty e = both_true _ true (heap_covered ty.heap (sym (asking_passes (in_ref ty)) ∙ e)) refl

br_cast_covered : (op : BrCastOp) (l : Index) (from to : RefType)
    → encodable (in_cast constant_context.blocks l to from) ≡ true
    → (instr (br_cast_instr op (meaning.index_value l) (meaning.as_ref_type from) (meaning.as_ref_type to))).is_covered ≡ true
br_cast_covered op l from to e =
    let parts = cast_parts l to from e in
    both_true _ _ (heap_covered from.heap parts.from) (both_true _ true (heap_covered to.heap parts.to) refl)

-- Instructions that may be encoded become supported ones.
instr_covered : (i : Instruction) → is_encodable_instr i ≡ true → (instr (meaning.as_instr i)).is_covered ≡ true
instr_covered (instruction.Mem op m) e = both_true _ true (mem_arg_covered m e) refl
instr_covered (instruction.MemLane op a) e = both_true _ true (mem_arg_covered a.memarg e) refl
instr_covered (instruction.select t) e = select_covered t (sym (asking_passes (in_select t)) ∙ e)
instr_covered (instruction.block b) e = opener_covered b e
instr_covered (instruction.loop_ b) e = opener_covered b e
instr_covered (instruction.if_ b) e = opener_covered b e
instr_covered (instruction.try_ b) e = opener_covered b e
instr_covered (instruction.try_table t) e = opener_covered t.block (try_table_parts t e).0
instr_covered (instruction.ref_null h) e = both_true _ true (heap_covered h (sym (asking_passes (in_heap h)) ∙ e)) refl
instr_covered (instruction.ref_test a) e = cast_covered cast.Test a.rt e
instr_covered (instruction.ref_cast a) e = cast_covered cast.Cast a.rt e
instr_covered (instruction.br_on_cast a) e = br_cast_covered branch.Succeeds a.label a.from_type a.to_type e
instr_covered (instruction.br_on_cast_fail a) e = br_cast_covered branch.Fails a.label a.from_type a.to_type e
instr_covered (instruction.atomic_fence o) e = fence_covered o e
instr_covered i e = refl

pub instrs_covered : (is : List Instruction) → list_all is_encodable_instr is ≡ true → list_all (λ x. (instr x).is_covered) (map meaning.as_instr is) ≡ true
instrs_covered is h = each_becomes is_encodable_instr meaning.as_instr (λ x. (instr x).is_covered) instr_covered is h

pub expression_covered : (e : Expression) → is_encodable_expression e ≡ true → (expression (meaning.as_expression e)).is_covered ≡ true
expression_covered e h = instrs_covered e.instrs (ready_instrs e h)

-- Each block in a constant expression is closed.
pub expression_balanced : (e : Expression) → is_encodable_expression e ≡ true → are_balanced (meaning.as_expression e) ≡ true
expression_balanced e h = balanced_as e.instrs (ready_balanced e h)

-- The bytes of a constant expression.
pub spells_expression : (is : List Instruction) (bytes : List ℕ) → list_all is_encodable_instr is ≡ true → is_balanced (block_effects is) ≡ true
    → (bytes ≡ flat_map (λ i. (instr (meaning.as_instr i)).bytes) is) × All (λ i. (instr (meaning.as_instr i)).in_range) is → SpellsExpression bytes
spells_expression is bytes h closes p = record {
  list = map meaning.as_instr is;
  in_range = is_expression (map meaning.as_instr is) (instrs_covered is h) (All-map (λ x. (instr x).in_range) meaning.as_instr is p.1)
      (instrs_rows is h) (balanced_as is closes);
  spelled = p.0 ∙ sym (flat_map-map (λ x. (instr x).bytes) meaning.as_instr is);
}

pub expression_made : (is : List Instruction) (bytes : List ℕ)
    → (bytes ≡ flat_map (λ i. (instr (meaning.as_instr i)).bytes) is) × All (λ i. (instr (meaning.as_instr i)).in_range) is
    → (bytes ≡ instrs (map meaning.as_instr is)) × (expression (map meaning.as_instr is)).in_range
expression_made is bytes p = (p.0 ∙ sym (flat_map-map (λ x. (instr x).bytes) meaning.as_instr is), All-map (λ x. (instr x).in_range) meaning.as_instr is p.1)

pub expression_refused : (is : List Instruction) (e : Error) → IsRefused (All (λ i. (instr (meaning.as_instr i)).in_range) is) e
    → IsRefused (expression (map meaning.as_instr is)).in_range e
expression_refused is e r = elim r [ inl m ↦ inl m | inr l ↦ inr (l.0, λ h. l.1 (all_unmap (λ x. (instr x).in_range) meaning.as_instr is h)) ]

-- An expression, by the list of its instructions.
pub expression_written : {S A : Type 0} (rules : SinkRules S) (a b : S) (xs is : List Instruction) (r : Result A Refusal) → xs ≡ is
    → Writes rules (All (λ i. (instr (meaning.as_instr i)).in_range) xs × Unit {0}) a b (flat_map (λ i. (instr (meaning.as_instr i)).bytes) xs ++ 0x0b ∷ []) r
    → Writes rules (expression (map meaning.as_instr is)).in_range a b (expression (map meaning.as_instr is)).bytes r
expression_written rules a b xs is r e p =
    written_as rules (All (λ i. (instr (meaning.as_instr i)).in_range) xs × Unit {0}) (expression (map meaning.as_instr is)).in_range a b
    (flat_map (λ i. (instr (meaning.as_instr i)).bytes) xs ++ 0x0b ∷ []) (expression (map meaning.as_instr is)).bytes r
    (λ h. All-map (λ x. (instr x).in_range) meaning.as_instr is (subst (All (λ i. (instr (meaning.as_instr i)).in_range)) e h.0))
    (λ h. (subst (All (λ i. (instr (meaning.as_instr i)).in_range)) (sym e) (all_unmap (λ x. (instr x).in_range) meaning.as_instr is h), tt))
    (ap (λ ys. flat_map (λ i. (instr (meaning.as_instr i)).bytes) ys ++ 0x0b ∷ []) e
    ∙ ap (λ (bytes : List ℕ). bytes ++ 0x0b ∷ []) (sym (flat_map-map (λ x. (instr x).bytes) meaning.as_instr is))) p
