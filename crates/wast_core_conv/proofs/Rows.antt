-- Each instruction that may be encoded is an entry of the opcode table.
use Rattle.std.proofs.Common.{◌≡◌, true, List, [], ◌++◌, map, refl, sym, ◌∙◌}
use Rattle.std.specs.Prelude.{All, option_map}
use Rattle.std.specs.List.{list_all}
use Rattle.std.proofs.lemmas.List.Elements.{All-map}
use Rattle.wast_tree_nodes.specs.Sites.{Check, Site, constant_context, check_sites, uncovered_check, in_index, at_index, in_pair, in_ref}
use Rattle.wast_tree_nodes.specs.Sites.{in_access, in_cast, in_handlers}
use Rattle.wasm_ops.specs.Table.{HasRow, kinds_of, table}
use Rattle.wasm_ops.proofs.Instructing.{plain_row, mem_row, lane_row, mem_lane_row, cast_row, select_row}
use Rattle.wasm_ops.specs.declared.casts.CastOp.TheVariants as cast
use Rattle.wast_core_conv.specs.Tree.{Form, ResumeTable, Instruction, Expression}
use Rattle.wast_core_conv.specs.Tree.form
use Rattle.wast_core_conv.specs.Tree.space
use Rattle.wast_core_conv.specs.Tree.instr as instruction
use Rattle.wast_core_conv.specs.Encodable.{is_encodable_ask, is_encodable_site, encodable, is_encodable_instr, is_encodable_expression}
use Rattle.wast_core_conv.specs.Meaning as meaning
use Rattle.wast_core_conv.proofs.EachPasses.{both_lists, each_has}
use Rattle.wast_core_conv.proofs.Standing.{asking_passes, handlers_tell, ready_instrs}

-- An unsupported instruction may not be encoded.
sites_fail : (ss : List Site) (f : Form) → encodable (ss ++ check_sites (uncovered_check f)) ≡ true → ⊥
sites_fail ss f e = let no = (both_lists is_encodable_site ss (check_sites (uncovered_check f)) e).1 in cc

asks_fail : (asks : List Check) (f : Form) → encodable (check_sites (asks ++ uncovered_check f)) ≡ true → ⊥
asks_fail asks f e = let no = (both_lists is_encodable_ask asks (uncovered_check f) (sym (asking_passes (asks ++ uncovered_check f)) ∙ e)).1 in cc

handlers_fail : (ss : List Site) (t : ResumeTable) → encodable (ss ++ in_handlers constant_context.blocks t) ≡ true → ⊥
handlers_fail ss t e = let no = sym (handlers_tell constant_context.blocks t)
    ∙ (both_lists is_encodable_site ss (in_handlers constant_context.blocks t) e).1 in cc

pub instr_row : (i : Instruction) → is_encodable_instr i ≡ true → HasRow (meaning.as_instr i)
unfolding kinds_of table
instr_row (instruction.Plain op) e = plain_row op
instr_row (instruction.Mem op m) e = mem_row op
instr_row (instruction.Lane op a) e = lane_row op
instr_row (instruction.MemLane op a) e = mem_lane_row op
instr_row (instruction.select t) e = select_row (option_map (map meaning.as_val_type) t.tys)
instr_row (instruction.ref_test a) e = cast_row cast.Test a.rt.nullable
instr_row (instruction.ref_cast a) e = cast_row cast.Cast a.rt.nullable
instr_row (instruction.ref_cast_desc_eq a) e = absurd (asks_fail (in_ref a.rt) form.Descriptor e)
instr_row (instruction.br_on_cast_desc_eq a) e = absurd (sites_fail (in_cast constant_context.blocks a.label a.to_type a.from_type) form.Descriptor e)
instr_row (instruction.br_on_cast_desc_eq_fail a) e = absurd (sites_fail (in_cast constant_context.blocks a.label a.to_type a.from_type) form.Descriptor e)
instr_row (instruction.GlobalAtomic a) e = absurd (asks_fail (in_index space.Global a.inner) form.Atomic e)
instr_row (instruction.TableAtomic a) e = absurd (asks_fail (in_index space.Table a.inner.dst) form.Atomic e)
instr_row (instruction.StructAtomic a) e = absurd (sites_fail (in_access a.inner) form.Atomic e)
instr_row (instruction.ArrayAtomic a) e = absurd (asks_fail (in_index space.Ty a.inner) form.Atomic e)
instr_row (instruction.resume a) e = absurd (handlers_fail (at_index space.Ty a.type_index) a.table e)
instr_row (instruction.resume_throw a) e = absurd (handlers_fail (check_sites (in_pair space.Ty a.type_index space.Tag a.tag_index)) a.table e)
instr_row (instruction.resume_throw_ref a) e = absurd (handlers_fail (at_index space.Ty a.type_index) a.table e)
-- Written by tools/ops from here.
instr_row (instruction.struct_new_desc i) e = absurd (asks_fail (in_index space.Ty i) form.Descriptor e)
instr_row (instruction.struct_new_default_desc i) e = absurd (asks_fail (in_index space.Ty i) form.Descriptor e)
instr_row (instruction.ref_get_desc i) e = absurd (asks_fail (in_index space.Ty i) form.Descriptor e)
instr_row (instruction.cont_new i) e = absurd (asks_fail (in_index space.Ty i) form.StackSwitching e)
instr_row (instruction.cont_bind a) e = absurd (asks_fail (in_pair space.Ty a.argument_index space.Ty a.result_index) form.StackSwitching e)
instr_row (instruction.suspend i) e = absurd (asks_fail (in_index space.Tag i) form.StackSwitching e)
instr_row (instruction.switch a) e = absurd (asks_fail (in_pair space.Ty a.type_index space.Tag a.tag_index) form.StackSwitching e)
instr_row (instruction.memory_discard a) e = absurd (asks_fail (in_index space.Memory a.mem) form.Beyond e)
-- To here.
instr_row (instruction.Beyond name) e = absurd (asks_fail [] form.Beyond e)
instr_row i e = refl

pub instrs_rows : (is : List Instruction) → list_all is_encodable_instr is ≡ true → All HasRow (map meaning.as_instr is)
instrs_rows is h = All-map HasRow meaning.as_instr is (each_has is_encodable_instr (λ i. HasRow (meaning.as_instr i)) instr_row is h)

pub expression_rows : (e : Expression) → is_encodable_expression e ≡ true → All HasRow (meaning.as_expression e)
expression_rows e h = instrs_rows e.instrs (ready_instrs e h)
