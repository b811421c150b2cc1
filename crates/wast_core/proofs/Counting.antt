-- Which fields need a data count: no change of indices, type uses and ids changes that.
use Rattle.std.proofs.Common.{◌≡◌, ◌||◌, List, [], ◌∷◌, ◌++◌, refl, arith}
use Rattle.std.specs.List.{list_any}
use Rattle.std.proofs.lemmas.Grind.{common_steps}
use Rattle.wast_tree_nodes.specs.Sites.{BodyContext, context_after, param_marks, local_marks, body_here}
use Rattle.wast_tree_map.specs.Mapped.{Change, mapped_instr, mapped_instrs, mapped_func_kind, mapped_field}
use Rattle.wast_tree_map.specs.Laws.{all_mapped}
use Rattle.wast_tree_nodes.specs.Instrs.{needs_data_count}
use Rattle.wast_core_sections.specs.DataCounts.{instrs_of, body_needs_count, needs_count}
use Rattle.wast_core.specs.Tree.{FunctionType, TypeUse, Instruction, FuncKind, ModuleField}
use Rattle.wast_core.specs.Tree.func
use Rattle.wast_core.specs.Tree.field

-- Whether an instruction needs a data count does not depend on its indices.
need_stays : (f : Change) (h : BodyContext) (i : Instruction) → needs_data_count (mapped_instr f h i) ≡ needs_data_count i
need_stays f h i = grind (arith, common_steps)

needs_stay : (f : Change) (h : BodyContext) (is : List Instruction) → list_any needs_data_count (mapped_instrs f h is) ≡ list_any needs_data_count is
needs_stay f h [] = refl
needs_stay f h (i ∷ is) = λ t. need_stays f h i t || needs_stay f (context_after h i) is t

-- The same for a body.
body_need : (f : Change) (u : TypeUse FunctionType) (k : FuncKind)
    → list_any needs_data_count (instrs_of (mapped_func_kind f u k)) ≡ list_any needs_data_count (instrs_of k)
body_need f u (func.Import import exact) = refl
body_need f u (func.Inline locals e) = needs_stay f (body_here u (param_marks u.inline ++ local_marks locals)) e.instrs

field_need : (f : Change) (x : ModuleField) → body_needs_count (mapped_field f x) ≡ body_needs_count x
field_need f (field.Func x) = body_need f x.ty x.kind
field_need f x = refl

-- The same for fields.
pub same_need : (f : Change) (xs : List ModuleField) → needs_count (all_mapped f xs) ≡ needs_count xs
same_need f [] = refl
same_need f (x ∷ xs) = λ i. field_need f x i || same_need f xs i
