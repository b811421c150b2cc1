-- The branch hints of a function, by the offset of their instruction (branch hinting).
--
-- The AST counts instructions, and the binary format counts bytes of the body, from the locals on. So the offset is the
-- number of bytes of the locals and of the instructions before the hint.
--
--   (func (param i32) local.get 0 (@metadata.code.branch_hint "\01") if end)     offset 3: the bytes 00 20 00 come first
use Rattle.std.specs.Prelude.{ℕ, Bool, false, ◌&&◌, List, [], ◌++◌, length, map, take, All}
use Rattle.wasm_ops.specs.Spelling.{InRangeU32, InRangeVec, InRangeSized, vec, val_type}
use Rattle.wasm_ops.specs.Table.{instrs, instr}
use Rattle.wasm_out.specs.Bodies.{Body, locals}
use Rattle.wasm_out.specs.Hints.{branch_hint}
use Rattle.wasm_out.specs.declared.hints.BranchHint.{BranchHint}
use Rattle.wast_tree_nodes.specs.Clauses.{hints_stand}
use Rattle.wast_core_conv.specs.Tree as tree
use Rattle.wast_core_conv.specs.Tree.{FuncKind}
use Rattle.wast_core_conv.specs.Tree.func
use Rattle.wast_core_conv.specs.Encodable.{is_encodable_kind}
use Rattle.wast_core_conv.specs.Values.{as_body}

-- The bytes of a body before an instruction: its locals, and the instructions before that one.
abbrev pub bytes_before : Body → ℕ → List ℕ
bytes_before b i = locals b.locals ++ instrs (take i b.instrs)

-- A hint at this offset with this value.
abbrev pub hint_at : ℕ → ℕ → BranchHint
hint_at offset value = record { branch_func_offset = offset; branch_hint_value = value }

-- A hint, with the offset of its instruction.
abbrev pub as_branch_hint : Body → tree.BranchHint → BranchHint
as_branch_hint b h = hint_at (length (bytes_before b h.instr_index)) h.value

-- A body, and the hints on its instructions.
pub record HintedBody : Type 0 where
  pub body : Body
  pub hints : List tree.BranchHint

-- The hints of a body, with their offsets.
abbrev pub as_hints : HintedBody → List BranchHint
as_hints b = map (as_branch_hint b.body) b.hints

-- The bytes of the hints: their number, and each of them.
abbrev pub body_hints : HintedBody → List ℕ
body_hints b = vec (λ x. (branch_hint x).bytes) (as_hints b)

-- The hints of a function. An inline import has none.
abbrev pub hints_of : FuncKind → List tree.BranchHint
hints_of (func.Import import exact) = []
hints_of (func.Inline locals e) = e.branch_hints

-- The body and the hints of a function.
abbrev pub as_hinted : FuncKind → HintedBody
as_hinted k = record { body = as_body k; hints = hints_of k }

-- Whether numbers, counts and lengths are in range: in a hint, and in the instructions before it.
abbrev pub InRangeHintOf : Body → tree.BranchHint → Type 0
InRangeHintOf b h = All (λ x. (instr x).in_range) (take h.instr_index b.instrs) × (branch_hint (as_branch_hint b h)).in_range

-- The same in several hints, and in the locals of their body.
abbrev pub InRangeHintsOf : Body → List tree.BranchHint → Type 0
InRangeHintsOf b hints = InRangeSized (InRangeVec (λ x. (val_type x).in_range)) locals b.locals × All (InRangeHintOf b) hints

-- The same in all hints of a body, including their number.
abbrev pub InRangeBodyHints : HintedBody → Type 0
InRangeBodyHints b = InRangeU32 (length b.hints) × InRangeHintsOf b.body b.hints

-- Whether the body of a function may be encoded, and its hints are on its instructions.
abbrev pub are_encodable_hints : FuncKind → Bool
are_encodable_hints (func.Import import exact) = false
are_encodable_hints (func.Inline locals e) = is_encodable_kind (func.Inline locals e) && hints_stand e
