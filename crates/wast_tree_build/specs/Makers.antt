-- The results of the calls of a `TreeBuilder`, with and without a failed allocation.
--
-- The model of a builder is whether an allocation failed. The old and the new model are `old` and `new` below.
--
--   Makes false false P                       holds only if P does: nothing failed, so P was done
--   Makes true false P                        never holds: a failure is kept
--   MayPut true (1 ∷ []) (1 ∷ []) 2           holds: 2 was not appended, because an allocation failed
use Rattle.std.specs.Prelude.{◌≡◌, ◌⊎◌, Bool, true, false, List, [], ◌∷◌, ◌++◌}
use Rattle.wast_tree_build.specs.Tree.{BlockType, Instruction}
use Rattle.wast_tree_build.specs.Tree.instr
use Rattle.wast_tree_build.specs.declared.makers.BlockKind.{BlockKind}
use Rattle.wast_tree_build.specs.declared.makers.BlockKind.TheVariants as made

-- A failure is kept, and if there is none, the call made what it promises.
abbrev pub Makes : Bool → Bool → Type 0 → Type 0
Makes old new made = (old ≡ true → new ≡ true) × (new ≡ false → made)

-- The list has the new element at its end; or an allocation failed, and the list is unchanged.
abbrev pub MayPut : {A : Type 0} → Bool → List A → List A → A → Type 0
MayPut refused old new x = (new ≡ old ++ x ∷ []) ⊎ ((refused ≡ true) × (new ≡ old))

-- The list has these elements; or an allocation failed, and it is empty.
abbrev pub MayMake : {A : Type 0} → Bool → List A → List A → Type 0
MayMake refused xs made = (made ≡ xs) ⊎ ((refused ≡ true) × (made ≡ []))

-- the instruction that opens a block of this kind
abbrev pub opener : BlockKind → BlockType → Instruction
opener made.Block b = instr.block b
opener made.Loop b = instr.loop_ b
opener made.If b = instr.if_ b
opener made.Try b = instr.try_ b
