-- The context of an instruction: the parameters and locals, and the enclosing blocks. Only contracts of private
-- functions use this.
--
-- In `block $a  br $a  end  nop` the enclosing blocks are $a at `br`, and none at `nop`.
use Rattle.std.specs.Prelude.{◌≡◌, Bool, true, false, List, [], ◌∷◌, map, flat_map, Option, None, Result, OnOk}
use Rattle.wast_base.specs.Blocks.{Blocks, without_innermost}
use Rattle.wast_base.specs.Ids.{Mark, mark_of_option}
use Rattle.wast_base.specs.Spaces.{name_if}
use Rattle.wast_base.specs.declared.faults.Error.{Error}
use Rattle.wast_resolve_labels.specs.Asked.{wrong_label}
use Rattle.wast_tree_nodes.specs.Sites.{OfBlock, Site, Locals, BodyContext, after_all, in_val, in_select, in_signature}
use Rattle.wast_tree_map.specs.Mapped.{Indices, mapped_val, mapped_select, mapped_signature}
use Rattle.wast_resolve_rules.specs.Demands.{first_unmet, use_demand}
use Rattle.wast_resolve_rules.specs.Resolved.{resolved_use}
use Rattle.wast_resolve_rules.specs.Scopes.{Scope}
use Rattle.wast_resolve_passes.specs.Tree.{ValType, SelectTypes, FunctionType, TypeUse, BlockType}

-- the context with these parameters and locals, and these enclosing blocks
abbrev pub context_of : Locals → Blocks → BodyContext
context_of l blocks = record { locals = l; blocks = blocks }

-- the context at the start of a body, without enclosing blocks
abbrev pub initial_context : Locals → BodyContext
initial_context l = context_of l []

-- A walk over these sites leaves the enclosing blocks after them.
abbrev pub Moves : {T : Type 0} → Blocks → (BodyContext → List Site) → Blocks → Result T Error → Type 0
Moves old sites new result = (l : Locals) → OnOk result (new ≡ (after_all (context_of l old) (sites (context_of l old))).blocks)

-- A trial over these sites leaves the enclosing blocks after them, or those before if it fails.
abbrev pub Steps : Blocks → (BodyContext → List Site) → Blocks → Bool → Type 0
Steps old sites new true = (l : Locals) → new ≡ (after_all (context_of l old) (sites (context_of l old))).blocks
Steps old sites new false = new ≡ old

-- A value type has no checks and does not change: it is a number or vector type.
pub record IsNumericType (t : ValType) : Type 0 where
  pub asks : in_val t ≡ []
  pub stays : (f : Indices) → mapped_val f t ≡ t

-- the same for a list of types
pub record AreNumbers (ts : List ValType) : Type 0 where
  pub asks : flat_map in_val ts ≡ []
  pub stays : (f : Indices) → map (mapped_val f) ts ≡ ts

-- the same for the types of a `select`
pub record SelectsNumber (t : SelectTypes) : Type 0 where
  pub asks : in_select t ≡ []
  pub stays : (f : Indices) → mapped_select f t ≡ t

-- the same for a signature
pub record HasNoNames (t : FunctionType) : Type 0 where
  pub asks : in_signature t ≡ []
  pub stays : (f : Indices) → mapped_signature f t ≡ t

-- The type of a block passes its checks and does not change.
pub record IsSettled (u : TypeUse FunctionType) : Type 0 where
  pub met : (c : Scope) → first_unmet (use_demand c u) ≡ None
  pub stays : (c : Scope) → resolved_use c.known OfBlock u ≡ u

-- A block with such a type is entered, or nothing changes.
abbrev pub OpensBlock : BlockType → Blocks → Blocks → Bool → Type 0
OpensBlock block old new true = IsSettled block.ty × (new ≡ name_if (mark_of_option block.label) ∷ old)
OpensBlock block old new false = new ≡ old

-- The innermost block is left at an `end` with this label, or nothing changes.
abbrev pub ClosesBlock : Option Mark → Blocks → Blocks → Bool → Type 0
ClosesBlock label old new true = (wrong_label old label ≡ None) × (new ≡ without_innermost old)
ClosesBlock label old new false = new ≡ old
