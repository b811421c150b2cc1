-- The constructs of a module that the encoder does not support (text format: modules).
--
-- They are of proposals that the crate `wast` parses, and encoding fails with E11. `Sites` lists them.
--
--   (func suspend 0) (memory 1)     one form, StackSwitching
use Rattle.std.specs.Prelude.{Bool, true, List, [], ◌∷◌, flat_map, if◌then◌else◌, Option, Some, None}
use Rattle.wast_tree_nodes.specs.Tree.{Form, ModuleField}
use Rattle.wast_tree_nodes.specs.Sites.{Check, ItemIndex, InnerIndex, PlainId, Clause, Covered, checks_of, in_module}

-- the form of a check, if the module has it there
abbrev pub uncovered_in : Check → List Form
uncovered_in (ItemIndex s i) = []
uncovered_in (InnerIndex i) = []
uncovered_in (PlainId m) = []
uncovered_in (Clause n holds) = []
uncovered_in (Covered f holds) = if holds then [] else f ∷ []

-- the unsupported forms of a list of fields, in their order
abbrev pub uncovered_forms : List ModuleField → List Form
uncovered_forms fields = flat_map uncovered_in (checks_of (in_module fields))

-- the first element of a list, if there is one
abbrev pub head_of : {A : Type 0} → List A → Option A
head_of [] = None
head_of (f ∷ fs) = Some f

-- the same, after an optional element
abbrev pub first_of : {A : Type 0} → Option A → List A → Option A
first_of (Some f) fs = Some f
first_of None fs = head_of fs

-- whether the check has no unsupported form
abbrev pub is_covered_ask : Check → Bool
is_covered_ask (ItemIndex s i) = true
is_covered_ask (InnerIndex i) = true
is_covered_ask (PlainId m) = true
is_covered_ask (Clause n holds) = true
is_covered_ask (Covered f holds) = holds
