-- What the rules of the text format read may be resolved: it is well formed, and no id in it is generated.
--
-- A tree that is built by hand may break one of the six rules of well-formedness. No text does, because the rules of wat_syntax read
-- nothing that breaks one of them. For example, the rule of `align=` reads powers of two alone, and each `end` that the rules read or
-- write closes a block. Each id is the id of a token, so none is generated.
--
--   (func $f) (export "a" (func $f))      well formed, and the greatest generation of its ids is 0
--   i32.load align=3                      no instruction
--
-- IsReady of wast_core asks this of a module, with an id counter at 1. What the rules read has each text at address 0 (Bare in
-- wat_syntax). A tree with addresses is well formed too, if it is so without them.
use Rattle.std.specs.Prelude.{◌≡◌, List, Option, Some, IsTrue}
use Rattle.wast_base.specs.Ids.{mark_of_option}
use Rattle.wast_tree_nodes.specs.WellFormed.{is_well_formed}
use Rattle.wast_tree_nodes.specs.Generations.{generation_or_zero, greatest_generation}
use Rattle.wat_syntax.specs.Tree.{Id, ModuleField}
use Rattle.wat_syntax.specs.Tokens.{Toks, optional}
use Rattle.wat_syntax.specs.Values.{id}
use Rattle.wat_syntax.specs.BareFields.{bare_fields}
use Rattle.wat_syntax.specs.ModuleFields.{modulefields}

-- The fields that the rules read are well formed.
abbrev pub AreWellFormed : Type 0
AreWellFormed = (toks : Toks) (x : List ModuleField × Toks) → modulefields toks ≡ Some x → IsTrue (is_well_formed x.0)

-- Fields with addresses are well formed, if the rules read them without their addresses.
abbrev pub AreWellFormedWithAddresses : Type 0
AreWellFormedWithAddresses = (toks : Toks) (fields : List ModuleField) (x : List ModuleField × Toks) → modulefields toks ≡ Some x → x.0 ≡ bare_fields fields
    → IsTrue (is_well_formed fields)

-- No id in the fields that the rules read is generated.
abbrev pub HaveNoGeneratedId : Type 0
HaveNoGeneratedId = (toks : Toks) (x : List ModuleField × Toks) → modulefields toks ≡ Some x → greatest_generation x.0 ≡ 0

-- An id that the rules read, if there is one, is not generated. The id of a module is one.
abbrev pub IdIsNotGenerated : Type 0
IdIsNotGenerated = (toks : Toks) (x : Option Id × Toks) → optional id toks ≡ Some x → generation_or_zero (mark_of_option x.0) ≡ 0
