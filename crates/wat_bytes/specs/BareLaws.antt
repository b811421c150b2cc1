-- What wat_meaning states of a tree and its bare tree, in one record, so that a proof takes it as one argument.
--
--   (module (func $f)), at any addresses      what encoding returns is what it returns at address 0
use Rattle.wat_meaning.specs.Laws.{SameAnswer, SameMeaning, SameForms, SameNumbers, SameRules, SameGeneration, SameTooLarge, SameBounds}

-- A tree and its bare tree pass the same checks, mean the same, and so on: a field for each clause of `meaning_laws` that is used.
pub record Laws : Type 0 where
  pub answer : SameAnswer
  pub meaning : SameMeaning
  pub forms : SameForms
  pub numbers : SameNumbers
  pub rules : SameRules
  pub generation : SameGeneration
  pub large : SameTooLarge
  pub bounds : SameBounds
