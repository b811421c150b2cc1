-- The contracts of functions that read to the end of the tokens and consume their reader.
--
-- Such a function returns a part if no token is left, which is well formed (wat_ready). Otherwise it returns an error, and the rules
-- read no part, unless an allocation failed.
--
--   (start 0)      the fields of a module
--   (start 0) x    an error, because a token is left
use Rattle.std.specs.Prelude.{◌≡◌, ◌≢◌, Bool, true, false, List, Option, None, Some, Result, IfOk, IfErr}
use Rattle.wast_tree_nodes.specs.WellFormed.{is_well_formed}
use Rattle.wat_tokens.specs.declared.faults.TextError.{TextError}
use Rattle.wat_tokens.specs.declared.faults.TextFault.TheVariants as fault
use Rattle.wat_syntax.specs.Tree.{ModuleField}
use Rattle.wat_syntax.specs.Tokens.{Toks}
use Rattle.wat_text.specs.declared.reader.Reader.{Reader}
use Rattle.wat_text.specs.declared.modules.TextModule.{TextModule}
use Rattle.wat_text.specs.Readers.{left, IsClean}
use Rattle.wat_text.specs.Denotes.{AreFields, IsModule, is_well_formed_module}

-- `denoted` is what holds of a part that was read, and `nothing` states that the rules read none. An error that the reader had is
-- returned.
pub record Finishes {T : Type 0} (is_well : T → Bool) (denoted : T → Type 0) (nothing : Type 0) (old : Reader) (result : Result T TextError) : Type 0 where
  pub clean : IfOk result (λ x. IsClean old)
  pub gives : IfOk result denoted
  pub well : IfOk result (λ x. is_well x ≡ true)
  pub made : IfErr result (λ e. e.fault ≢ fault.Memory → old.make ≡ false)
  pub keeps : old.fault ≢ None → IfErr result (λ e. e.fault ≢ fault.Memory → old.fault ≡ Some e)
  pub refuses : old.fault ≡ None → IfErr result (λ e. e.fault ≢ fault.Memory → nothing)

-- A function read the fields of a module by a rule, from the tokens that were left to the end.
abbrev pub ReadsFieldsToEnd : (Toks → Option (List ModuleField)) → Reader → Result (List ModuleField) TextError → Type 0
ReadsFieldsToEnd rule old result = Finishes is_well_formed (AreFields (rule (left old))) (rule (left old) ≡ None) old result

-- The same for a module.
abbrev pub ReadsModuleToEnd : (Toks → Option TextModule) → Reader → Result TextModule TextError → Type 0
ReadsModuleToEnd rule old result = Finishes is_well_formed_module (IsModule (rule (left old))) (rule (left old) ≡ None) old result
