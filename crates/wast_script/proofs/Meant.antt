-- A module of a script, by its tokens that the code gives to wat_text.
use Rattle.std.proofs.Common.{◌≡◌, ◌≢◌, ◌∙◌, ℕ, ◌-◌, ◌<◌, ◌≤◌, List, [], ◌∷◌, ◌++◌, length, map}
use Rattle.std.proofs.Common.{drop, get_or, Result, None, Ok, Err, refl, sym, ap, subst, arith}
use Rattle.std.proofs.lemmas.List.{length-map, map-append}
use Rattle.std.specs.Prelude.{IfOk, IfErr}
use Rattle.wast_base.specs.Ids.{text_start}
use Rattle.wat_tokens.specs.declared.faults.TextError.{TextError}
use Rattle.wat_tokens.specs.declared.faults.TextFault.TheVariants as fault
use Rattle.wat_tokens.specs.declared.tokens.Placed.{Placed}
use Rattle.wat_syntax.specs.Tree.{Span}
use Rattle.wat_syntax.specs.Tokens.{position_in}
use Rattle.wat_syntax.specs.Bare.{bare_placed}
use Rattle.wat_text.specs.Denotes.{all_of, all_bare, module_of_tokens, IsModule}
use Rattle.wat_text.specs.declared.modules.TextModule.{TextModule}
use Rattle.wast_script.specs.declared.commands.ScriptModule.{ScriptModule}
use Rattle.wast_script.specs.Grammar.{Module}
use Rattle.wast_script.specs.Scripts.{part, module_in}
use Rattle.wast_script.specs.Modules.{last_position, toks_of, IsModuleOf, IsNoModuleOf}
use Rattle.wat_text.proofs.Lefts.{placed}
use Rattle.wast_script.proofs.Parts.{part_mapped}

-- the position of the last token
pub last_is : (found : List Placed) (k : ℕ) (p : Placed) → k ≡ length found - 1
    → k < length found → p ≡ get_or found k p → p.span ≡ last_position (map bare_placed found)
last_is found k p at few is =
    placed k found text_start p few is
    ∙ ap (λ n. position_in (drop n (map bare_placed found)) text_start) (at ∙ ap (λ n. n - 1) (sym (length-map found bare_placed)))

pub no_last : (found : List Placed) → length found ≤ 0 → last_position (map bare_placed found) ≡ text_start
no_last [] h = refl
no_last (x ∷ xs) h = absurd (omega (arith, h))

-- the tokens that the code puts together are those of the module
module _ (tokens found lent : List Placed) (m : ScriptModule) (end : Span) (same : found ≡ part m.head tokens ++ part m.rest tokens) (lend : lent ≡ found)
    (at : end ≡ last_position (map bare_placed lent)) where
  abbrev of : Module
  of = module_in (map bare_placed tokens) m

  same_tokens : map bare_placed found ≡ of.tokens
  same_tokens =
      ap (map bare_placed) same ∙ map-append bare_placed (part m.head tokens) (part m.rest tokens)
      ∙ (λ i. sym (part_mapped bare_placed m.head tokens) i ++ sym (part_mapped bare_placed m.rest tokens) i)

  same_toks : all_bare found end ≡ toks_of of
  same_toks = ap (λ e. all_bare found e) (at ∙ ap (λ ts. last_position (map bare_placed ts)) lend) ∙ ap (λ ts. all_of ts (last_position ts)) same_tokens

  pub is_module : (r : Result TextModule TextError) → IfOk r (IsModule (module_of_tokens (all_bare found end))) → IfOk r (IsModuleOf of)
  is_module (Ok t) h = subst (λ toks. IsModule (module_of_tokens toks) t) same_toks h
  is_module (Err e) h = tt

  pub is_no_module : (r : Result TextModule TextError)
      → IfErr r (λ e. e.fault ≢ fault.Memory → module_of_tokens (all_bare found end) ≡ None) → IfErr r (λ e. IsNoModuleOf of e.fault)
  is_no_module (Ok t) h = tt
  is_no_module (Err e) h = subst (λ toks. e.fault ≢ fault.Memory → module_of_tokens toks ≡ None) same_toks h

-- a failed allocation states nothing of a module
pub no_memory : (d : Module) (e : TextError) → e.fault ≡ fault.Memory → IsNoModuleOf d e.fault
no_memory d e h = λ m. absurd (m h)

-- the same error at another position
pub moved : (d : Module) (e other : TextError) → other.fault ≡ e.fault → IsNoModuleOf d e.fault → IsNoModuleOf d other.fault
moved d e other same h = subst (IsNoModuleOf d) (sym same) h
