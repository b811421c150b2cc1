-- Which module of the text format a module of a script is: what the rules of wat_text read from its tokens.
--
--   (module $m (start 0))      a module with the id $m and one field
use Rattle.std.specs.Prelude.{◌≡◌, ◌≢◌, ◌-◌, List, length, drop, None}
use Rattle.wast_base.specs.Ids.{text_start}
use Rattle.wat_tokens.specs.declared.faults.TextFault.{TextFault}
use Rattle.wat_tokens.specs.declared.faults.TextFault.TheVariants as fault
use Rattle.wat_tokens.specs.declared.tokens.Placed.{Placed}
use Rattle.wat_syntax.specs.Tree.{Span}
use Rattle.wat_syntax.specs.Tokens.{Toks, position_in}
use Rattle.wat_text.specs.Denotes.{all_of, module_of_tokens, IsModule}
use Rattle.wat_text.specs.declared.modules.TextModule.{TextModule}
use Rattle.wast_script.specs.Grammar.{Module}

-- the position of the last token, or the start of the text if there is none
abbrev pub last_position : List Placed → Span
last_position tokens = position_in (drop (length tokens - 1) tokens) text_start

-- the tokens of a module, of which none is taken
abbrev pub toks_of : Module → Toks
toks_of d = all_of d.tokens (last_position d.tokens)

-- The rules of the text format read the tokens of a module of a script as this module.
abbrev pub IsModuleOf : Module → TextModule → Type 0
IsModuleOf d m = IsModule (module_of_tokens (toks_of d)) m

-- The rules read them as no module, unless the fault is that an allocation failed.
abbrev pub IsNoModuleOf : Module → TextFault → Type 0
IsNoModuleOf d f = f ≢ fault.Memory → module_of_tokens (toks_of d) ≡ None
