-- The bytes of a module of a script: those of the module that the rules of the text format read from its tokens.
--
--   (module (func)) in a script      the bytes that encoding `(module (func))` gives
use Rattle.std.specs.Prelude.{ℕ, Ok}
use Rattle.std.specs.Global.{Vec}
use Rattle.wat_text.specs.declared.modules.TextModule.{TextModule}
use Rattle.wat_bytes.specs.Texts.{EncodesText}
use Rattle.wast_script.specs.Grammar.{Module}
use Rattle.wast_script.specs.Modules.{IsModuleOf}

-- The rules read the tokens of a module of a script as a module, and these are its bytes.
pub record HasBytes (d : Module) (bytes : Vec ℕ) : Type 0 where
  pub meant : TextModule
  pub reads : IsModuleOf d meant
  pub encodes : EncodesText meant (Ok bytes)
