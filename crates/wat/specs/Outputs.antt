-- What the command writes for a text: the bytes of its module, or their hexadecimal digits, or the lines of its ids.
--
--   wat --hex of `(module)`      0061736d01000000 and a line feed
use Rattle.std.specs.Prelude.{◌≡◌, ◌⊎◌, ℕ, Bool, true, false, List, [], ◌∷◌, ◌++◌, Option, Ok, ⊤}
use Rattle.std.specs.Io.KnownBytes.{Appends, Keeps}
use Rattle.std.specs.Global.{Vec}
use Rattle.hex.specs.Hex.{encode_lower}
use Rattle.wat_bytes.specs.declared.names.Denoted.{Denoted}
use Rattle.wat_bytes.specs.Names.{ListsText}
use Rattle.wat_bytes.specs.Texts.{EncodesText, OfText}
use Rattle.wat_command.specs.Fronts.{AppendsFront}
use Rattle.wat.specs.Lines.{lines_of}
use Rattle.wat.specs.Sections.{without_names}
use Rattle.wat.specs.declared.options.Options.{Options}
use Rattle.wat.specs.declared.options.Output.{Output}
use Rattle.wat.specs.declared.options.Output.TheVariants as output

-- A line of hexadecimal digits, two for each byte, with its line feed.
abbrev pub hex_line : List ℕ → List ℕ
hex_line bytes = encode_lower bytes ++ 0x0a ∷ []

-- The bytes of a module, without its name section if `--no-names` is given.
abbrev pub selected : Bool → List ℕ → List ℕ
selected true bytes = without_names bytes
selected false bytes = bytes

-- The output for the bytes of a module. With `--names` there is none.
abbrev pub OutputOf : Output → Bool → List ℕ → List ℕ → Type 0
OutputOf output.Bytes omits_names bytes out = out ≡ selected omits_names bytes
OutputOf output.Hex omits_names bytes out = out ≡ hex_line (selected omits_names bytes)
OutputOf output.Names omits_names bytes out = ⊤

-- The output for the bytes of a module with these options.
abbrev pub OutputBy : Options → List ℕ → List ℕ → Type 0
OutputBy o bytes out = OutputOf o.output o.omits_names bytes out

-- The output for a text: `encode_text` returns bytes for it, and the output is that of these bytes.
pub record IsOutput (o : Options) (text out : List ℕ) : Type 0 where
  pub bytes : Vec ℕ
  pub encoded : OfText EncodesText text (Ok bytes)
  pub written : OutputBy o bytes.items out

-- The lines for a text: `names_of_text` returns a list for it, and the lines are those of this list.
pub record HasNames (text out : List ℕ) : Type 0 where
  pub all : Vec Denoted
  pub listed : OfText ListsText text (Ok all)
  pub written : out ≡ lines_of all.items

-- The output for a text, by its kind.
abbrev pub WritesAs : Output → Options → List ℕ → List ℕ → Type 0
WritesAs output.Bytes o text out = IsOutput o text out
WritesAs output.Hex o text out = IsOutput o text out
WritesAs output.Names o text out = HasNames text out

abbrev pub Writes : Options → List ℕ → List ℕ → Type 0
Writes o text out = WritesAs o.output o text out

-- What standard output gets of an output: all of it, if it is printed, and otherwise nothing.
abbrev pub Gets : Bool → Option (List ℕ) → Option (List ℕ) → List ℕ → Type 0
Gets true old new out = Appends old new out
Gets false old new out = Keeps old new

-- A text that is converted: it has an output, and standard output gets that.
pub record Converts (o : Options) (text : List ℕ) (is_printed : Bool) (old new : Option (List ℕ)) : Type 0 where
  pub out : List ℕ
  pub writes : Writes o text out
  pub gets : Gets is_printed old new out

-- A text that has an output, of which standard output gets a front.
pub record StopsWithin (o : Options) (text : List ℕ) (old new : Option (List ℕ)) : Type 0 where
  pub out : List ℕ
  pub writes : Writes o text out
  pub front : AppendsFront old new out

-- A text that is not converted: standard output gets nothing, or a front of the output.
abbrev pub Stops : Options → List ℕ → Bool → Option (List ℕ) → Option (List ℕ) → Type 0
Stops o text true old new = Keeps old new ⊎ StopsWithin o text old new
Stops o text false old new = Keeps old new
