-- The position that line feeds were counted up to.
use Rattle.std.specs.Prelude.{◌≡◌, ℕ, ◌≤◌, List, length, take, count_by}
use Rattle.wast_base.specs.Lines.{is_line_feed}
use Rattle.wast_script_json.specs.declared.lines.Lines.{Lines}

-- an offset of a text with the line feeds before it
pub record Counts (text : List ℕ) (l : Lines) : Type 0 where
  pub within : l.offset ≤ length text
  pub count : l.line_feeds ≡ count_by is_line_feed (take l.offset text)
