use Rattle.std.proofs.lemmas.Str.{is_utf8-from_IsUtf8}
use Rattle.wast_core_sections.proofs.utf8_names.text_law.Goals as goal

pub returns : goal.returns
returns c = is_utf8-from_IsUtf8 _ c.utf8.text
