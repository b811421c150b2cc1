-- The goals of `characters` that tactics leave open, closed by lemmas of Strings.
use Rattle.std.proofs.Common.{sym, ◌∙◌, append_assoc, append-nil}
use Rattle.std.specs.Str.Iter.{chars_rest}
use Rattle.wast_script_json.proofs.Strings.{no_bytes, first_character}
use Rattle.wast_script_json.proofs.json.Json.characters.Goals as goal

pub loop-character-preserved : goal.loop-character-preserved
loop-character-preserved c =
    let step = first_character _ _ c.in-Some.character c.in-Some.ensures.steps.0 in
    rw (c.in_ok-character.ensures, append_assoc) (rw step at c.loop-character.invariant)

pub returns : goal.returns
returns c = sym (append-nil _) ∙ rw (no_bytes (chars_rest c.loop-character.character-iterator) c.in-None.ensures.steps.0.0) at c.loop-character.invariant
