-- Marks of labels: two bytes that are compared before names, so that most blocks with another label are skipped.
--
-- For example, the mark of "ab" is 2 * 256 + 98, from its length and the byte of "b".
use Rattle.std.specs.Prelude.{ℕ, ◌+◌, ◌-◌, ◌*◌, ◌%◌, List, length, map, get_or, Option, Some, None}
use Rattle.wast_base.specs.declared.ids.Id.{Id}
use Rattle.wast_base.specs.Ids.{Name, text_of}
use Rattle.wast_resolve_labels.specs.Indexed.{label_of}

-- The mark of a text: its length as one byte, and its last byte. The mark of the empty text is 0.
abbrev pub text_mark : List ℕ → ℕ
text_mark text = length text % 256 * 256 + get_or text (length text - 1) 0

-- The mark of a label, and 0 without a label.
abbrev pub label_mark : Option Name → ℕ
label_mark None = 0
label_mark (Some label) = text_mark (text_of label)

-- The marks of the labels of blocks.
abbrev pub marks_of : List (Option Id) → List ℕ
marks_of ids = map (λ id. label_mark (label_of id)) ids
