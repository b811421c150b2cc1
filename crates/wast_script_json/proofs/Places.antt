-- The line feeds before one position and another.
use Rattle.std.proofs.Common.{◌≡◌, ℕ, ◌+◌, ◌-◌, ◌≤◌, List, length, take, min, ap, ◌∙◌, arith, length-take}
use Rattle.std.specs.Prelude.{count_by, slice_range, cond}
use Rattle.std.proofs.Math.Seq.{take-add}
use Rattle.std.proofs.lemmas.List.{take_min}
use Rattle.std.proofs.lemmas.List.Sums.{sum_by-append, count_by-le-length}
use Rattle.wast_base.specs.declared.ids.Span.{Span}
use Rattle.wast_base.specs.Lines.{is_line_feed, line_of}
use Rattle.wast_script_json.specs.declared.lines.Lines.{Lines}
use Rattle.wast_script_json.specs.Places.{Counts}

pub feeds_between : (text : List ℕ) (a b : ℕ) → a ≤ b
    → count_by is_line_feed (take b text) ≡ count_by is_line_feed (take a text) + count_by is_line_feed (slice_range text a b)
feeds_between text a b le =
    let parts : b ≡ a + (b - a) = omega arith in
    ap (λ n. count_by is_line_feed (take n text)) parts
    ∙ ap (count_by is_line_feed) (take-add a (b - a) text)
    ∙ sum_by-append (λ x. cond (is_line_feed x) 1 0) (take a text) (slice_range text a b)

pub feeds_within : (text : List ℕ) (l : Lines) → Counts text l → l.line_feeds ≤ length text
feeds_within text l k = omega (arith, k.count, count_by-le-length is_line_feed (take l.offset text), length-take l.offset text)

pub line_at : (text : List ℕ) (l : Lines) (place : Span) → l.offset ≡ min place.offset (length text) → Counts text l → l.line_feeds + 1 ≡ line_of text place
line_at text l place e k =
    ap (λ n. n + 1) (k.count ∙ ap (λ n. count_by is_line_feed (take n text)) e ∙ ap (count_by is_line_feed) (take_min place.offset text))
