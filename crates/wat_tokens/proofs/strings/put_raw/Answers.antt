-- The bytes that are appended are as many as are themselves in a string, because the text has so many.
use Rattle.std.proofs.Common.{◌≤◌, length, sym, subst}
use Rattle.std.proofs.lemmas.List.{length-take-le}
use Rattle.wat_grammar.specs.Strings.{is_raw}
use Rattle.wat_tokens.proofs.Fronts.{front_short}
use Rattle.wat_tokens.proofs.strings.put_raw.Goals as goal

pub slice_bounds-extend_from_slice-end : goal.slice_bounds-extend_from_slice-end
slice_bounds-extend_from_slice-end c =
    let T = c.args.text.now in
    sym (length-take-le c.raw_length-count.result T (subst (λ n. n ≤ length T) (sym c.raw_length-count.ensures) (front_short is_raw T)))
