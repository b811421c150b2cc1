use Rattle.std.proofs.Common.{ℕ, List, arith, sym, subst, ◌∙◌}
use Rattle.wast_script_json.specs.Places.{Counts}
use Rattle.wast_script_json.proofs.Places.{line_at, feeds_within}
use Rattle.wast_script_json.proofs.lines.Lines.line_of.Goals as goal

pub returns-clause-line : goal.returns-clause-line
returns-clause-line c k =
    let text = c.args.text.now in
    let l = c.move_on.new.self in
    let same = c.as_bytes.ensures.value in
    let back = subst (λ (t : List ℕ). Counts t c.turn_back.new.self) (sym same) (c.turn_back.ensures.counts text k) in
    let there = subst (λ (t : List ℕ). Counts t l) same (c.move_on.ensures.counts back) in
    let line = line_at text l c.args.place (c.move_on.ensures.offset ∙ c.min-end.ensures) there in
    let few = feeds_within text l there in
    omega (arith, c.saturating_add.ensures, line, few)
