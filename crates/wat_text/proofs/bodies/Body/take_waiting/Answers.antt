use Rattle.std.proofs.Common.{rules, ◌≡◌, ◌∙◌, ◌++◌, map, ap, arith}
use Rattle.std.specs.Prelude.{option_to_list}
use Rattle.std.proofs.lemmas.Grind.{common_steps}
use Rattle.wat_syntax.specs.BareInstructions.{bare_instr}
use Rattle.wat_text.proofs.Waiting.{popped_last, popped_others, empty_if}
use Rattle.wat_text.proofs.bodies.Body.take_waiting.Goals as goal

pub returns-clause-last : goal.returns-clause-last
returns-clause-last c =
    let all : c.args.self.now.waiting ≡ c.pop-last.new.self.items ++ option_to_list c.pop-last.result = search rules in
    popped_last bare_instr c.args.self.now.waiting c.pop-last.new.self.items c.pop-last.result all
    (λ e. empty_if c.args.self.now.waiting (λ lt. grind (arith, common_steps, e, lt, c.pop-last.ensures.variant)))

pub returns-clause-others : goal.returns-clause-others
returns-clause-others c =
    let all : c.args.self.now.waiting ≡ c.pop-last.new.self.items ++ option_to_list c.pop-last.result = search rules in
    let put : c.replace-none.new.dest ≡ c.pop-last.new.self.items = search rules in
    ap (map bare_instr) put
    ∙ popped_others bare_instr c.args.self.now.waiting c.pop-last.new.self.items c.pop-last.result all
    (λ e. empty_if c.args.self.now.waiting (λ lt. grind (arith, common_steps, e, lt, c.pop-last.ensures.variant)))
