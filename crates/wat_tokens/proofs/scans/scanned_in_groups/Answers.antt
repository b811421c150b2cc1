-- Closes the steps of the loop over the parts of a text, as those of `scanned`.
use Rattle.std.proofs.Common.{◌≡◌, ◌∙◌, ◌+◌, ◌-◌, suc, drop, length, arith}
use Rattle.wat_tokens.specs.Scans.{contents_of, seen_all, token_of}
use Rattle.wat_tokens.specs.Groups.{tokens_in}
use Rattle.wat_tokens.proofs.Comments.{all_read}
use Rattle.wat_tokens.proofs.Steps.{pa_more, pa_none, pa_end, strict}
use Rattle.wat_tokens.proofs.scans.scanned_in_groups.Goals as goal
use Rattle.wat_tokens.proofs.scans.scanned_in_groups.Goals.{else-loop-test, then-loop-test+then-place-text}

pub returns-in-Err-clause-read : goal.returns-in-Err-clause-read
returns-in-Err-clause-read c = λ known.
    let T = c.args.text.now in
    let X = contents_of c.args.strings in
    let N = length T - c.loop.counter in
    let M = length T - (c.loop.counter + 1) in
    let one : N ≡ suc M = omega (arith, c.loop-test.true) in
    let below = strict c.loop.place (length T) c.loop.invariant.inside c.if-place-text.false in
    c.loop.invariant.same ∙ pa_none X N M c.loop.place T (seen_all (tokens_in c.loop.found)) one below (c.in-Err.ensures.read known)

pub loop-preserved : goal.loop-preserved
loop-preserved c =
    let T = c.args.text.now in
    let X = contents_of c.args.strings in
    let N = length T - c.loop.counter in
    let M = length T - (c.loop.counter + 1) in
    let one : N ≡ suc M = omega (arith, c.loop-test.true) in
    let below = strict c.loop.place (length T) c.loop.invariant.inside c.if-place-text.false in
    record {
      inside = c.in-Ok.ensures.end.1;
      enough = omega (arith, c.loop.invariant.enough, c.in-Ok.ensures.end.0, one);
      same = c.loop.invariant.same ∙ pa_more X N M c.loop.place c.in-Ok.part.end T (seen_all (tokens_in c.put.new.self))
          (seen_all (tokens_in c.loop.found)) (token_of c.in-Ok.part.token) one below c.in-Ok.ensures.read c.in-Ok-put.ensures.put;
      words = c.in-Ok-put.ensures.words c.in-Ok.ensures.words c.loop.invariant.words;
      count = c.in-Ok-put.ensures.count c.loop.invariant.count;
    }

pub returns-clause-read : goal.returns-clause-read
returns-clause-read c =
    let T = c.args.text.now in
    let X = contents_of c.args.strings in
    let N = length T - c.loop.counter in
    elim c.loop-test.branch [
      | else-loop-test w ↦ c.loop.invariant.same
          ∙ pa_end X N (length T) (drop c.loop.place T) (seen_all (tokens_in c.loop.found))
          (all_read c.loop.place T (omega (arith, w.loop-test.false, c.loop.invariant.enough)))
      | then-loop-test+then-place-text w ↦ c.loop.invariant.same
          ∙ pa_end X N (length T) (drop c.loop.place T) (seen_all (tokens_in c.loop.found)) (all_read c.loop.place T (omega (arith, w.if-place-text.true)))
    ]
