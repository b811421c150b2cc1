-- Closes each step of the loop by the lemma on the rule.
use Rattle.std.proofs.Common.{◌≡◌, ◌∙◌, ap, sym, ◌+◌, ◌-◌, ◌<◌, suc, drop, length, Some, arith}
use Rattle.wat_grammar.specs.Tokens.{skipped}
use Rattle.wat_tokens.specs.Scans.{contents_of, opens_of}
use Rattle.wat_tokens.proofs.Ascii.{first_below}
use Rattle.wat_tokens.proofs.Comments.{all_read}
use Rattle.wat_tokens.proofs.Steps.{sk_last, sk_close, sk_part, sk_none, sk_end, sk_over, drop_one, moved, one_less}
use Rattle.wat_tokens.proofs.scans.Source.skipped.Goals as goal
use Rattle.wat_tokens.proofs.scans.Source.skipped.Goals.{then-is_at+else-depth-eq0, else-is_at+in-Ok+then-part, else-is_at+in-Ok+else-part}
use Rattle.wat_tokens.proofs.scans.Source.skipped.Goals.{else-loop-test, then-loop-test+then-at-self}

pub returns-then-depth-eq0-clause-read : goal.returns-then-depth-eq0-clause-read
returns-then-depth-eq0-clause-read c =
    let T = c.args.self.now.text.now in
    let X = contents_of c.args.self.now.strings in
    let t = drop c.loop.at T in
    let N = length T - c.loop.counter in
    let M = length T - (c.loop.counter + 1) in
    let one : N ≡ suc M = omega (arith, c.loop-test.true) in
    c.loop.invariant.same ∙ sk_last X N M c.loop.depth t one c.if-depth-eq0.true (sym c.is_at.ensures ∙ c.if-is_at.true) ∙ ap Some (drop_one T c.loop.at)

pub returns-in-Err-clause-read : goal.returns-in-Err-clause-read
returns-in-Err-clause-read c = λ known.
    let T = c.args.self.now.text.now in
    let X = contents_of c.args.self.now.strings in
    let t = drop c.loop.at T in
    let N = length T - c.loop.counter in
    let M = length T - (c.loop.counter + 1) in
    let one : N ≡ suc M = omega (arith, c.loop-test.true) in
    c.loop.invariant.same ∙ sk_none X N M c.loop.depth t one (sym c.is_at.ensures ∙ c.if-is_at.false) (c.in-Err.ensures.read known)

pub loop-preserved : goal.loop-preserved
loop-preserved c =
    let T = c.args.self.now.text.now in
    let X = contents_of c.args.self.now.strings in
    let t = drop c.loop.at T in
    let N = length T - c.loop.counter in
    let M = length T - (c.loop.counter + 1) in
    let one : N ≡ suc M = omega (arith, c.loop-test.true) in
    elim c.if-is_at.branch [
      | then-is_at+else-depth-eq0 w ↦
          let h = sym c.is_at.ensures ∙ w.if-is_at.true in
          let below : c.loop.at < length T = first_below T c.loop.at 0x29 h in
          record {
            inside = omega (arith, below, w.at-is);
            after = omega (arith, c.loop.invariant.after, w.at-is);
            few = omega (arith, c.loop.invariant.few, w.at-is, w.depth-is);
            enough = omega (arith, c.loop.invariant.enough, w.at-is, one);
            same = c.loop.invariant.same ∙ sk_close X N M c.loop.depth (c.loop.depth - 1) t one (one_less c.loop.depth w.if-depth-eq0.false) h
                ∙ ap (skipped X M (c.loop.depth - 1)) (drop_one T c.loop.at)
                ∙ moved X M (c.loop.depth - 1) c.if-is_at.depth (c.loop.at + 1) c.if-is_at.at T (sym w.depth-is) (sym w.at-is);
          }
      | else-is_at+in-Ok+then-part w ↦
          let h = sym c.is_at.ensures ∙ w.if-is_at.false in
          record {
            inside = omega (arith, w.in-Ok.ensures.end.1, w.at-is);
            after = omega (arith, c.loop.invariant.after, w.in-Ok.ensures.end.0, w.at-is);
            few = omega (arith, c.loop.invariant.few, w.in-Ok.ensures.end.0, w.at-is, w.depth-is);
            enough = omega (arith, c.loop.invariant.enough, w.in-Ok.ensures.end.0, w.at-is, one);
            same = c.loop.invariant.same ∙ sk_part X N M c.loop.depth (opens_of w.in-Ok.part.opens) t (drop w.in-Ok.part.end T) one h w.in-Ok.ensures.read
                ∙ ap (λ b. skipped X M (opens_of b + c.loop.depth) (drop w.in-Ok.part.end T)) w.if-part.true
                ∙ moved X M (1 + c.loop.depth) c.if-is_at.depth w.in-Ok.part.end c.if-is_at.at T (omega (arith, w.depth-is)) (sym w.at-is);
          }
      | else-is_at+in-Ok+else-part w ↦
          let h = sym c.is_at.ensures ∙ w.if-is_at.false in
          record {
            inside = omega (arith, w.in-Ok.ensures.end.1, w.at-is);
            after = omega (arith, c.loop.invariant.after, w.in-Ok.ensures.end.0, w.at-is);
            few = omega (arith, c.loop.invariant.few, w.in-Ok.ensures.end.0, w.at-is, w.depth-is);
            enough = omega (arith, c.loop.invariant.enough, w.in-Ok.ensures.end.0, w.at-is, one);
            same = c.loop.invariant.same ∙ sk_part X N M c.loop.depth (opens_of w.in-Ok.part.opens) t (drop w.in-Ok.part.end T) one h w.in-Ok.ensures.read
                ∙ ap (λ b. skipped X M (opens_of b + c.loop.depth) (drop w.in-Ok.part.end T)) w.if-part.false
                ∙ moved X M (0 + c.loop.depth) c.if-is_at.depth w.in-Ok.part.end c.if-is_at.at T (omega (arith, w.depth-is)) (sym w.at-is);
          }
    ]

pub returns-clause-read : goal.returns-clause-read
returns-clause-read c = λ known.
    let T = c.args.self.now.text.now in
    let X = contents_of c.args.self.now.strings in
    let t = drop c.loop.at T in
    let N = length T - c.loop.counter in
    elim c.loop-test.branch [
      | else-loop-test w ↦ c.loop.invariant.same ∙ sk_over X N c.loop.depth t (omega (arith, w.loop-test.false))
      | then-loop-test+then-at-self w ↦ c.loop.invariant.same ∙ sk_end X N c.loop.depth t (all_read c.loop.at T (omega (arith, w.if-at-self.true)))
    ]
