-- Closes the steps of the loop by the lemma on each.
use Rattle.std.proofs.Common.{◌≡◌, ◌≢◌, ◌∙◌, ℕ, suc, ◌-◌, ◌≤◌, List, length, get_or, false, sym, ap, arith, ltb-false, Bor}
use Rattle.wat_grammar.specs.Tokens.{string_length}
use Rattle.wat_tokens.specs.Scans.{after_these}
use Rattle.wat_tokens.proofs.Fronts.{tail_at, parted, front_short, tail_is}
use Rattle.wat_tokens.proofs.Quotes.{escape_past, plain_past, ends, no_end}
use Rattle.wat_tokens.proofs.scans.string_length.Goals as goal
use Rattle.wat_tokens.proofs.scans.string_length.Goals.{in-92, in-len1-up}

pub returns-in-empty : goal.returns-in-empty
returns-in-empty c = c.loop.invariant.same ∙ no_end _ c.loop.rest.now (omega arith)

pub returns-in-34 : goal.returns-in-34
returns-in-34 c = (omega arith, c.loop.invariant.same ∙ ends _ c.loop.rest.now (omega arith) (omega arith))

pub loop-preserved : goal.loop-preserved
loop-preserved c =
    let T = c.args.text.now in
    let rest = c.loop.rest.now in
    elim c.match-rest.branch [
      | in-92 w ↦
          let some : 1 ≤ length rest = omega (arith, ltb-false) in
          let a : length rest ≡ suc (length (tail_at 1 rest)) = ap length (parted rest some) in
          let long = ap (λ (r : Bor (List ℕ)). length r.now) w.rest-is in
          record {
            shorter = omega (arith, long, a, w.after_escaped-rest.ensures.short);
            enough = omega (arith, long, a, w.after_escaped-rest.ensures.short);
            same = c.loop.invariant.same
                ∙ escape_past (length T) rest w.after_escaped-rest.result.now some
                (omega arith) c.loop.invariant.shorter w.after_escaped-rest.ensures.short w.after_escaped-rest.ensures.past
                ∙ sym (ap (λ (r : Bor (List ℕ)). after_these (length T - length r.now) (string_length false r.now)) w.rest-is);
          }
      | in-len1-up w ↦
          let some : 1 ≤ length rest = omega (arith, ltb-false) in
          let a : length rest ≡ suc (length (tail_at 1 rest)) = ap length (parted rest some) in
          let long = ap (λ (r : Bor (List ℕ)). length r.now) w.rest-is in
          record {
            shorter = omega (arith, long, a);
            enough = omega (arith, long, a);
            same = c.loop.invariant.same
                ∙ plain_past (length T) w.neither_length.result rest some (λ e. omega (arith, e))
                (λ e. omega (arith, e)) c.loop.invariant.shorter w.neither_length.ensures.front
                ∙ sym (ap (λ (r : Bor (List ℕ)). after_these (length T - length r.now) (string_length false r.now)) w.rest-is);
          }
    ]

pub returns : goal.returns
returns c = c.loop.invariant.same ∙ no_end _ c.loop.rest.now (omega arith)
