-- Closes the steps of the loop by the lemma on each.
use Rattle.std.proofs.Common.{◌≡◌, ◌≢◌, ◌∙◌, ℕ, suc, ◌+◌, ◌-◌, ◌≤◌, List, length, drop, Some, sym, ap, ap₂, arith, ltb-false, Bor}
use Rattle.wat_grammar.specs.Space.{blockcomment}
use Rattle.wat_tokens.proofs.Comments.{known, open_past, open_not, close_past, close_not, ends, quiet_past, no_end, some_first, tails, left_after}
use Rattle.wat_tokens.proofs.Fronts.{tail_at, tail_is, parted, front_short}
use Rattle.wat_tokens.proofs.scans.comment_length.Goals as goal
use Rattle.wat_tokens.proofs.scans.comment_length.Goals.{in-40+then-begins, in-40+else-begins, in-59+then-begins-2+else-depth-eq0}
use Rattle.wat_tokens.proofs.scans.comment_length.Goals.{in-59+else-begins-2, in-len1-up}

pub returns-in-empty : goal.returns-in-empty
returns-in-empty c = c.loop.invariant.same ∙ no_end c.loop.depth c.loop.rest.now (omega arith)

pub returns-then-depth-eq0 : goal.returns-then-depth-eq0
returns-then-depth-eq0 c =
    let T = c.args.text.now in
    let rest = c.loop.rest.now in
    let m = tail_at 1 rest in
    let some : 1 ≤ length rest = omega (arith, ltb-false) in
    let a : length rest ≡ suc (length m) = ap length (parted rest some) in
    let closed = sym c.begins-in-59.ensures ∙ c.if-begins-2.true in
    let more : 1 ≤ length m = some_first 0x29 m closed in
    let l = left_after 2 T rest (tail_at 1 m) (tails 1 rest) (omega (arith, a, more)) c.loop.invariant.shorter c.loop.invariant.left in (
      omega (arith, a, more, c.loop.invariant.shorter),
      c.loop.invariant.same ∙ known c.loop.depth 0x3b rest some (omega arith) ∙ ends c.loop.depth m c.if-depth-eq0.true closed
          ∙ ap Some (sym (tail_is 1 m) ∙ l.1
          ∙ ap (λ n. drop n T) {x = length T - length (tail_at 1 m)} {y = length T - length m + 1} (omega (arith, a, more, l.0, c.loop.invariant.shorter))),
    )

pub loop-preserved : goal.loop-preserved
loop-preserved c =
    let T = c.args.text.now in
    let rest = c.loop.rest.now in
    let m = tail_at 1 rest in
    let n = c.loop.depth in
    elim c.match-rest.branch [
      | in-40+then-begins w ↦
          let some : 1 ≤ length rest = omega (arith, ltb-false) in
          let a : length rest ≡ suc (length m) = ap length (parted rest some) in
          let opened = sym w.begins.ensures ∙ w.if-begins.true in
          let more : 1 ≤ length m = some_first 0x3b m opened in
          let is = ap (λ (r : Bor (List ℕ)). r.now) w.rest-is in
          let l = left_after 2 T rest c.match-rest.rest.now (is ∙ tails 1 rest) (omega (arith, a, more)) c.loop.invariant.shorter c.loop.invariant.left in
          record {
            shorter = omega (arith, l.0);
            enough = omega (arith, l.0);
            few = omega (arith, l.0, w.depth-is);
            left = l.1;
            same = c.loop.invariant.same ∙ known n 0x28 rest some (omega arith) ∙ open_past n m opened
                ∙ ap₂ blockcomment (sym w.depth-is) (sym (is ∙ tail_is 1 m));
          }
      | in-40+else-begins w ↦
          let some : 1 ≤ length rest = omega (arith, ltb-false) in
          let is = ap (λ (r : Bor (List ℕ)). r.now) w.rest-is in
          let l = left_after 1 T rest c.match-rest.rest.now (is ∙ tail_is 1 rest) some c.loop.invariant.shorter c.loop.invariant.left in
          record {
            shorter = omega (arith, l.0);
            enough = omega (arith, l.0);
            few = omega (arith, l.0, w.depth-is);
            left = l.1;
            same = c.loop.invariant.same ∙ known n 0x28 rest some (omega arith) ∙ open_not n m (sym w.begins.ensures ∙ w.if-begins.false)
                ∙ ap₂ blockcomment (sym w.depth-is) (sym is);
          }
      | in-59+then-begins-2+else-depth-eq0 w ↦
          let some : 1 ≤ length rest = omega (arith, ltb-false) in
          let a : length rest ≡ suc (length m) = ap length (parted rest some) in
          let closed = sym w.begins-in-59.ensures ∙ w.if-begins-2.true in
          let more : 1 ≤ length m = some_first 0x29 m closed in
          let is = ap (λ (r : Bor (List ℕ)). r.now) w.rest-is in
          let l = left_after 2 T rest c.match-rest.rest.now (is ∙ tails 1 rest) (omega (arith, a, more)) c.loop.invariant.shorter c.loop.invariant.left in
          record {
            shorter = omega (arith, l.0);
            enough = omega (arith, l.0);
            few = omega (arith, l.0, w.depth-is);
            left = l.1;
            same = c.loop.invariant.same ∙ known n 0x3b rest some (omega arith) ∙ close_past n (n - 1) m (omega (arith, w.if-depth-eq0.false)) closed
                ∙ ap₂ blockcomment (sym w.depth-is) (sym (is ∙ tail_is 1 m));
          }
      | in-59+else-begins-2 w ↦
          let some : 1 ≤ length rest = omega (arith, ltb-false) in
          let is = ap (λ (r : Bor (List ℕ)). r.now) w.rest-is in
          let l = left_after 1 T rest c.match-rest.rest.now (is ∙ tail_is 1 rest) some c.loop.invariant.shorter c.loop.invariant.left in
          record {
            shorter = omega (arith, l.0);
            enough = omega (arith, l.0);
            few = omega (arith, l.0, w.depth-is);
            left = l.1;
            same = c.loop.invariant.same ∙ known n 0x3b rest some (omega arith) ∙ close_not n m (sym w.begins-in-59.ensures ∙ w.if-begins-2.false)
                ∙ ap₂ blockcomment (sym w.depth-is) (sym is);
          }
      | in-len1-up w ↦
          let some : 1 ≤ length rest = omega (arith, ltb-false) in
          let a : length rest ≡ suc (length m) = ap length (parted rest some) in
          let k = w.neither_length.result in
          let is = ap (λ (r : Bor (List ℕ)). r.now) w.rest-is in
          let l = left_after (1 + k) T rest c.match-rest.rest.now (is
          ∙ tails k rest) (omega (arith, a, w.neither_length.ensures.short)) c.loop.invariant.shorter c.loop.invariant.left in
          record {
            shorter = omega (arith, l.0);
            enough = omega (arith, l.0);
            few = omega (arith, l.0, w.depth-is);
            left = l.1;
            same = c.loop.invariant.same ∙ ap (blockcomment n) (parted rest some)
                ∙ quiet_past n _ k m (λ e. omega (arith, e)) (λ e. omega (arith, e)) w.neither_length.ensures.front
                ∙ ap₂ blockcomment (sym w.depth-is) (sym (is ∙ tail_is k m));
          }
    ]

pub returns : goal.returns
returns c = c.loop.invariant.same ∙ no_end c.loop.depth c.loop.rest.now (omega arith)
