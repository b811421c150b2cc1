-- Closes the look at 16 bytes: they are passed up to the first that stops it.
use Rattle.std.proofs.Common.{◌==◌, ◌||◌, not, arith}
use Rattle.wat_tokens.proofs.Fronts.{first_found, none_found, front_short}
use Rattle.wat_tokens.proofs.scans.neither_length.Goals as goal

pub returns-then-found-ne0-clause-short : goal.returns-then-found-ne0-clause-short
returns-then-found-ne0-clause-short c =
    let T = c.args.text.now in
    let passed = first_found (λ x. x == c.args.one || x == c.args.other) 16 T _ (omega arith) (omega arith) c.either_bits-found.ensures (omega arith) in
    omega (arith, passed, front_short (λ x. not (x == c.args.one || x == c.args.other)) T)

pub returns-then-found-ne0-clause-front : goal.returns-then-found-ne0-clause-front
returns-then-found-ne0-clause-front c =
    first_found (λ x. x == c.args.one || x == c.args.other) 16 c.args.text.now _ (omega arith) (omega arith) c.either_bits-found.ensures (omega arith)

pub returns-clause-front : goal.returns-clause-front
returns-clause-front c = none_found (λ x. x == c.args.one || x == c.args.other) 16 c.args.text.now _ (omega arith) c.either_bits-found.ensures (omega arith)
