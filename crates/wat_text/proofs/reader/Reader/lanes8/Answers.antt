-- The goal of `lanes8` that tactics leave open, closed by lemmas of Fills.
use Rattle.std.proofs.Common.{rules, sym, subst}
use Rattle.std.specs.Int.{w16}
use Rattle.std.proofs.Math.Facts.{to_z-of_z}
use Rattle.wat_syntax.specs.Instructions.{signed_number}
use Rattle.wat_text.specs.Readers.{Decides}
use Rattle.wat_text.proofs.Fills.{filled_more}
use Rattle.wat_text.proofs.reader.Reader.lanes8.Goals as goal

-- the code reads the number back from its bits
pub loop-place-preserved : goal.loop-place-preserved
loop-place-preserved c =
    let loop = c.loop-place in
    let new = c.integer16.new.self in
    let read = subst (λ z. Decides (signed_number 16) loop.self new z)
    (sym (to_z-of_z {w = w16} {z = c.integer16.result} (search rules))) c.integer16.ensures in
    filled_more (signed_number 16) 8 loop.place _ loop.self new loop.lanes _ loop.invariant (search rules) read
