-- Proves the lines of example modules by computing them.
use Rattle.std.specs.Fmt.{digits}
use Rattle.wast_rows.specs.Worked.{LinesOfIllFormed}

pub lines_of_ill_formed : LinesOfIllFormed
unfolding digits
lines_of_ill_formed a = (λ line. (λ told. told, λ same. same), λ line. (λ told. told, λ same. same), λ line. (λ told. told, λ same. same))
