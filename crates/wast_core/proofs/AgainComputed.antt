-- Proves the example modules that are resolved and encoded a second time, by computing them.
use Rattle.std.proofs.Common.{None, refl, sym, subst, arith}
use Rattle.wasm_out.specs.Reads.{Reads}
use Rattle.wast_core.specs.Bounded.{IsBounded}
use Rattle.wast_core.specs.Meaning.{meaning}
use Rattle.wast_core.specs.WorkedAgain.{numbered27, ResolvedAgain, EncodedAgain, Row9, Row48}
use Rattle.wast_core.proofs.Worked as worked
use Rattle.wast_tree_nodes.specs.WorkedModules.{Address}

pub resolved_again : ResolvedAgain
resolved_again a b c d e f names known = record { kind = (refl, refl, known); counter = refl }

-- The module is as bounded as row 27: it has the same counts and the same bytes.
bounded_again : (a b c : Address) → IsBounded 5 None (numbered27 a b c)
bounded_again a b c =
    let first = (worked.row27 a b c a a a).3 in
    record { spaces = first.spaces; counter = omega arith; writable = first.writable }

pub encoded_again : EncodedAgain
encoded_again a b c bytes is =
    ((refl, refl, subst (λ bs. Reads bs (meaning None (numbered27 a b c))) (sym is) (worked.row27 a b c a a a).4, refl), bounded_again a b c)

pub row9 : Row9
row9 a b c d = (refl, refl, refl, refl)

pub row48 : Row48
row48 a b c d e = (refl, refl, refl, refl)
