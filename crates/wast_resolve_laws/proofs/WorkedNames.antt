-- Computes the example modules with other names.
use Rattle.std.proofs.Common.{◌≡◌, refl, ap}
use Rattle.std.specs.Prelude.{codes}
use Rattle.std.proofs.lemmas.List.{append_cancel_left}
use Rattle.wast_base.specs.declared.ids.Name as code
use Rattle.wast_base.specs.declared.ids.Name.TheVariants as name
use Rattle.wast_base.specs.Ids.{Name, Written, Generated, named_by, place_of, text_of}
use Rattle.wast_resolve_laws.specs.WorkedRenaming.{prefixed, prefixed_code, PrefixesNames, Row27, Row9, Row31, Row48, OneGiven}

named_so : (q : code.Name) → named_by (prefixed_code q) ≡ prefixed (named_by q)
named_so (name.Written text) = refl
named_so (name.Generated n) = refl

one_name : (a b : Name) → prefixed a ≡ prefixed b → a ≡ b
one_name (Written s) (Written t) h = ap Written (append_cancel_left (codes "r") s t (ap text_of h))
one_name (Written s) (Generated n) h = absurd (cc h)
one_name (Generated n) (Written t) h = absurd (cc h)
one_name (Generated n) (Generated k) h = h

pub prefixes_names : PrefixesNames
prefixes_names = record { calls = λ id i. (named_so id.name i, place_of id); injective = one_name }

pub row27 : Row27
row27 a b c d e f = (refl, refl, refl, refl)

pub row9 : Row9
row9 a b c d = (refl, refl, refl)

pub row31 : Row31
row31 a b c d e = (refl, refl, refl)

pub row48 : Row48
row48 a b c d e = (refl, refl, refl)

pub one_given : OneGiven
one_given = (refl, refl, refl)
