-- Lemmas: the tests `same_name` and `is_called` decide equality.
use Rattle.std.proofs.Common.{◌≡◌, Option, Some, None, true, refl, sym, ap, ◌∙◌}
use Rattle.std.specs.Cmp.Lexicographic.{bytes_decides}
use Rattle.std.proofs.lemmas.Bool.{eqb-true, eq-eqb}
use Rattle.std.proofs.lemmas.Cmp.{nat_list_eq_equiv}
use Rattle.wast_base.specs.Ids.{Name, Written, Generated, same_name}
use Rattle.wast_base.specs.Spaces.{is_called}

pub same_name_equal : (a b : Name) → same_name a b ≡ true → a ≡ b
same_name_equal (Written a) (Written b) h = ap Written ((bytes_decides a b).0 h)
same_name_equal (Generated m) (Generated n) h = ap Generated (eqb-true m n h)
same_name_equal (Written a) (Generated n) h = cc
same_name_equal (Generated m) (Written b) h = cc

pub same_name_itself : (a : Name) → same_name a a ≡ true
same_name_itself (Written a) = nat_list_eq_equiv.refl a
same_name_itself (Generated n) = eq-eqb n n refl

-- if the test passes, the item has this name
pub called_is : (q : Name) (o : Option Name) → is_called q o ≡ true → o ≡ Some q
called_is q None h = cc
called_is q (Some n) h = ap Some (sym (same_name_equal q n h))

pub is_called_so : (q : Name) (o : Option Name) → o ≡ Some q → is_called q o ≡ true
is_called_so q o h = ap (is_called q) h ∙ same_name_itself q
