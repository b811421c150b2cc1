-- A namespace as a value: a finite map from names to numbers, and a count of items (text format: identifiers,
-- indices).
--
-- The count is separate, because items without an id are counted too.
--
--   registered (empty_from 3) (Some ($a, position))       $a is 3, and the count is 4
use Rattle.std.specs.Prelude.{ℕ, ◌+◌, Bool, not, is_some, List, [], Option, Some, None, refl}
use Rattle.std.specs.FinMap.{FinMap, empty, get, insert, code}
use Rattle.std.specs.Coded.{Coded, coded×, coded_ℕ, coded_list, coded_option, code_by}
use Rattle.wast_base.specs.Ids.{Name, text_of, Mark}
use Rattle.wast_base.specs.Faults.{Duplicate, DuplicateField}
use Rattle.wast_base.specs.Order.{key_of, key_cmp}
use Rattle.wast_base.specs.FirstUnmet.{Demand, one_demand}

-- A namespace: the number of each name, and the number of items.
pub record NameSpace : Type 0 where
  pub names : FinMap key_cmp ℕ
  pub count : ℕ

-- Namespaces are equal if their names and counts are.
abbrev pub coded_space : Coded NameSpace
coded_space = code_by (FinMap key_cmp ℕ × ℕ) (coded× (code (coded× (coded_list coded_ℕ) (coded_option coded_ℕ)) coded_ℕ) coded_ℕ) (λ s. (s.names, s.count)) (λ p. record { names = p.0; count = p.1 }) (λ _. refl)

-- The namespace without names, with a count.
abbrev pub empty_from : ℕ → NameSpace
empty_from count = record { names = empty; count = count }

-- The number of a name, if the namespace has it.
abbrev pub number_in : NameSpace → Name → Option ℕ
number_in s name = get s.names (key_of name)

-- The namespace with one more item, without a name.
abbrev pub with_unnamed_item : NameSpace → NameSpace
with_unnamed_item s = record { names = s.names; count = s.count + 1 }

-- The namespace with the number of a name set.
abbrev pub named : NameSpace → Name → ℕ → NameSpace
named s name n = record { names = insert s.names (key_of name) n; count = s.count }

-- The namespace with one more item. Its name, if it has one, has the count as its number.
abbrev pub registered : NameSpace → Option Mark → NameSpace
registered s None = with_unnamed_item s
registered s (Some m) = with_unnamed_item (named s m.0 s.count)

-- Whether the namespace does not have this name yet.
abbrev pub is_new : NameSpace → Name → Bool
is_new s name = not (is_some (number_in s name))

-- The check of one more item: E2 if the namespace has its name already.
abbrev pub new_item : NameSpace → List ℕ → Option Mark → List Demand
new_item s word None = []
new_item s word (Some m) = one_demand (Duplicate word) m.1 (is_new s m.0)

-- The check of one more struct field: E3 if the namespace has its name already.
abbrev pub new_name : NameSpace → List ℕ → Mark → List Demand
new_name s word m = one_demand (DuplicateField word (text_of m.0)) m.1 (is_new s m.0)
