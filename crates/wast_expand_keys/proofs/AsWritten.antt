-- If no type has an id, signatures are unchanged.
use Rattle.std.proofs.Common.{◌≡◌, List, map, None, refl, ap}
use Rattle.wast_base.specs.Ids.{Name, name_of}
use Rattle.wast_base.specs.Denoted.{numbered_by, resolved_index}
use Rattle.wast_tree_map.proofs.Ways.{list_at}
use Rattle.wast_tree_map.proofs.Types.{val_at}
use Rattle.wast_tree_map.proofs.Joined.{indices_stay}
use Rattle.wast_expand_keys.specs.Tree.{Id, Index, ValType, FunctionType}
use Rattle.wast_expand_keys.specs.Tree.index
use Rattle.wast_expand_keys.specs.Signatures.{type_of_param, signature_of}
use Rattle.wast_expand_keys.specs.Numbers.{TypeNames, in_numbers, numbered_val, numbered_signature}

module _ (k : TypeNames) (none : (q : Name) → k q ≡ None) where
  index_stays : (i : Index) → resolved_index k i ≡ i
  index_stays (index.Num n p) = refl
  index_stays (index.Id id) = ap (λ o. numbered_by o id) (none (name_of id))

  values_stay : (ts : List ValType) → map (numbered_val k) ts ≡ ts
  values_stay ts = indices_stay (in_numbers k) (λ s i. index_stays i) ts (list_at val_at ts)

  pub stays_as_written : (t : FunctionType) → numbered_signature k (signature_of t) ≡ signature_of t
  stays_as_written t = λ i. (values_stay (map type_of_param t.params) i, values_stay t.results i)
