-- Proves ImpliedAreNumbered: replacing ids by numbers twice is the same as once, so it leaves appended types unchanged.
use Rattle.std.proofs.Common.{◌≡◌, Bool, true, false, cond, ◌||◌, List, [], ◌∷◌, map, refl}
use Rattle.wast_base.proofs.Numbered.{resolved_twice}
use Rattle.wast_tree_map.proofs.Ways.{list_at}
use Rattle.wast_tree_map.proofs.Types.{val_at}
use Rattle.wast_tree_map.proofs.Joined.{indices_join}
use Rattle.wast_expand_types.specs.Tree.{ValType}
use Rattle.wast_expand_keys.specs.Signatures.{Signature, same_signature}
use Rattle.wast_expand_keys.specs.NeedingUses.{needed_signatures}
use Rattle.wast_expand_keys.specs.Numbers.{TypeNames, type_names, in_numbers, numbered_val, numbered_signature}
use Rattle.wast_expand_keys.specs.ImpliedTypes.{eligible_signatures, is_among, first_new}
use Rattle.wast_expand_types.specs.Laws.{ImpliedAreNumbered}

module _ (k : TypeNames) where
  values_twice : (ts : List ValType) → map (numbered_val k) (map (numbered_val k) ts) ≡ map (numbered_val k) ts
  values_twice ts = indices_join (in_numbers k) (in_numbers k) (in_numbers k) (λ s i. resolved_twice k k (λ q. refl) i) ts (list_at val_at ts)

  pub twice : (s : Signature) → numbered_signature k (numbered_signature k s) ≡ numbered_signature k s
  twice s = λ i. (values_twice s.0 i, values_twice s.1 i)

  pub new_numbered : (known : Signature → Bool) (ss : List Signature)
      → map (numbered_signature k) (first_new known (map (numbered_signature k) ss)) ≡ first_new known (map (numbered_signature k) ss)
  new_numbered known [] = refl
  new_numbered known (s ∷ ss) = by (known (numbered_signature k s)) (new_numbered known ss)
      (new_numbered (λ t. known t || same_signature t (numbered_signature k s)) ss)
    where
      by : {xs ys : List Signature} (b : Bool) → map (numbered_signature k) xs ≡ xs → map (numbered_signature k) ys ≡ ys
          → map (numbered_signature k) (cond b xs (numbered_signature k s ∷ ys)) ≡ cond b xs (numbered_signature k s ∷ ys)
      by true p q = p
      by false p q = λ i. twice s i ∷ q i

pub implied_are_numbered : ImpliedAreNumbered
implied_are_numbered fields = new_numbered (type_names fields) (is_among (eligible_signatures fields)) (needed_signatures fields)
