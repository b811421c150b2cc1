-- Proves StaysBelow: the counter is past every generated id of the result.
use Rattle.std.proofs.Common.{◌≡◌, ℕ, ◌+◌, ◌<◌, Bool, true, ◌&&◌, List, [], ◌∷◌, map, Option, Some, None, refl, ap, ◌∙◌, arith}
use Rattle.std.specs.Prelude.{nat_lt}
use Rattle.std.specs.List.{list_all}
use Rattle.std.specs.Cmp.Derive.{both_true}
use Rattle.std.proofs.lemmas.Bool.{and_parts, ltb-true, lt-ltb}
use Rattle.wast_tree_nodes.specs.Items.{Item, item, items}
use Rattle.wast_tree_nodes.specs.Sites.{Check, ItemIndex, in_module, checks_of}
use Rattle.wast_tree_nodes.specs.Generations.{max_of, generation_or_zero, generation_in, greatest_item, greatest_asked}
use Rattle.wast_expand_inline.specs.Tree.{Span, Id, Space, ModuleField}
use Rattle.wast_expand_inline.specs.Referring.{by_id}
use Rattle.wast_expand_inline.specs.Written.{with_referred_ids, desugared_from, reference_id_count, desugared_by_position}
use Rattle.wast_expand_inline.specs.Laws.{StaysBelow}
use Rattle.wast_expand_inline.proofs.WrittenItems.{same_of_items, all_referable}
use Rattle.wast_expand_inline.proofs.WrittenAsks.{written_pass, written_out_pass}

-- The greatest of some numbers is below a bound if each number is.
module _ {A : Type 0} (m : ℕ) (g : A → ℕ) where
  pub each_below : (xs : List A) → max_of (map g xs) < m → list_all (λ x. nat_lt (g x) m) xs ≡ true
  each_below [] lt = refl
  each_below (x ∷ xs) lt = both_true (lt-ltb (g x) m (omega (arith, lt))) (each_below xs (omega (arith, lt)))

  pub greatest_below : (xs : List A) → 0 < m → list_all (λ x. nat_lt (g x) m) xs ≡ true → max_of (map g xs) < m
  greatest_below [] lt h = lt
  greatest_below (x ∷ xs) lt h =
      let parts = and_parts (nat_lt (g x) m) (list_all (λ x. nat_lt (g x) m) xs) h in
      let one = ltb-true (g x) m parts.0 in
      let rest = greatest_below xs lt parts.1 in
      omega (arith, one, rest)

module _ (m : ℕ) where
  abbrev of_item : Item → ℕ
  of_item x = generation_or_zero x.id

  abbrev is_item_below : Item → Bool
  is_item_below x = nat_lt (of_item x) m

  abbrev is_ask_below : Check → Bool
  is_ask_below a = nat_lt (generation_in a) m

  own_below : (s : Space) (span : Span) (id : Option Id) → is_item_below (item s id []) ≡ true → is_ask_below (ItemIndex s (by_id s span id)) ≡ true
  own_below s span None h = h
  own_below s span (Some id) h = h

pub written_below : StaysBelow
written_below n fields above =
    let m : ℕ = n + reference_id_count fields in
    let some : 0 < m = omega (arith, above) in
    let given : list_all (is_item_below m) (items (with_referred_ids n fields)) ≡ true =
    all_referable (is_item_below m) m (λ k s at lt. lt-ltb k m lt) n fields (omega arith) (each_below m (of_item m) (items fields) (omega (arith, above))) in
    let of_items : greatest_item (items (desugared_from n fields)) < m =
    greatest_below m (of_item m) (items (desugared_from n fields)) some
    (same_of_items (list_all (is_item_below m)) (λ s xs h. ap (λ b. b && list_all (is_item_below m) xs) (lt-ltb 0 m some))
    (λ x xs ys e. ap (λ b. is_item_below m x && b) e) (with_referred_ids n fields) ∙ given) in
    let of_asks : greatest_asked (checks_of (in_module (desugared_from n fields))) < m =
    greatest_below m generation_in (checks_of (in_module (desugared_from n fields))) some
    (written_pass (is_ask_below m) (λ c. lt-ltb 0 m some) (is_item_below m) (own_below m) n fields given
    (each_below m generation_in (checks_of (in_module fields)) (omega (arith, above)))) in
    omega (arith, of_items, of_asks)

-- The result by positions looks up no further id.
pub written_out_below : (n : ℕ) (fields : List ModuleField) → greatest_asked (checks_of (in_module fields)) < n
    → greatest_asked (checks_of (in_module (desugared_by_position fields))) < n
written_out_below n fields above =
    let some : 0 < n = omega (arith, above) in
    greatest_below n generation_in (checks_of (in_module (desugared_by_position fields))) some
    (written_out_pass (is_ask_below n) (λ c. lt-ltb 0 n some) (λ s m span. lt-ltb 0 n some) fields
    (each_below n generation_in (checks_of (in_module fields)) above))
