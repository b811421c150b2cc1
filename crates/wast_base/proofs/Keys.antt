-- Lemmas for compare_names: the key of a name identifies it, and the order of keys is total.
use Rattle.std.proofs.Common.{◌≡◌, ◌∙◌, Some, None, true, false, refl, ap, sym, subst}
use Rattle.std.specs.declared.cmp.Ordering.{Ordering}
use Rattle.std.specs.Ordering.{nat_cmp, ordering_reverse}
use Rattle.std.specs.Option.{option_cmp}
use Rattle.std.specs.Cmp.{IsTotalOrder, nat_cmp_total}
use Rattle.std.specs.Cmp.Lexicographic.{nat_list_cmp_total, slice_cmp, options_total}
use Rattle.std.proofs.lemmas.Cmp.{on_total, then_total}
use Rattle.std.proofs.lemmas.Map.Lookups.{CmpEqualImpliesEq, exact_pairs, exact_bytes, exact_unsigned}
use Rattle.wast_base.specs.Ids.{Name, Written, Generated, is_generated, generation_of}
use Rattle.wast_base.specs.Order.{Key, generation_if, key_of, key_cmp}

pub written_has_none : (n : Name) → is_generated n ≡ false → generation_if n ≡ None
written_has_none (Written t) h = refl
written_has_none (Generated n) h = cc

pub generated_has_one : (n : Name) → is_generated n ≡ true → generation_if n ≡ Some (generation_of n)
generated_has_one (Written t) h = cc
generated_has_one (Generated n) h = refl

-- a comparison of keys is one of the pairs that they equal
pub compared : (a b k l : Key) (o r : Ordering) → a ≡ k → b ≡ l → o ≡ key_cmp a b → o ≡ r → key_cmp k l ≡ r
compared a b k l o r p q h e = subst (λ (x : Key). key_cmp x l ≡ r) p (subst (λ (y : Key). key_cmp a y ≡ r) q (sym h ∙ e))

exact_options : CmpEqualImpliesEq (option_cmp nat_cmp)
exact_options None None e = refl
exact_options None (Some n) e = cc
exact_options (Some m) None e = cc
exact_options (Some m) (Some n) e = ap Some (exact_unsigned m n e)

-- keys that compare as equal are equal
pub exact_keys : CmpEqualImpliesEq key_cmp
exact_keys = exact_pairs (slice_cmp nat_cmp) (option_cmp nat_cmp) exact_bytes exact_options

pub keys_total : IsTotalOrder key_cmp
keys_total = then_total (on_total (λ (k : Key). k.0) nat_list_cmp_total) (on_total (λ (k : Key). k.1) (options_total nat_cmp_total))

pub turned : (x y : Key) (r : Ordering) → key_cmp x y ≡ r → key_cmp y x ≡ ordering_reverse r
turned x y r h = keys_total.antisymm y x ∙ ap ordering_reverse h

-- the name that has this key
abbrev pub name_from : Key → Name
name_from (text, None) = Written text
name_from (text, Some n) = Generated n

pub name_from-key_of : (a : Name) → name_from (key_of a) ≡ a
name_from-key_of (Written a) = refl
name_from-key_of (Generated n) = refl
