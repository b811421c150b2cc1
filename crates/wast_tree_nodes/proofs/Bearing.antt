-- Lemmas: whether an item of a list has a name.
use Rattle.std.proofs.Common.{◌≡◌, Bool, true, false, ◌||◌, ◌&&◌, ◌+◌, List, [], ◌∷◌, ◌++◌, Option, refl, ap, ◌∙◌}
use Rattle.std.specs.Prelude.{is_some, if◌then◌else◌}
use Rattle.std.specs.List.{list_any}
use Rattle.std.proofs.lemmas.Grind.{flat_map-append}
use Rattle.std.proofs.lemmas.Iterator.Adapters.{position_from-zero}
use Rattle.wast_tree_nodes.specs.Tree.{Space}
use Rattle.wast_base.specs.Ids.{Name}
use Rattle.wast_base.specs.Spaces.{same_space, name_if, is_called, is_borne}
use Rattle.wast_base.proofs.ListTests.{found_from}
use Rattle.wast_tree_nodes.specs.Items.{Item}
use Rattle.wast_tree_nodes.specs.Known.{name_in, names_in}

any-append : {A : Type 0} (p : A → Bool) (a b : List A) → list_any p (a ++ b) ≡ list_any p a || list_any p b
any-append p [] b = refl
any-append p (n ∷ ns) b = ap (λ c. p n || c) (any-append p ns b) ∙ or_assoc (p n) (list_any p ns) (list_any p b)
  where
    or_assoc : (x y z : Bool) → x || (y || z) ≡ (x || y) || z
    or_assoc true y z = refl
    or_assoc false y z = refl

pub borne_any : (name : Name) (ns : List (Option Name)) → is_borne name ns ≡ list_any (is_called name) ns
borne_any name ns = ap is_some (position_from-zero (is_called name) ns) ∙ found_from (is_called name) 0 ns

-- an item of joined lists has the name if one of either list does
pub borne_by_both : (s : Space) (name : Name) (a b : List Item) → is_borne name (names_in s (a ++ b)) ≡ is_borne name (names_in s a) || is_borne name
    (names_in s b)
borne_by_both s name a b =
    ap (is_borne name) (flat_map-append (name_in s) a b)
    ∙ rw (borne_any name (names_in s a ++ names_in s b), borne_any name (names_in s a), borne_any name (names_in s b))
    (any-append (is_called name) (names_in s a) (names_in s b))

borne_one : (name : Name) (n : Option Name) (c : Bool) → is_called name n ≡ c → is_borne name (n ∷ []) ≡ is_called name n
borne_one name n true h = rw h refl
borne_one name n false h = rw h refl

borne_if : (name : Name) (b : Bool) (n : Option Name) → is_borne name ((if b then n ∷ [] else []) ++ []) ≡ b && is_called name n
borne_if name false n = refl
borne_if name true n = borne_one name n (is_called name n) refl

-- whether an item has the name, as a test of each item
pub borne_among : (s : Space) (name : Name) (xs : List Item)
    → is_borne name (names_in s xs) ≡ list_any (λ x. same_space s x.space && is_called name (name_if x.id)) xs
borne_among s name [] = refl
borne_among s name (x ∷ xs) =
    borne_by_both s name (x ∷ []) xs
    ∙ (ap (λ b. b || is_borne name (names_in s xs)) (borne_if name (same_space s x.space) (name_if x.id))
    ∙ ap (λ b. (same_space s x.space && is_called name (name_if x.id)) || b) (borne_among s name xs))
