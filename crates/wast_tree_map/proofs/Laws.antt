-- The theorems of maps over a list of fields.
use Rattle.std.specs.Prelude.{Option}
use Rattle.std.proofs.Common.{◌≡◌, List, [], ◌∷◌, refl, sym, ap, ◌∙◌, map}
use Rattle.wast_tree_map.specs.Tree.{Id, ModuleField}
use Rattle.wast_tree_nodes.specs.Sites.{Site, Asked, ItemIndex, Used, LocalAt, FieldAt, LabelAt, in_module}
use Rattle.wast_tree_map.specs.Mapped.{Change, no_change, compose, mapped_field, mapped_site, KeepsMarks, Joins, AreJoint, Each}
use Rattle.wast_tree_map.specs.Named.{Naming, RenamesIds, named_site, NamedJoins, AreNamedJoint}
use Rattle.wast_tree_map.proofs.Ways.{At, list_at}
use Rattle.wast_tree_map.proofs.Fields.{field_at}
use Rattle.wast_tree_map.proofs.Kept.{stands_at, joins_at}

fields_at : (xs : List ModuleField) → At in_module (λ f xs. map (mapped_field f) xs) xs
fields_at xs = list_at field_at xs

pub each_so : (p : Site → Type 0) → ((s : Site) → p s) → (xs : List Site) → Each p xs
each_so p h [] = tt
each_so p h (x ∷ xs) = (h x, each_so p h xs)

-- The sites of the mapped list are the mapped sites.
pub stands_named : (n : Naming) (f : Change) → RenamesIds n f → (xs : List ModuleField)
    → in_module (map (mapped_field f) xs) ≡ map (named_site n f) (in_module xs)
stands_named n f k xs = (fields_at xs).stands n f k

pub stands : (f : Change) → KeepsMarks f → (xs : List ModuleField) → in_module (map (mapped_field f) xs) ≡ map (mapped_site f) (in_module xs)
stands f k xs = stands_at xs (fields_at xs) f k

-- The map that changes nothing keeps the list.
pub still : (xs : List ModuleField) → map (mapped_field no_change) xs ≡ xs
still xs = (fields_at xs).still

-- Two maps are a third, if they agree with it at each site.
pub joins_named : (n : Naming) (h g f : Change) → AreNamedJoint n h g f → (xs : List ModuleField) → Each (NamedJoins n h g f) (in_module xs)
    → map (mapped_field g) (map (mapped_field h) xs) ≡ map (mapped_field f) xs
joins_named n h g f j xs e = (fields_at xs).joins n h g f j e

pub joins : (h g f : Change) → AreJoint h g f → (xs : List ModuleField) → Each (Joins h g f) (in_module xs)
    → map (mapped_field g) (map (mapped_field h) xs) ≡ map (mapped_field f) xs
joins h g f j xs e = joins_at xs (fields_at xs) h g f j e

joins_then : (h g : Change) (s : Site) → Joins h g (compose h g) s
joins_then h g (Asked (ItemIndex s i)) = refl
joins_then h g (Used w u) = refl
joins_then h g (LocalAt locals i) = refl
joins_then h g (FieldAt owner i) = (refl, refl)
joins_then h g (LabelAt blocks i) = refl
joins_then h g x = tt

-- Two maps one after another are their composition.
pub twice : (h g : Change) → KeepsMarks h → (xs : List ModuleField) → map (mapped_field g) (map (mapped_field h) xs) ≡ map (mapped_field (compose h g)) xs
twice h g k xs = joins h g (compose h g) (record { keeps = k; ids = λ o. refl; owns = λ o. refl }) xs
    (each_so (Joins h g (compose h g)) (joins_then h g) (in_module xs))

-- The change that changes nothing keeps ids.
pub same_keeps : KeepsMarks no_change
same_keeps = record { params = λ u. refl; owns = λ o. refl }

-- Maps that are equal at each site have the same result.
pub alike : (f g : Change) → ((o : Option Id) → f.id o ≡ g.id o) → ((o : Option Id) → f.own o ≡ g.own o) → (xs : List ModuleField)
    → Each (Joins no_change f g) (in_module xs) → map (mapped_field f) xs ≡ map (mapped_field g) xs
alike f g ids owns xs e = sym (ap (map (mapped_field f)) (still xs)) ∙ joins no_change f g (record { keeps = same_keeps; ids = ids; owns = owns }) xs e
