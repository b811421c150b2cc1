-- Lemmas: the checks of joined lists of sites.
use Rattle.std.proofs.Common.{◌≡◌, List, [], ◌∷◌, ◌++◌, refl, ap, ◌∙◌}
use Rattle.std.specs.Prelude.{flat_map}
use Rattle.std.proofs.lemmas.Grind.{flat_map-append}
use Rattle.wast_tree_nodes.specs.Sites.{Check, Site, check_sites, asked_in, checks_of}

-- two flat maps are one
pub each_of_each : {A B C : Type 0} (f : A → List B) (g : B → List C) (xs : List A) → flat_map g (flat_map f xs) ≡ flat_map (λ x. flat_map g (f x)) xs
each_of_each f g [] = refl
each_of_each f g (x ∷ xs) = flat_map-append g (f x) (flat_map f xs) ∙ ap (λ zs. flat_map g (f x) ++ zs) (each_of_each f g xs)

pub asked_asking : (asks : List Check) → checks_of (check_sites asks) ≡ asks
asked_asking [] = refl
asked_asking (a ∷ asks) = ap (λ zs. a ∷ zs) (asked_asking asks)

pub asked_both : (xs ys : List Site) → checks_of (xs ++ ys) ≡ checks_of xs ++ checks_of ys
asked_both xs ys = flat_map-append asked_in xs ys
