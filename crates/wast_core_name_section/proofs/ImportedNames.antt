-- The items of an import have what their signatures have.
use Rattle.std.proofs.Common.{◌≡◌, List, map, sym, ap, ◌∙◌}
use Rattle.std.specs.List.{flat_map}
use Rattle.std.proofs.lemmas.List.Folds.{flat_map-map}
use Rattle.wast_core_name_section.specs.Tree.{ItemSig}

-- Each thing in a list has what its signature has.
pub in_sigs : {A B : Type 0} (f : ItemSig → List B) (sig_of : A → ItemSig) (seen things : List A) → seen ≡ things
    → flat_map (λ x. f (sig_of x)) seen ≡ flat_map f (map sig_of things)
in_sigs f sig_of seen things is = ap (flat_map (λ x. f (sig_of x))) is ∙ sym (flat_map-map f sig_of things)
