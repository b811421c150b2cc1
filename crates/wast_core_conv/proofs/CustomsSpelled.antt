-- The bytes written for the parts of a custom section are the bytes of their values.
use Rattle.std.proofs.Common.{◌≡◌, ℕ, true, map, List, ◌++◌, Result, refl, ap, ◌∙◌, sym, subst}
use Rattle.std.specs.List.{flat_map, list_all}
use Rattle.wast_tree_nodes.specs.Sites.{check_sites, in_subsection}
use Rattle.wast_core_conv.specs.Encodable.{is_encodable_ask, encodable}
use Rattle.wast_core_conv.specs.Customs.{is_encodable_subsection}
use Rattle.wast_core_conv.specs.Tree.{Dylink0Subsection}
use Rattle.wast_core_conv.proofs.EachPasses.{each_passes}
use Rattle.wast_core_conv.proofs.Standing.{asking_passes}
use Rattle.wasm_ops.specs.declared.sink.Refusal.{Refusal}
use Rattle.wasm_ops.specs.Sinks.{SinkRules, Writes}
use Rattle.wasm_ops.specs.Spelling.{vec, InRangeVec}
use Rattle.wasm_ops.proofs.Sinking.{all_covered, written_as}
use Rattle.wast_core_conv.proofs.Spelled.{vec_mapped, in_range_mapped, in_range_unmapped}

-- If an item needs no checks, a list of such items may be encoded.
pub all_ready : {A : Type 0} (xs : List A) → list_all (λ x. true) xs ≡ true
all_ready xs = all_covered (λ x. true) xs (λ x. refl)

-- A list after other bytes, by what its items become.
pub listed_behind : {S R A B : Type 0} (rules : SinkRules S) (a b : S) (front : List ℕ) (fits : Type 0) (spell : B → List ℕ) (InRange : B
    → Type 0) (f : A → B) (xs ys : List A) (r : Result R Refusal) → xs ≡ ys
    → Writes rules (fits × InRangeVec (λ x. InRange (f x)) xs) a b (front ++ vec (λ x. spell (f x)) xs) r
    → Writes rules (fits × InRangeVec InRange (map f ys)) a b (front ++ vec spell (map f ys)) r
listed_behind rules a b front fits spell InRange f xs ys r e p =
    written_as rules (fits × InRangeVec (λ x. InRange (f x)) xs) (fits × InRangeVec InRange (map f ys)) a b (front ++ vec (λ x. spell (f x)) xs)
    (front ++ vec spell (map f ys)) r
    (λ h. (h.0, in_range_mapped InRange f ys (subst (InRangeVec (λ x. InRange (f x))) e h.1)))
    (λ h. (h.0, subst (InRangeVec (λ x. InRange (f x))) (sym e) (in_range_unmapped InRange f ys h.1)))
    (ap (λ zs. front ++ vec (λ x. spell (f x)) zs) e ∙ ap (λ (bs : List ℕ). front ++ bs) (vec_mapped spell f ys)) p

-- The subsections of a section that may be encoded.
pub subsections_ready : (ss : List Dylink0Subsection) → encodable (check_sites (flat_map in_subsection ss)) ≡ true → list_all is_encodable_subsection ss ≡ true
subsections_ready ss e = sym (each_passes is_encodable_ask in_subsection ss) ∙ (sym (asking_passes (flat_map in_subsection ss)) ∙ e)
