-- Whether fields are well formed, and their greatest generation, do not depend on the addresses of ids.
--
--   (export "a" (func ID)), ID generated, without a function ID      rule 6 is broken, wherever ID is
use Rattle.std.specs.Prelude.{max, Bool, not, ◌&&◌, ◌||◌, is_some}
use Rattle.std.specs.List.{list_all}
use Rattle.std.proofs.Common.{◌≡◌, List, [], ◌∷◌, map, refl, sym, ap, ◌∙◌}
use Rattle.wast_base.specs.Ids.{Name, generation_of, is_generated}
use Rattle.wast_tree_nodes.specs.Generations.{max_of, generation_in, greatest_item, greatest_generation}
use Rattle.wast_tree_nodes.specs.Items.{items}
use Rattle.wast_tree_nodes.specs.Known.{IdContext, id_context}
use Rattle.wast_tree_nodes.specs.Sites.{Check, ItemIndex, InnerIndex, checks_of, in_module}
use Rattle.wast_tree_nodes.specs.WellFormed.{is_kept, are_kept, is_well_formed}
use Rattle.wast_tree_map.proofs.Kept.{items_kept}
use Rattle.wast_resolve_laws.specs.Renaming.{renamed_fields}
use Rattle.wast_resolve_laws.proofs.RenamedShapes.{items_are}
use Rattle.wast_core.specs.Tree.{Index, Space, ModuleField}
use Rattle.wast_core.specs.Tree.index
use Rattle.wat_syntax.specs.Bare.{bare_index}
use Rattle.wat_meaning.specs.Erasing.{erasing}
use Rattle.wat_ready.proofs.Addresses.{Ignores, checks_erased}
use Rattle.wat_ready.proofs.Erased.{name_kept}
use Rattle.wat_meaning.proofs.Erased.{is_renaming}

pub items_erased : (xs : List ModuleField) → items (renamed_fields erasing xs) ≡ items xs
items_erased xs = items_are erasing is_renaming xs ∙ items_kept (items xs)

-- The values of a function of checks that does not see the addresses of ids.
checks_same : {A : Type 0} (p : Check → A) → Ignores p → (xs : List ModuleField)
    → map p (checks_of (in_module (renamed_fields erasing xs))) ≡ map p (checks_of (in_module xs))
checks_same p ignores xs = checks_erased p ignores xs

-- The greatest generation.
generation_item : (s : Space) (i : Index) → generation_in (ItemIndex s (bare_index i)) ≡ generation_in (ItemIndex s i)
generation_item s (index.Num n span) = refl
generation_item s (index.Id id) = ap generation_of (name_kept id.name)

generation_inner : (i : Index) → generation_in (InnerIndex (bare_index i)) ≡ generation_in (InnerIndex i)
generation_inner (index.Num n span) = refl
generation_inner (index.Id id) = ap generation_of (name_kept id.name)

generations : Ignores generation_in
generations = record { item = generation_item; inner = generation_inner }

pub generation_erased : (xs : List ModuleField) → greatest_generation (renamed_fields erasing xs) ≡ greatest_generation xs
generation_erased xs = λ i. max (greatest_item (items_erased xs i)) (max_of (checks_same generation_in generations xs i))

-- Whether a check breaks no rule.
kept_item : (k : IdContext) (s : Space) (i : Index) → is_kept k (ItemIndex s (bare_index i)) ≡ is_kept k (ItemIndex s i)
kept_item k s (index.Num n span) = refl
kept_item k s (index.Id id) = ap (λ (n : Name). not (is_generated n) || is_some (k.number s n)) (name_kept id.name)

kept_inner : (k : IdContext) (i : Index) → is_kept k (InnerIndex (bare_index i)) ≡ is_kept k (InnerIndex i)
kept_inner k (index.Num n span) = refl
kept_inner k (index.Id id) = ap (λ (n : Name). not (is_generated n)) (name_kept id.name)

kept : (k : IdContext) → Ignores (is_kept k)
kept k = record { item = kept_item k; inner = kept_inner k }

-- A test of all is a test of its values.
by_values : {X : Type 0} (p : X → Bool) (xs : List X) → list_all p xs ≡ list_all (λ b. b) (map p xs)
by_values p [] = refl
by_values p (x ∷ xs) = λ i. p x && by_values p xs i

pub well_formed_erased : (xs : List ModuleField) → is_well_formed (renamed_fields erasing xs) ≡ is_well_formed xs
well_formed_erased xs =
    let k = id_context (items xs) in
    ap (λ its. are_kept (id_context its) (checks_of (in_module (renamed_fields erasing xs)))) (items_erased xs)
    ∙ (by_values (is_kept k) (checks_of (in_module (renamed_fields erasing xs))) ∙ (ap (list_all (λ b. b)) (checks_same (is_kept k) (kept k) xs)
    ∙ sym (by_values (is_kept k) (checks_of (in_module xs)))))
