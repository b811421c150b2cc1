-- Whether a module is too large to resolve does not depend on the addresses of names and strings.
--
--   (memory (data "ab"))      two bytes of inline data, wherever the text "ab" is
use Rattle.std.proofs.Common.{◌≡◌, ℕ, ◌+◌, ◌^◌, ◌≤◌, ◌||◌, not, length, List, [], ◌∷◌, Option, inl, inr, refl, sym, ap, ◌∙◌, subst}
use Rattle.std.specs.List.{list_any}
use Rattle.std.specs.Prelude.{IsTrue, nat_lt}
use Rattle.wast_base.specs.declared.ids.Span.{Span}
use Rattle.wast_base.specs.Faults.{Cause}
use Rattle.wast_tree_nodes.specs.Items.{items}
use Rattle.wast_expand_inline.specs.Segments.{overflows_kind, has_oversized_data}
use Rattle.wast_resolve_rules.specs.Demands.{first_unmet, item_demands, item_counts, body_counts, HasMany, IsTooLarge}
use Rattle.wast_resolve_rules.specs.Explicit.{explicit_fields, generated_id_count}
use Rattle.wat_syntax.specs.Tree.{MemoryKind, ModuleField}
use Rattle.wat_syntax.specs.Tree.memory
use Rattle.wat_syntax.specs.Tree.field
use Rattle.wat_syntax.specs.BareFields.{bare_memory_kind}
use Rattle.wat_ready.specs.Shown.{shown_field, shown_fields}
use Rattle.wat_meaning.proofs.ShownAnswers.{shown_item_counts, shown_body_counts}
use Rattle.wat_meaning.proofs.ShownDemands.{item_demands_shown}
use Rattle.wat_meaning.proofs.ShownInline.{bytes_shown}
use Rattle.wat_meaning.proofs.ShownResolved.{shown_explicit, shown_count}

-- Inline data of 2^32 bytes or more.
oversized_kind : (k : MemoryKind) → overflows_kind (bare_memory_kind k) ≡ overflows_kind k
oversized_kind (memory.Import source t) = refl
oversized_kind (memory.Normal t) = refl
oversized_kind (memory.Inline is64 pieces page) = ap (λ (bytes : List ℕ). not (nat_lt (length bytes) (2 ^ 32))) (bytes_shown pieces)

oversized_in : (x : ModuleField) → has_oversized_data (shown_field x) ≡ has_oversized_data x
oversized_in (field.Memory m) = oversized_kind m.kind
oversized_in x = refl

oversized : (xs : List ModuleField) → list_any has_oversized_data (shown_fields xs) ≡ list_any has_oversized_data xs
oversized [] = refl
oversized (x ∷ xs) = λ i. oversized_in x i || oversized xs i

-- The first check of items that fails: two items with one id.
abbrev clash : List ModuleField → Option (Cause × Span)
clash xs = first_unmet (item_demands (items (explicit_fields xs)))

clash_shown : (xs : List ModuleField) → clash (shown_fields xs) ≡ clash xs
clash_shown xs =
    ap (λ ys. first_unmet (item_demands (items ys))) (shown_explicit xs) ∙ ap first_unmet (item_demands_shown (explicit_fields xs))

-- Fields of the same sizes are too large both or neither.
module _ (n : ℕ) (xs ys : List ModuleField)
    (counts : item_counts (items (explicit_fields xs)) ≡ item_counts (items (explicit_fields ys)))
    (bodies : body_counts (explicit_fields xs) ≡ body_counts (explicit_fields ys))
    (clashes : clash xs ≡ clash ys) (ids : generated_id_count xs ≡ generated_id_count ys)
    (inline_data : list_any has_oversized_data xs ≡ list_any has_oversized_data ys) where
  large_by : IsTooLarge n xs → IsTooLarge n ys
  large_by (inl (inl h)) = inl (inl (subst HasMany counts h))
  large_by (inl (inr (none, h))) = inl (inr (sym clashes ∙ none, subst HasMany bodies h))
  large_by (inr (inl h)) = inr (inl (subst (λ (k : ℕ). 2 ^ 64 ≤ n + k) ids h))
  large_by (inr (inr h)) = inr (inr (subst IsTrue inline_data h))

pub large_then : (n : ℕ) (xs : List ModuleField) → IsTooLarge n xs → IsTooLarge n (shown_fields xs)
large_then n xs h =
    large_by n xs (shown_fields xs) (sym (shown_item_counts xs)) (sym (shown_body_counts xs)) (sym (clash_shown xs)) (sym (shown_count xs))
    (sym (oversized xs)) h

pub large_before : (n : ℕ) (xs : List ModuleField) → IsTooLarge n (shown_fields xs) → IsTooLarge n xs
large_before n xs h =
    large_by n (shown_fields xs) xs (shown_item_counts xs) (shown_body_counts xs) (clash_shown xs) (shown_count xs) (oversized xs) h
