-- Numbering indices and removing generated ids makes the expansions by ids and by positions equal.
use Rattle.std.proofs.Common.{◌≡◌, ℕ, List, [], Some, None, refl, ap}
use Rattle.wast_base.specs.Blocks.{Blocks}
use Rattle.wast_base.specs.Ids.{gensym_id}
use Rattle.wast_tree_nodes.specs.Known.{IdContext}
use Rattle.wast_tree_nodes.specs.Sites.{Where, Locals}
use Rattle.wast_tree_map.specs.Mapped.{Change, mapped_field, mapped_constant, mapped_payload}
use Rattle.wast_tree_map.specs.Laws.{all_mapped}
use Rattle.wast_expand_inline.specs.Segments.{at_zero}
use Rattle.wast_expand_inline.specs.Written.{desugared_from, desugared_by_position}
use Rattle.wast_expand_keys.specs.Completed.{fields_with_implied_types}
use Rattle.wast_resolve_laws.specs.Tree.{Span, Index, FunctionType, TypeUse, ModuleField}
use Rattle.wast_resolve_laws.specs.Tree.elem
use Rattle.wast_resolve_laws.specs.Tree.data_kind
use Rattle.wast_resolve_laws.specs.Tree.field
use Rattle.wast_resolve_rules.specs.Resolved.{numbered_at}
use Rattle.wast_resolve_rules.specs.Stripped.{written_id}
use Rattle.wast_resolve_laws.proofs.WrittenSame.{called, IsBlind, AllOwn}
use Rattle.wast_resolve_laws.proofs.WrittenLooks.{completed_alike}
use Rattle.wast_resolve_laws.proofs.WrittenOwn.{Numbers}

module _ (k : IdContext) (used : Where → TypeUse FunctionType → TypeUse FunctionType) (local : Locals → Index → Index) (member : Index → Index
    → Index) (label : Blocks → Index → Index) where
  abbrev pub telling_numbers : Change
  telling_numbers = record { index = numbered_at k; used = used; local = local; field = member; label = label; id = written_id; own = λ o. o }

  told_blind : (n : ℕ) → IsBlind (Numbers k) n (mapped_field telling_numbers)
  told_blind n = record {
    exported = λ span e i j name same. ap (λ (x : Index). field.Export (record { span = span; name = name; kind = e; item = x })) same;
    of_elem = λ span i j is64 p same.
        let offset = mapped_constant telling_numbers (at_zero is64) in
        let elements = mapped_payload telling_numbers p in
        ap (λ (x : Index). field.Elem (record { span = span; id = None; name = None; kind = elem.Active (Some x) offset; payload = elements })) same;
    of_data = λ span i j is64 pieces same.
        let offset = mapped_constant telling_numbers (at_zero is64) in
        ap (λ (x : Index). field.Data (record { span = span; id = None; name = None; kind = data_kind.Active x offset; bytes = pieces })) same;
    given = λ m span le. record { of_import = λ at name source k. refl; of_field = by_field m span };
  }
    where
      by_field : (m : ℕ) (span : Span) (x : ModuleField)
          → mapped_field telling_numbers (called (Some (gensym_id m span)) x) ≡ mapped_field telling_numbers (called None x)
      by_field m span (field.Func f) = refl
      by_field m span x = refl

  pub told_alike : (n : ℕ) (fields : List ModuleField) → AllOwn (Numbers k) n [] fields
      → all_mapped telling_numbers (fields_with_implied_types (desugared_from n fields)) ≡ all_mapped telling_numbers
      (fields_with_implied_types (desugared_by_position fields))
  told_alike n fields own = completed_alike n fields (Numbers k) (told_blind n) own
