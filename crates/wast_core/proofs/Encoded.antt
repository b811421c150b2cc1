-- Encoding after resolving.
use Rattle.std.proofs.Common.{◌≡◌, ◌<◌, ℕ, true, List, Result, Ok, Err, Option, None, Some, subst, inl, inr}
use Rattle.std.specs.Prelude.{IfOk}
use Rattle.std.specs.Borrow.{Bor}
use Rattle.std.specs.Global.{Vec}
use Rattle.wast_base.specs.declared.faults.Error.{Error}
use Rattle.wast_base.specs.declared.faults.Form.{Form}
use Rattle.wast_tree_nodes.specs.Generations.{greatest_generation}
use Rattle.wast_tree_nodes.specs.WellFormed.{is_well_formed}
use Rattle.wast_resolve_rules.specs.Explicit.{by_positions}
use Rattle.wast_resolve_rules.specs.Finished.{resolved_fields_from}
use Rattle.wast_resolve_rules.specs.Resolved.{resolved_fields}
use Rattle.wast_resolve_names.specs.Resolvers.{KnownNames}
use Rattle.wast_resolve_laws.specs.Laws.{FinishedStaysWellFormed, FinishedIsResolved, FinishedIsWrittenOut, SamePositions}
use Rattle.wasm_out.specs.Parts.{Part}
use Rattle.wasm_out.specs.Reads.{Reads}
use Rattle.wast_core_conv.specs.Encodable.{is_at_rest}
use Rattle.wast_core_conv.proofs.Ready.{fields_at_rest}
use Rattle.wast_core.specs.Tree.{ModuleField}
use Rattle.wast_core.specs.declared.module.ModuleKind.{ModuleKind}
use Rattle.wast_core.specs.declared.module.ModuleKind.TheVariants as kind
use Rattle.wast_core_sections.specs.Writable.{IsWritable}
use Rattle.wast_core.specs.Bounded.{IsBounded}
use Rattle.wast_core_sections.specs.Encoding.{IsUnwritten}
use Rattle.wast_core_sections.specs.StandardOrder.{StandardOrder, PartsAreOrdered}
use Rattle.wast_core.specs.Headline.{IsMet, ResolvesKind, EncodesKind}
use Rattle.wast_core.specs.Modules.{bound_of_kind}
use Rattle.wast_core_sections.specs.Uncovered.{head_of, uncovered_forms}
use Rattle.wast_core.specs.Meaning.{meaning}
use Rattle.wast_core.specs.Writing.{EncodesResolved, WritesInOrder}
use Rattle.wast_core.proofs.ByPosition.{means_what_is_written, written_where_meant}

-- Well-formed fields whose checks pass are already resolved after resolving.
pub at_rest : FinishedStaysWellFormed → FinishedIsResolved → FinishedIsWrittenOut → (n : ℕ) (fields : List ModuleField)
    → greatest_generation fields < n → is_well_formed fields ≡ true → IsMet fields → is_at_rest (resolved_fields_from n fields) ≡ true
at_rest stays resolved written n fields above h met =
    fields_at_rest (resolved_fields_from n fields) (stays n fields above h met) (resolved n fields above met) (written n fields)

-- Encoding a resolved module returns what encoding the module before it was resolved returns.
unwritten : SamePositions → (form : Option Form) (n : ℕ) (name : Option (List ℕ)) (fields : List ModuleField) (e : Error)
    → greatest_generation fields < n → IsMet fields → IsUnwritten form (IsWritable name (resolved_fields_from n fields)) e
    → IsUnwritten form (IsBounded n name fields) e
unwritten positions (Some form) n name fields e above met h = h
unwritten positions None n name fields e above met h =
    elim h [ inl memory ↦ inl memory | inr large ↦ inr (large.0, λ b. large.1 (written_where_meant positions n name fields above met b.writable)) ]

pub encodes : SamePositions → (n : ℕ) (name : Option (List ℕ)) (old new : ModuleKind) (names : KnownNames) (result : Result (Vec ℕ) Error)
    → bound_of_kind old < n → ResolvesKind n old (Ok names) new → EncodesResolved name new result → EncodesKind n name old result new
encodes positions n name (kind.Text fs) new names result above r h = text fs new result above r (subst (λ k. EncodesResolved name k result) r.1 h)
  where
    text : (fs : List ModuleField) (new : ModuleKind) (result : Result (Vec ℕ) Error) → greatest_generation fs < n
        → ResolvesKind n (kind.Text fs) (Ok names) new → EncodesResolved name (kind.Text (resolved_fields_from n fs)) result
        → EncodesKind n name (kind.Text fs) result new
    text fs new (Ok bytes) above r h = (r.0, h.0, subst (Reads bytes.items) (means_what_is_written positions n name fs above r.0) h.1, r.1)
    text fs new (Err e) above r h = inr (r.0, unwritten positions (head_of (uncovered_forms (resolved_fields_from n fs))) n name fs e above r.0 h, r.1)
encodes positions n name (kind.Binary pieces) new names result above r h = binary pieces new result r.1 (subst (λ k. EncodesResolved name k result) r.1 h)
  where
    binary : (pieces : List (Bor (List ℕ))) (new : ModuleKind) (result : Result (Vec ℕ) Error) → new ≡ kind.Binary pieces
        → EncodesResolved name (kind.Binary pieces) result → EncodesKind n name (kind.Binary pieces) result new
    binary pieces new (Ok bytes) r h = (h, r)
    binary pieces new (Err e) r h = (h, r)
encodes positions n name (kind.Refused d) new names result above r h = absurd r

-- The sections are in order, because the bytes are read as the meaning alone.
pub in_order : PartsAreOrdered → ((bytes : List ℕ) (p q : List Part) → Reads bytes p → Reads bytes q → p ≡ q)
    → (n : ℕ) (name : Option (List ℕ)) (old new : ModuleKind) (result : Result (Vec ℕ) Error) → EncodesKind n name old result new
    → IfOk result (λ bytes. WritesInOrder old bytes.items)
in_order ordered one n name (kind.Text fs) new (Ok bytes) h = λ ps reads. subst StandardOrder (one bytes.items (meaning name fs) ps h.2 reads)
    (ordered name (resolved_fields (by_positions fs)))
in_order ordered one n name (kind.Text fs) new (Err e) h = tt
in_order ordered one n name (kind.Binary pieces) new (Ok bytes) h = tt
in_order ordered one n name (kind.Binary pieces) new (Err e) h = tt
in_order ordered one n name (kind.Refused d) new (Ok bytes) h = tt
in_order ordered one n name (kind.Refused d) new (Err e) h = tt
