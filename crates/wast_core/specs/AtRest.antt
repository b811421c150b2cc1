-- Resolving and encoding a module a second time, and with added start fields: nothing changes (binary format, modules:
-- start section).
--
-- A module that resolving has left is already resolved. So another call finds nothing to replace. A start field at the
-- end means the same as one that was there before the first call.
--
--   (func $f)  resolved, and then (start 0) added     means what (func $f) (start $f) means
use Rattle.std.specs.Prelude.{◌≡◌, ℕ, ◌<◌, ◌^◌, is_some, List, ◌++◌, map, Option, Result, Ok, Err, ◌⊎◌, IsTrue}
use Rattle.std.specs.List.{list_all}
use Rattle.std.specs.Global.{Vec}
use Rattle.wast_base.specs.declared.faults.Error.{Error}
use Rattle.wast_base.specs.declared.ids.Span.{Span}
use Rattle.wast_base.specs.Faults.{out_of_memory, too_large}
use Rattle.wast_tree_nodes.specs.Generations.{greatest_generation}
use Rattle.wast_resolve_rules.specs.Demands.{IsTooLarge, IsUnresolved}
use Rattle.wast_resolve_rules.specs.Finished.{resolved_fields_from}
use Rattle.wast_resolve_rules.specs.Resolved.{numbered_at}
use Rattle.wast_resolve_rules.specs.Scopes.{denoted}
use Rattle.wast_resolve_names.specs.Resolvers.{KnownNames, known_to}
use Rattle.wast_resolve_laws.specs.Rests.{start_fields_of, numbers, with_start_fields, final_names}
use Rattle.wast_core.specs.Tree.{Index, ModuleField}
use Rattle.wast_core.specs.Tree.space
use Rattle.wast_core.specs.declared.module.ModuleKind.{ModuleKind}
use Rattle.wast_core.specs.declared.module.ModuleKind.TheVariants as kind
use Rattle.wast_core.specs.Bounded.{IsBounded}
use Rattle.wast_core.specs.Headline.{IsMet, Resolves, EncodesKind}
use Rattle.wast_core.specs.Meaning.{meaning}
use Rattle.wast_core.specs.Modules.{bound_of_kind}

-- Start fields of functions that the names know add no failing demand. Their numbers, added to the resolved fields,
-- mean the same as the ids added before.
abbrev pub StartsLast : Type 0
StartsLast = (n : ℕ) (name : Option (List ℕ)) (fields : List ModuleField) (is : List Index) → greatest_generation (fields ++ start_fields_of is) < n → IsMet fields
    → IsTrue (list_all (λ i. is_some (denoted ((final_names n fields).number space.Func) i)) is)
    → IsMet (fields ++ start_fields_of is) × (meaning name (resolved_fields_from n fields ++ start_fields_of (map (numbered_at (final_names n fields) space.Func) is)) ≡ meaning name (fields ++ start_fields_of is))

-- So do start fields of numbers, whatever they refer to.
abbrev pub NumbersLast : Type 0
NumbersLast = (n : ℕ) (name : Option (List ℕ)) (fields : List ModuleField) (ks : List (ℕ × Span)) → greatest_generation fields < n → IsMet fields
    → IsMet (fields ++ start_fields_of (numbers ks)) × (meaning name (with_start_fields n fields ks) ≡ meaning name (fields ++ start_fields_of (numbers ks)))

-- The error is E12, or E10 if something is too large. So the source has no error.
abbrev pub IsWithheld : Type 0 → Error → Type 0
IsWithheld many e = (e ≡ out_of_memory) ⊎ ((e ≡ too_large) × many)

-- Resolving a second time returns no error of the source.
abbrev pub RestsWithheld : Type 0
RestsWithheld = (m n : ℕ) (fields : List ModuleField) (ks : List (ℕ × Span)) (e : Error) → greatest_generation fields < n → IsMet fields
    → IsUnresolved m (with_start_fields n fields ks) e → IsWithheld (IsTooLarge m (with_start_fields n fields ks)) e

-- The fields are too large to be resolved from this counter.
abbrev pub IsTooLargeKind : ℕ → ModuleKind → Type 0
IsTooLargeKind n (kind.Text fields) = IsTooLarge n fields
IsTooLargeKind n (kind.Binary pieces) = ⊥
IsTooLargeKind n (kind.Refused e) = ⊥

-- The fields are too large to be encoded.
abbrev pub IsUnbounded : ℕ → Option (List ℕ) → ModuleKind → Type 0
IsUnbounded n name (kind.Text fields) = IsBounded n name fields → ⊥
IsUnbounded n name (kind.Binary pieces) = ⊥
IsUnbounded n name (kind.Refused e) = ⊥

-- The result of resolving a second time, after a call that returned these names and left this. The names know the same,
-- and neither the fields nor the counter change.
abbrev pub ResolvesAgain : KnownNames → ModuleKind → ℕ → Result KnownNames Error → ModuleKind → ℕ → Type 0
ResolvesAgain names first before (Ok again) second after = (known_to again ≡ known_to names) × (second ≡ first) × (after ≡ before)
ResolvesAgain names first before (Err e) second after = IsWithheld (IsTooLargeKind before first) e × (second ≡ kind.Refused e)

-- Resolving a second time succeeds and changes no field, unless allocation fails or something is too large.
abbrev pub SecondResolve : Type 0
SecondResolve = (old first second : ModuleKind) (n m after last : ℕ) (names : KnownNames) (result : Result KnownNames Error) → bound_of_kind old < n
    → Resolves old n (Ok names) first after → Resolves first m result second last → ResolvesAgain names first m result second last

-- The result of encoding a second time, after a call that returned these bytes and left this: the same bytes.
abbrev pub EncodesAgain : List ℕ → Option (List ℕ) → ModuleKind → ℕ → Result (Vec ℕ) Error → ModuleKind → Type 0
EncodesAgain bytes name first before (Ok again) second = (again.items ≡ bytes) × (second ≡ first)
EncodesAgain bytes name first before (Err e) second = IsWithheld (IsUnbounded before name first) e

-- Encoding a second time returns the same bytes, unless allocation fails or the module is too large.
abbrev pub SecondEncoding : Type 0
SecondEncoding = (old first second : ModuleKind) (n m : ℕ) (name : Option (List ℕ)) (bytes : Vec ℕ) (result : Result (Vec ℕ) Error) → bound_of_kind old < n
    → EncodesKind n name old (Ok bytes) first → EncodesKind m name first result second → EncodesAgain bytes.items name first m result second

-- Resolved fields are bounded if the fields were, from any counter below 2^64. So if `IsBounded` holds of the source, a
-- second call does not return E10.
abbrev pub RestsBounded : Type 0
RestsBounded = (m n : ℕ) (name : Option (List ℕ)) (fields : List ModuleField) → greatest_generation fields < n → IsMet fields
    → m < 2 ^ 64 → IsBounded n name fields → IsBounded m name (resolved_fields_from n fields)
