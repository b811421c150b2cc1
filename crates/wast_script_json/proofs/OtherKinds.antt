-- Kinds of commands that have no case of their own.
use Rattle.std.proofs.Common.{◌≡◌, ℕ, Bool, false, List, [], Option, refl}
use Rattle.std.specs.Borrow.{Bor}
use Rattle.wast_base.specs.declared.ids.Id.{Id}
use Rattle.wast_base.specs.declared.ids.Span.{Span}
use Rattle.wast_script.specs.declared.commands.CommandKind.{CommandKind}
use Rattle.wast_script.specs.declared.commands.CommandKind.TheVariants as kind
use Rattle.wast_script_json.specs.Commands.{of_other, other_place, other_skipped}
use Rattle.wast_script_json.specs.References.{State}

pub none_skipped : (s : State) (k : CommandKind) → ((i o : Option Id) → k ≡ kind.Instance i o → ⊥)
    → ((t : Bor (List ℕ)) (o : Option Id) → k ≡ kind.Register t o → ⊥)
    → false ≡ other_skipped s k
none_skipped s (kind.Instance i o) f g = absurd (f i o refl)
none_skipped s (kind.Register t o) f g = absurd (g t o refl)
none_skipped s k f g = refl

pub own_place : (k : CommandKind) (span : Span) → ((t : Bor (List ℕ)) (o : Option Id) → k ≡ kind.Register t o → ⊥) → span ≡ other_place k span
own_place (kind.Register t o) span f = absurd (f t o refl)
own_place k span f = refl

pub none_written : (k : CommandKind) (line : ℕ) (b : Bool) → ((i o : Option Id) → k ≡ kind.Instance i o → ⊥)
    → ((t : Bor (List ℕ)) (o : Option Id) → k ≡ kind.Register t o → ⊥)
    → ((i : Id) (o : Option Id) → k ≡ kind.Thread i o → ⊥) → (k ≡ kind.ThreadEnd → ⊥) → ((i : Id) → k ≡ kind.Wait i → ⊥) → [] ≡ of_other k line b
none_written (kind.Instance i o) line b f g h j m = absurd (f i o refl)
none_written (kind.Register t o) line b f g h j m = absurd (g t o refl)
none_written (kind.Thread i o) line b f g h j m = absurd (h i o refl)
none_written kind.ThreadEnd line b f g h j m = absurd (j refl)
none_written (kind.Wait i) line b f g h j m = absurd (m i refl)
none_written k line b f g h j m = refl
