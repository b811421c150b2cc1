-- A text has one list of names, and one index for a name.
--
-- A contract on a text speaks of the module of the text. A list of names has the ids of the items of that module, and a source id denotes
-- one index in it.
use Rattle.std.proofs.Common.{◌≡◌, ◌⊎◌, inl, inr, map, Option, None, Some, Ok, Err, sym, ap, ◌∙◌}
use Rattle.wast_base.specs.declared.faults.Error.{Error}
use Rattle.wast_base.specs.Faults.{diagnostic_of}
use Rattle.wast_resolve_rules.specs.Demands.{first_unmet, demands, IsTooLarge}
use Rattle.wast_resolve_rules.specs.Explicit.{explicit_fields}
use Rattle.wast_core.specs.Headline.{ResolvesKind}
use Rattle.wast_core.specs.declared.module.ModuleKind.{ModuleKind}
use Rattle.wat_text.specs.Denotes.{module_of as denoted}
use Rattle.wat_text.specs.declared.modules.TextKind.{TextKind}
use Rattle.wat_text.specs.declared.modules.TextKind.TheVariants as held
use Rattle.wat_text.specs.declared.modules.TextModule.{TextModule}
use Rattle.wat_bytes.specs.declared.refusals.Refused.{Refused}
use Rattle.wat_bytes.specs.declared.refusals.Refused.TheVariants as answer
use Rattle.wat_bytes.specs.Names.{ResolvesReady, IsResolvable, IsMetKind, HasNoNames, HasNoList, ListsText, NumbersText, content_of}
use Rattle.wat_bytes.specs.OneText.{SameNumber, SameLookUp, SameList, SameListing, IsOfLimits}
use Rattle.wat_bytes.specs.Texts.{OfModule, RefusesText, kind_of, module_of, OfText}
use Rattle.wat_bytes.proofs.OneText.{Limited, of_limits, refused_memory}

pub same_list : SameList
unfolding OfText
same_list bytes a b x y = go (denoted bytes) x y
  where
    go : (o : Option TextModule) → OfModule ListsText o (Ok a) → OfModule ListsText o (Ok b) → map content_of a.items ≡ map content_of b.items
    go None x y = absurd x
    go (Some m) x y = x.listed ∙ sym y.listed

pub same_number : SameNumber
unfolding OfText
same_number s name bytes m n x y = go (denoted bytes) x y
  where
    go : (o : Option TextModule) → OfModule (NumbersText s name) o (Ok m) → OfModule (NumbersText s name) o (Ok n) → m ≡ n
    go None x y = absurd x
    go (Some t) x y = x.denotes ∙ sym y.denotes

-- The errors of resolving a module that resolves are those of limits.
unresolved_kind : (k : TextKind) (d : Error) (rest : ModuleKind) → IsMetKind (kind_of k) → ResolvesKind 1 (kind_of k) (Err d) rest → Limited (diagnostic_of d)
unresolved_kind (held.Fields xs) d rest met y = of_limits (IsTooLarge 1 xs) (diagnostic_of d) (first_unmet (demands (explicit_fields xs))) met y.0
unresolved_kind (held.Binary ps) d rest met y = absurd y

unresolved : (m : TextModule) (d : Error) → IsResolvable (module_of m) → ResolvesReady (module_of m) (Err d) → Limited (diagnostic_of d)
unresolved m d x y = unresolved_kind m.kind d y.left x.met y.resolves

-- So are those of a look-up and of a list.
no_names : (m : TextModule) (r : Refused) → IsResolvable (module_of m) → HasNoNames (module_of m) r → IsOfLimits r
no_names m (answer.Text d) x y = absurd y
no_names m (answer.Module d) x y = unresolved m d x y
no_names m (answer.Uncovered d) x y = absurd y

no_list : (m : TextModule) (r : Refused) → IsResolvable (module_of m) → HasNoList (module_of m) r → IsOfLimits r
no_list m (answer.Text d) x y = absurd y
no_list m (answer.Module d) x (inl y) = unresolved m d x y
no_list m (answer.Module d) x (inr y) = inl (ap diagnostic_of y.1)
no_list m (answer.Uncovered d) x y = absurd y

pub same_look_up : SameLookUp
unfolding OfText
same_look_up s name bytes found r x y = go (denoted bytes) x y
  where
    go : (o : Option TextModule) → OfModule (NumbersText s name) o (Ok found) → OfModule (NumbersText s name) o (Err r) ⊎ RefusesText o r → IsOfLimits r
    go None x y = absurd x
    go (Some m) x (inl y) = no_names m r x.resolves y
    go (Some m) x (inr y) = refused_memory m r y

pub same_listing : SameListing
unfolding OfText
same_listing bytes all r x y = go (denoted bytes) x y
  where
    go : (o : Option TextModule) → OfModule ListsText o (Ok all) → OfModule ListsText o (Err r) ⊎ RefusesText o r → IsOfLimits r
    go None x y = absurd x
    go (Some m) x (inl y) = no_list m r x.resolves y
    go (Some m) x (inr y) = refused_memory m r y
