-- A struct field access: its type has a number if it is known, and the type with that number is read.
use Rattle.std.proofs.Common.{◌≡◌, ℕ, List, Option, Some, None, Result, Ok, Err, IfErr, option_map, slice_get, is_some, codes, refl, sym, ap, ◌∙◌, subst}
use Rattle.std.specs.Option.{option_copied}
use Rattle.std.specs.Borrow.{Bor}
use Rattle.wast_expand_keys.specs.Signatures.{Signature}
use Rattle.wast_resolve_namespace.specs.Namespaces.{NameSpace, number_in}
use Rattle.wast_base.specs.declared.faults.Error.{Error}
use Rattle.wast_base.specs.Faults.{diagnostic_of}
use Rattle.wast_base.specs.Ids.{mark_of, name_of}
use Rattle.wast_base.specs.Outcomes.{Outcome}
use Rattle.wast_base.specs.Spaces.{word_of}
use Rattle.wast_base.proofs.Outcomes.{error_answers}
use Rattle.wast_tree_nodes.specs.Known.{IdContext}
use Rattle.wast_tree_nodes.specs.Sites.{ItemIndex, in_index}
use Rattle.wast_resolve_names.specs.Tree.{Id, Index, Space}
use Rattle.wast_resolve_names.specs.Tree.index
use Rattle.wast_resolve_names.specs.Tree.space
use Rattle.wast_resolve_rules.specs.Scopes.{Shape, Function, Struct, Other, Scope, denoted, type_at, field_in}
use Rattle.wast_resolve_rules.specs.Resolved.{resolved_index}
use Rattle.wast_resolve_names.specs.LookUps.{AnswersFor}
use Rattle.wast_resolve_names.specs.Resolvers.{shape_by, IsFieldsOf}
use Rattle.wast_resolve_names.specs.Walking.{Walks}
use Rattle.wast_resolve_rules.specs.Demands.{Answers, first_unmet, unknown_demand, known_index, ask_demand, ask_demands, named_field, field_at}

pub owner_met : (c : Scope) (owner : Index) {n : ℕ} → denoted (c.known.number space.Ty) owner ≡ Some n
    → first_unmet (ask_demand c.known (ItemIndex space.Ty owner)) ≡ None
owner_met c (index.Num m p) is = refl
owner_met c (index.Id id) is = ap (λ o. first_unmet (unknown_demand (word_of space.Ty) (mark_of id) (is_some o))) is

-- the ids of the fields of a type without a signature
pub fields_seen : (s : Option Signature) (f : Option NameSpace) (r : Option (Bor NameSpace)) → s ≡ None → option_copied r ≡ f
    → IsFieldsOf (Some (shape_by s f)) (option_map (λ n. n.now) r)
fields_seen (Some s) f r none is = absurd (cc none)
fields_seen None None None none is = refl
fields_seen None None (Some n) none is = absurd (cc is)
fields_seen None (Some ns) None none is = absurd (cc is)
fields_seen None (Some ns) (Some n) none is = ap (λ m. Some (number_in m)) (some_is n.now ns is)
  where
    some_is : (a b : NameSpace) → Some a ≡ Some b → a ≡ b
    some_is a b h = cc h

-- the look-up of an id among the fields of a struct
named_walked : (o : Option Shape) (n : ℕ) (id : Id) (names : NameSpace) (new : Index) (r : Result (Unit {0}) Error) → IsFieldsOf o (Some names)
    → Outcome ⊥ ⊥ (first_unmet (known_index (number_in names) (codes "field") (index.Id id))) r → new ≡ resolved_index (number_in names) (index.Id id)
    → Walks ⊥ ⊥ (named_field n o (mark_of id)) (resolved_index (field_in o) (index.Id id)) new r
named_walked None n id names new r h told is = absurd (cc h)
named_walked (Some (Function s)) n id names new r h told is = absurd (cc h)
named_walked (Some Other) n id names new r h told is = absurd (cc h)
named_walked (Some (Struct number)) n id names new (Ok x) h met is =
    let same : number_in names ≡ number = cc h in (
      ap (λ f. first_unmet (unknown_demand (codes "field") (mark_of id) (is_some (f (name_of id))))) (sym same) ∙ met,
      is
          ∙ ap (λ f. resolved_index f (index.Id id)) same,
    )
named_walked (Some (Struct number)) n id names new (Err e) h unmet is =
    let same : number_in names ≡ number = cc h in
    subst (λ f. Answers ⊥ ⊥ (diagnostic_of e) (first_unmet (unknown_demand (codes "field") (mark_of id) (is_some (f (name_of id)))))) same unmet

pub field_walked : (types : List Shape) (n : ℕ) (i : Index) (names : NameSpace) (new : Index) (r : Result (Unit {0}) Error)
    → IsFieldsOf (type_at types (Some n)) (Some names)
    → Outcome ⊥ ⊥ (first_unmet (known_index (number_in names) (codes "field") i)) r → new ≡ resolved_index (number_in names) i
    → Walks ⊥ ⊥ (field_at types (Some n) i) (resolved_index (field_in (type_at types (Some n))) i) new r
field_walked types n (index.Num m p) names new (Ok x) h met is = (met, is)
field_walked types n (index.Num m p) names new (Err e) h unmet is = unmet
field_walked types n (index.Id id) names new r h told is = named_walked (slice_get types n) n id names new r h told is

-- the check of an index alone
asked_alone : (k : IdContext) (s : Space) (i : Index) → first_unmet (known_index (k.number s) (word_of s) i) ≡ first_unmet (ask_demands k (in_index s i))
asked_alone k s (index.Num n p) = refl
asked_alone k s (index.Id id) = refl

pub alone_answers : (k : IdContext) (s : Space) (word : List ℕ) (i : Index) (r : Result ℕ Error) → word ≡ word_of s
    → Outcome ⊥ ⊥ (first_unmet (known_index (k.number s) word i)) r → IfErr r (AnswersFor k s i)
alone_answers k s word i r is h =
    subst (λ u. IfErr r (λ e. Answers ⊥ ⊥ (diagnostic_of e) u)) (ap (λ w. first_unmet (known_index (k.number s) w i)) is
    ∙ asked_alone k s i) (error_answers ⊥ ⊥ _ r h)
