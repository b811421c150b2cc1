-- The module of a text, rule by rule as in Denotes: its id and its fields are what the rules of wat_syntax read. So it is well formed, and
-- no id in it is generated (wat_ready).
use Rattle.std.proofs.Common.{◌≡◌, ℕ, Bool, true, false, List, length, Option, None, Some, IsTrue, is_some, refl, subst}
use Rattle.std.specs.Prelude.{⊤}
use Rattle.std.specs.Option.{option_or}
use Rattle.wast_tree_nodes.specs.WellFormed.{is_well_formed}
use Rattle.wast_tree_nodes.specs.Generations.{greatest_generation}
use Rattle.wat_grammar.specs.Parts.{◌>>=◌}
use Rattle.wat_syntax.specs.AtZero.{tokens_at_zero}
use Rattle.wat_syntax.specs.BareFields.{bare_fields}
use Rattle.wat_syntax.specs.ModuleFields.{modulefields}
use Rattle.wat_syntax.specs.Tokens.{Toks, Parse, peek, after, position, key_of}
use Rattle.wat_syntax.specs.Tree.{Span, Id, ModuleField}
use Rattle.wat_syntax.specs.Values.{name_annotation}
use Rattle.wat_text.specs.Denotes.{Contents, Fields, Binary, Quotes, contents_of, module_keyword, opening, module_end, fields_to_end}
use Rattle.wat_text.specs.Denotes.{has_one_start, if_one_start, rest_of_fields, pieces_of, quotes_of, module_position, fields_module}
use Rattle.wat_text.specs.Denotes.{inner_opening, tokens_in_quotes, all_of, module_as, module_in, module_of}
use Rattle.wat_text.specs.declared.modules.TextKind.{TextKind}
use Rattle.wat_text.specs.declared.modules.TextKind.TheVariants as kind
use Rattle.wat_text.specs.declared.modules.TextModule.{TextModule}
use Rattle.wat_ready.proofs.Parses.{Of, the_same, done, bind, skip, read}
use Rattle.wat_ready.proofs.Checks.{IfId}
use Rattle.wat_ready.proofs.Types.{of_optional_id}
use Rattle.wat_ready.proofs.Ready.{well_formed, well_formed_with_addresses, not_generated}

-- What is made has this property, if something is made.
pub record Made {T : Type 0} (P : T → Type 0) (o : Option T) : Type 0 where
  pub at : (x : T) → o ≡ Some x → P x

nothing : {T : Type 0} {P : T → Type 0} → Made P None
nothing = record { at = λ x e. absurd cc }

made : {T : Type 0} {P : T → Type 0} {v : T} → P v → Made P (Some v)
made {P = P} h = record { at = λ x e. subst P (the_same e) h }

any : {S T : Type 0} {P : T → Type 0} (o : Option S) {f : S → Option T} → ((x : S) → Made P (f x)) → Made P (o >>= f)
any None k = nothing
any (Some y) k = k y

and_then : {S T : Type 0} {Q : S → Type 0} {P : T → Type 0} {o : Option S} {f : S → Option T} → Made Q o → ((x : S) → Q x → Made P (f x)) → Made P (o >>= f)
and_then {o = None} h k = nothing
and_then {o = Some y} h k = k y (h.at y refl)

after_rule : {S T : Type 0} {Q : S → Type 0} {P : T → Type 0} {o : Parse S} {f : S × Toks → Option T}
    → Of Q o → ((x : S × Toks) → Q x.0 → Made P (f x)) → Made P (o >>= f)
after_rule {o = None} h k = nothing
after_rule {o = Some y} h k = k y (h.at y refl)

-- fields, what a module contains, and a module; fields that are these at other addresses are well formed too
abbrev pub FieldsOk : List ModuleField → Type 0
FieldsOk fs = IsTrue (is_well_formed fs) × (greatest_generation fs ≡ 0) × ((xs : List ModuleField) → fs ≡ bare_fields xs → IsTrue (is_well_formed xs))

abbrev pub KindOk : TextKind → Type 0
KindOk (kind.Fields fs) = FieldsOk fs
KindOk (kind.Binary ps) = ⊤

abbrev pub ModuleOk : TextModule → Type 0
ModuleOk m = IfId m.id × KindOk m.kind

of_fields : (t : Toks) → Of FieldsOk (modulefields t)
of_fields t = record { at = λ x e. (well_formed t x e, not_generated t x e, λ xs same. well_formed_with_addresses t xs x e same) }

one_start : (fs : List ModuleField) → FieldsOk fs → Made FieldsOk (if_one_start fs)
one_start fs p = by (has_one_start fs)
  where
    by : (b : Bool) → Made FieldsOk (elim b [ true ↦ Some fs | false ↦ None ])
    by true = made p
    by false = nothing

pub of_rest : (w : Bool) (t : Toks) → Made FieldsOk (rest_of_fields w t)
of_rest w t = and_then (of_end w t) one_start
  where
    of_end : (w : Bool) (t : Toks) → Made FieldsOk (fields_to_end w t)
    of_end w t = after_rule (of_fields t) (λ fs p. any (module_end w fs.1) (λ rest. made p))

-- Only wat_text can name the type of what a module begins with. So `at` says that h is of this type, because `module_position` takes it.
of_opening : (t : Toks) → Of (λ h. let at = module_position h in IfId h.id) (opening t)
of_opening t = read (module_keyword t) (λ k. bind (of_optional_id k.1) (λ x p. skip (name_annotation x.1) (λ n. done p))) (done tt)

of_module : (span : Span) (h : _) → (let at = module_position h in IfId h.id) → (t : Toks) → Made ModuleOk (fields_module span h t)
of_module span h i t = and_then (of_rest (is_some h.keyword) t) (λ fs p. made (i, p))

inner_id : (a b : Option Id) → IfId a → IfId b → IfId (option_or a b)
inner_id None b p q = q
inner_id (Some x) b p q = p

of_contents : (source : List ℕ) (c : Contents) (h : _) → (let at = module_position h in IfId h.id) → (t : Toks) → Made ModuleOk (module_as source c h t)
of_contents source Fields h i t = of_module (module_position h) h i t
of_contents source Binary h i t = any (pieces_of t) (λ ps. made (i, tt))
of_contents source Quotes h i t = any (quotes_of t) (λ qs. any (tokens_in_quotes source (position (after t)) qs) (λ found.
    after_rule (of_opening (all_of found (position (after t)))) (λ o p. of_module (module_position h) (inner_opening h o.0) (inner_id h.id o.0.id i p) o.1)))

of_tokens : (source : List ℕ) (t : Toks) → Made ModuleOk (module_in source t)
of_tokens source t = after_rule (of_opening t) (λ o p. of_contents source (contents_of o.0.keyword (key_of (peek 0 o.1))) o.0 p o.1)

pub of_text : (bytes : List ℕ) → Made ModuleOk (module_of bytes)
unfolding module_of
of_text bytes = any (tokens_at_zero bytes) (λ found. of_tokens bytes (all_of found (record { offset = length bytes })))

-- The fields that the code makes are well formed.
pub rest_well : (w : Bool) (t : Toks) (xs : List ModuleField) → rest_of_fields w t ≡ Some (bare_fields xs) → is_well_formed xs ≡ true
rest_well w t xs e = ((of_rest w t).at (bare_fields xs) e).2 xs refl
