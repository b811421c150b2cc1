-- A contract on a parsed module holds for its bare module too, which has each text at address 0. So the result for a parsed module is
-- that for the module of the text.
use Rattle.std.specs.Prelude.{⊤}
use Rattle.std.specs.Borrow.{Bor}
use Rattle.std.specs.Global.{Vec}
use Rattle.std.proofs.Common.{◌≡◌, inl, inr, ℕ, max, ◌<◌, List, [], ◌∷◌, ◌++◌, map, Option, None}
use Rattle.std.proofs.Common.{Some, Result, Ok, Err, IsTrue, refl, sym, ap, subst, ◌∙◌, arith}
use Rattle.wast_base.specs.declared.faults.Error.{Error}
use Rattle.wast_base.specs.declared.faults.Fault.TheVariants as fault
use Rattle.wast_base.specs.declared.faults.Form.{Form}
use Rattle.wast_base.specs.declared.ids.Name as code
use Rattle.wast_base.specs.declared.ids.Name.TheVariants as id_name
use Rattle.wast_base.specs.declared.ids.Span.{Span}
use Rattle.wast_base.specs.declared.spaces.Space.{Space}
use Rattle.wast_base.specs.Faults.{Cause, Diagnostic, At, Nowhere, Memory, TooLarge, diagnostic_of, error_without_place}
use Rattle.wast_base.specs.FirstUnmet.{Answers}
use Rattle.wast_base.specs.Ids.{named_by, mark_of_option, generation_of}
use Rattle.wast_tree_nodes.specs.Generations.{generation_or_zero}
use Rattle.wasm_out.specs.Reads.{Reads}
use Rattle.wast_resolve_rules.specs.Demands.{first_unmet, demands, IsTooLarge}
use Rattle.wast_resolve_rules.specs.Explicit.{explicit_fields}
use Rattle.wast_resolve_rules.specs.Finished.{resolved_fields_from}
use Rattle.wast_core_name_section.specs.GivenNames.{written_text, given_name}
use Rattle.wast_core_sections.specs.Uncovered.{head_of, uncovered_forms}
use Rattle.wast_core_sections.specs.Encoding.{IsUnwritten}
use Rattle.wast_core.specs.Tree.{Id, NameAnnotation}
use Rattle.wast_core.specs.Bounded.{IsBounded}
use Rattle.wast_core.specs.Headline.{ResolvesKind, EncodesKind, joined_pieces, name_of_module}
use Rattle.wast_core.specs.Modules.{IsReady, is_well_formed_kind, bound_of_kind}
use Rattle.wast_core.specs.declared.module.ModuleKind.{ModuleKind}
use Rattle.wast_core.specs.declared.module.ModuleKind.TheVariants as kind
use Rattle.wat_tokens.specs.declared.faults.TextError.{TextError}
use Rattle.wat_syntax.specs.Bare.{bare_text, bare_name_option, bare_id_name, bare_id_option}
use Rattle.wat_syntax.specs.BareFields.{bare_fields}
use Rattle.wat_text.specs.Denotes.{module_of as denoted, bare_kind, bare_module, Denotes}
use Rattle.wat_text.specs.declared.modules.TextKind.{TextKind}
use Rattle.wat_text.specs.declared.modules.TextKind.TheVariants as held
use Rattle.wat_text.specs.declared.modules.TextModule.{TextModule}
use Rattle.wat_bytes.specs.BareLaws.{Laws}
use Rattle.wat_bytes.specs.declared.names.Denoted.{Denoted}
use Rattle.wat_bytes.specs.declared.refusals.Refused.{Refused}
use Rattle.wat_bytes.specs.declared.refusals.Refused.TheVariants as answer
use Rattle.wat_bytes.specs.Names.{ResolvesReady, IsResolvable, IsMetKind, HasNoNames, ListsText, NumbersText, number_in, entries_of}
use Rattle.wat_bytes.specs.Texts.{EncodesText, EncodesReady, IsRead, OfModule, OfText, kind_of, module_of}
use Rattle.wat_bytes.proofs.BareItems.{items_bare}

-- The name of a module is the same bytes.
word_bare : (n : code.Name) → written_text (named_by (bare_id_name n)) ≡ written_text (named_by n)
word_bare (id_name.Written text) = refl
word_bare (id_name.Generated n) = refl

given_bare : (n : Option NameAnnotation) (o : Option Id) → given_name (bare_name_option n) (bare_id_option o) ≡ given_name n o
given_bare (Some a) o = refl
given_bare None None = refl
given_bare None (Some id) = word_bare id.name

name_bare : (t : TextModule) → name_of_module (module_of (bare_module t)) ≡ name_of_module (module_of t)
name_bare t = given_bare t.name t.id

-- The bytes of pieces do not depend on their addresses.
pieces_bare : (ps : List (Bor (List ℕ))) → joined_pieces (map bare_text ps) ≡ joined_pieces ps
pieces_bare [] = refl
pieces_bare (p ∷ ps) = ap (λ bs. p.now ++ bs) (pieces_bare ps)

-- The greatest generation of an id.
mark_bare : (n : code.Name) → generation_of (named_by (bare_id_name n)) ≡ generation_of (named_by n)
mark_bare (id_name.Written text) = refl
mark_bare (id_name.Generated n) = refl

id_bare : (o : Option Id) → generation_or_zero (mark_of_option (bare_id_option o)) ≡ generation_or_zero (mark_of_option o)
id_bare None = refl
id_bare (Some id) = mark_bare id.name

-- the greatest generation of the fields is below that of the module
below : (a b : ℕ) → max a b < 1 → b < 1
below a b is = omega (arith, is)

-- An error of a first failed check.
answers_map : (b c : Type 0) (d : Diagnostic) (o p : Option (Cause × Span)) → (b → c) → p ≡ o → Answers ⊤ b d o → Answers ⊤ c d p
answers_map b c (At cause place) o p to same x = same ∙ x
answers_map b c (Nowhere Memory) o p to same x = x
answers_map b c (Nowhere TooLarge) o p to same x = to x
answers_map b c (Nowhere cause) o p to same x = absurd x

-- An error of a first unsupported construct.
unwritten_map : (o : Option Form) (b c : Type 0) (e : Error) → (c → b) → IsUnwritten o b e → IsUnwritten o c e
unwritten_map (Some form) b c e to x = x
unwritten_map None b c e to (inl x) = inl x
unwritten_map None b c e to (inr x) = inr (x.0, λ y. x.1 (to y))

-- A result of encoding, with what it leaves.
record Encodes (name : Option (List ℕ)) (k : ModuleKind) (r : Result (Vec ℕ) Error) : Type 0 where
  left : ModuleKind
  encodes : EncodesKind 1 name k r left

module _ (laws : Laws) where
  -- Both may be resolved, or neither.
  kind_bare : (k : TextKind) → is_well_formed_kind (kind_of (bare_kind k)) ≡ is_well_formed_kind (kind_of k)
  kind_bare (held.Fields xs) = laws.rules xs
  kind_bare (held.Binary ps) = refl

  bound_bare : (k : TextKind) → bound_of_kind (kind_of (bare_kind k)) ≡ bound_of_kind (kind_of k)
  bound_bare (held.Fields xs) = laws.generation xs
  bound_bare (held.Binary ps) = refl

  bounds_bare : (t : TextModule) → max (generation_or_zero (mark_of_option (bare_id_option t.id))) (bound_of_kind (kind_of (bare_kind t.kind)))
      ≡ max (generation_or_zero (mark_of_option t.id)) (bound_of_kind (kind_of t.kind))
  bounds_bare t = λ i. max (id_bare t.id i) (bound_bare t.kind i)

  ready_bare : (t : TextModule) → IsReady (module_of t) 1 → IsReady (module_of (bare_module t)) 1
  ready_bare t ready = record {
    well_formed = subst IsTrue (sym (kind_bare t.kind)) ready.well_formed;
    above = subst (λ n. n < 1) (sym (bounds_bare t)) ready.above;
  }

  pub ready_back : (t : TextModule) → IsReady (module_of (bare_module t)) 1 → IsReady (module_of t) 1
  ready_back t ready = record {
    well_formed = subst IsTrue (kind_bare t.kind) ready.well_formed;
    above = subst (λ n. n < 1) (bounds_bare t) ready.above;
  }

  past : (t : TextModule) → IsReady (module_of t) 1 → bound_of_kind (kind_of t.kind) < 1
  past t ready = below (generation_or_zero (mark_of_option t.id)) (bound_of_kind (kind_of t.kind)) ready.above

  -- Encoding.
  encodes_kind : (name : Option (List ℕ)) (k : TextKind) (r : Result (Vec ℕ) Error) (left : ModuleKind) → bound_of_kind (kind_of k) < 1
      → EncodesKind 1 name (kind_of k) r left → Encodes name (kind_of (bare_kind k)) r
  encodes_kind name (held.Fields xs) (Ok b) left above x = record {
    left = kind.Text (resolved_fields_from 1 (bare_fields xs));
    encodes = (laws.answer xs ∙ x.0, ap head_of (laws.forms 1 xs above x.0) ∙ x.1, subst (Reads b.items) (sym (laws.meaning name xs)) x.2, refl);
  }
  encodes_kind name (held.Fields xs) (Err e) left above (inl x) = record {
    left = kind.Refused e;
    encodes = inl (
      answers_map (IsTooLarge 1 xs) (IsTooLarge 1 (bare_fields xs)) (diagnostic_of e)
          (first_unmet (demands (explicit_fields xs))) (first_unmet (demands (explicit_fields (bare_fields xs))))
          (laws.large 1 xs).0 (laws.answer xs) x.0,
      refl,
    );
  }
  encodes_kind name (held.Fields xs) (Err e) left above (inr x) = record {
    left = kind.Text (resolved_fields_from 1 (bare_fields xs));
    encodes = inr (
      laws.answer xs ∙ x.0,
      subst (λ o. IsUnwritten o (IsBounded 1 name (bare_fields xs)) e) (sym (ap head_of (laws.forms 1 xs above x.0)))
          (unwritten_map (head_of (uncovered_forms (resolved_fields_from 1 xs))) (IsBounded 1 name xs)
          (IsBounded 1 name (bare_fields xs)) e (laws.bounds 1 name xs) x.1),
      refl,
    );
  }
  encodes_kind name (held.Binary ps) (Ok b) left above x = record { left = kind.Binary (map bare_text ps); encodes = (x.0 ∙ sym (pieces_bare ps), refl) }
  encodes_kind name (held.Binary ps) (Err e) left above x = record { left = kind.Binary (map bare_text ps); encodes = (x.0, refl) }

  encodes_bare : (t : TextModule) (r : Result (Vec ℕ) Error) → EncodesReady (module_of t) r → EncodesReady (module_of (bare_module t)) r
  encodes_bare t r x =
      let done = encodes_kind (name_of_module (module_of t)) t.kind r x.left (past t x.ready) x.encodes in
      record {
        ready = ready_bare t x.ready;
        left = done.left;
        encodes = subst (λ n. EncodesKind 1 n (kind_of (bare_kind t.kind)) r done.left) (sym (name_bare t)) done.encodes;
      }

  pub encoded_bare : (t : TextModule) (r : Result (Vec ℕ) Refused) → EncodesText t r → EncodesText (bare_module t) r
  encoded_bare t (Ok b) x = encodes_bare t (Ok b) x
  encoded_bare t (Err (answer.Text e)) x = x
  encoded_bare t (Err (answer.Module e)) x = encodes_bare t (Err e) x
  encoded_bare t (Err (answer.Uncovered u)) x = encodes_bare t (Err (error_without_place (fault.Uncovered u.form))) x

  -- Resolving.
  met_bare : (k : TextKind) → IsMetKind (kind_of k) → IsMetKind (kind_of (bare_kind k))
  met_bare (held.Fields xs) met = laws.answer xs ∙ met
  met_bare (held.Binary ps) met = tt

  resolvable_bare : (t : TextModule) → IsResolvable (module_of t) → IsResolvable (module_of (bare_module t))
  resolvable_bare t x = record { ready = ready_bare t x.ready; met = met_bare t.kind x.met }

  number_kind : (t : TextModule) (k : TextKind) → t.kind ≡ k → bound_of_kind (kind_of k) < 1 → (s : Space) (name : List ℕ)
      → number_in (record (module_of t) { kind = kind_of (bare_kind k) }) s name ≡ number_in (record (module_of t) { kind = kind_of k }) s name
  number_kind t (held.Fields xs) is above s name = laws.numbers 1 xs above s name
  number_kind t (held.Binary ps) is above s name = refl

  number_bare : (t : TextModule) → IsReady (module_of t) 1 → (s : Space) (name : List ℕ)
      → number_in (module_of (bare_module t)) s name ≡ number_in (module_of t) s name
  number_bare t ready s name = number_kind t t.kind refl (past t ready) s name

  unresolved_kind : (k : TextKind) (e : Error) (left : ModuleKind) → ResolvesKind 1 (kind_of k) (Err e) left
      → ResolvesKind 1 (kind_of (bare_kind k)) (Err e) (kind.Refused e)
  unresolved_kind (held.Fields xs) e left x = (
    answers_map (IsTooLarge 1 xs) (IsTooLarge 1 (bare_fields xs)) (diagnostic_of e)
        (first_unmet (demands (explicit_fields xs))) (first_unmet (demands (explicit_fields (bare_fields xs))))
        (laws.large 1 xs).0 (laws.answer xs) x.0,
    refl,
  )
  unresolved_kind (held.Binary ps) e left x = absurd x

  unresolved_bare : (t : TextModule) (e : Error) → ResolvesReady (module_of t) (Err e) → ResolvesReady (module_of (bare_module t)) (Err e)
  unresolved_bare t e x = record { ready = ready_bare t x.ready; left = kind.Refused e; resolves = unresolved_kind t.kind e x.left x.resolves }

  nameless_bare : (t : TextModule) (r : Refused) → HasNoNames (module_of t) r → HasNoNames (module_of (bare_module t)) r
  nameless_bare t (answer.Text e) x = x
  nameless_bare t (answer.Module e) x = unresolved_bare t e x
  nameless_bare t (answer.Uncovered u) x = x

  pub listed_bare : (t : TextModule) (r : Result (Vec Denoted) Refused) → ListsText t r → ListsText (bare_module t) r
  listed_bare t (Ok all) x = record { resolves = resolvable_bare t x.resolves; listed = x.listed ∙ ap entries_of (sym (items_bare t.kind)) }
  listed_bare t (Err (answer.Text e)) x = x
  listed_bare t (Err (answer.Module e)) (inl x) = inl (unresolved_bare t e x)
  listed_bare t (Err (answer.Module e)) (inr x) = inr (ready_bare t x.0, x.1)
  listed_bare t (Err (answer.Uncovered u)) x = x

  pub numbered_bare : (s : Space) (name : List ℕ) (t : TextModule) (r : Result (Option ℕ) Refused)
      → NumbersText s name t r → NumbersText s name (bare_module t) r
  numbered_bare s name t (Ok found) x = record {
    resolves = resolvable_bare t x.resolves;
    denotes = x.denotes ∙ sym (number_bare t x.resolves.ready s name);
  }
  numbered_bare s name t (Err r) x = nameless_bare t r x

  -- The result for a text, from that for a parsed module or from the error of parsing.
  module _ {A : Type 0} (is_answer : TextModule → Result A Refused → Type 0)
      (to_bare : (t : TextModule) (r : Result A Refused) → is_answer t r → is_answer (bare_module t) r) where
    of_module : (bytes : List ℕ) (t : TextModule) (r : Result A Refused) → Denotes bytes t → is_answer t r
        → OfModule is_answer (denoted bytes) r
    of_module bytes t r denotes x = subst (λ o. OfModule is_answer o r) (sym denotes) (to_bare t r x)

    of_either : (bytes : List ℕ) (r : Result A Refused) → OfModule is_answer (denoted bytes) r → OfText is_answer bytes r
    unfolding OfText
    of_either bytes (Ok x) h = h
    of_either bytes (Err e) h = inl h

    pub of_parsed : (bytes : List ℕ) (t : TextModule) (r : Result A Refused) → IsRead bytes (Ok t) → is_answer t r → OfText is_answer bytes r
    unfolding OfText IsRead
    of_parsed bytes t r read x = of_either bytes r (of_module bytes t r read x)

    pub of_error : (bytes : List ℕ) (e : TextError) → IsRead bytes (Err e) → OfText is_answer bytes (Err (answer.Text e))
    unfolding OfText IsRead
    of_error bytes e read = inr read.0
