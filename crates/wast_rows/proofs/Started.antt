-- A resolved list with a start field may be resolved again, and encoding it returns the bytes of the module with that
-- field.
use Rattle.std.proofs.Common.{◌≡◌, ℕ, ◌+◌, ◌<◌, ◌≤◌, true, ◌&&◌, List, [], ◌∷◌, Option, Some, None, Result, Ok, Err, is_some, refl, sym, ap}
use Rattle.std.proofs.Common.{◌∙◌, subst, inl, inr, arith}
use Rattle.std.specs.Prelude.{max, OnOk, IfOk, IfErr}
use Rattle.std.specs.Global.{Vec}
use Rattle.wast_base.specs.declared.faults.Error.{Error}
use Rattle.wast_base.specs.declared.ids.Index.{Index}
use Rattle.wast_base.specs.declared.ids.Index.TheVariants as index
use Rattle.wast_base.specs.declared.ids.Span.{Span}
use Rattle.wast_base.specs.declared.spaces.Space.TheVariants as space
use Rattle.wast_base.specs.Denoted.{denoted, numbered_by}
use Rattle.wast_base.specs.Faults.{Cause, out_of_memory}
use Rattle.wast_base.specs.Ids.{name_of, place_of, mark_of_option}
use Rattle.wast_tree_nodes.specs.Generations.{generation_or_zero, greatest_generation}
use Rattle.wast_tree_nodes.specs.Items.{items}
use Rattle.wast_tree_nodes.specs.Known.{IdContext, id_context}
use Rattle.wast_tree_nodes.specs.WellFormed.{is_well_formed}
use Rattle.wast_tree_nodes.specs.declared.fields.ModuleField.{ModuleField}
use Rattle.wast_tree_nodes.specs.declared.fields.ModuleField.TheVariants as field
use Rattle.wasm_out.specs.Parts.{Part}
use Rattle.wasm_out.specs.Reads.{Reads}
use Rattle.wast_resolve_rules.specs.Demands.{IsTooLarge, IsUnresolved, first_unmet}
use Rattle.wast_resolve_rules.specs.Explicit.{generated_id_count}
use Rattle.wast_resolve_rules.specs.Finished.{resolved_fields_from}
use Rattle.wast_resolve_rules.specs.Resolved.{numbered_at}
use Rattle.wast_resolve_names.specs.LookUps.{IsSettledFor, IsMetBy, AnswersFor}
use Rattle.wast_resolve_names.specs.Resolvers.{KnownNames, known_to}
use Rattle.wast_resolve.specs.Laws.{SettledStays}
use Rattle.wast_resolve_laws.specs.Rests.{with_start_fields, final_names, RestsStill, FillsNoMore, StartsStayWellFormed, StartsStayBelow}
use Rattle.wast_core.specs.declared.module.Module.{Module}
use Rattle.wast_core.specs.declared.module.ModuleKind.{ModuleKind}
use Rattle.wast_core.specs.declared.module.ModuleKind.TheVariants as kind
use Rattle.wast_core.specs.AtRest.{IsWithheld, RestsWithheld, StartsLast}
use Rattle.wast_core.specs.Bounded.{IsBounded}
use Rattle.wast_core_sections.specs.Encoding.{IsUnwritten}
use Rattle.wast_core.specs.Headline.{IsMet, ResolvesKind, Counts, EncodesKind}
use Rattle.wast_core.specs.Modules.{is_well_formed_kind, bound_of_kind, IsReady}
use Rattle.wast_core.specs.Meaning.{meaning}
use Rattle.wast_core_sections.specs.Uncovered.{head_of, uncovered_forms}
use Rattle.wast_rows.specs.Starting.{IsNoBinary, IsSettledStart, with_start, finished_start, AddsStart, CountsStart}
use Rattle.wast_rows.specs.StartSteps.{FindsStart, IsText, PutsStart}

-- An index that is known names a function, and becomes its number.
record IsNumber (k : IdContext) (i : Index) : Type 0 where
  denotes : (is_some (denoted (k.number space.Func) i) && true) ≡ true
  number : ℕ
  place : Span
  is : numbered_at k space.Func i ≡ index.Num number place

is_number : (k : IdContext) (i : Index) → IsMetBy k space.Func i → IsNumber k i
is_number k (index.Num n p) h = record { denotes = refl; number = n; place = p; is = refl }
is_number k (index.Id id) h = known_as (k.number space.Func (name_of id)) refl h
  where
    unmet : (f : Cause) (s : Span) (o : Option ℕ) → first_unmet (record { fault = f; place = s; met = is_some o } ∷ []) ≡ None → is_some o ≡ true
    unmet f s None h = absurd (cc h)
    unmet f s (Some n) h = refl

    number_of : (o : Option ℕ) → ℕ
    number_of None = 0
    number_of (Some n) = n

    numbered : (o : Option ℕ) → is_some o ≡ true → numbered_by o id ≡ index.Num (number_of o) (place_of id)
    numbered None h = absurd (cc h)
    numbered (Some n) h = refl

    known_as : (o : Option ℕ) → k.number space.Func (name_of id) ≡ o → IsMetBy k space.Func (index.Id id) → IsNumber k (index.Id id)
    known_as o e h =
        let some = unmet _ _ (k.number space.Func (name_of id)) h in
        record {
          denotes = ap (λ b. b && true) some;
          number = number_of (k.number space.Func (name_of id));
          place = place_of id;
          is = numbered (k.number space.Func (name_of id)) some;
        }

module _ (n : ℕ) (fields : List ModuleField) (i : Index) (above : greatest_generation fields < n) (met : IsMet fields)
    (found : IsMetBy (final_names n fields) space.Func i) where
  abbrev list : List ModuleField
  list = finished_start n fields i

  number : IsNumber (final_names n fields) i
  number = is_number (final_names n fields) i found

  list_is : with_start_fields n fields ((number.number, number.place) ∷ []) ≡ list
  list_is = ap (λ (j : Index). with_start (resolved_fields_from n fields) j) (sym number.is)

  -- The list may be resolved.
  pub still_well_formed : StartsStayWellFormed → is_well_formed fields ≡ true → is_well_formed list ≡ true
  still_well_formed keeps h = subst (λ xs. is_well_formed xs ≡ true) list_is (keeps n fields ((number.number, number.place) ∷ []) above h met)

  pub still_below : StartsStayBelow → greatest_generation list ≡ greatest_generation (resolved_fields_from n fields)
  still_below below = subst (λ xs. greatest_generation xs ≡ greatest_generation (resolved_fields_from n fields)) list_is
      (below (resolved_fields_from n fields) (index.Num number.number number.place ∷ []) refl)

  -- No id is generated, so the counter does not change.
  fills_none : FillsNoMore → generated_id_count list ≡ 0
  fills_none fills = subst (λ xs. generated_id_count xs ≡ 0) list_is (fills n fields ((number.number, number.place) ∷ []))

  pub counter_stays : FillsNoMore → (m k : ℕ) (last : ModuleKind) → Counts (kind.Text list) last m k → k ≡ m
  counter_stays fills m k (kind.Text xs) h = let none = fills_none fills in omega (arith, none, h)
  counter_stays fills m k (kind.Binary pieces) h = absurd h
  counter_stays fills m k (kind.Refused e) h = h

  -- Encoding it returns the bytes of the module with the field.
  module _ (refused : RestsWithheld) (still : RestsStill) (below : StartsStayBelow) (last : StartsLast) (one : (bytes : List ℕ) (p q : List Part)
      → Reads bytes p → Reads bytes q → p ≡ q)
      (settled : IsSettledFor (id_context (items fields)) space.Func i) (name : Option (List ℕ)) where
    abbrev m : ℕ
    m = n + generated_id_count fields

    list_stays : resolved_fields_from m list ≡ list
    list_stays = subst (λ xs. resolved_fields_from m xs ≡ xs) list_is (still m n fields ((number.number, number.place) ∷ []))

    under : greatest_generation (with_start fields i) < n
    under = subst (λ g. g < n) (sym (below fields (i ∷ []) settled)) above

    met_too : IsMet (with_start fields i)
    met_too = (last n name fields (i ∷ []) under met number.denotes).0

    means : meaning name list ≡ meaning name (with_start fields i)
    means = (last n name fields (i ∷ []) under met number.denotes).1

    pub adds_start : (result : Result (Vec ℕ) Error) (new : ModuleKind) → EncodesKind m name (kind.Text list) result new
        → AddsStart n name (kind.Text fields) i result new
    adds_start (Ok bytes) new h =
        let reads : Reads bytes.items (meaning name (with_start fields i)) = subst (Reads bytes.items) means h.2 in
        (met_too, (reads, λ others also. one bytes.items others (meaning name (with_start fields i)) also reads), h.3 ∙ ap kind.Text list_stays)
    adds_start (Err e) new (inl h) =
        inr (inr (inl (
          met_too,
          subst (λ xs. IsUnresolved m xs e → IsWithheld (IsTooLarge m xs) e) list_is
              (refused m n fields ((number.number, number.place) ∷ []) e above met) h.0,
          h.1,
        )))
    adds_start (Err e) new (inr h) =
        inr (inr (inr (
          met_too,
          subst (λ xs. IsUnwritten (head_of (uncovered_forms xs)) (IsBounded m name list) e) list_stays h.1,
          h.2
              ∙ ap kind.Text list_stays,
        )))

-- The steps, for the content of a module.
pub settled_names : SettledStays → (n : ℕ) (old new : ModuleKind) (names : KnownNames) (i : Index) → IsNoBinary old → IsSettledStart old i
    → ResolvesKind n old (Ok names) new → IsSettledFor (known_to names) space.Func i
settled_names law n (kind.Text fields) new names i text settled h = subst (λ k. IsSettledFor k space.Func i) (sym h.2) (law n fields space.Func i settled)
settled_names law n (kind.Binary pieces) new names i text settled h = absurd text
settled_names law n (kind.Refused e) new names i text settled h = absurd h

finds_number : (n : ℕ) (old new : ModuleKind) (names : KnownNames) (i j : Index) → IsNoBinary old → ResolvesKind n old (Ok names) new
    → IsMetBy (known_to names) space.Func i → j ≡ numbered_at (known_to names) space.Func i → FindsStart n old i (Ok j) new
finds_number n (kind.Text fields) new names i j text h met is =
    (h.0, subst (λ k. IsMetBy k space.Func i) h.2 met, is ∙ ap (λ k. numbered_at k space.Func i) h.2, h.1)
finds_number n (kind.Binary pieces) new names i j text h met is = absurd text
finds_number n (kind.Refused e) new names i j text h met is = absurd h

finds_none : (n : ℕ) (old new : ModuleKind) (names : KnownNames) (i : Index) (e : Error) → IsNoBinary old → ResolvesKind n old (Ok names) new
    → AnswersFor (known_to names) space.Func i e → FindsStart n old i (Err e) new
finds_none n (kind.Text fields) new names i e text h unknown = inr (h.0, subst (λ k. AnswersFor k space.Func i e) h.2 unknown, h.1)
finds_none n (kind.Binary pieces) new names i e text h unknown = absurd text
finds_none n (kind.Refused d) new names i e text h unknown = absurd h

pub finds : (n : ℕ) (old new : ModuleKind) (names : KnownNames) (i : Index) (result : Result Index Error) → IsNoBinary old
    → ResolvesKind n old (Ok names) new → OnOk result (IsMetBy (known_to names) space.Func i)
    → IfOk result (λ j. j ≡ numbered_at (known_to names) space.Func i) → IfErr result (AnswersFor (known_to names) space.Func i) → FindsStart n old i result new
finds n old new names i (Ok j) text h met is unknown = finds_number n old new names i j text h met is
finds n old new names i (Err e) text h met is unknown = finds_none n old new names i e text h unknown

pub finds_refused : (n : ℕ) (old new : ModuleKind) (i : Index) (e : Error) → IsNoBinary old → ResolvesKind n old (Err e) new → FindsStart n old i (Err e) new
finds_refused n (kind.Text fields) new i e text h = inl h
finds_refused n (kind.Binary pieces) new i e text h = absurd text
finds_refused n (kind.Refused d) new i e text h = h

pub found_text : (n : ℕ) (old found : ModuleKind) (i j : Index) → FindsStart n old i (Ok j) found → IsText found
found_text n (kind.Text fields) found i j h = subst IsText (sym h.3) tt
found_text n (kind.Binary pieces) found i j h = absurd h
found_text n (kind.Refused e) found i j h = absurd h

-- If no field is added, nothing changes.
pub unput : (old new : ModuleKind) (i : Index) (e : Error) → PutsStart old i (Err e) new → new ≡ old
unput (kind.Text fields) new i e put = put.1
unput (kind.Binary pieces) new i e put = absurd put
unput (kind.Refused d) new i e put = absurd put

-- The field after the resolved list.
put_behind : (n : ℕ) (fields : List ModuleField) (found new : ModuleKind) (i j : Index) (x : Unit {0})
    → FindsStart n (kind.Text fields) i (Ok j) found → PutsStart found j (Ok x) new → new ≡ kind.Text (finished_start n fields i)
put_behind n fields found new i j x h put =
    let is : new ≡ kind.Text (with_start (resolved_fields_from n fields) j) = subst (λ k. PutsStart k j (Ok x) new) h.3 put in
    is ∙ ap (λ (l : Index). kind.Text (with_start (resolved_fields_from n fields) l)) h.2

-- The module may then be resolved.
pub held_ready : StartsStayWellFormed → StartsStayBelow → (n : ℕ) (old found new : ModuleKind) (i j : Index) (x : Unit {0})
    → is_well_formed_kind old ≡ true → bound_of_kind old < n
    → FindsStart n old i (Ok j) found → PutsStart found j (Ok x) new → (is_well_formed_kind new ≡ true) × (bound_of_kind new ≡ bound_of_kind found)
held_ready keeps below n (kind.Text fields) found new i j x well above h put =
    let is = put_behind n fields found new i j x h put in (
      ap is_well_formed_kind is ∙ still_well_formed n fields i above h.0 h.1 keeps well,
      ap bound_of_kind is ∙ (still_below n fields i above h.0 h.1 below ∙ sym (ap bound_of_kind h.3)),
    )
held_ready keeps below n (kind.Binary pieces) found new i j x well above h put = absurd h
held_ready keeps below n (kind.Refused e) found new i j x well above h put = absurd h

-- Encoding returns its bytes.
pub adds_found : RestsWithheld → RestsStill → StartsStayBelow → StartsLast → ((bytes : List ℕ) (p q : List Part) → Reads bytes p → Reads bytes q
    → p ≡ q) → (n m : ℕ) (name : Option (List ℕ)) (old found new last : ModuleKind) (i j : Index) (x : Unit {0})
    → bound_of_kind old < n → IsSettledStart old i → FindsStart n old i (Ok j) found → Counts old found n m → PutsStart found j (Ok x) new
    → (result : Result (Vec ℕ) Error) → EncodesKind m name new result last → AddsStart n name old i result last
adds_found refused still below ends one n m name (kind.Text fields) found new last i j x above settled h counts put result encodes =
    let is = put_behind n fields found new i j x h put in
    let counted : m ≡ n + generated_id_count fields = subst (λ k. Counts (kind.Text fields) k n m) h.3 counts in
    adds_start n fields i above h.0 h.1 refused still below ends one settled name result last
    (subst (λ k. EncodesKind (n + generated_id_count fields) name k result last) is (subst (λ c. EncodesKind c name new result last) counted encodes))
adds_found refused still below ends one n m name (kind.Binary pieces) found new last i j x above settled h counts put result encodes = absurd h
adds_found refused still below ends one n m name (kind.Refused e) found new last i j x above settled h counts put result encodes = absurd h

-- Or there is no memory for the field.
pub adds_no_room : (n : ℕ) (name : Option (List ℕ)) (old found new : ModuleKind) (i j : Index) (e : Error) → FindsStart n old i (Ok j) found
    → PutsStart found j (Err e) new → AddsStart n name old i (Err e) new
adds_no_room n name (kind.Text fields) found new i j e h put =
    let stays : (e ≡ out_of_memory) × (new ≡ kind.Text (resolved_fields_from n fields)) = subst (λ k. PutsStart k j (Err e) new) h.3 put in
    inr (inl (h.0, inr (h.1, stays.0), stays.1))
adds_no_room n name (kind.Binary pieces) found new i j e h put = absurd h
adds_no_room n name (kind.Refused d) found new i j e h put = absurd h

-- Or no function was found.
pub adds_none : (n : ℕ) (name : Option (List ℕ)) (old found : ModuleKind) (i : Index) (e : Error) → FindsStart n old i (Err e) found
    → AddsStart n name old i (Err e) found
adds_none n name (kind.Text fields) found i e (inl h) = inl h
adds_none n name (kind.Text fields) found i e (inr h) = inr (inl (h.0, inl h.1, h.2))
adds_none n name (kind.Binary pieces) found i e h = absurd h
adds_none n name (kind.Refused d) found i e h = h

-- The counter rises by the number of ids that resolving generates, or does not change if that fails.
pub counts_found : FillsNoMore → (n m k : ℕ) (old found new last : ModuleKind) (i j : Index) (x : Unit {0}) → bound_of_kind old < n
    → FindsStart n old i (Ok j) found → Counts old found n m → PutsStart found j (Ok x) new
    → (result : Result (Vec ℕ) Error) → Counts new last m k → CountsStart n old result last k
counts_found fills n m k (kind.Text fields) found new last i j x above h counts put result more = by result
  where
    after : k ≡ n + generated_id_count fields
    after =
        let first : m ≡ n + generated_id_count fields = subst (λ q. Counts (kind.Text fields) q n m) h.3 counts in
        let is : new ≡ kind.Text (finished_start n fields i) = put_behind n fields found new i j x h put in
        counter_stays n fields i above h.0 h.1 fills m k last (subst (λ q. Counts q last m k) is more) ∙ first

    by : (result : Result (Vec ℕ) Error) → CountsStart n (kind.Text fields) result last k
    by (Ok bytes) = after
    by (Err e) = inr (h.0, after)
counts_found fills n m k (kind.Binary pieces) found new last i j x above h counts put result more = absurd h
counts_found fills n m k (kind.Refused e) found new last i j x above h counts put result more = absurd h

pub counts_no_room : (n m : ℕ) (old found new : ModuleKind) (i j : Index) (e : Error) → FindsStart n old i (Ok j) found → Counts old found n m
    → CountsStart n old (Err e) new m
counts_no_room n m (kind.Text fields) found new i j e h counts = inr (h.0, subst (λ q. Counts (kind.Text fields) q n m) h.3 counts)
counts_no_room n m (kind.Binary pieces) found new i j e h counts = absurd h
counts_no_room n m (kind.Refused d) found new i j e h counts = absurd h

pub counts_none : (n m : ℕ) (old found : ModuleKind) (i : Index) (e : Error) → FindsStart n old i (Err e) found → Counts old found n m
    → CountsStart n old (Err e) found m
counts_none n m (kind.Text fields) found i e (inl h) counts = inl (h, subst (λ q. Counts (kind.Text fields) q n m) h.1 counts)
counts_none n m (kind.Text fields) found i e (inr h) counts = inr (h.0, subst (λ q. Counts (kind.Text fields) q n m) h.2 counts)
counts_none n m (kind.Binary pieces) found i e h counts = absurd h
counts_none n m (kind.Refused d) found i e h counts = counts

-- The counter never falls.
pub rises : (old new : ModuleKind) (n m : ℕ) → Counts old new n m → n ≤ m
rises (kind.Text fields) (kind.Text resolved) n m h = omega (arith, h)
rises (kind.Text fields) (kind.Binary pieces) n m h = absurd h
rises (kind.Text fields) (kind.Refused e) n m h = omega (arith, h)
rises (kind.Binary pieces) new n m h = omega (arith, h)
rises (kind.Refused e) new n m h = omega (arith, h)

-- A module may still be resolved if only its content changed, and that is well formed with the same generations.
pub stays_ready : (old new : Module) (m : ℕ) → new ≡ record old { kind = new.kind }
    → (is_well_formed_kind new.kind ≡ true) × (bound_of_kind new.kind ≡ bound_of_kind old.kind) → IsReady old m → IsReady new m
stays_ready old new m stays same ready =
    let id : new.id ≡ old.id = ap (λ (x : Module). x.id) stays in
    record {
      well_formed = same.0;
      above = subst (λ o. max (generation_or_zero (mark_of_option o)) (bound_of_kind new.kind) < m) (sym id)
          (subst (λ b. max (generation_or_zero (mark_of_option old.id)) b < m) (sym same.1) ready.above);
    }
