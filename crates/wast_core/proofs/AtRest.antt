-- A resolved module does not change when it is resolved again.
use Rattle.std.proofs.Common.{◌≡◌, ℕ, ◌+◌, ◌<◌, Bool, true, List, [], ◌∷◌, ◌++◌, map, append-nil, Option, Some, None, Result, Ok, Err}
use Rattle.std.proofs.Common.{is_some, refl, sym, ap, ◌∙◌, subst, inl, inr, arith}
use Rattle.std.specs.Bool.{⊤}
use Rattle.std.specs.List.{list_all}
use Rattle.std.specs.Cmp.{first_so, second_so}
use Rattle.std.specs.Global.{Vec}
use Rattle.wast_base.specs.declared.faults.Error.{Error}
use Rattle.wast_base.specs.declared.faults.Fault.{Fault}
use Rattle.wast_base.specs.declared.faults.Fault.TheVariants as fault
use Rattle.wast_base.specs.Faults.{cause_of, told_at, diagnostic_of}
use Rattle.wast_base.specs.declared.ids.Span.{Span}
use Rattle.wast_base.specs.Ids.{name_of, place_of}
use Rattle.wast_base.specs.Spaces.{is_settled_index}
use Rattle.wast_tree_nodes.specs.Generations.{greatest_generation}
use Rattle.wast_tree_nodes.specs.Items.{items}
use Rattle.wast_tree_nodes.specs.Known.{IdContext, id_context}
use Rattle.wast_resolve_rules.specs.Demands.{Answers, IsTooLarge, IsUnresolved}
use Rattle.wast_resolve_rules.specs.Explicit.{explicit_fields_from, generated_id_count}
use Rattle.wast_resolve_rules.specs.Finished.{resolved_fields_from}
use Rattle.wast_resolve_rules.specs.Resolved.{numbered_by, numbered_at}
use Rattle.wast_resolve_rules.specs.Scopes.{denoted}
use Rattle.wast_resolve_names.specs.Resolvers.{KnownNames, known_to}
use Rattle.wast_resolve_laws.specs.Laws.{ItemsStay}
use Rattle.wast_resolve_laws.specs.Rests.{start_fields_of, numbers, with_start_fields, final_names, RestsMet, RestsStill, RestsByPosition}
use Rattle.wast_resolve_laws.specs.Rests.{FillsNoMore, StartsStayBelow, StartsAreMet, StartsComeBefore}
use Rattle.wasm_out.specs.Parts.{Part}
use Rattle.wasm_out.specs.Reads.{Reads}
use Rattle.wast_core.specs.Tree.{Id, Index, ModuleField}
use Rattle.wast_core.specs.Tree.index
use Rattle.wast_core.specs.Tree.space
use Rattle.wast_core.specs.declared.module.ModuleKind.{ModuleKind}
use Rattle.wast_core.specs.declared.module.ModuleKind.TheVariants as kind
use Rattle.wast_core.specs.AtRest.{StartsLast, NumbersLast, IsWithheld, RestsWithheld, ResolvesAgain, SecondResolve, EncodesAgain, SecondEncoding}
use Rattle.wast_core.specs.Bounded.{IsBounded}
use Rattle.wast_core_sections.specs.Encoding.{IsUnwritten}
use Rattle.wast_core.specs.Headline.{IsMet, ResolvesKind, Counts, IsUnencoded, EncodesKind}
use Rattle.wast_core.specs.Laws.{MeansWhatIsWritten, TooLargeIsUnbounded}
use Rattle.wast_core_sections.specs.Sections.{parts}
use Rattle.wast_core.specs.Meaning.{meaning}
use Rattle.wast_core_sections.specs.Uncovered.{head_of, uncovered_forms, IsCovered}
use Rattle.wast_core.proofs.Swapped.{parts_swapped}

-- An index that names something becomes a number.
record AreNumbers (is : List Index) : Type 0 where
  ks : List (ℕ × Span)
  are : is ≡ numbers ks

module _ (k : IdContext) where
  abbrev denotes : Index → Bool
  denotes i = is_some (denoted (k.number space.Func) i)

  are_numbers : (is : List Index) → list_all denotes is ≡ true → AreNumbers (map (numbered_at k space.Func) is)
  are_numbers [] h = record { ks = []; are = refl }
  are_numbers (i ∷ is) h = by_index i (first_so (denotes i) (list_all denotes is) h) (are_numbers is (second_so (denotes i) (list_all denotes is) h))
    where
      by_number : (id : Id) (o : Option ℕ) → is_some o ≡ true → (js : List Index) → AreNumbers js → AreNumbers (numbered_by o id ∷ js)
      by_number id None h js a = absurd (cc h)
      by_number id (Some n) h js a = record { ks = (n, place_of id) ∷ a.ks; are = ap (λ ls. index.Num n (place_of id) ∷ ls) a.are }

      by_index : (i : Index) → denotes i ≡ true → AreNumbers (map (numbered_at k space.Func) is)
          → AreNumbers (numbered_at k space.Func i ∷ map (numbered_at k space.Func) is)
      by_index (index.Num n p) h a = record { ks = (n, p) ∷ a.ks; are = ap (λ ls. index.Num n p ∷ ls) a.are }
      by_index (index.Id id) h a = by_number id (k.number space.Func (name_of id)) h (map (numbered_at k space.Func) is) a

pub starts_last : StartsAreMet → StartsComeBefore → RestsByPosition → MeansWhatIsWritten → StartsLast
starts_last are_met before by_position means n name fields is above met denote =
    let met_too : IsMet (fields ++ start_fields_of is) = are_met n fields is above met denote in
    let split = before n fields is in
    let own = split.0 in
    let types = split.1 in
    let js : List Index = map (numbered_at (final_names n fields) space.Func) is in
    let a = are_numbers (final_names n fields) is denote in
    let rests : meaning name (resolved_fields_from n fields ++ start_fields_of js) ≡ parts name (resolved_fields_from n fields ++ start_fields_of js) =
    subst (λ ls. meaning name (resolved_fields_from n fields ++ start_fields_of ls) ≡ parts name
    (resolved_fields_from n fields ++ start_fields_of ls)) (sym a.are) (ap (parts name) (by_position n fields a.ks)) in (
      met_too,
      rests ∙ (ap (λ (xs : List ModuleField). parts name (xs ++ start_fields_of js)) split.2
          ∙ (sym (parts_swapped name js own types) ∙ (ap (parts name) (sym split.3) ∙ means n name (fields ++ start_fields_of is) above met_too))),
    )

-- Numbers are settled, refer to themselves and do not change.
numbers_settled : (xs : List ModuleField) (ks : List (ℕ × Span)) → list_all (is_settled_index ((id_context (items xs)).number space.Func)) (numbers ks) ≡ true
numbers_settled xs [] = refl
numbers_settled xs (k ∷ ks) = numbers_settled xs ks

numbers_denote : (n : ℕ) (xs : List ModuleField) (ks : List (ℕ × Span)) → list_all (λ i. is_some (denoted ((final_names n xs).number space.Func) i))
    (numbers ks) ≡ true
numbers_denote n xs [] = refl
numbers_denote n xs (k ∷ ks) = numbers_denote n xs ks

numbers_stay : (n : ℕ) (xs : List ModuleField) (ks : List (ℕ × Span)) → map (numbered_at (final_names n xs) space.Func) (numbers ks) ≡ numbers ks
numbers_stay n xs [] = refl
numbers_stay n xs (k ∷ ks) = ap (λ is. numbers (k ∷ []) ++ is) (numbers_stay n xs ks)

pub numbers_last : StartsStayBelow → StartsLast → NumbersLast
numbers_last below last n name fields ks above met =
    let same = below fields (numbers ks) (numbers_settled fields ks) in
    let h = last n name fields (numbers ks) (omega (arith, same, above)) met (numbers_denote n fields ks) in
    (h.0, ap (λ is. meaning name (resolved_fields_from n fields ++ start_fields_of is)) (sym (numbers_stay n fields ks)) ∙ h.1)

-- If the checks of a list pass, its error has no position.
withheld_by : (many : Type 0) (f : Fault) (s : Option Span) → Answers ⊤ many (told_at (cause_of f) s) None → IsWithheld many (record { span = s; fault = f })
withheld_by many fault.Memory None h = inl refl
withheld_by many fault.TooLarge None h = inr (refl, h)
withheld_by many f None h = absurd h
withheld_by many f (Some p) h = absurd (cc h)

withheld : (many : Type 0) (e : Error) → Answers ⊤ many (diagnostic_of e) None → IsWithheld many e
withheld many e h = withheld_by many e.fault e.span h

pub rests_withheld : RestsMet → RestsWithheld
rests_withheld resting m n fields ks e above met h =
    let list : List ModuleField = with_start_fields n fields ks in
    withheld (IsTooLarge m list) e (subst (λ o. Answers ⊤ (IsTooLarge m list) (diagnostic_of e) o) (resting n fields ks above met) h)

-- A resolved list, resolved again.
module _ (resting : RestsMet) (still : RestsStill) (n m : ℕ) (fields : List ModuleField) (above : greatest_generation fields < n) (met : IsMet fields) where
  abbrev list : List ModuleField
  list = resolved_fields_from n fields

  bare : with_start_fields n fields [] ≡ list
  bare = append-nil list

  list_stays : resolved_fields_from m list ≡ list
  list_stays = subst (λ xs. resolved_fields_from m xs ≡ xs) bare (still m n fields [])

  unresolved : (e : Error) → IsUnresolved m list e → IsWithheld (IsTooLarge m list) e
  unresolved e h = subst (λ xs. IsUnresolved m xs e → IsWithheld (IsTooLarge m xs) e) bare (rests_withheld resting m n fields [] e above met) h

  names_stay : ItemsStay → id_context (items (explicit_fields_from m list)) ≡ id_context (items (explicit_fields_from n fields))
  names_stay its = ap id_context (sym (its m list) ∙ (ap items list_stays ∙ its n fields))

  -- So resolving returns the same names and fields.
  resolves_list : ItemsStay → (names : KnownNames) → known_to names ≡ id_context (items (explicit_fields_from n fields))
      → (result : Result KnownNames Error) (second : ModuleKind)
      → ResolvesKind m (kind.Text list) result second → (last : ℕ) → (second ≡ kind.Text list → last ≡ m)
      → ResolvesAgain names (kind.Text list) m result second last
  resolves_list its names know (Ok again) second h last counts =
      let is : second ≡ kind.Text list = h.1 ∙ ap kind.Text list_stays in
      (h.2 ∙ (names_stay its ∙ sym know), is, counts is)
  resolves_list its names know (Err e) second h last counts = (unresolved e h.0, h.1)

  -- And encoding returns the same bytes.
  means_the_same : MeansWhatIsWritten → RestsByPosition → (name : Option (List ℕ)) → meaning name list ≡ meaning name fields
  means_the_same means by_position name = subst (λ xs. meaning name xs ≡ parts name list) bare (ap (parts name) (by_position n fields [] ∙ bare))
      ∙ means n name fields above met

  unwritten : (name : Option (List ℕ)) → IsCovered list → (e : Error)
      → IsUnwritten (head_of (uncovered_forms (resolved_fields_from m list))) (IsBounded m name list) e → IsWithheld (IsBounded m name list → ⊥) e
  unwritten name covered e h = subst (λ o. IsUnwritten o (IsBounded m name list) e) (ap (λ xs. head_of (uncovered_forms xs)) list_stays ∙ covered) h

  unencoded : TooLargeIsUnbounded → (name : Option (List ℕ)) → IsCovered list → (e : Error) (second : ModuleKind) → IsUnencoded m name list e second
      → IsWithheld (IsBounded m name list → ⊥) e
  unencoded bounded name covered e second (inl h) = more (unresolved e h.0)
    where
      more : IsWithheld (IsTooLarge m list) e → IsWithheld (IsBounded m name list → ⊥) e
      more (inl h) = inl h
      more (inr h) = inr (h.0, λ b. bounded m name list h.1 b)
  unencoded bounded name covered e second (inr h) = unwritten name covered e h.1

  encodes_list : TooLargeIsUnbounded → MeansWhatIsWritten → RestsByPosition → ((b c : List ℕ) (p : List Part) → Reads b p → Reads c p → b ≡ c)
      → (name : Option (List ℕ)) (bytes : List ℕ) → Reads bytes (meaning name fields) → IsCovered list
      → (result : Result (Vec ℕ) Error) (second : ModuleKind) → EncodesKind m name (kind.Text list) result second
      → EncodesAgain bytes name (kind.Text list) m result second
  encodes_list bounded means by_position one name bytes reads covered (Ok again) second h = (
    one again.items bytes (meaning name fields) (subst (λ ps. Reads again.items ps) (means_the_same means by_position name) h.2) reads,
    h.3
        ∙ ap kind.Text list_stays,
  )
  encodes_list bounded means by_position one name bytes reads covered (Err e) second h = unencoded bounded name covered e second h

pub second_resolve : RestsMet → RestsStill → FillsNoMore → ItemsStay → SecondResolve
second_resolve resting still fills its (kind.Text fields) first second n m after last names result above a b =
    let list : List ModuleField = resolved_fields_from n fields in
    let resolves : ResolvesKind m (kind.Text list) result second = subst (λ k. ResolvesKind m k result second) a.kind.1 b.kind in
    let counts : Counts (kind.Text list) second m last = subst (λ k. Counts k second m last) a.kind.1 b.counter in
    let none : generated_id_count list ≡ 0 = ap generated_id_count (sym (append-nil list)) ∙ fills n fields [] in
    let stays : second ≡ kind.Text list
    → last ≡ m = λ e. let d : last ≡ m + generated_id_count list = subst (λ k. Counts (kind.Text list) k m last) e counts in omega (arith, d, none) in
    subst (λ k. ResolvesAgain names k m result second last) (sym a.kind.1)
    (resolves_list resting still n m fields above a.kind.0 its names a.kind.2 result second resolves last stays)
second_resolve resting still fills its (kind.Binary pieces) first second n m after last names (Ok again) above a b =
    let resolves : ResolvesKind m (kind.Binary pieces) (Ok again) second = subst (λ k. ResolvesKind m k (Ok again) second) a.kind.1 b.kind in
    let counts : Counts (kind.Binary pieces) second m last = subst (λ k. Counts k second m last) a.kind.1 b.counter in
    (resolves.0 ∙ sym a.kind.0, resolves.1 ∙ sym a.kind.1, counts)
second_resolve resting still fills its (kind.Binary pieces) first second n m after last names (Err e) above a b =
    absurd (subst (λ k. ResolvesKind m k (Err e) second) a.kind.1 b.kind)
second_resolve resting still fills its (kind.Refused e) first second n m after last names result above a b = absurd a.kind

pub second_encoding : RestsMet → RestsStill → RestsByPosition → TooLargeIsUnbounded → MeansWhatIsWritten
    → ((b c : List ℕ) (p : List Part) → Reads b p → Reads c p → b ≡ c) → SecondEncoding
second_encoding resting still by_position bounded means one (kind.Text fields) first second n m name bytes result above a b =
    let list : List ModuleField = resolved_fields_from n fields in
    let is : first ≡ kind.Text list = a.3 in
    subst (λ k. EncodesAgain bytes.items name k m result second) (sym is)
    (encodes_list resting still n m fields above a.0 bounded means by_position one name bytes.items a.2 a.1 result second
    (subst (λ k. EncodesKind m name k result second) is b))
second_encoding resting still by_position bounded means one (kind.Binary pieces) first second n m name bytes (Ok again) above a b =
    let is : first ≡ kind.Binary pieces = a.1 in
    let encodes : EncodesKind m name (kind.Binary pieces) (Ok again) second = subst (λ k. EncodesKind m name k (Ok again) second) is b in
    (encodes.0 ∙ sym a.0, encodes.1 ∙ sym is)
second_encoding resting still by_position bounded means one (kind.Binary pieces) first second n m name bytes (Err e) above a b =
    let encodes : EncodesKind m name (kind.Binary pieces) (Err e) second = subst (λ k. EncodesKind m name k (Err e) second) a.1 b in
    inl encodes.0
second_encoding resting still by_position bounded means one (kind.Refused e) first second n m name bytes result above a b = absurd a
