-- The ids of parameters and locals, one after another, and the first duplicate.
use Rattle.std.proofs.Common.{◌≡◌, ℕ, zero, suc, ◌+◌, Bool, true, false, List, [], ◌∷◌, ◌++◌, map, length, get_or, length-append}
use Rattle.std.proofs.Common.{append_assoc, Option, Some, None, refl, sym, ap, ◌∙◌, subst, arith}
use Rattle.std.specs.Prelude.{not, cond, codes, slice_index_or, ◌||◌, is_some}
use Rattle.std.specs.List.{list_any}
use Rattle.std.proofs.lemmas.List.Folds.{list_any-append}
use Rattle.std.proofs.Math.Seq.{get_or-append_seam, take-append_seam}
use Rattle.std.proofs.lemmas.List.{map-append, length-map}
use Rattle.wast_base.specs.Ids.{Name, Mark, mark_of_option}
use Rattle.wast_base.specs.Faults.{Cause, Duplicate, Diagnostic, At}
use Rattle.wast_base.specs.Spaces.{name_if, is_borne}
use Rattle.wast_tree_nodes.specs.Sites.{param_marks, declaration_sites}
use Rattle.wast_resolve_passes.specs.Tree.{Span, Id, NameAnnotation, ValType, FunctionType, Expression, Local}
use Rattle.wast_resolve_passes.specs.Tree.func
use Rattle.wast_resolve_rules.specs.Scopes.{Scope}
use Rattle.wast_resolve_rules.specs.Demands.{first_unmet, Answers, site_demands, declared_ids}
use Rattle.wast_resolve_namespace.specs.Filling.{IsClash, IsFirstClash, HasFirstClash}
use Rattle.wast_resolve_passes.specs.Locals.{params_in, body_declarations, marks, marks_of, names, said_of, NamesLocals}
use Rattle.wast_base.specs.declared.faults.Error.{Error}
use Rattle.std.specs.Prelude.{Result}

-- the first check that fails, from the position of the first duplicate
abbrev pub by_clash : List (Option Mark) → Option ℕ → Option (Cause × Span)
by_clash ms None = None
by_clash ms (Some p) = said_of (slice_index_or ms p None)

clash_here : (before rest : List (Option Name)) (q : Name) → is_borne q before ≡ true → IsClash (before ++ Some q ∷ rest) (length before)
clash_here before rest q h = record {
  name = q;
  within = omega (arith, length-append before (Some q ∷ rest));
  bears = get_or-append_seam before (Some q) rest None;
  borne = ap (is_borne q) (take-append_seam before (Some q ∷ rest)) ∙ h;
}

abbrev name_or : Name → Option Name → Name
name_or d None = d
name_or d (Some n) = n

-- the name of a duplicate occurs before it
borne_here : (before rest : List (Option Name)) (q : Name) → IsClash (before ++ Some q ∷ rest) (length before) → is_borne q before ≡ true
borne_here before rest q c =
    let same : Some c.name ≡ Some q = sym c.bears ∙ get_or-append_seam before (Some q) rest None in
    ap (λ o. is_borne (name_or q o) before) (sym same) ∙ (ap (is_borne c.name) (sym (take-append_seam before (Some q ∷ rest))) ∙ c.borne)

none_here : (before rest : List (Option Name)) → IsClash (before ++ None ∷ rest) (length before) → ⊥
none_here before rest c = let e : None ≡ Some c.name = sym (get_or-append_seam before None rest None) ∙ c.bears in absurd (cc e)

met_one : (b : Bool) (f : Cause × Span) (r : Option (Cause × Span)) → (b ≡ true → ⊥) → r ≡ None → cond (not b) r (Some f) ≡ None
met_one true f r h e = absurd (h refl)
met_one false f r h e = e

unmet_one : (b : Bool) (f : Cause × Span) (r : Option (Cause × Span)) → b ≡ true → cond (not b) r (Some f) ≡ Some f
unmet_one true f r h = refl
unmet_one false f r h = cc

later_one : (b : Bool) (f : Cause × Span) (r s : Option (Cause × Span)) → (b ≡ true → ⊥) → r ≡ s → cond (not b) r (Some f) ≡ s
later_one true f r s h e = absurd (h refl)
later_one false f r s h e = e

module _ (c : Scope) where
  -- one more name, before the rest
  more : (before : List (Option Name)) (o : Option Name) (rest : List (Option Name)) → (before ++ o ∷ []) ++ rest ≡ before ++ o ∷ rest
  more before o rest = append_assoc before (o ∷ []) rest

  free_after : (before : List (Option Name)) (ms : List (Option Mark)) → ((p : ℕ) → IsClash (before ++ names ms) p → ⊥)
      → first_unmet (site_demands c (declaration_sites before ms)) ≡ None
  free_after before [] free = refl
  free_after before (None ∷ ms) free = free_after (before ++ None ∷ []) ms (λ p h. free p (subst (λ ns. IsClash ns p) (more before None (names ms)) h))
  free_after before (Some m ∷ ms) free =
      met_one (is_borne m.0 before) (Duplicate (codes "local"), m.1) _ (λ b. free (length before) (clash_here before (names ms) m.0 b))
      (free_after (before ++ Some m.0 ∷ []) ms (λ p h. free p (subst (λ ns. IsClash ns p) (more before (Some m.0) (names ms)) h)))

  next : (before : List (Option Name)) (o : Option Name) (rest : List (Option Name)) (q : ℕ)
      → IsFirstClash (before ++ o ∷ rest) (length before + suc q) → IsFirstClash ((before ++ o ∷ []) ++ rest) (length (before ++ o ∷ []) + q)
  next before o rest q h =
      let at : length before + suc q ≡ length (before ++ o ∷ []) + q = omega (arith, length-append before (o ∷ [])) in
      subst (λ p. IsFirstClash ((before ++ o ∷ []) ++ rest) p) at (subst (λ ns. IsFirstClash ns (length before + suc q)) (sym (more before o rest)) h)

  first_after : (before : List (Option Name)) (ms : List (Option Mark)) (q : ℕ) → IsFirstClash (before ++ names ms) (length before + q)
      → first_unmet (site_demands c (declaration_sites before ms)) ≡ said_of (slice_index_or ms q None)
  first_after before [] q h = let w = h.clash.within in absurd (omega (arith, w, length-append before []))
  first_after before (None ∷ ms) zero h = absurd (none_here before (names ms) (subst (λ p. IsClash (before ++ None ∷ names ms) p) (omega arith) h.clash))
  first_after before (None ∷ ms) (suc q) h = first_after (before ++ None ∷ []) ms q (next before None (names ms) q h)
  first_after before (Some m ∷ ms) zero h =
      unmet_one (is_borne m.0 before) (Duplicate (codes "local"), m.1) _
      (borne_here before (names ms) m.0 (subst (λ p. IsClash (before ++ Some m.0 ∷ names ms) p) (omega arith) h.clash))
  first_after before (Some m ∷ ms) (suc q) h =
      later_one (is_borne m.0 before) (Duplicate (codes "local"), m.1) _ _ (λ b. let l = h.least (length before) (clash_here before (names ms) m.0 b)
      in omega arith)
      (first_after (before ++ Some m.0 ∷ []) ms q (next before (Some m.0) (names ms) q h))

  pub free_names : (ms : List (Option Mark)) → ((p : ℕ) → IsClash (names ms) p → ⊥) → first_unmet (site_demands c (declaration_sites [] ms)) ≡ None
  free_names ms free = free_after [] ms free

  pub first_name : (ms : List (Option Mark)) (p : ℕ) → IsFirstClash (names ms) p
      → first_unmet (site_demands c (declaration_sites [] ms)) ≡ said_of (slice_index_or ms p None)
  first_name ms p h = let at : p ≡ 0 + p = omega arith in first_after [] ms p (subst (λ q. IsFirstClash (names ms) q) at h)

-- the names of declarations
each_name : {X : Type 0} (h : X → Option Mark) (zs : List X) → map (λ x. name_if (h x)) zs ≡ names (map h zs)
each_name h [] = refl
each_name h (z ∷ zs) = ap (λ ns. name_if (h z) ∷ ns) (each_name h zs)

module _ {A B : Type 0} (f : A → Option Mark) (g : B → Option Mark) (xs : List A) (ys : List B) where
  pub names_are : map (λ x. name_if (f x)) xs ++ map (λ y. name_if (g y)) ys ≡ names (marks f g xs ys)
  names_are = ap (λ ns. ns ++ map (λ y. name_if (g y)) ys) (each_name f xs)
      ∙ (ap (λ ns. names (map f xs) ++ ns) (each_name g ys) ∙ sym (map-append name_if (map f xs) (map g ys)))

-- if no parameter and no local has an id
pub no_names : {A B : Type 0} (f : A → Option Mark) (g : B → Option Mark) (xs : List A) (ys : List B)
    → list_any is_some (map (λ x. name_if (f x)) xs) ≡ false → list_any is_some (map (λ y. name_if (g y)) ys) ≡ false
    → list_any is_some (names (marks f g xs ys)) ≡ false
no_names f g xs ys h k =
    ap (list_any is_some) (sym (names_are f g xs ys)) ∙ list_any-append is_some (map (λ x. name_if (f x)) xs) (map (λ y. name_if (g y)) ys) ∙ (λ i. h i || k i)

-- the number of parameters and locals
pub how_many : {A B : Type 0} (f : A → Option Mark) (g : B → Option Mark) (xs : List A) (ys : List B) → length xs + length ys ≡ length (marks f g xs ys)
how_many f g xs ys = omega (arith, length-append (map f xs) (map g ys), length-map xs f, length-map ys g)

-- no check fails, or that of the first duplicate
pub clash_answers : (c : Scope) (ms : List (Option Mark)) (o : Option ℕ) → HasFirstClash (names ms) o
    → first_unmet (site_demands c (declaration_sites [] ms)) ≡ by_clash ms o
clash_answers c ms None h = free_names c ms h
clash_answers c ms (Some p) h = first_name c ms p h

-- the declarations of a function before its body
pub opening_is : (inline : Option FunctionType) (locals : List Local) (e : Expression)
    → body_declarations (param_marks inline) (func.Inline locals e) ≡ declaration_sites []
    (marks (λ p. mark_of_option p.0) (λ l. mark_of_option l.id) (params_in inline) locals)
opening_is None locals e = refl
opening_is (Some t) locals e = refl

long_as : (inline : Option FunctionType) (locals : List Local) (e : Expression)
    → marks (λ p. mark_of_option p.0) (λ l. mark_of_option l.id) (params_in inline) locals ≡ declared_ids inline (func.Inline locals e)
long_as None locals e = refl
long_as (Some t) locals e = refl

-- the error of a duplicate
pub clash_told : (K M : Type 0) (c : Scope) (ms : List (Option Mark)) (at : ℕ) (m : Mark) (t : Diagnostic) → IsFirstClash (names ms) at
    → Some m ≡ slice_index_or ms at None → t ≡ At (Duplicate (codes "local")) m.1
    → Answers K M t (first_unmet (site_demands c (declaration_sites [] ms)))
clash_told K M c ms at m t first here is =
    subst (λ t. Answers K M t (first_unmet (site_demands c (declaration_sites [] ms)))) (sym is) (first_name c ms at first ∙ ap said_of (sym here))

-- the same parameters in another form
pub params_answer : {T : Type 0} (c : Scope) (n : ℕ) (ps qs : List (Option Id × Option NameAnnotation × ValType)) (ls : List Local)
    (r : Result T Error) → ps ≡ qs
    → NamesLocals c n (declaration_sites [] (marks_of ps ls)) (length (marks_of ps ls)) r
    → NamesLocals c n (declaration_sites [] (marks_of qs ls)) (length (marks_of qs ls)) r
params_answer c n ps qs ls r same h =
    subst (λ (xs : List (Option Id × Option NameAnnotation × ValType)). NamesLocals c n (declaration_sites [] (marks_of xs ls))
    (length (marks_of xs ls)) r) same h

-- a result for these parameters and locals is one for the function
pub names_answer : {T : Type 0} (c : Scope) (n m : ℕ) (inline : Option FunctionType) (ls : List Local) (e : Expression) (ps : List Local)
    (r : Result T Error) → n ≡ m → ps ≡ ls
    → NamesLocals c n (declaration_sites [] (marks_of (params_in inline) ps)) (length (marks_of (params_in inline) ps)) r
    → NamesLocals c m (body_declarations (param_marks inline) (func.Inline ls e)) (length (declared_ids inline (func.Inline ls e))) r
names_answer c n m inline ls e ps r alike same h =
    subst (λ ss. NamesLocals c m ss (length (declared_ids inline (func.Inline ls e))) r) (sym (opening_is inline ls e))
    (subst (λ ms. NamesLocals c m (declaration_sites [] (marks_of (params_in inline) ls)) (length ms) r) (long_as inline ls e)
    (subst (λ (xs : List Local). NamesLocals c m (declaration_sites [] (marks_of (params_in inline) xs)) (length (marks_of (params_in inline) xs)) r) same
    (subst (λ n. NamesLocals c n (declaration_sites [] (marks_of (params_in inline) ps)) (length (marks_of (params_in inline) ps)) r) alike h)))
