-- Lemmas: a visit of joined lists is a visit of each, and the checks of each kind of part.
use Rattle.std.proofs.Common.{◌≡◌, ℕ, ◌+◌, ◌<◌, true, false, List, [], ◌∷◌, ◌++◌, refl, sym, ap, ◌∙◌, subst, append-nil, length, get_or, take, arith}
use Rattle.std.proofs.lemmas.Bool.Decides.{Decides-eqb}
use Rattle.std.specs.Prelude.{◌==◌, flat_map}
use Rattle.std.proofs.lemmas.Grind.{flat_map-append}
use Rattle.std.proofs.lemmas.List.{take_more}
use Rattle.std.specs.Prelude.{Option, Some, None, map}
use Rattle.wast_base.specs.Blocks.{Blocks}
use Rattle.wast_base.specs.Ids.{Name, Mark, mark_of_option}
use Rattle.wast_base.specs.Spaces.{name_if}
use Rattle.wast_tree_visit.specs.Tree.{Id, Index, BrTableIndices, TryTable, TryTableCatch, Handle, ResumeTable, Space, RefType}
use Rattle.wast_tree_visit.specs.Tree.{FunctionType, TypeUse, Instruction, Expression, Local}
use Rattle.wast_tree_visit.specs.Tree.form
use Rattle.wast_tree_visit.specs.Tree.handle
use Rattle.wast_tree_visit.specs.Tree.func
use Rattle.wast_tree_nodes.specs.Sites.{Check, ItemIndex, InnerIndex, Where, Site, Begins, BodyContext, after_all, check_sites, at_index}
use Rattle.wast_tree_nodes.specs.Sites.{if_there, in_id, in_index, in_use, in_ref, in_type_use, at_label, in_caught, in_catch, in_try_table}
use Rattle.wast_tree_nodes.specs.Sites.{in_br_table, in_handle, in_handlers, in_shared_id, uncovered_check, mark_asked, param_marks}
use Rattle.wast_tree_nodes.specs.Sites.{in_constant, in_local, in_instr, in_instrs, in_expression, local_marks, declaration_sites}
use Rattle.wast_tree_nodes.specs.Sites.{body_here, in_func_kind, asked_in, checks_of}
use Rattle.wast_tree_visit.specs.Visits.{TellsEach, Visits}
use Rattle.wast_tree_nodes.proofs.Asking.{each_of_each, asked_asking, asked_both}
use Rattle.wast_tree_nodes.proofs.Behind.{instrs-append}

tells_both : {V A : Type 0} (told : V → A → V → Type 0) (a b c : V) (xs ys : List A) → TellsEach told a xs b → TellsEach told b ys c
    → TellsEach told a (xs ++ ys) c
tells_both told a b c [] ys h k = subst (λ v. TellsEach told v ys c) h k
tells_both told a b c (x ∷ xs) ys h k = (h.0, (h.1.0, tells_both told h.0 b c xs ys h.1.1 k))

module _ {V A : Type 0} {told : V → A → V → Type 0} where
  pub visits_none : {a : V} → Visits told a [] a
  visits_none {a} = record { tells = refl }

  pub visits_one : {a b : V} {x : A} → told a x b → Visits told a (x ∷ []) b
  visits_one {a} {b} h = record { tells = (b, (h, refl)) }

  pub visits_both : {a b c : V} {xs ys : List A} → Visits told a xs b → Visits told b ys c → Visits told a (xs ++ ys) c
  visits_both {a} {b} {c} {xs} {ys} h k = record { tells = tells_both told a b c xs ys h.tells k.tells }

  -- one more part of a list
  pub visits_more : {T : Type 0} {a b c : V} (f : T → List A) (xs : List T) (i : ℕ) (x d : T) → i < length xs → x ≡ get_or xs i d
      → Visits told a (flat_map f (take i xs)) b → Visits told b (f x) c → Visits told a (flat_map f (take (i + 1) xs)) c
  visits_more {a = a} {c = c} f xs i x d lt is h k =
      let more : flat_map f (take (i + 1) xs) ≡ flat_map f (take i xs) ++ f x =
      ap (flat_map f) (take_more xs i d lt ∙ ap (λ y. take i xs ++ y ∷ []) (sym is))
      ∙ (flat_map-append f (take i xs) (x ∷ []) ∙ ap (λ ys. flat_map f (take i xs) ++ ys) (append-nil (f x))) in
      subst (λ ys. Visits told a ys c) (sym more) (visits_both h k)

pub each_alone : {A B : Type 0} (f : A → B) (xs : List A) → map f xs ≡ flat_map (λ x. f x ∷ []) xs
each_alone f [] = refl
each_alone f (x ∷ xs) = ap (λ ys. f x ∷ ys) (each_alone f xs)

pub asked_use : (w : Where) (u : TypeUse FunctionType) → checks_of (in_use w u) ≡ in_type_use u
asked_use w u = append-nil (in_type_use u)

-- the checks of optional parts, and of lists of parts
pub asked_if : {A : Type 0} (f : A → List Site) (o : Option A) → checks_of (if_there f o) ≡ if_there (λ x. checks_of (f x)) o
asked_if f None = refl
asked_if f (Some x) = refl

pub asked_index_if : (s : Space) (o : Option Index) → checks_of (if_there (at_index s) o) ≡ if_there (in_index s) o
asked_index_if s None = refl
asked_index_if s (Some i) = refl

pub asked_each : {A : Type 0} (f : A → List Site) (xs : List A) → checks_of (flat_map f xs) ≡ flat_map (λ x. checks_of (f x)) xs
asked_each f xs = each_of_each f asked_in xs

pub asked_indices : (s : Space) (is : List Index) → checks_of (flat_map (at_index s) is) ≡ flat_map (in_index s) is
asked_indices s [] = refl
asked_indices s (i ∷ is) = ap (λ zs. ItemIndex s i ∷ zs) (asked_indices s is)

pub asked_exprs : (ty : RefType) (es : List Expression) → checks_of (flat_map in_constant es ++ check_sites (in_ref ty)) ≡ flat_map
    (λ e. checks_of (in_constant e)) es ++ in_ref ty
asked_exprs ty es =
    asked_both (flat_map in_constant es) (check_sites (in_ref ty))
    ∙ (ap (λ asks. asks ++ checks_of (check_sites (in_ref ty))) (asked_each in_constant es)
    ∙ ap (λ asks. flat_map (λ e. checks_of (in_constant e)) es ++ asks) (asked_asking (in_ref ty)))

-- declarations have no checks
pub asked_declaring : (before : List (Option Name)) (marks : List (Option Mark)) → checks_of (declaration_sites before marks) ≡ []
asked_declaring before [] = refl
asked_declaring before (m ∷ ms) = asked_declaring (before ++ name_if m ∷ []) ms

-- the checks of a function: the types and ids of its locals, and then its body
pub asked_inline : (u : TypeUse FunctionType) (locals : List Local) (e : Expression)
    → checks_of (in_func_kind u (func.Inline locals e)) ≡ flat_map in_local locals
    ++ checks_of (in_expression (body_here u (param_marks u.inline ++ local_marks locals)) e)
asked_inline u locals e =
    let marks = param_marks u.inline ++ local_marks locals in
    let body = in_expression (body_here u marks) e in
    asked_both (check_sites (flat_map in_local locals)) (declaration_sites [] marks ++ body)
    ∙ (ap (λ asks. asks ++ checks_of (declaration_sites [] marks ++ body)) (asked_asking (flat_map in_local locals))
    ∙ ap (λ asks. flat_map in_local locals ++ asks) (asked_both (declaration_sites [] marks) body
    ∙ ap (λ asks. asks ++ checks_of body) (asked_declaring [] marks)))

-- the checks do not depend on the enclosing blocks
pub asked_label : (id : Option Id) → if_there in_id id ≡ mark_asked (mark_of_option id)
asked_label None = refl
asked_label (Some id) = refl

asked_catch : (blocks : Blocks) (c : TryTableCatch) → checks_of (in_catch blocks c) ≡ checks_of (in_catch [] c)
asked_catch blocks c = asked_both (check_sites (in_caught c.kind)) (at_label blocks c.label)
    ∙ sym (asked_both (check_sites (in_caught c.kind)) (at_label [] c.label))

asked_catches : (blocks : Blocks) (cs : List TryTableCatch) → checks_of (flat_map (in_catch blocks) cs) ≡ flat_map (λ c. checks_of (in_catch [] c)) cs
asked_catches blocks [] = refl
asked_catches blocks (c ∷ cs) =
    asked_both (in_catch blocks c) (flat_map (in_catch blocks) cs)
    ∙ (ap (λ asks. asks ++ checks_of (flat_map (in_catch blocks) cs)) (asked_catch blocks c)
    ∙ ap (λ asks. checks_of (in_catch [] c) ++ asks) (asked_catches blocks cs))

pub asked_try_table : (blocks : Blocks) (t : TryTable)
    → checks_of (in_try_table blocks t) ≡ in_type_use t.block.ty ++ (flat_map (λ c. checks_of (in_catch [] c)) t.catches ++ if_there in_id t.block.label)
asked_try_table blocks t =
    ap (λ asks. in_type_use t.block.ty ++ asks)
    (asked_both (flat_map (in_catch blocks) t.catches) (Begins blocks (mark_of_option t.block.label) ∷ [])
    ∙ (ap (λ asks. asks ++ (mark_asked (mark_of_option t.block.label) ++ [])) (asked_catches blocks t.catches)
    ∙ ap (λ asks. flat_map (λ c. checks_of (in_catch [] c)) t.catches ++ asks) (append-nil (mark_asked (mark_of_option t.block.label))
    ∙ sym (asked_label t.block.label))))

asked_labels : (blocks : Blocks) (ls : List Index) → checks_of (flat_map (at_label blocks) ls) ≡ map InnerIndex ls
asked_labels blocks [] = refl
asked_labels blocks (l ∷ ls) = ap (λ asks. InnerIndex l ∷ asks) (asked_labels blocks ls)

pub asked_br_table : (blocks : Blocks) (t : BrTableIndices) → checks_of (in_br_table blocks t) ≡ map InnerIndex t.labels ++ InnerIndex t.default ∷ []
asked_br_table blocks t = asked_both (flat_map (at_label blocks) t.labels) (at_label blocks t.default)
    ∙ ap (λ asks. asks ++ InnerIndex t.default ∷ []) (asked_labels blocks t.labels)

pub asked_anywhere_try_table : (blocks : Blocks) (t : TryTable) → checks_of (in_try_table blocks t) ≡ checks_of (in_try_table [] t)
asked_anywhere_try_table blocks t = asked_try_table blocks t ∙ sym (asked_try_table [] t)

pub asked_anywhere_br_table : (blocks : Blocks) (t : BrTableIndices) → checks_of (in_br_table blocks t) ≡ checks_of (in_br_table [] t)
asked_anywhere_br_table blocks t = asked_br_table blocks t ∙ sym (asked_br_table [] t)

-- one more instruction
pub visits_next : {V : Type 0} {told : V → Check → V → Type 0} {a b c : V} (h : BodyContext) (is : List Instruction) (n : ℕ) (i d : Instruction)
    → n < length is → i ≡ get_or is n d
    → Visits told a (checks_of (in_instrs h (take n is))) b → Visits told b (checks_of (in_instr (after_all h (in_instrs h (take n is))) i)) c
    → Visits told a (checks_of (in_instrs h (take (n + 1) is))) c
visits_next {told = told} {a} {c = c} h is n i d lt at before next =
    let there = after_all h (in_instrs h (take n is)) in
    let more : in_instrs h (take (n + 1) is) ≡ in_instrs h (take n is) ++ in_instr there i =
    ap (in_instrs h) (take_more is n d lt ∙ ap (λ y. take n is ++ y ∷ []) (sym at))
    ∙ (instrs-append h (take n is) (i ∷ []) ∙ ap (λ ss. in_instrs h (take n is) ++ ss) (append-nil (in_instr there i))) in
    subst (λ asks. Visits told a asks c) (sym (ap checks_of more ∙ asked_both (in_instrs h (take n is)) (in_instr there i))) (visits_both before next)

-- the checks of handlers
asked_handle : (blocks : Blocks) (h : Handle) → checks_of (in_handle blocks h) ≡ checks_of (in_handle [] h)
asked_handle blocks (handle.OnLabel e l) = refl
asked_handle blocks (handle.OnSwitch e) = refl

asked_each_handle : (blocks : Blocks) (hs : List Handle) → checks_of (flat_map (in_handle blocks) hs) ≡ flat_map (λ h. checks_of (in_handle [] h)) hs
asked_each_handle blocks [] = refl
asked_each_handle blocks (h ∷ hs) =
    asked_both (in_handle blocks h) (flat_map (in_handle blocks) hs)
    ∙ (ap (λ asks. asks ++ checks_of (flat_map (in_handle blocks) hs)) (asked_handle blocks h)
    ∙ ap (λ asks. checks_of (in_handle [] h) ++ asks) (asked_each_handle blocks hs))

pub asked_handlers : (blocks : Blocks) (t : ResumeTable)
    → checks_of (in_handlers blocks t) ≡ flat_map (λ h. checks_of (in_handle [] h)) t.handlers ++ uncovered_check form.StackSwitching
asked_handlers blocks t =
    asked_both (flat_map (in_handle blocks) t.handlers) (check_sites (uncovered_check form.StackSwitching))
    ∙ ap (λ asks. asks ++ uncovered_check form.StackSwitching) (asked_each_handle blocks t.handlers)

pub asked_anywhere_handlers : (blocks : Blocks) (t : ResumeTable) (front : List Site)
    → checks_of (front ++ in_handlers blocks t) ≡ checks_of (front ++ in_handlers [] t)
asked_anywhere_handlers blocks t front =
    asked_both front (in_handlers blocks t) ∙ (ap (λ asks. checks_of front ++ asks) (asked_handlers blocks t ∙ sym (asked_handlers [] t))
    ∙ sym (asked_both front (in_handlers [] t)))

-- the checks of sites, and further checks after them
pub asked_behind : (sites : List Site) (asks : List Check) → checks_of (sites ++ check_sites asks) ≡ checks_of sites ++ asks
asked_behind sites asks = asked_both sites (check_sites asks) ∙ ap (λ more. checks_of sites ++ more) (asked_asking asks)

pub asked_list : {A : Type 0} (f : A → List Site) (xs : List A) (asks : List Check)
    → checks_of (flat_map f xs ++ check_sites asks) ≡ flat_map (λ x. checks_of (f x)) xs ++ asks
asked_list f xs asks = asked_behind (flat_map f xs) asks ∙ ap (λ more. more ++ asks) (asked_each f xs)

-- the id of a signature that names share is visited only if there is no name
pub shared_by_none : {N : Type 0} (names : List N) (id : Option Id) → (length names == 0) ≡ true → in_shared_id names id ≡ if_there in_id id
shared_by_none [] id none = refl
shared_by_none (name ∷ names) id none = let e : length (name ∷ names) ≡ 0 = (Decides-eqb (length (name ∷ names)) 0).0 none in absurd (omega arith)

pub shared_by_some : {N : Type 0} (names : List N) (id : Option Id) → (length names == 0) ≡ false → in_shared_id names id ≡ []
shared_by_some [] id some = absurd cc
shared_by_some (name ∷ names) id some = refl
