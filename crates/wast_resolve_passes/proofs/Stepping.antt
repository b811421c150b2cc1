-- The loop invariant of a walk over the instructions of a body.
use Rattle.std.proofs.Common.{◌≡◌, ℕ, suc, ◌+◌, ◌<◌, ◌≤◌, List, [], ◌∷◌, ◌++◌, None, refl, sym, ◌∙◌, ap, length, get_or, drop, take, arith, add-one, subst}
use Rattle.std.proofs.Math.ListN.{set, length-set}
use Rattle.std.proofs.Math.Seq.{drop-cons, take-suc}
use Rattle.std.proofs.lemmas.List.{append-nil, drop-drop, drop-set-lt, set-get_or, take_more_set, take-append-drop, take_all}
use Rattle.wast_base.specs.Faults.{Diagnostic}
use Rattle.wast_base.specs.Blocks.{Blocks}
use Rattle.wast_tree_nodes.specs.Sites.{Locals, BodyContext, after_all, context_after, in_instr, in_instrs}
use Rattle.wast_tree_nodes.proofs.Behind.{after-append, instrs-append}
use Rattle.wast_tree_map.specs.Mapped.{Change, mapped_instr, mapped_instrs}
use Rattle.wast_resolve_passes.specs.Tree.{Instruction}
use Rattle.wast_resolve_rules.specs.Scopes.{Scope}
use Rattle.wast_resolve_rules.specs.Demands.{first_unmet, Answers, site_demand, site_demands, open_counts, HasMany}
use Rattle.wast_resolve_passes.specs.Standing.{context_of}
use Rattle.wast_resolve_rules.proofs.Counted.{many_sites}
use Rattle.wast_resolve_passes.proofs.Moving.{stands_by}
use Rattle.wast_resolve_names.proofs.Parts.{both_met, first_fails, second_fails}

module _ (f : Change) where
  mapped-append : (h : BodyContext) (xs ys : List Instruction)
      → mapped_instrs f h (xs ++ ys) ≡ mapped_instrs f h xs ++ mapped_instrs f (after_all h (in_instrs h xs)) ys
  mapped-append h [] ys = refl
  mapped-append h (x ∷ xs) ys =
      ap (λ zs. mapped_instr f h x ∷ zs)
      (mapped-append (context_after h x) xs ys
      ∙ ap (λ g. mapped_instrs f (context_after h x) xs ++ mapped_instrs f g ys) (sym (after-append h (in_instr h x) (in_instrs (context_after h x) xs))))

-- the first i instructions are walked, and nows is the list after that
pub record IsPartway (c : Scope) (f : Change) (start : BodyContext) (olds nows : List Instruction) (i : ℕ) : Type 0 where
  pub len : length nows ≡ length olds
  pub left : drop i nows ≡ drop i olds
  pub met : first_unmet (site_demands c (in_instrs start (take i olds))) ≡ None
  pub become : take i nows ≡ mapped_instrs f start (take i olds)

-- the context of the next instruction
abbrev pub reached : BodyContext → List Instruction → ℕ → BodyContext
reached start olds i = after_all start (in_instrs start (take i olds))

-- the instruction at a position from which on nothing has changed
at_place : (olds nows : List Instruction) (i : ℕ) (x : Instruction) → length nows ≡ length olds → drop i nows ≡ drop i olds → i < length olds
    → x ≡ get_or nows i x → get_or olds i x ≡ x
at_place olds nows i x len left lt is =
    let a : drop i nows ≡ get_or nows i x ∷ drop (suc i) nows = drop-cons nows i x (omega (arith, len)) in
    let b : drop i olds ≡ get_or olds i x ∷ drop (suc i) olds = drop-cons olds i x lt in
    let c : get_or nows i x ∷ drop (suc i) nows ≡ get_or olds i x ∷ drop (suc i) olds = sym a ∙ (left ∙ b) in
    cc

one_more : (olds : List Instruction) (i : ℕ) (x : Instruction) → i < length olds → get_or olds i x ≡ x → take (i + 1) olds ≡ take i olds ++ x ∷ []
one_more olds i x lt item = ap (λ n. take n olds) (add-one i) ∙ (take-suc olds i x lt ∙ ap (λ z. take i olds ++ z ∷ []) item)

sites_one_more : (start : BodyContext) (olds : List Instruction) (i : ℕ) (x : Instruction) → i < length olds → get_or olds i x ≡ x
    → in_instrs start (take (i + 1) olds) ≡ in_instrs start (take i olds) ++ in_instr (reached start olds i) x
sites_one_more start olds i x lt item =
    ap (in_instrs start) (one_more olds i x lt item)
    ∙ (instrs-append start (take i olds) (x ∷ []) ∙ ap (λ zs. in_instrs start (take i olds) ++ zs) (append-nil (in_instr (reached start olds i) x)))

-- the first i instructions are walked, with the enclosing blocks s before and t after them
pub record IsAlong (s t : Blocks) (olds nows : List Instruction) (i : ℕ) : Type 0 where
  pub len : length nows ≡ length olds
  pub left : drop i nows ≡ drop i olds
  pub moved : (l : Locals) → t ≡ (reached (context_of l s) olds i).blocks

pub along_more : {s t u : Blocks} {olds nows : List Instruction} {i : ℕ} {x : Instruction} (y : Instruction) → IsAlong s t olds nows i
    → i < length olds → x ≡ get_or nows i x
    → ((l : Locals) → u ≡ (after_all (context_of l t) (in_instr (context_of l t) x)).blocks) → IsAlong s u olds (set nows i y) (i + 1)
along_more {s} {t} {u} {olds} {nows} {i} {x} y p lt is moves =
    let item = at_place olds nows i x p.len p.left lt is in
    record {
      len = length-set nows i y ∙ p.len;
      left = drop-set-lt (i + 1) nows i y (omega arith) ∙ rw (← drop-drop 1 i nows, ← drop-drop 1 i olds) (ap (drop 1) p.left);
      moved = λ l.
          let h = context_of l s in
          let there = stands_by l s (in_instrs h (take i olds)) t (p.moved l) in
          moves l
          ∙ (ap (λ (g : BodyContext). (after_all g (in_instr g x)).blocks) there
          ∙ ap (λ (g : BodyContext). g.blocks) (sym (ap (after_all h) (sites_one_more h olds i x lt item)
          ∙ after-append h (in_instrs h (take i olds)) (in_instr (reached h olds i) x))));
    }

module _ {c : Scope} {f : Change} {start : BodyContext} {olds nows : List Instruction} {i : ℕ} {x : Instruction}
    (p : IsPartway c f start olds nows i) (lt : i < length olds) (is : x ≡ get_or nows i x) where
  item : get_or olds i x ≡ x
  item = at_place olds nows i x p.len p.left lt is

  more : take (i + 1) olds ≡ take i olds ++ x ∷ []
  more = one_more olds i x lt item

  sites_more : in_instrs start (take (i + 1) olds) ≡ in_instrs start (take i olds) ++ in_instr (reached start olds i) x
  sites_more = sites_one_more start olds i x lt item

  sites_all : in_instrs start olds ≡ in_instrs start (take i olds) ++
      (in_instr (reached start olds i) x ++ in_instrs (context_after (reached start olds i) x) (drop (suc i) olds))
  sites_all =
      ap (in_instrs start) (sym (take-append-drop i olds))
      ∙ (instrs-append start (take i olds) (drop i olds)
      ∙ ap (λ zs. in_instrs start (take i olds) ++ in_instrs (reached start olds i) zs) (drop-cons olds i x lt ∙ ap (λ z. z ∷ drop (suc i) olds) item))

  pub partway_more : {y : Instruction} → first_unmet (site_demands c (in_instr (reached start olds i) x)) ≡ None
      → y ≡ mapped_instr f (reached start olds i) x → IsPartway c f start olds (set nows i y) (i + 1)
  partway_more {y} met new = record {
    len = length-set nows i y ∙ p.len;
    left = drop-set-lt (i + 1) nows i y (omega arith) ∙ rw (← drop-drop 1 i nows, ← drop-drop 1 i olds) (ap (drop 1) p.left);
    met = ap (λ zs. first_unmet (site_demands c zs)) sites_more
        ∙ both_met (site_demand c) (in_instrs start (take i olds)) (in_instr (reached start olds i) x) p.met met;
    become =
        take_more_set nows i y (omega (arith, p.len))
        ∙ (ap (λ zs. zs ++ y ∷ []) p.become ∙ (ap (λ z. mapped_instrs f start (take i olds) ++ z ∷ []) new
        ∙ (sym (mapped-append f start (take i olds) (x ∷ [])) ∙ ap (mapped_instrs f start) (sym more))));
  }

  pub partway_stops : (K M : Type 0) (t : Diagnostic) → Answers K M t (first_unmet (site_demands c (in_instr (reached start olds i) x)))
      → Answers K M t (first_unmet (site_demands c (in_instrs start olds)))
  partway_stops K M t failed =
      let before = in_instrs start (take i olds) in
      let here = in_instr (reached start olds i) x in
      let rest = in_instrs (context_after (reached start olds i) x) (drop (suc i) olds) in
      subst (λ ss. Answers K M t (first_unmet (site_demands c ss))) (sym sites_all)
      (second_fails (site_demand c) before (here ++ rest) K M t p.met (first_fails (site_demand c) here rest K M t failed))

  pub partway_many : HasMany (open_counts (in_instr (reached start olds i) x)) → HasMany (open_counts (in_instrs start olds))
  partway_many many =
      let before = in_instrs start (take i olds) in
      let here = in_instr (reached start olds i) x in
      let rest = in_instrs (context_after (reached start olds i) x) (drop (suc i) olds) in
      many_sites (in_instrs start olds) before here rest sites_all many

-- all instructions are walked
module _ {c : Scope} {f : Change} {start : BodyContext} {olds nows : List Instruction} {i : ℕ} (p : IsPartway c f start olds nows i)
    (le : length olds ≤ i) where
  pub all_met : first_unmet (site_demands c (in_instrs start olds)) ≡ None
  all_met = subst (λ is. first_unmet (site_demands c (in_instrs start is)) ≡ None) (take_all i olds le) p.met

  pub all_become : nows ≡ mapped_instrs f start olds
  all_become = sym (take_all i nows (omega (arith, p.len, le))) ∙ (p.become ∙ ap (mapped_instrs f start) (take_all i olds le))

-- an instruction that is stored unchanged
put_back : (nows : List Instruction) (i : ℕ) (x : Instruction) → x ≡ get_or nows i x → set nows i x ≡ nows
put_back nows i x is = ap (set nows i) is ∙ set-get_or nows i x

-- the same after a trial that failed
pub along_tried : {s t u : Blocks} {olds nows : List Instruction} {i : ℕ} {x y : Instruction} → IsAlong s t olds nows i → x ≡ get_or nows i x → y ≡ x
    → u ≡ t → IsAlong s u olds (set nows i y) i
along_tried {s} {t} {u} {olds} {nows} {i} {x} {y} p is same still =
    let back : set nows i y ≡ nows = ap (set nows i) same ∙ put_back nows i x is in
    subst (λ ys. IsAlong s u olds ys i) (sym back) (subst (λ v. IsAlong s v olds nows i) (sym still) p)

pub partway_tried : {c : Scope} {f : Change} {start : BodyContext} {olds nows : List Instruction} {i : ℕ} {x y : Instruction}
    → IsPartway c f start olds nows i → x ≡ get_or nows i x → y ≡ x → IsPartway c f start olds (set nows i y) i
partway_tried {c} {f} {start} {olds} {nows} {i} {x} {y} p is same = subst (λ ys. IsPartway c f start olds ys i) (sym (ap (set nows i) same
    ∙ put_back nows i x is)) p
