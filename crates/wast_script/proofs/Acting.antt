-- Actions, what assertions run, and commands: the steps of their rules.
use Rattle.std.proofs.Common.{◌≡◌, ◌∙◌, ℕ, ◌≤◌, Bool, true, false, List, [], length, codes, Option, None, Some, refl, sym, ap, subst, arith}
use Rattle.std.proofs.lemmas.List.{length-map}
use Rattle.std.specs.Borrow.{Bor}
use Rattle.wat_grammar.specs.Parts.{◌>>=◌}
use Rattle.wat_tokens.specs.declared.tokens.Placed.{Placed}
use Rattle.wat_syntax.specs.Tree.{Span, Id}
use Rattle.wat_syntax.specs.Tokens.{Toks, Parse, rparen}
use Rattle.wat_syntax.specs.Values.{id, name}
use Rattle.wat_syntax.specs.Bare.{bare_text, bare_id_option}
use Rattle.wast_script.specs.declared.values.Part.{Part}
use Rattle.wast_script.specs.declared.commands.ActionKind.{ActionKind}
use Rattle.wast_script.specs.declared.commands.ActionKind.TheVariants as action_kind
use Rattle.wast_script.specs.declared.commands.ScriptModule.{ScriptModule}
use Rattle.wast_script.specs.declared.commands.Action as code_action
use Rattle.wast_script.specs.declared.commands.Execution as code_execution
use Rattle.wast_script.specs.declared.commands.Execution.TheVariants as run
use Rattle.wast_script.specs.declared.words.Use.TheVariants as usage
use Rattle.wast_script.specs.declared.reader.Lists.{Lists}
use Rattle.wast_script.specs.declared.reader.Reader.{Reader}
use Rattle.wast_script.specs.Constants.{Value, is_form, form, values}
use Rattle.wast_script.specs.Grammar.{Action, Execution, Runs, Instantiates, Kind, AssertReturn, action, arguments, in_parentheses, run_action}
use Rattle.wast_script.specs.Grammar.{execution, message, about_run, return_command, exception_command, AssertException, invocation}
use Rattle.wast_script.specs.Scripts.{part, value_in, module_in, action_in, execution_in}
use Rattle.wast_script.specs.Readers.{left, all_bare, read_values, IsFirst, HaveLanes, HasArguments, HasExecuted, Decides, Expects, Accepts, Finds, Reads}
use Rattle.wast_script.proofs.Parts.{part_on, bare_same, longer}
use Rattle.wast_script.proofs.Goes.{same_fault, as_goes}
use Rattle.wast_script.proofs.Steps.{Steps, both, turned, by_goes, by_decides, by_expects, by_finds, by_reads, as_steps, all_read}

-- a part that is made of another one
pub wrapped : {S T : Type 0} (rule : Toks → Parse S) (make : S → T) (old new : Reader) (part : List Value → S) (has has_too : ℕ → Type 0)
    → Reads rule old new part has → ((n : ℕ) → has n → has_too n)
    → Reads (λ toks. rule toks >>= λ x. Some (make x.0, x.1)) old new (λ vs. make (part vs)) has_too
wrapped rule make old new part has has_too r more =
    all_read (λ toks. rule toks >>= λ x. Some (make x.0, x.1)) old new (λ vs. make (part vs)) has_too
    (by_reads rule old new part has (λ x. Some (make x.0, x.1)) r) (λ h l. more _ (r.within h l))

-- a part without values, or one that is the same whatever the values are
pub decided : {T : Type 0} (rule : Toks → Parse T) (old new : Reader) (x : T) (has : ℕ → Type 0)
    → Decides rule old new x → ((n : ℕ) → has n) → Reads rule old new (λ vs. x) has
decided rule old new x has d all =
    all_read rule old new (λ vs. x) has (by_goes old new (rule (left old)) (Some (x, left new)) d.lists d.tokens (as_goes rule old new x d)) (λ h l. all _)

pub plain_decided : {T : Type 0} (rule : Toks → Parse T) (old new : Reader) (part : List Value → T) (has : ℕ → Type 0)
    → Decides rule old new (part []) → ((vs : List Value) → part vs ≡ part []) → ((n : ℕ) → has n)
    → Reads rule old new part has
plain_decided rule old new part has d plain all = subst (λ p. Reads rule old new p has) (λ i vs. sym (plain vs) i) (decided rule old new (part []) has d all)

-- the values are the same after a terminal
same_values : (rule : Toks → Option Toks) (old new : Reader) → Expects rule old new → read_values old.lists ≡ read_values new.lists
same_values rule old new e = ap read_values (sym e.lists)

-- an action, by all values
abbrev pub action_in_of : Span → ActionKind → Option Id → Bor (List ℕ) → Part → List Value → Action
action_in_of span k m nm args vs = record { span = span; kind = k; «module» = bare_id_option m; name = nm.now; arguments = part args vs }

-- an action
pub action_read : (k : ActionKind) (a b c d e : Reader) (span : Span) (m : Option Id) (nm : Bor (List ℕ)) (args : Part)
    → span ≡ (left a).before → Finds id a b (bare_id_option m)
    → Decides name b c (bare_text nm) → Reads (arguments k) c d (part args) (λ n. args.end ≤ n) → Expects rparen d e
    → Reads (action k) a e (action_in_of span k m nm args) (λ n. args.end ≤ n)
action_read k a b c d e span m nm args at finds named takes close =
    all_read (action k) a e (action_in_of span k m nm args) (λ n. args.end ≤ n)
    (turned a e _ _ _
    (both a b e _ _ _ (by_finds id a b (bare_id_option m)
    (λ m. name m.1 >>= λ nm. arguments k nm.1 >>= λ args. rparen args.1 >>= λ rest. at_end m.0 nm.0.now args.0 rest) finds)
    (both b c e _ _ _ (by_decides name b c (bare_text nm)
    (λ nm. arguments k nm.1 >>= λ args. rparen args.1 >>= λ rest. at_end (bare_id_option m) nm.0.now args.0 rest) named)
    (both c d e _ _ _ (by_reads (arguments k) c d (part args) (λ n. args.end ≤ n)
    (λ args. rparen args.1 >>= λ rest. at_end (bare_id_option m) nm.now args.0 rest) takes)
    (by_expects rparen d e (at_end (bare_id_option m) nm.now (part args (read_values d.lists))) close))))
    (λ h l. ap (λ s. let o : Action × Toks = (
      record {
        span = s;
        kind = k;
        «module» = bare_id_option m;
        name = nm.now;
        arguments = part args (read_values d.lists);
      },
      left e,
    ) in Some o) (sym at)
    ∙ ap (λ vs. let o : Action × Toks = (
      record { span = span; kind = k; «module» = bare_id_option m; name = nm.now; arguments = part args vs },
      left e,
    ) in Some o) (same_values rparen d e close)))
    (λ h l. subst (λ (k : Lists). args.end ≤ length k.values.items) (sym close.lists)
    (takes.within (close.clean h) (subst HaveLanes (sym (named.lists ∙ finds.lists)) l)))
  where
    at_end : Option Id → List ℕ → List Value → Toks → Parse Action
    at_end m nm args rest = Some (record { span = (left a).before; kind = k; «module» = m; name = nm; arguments = args }, rest)

-- what an assertion runs, if other values were added later
pub execution_on : (tokens : List Placed) (e : code_execution.Execution) (xs zs : List Value) (n : ℕ) → HasExecuted n e → n ≡ length xs → IsFirst xs zs
    → execution_in tokens zs e ≡ execution_in tokens xs e
execution_on tokens (run.Action a) xs zs n h e f =
    ap (λ vs. Runs (record { span = a.span; kind = a.kind; «module» = bare_id_option a.«module»; name = a.name.now; arguments = vs }))
    (part_on a.arguments xs zs n h e f)
execution_on tokens (run.Module m) xs zs n h e f = refl

pub has_on : (e : code_execution.Execution) (m n : ℕ) → m ≤ n → HasExecuted m e → HasExecuted n e
has_on (run.Action a) m n few h = omega (arith, few, h)
has_on (run.Module x) m n few h = tt

pub value_count : (l : Lists) → length (read_values l) ≡ length l.values.items
value_count l = length-map l.values.items (value_in l.lanes.items)

pub grown : (b c : Reader) → IsFirst (read_values b.lists) (read_values c.lists) → length b.lists.values.items ≤ length c.lists.values.items
grown b c f = let e : length (read_values b.lists) ≡ length b.lists.values.items = value_count b.lists in
    let g : length (read_values c.lists) ≡ length c.lists.values.items = value_count c.lists in
    let few : length (read_values b.lists) ≤ length (read_values c.lists) = longer (read_values b.lists) (read_values c.lists) f in omega (arith, e, g, few)

-- `assert_return`: what is run, and the results
pub return_read : (a b c d : Reader) (e : code_execution.Execution) (results : Part)
    → Reads execution a b (λ vs. execution_in (all_bare b) vs e) (λ n. HasExecuted n e)
    → Reads (values usage.Result) b c (part results) (λ n. results.end ≤ n) → Expects rparen c d
    → Reads return_command a d (λ vs. AssertReturn (execution_in (all_bare d) vs e) (part results vs)) (λ n. HasExecuted n e × (results.end ≤ n))
return_read a b c d e results runs takes close =
    all_read return_command a d (λ vs. AssertReturn (execution_in (all_bare d) vs e) (part results vs)) (λ n. HasExecuted n e × (results.end ≤ n))
    (turned a d _ _ _ s in_other_words)
    (λ h l. subst (λ (k : Lists). HasExecuted (length k.values.items) e × (results.end ≤ length k.values.items)) (sym close.lists)
    (has_on e _ _ (grown b c (takes.values (close.clean h) (mid h l))) (runs.within (takes.clean (close.clean h)) l), takes.within (close.clean h) (mid h l)))
  where
    s : Steps a d (return_command (left a))
        (Some (AssertReturn (execution_in (all_bare b) (read_values b.lists) e) (part results (read_values c.lists)), left d))
    s = both a b d _ _ _ (by_reads execution a b (λ vs. execution_in (all_bare b) vs e) (λ n. HasExecuted n e)
        (λ x. values usage.Result x.1 >>= λ rs. rparen rs.1 >>= λ rest. Some (AssertReturn x.0 rs.0, rest)) runs)
        (both b c d _ _ _ (by_reads (values usage.Result) b c (part results) (λ n. results.end ≤ n)
        (λ rs. rparen rs.1 >>= λ rest. Some (AssertReturn (execution_in (all_bare b) (read_values b.lists) e) rs.0, rest)) takes)
        (by_expects rparen c d
        (λ rest. Some (AssertReturn (execution_in (all_bare b) (read_values b.lists) e) (part results (read_values c.lists)), rest)) close))

    mid : d.fault ≡ None → HaveLanes a.lists → HaveLanes b.lists
    mid h l = runs.lanes (takes.clean (close.clean h)) l

    at_end : Kind → Parse Kind
    at_end k = Some (k, left d)

    in_other_words : d.fault ≡ None → HaveLanes a.lists
        → at_end (AssertReturn (execution_in (all_bare b) (read_values b.lists) e) (part results (read_values c.lists)))
        ≡ at_end (AssertReturn (execution_in (all_bare d) (read_values d.lists) e) (part results (read_values d.lists)))
    in_other_words h l =
        ap (λ x. let o : Kind × Toks = (AssertReturn x (part results (read_values c.lists)), left d) in Some o)
        (sym (execution_on (all_bare b) e (read_values b.lists) (read_values c.lists) (length b.lists.values.items)
        (runs.within (takes.clean (close.clean h)) l) (sym (value_count b.lists)) (takes.values (close.clean h) (mid h l))))
        ∙ ap (λ ts. let o : Kind × Toks = (AssertReturn (execution_in ts (read_values c.lists) e) (part results (read_values c.lists)), left d) in
        Some o) (sym (bare_same b d (close.tokens ∙ takes.tokens)))
        ∙ ap (λ vs. let o : Kind × Toks = (AssertReturn (execution_in (all_bare d) vs e) (part results vs), left d) in Some o) (same_values rparen c d close)

-- a reader that has taken tokens, by another rule for those that are left
pub moved : {T : Type 0} (rule rule_too : Toks → Parse T) (a b c : Reader) (part : List Value → T) (has : ℕ → Type 0)
    → b.lists ≡ a.lists → b.tokens ≡ a.tokens → b.fault ≡ a.fault
    → rule (left a) ≡ rule_too (left b) → Reads rule_too b c part has → Reads rule a c part has
moved rule rule_too a b c part has lists tokens fault same r =
    all_read rule a c part has
    (both a b c _ _ _ (by_goes a b (rule (left a)) (rule_too (left b)) lists tokens (same_fault a b (rule (left a)) (rule_too (left b)) fault same))
    (as_steps rule_too b c part has r))
    (λ h l. r.within h (subst HaveLanes (sym lists) l))

-- the arguments of `get`, which has none
pub no_arguments : (a : Reader) (p : Part) → ((vs : List Value) → part p vs ≡ []) → p.end ≡ 0 → Reads (arguments action_kind.Get) a a (part p) (λ n. p.end ≤ n)
no_arguments a p none last =
    all_read (arguments action_kind.Get) a a (part p) (λ n. p.end ≤ n)
    (by_goes a a (arguments action_kind.Get (left a)) (Some (part p (read_values a.lists), left a)) refl refl
    (same_fault a a (arguments action_kind.Get (left a)) (Some (part p (read_values a.lists), left a)) refl
    (ap (λ vs. let o : List Value × Toks = (vs, left a) in Some o) (sym (none (read_values a.lists))))))
    (λ h l. omega (arith, last))

-- `(invoke`, and an action
pub invocation_read : (a b c : Reader) (part : List Value → Action) (has : ℕ → Type 0) → Expects (form (codes "invoke")) a b
    → Reads (action action_kind.Invoke) b c part has → Reads invocation a c part has
invocation_read a b c part has e r =
    all_read invocation a c part has
    (both a b c _ _ _ (by_expects (form (codes "invoke")) a b (action action_kind.Invoke) e) (as_steps (action action_kind.Invoke) b c part has r))
    (λ h l. r.within h (subst HaveLanes (sym e.lists) l))

-- an action with its parenthesis
pub get_read : (a b c : Reader) (ts : List Placed) (x : code_action.Action) → Accepts (form (codes "get")) a b true
    → Reads (action action_kind.Get) b c (λ vs. action_in vs x) (λ n. HasArguments n x)
    → Reads run_action a c (λ vs. execution_in ts vs (run.Action x)) (λ n. HasArguments n x)
get_read a b c ts x m r =
    moved run_action (λ toks. action action_kind.Get toks >>= λ y. Some (Runs y.0, y.1)) a b c
    (λ vs. execution_in ts vs (run.Action x)) (λ n. HasArguments n x) m.lists m.tokens m.fault
    (ap (λ (o : Option Toks). elim o as (λ o. Parse Execution) [
      | Some t ↦ action action_kind.Get t >>= λ y. Some (Runs y.0, y.1)
      | None ↦ invocation (left a) >>= λ y. Some (Runs y.0, y.1)
    ]) (m.there refl))
    (wrapped (action action_kind.Get) Runs b c (λ vs. action_in vs x) (λ n. HasArguments n x) (λ n. HasArguments n x) r (λ n h. h))

pub other_read : (a b c : Reader) (ts : List Placed) (x : code_action.Action)
    → Accepts (form (codes "get")) a b false → Reads invocation b c (λ vs. action_in vs x) (λ n. HasArguments n x)
    → Reads run_action a c (λ vs. execution_in ts vs (run.Action x)) (λ n. HasArguments n x)
other_read a b c ts x m r =
    moved run_action (λ toks. invocation toks >>= λ y. Some (Runs y.0, y.1)) a b c
    (λ vs. execution_in ts vs (run.Action x)) (λ n. HasArguments n x) m.lists m.tokens m.fault
    (ap (λ (o : Option Toks). elim o as (λ o. Parse Execution) [
      | Some t ↦ action action_kind.Get t >>= λ y. Some (Runs y.0, y.1)
      | None ↦ invocation (left a) >>= λ y. Some (Runs y.0, y.1)
    ]) (m.absent refl)
    ∙ ap (λ t. invocation t >>= λ y. Some (Runs y.0, y.1)) (sym (m.stays refl)))
    (wrapped invocation Runs b c (λ vs. action_in vs x) (λ n. HasArguments n x) (λ n. HasArguments n x) r (λ n h. h))

-- what is run: a module, or an action
abbrev by_module : Bool → Toks → Parse Execution
by_module b toks = elim b [ true ↦ in_parentheses toks >>= λ m. Some (Instantiates m.0, m.1) | false ↦ run_action toks ]

pub module_run : (a b : Reader) (m : ScriptModule) → is_form (codes "module") (left a) ≡ true → Decides in_parentheses a b (module_in (all_bare b) m)
    → Reads execution a b (λ vs. execution_in (all_bare b) vs (run.Module m)) (λ n. HasExecuted n (run.Module m))
module_run a b m is d =
    moved execution (λ toks. in_parentheses toks >>= λ m. Some (Instantiates m.0, m.1)) a a b
    (λ vs. execution_in (all_bare b) vs (run.Module m)) (λ n. HasExecuted n (run.Module m)) refl refl refl
    (ap (λ x. by_module x (left a)) is)
    (wrapped in_parentheses Instantiates a b (λ vs. module_in (all_bare b) m) (λ n. HasExecuted n (run.Module m)) (λ n. HasExecuted n (run.Module m))
    (decided in_parentheses a b (module_in (all_bare b) m) (λ n. HasExecuted n (run.Module m)) d (λ n. tt)) (λ n h. h))

pub action_run : (a b : Reader) (part : List Value → Execution) (has : ℕ → Type 0)
    → is_form (codes "module") (left a) ≡ false → Reads run_action a b part has → Reads execution a b part has
action_run a b part has is r = moved execution run_action a a b part has refl refl refl (ap (λ x. by_module x (left a)) is) r

-- a part, and a part without values after it
pub then_decides : {R S T : Type 0} (rule : Toks → Parse R) (second : Toks → Parse S) (make : R → S → T) (a b c : Reader)
    (part : List Value → R) (has : ℕ → Type 0) (x : S) → Reads rule a b part has → Decides second b c x
    → Reads (λ toks. rule toks >>= λ y. second y.1 >>= λ z. Some (make y.0 z.0, z.1)) a c (λ vs. make (part vs) x) has
then_decides {T = T} rule second make a b c part has x r d =
    all_read (λ toks. rule toks >>= λ y. second y.1 >>= λ z. Some (make y.0 z.0, z.1)) a c (λ vs. make (part vs) x) has
    (turned a c _ _ _
    (both a b c _ _ _ (by_reads rule a b part has (λ y. second y.1 >>= λ z. Some (make y.0 z.0, z.1)) r)
    (by_decides second b c x (λ z. Some (make (part (read_values b.lists)) z.0, z.1)) d))
    (λ h l. ap (λ vs. let o : T × Toks = (make (part vs) x, left c) in Some o) (ap read_values (sym d.lists))))
    (λ h l. subst (λ (k : Lists). has (length k.values.items)) (sym d.lists) (r.within (d.clean h) l))

-- a part, and a terminal after it
pub then_expects : {R T : Type 0} (rule : Toks → Parse R) (second : Toks → Option Toks) (make : R → T)
    (a b c : Reader) (part : List Value → R) (has : ℕ → Type 0) → Reads rule a b part has → Expects second b c
    → Reads (λ toks. rule toks >>= λ y. second y.1 >>= λ rest. Some (make y.0, rest)) a c (λ vs. make (part vs)) has
then_expects {T = T} rule second make a b c part has r d =
    all_read (λ toks. rule toks >>= λ y. second y.1 >>= λ rest. Some (make y.0, rest)) a c (λ vs. make (part vs)) has
    (turned a c _ _ _
    (both a b c _ _ _ (by_reads rule a b part has (λ y. second y.1 >>= λ rest. Some (make y.0, rest)) r)
    (by_expects second b c (λ rest. Some (make (part (read_values b.lists)), rest)) d))
    (λ h l. ap (λ vs. let o : T × Toks = (make (part vs), left c) in Some o) (ap read_values (sym d.lists))))
    (λ h l. subst (λ (k : Lists). has (length k.values.items)) (sym d.lists) (r.within (d.clean h) l))

-- `assert_exception`: what is run
pub exception_read : (a b c : Reader) (e : code_execution.Execution)
    → Reads execution a b (λ vs. execution_in (all_bare b) vs e) (λ n. HasExecuted n e) → Expects rparen b c
    → Reads exception_command a c (λ vs. AssertException (execution_in (all_bare c) vs e)) (λ n. HasExecuted n e)
exception_read a b c e r d =
    subst (λ ts. Reads exception_command a c (λ vs. AssertException (execution_in ts vs e)) (λ n. HasExecuted n e)) (sym (bare_same b c d.tokens))
    (then_expects execution rparen AssertException a b c (λ vs. execution_in (all_bare b) vs e) (λ n. HasExecuted n e) r d)

-- what an assertion runs, and a message
pub about_run_read : (a b c : Reader) (e : code_execution.Execution) (text : Bor (List ℕ))
    → Reads execution a b (λ vs. execution_in (all_bare b) vs e) (λ n. HasExecuted n e) → Decides message b c text.now
    → Reads about_run a c (λ vs. (execution_in (all_bare c) vs e, text.now)) (λ n. HasExecuted n e)
about_run_read a b c e text r d =
    subst (λ ts. Reads about_run a c (λ vs. (execution_in ts vs e, text.now)) (λ n. HasExecuted n e)) (sym (bare_same b c d.tokens))
    (then_decides execution message (λ x t. let o : Execution × List ℕ = (x, t) in o) a b c
    (λ vs. execution_in (all_bare b) vs e) (λ n. HasExecuted n e) text.now r d)
