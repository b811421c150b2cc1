-- The loop over commands: each command that is read is added, and those before it stay the same.
use Rattle.std.proofs.Common.{◌≡◌, ◌≢◌, ◌∙◌, ℕ, zero, suc, ◌+◌, ◌-◌, ◌<◌, ◌≤◌, List, [], ◌∷◌, ◌++◌, length, map, All}
use Rattle.std.proofs.Common.{Option, None, Some, refl, sym, ap, subst, arith, append_assoc, Bool, true, false, append-nil}
use Rattle.std.proofs.lemmas.List.{map_push}
use Rattle.std.proofs.lemmas.List.Elements.{All-nil, All-tail, All-same, All-push}
use Rattle.std.specs.Global.{Vec}
use Rattle.wat_grammar.specs.Parts.{◌>>=◌}
use Rattle.wat_tokens.specs.declared.tokens.Placed.{Placed}
use Rattle.wat_tokens.specs.declared.faults.TextFault.{TextFault}
use Rattle.wat_syntax.specs.Tree.{Span}
use Rattle.wat_syntax.specs.Tokens.{Toks, count}
use Rattle.wat_syntax.specs.Bare.{bare_placed}
use Rattle.wast_script.specs.declared.values.Number.{Number}
use Rattle.wast_script.specs.declared.values.Value as code_value
use Rattle.wast_script.specs.declared.commands.Action as code_action
use Rattle.wast_script.specs.declared.commands.ScriptModule.{ScriptModule}
use Rattle.wast_script.specs.declared.commands.CommandKind.{CommandKind}
use Rattle.wast_script.specs.declared.commands.CommandKind.TheVariants as kind
use Rattle.wast_script.specs.declared.commands.Command as code_command
use Rattle.wast_script.specs.declared.reader.Lists.{Lists}
use Rattle.wast_script.specs.declared.reader.Reader.{Reader}
use Rattle.wast_script.specs.Constants.{Value}
use Rattle.wast_script.specs.Grammar.{Acts, AssertReturn, AssertTrap, AssertExhaustion, AssertException, AssertSuspension}
use Rattle.wast_script.specs.Grammar.{Action, Command, command_or_end, threads_after, no_commands, commands_in, all_commands}
use Rattle.wast_script.specs.Grammar.{Module, Module_, lone_module, one_module, all_module, begins_command, script}
use Rattle.wast_script.specs.Scripts.{part, action_in, execution_in, kind_in, command_in, module_in}
use Rattle.wast_script.specs.Readers.{left, all_bare, read_values, read_commands, IsRefused, IsFirst, HasLanes, HasValues, HaveLanes}
use Rattle.wast_script.specs.Readers.{HaveValues, Reads, Pushes, Fails, IsNew, ReadsAll, with_commands, TakesCommand, TakesCommands}
use Rattle.wast_script.proofs.Faults.{none_refused, faulty, by_fault}
use Rattle.wast_script.proofs.Parts.{part_on, bare_same}
use Rattle.wast_script.proofs.Acting.{execution_on, has_on, value_count, grown}

action_on : (a : code_action.Action) (xs zs : List Value) (n : ℕ) → a.arguments.end ≤ n → n ≡ length xs → IsFirst xs zs → action_in zs a ≡ action_in xs a
action_on a xs zs n h e f =
    ap (λ vs. let o : Action = record { span = a.span; kind = a.kind; «module» = (action_in xs a).«module»; name = a.name.now; arguments = vs } in
    o) (part_on a.arguments xs zs n h e f)

-- a command, if other values were added later
kind_on : (tokens : List Placed) (k : CommandKind) (xs zs : List Value) (n : ℕ) → HasValues n k
    → n ≡ length xs → IsFirst xs zs → kind_in tokens zs k ≡ kind_in tokens xs k
kind_on tokens (kind.Action a) xs zs n h e f = ap Acts (action_on a xs zs n h e f)
kind_on tokens (kind.AssertReturn x results) xs zs n h e f =
    λ i. AssertReturn (execution_on tokens x xs zs n h.0 e f i) (part_on results xs zs n h.1 e f i)
kind_on tokens (kind.AssertTrap x text) xs zs n h e f = ap (λ y. AssertTrap y text.now) (execution_on tokens x xs zs n h e f)
kind_on tokens (kind.AssertExhaustion a text) xs zs n h e f = ap (λ y. AssertExhaustion y text.now) (action_on a xs zs n h e f)
kind_on tokens (kind.AssertException x) xs zs n h e f = ap AssertException (execution_on tokens x xs zs n h e f)
kind_on tokens (kind.AssertSuspension x text) xs zs n h e f = ap (λ y. AssertSuspension y text.now) (execution_on tokens x xs zs n h e f)
kind_on tokens k xs zs n h e f = refl

commands_on : (tokens : List Placed) (cs : List code_command.Command) (xs zs : List Value) (n : ℕ)
    → All (λ c. HasValues n c.kind) cs → n ≡ length xs → IsFirst xs zs
    → map (command_in tokens zs) cs ≡ map (command_in tokens xs) cs
commands_on tokens [] xs zs n h e f = refl
commands_on tokens (c ∷ cs) xs zs n h e f = λ i. record { span = c.span; kind = kind_on tokens c.kind xs zs n (h 0 c (omega arith)) e f i }
    ∷ commands_on tokens cs xs zs n (All-tail (λ c. HasValues n c.kind) c cs h) e f i

has_values_on : (k : CommandKind) (m n : ℕ) → m ≤ n → HasValues m k → HasValues n k
has_values_on (kind.Action a) m n few h = omega (arith, few, h)
has_values_on (kind.AssertReturn x results) m n few h = (has_on x m n few h.0, omega (arith, few, h.1))
has_values_on (kind.AssertTrap x text) m n few h = has_on x m n few h
has_values_on (kind.AssertExhaustion a text) m n few h = omega (arith, few, h)
has_values_on (kind.AssertException x) m n few h = has_on x m n few h
has_values_on (kind.AssertSuspension x text) m n few h = has_on x m n few h
has_values_on k m n few h = tt

one_command : (n k threads : ℕ) (toks : Toks) → count toks ≡ suc k
    → commands_in (suc n) threads toks ≡ (command_or_end threads toks >>= λ c. commands_in n (threads_after c.0.kind threads) c.1 >>= λ cs. Some (c.0 ∷ cs))
one_command n k threads toks e =
    ap (λ m. elim m as (λ m. Option (List Command)) [
      | zero ↦ no_commands threads
      | suc j ↦ command_or_end threads toks >>= λ c. commands_in n (threads_after c.0.kind threads) c.1 >>= λ cs. Some (c.0 ∷ cs)
    ]) e

with_one : (xs : List Command) (c : Command) (p : Option (List Command)) → with_commands xs (p >>= λ cs. Some (c ∷ cs)) ≡ with_commands (xs ++ c ∷ []) p
with_one xs c None = refl
with_one xs c (Some cs) = ap Some (sym (append_assoc xs (c ∷ []) cs))

have_same : (x y : Lists) → y.values ≡ x.values → y.lanes ≡ x.lanes → HaveLanes x → HaveLanes y
have_same x y v n h = subst (λ (m : Vec Number). All (HasLanes (length m.items)) y.values.items) (sym n)
    (subst (λ (m : Vec code_value.Value). All (HasLanes (length x.lanes.items)) m.items) (sym v) h)

-- a command is read and added
pub command_taken : (threads behind : ℕ) (a b c : Reader) (x : code_command.Command)
    → Reads (command_or_end threads) a b (λ vs. command_in (all_bare b) vs x) (λ n. HasValues n x.kind) → Pushes b c x
    → ((ts : List Placed) (vs : List Value) → behind ≡ threads_after (kind_in ts vs x.kind) threads) → behind ≤ suc threads → TakesCommand threads behind a c
command_taken threads behind a b c x r p after_it few = record {
  tokens = p.tokens ∙ r.tokens;
  clean = λ h. r.clean (p.clean h);
  lanes = λ h l. have_same b.lists c.lists p.values p.lanes (r.lanes (p.clean h) l);
  values = λ h l v. subst (λ cs. All (λ d. HasValues (length c.lists.values.items) d.kind) cs) (sym (added h))
      (subst (λ (vs : Vec code_value.Value). All (λ d. HasValues (length vs.items) d.kind) (a.lists.commands.items ++ x ∷ [])) (sym p.values)
      (All-push (λ d. HasValues (length b.lists.values.items) d.kind) a.lists.commands.items x
      (λ k d under. has_values_on _ _ _ (grown a b (r.values (p.clean h) l)) (v k d under)) (r.within (p.clean h) l)));
  few = few;
  gives = λ h l v n k e.
      ap (with_commands (read_commands a)) (one_command n k threads (left a) e
      ∙ ap (λ o. o >>= λ c. commands_in n (threads_after c.0.kind threads) c.1 >>= λ cs. Some (c.0 ∷ cs)) (r.gives (p.clean h) l))
      ∙ with_one (read_commands a) (seen b) (commands_in n (threads_after (seen b).kind threads) (left b))
      ∙ ap (λ m. with_commands (read_commands a ++ seen b ∷ []) (commands_in n m (left b))) (sym (after_it (all_bare b) (read_values b.lists)))
      ∙ ap (λ t. with_commands (read_commands a ++ seen b ∷ []) (commands_in n behind t)) (sym (p.left h))
      ∙ ap (λ cs. with_commands cs (commands_in n behind (left c))) (sym (all_seen h l v));
  keeps = λ h. p.keeps (λ e. h (r.clean e)) ∙ r.keeps h;
  refuses = λ h l f n k e. by_fault b c p.keeps f (λ g. absurd (p.memory g f))
      (λ g. one_command n k threads (left a) e
      ∙ ap (λ o. o >>= λ c. commands_in n (threads_after c.0.kind threads) c.1 >>= λ cs. Some (c.0 ∷ cs)) (r.refuses h l g));
}
  where
    seen : Reader → Command
    seen r = command_in (all_bare r) (read_values r.lists) x

    added : c.fault ≡ None → c.lists.commands.items ≡ a.lists.commands.items ++ x ∷ []
    added h = p.pushed h ∙ ap (λ (cs : Vec code_command.Command). cs.items ++ x ∷ []) r.commands

    same_values : read_values c.lists ≡ read_values b.lists
    same_values = ap (λ (vs : Vec code_value.Value). map (Rattle.wast_script.specs.Scripts.value_in c.lists.lanes.items) vs.items) p.values
        ∙ ap (λ (n : Vec Number). map (Rattle.wast_script.specs.Scripts.value_in n.items) b.lists.values.items) p.lanes

    all_seen : c.fault ≡ None → HaveLanes a.lists → HaveValues a.lists → read_commands c ≡ read_commands a ++ seen b ∷ []
    all_seen h l v =
        (λ i. map (command_in (bare_same b c p.tokens i) (same_values i)) (added h i))
        ∙ map_push (command_in (all_bare b) (read_values b.lists)) a.lists.commands.items x
        ∙ ap (λ cs. cs ++ seen b ∷ [])
        (ap (λ (t : Vec Placed). map (command_in (map bare_placed t.items) (read_values b.lists)) a.lists.commands.items) r.tokens
        ∙ commands_on (all_bare a) a.lists.commands.items (read_values a.lists) (read_values b.lists)
        (length a.lists.values.items) v (sym (value_count a.lists)) (r.values (p.clean h) l))

-- All commands are those that are read, and those of the tokens that are left.
pub record Running (old now : Reader) (n threads : ℕ) : Type 0 where
  pub lanes : now.fault ≡ None → HaveLanes now.lists
  pub values : now.fault ≡ None → HaveValues now.lists
  pub goes : now.fault ≡ None → all_commands (left old) ≡ with_commands (read_commands now) (commands_in n threads (left now))
  pub refuses : IsRefused now.fault → all_commands (left old) ≡ None

with_none : (p : Option (List Command)) → p ≡ with_commands [] p
with_none None = refl
with_none (Some cs) = refl

pub running_first : (old : Reader) (n : ℕ) → IsNew old → n ≡ count (left old) → Running old old n 0
running_first old n new few = record {
  lanes = λ h. All-same (HasLanes (length old.lists.lanes.items)) old.lists.values.items [] new.values (All-nil (HasLanes (length old.lists.lanes.items)));
  values = λ h. All-same (λ c. HasValues (length old.lists.values.items) c.kind) old.lists.commands.items [] new.commands
      (All-nil (λ c. HasValues (length old.lists.values.items) c.kind));
  goes = λ h. ap (λ k. commands_in k 0 (left old)) (sym few) ∙ with_none (commands_in n 0 (left old))
      ∙ ap (λ cs. with_commands (map (command_in (all_bare old) (read_values old.lists)) cs) (commands_in n 0 (left old))) (sym new.commands);
  refuses = λ f. absurd (none_refused old.fault new.clean f);
}

pub running_more : (old now new : Reader) (counter end threads behind : ℕ) → counter < end
    → count (left now) ≢ 0 → Running old now (end - counter) threads → TakesCommand threads behind now new
    → Running old new (end - (counter + 1)) behind
running_more old now new counter end threads behind few some s t =
    let n = end - (counter + 1) in
    let one : end - counter ≡ suc n = omega (arith, few) in
    record {
      lanes = λ h. t.lanes h (s.lanes (t.clean h));
      values = λ h. t.values h (s.lanes (t.clean h)) (s.values (t.clean h));
      goes = λ h. s.goes (t.clean h) ∙ ap (λ m. with_commands (read_commands now) (commands_in m threads (left now))) one
          ∙ t.gives h (s.lanes (t.clean h)) (s.values (t.clean h)) n k yet;
      refuses = λ f. by_fault now new t.keeps f
          (λ e. s.goes e ∙ ap (λ m. with_commands (read_commands now) (commands_in m threads (left now))) one
          ∙ ap (with_commands (read_commands now)) (t.refuses e (s.lanes e) f n k yet))
          s.refuses;
    }
  where
    k : ℕ
    k = count (left now) - 1

    yet : count (left now) ≡ suc k
    yet = omega (arith, some)

no_more_commands : (n threads : ℕ) (toks : Toks) → count toks ≡ 0 → commands_in n threads toks ≡ no_commands threads
no_more_commands zero threads toks e = refl
no_more_commands (suc n) threads toks e =
    ap (λ m. elim m as (λ m. Option (List Command)) [
      | zero ↦ no_commands threads
      | suc j ↦ command_or_end threads toks >>= λ c. commands_in n (threads_after c.0.kind threads) c.1 >>= λ cs. Some (c.0 ∷ cs)
    ]) e

pub running_end : (old now : Reader) (n threads : ℕ) → count (left now) ≡ 0 → Running old now n threads → TakesCommands threads old now
running_end old now n threads e s =
    record { goes = λ h. s.goes h ∙ ap (with_commands (read_commands now)) (no_more_commands n threads (left now) e); refuses = s.refuses }

pub running_last : (old now : Reader) (n threads : ℕ) → n ≡ 0 → Running old now n threads → TakesCommands threads old now
running_last old now n threads e s =
    record { goes = λ h. s.goes h ∙ ap (λ m. with_commands (read_commands now) (commands_in m threads (left now))) e; refuses = s.refuses }

none_closed : (threads : ℕ) → 0 < threads → no_commands threads ≡ None
none_closed zero some = absurd (omega (arith, some))
none_closed (suc n) some = refl

-- no thread is open, or one is
pub all_closed : (old new : Reader) (threads : ℕ) → threads ≤ 0 → TakesCommands threads old new → ReadsAll all_commands old new
all_closed old new threads e t = record {
  gives = λ h. let none : threads ≡ 0 = omega (arith, e) in
      t.goes h ∙ ap (λ m. with_commands (read_commands new) (no_commands m)) none ∙ ap Some (append-nil (read_commands new));
  refuses = t.refuses;
}

pub one_open : (old mid new : Reader) (threads : ℕ) (fault : TextFault) (span : Span) → 0 < threads
    → TakesCommands threads old mid → Fails fault span mid new → ReadsAll all_commands old new
one_open old mid new threads fault span some t f = record {
  gives = λ h. absurd (faulty mid new fault span f h);
  refuses = λ g. by_fault mid new f.keeps g (λ is. t.goes is ∙ ap (with_commands (read_commands mid)) (none_closed threads some)) t.refuses;
}

-- one module without its parentheses
pub module_alone : (a b : Reader) (m : ScriptModule) → IsNew a → module_in (all_bare a) m ≡ lone_module (left a)
    → Pushes a b (record { span = m.span; kind = kind.Module m }) → ReadsAll all_module a b
module_alone a b m new is p = record {
  gives = λ h. ap Some (sym (all_seen h));
  refuses = λ f. absurd (p.memory new.clean f);
}
  where
    one : code_command.Command
    one = record { span = m.span; kind = kind.Module m }

    made : Module → List Command
    made d = record { span = d.span; kind = Module_ d } ∷ []

    all_seen : b.fault ≡ None → read_commands b ≡ one_module (left a)
    all_seen h = ap (map (command_in (all_bare b) (read_values b.lists))) (p.pushed h ∙ ap (λ cs. cs ++ one ∷ []) new.commands)
        ∙ ap (λ (t : Vec Placed). made (module_in (map bare_placed t.items) m)) p.tokens ∙ ap made is

-- a script, by whether it begins with a command
abbrev by_begin : Bool → Toks → Option (List Command)
by_begin b toks = elim b [ true ↦ all_commands toks | false ↦ all_module toks ]

pub by_commands : (a b : Reader) → begins_command (left a) ≡ true → ReadsAll all_commands a b → ReadsAll script a b
by_commands a b is r = record { gives = λ h. ap (λ x. by_begin x (left a)) is ∙ r.gives h; refuses = λ f. ap (λ x. by_begin x (left a)) is ∙ r.refuses f }

pub by_module : (a b : Reader) → begins_command (left a) ≡ false → ReadsAll all_module a b → ReadsAll script a b
by_module a b is r = record { gives = λ h. ap (λ x. by_begin x (left a)) is ∙ r.gives h; refuses = λ f. ap (λ x. by_begin x (left a)) is ∙ r.refuses f }
