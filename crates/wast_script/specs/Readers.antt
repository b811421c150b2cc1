-- The contracts of functions that read a part of a script, by a rule of Grammar or Constants (as Readers in wat_text).
--
-- A rule takes tokens, and returns a value and the tokens that are left, or `None`. A contract states both directions: if the function
-- succeeds, its result is the value of the rule, and if it rejects the tokens, the rule is `None`. Tokens and parts are without
-- addresses.
--
--   (register "a")      the rule of commands returns `Register`, and leaves nothing
use Rattle.std.specs.Prelude.{◌≡◌, ◌≢◌, ⊤, ℕ, suc, ◌-◌, ◌<◌, ◌≤◌, Bool, true, false, List, [], ◌∷◌, ◌++◌, length, map, drop, slice_set, All, Option, None, Some}
use Rattle.wat_tokens.specs.declared.faults.TextFault.{TextFault}
use Rattle.wat_tokens.specs.declared.faults.TextFault.TheVariants as fault
use Rattle.wat_tokens.specs.declared.faults.TextError.{TextError}
use Rattle.wat_tokens.specs.declared.tokens.Placed.{Placed}
use Rattle.wat_syntax.specs.Tree.{Span}
use Rattle.wat_grammar.specs.Parts.{◌>>=◌}
use Rattle.wat_syntax.specs.Tokens.{Toks, Parse, position_in, count, optional, with_parts}
use Rattle.wat_syntax.specs.Bare.{bare_placed}
use Rattle.wast_script.specs.Constants.{Value, alternatives, all_alternatives}
use Rattle.wast_script.specs.Grammar.{Command, form_end, form_rest, no_commands, commands_in, all_commands}
use Rattle.wast_script.specs.Scripts.{value_in, command_in}
use Rattle.wast_script.specs.declared.values.Number.{Number}
use Rattle.wast_script.specs.declared.values.Value as code_value
use Rattle.wast_script.specs.declared.values.Value.TheVariants as val
use Rattle.wast_script.specs.declared.commands.Action as code_action
use Rattle.wast_script.specs.declared.commands.Execution as code_execution
use Rattle.wast_script.specs.declared.commands.Execution.TheVariants as run
use Rattle.wast_script.specs.declared.commands.CommandKind.{CommandKind}
use Rattle.wast_script.specs.declared.commands.CommandKind.TheVariants as kind
use Rattle.wast_script.specs.declared.commands.Command as code_command
use Rattle.wast_script.specs.declared.reader.Lists.{Lists}
use Rattle.wast_script.specs.declared.reader.Reader.{Reader}

-- Of some tokens without addresses, those after the first ones, with the position of the token before them.
abbrev pub left_of : ℕ → List Placed → Span → Toks
left_of at found end = record { before = position_in (drop (at - 1) found) end; left = drop at found; end = end }

-- the tokens of a script, and those that are left
abbrev pub all_bare : Reader → List Placed
all_bare r = map bare_placed r.tokens.items

unfoldable pub left : Reader → Toks
left r = left_of r.at (all_bare r) r.end

-- the values and commands that were read
abbrev pub read_values : Lists → List Value
read_values l = map (value_in l.lanes.items) l.values.items

abbrev pub read_commands : Reader → List Command
read_commands r = map (command_in (all_bare r) (read_values r.lists)) r.lists.commands.items

-- a fault other than a failed allocation
abbrev pub IsRefusal : TextFault → Type 0
IsRefusal fault.Memory = ⊥
IsRefusal f = ⊤

abbrev pub IsRefused : Option TextError → Type 0
IsRefused None = ⊥
IsRefused (Some e) = IsRefusal e.fault

-- A reader read a part by a rule, and added nothing to its lists. If there is no error afterwards, there was none before. Then the rule
-- reads this part from the tokens that were left before, and leaves the tokens that are left now. An error that there was before is
-- kept. If the reader rejected the tokens, the rule does not produce them.
pub record Decides {T : Type 0} (rule : Toks → Parse T) (old new : Reader) (part : T) : Type 0 where
  pub lists : new.lists ≡ old.lists
  pub tokens : new.tokens ≡ old.tokens
  pub clean : new.fault ≡ None → old.fault ≡ None
  pub gives : new.fault ≡ None → rule (left old) ≡ Some (part, left new)
  pub keeps : old.fault ≢ None → new.fault ≡ old.fault
  pub refuses : old.fault ≡ None → IsRefused new.fault → rule (left old) ≡ None

-- The same for a terminal such as ')', which has no value.
pub record Expects (rule : Toks → Option Toks) (old new : Reader) : Type 0 where
  pub lists : new.lists ≡ old.lists
  pub tokens : new.tokens ≡ old.tokens
  pub clean : new.fault ≡ None → old.fault ≡ None
  pub gives : new.fault ≡ None → rule (left old) ≡ Some (left new)
  pub keeps : old.fault ≢ None → new.fault ≡ old.fault
  pub refuses : old.fault ≡ None → IsRefused new.fault → rule (left old) ≡ None

-- A reader read a terminal that can be left out, and returned whether it was there.
pub record Accepts (rule : Toks → Option Toks) (old new : Reader) (found : Bool) : Type 0 where
  pub lists : new.lists ≡ old.lists
  pub tokens : new.tokens ≡ old.tokens
  pub fault : new.fault ≡ old.fault
  pub there : found ≡ true → rule (left old) ≡ Some (left new)
  pub absent : found ≡ false → rule (left old) ≡ None
  pub stays : found ≡ false → left new ≡ left old

-- A reader read one token by a rule, if the rule produces it.
pub record Finds {T : Type 0} (rule : Toks → Parse T) (old new : Reader) (part : Option T) : Type 0 where
  pub lists : new.lists ≡ old.lists
  pub tokens : new.tokens ≡ old.tokens
  pub fault : new.fault ≡ old.fault
  pub there : (x : T) → part ≡ Some x → rule (left old) ≡ Some (x, left new)
  pub absent : part ≡ None → rule (left old) ≡ None
  pub stays : part ≡ None → left new ≡ left old
  pub gives : optional rule (left old) ≡ Some (part, left new)

-- A reader moved to other tokens, whatever they are.
pub record Moves (rule : Toks → Toks) (old new : Reader) : Type 0 where
  pub lists : new.lists ≡ old.lists
  pub tokens : new.tokens ≡ old.tokens
  pub fault : new.fault ≡ old.fault
  pub left : left new ≡ rule (left old)

-- A reader stored a fault at a position, unless it had one.
pub record Fails (fault : TextFault) (span : Span) (old new : Reader) : Type 0 where
  pub lists : new.lists ≡ old.lists
  pub tokens : new.tokens ≡ old.tokens
  pub first : old.fault ≡ None → new.fault ≡ Some (record { fault = fault; span = span })
  pub keeps : old.fault ≢ None → new.fault ≡ old.fault

-- A reader stored some fault, unless it had one.
pub record Refuses (old new : Reader) : Type 0 where
  pub lists : new.lists ≡ old.lists
  pub tokens : new.tokens ≡ old.tokens
  pub faulty : new.fault ≢ None
  pub keeps : old.fault ≢ None → new.fault ≡ old.fault

-- A list is the first part of another.
pub record IsFirst {T : Type 0} (xs ys : List T) : Type 0 where
  pub more : List T
  pub is : ys ≡ xs ++ more

-- Parts are in the list that they are parts of: the lanes of a value, and the values of a command.
abbrev pub HasLanes : ℕ → code_value.Value → Type 0
HasLanes n (val.V128 s p) = p.end ≤ n
HasLanes n v = ⊤

abbrev pub HasArguments : ℕ → code_action.Action → Type 0
HasArguments n a = a.arguments.end ≤ n

abbrev pub HasExecuted : ℕ → code_execution.Execution → Type 0
HasExecuted n (run.Action a) = HasArguments n a
HasExecuted n (run.Module m) = ⊤

abbrev pub HasValues : ℕ → CommandKind → Type 0
HasValues n (kind.Action a) = HasArguments n a
HasValues n (kind.AssertReturn e results) = HasExecuted n e × (results.end ≤ n)
HasValues n (kind.AssertTrap e text) = HasExecuted n e
HasValues n (kind.AssertExhaustion a text) = HasArguments n a
HasValues n (kind.AssertException e) = HasExecuted n e
HasValues n (kind.AssertSuspension e text) = HasExecuted n e
HasValues n k = ⊤

abbrev pub HaveLanes : Lists → Type 0
HaveLanes l = All (HasLanes (length l.lanes.items)) l.values.items

abbrev pub HaveValues : Lists → Type 0
HaveValues l = All (λ c. HasValues (length l.values.items) c.kind) l.commands.items

-- A reader read values by a rule, and added them to those that it had.
pub record ReadsOnto (rule : Toks → Parse (List Value)) (old new : Reader) : Type 0 where
  pub commands : new.lists.commands ≡ old.lists.commands
  pub tokens : new.tokens ≡ old.tokens
  pub clean : new.fault ≡ None → old.fault ≡ None
  pub lanes : new.fault ≡ None → HaveLanes old.lists → HaveLanes new.lists
  pub gives : new.fault ≡ None → HaveLanes old.lists → with_parts (read_values old.lists) (rule (left old)) ≡ Some (read_values new.lists, left new)
  pub keeps : old.fault ≢ None → new.fault ≡ old.fault
  pub refuses : old.fault ≡ None → HaveLanes old.lists → IsRefused new.fault → rule (left old) ≡ None

-- A reader read a value by a rule, and added nothing but lanes.
pub record ReadsValue (rule : Toks → Parse Value) (old new : Reader) (part : code_value.Value) : Type 0 where
  pub commands : new.lists.commands ≡ old.lists.commands
  pub values : new.lists.values ≡ old.lists.values
  pub tokens : new.tokens ≡ old.tokens
  pub clean : new.fault ≡ None → old.fault ≡ None
  pub lanes : new.fault ≡ None → IsFirst old.lists.lanes.items new.lists.lanes.items
  pub within : new.fault ≡ None → HasLanes (length new.lists.lanes.items) part
  pub gives : new.fault ≡ None → rule (left old) ≡ Some (value_in new.lists.lanes.items part, left new)
  pub keeps : old.fault ≢ None → new.fault ≡ old.fault
  pub refuses : old.fault ≡ None → IsRefused new.fault → rule (left old) ≡ None

-- A reader read a part of a command by a rule, and added its values. `part` is what the rule has of it, by all values, and `has` says
-- that its values are among so many.
pub record Reads {T : Type 0} (rule : Toks → Parse T) (old new : Reader) (part : List Value → T) (has : ℕ → Type 0) : Type 0 where
  pub commands : new.lists.commands ≡ old.lists.commands
  pub tokens : new.tokens ≡ old.tokens
  pub clean : new.fault ≡ None → old.fault ≡ None
  pub lanes : new.fault ≡ None → HaveLanes old.lists → HaveLanes new.lists
  pub values : new.fault ≡ None → HaveLanes old.lists → IsFirst (read_values old.lists) (read_values new.lists)
  pub within : new.fault ≡ None → HaveLanes old.lists → has (length new.lists.values.items)
  pub gives : new.fault ≡ None → HaveLanes old.lists → rule (left old) ≡ Some (part (read_values new.lists), left new)
  pub keeps : old.fault ≢ None → new.fault ≡ old.fault
  pub refuses : old.fault ≡ None → HaveLanes old.lists → IsRefused new.fault → rule (left old) ≡ None

-- A reader added a command, or stored that the allocation failed.
pub record Pushes (old new : Reader) (c : code_command.Command) : Type 0 where
  pub tokens : new.tokens ≡ old.tokens
  pub values : new.lists.values ≡ old.lists.values
  pub lanes : new.lists.lanes ≡ old.lists.lanes
  pub clean : new.fault ≡ None → old.fault ≡ None
  pub pushed : new.fault ≡ None → new.lists.commands.items ≡ old.lists.commands.items ++ c ∷ []
  pub left : new.fault ≡ None → left new ≡ left old
  pub keeps : old.fault ≢ None → new.fault ≡ old.fault
  pub memory : old.fault ≡ None → IsRefused new.fault → ⊥

-- A reader that has read nothing read a whole script by a rule.
pub record ReadsAll (rule : Toks → Option (List Command)) (old new : Reader) : Type 0 where
  pub gives : new.fault ≡ None → rule (left old) ≡ Some (read_commands new)
  pub refuses : IsRefused new.fault → rule (left old) ≡ None

-- a reader that has read nothing
pub record IsNew (r : Reader) : Type 0 where
  pub commands : r.lists.commands.items ≡ []
  pub values : r.lists.values.items ≡ []
  pub clean : r.fault ≡ None
  pub all : (left r).left ≡ all_bare r

-- A reader added a lane or a value, or stored that the allocation failed.
pub record PushesLane (old new : Reader) (lane : Number) : Type 0 where
  pub commands : new.lists.commands ≡ old.lists.commands
  pub values : new.lists.values ≡ old.lists.values
  pub tokens : new.tokens ≡ old.tokens
  pub clean : new.fault ≡ None → old.fault ≡ None
  pub pushed : new.fault ≡ None → new.lists.lanes.items ≡ old.lists.lanes.items ++ lane ∷ []
  pub left : new.fault ≡ None → left new ≡ left old
  pub keeps : old.fault ≢ None → new.fault ≡ old.fault
  pub memory : old.fault ≡ None → IsRefused new.fault → ⊥

pub record PushesValue (old new : Reader) (value : code_value.Value) : Type 0 where
  pub commands : new.lists.commands ≡ old.lists.commands
  pub lanes : new.lists.lanes ≡ old.lists.lanes
  pub tokens : new.tokens ≡ old.tokens
  pub clean : new.fault ≡ None → old.fault ≡ None
  pub pushed : new.fault ≡ None → new.lists.values.items ≡ old.lists.values.items ++ value ∷ []
  pub left : new.fault ≡ None → left new ≡ left old
  pub keeps : old.fault ≢ None → new.fault ≡ old.fault
  pub memory : old.fault ≡ None → IsRefused new.fault → ⊥

-- A reader read the lanes of a vector by a rule, and added them to those that it had.
pub record ReadsLanes (rule : Toks → Parse (List Number)) (old new : Reader) : Type 0 where
  pub commands : new.lists.commands ≡ old.lists.commands
  pub values : new.lists.values ≡ old.lists.values
  pub tokens : new.tokens ≡ old.tokens
  pub clean : new.fault ≡ None → old.fault ≡ None
  pub gives : new.fault ≡ None → with_parts old.lists.lanes.items (rule (left old)) ≡ Some (new.lists.lanes.items, left new)
  pub keeps : old.fault ≢ None → new.fault ≡ old.fault
  pub refuses : old.fault ≡ None → IsRefused new.fault → rule (left old) ≡ None

-- A reader took one step in the alternatives of `either`, of which so many were open before it and after it.
pub record TakesAlternative (before behind : ℕ) (old new : Reader) : Type 0 where
  pub commands : new.lists.commands ≡ old.lists.commands
  pub tokens : new.tokens ≡ old.tokens
  pub clean : new.fault ≡ None → old.fault ≡ None
  pub lanes : new.fault ≡ None → HaveLanes old.lists → HaveLanes new.lists
  pub few : behind ≤ suc before
  pub gives : new.fault ≡ None → HaveLanes old.lists → (n d : ℕ) → before ≡ suc d
      → with_parts (read_values old.lists) (alternatives (suc n) before (left old)) ≡ with_parts (read_values new.lists) (alternatives n behind (left new))
  pub keeps : old.fault ≢ None → new.fault ≡ old.fault
  pub refuses : old.fault ≡ None → HaveLanes old.lists → IsRefused new.fault → (n d : ℕ) → before ≡ suc d → alternatives (suc n) before (left old) ≡ None

-- commands before those that a rule reads
abbrev pub with_commands : List Command → Option (List Command) → Option (List Command)
with_commands cs rest = rest >>= λ ds. Some (cs ++ ds)

-- A reader read a command and added it. So many threads were open before it and are open after it.
pub record TakesCommand (before behind : ℕ) (old new : Reader) : Type 0 where
  pub tokens : new.tokens ≡ old.tokens
  pub clean : new.fault ≡ None → old.fault ≡ None
  pub lanes : new.fault ≡ None → HaveLanes old.lists → HaveLanes new.lists
  pub values : new.fault ≡ None → HaveLanes old.lists → HaveValues old.lists → HaveValues new.lists
  pub few : behind ≤ suc before
  pub gives : new.fault ≡ None → HaveLanes old.lists → HaveValues old.lists → (n k : ℕ) → count (left old) ≡ suc k
      → with_commands (read_commands old) (commands_in (suc n) before (left old)) ≡ with_commands (read_commands new) (commands_in n behind (left new))
  pub keeps : old.fault ≢ None → new.fault ≡ old.fault
  pub refuses : old.fault ≡ None → HaveLanes old.lists → IsRefused new.fault → (n k : ℕ)
      → count (left old) ≡ suc k → commands_in (suc n) before (left old) ≡ None

-- A reader read all commands, and so many threads are open.
pub record TakesCommands (threads : ℕ) (old new : Reader) : Type 0 where
  pub goes : new.fault ≡ None → all_commands (left old) ≡ with_commands (read_commands new) (no_commands threads)
  pub refuses : IsRefused new.fault → all_commands (left old) ≡ None

-- A reader skipped tokens of a form, in which so many parentheses are open.
pub record Skips (depth : ℕ) (old new : Reader) : Type 0 where
  pub lists : new.lists ≡ old.lists
  pub tokens : new.tokens ≡ old.tokens
  pub fault : new.fault ≡ old.fault
  pub goes : form_rest (left old) ≡ form_end 0 depth (left new)

-- A reader read alternatives of `either`, of which so many are open.
pub record TakesAlternatives (depth : ℕ) (old new : Reader) : Type 0 where
  pub commands : new.lists.commands ≡ old.lists.commands
  pub tokens : new.tokens ≡ old.tokens
  pub clean : new.fault ≡ None → old.fault ≡ None
  pub lanes : new.fault ≡ None → HaveLanes old.lists → HaveLanes new.lists
  pub goes : new.fault ≡ None → HaveLanes old.lists
      → with_parts (read_values old.lists) (all_alternatives (left old)) ≡ with_parts (read_values new.lists) (alternatives 0 depth (left new))
  pub keeps : old.fault ≢ None → new.fault ≡ old.fault
  pub refuses : old.fault ≡ None → HaveLanes old.lists → IsRefused new.fault → all_alternatives (left old) ≡ None

-- A reader counted the alternatives of `either` in its value, which has this number among all values.
pub record SetsEither (at count : ℕ) (old new : Reader) : Type 0 where
  pub commands : new.lists.commands ≡ old.lists.commands
  pub lanes : new.lists.lanes ≡ old.lists.lanes
  pub tokens : new.tokens ≡ old.tokens
  pub fault : new.fault ≡ old.fault
  pub left : left new ≡ left old
  pub values : at < length old.lists.values.items → new.lists.values.items ≡ slice_set old.lists.values.items at (val.Either count)
