-- Which commands a text is, if it is a script (test scripts of the reference interpreter). It is read from the tokens of the text without
-- addresses (AtZero in wat_syntax). The fields of modules are not read here: a module is the tokens that it has.
--
--   (module $m (func)) (assert_invalid (module (func)) "a")    a module with the id $m, and an assertion about another
--   (register "a" $m) (invoke "f" (i32.const 1))               two commands
--   (func)                                                     one module, without its parentheses
--   (thread $t (invoke "f")) (wait $t)                         Thread, Action, ThreadEnd, Wait
--   (module (func)                                             None, because a `)` is missing
use Rattle.std.specs.Prelude.{ℕ, zero, suc, ◌-◌, min, Bool, true, false, ◌&&◌, List, [], ◌∷◌, ◌++◌, length, map, take, Option, None, Some, is_some, codes}
use Rattle.wat_grammar.specs.Parts.{◌>>=◌}
use Rattle.wat_tokens.specs.declared.tokens.Token.{Token}
use Rattle.wat_tokens.specs.declared.tokens.Token.TheVariants as token
use Rattle.wat_tokens.specs.declared.tokens.Placed.{Placed}
use Rattle.wat_syntax.specs.Tree.{Span, Id}
use Rattle.wat_syntax.specs.Tokens.{Toks, Parse, peek, after, position, count, is_lparen, is_rparen, lparen, rparen, optional}
use Rattle.wat_syntax.specs.Values.{id, name, is_string, is_name, annotation_of}
use Rattle.wat_syntax.specs.AtZero.{tokens_at_zero}
use Rattle.wat_text.specs.Denotes.{all_of}
use Rattle.wast_script.specs.Words.{verb_named}
use Rattle.wast_script.specs.Constants.{Value, word_in, the_word, is_form, form, word_that, values}
use Rattle.wast_script.specs.declared.commands.ActionKind.{ActionKind}
use Rattle.wast_script.specs.declared.commands.ActionKind.TheVariants as action_kind
use Rattle.wast_script.specs.declared.commands.ModuleForm.{ModuleForm}
use Rattle.wast_script.specs.declared.commands.ModuleForm.TheVariants as module_form
use Rattle.wast_script.specs.declared.words.Use.TheVariants as usage
use Rattle.wast_script.specs.declared.words.Verb.{Verb}
use Rattle.wast_script.specs.declared.words.Verb.TheVariants as verb

-- A module: its tokens are those from its '(' to its ')', without the word `definition`, and its strings are those of a module that is
-- binary or in quotes.
pub record Module : Type 0 where
  pub span : Span
  pub id : Option Id
  pub form : ModuleForm
  pub tokens : List Placed
  pub strings : List Placed

-- an action: the position of its word, and the bytes of the name of an export
pub record Action : Type 0 where
  pub span : Span
  pub kind : ActionKind
  pub «module» : Option Id
  pub name : List ℕ
  pub arguments : List Value

-- what an assertion runs
pub data Execution : Type 0 where
  Runs : Action → Execution
  Instantiates : Module → Execution

-- a command: messages and names are the bytes of their strings
pub data Kind : Type 0 where
  Module_ : Module → Kind
  Definition : Module → Kind
  Instance : Option Id → Option Id → Kind
  Register : List ℕ → Option Id → Kind
  Acts : Action → Kind
  AssertReturn : Execution → List Value → Kind
  AssertTrap : Execution → List ℕ → Kind
  AssertExhaustion : Action → List ℕ → Kind
  AssertException : Execution → Kind
  AssertSuspension : Execution → List ℕ → Kind
  AssertMalformed : Module → List ℕ → Kind
  AssertMalformedCustom : Module → List ℕ → Kind
  AssertInvalid : Module → List ℕ → Kind
  AssertInvalidCustom : Module → List ℕ → Kind
  AssertUnlinkable : Module → List ℕ → Kind
  Thread : Id → Option Id → Kind
  ThreadEnd : Kind
  Wait : Id → Kind

-- a command with the position of its word; that of the end of a thread is its ')'
pub record Command : Type 0 where
  pub span : Span
  pub kind : Kind

-- the tokens from a place up to another
abbrev pub between : Toks → Toks → List Placed
between toks rest = take (count toks - count rest) toks.left

-- '(@name' string ')', or nothing
abbrev pub is_name_next : Toks → Bool
is_name_next toks = is_name (annotation_of (peek 0 toks)) && (is_string (peek 1 toks) && is_rparen (peek 2 toks))

abbrev pub after_name : Toks → Toks
after_name toks = elim (is_name_next toks) [ true ↦ after (after (after toks)) | false ↦ toks ]

-- string*: the tokens after the strings, of n at most
abbrev pub after_strings : ℕ → Toks → Toks
after_strings zero toks = toks
after_strings (suc n) toks = elim (is_string (peek 0 toks)) [ true ↦ after_strings n (after toks) | false ↦ toks ]

abbrev pub behind_strings : Toks → Toks
behind_strings toks = after_strings (count toks) toks

-- how many parentheses are open after a token
abbrev pub depth_after : Option Token → ℕ → ℕ
depth_after (Some token.Open) depth = suc depth
depth_after (Some (token.Annotation a)) depth = suc depth
depth_after (Some token.Close) depth = depth - 1
depth_after t depth = depth

-- The tokens after the ')' that ends the outermost of so many open parentheses. n steps are enough for n tokens.
abbrev pub form_end : ℕ → ℕ → Toks → Option Toks
form_end n zero toks = Some toks
form_end zero (suc depth) toks = None
form_end (suc n) (suc depth) toks = form_end n (depth_after (peek 0 toks) (suc depth)) (after toks)

-- the strings of a module that is binary or in quotes, and its ')'
abbrev pub strings_to_end : Toks → Parse (List Placed)
strings_to_end toks = rparen (behind_strings toks) >>= λ rest. Some (between toks (behind_strings toks), rest)

-- what a module has after its id and its name annotation, to its ')': 'binary' string* ')' | 'quote' string* ')' | modulefield* ')'
pub record Contents : Type 0 where
  pub form : ModuleForm
  pub strings : List Placed

abbrev pub in_form : ModuleForm → Toks → Parse Contents
in_form f toks = strings_to_end toks >>= λ s. Some (record { form = f; strings = s.0 }, s.1)

abbrev pub form_rest : Toks → Option Toks
form_rest toks = form_end (count toks) 1 toks

abbrev pub fields_to_end : Toks → Parse Contents
fields_to_end toks = form_rest toks >>= λ rest. Some (record { form = module_form.Fields; strings = [] }, rest)

abbrev pub contents_of : Toks → Parse Contents
contents_of toks = elim (the_word (codes "binary") toks) [
  | Some t ↦ in_form module_form.Binary t
  | None ↦ elim (the_word (codes "quote") toks) [ Some t ↦ in_form module_form.Quote t | None ↦ fields_to_end toks ]
]

abbrev pub contents : Toks → Parse Contents
contents toks = contents_of (after_name toks)

-- a module after its '(' and its words, by the position of `module` and the tokens '(' 'module'
abbrev pub module_after : Span → List Placed → Toks → Parse Module
module_after span head toks = optional id toks >>= λ x. contents x.1 >>= λ c.
    Some (record { span = span; id = x.0; form = c.0.form; tokens = head ++ between toks c.1; strings = c.0.strings }, c.1)

-- '(' 'module' id? .. ')'
abbrev pub in_parentheses : Toks → Parse Module
in_parentheses toks = lparen toks >>= λ t. the_word (codes "module") t >>= λ k. module_after (position t) (between toks k) k

-- 'module' 'definition' .. | 'module' 'instance' id? id? ')' | 'module' ..: after `module`
abbrev pub instance : Toks → Parse Kind
instance toks = optional id toks >>= λ i. optional id i.1 >>= λ m. rparen m.1 >>= λ rest. Some (Instance i.0 m.0, rest)

abbrev pub module_or_instance : Span → List Placed → Toks → Parse Kind
module_or_instance span head toks = elim (the_word (codes "instance") toks) [
  | Some t ↦ instance t
  | None ↦ module_after span head toks >>= λ m. Some (Module_ m.0, m.1)
]

abbrev pub module_command : Span → List Placed → Toks → Parse Kind
module_command span head toks = elim (the_word (codes "definition") toks) [
  | Some t ↦ module_after span head t >>= λ m. Some (Definition m.0, m.1)
  | None ↦ module_or_instance span head toks
]

-- 'invoke' id? name const* ')' | 'get' id? name ')': after the word, whose position is that of the token before
abbrev pub arguments : ActionKind → Toks → Parse (List Value)
arguments action_kind.Invoke toks = values usage.Argument toks
arguments action_kind.Get toks = Some ([], toks)

abbrev pub action : ActionKind → Toks → Parse Action
action k toks = optional id toks >>= λ m. name m.1 >>= λ nm. arguments k nm.1 >>= λ args. rparen args.1 >>= λ rest.
    Some (record { span = toks.before; kind = k; «module» = m.0; name = nm.0.now; arguments = args.0 }, rest)

-- '(' 'invoke' .. ')'
abbrev pub invocation : Toks → Parse Action
invocation toks = form (codes "invoke") toks >>= λ t. action action_kind.Invoke t

-- an action or a module
abbrev pub run_action : Toks → Parse Execution
run_action toks = elim (form (codes "get") toks) [
  | Some t ↦ action action_kind.Get t >>= λ a. Some (Runs a.0, a.1)
  | None ↦ invocation toks >>= λ a. Some (Runs a.0, a.1)
]

abbrev pub execution : Toks → Parse Execution
execution toks = elim (is_form (codes "module") toks) [
  | true ↦ in_parentheses toks >>= λ m. Some (Instantiates m.0, m.1)
  | false ↦ run_action toks
]

-- a message and the ')' of a command
abbrev pub message : Toks → Parse (List ℕ)
message toks = name toks >>= λ t. rparen t.1 >>= λ rest. Some (t.0.now, rest)

-- commands after their words
abbrev pub register_command : Toks → Parse Kind
register_command toks = name toks >>= λ t. optional id t.1 >>= λ m. rparen m.1 >>= λ rest. Some (Register t.0.now m.0, rest)

abbrev pub action_command : ActionKind → Toks → Parse Kind
action_command k toks = action k toks >>= λ a. Some (Acts a.0, a.1)

abbrev pub return_command : Toks → Parse Kind
return_command toks = execution toks >>= λ e. values usage.Result e.1 >>= λ rs. rparen rs.1 >>= λ rest. Some (AssertReturn e.0 rs.0, rest)

abbrev pub exhaustion_command : Toks → Parse Kind
exhaustion_command toks = invocation toks >>= λ a. message a.1 >>= λ t. Some (AssertExhaustion a.0 t.0, t.1)

abbrev pub exception_command : Toks → Parse Kind
exception_command toks = execution toks >>= λ e. rparen e.1 >>= λ rest. Some (AssertException e.0, rest)

-- what an assertion runs, or its module, and a message
abbrev pub about_run : Toks → Parse (Execution × List ℕ)
about_run toks = execution toks >>= λ e. message e.1 >>= λ t. Some ((e.0, t.0), t.1)

abbrev pub about_module : Toks → Parse (Module × List ℕ)
about_module toks = in_parentheses toks >>= λ m. message m.1 >>= λ t. Some ((m.0, t.0), t.1)

abbrev pub run_assertion : (Execution → List ℕ → Kind) → Toks → Parse Kind
run_assertion asserts toks = about_run toks >>= λ x. Some (asserts x.0.0 x.0.1, x.1)

abbrev pub module_assertion : (Module → List ℕ → Kind) → Toks → Parse Kind
module_assertion asserts toks = about_module toks >>= λ x. Some (asserts x.0.0 x.0.1, x.1)

-- '(' 'shared' '(' 'module' id ')' ')', or nothing
abbrev pub module_of_thread : Toks → Parse Id
module_of_thread toks = form (codes "module") toks >>= λ t. id t >>= λ x. rparen x.1 >>= λ u. rparen u >>= λ rest. Some (x.0, rest)

abbrev pub shared_module : Toks → Parse (Option Id)
shared_module toks = elim (form (codes "shared") toks) [
  | Some t ↦ module_of_thread t >>= λ x. Some (Some x.0, x.1)
  | None ↦ Some (None, toks)
]

-- 'thread' id shared?: what comes before the commands of a thread
abbrev pub thread_command : Toks → Parse Kind
thread_command toks = id toks >>= λ x. shared_module x.1 >>= λ m. Some (Thread x.0 m.0, m.1)

abbrev pub wait_command : Toks → Parse Kind
wait_command toks = id toks >>= λ x. rparen x.1 >>= λ rest. Some (Wait x.0, rest)

-- a command after its verb, by the position of the verb and the tokens '(' and verb
abbrev pub command_of : Verb → Span → List Placed → Toks → Parse Kind
command_of verb.Module span head toks = module_command span head toks
command_of verb.Register span head toks = register_command toks
command_of verb.Invoke span head toks = action_command action_kind.Invoke toks
command_of verb.Get span head toks = action_command action_kind.Get toks
command_of verb.AssertReturn span head toks = return_command toks
command_of verb.AssertTrap span head toks = run_assertion AssertTrap toks
command_of verb.AssertExhaustion span head toks = exhaustion_command toks
command_of verb.AssertException span head toks = exception_command toks
command_of verb.AssertSuspension span head toks = run_assertion AssertSuspension toks
command_of verb.AssertMalformed span head toks = module_assertion AssertMalformed toks
command_of verb.AssertMalformedCustom span head toks = module_assertion AssertMalformedCustom toks
command_of verb.AssertInvalid span head toks = module_assertion AssertInvalid toks
command_of verb.AssertInvalidCustom span head toks = module_assertion AssertInvalidCustom toks
command_of verb.AssertUnlinkable span head toks = module_assertion AssertUnlinkable toks
command_of verb.Thread span head toks = thread_command toks
command_of verb.Wait span head toks = wait_command toks

-- command ::= '(' verb .. ')'
abbrev pub command : Toks → Parse Command
command toks = lparen toks >>= λ t. word_that verb_named t >>= λ v. command_of v.0 (position t) (between toks v.1) v.1 >>= λ k.
    Some (record { span = position t; kind = k.0 }, k.1)

-- The commands of a thread are between Thread and ThreadEnd. So many threads are open: then a ')' is the end of one.
abbrev pub threads_after : Kind → ℕ → ℕ
threads_after (Thread x m) open_ = suc open_
threads_after ThreadEnd open_ = open_ - 1
threads_after k open_ = open_

abbrev pub ends_thread : ℕ → Toks → Bool
ends_thread zero toks = false
ends_thread (suc n) toks = is_rparen (peek 0 toks)

abbrev pub command_or_end : ℕ → Toks → Parse Command
command_or_end open_ toks = elim (ends_thread open_ toks) [
  | true ↦ Some (record { span = position toks; kind = ThreadEnd }, after toks)
  | false ↦ command toks
]

-- command*, to the end of the tokens, where no thread is open. A command takes a token or more, so n are enough for n tokens.
abbrev pub no_commands : ℕ → Option (List Command)
no_commands zero = Some []
no_commands (suc n) = None

abbrev pub commands_in : ℕ → ℕ → Toks → Option (List Command)
commands_in zero open_ toks = no_commands open_
commands_in (suc n) open_ toks = elim (count toks) [
  | zero ↦ no_commands open_
  | suc k ↦ command_or_end open_ toks >>= λ c. commands_in n (threads_after c.0.kind open_) c.1 >>= λ cs. Some (c.0 ∷ cs)
]

abbrev pub all_commands : Toks → Option (List Command)
all_commands toks = commands_in (count toks) 0 toks

-- a script that is one module without its parentheses
abbrev pub lone_module : Toks → Module
lone_module toks = record { span = position toks; id = None; form = module_form.Fields; tokens = toks.left; strings = [] }

abbrev pub one_module : Toks → List Command
one_module toks = record { span = position toks; kind = Module_ (lone_module toks) } ∷ []

abbrev pub all_module : Toks → Option (List Command)
all_module toks = Some (one_module toks)

-- the verb that a token is
abbrev pub verb_in : Option Token → Option Verb
verb_in t = word_in t >>= verb_named

-- whether '(' and a verb are next
abbrev pub begins_command : Toks → Bool
begins_command toks = is_lparen (peek 0 toks) && is_some (verb_in (peek 1 toks))

-- script ::= command* | modulefield*
abbrev pub script : Toks → Option (List Command)
script toks = elim (begins_command toks) [ true ↦ all_commands toks | false ↦ all_module toks ]

-- The commands of a text, if it is a script. No command is after the end of its text; here its position is the end if it were.
abbrev pub up_to : ℕ → Command → Command
up_to n c = record { span = record { offset = min c.span.offset n }; kind = c.kind }

abbrev pub script_in : List ℕ → List Placed → Option (List Command)
script_in text found = script (all_of found (record { offset = length text })) >>= λ cs. Some (map (up_to (length text)) cs)

unfoldable pub script_of : List ℕ → Option (List Command)
script_of text = tokens_at_zero text >>= λ found. script_in text found
