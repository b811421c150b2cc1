-- A script of a text: the tokens of the text without addresses, and its commands at their positions.
use Rattle.std.proofs.Common.{◌≡◌, ◌≢◌, ◌∙◌, ℕ, zero, suc, ◌+◌, ◌<◌, ◌≤◌, min, List, [], ◌∷◌, ◌++◌, length, map}
use Rattle.std.proofs.Common.{take, get_or, All, Option, None, Some, Result, Ok, Err, refl, sym, ap, subst, arith}
use Rattle.std.specs.Global.{Vec}
use Rattle.std.proofs.lemmas.List.{take_more, map_push}
use Rattle.std.specs.Prelude.{IfOk, IfErr}
use Rattle.wat_grammar.specs.Parts.{◌>>=◌}
use Rattle.wat_grammar.specs.Tokens as grammar
use Rattle.wat_tokens.specs.Scans.{IsNamed, seen_all}
use Rattle.wat_tokens.specs.declared.faults.TextFault.TheVariants as fault
use Rattle.wat_tokens.specs.declared.faults.TextError.{TextError}
use Rattle.wat_tokens.specs.declared.tokens.Placed.{Placed}
use Rattle.wat_syntax.specs.Bare.{bare_placed}
use Rattle.wat_syntax.specs.AtZero.{all_at_zero}
use Rattle.wat_syntax.proofs.AtZero.{bare_tokens}
use Rattle.wat_text.specs.Denotes.{all_of}
use Rattle.wast_script.specs.declared.commands.Command as code_command
use Rattle.wat_syntax.specs.Tree.{Span}
use Rattle.wat_syntax.specs.Tokens.{Toks}
use Rattle.wast_script.specs.declared.values.Number.{Number}
use Rattle.wast_script.specs.declared.values.Value as code_value
use Rattle.wast_script.specs.declared.reader.Reader.{Reader}
use Rattle.wast_script.specs.declared.scripts.Script.{Script}
use Rattle.wast_script.specs.Constants.{Value}
use Rattle.wast_script.specs.Grammar.{up_to, script, script_in, script_of}
use Rattle.wast_script.specs.Scripts.{value_in, command_in, placed_up_to, script_tokens, commands_of}
use Rattle.wast_script.specs.Readers.{left, all_bare, read_values, IsRefusal, IsRefused, IsNew, ReadsAll}

-- commands at their positions
pub all_placed : (n : ℕ) (ts : List Placed) (vs : List Value) (cs : List code_command.Command)
    → map (command_in ts vs) (map (placed_up_to n) cs) ≡ map (up_to n) (map (command_in ts vs) cs)
all_placed n ts vs [] = refl
all_placed n ts vs (c ∷ cs) = ap (λ ds. up_to n (command_in ts vs c) ∷ ds) (all_placed n ts vs cs)

-- the script of the tokens of a text is that of the text
script_is : (text : List ℕ) (found : List Placed) → grammar.tokens grammar.bytes_of text ≡ Some (seen_all found) → All (λ p. IsNamed p.token) found
    → script_of text ≡ script_in text (map bare_placed found)
unfolding script_of
script_is text found lexed named = ap (λ (o : Option (List Placed)). o >>= λ ps. script_in text ps) (bare_tokens text found lexed named)

pub text_ok : (text : List ℕ) (found : List Placed) (r : Result Script TextError)
    → grammar.tokens grammar.bytes_of text ≡ Some (seen_all found) → All (λ p. IsNamed p.token) found
    → IfOk r (λ s. script_in text (map bare_placed found) ≡ Some (commands_of s)) → IfOk r (λ s. script_of text ≡ Some (commands_of s))
text_ok text found (Ok s) lexed named h = script_is text found lexed named ∙ h
text_ok text found (Err e) lexed named h = tt

pub text_err : (text : List ℕ) (found : List Placed) (r : Result Script TextError)
    → grammar.tokens grammar.bytes_of text ≡ Some (seen_all found) → All (λ p. IsNamed p.token) found
    → IfErr r (λ e. IsRefusal e.fault → script_in text (map bare_placed found) ≡ None) → IfErr r (λ e. IsRefusal e.fault → script_of text ≡ None)
text_err text found (Ok s) lexed named h = tt
text_err text found (Err e) lexed named h = λ r. script_is text found lexed named ∙ h r

-- a text without tokens is no script
pub no_tokens : (text : List ℕ) (e : TextError) → (e.fault ≢ fault.Memory → grammar.tokens grammar.bytes_of text ≡ None)
    → IsRefusal e.fault → script_of text ≡ None
unfolding script_of
no_tokens text e lexed r =
    ap (λ (o : Option (List grammar.Placed)). (o >>= λ ts. all_at_zero ts) >>= λ ps. script_in text ps) (lexed (λ same. subst IsRefusal same r))

-- the same error at another position
pub moved : (text : List ℕ) (e other : TextError) → other.fault ≡ e.fault
    → (IsRefusal e.fault → script_of text ≡ None) → IsRefusal other.fault → script_of text ≡ None
moved text e other same h r = h (subst IsRefusal same r)

-- a reader that begins has read nothing
pub is_new : (r : Reader) (end : Span) → left r ≡ all_of (all_bare r) end → r.fault ≡ None → r.lists.commands.items ≡ [] → r.lists.values.items ≡ [] → IsNew r
is_new r end begins clean commands values = record { commands = commands; values = values; clean = clean; all = ap (λ (t : Toks). t.left) begins }

-- the tokens that a reader begins with
begins : (text : List ℕ) (toks : Vec Placed) (new : Reader) (end : Span) → new.tokens ≡ toks
    → left new ≡ all_of (all_bare new) end → end ≡ record { offset = length text }
    → all_of (map bare_placed toks.items) (record { offset = length text }) ≡ left new
begins text toks new end same at_left at_end =
    ap (all_of (map bare_placed toks.items)) (sym at_end) ∙ ap (λ (t : Vec Placed). all_of (map bare_placed t.items) end) (sym same) ∙ sym at_left

-- the commands of a script are those that were read
pub script_made : (text : List ℕ) (toks : Vec Placed) (new done : Reader) (s : Script) (end : Span) → new.tokens ≡ toks
    → left new ≡ all_of (all_bare new) end → end ≡ record { offset = length text } → ReadsAll script new done → done.fault ≡ None
    → s.commands.items ≡ map (placed_up_to (length text)) done.lists.commands.items
    → s.values ≡ done.lists.values → s.lanes ≡ done.lists.lanes → s.tokens ≡ done.tokens
    → script_in text (map bare_placed toks.items) ≡ Some (commands_of s)
script_made text toks new done s end same at_left at_end r clean commands values lanes tokens =
    ap (λ t. script t >>= λ cs. Some (map (up_to (length text)) cs)) (begins text toks new end same at_left at_end)
    ∙ ap (λ o. o >>= λ cs. Some (map (up_to (length text)) cs)) (r.gives clean)
    ∙ ap Some (sym (all_placed (length text) (all_bare done) (read_values done.lists) done.lists.commands.items)
    ∙ ap (map (command_in (all_bare done) (read_values done.lists))) (sym commands)
    ∙ ap (λ (t : Vec Placed). map (command_in (map bare_placed t.items) (read_values done.lists)) s.commands.items) (sym tokens)
    ∙ ap (λ (v : Vec code_value.Value). map (command_in (script_tokens s) (map (value_in done.lists.lanes.items) v.items)) s.commands.items) (sym values)
    ∙ ap (λ (n : Vec Number). map (command_in (script_tokens s) (map (value_in n.items) s.values.items)) s.commands.items) (sym lanes))

-- a text that the reader rejected is no script
pub no_script : (text : List ℕ) (toks : Vec Placed) (new done : Reader) (end : Span) (e : TextError)
    → new.tokens ≡ toks → left new ≡ all_of (all_bare new) end → end ≡ record { offset = length text }
    → ReadsAll script new done → done.fault ≡ Some e → IsRefusal e.fault → script_in text (map bare_placed toks.items) ≡ None
no_script text toks new done end e same at_left at_end r is f =
    ap (λ t. script t >>= λ cs. Some (map (up_to (length text)) cs)) (begins text toks new end same at_left at_end)
    ∙ ap (λ o. o >>= λ cs. Some (map (up_to (length text)) cs)) (r.refuses (subst IsRefused (sym is) f))

-- the loop that moves positions
pub placed_more : (n k : ℕ) (cs found more : List code_command.Command) (c : code_command.Command) (span : Span)
    → k < length cs → c ≡ get_or cs k c → found ≡ map (placed_up_to n) (take k cs)
    → span ≡ record { offset = min c.span.offset n } → more ≡ found ++ record { span = span; kind = c.kind } ∷ []
    → more ≡ map (placed_up_to n) (take (k + 1) cs)
placed_more n k cs found more c span few here so_far at is =
    is ∙ (λ i. so_far i ++ record { span = at i; kind = c.kind } ∷ [])
    ∙ ap (λ (d : code_command.Command). map (placed_up_to n) (take k cs) ++ placed_up_to n d ∷ []) here
    ∙ sym (ap (map (placed_up_to n)) (take_more cs k c few) ∙ map_push (placed_up_to n) (take k cs) (get_or cs k c))

-- positions that were moved are in the text
pub all_within : (n : ℕ) (cs found : List code_command.Command) → found ≡ map (placed_up_to n) cs → All (λ c. c.span.offset ≤ n) found
all_within n cs found is = subst (All (λ c. c.span.offset ≤ n)) (sym is) (go cs)
  where
    go : (cs : List code_command.Command) → All (λ c. c.span.offset ≤ n) (map (placed_up_to n) cs)
    go [] k d under = absurd (omega (arith, under))
    go (c ∷ cs) zero d under = omega arith
    go (c ∷ cs) (suc k) d under = go cs k d (omega (arith, under))
