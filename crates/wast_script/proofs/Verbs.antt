-- One command: its parenthesis, its verb and what follows; or the end of a thread.
use Rattle.std.proofs.Common.{◌≡◌, ◌∙◌, ℕ, zero, suc, ◌<◌, ◌≤◌, Bool, true, false, List, Some, refl, sym, ap, subst, arith}
use Rattle.wat_grammar.specs.Parts.{◌>>=◌}
use Rattle.wat_tokens.specs.declared.tokens.Placed.{Placed}
use Rattle.wat_syntax.specs.Tree.{Span}
use Rattle.wat_syntax.specs.Tokens.{Toks, Parse, peek, after, position, is_rparen, lparen}
use Rattle.wast_script.specs.declared.commands.CommandKind.{CommandKind}
use Rattle.wast_script.specs.declared.commands.CommandKind.TheVariants as kind
use Rattle.wast_script.specs.declared.words.Verb.{Verb}
use Rattle.wast_script.specs.declared.reader.Reader.{Reader}
use Rattle.wast_script.specs.Words.{verb_named}
use Rattle.wast_script.specs.Constants.{Value, word_that}
use Rattle.wast_script.specs.Grammar.{Kind, Command, ThreadEnd, between, command_of, command, command_or_end, ends_thread}
use Rattle.wast_script.specs.Scripts.{kind_in, command_in}
use Rattle.wast_script.specs.Readers.{left, all_bare, read_values, HaveLanes, HasValues, Decides, Expects, Moves, Reads}
use Rattle.wast_script.proofs.Goes.{same_fault}
use Rattle.wast_script.proofs.Steps.{Steps, both, turned, by_goes, by_decides, by_expects, by_reads, all_read}
use Rattle.wast_script.proofs.Acting.{moved}

pub command_read : (a b c d : Reader) (verb : Verb) (span : Span) (head : List Placed) (k : CommandKind)
    → Expects lparen a b → span ≡ position (left b) → Decides (word_that verb_named) b c verb
    → head ≡ between (left a) (left c) → Reads (command_of verb span head) c d (λ vs. kind_in (all_bare d) vs k) (λ n. HasValues n k)
    → Reads command a d (λ vs. command_in (all_bare d) vs (record { span = span; kind = k })) (λ n. HasValues n k)
command_read a b c d verb span head k opens at named from r =
    all_read command a d (λ vs. command_in (all_bare d) vs (record { span = span; kind = k })) (λ n. HasValues n k)
    (turned a d _ _ _ s (λ h l. ap
    (λ x. let o : Command × Toks = (record { span = x; kind = kind_in (all_bare d) (read_values d.lists) k }, left d) in Some o) (sym at)))
    (λ h l. r.within h (subst HaveLanes (sym (named.lists ∙ opens.lists)) l))
  where
    with_span : Kind × Toks → Parse Command
    with_span x = Some (record { span = position (left b); kind = x.0 }, x.1)

    placed : Reads (command_of verb (position (left b)) (between (left a) (left c))) c d (λ vs. kind_in (all_bare d) vs k) (λ n. HasValues n k)
    placed = subst (λ x. Reads (command_of verb x (between (left a) (left c))) c d (λ vs. kind_in (all_bare d) vs k) (λ n. HasValues n k)) at
        (subst (λ x. Reads (command_of verb span x) c d (λ vs. kind_in (all_bare d) vs k) (λ n. HasValues n k)) from r)

    s : Steps a d (command (left a)) (with_span (kind_in (all_bare d) (read_values d.lists) k, left d))
    s = both a b d _ _ _ (by_expects lparen a b (λ t. word_that verb_named t >>= λ v. command_of v.0 (position t) (between (left a) v.1) v.1
        >>= λ k. Some (record { span = position t; kind = k.0 }, k.1)) opens)
        (both b c d _ _ _ (by_decides (word_that verb_named) b c verb (λ v. command_of v.0 (position (left b)) (between (left a) v.1) v.1 >>= with_span) named)
        (by_reads (command_of verb (position (left b)) (between (left a) (left c))) c d
        (λ vs. kind_in (all_bare d) vs k) (λ n. HasValues n k) with_span placed))

-- the rule of a command, or that of the end of a thread
abbrev by_end : Bool → Toks → Parse Command
by_end b toks = elim b [ true ↦ Some (record { span = position toks; kind = ThreadEnd }, after toks) | false ↦ command toks ]

pub end_read : (threads : ℕ) (a b : Reader) → ends_thread threads (left a) ≡ true → Moves after a b
    → Reads (command_or_end threads) a b (λ vs. record { span = position (left a); kind = ThreadEnd }) (λ n. HasValues n kind.ThreadEnd)
end_read threads a b is m =
    let ended : Command = record { span = position (left a); kind = ThreadEnd } in
    all_read (command_or_end threads) a b (λ vs. ended) (λ n. HasValues n kind.ThreadEnd)
    (by_goes a b (command_or_end threads (left a)) (Some (ended, left b)) m.lists m.tokens
    (same_fault a b (command_or_end threads (left a)) (Some (ended, left b)) m.fault
    (ap (λ x. by_end x (left a)) is ∙ ap (λ t. let o : Command × Toks = (ended, t) in Some o) (sym m.left))))
    (λ h l. tt)

pub not_end : (threads : ℕ) (a b : Reader) (part : List Value → Command) (has : ℕ → Type 0)
    → ends_thread threads (left a) ≡ false → Reads command a b part has → Reads (command_or_end threads) a b part has
not_end threads a b part has is r = moved (command_or_end threads) command a a b part has refl refl refl (ap (λ x. by_end x (left a)) is) r

-- whether a thread ends there
pub some_thread : (threads : ℕ) (toks : Toks) → 0 < threads → ends_thread threads toks ≡ is_rparen (peek 0 toks)
some_thread zero toks some = absurd (omega (arith, some))
some_thread (suc n) toks some = refl

pub no_thread : (threads : ℕ) (toks : Toks) → threads ≤ 0 → ends_thread threads toks ≡ false
no_thread zero toks none = refl
no_thread (suc n) toks none = absurd (omega (arith, none))
