-- Instructions that are read, and then built or appended to a list.
use Rattle.std.proofs.Common.{◌≡◌, ◌∙◌, true, false, ℕ, List, [], ◌∷◌, map, None, Some, refl, sym, ap, subst}
use Rattle.std.specs.Borrow.{Bor}
use Rattle.wat_grammar.specs.Parts.{◌>>=◌}
use Rattle.wat_tokens.specs.declared.words.Word.{Word}
use Rattle.wat_tokens.specs.declared.tokens.Token.TheVariants as token
use Rattle.wat_syntax.specs.Tree.{Instruction}
use Rattle.wat_syntax.specs.Tokens.{Toks, Parse, one, peek, after, with_parts}
use Rattle.wat_syntax.specs.Instructions.{is_plaininstr, plaininstr, instruction_of, instruction}
use Rattle.wat_syntax.specs.BareInstructions.{bare_instr}
use Rattle.wat_text.specs.declared.reader.Reader.{Reader}
use Rattle.wat_text.specs.Readers.{left, IsRefused, Reads, Decides, ReadsOnto, Builds}
use Rattle.wat_text.proofs.Loops.{mapped}
use Rattle.wat_text.proofs.Makes.{none_failed}
use Rattle.wat_text.proofs.Steps.{decided}
use Rattle.wat_text.proofs.Words.{not_opener}

-- an instruction that the tree builds of what was read
pub built : {S : Type 0} (rule : Toks → Parse S) (shape : S → Instruction) (old mid new : Reader) (x : S) (result i : Instruction) → Reads rule old mid x
    → (mid.make ≡ true → new.make ≡ true) × (new.make ≡ false → result ≡ i) → bare_instr i ≡ shape x → new.fault ≡ mid.fault → left new ≡ left mid
    → Reads (λ toks. rule toks >>= λ y. Some (shape y.0, y.1)) old new (bare_instr result)
built {S = S} rule shape old mid new x result i r m is same stays = record {
  made = λ h. r.made (back h);
  clean = λ h. r.clean (sym same ∙ h);
  gives = λ h. ap shaped (r.gives (sym same ∙ h.0, back h.1)) ∙ ap (λ j. Some (j, left mid)) (sym (ap bare_instr (m.1 h.1) ∙ is))
      ∙ ap (λ t. Some (bare_instr result, t)) (sym stays);
  keeps = λ h. same ∙ r.keeps h;
  refuses = λ h k f. ap shaped (r.refuses h (back k) (subst IsRefused same f));
}
  where
    shaped : Parse S → Parse Instruction
    shaped p = p >>= λ y. Some (shape y.0, y.1)

    back : new.make ≡ false → mid.make ≡ false
    back h = none_failed mid.make new.make m.0 h

-- an instruction that is appended to a list
pub put : (rule : Toks → Parse Instruction) (old mid new : Reader) (i : Instruction) (before behind : List Instruction)
    → Reads rule old mid (bare_instr i) → Builds mid new i before behind
    → ReadsOnto (one rule) old new (map bare_instr before) (map bare_instr behind)
put rule old mid new i before behind r b = record {
  made = λ h. r.made (b.made h);
  clean = λ h. r.clean (sym b.fault ∙ h);
  gives = λ h. ap (λ p. with_parts (map bare_instr before) (listed p)) (r.gives (sym b.fault ∙ h.0, b.made h.1))
      ∙ ap (λ is. Some (is, left mid)) (sym (ap (map bare_instr) (b.pushed h.1) ∙ mapped bare_instr before i))
      ∙ ap (λ t. Some (map bare_instr behind, t)) (sym b.left);
  keeps = λ h. b.fault ∙ r.keeps h;
  refuses = λ h m f. ap listed (r.refuses h (b.made m) (subst IsRefused b.fault f));
}
  where
    listed : Parse Instruction → Parse (List Instruction)
    listed p = p >>= λ x. Some (x.0 ∷ [], x.1)

-- the same of one that is decided
pub put_decided : (rule : Toks → Parse Instruction) (old mid new : Reader) (i : Instruction) (before behind : List Instruction)
    → Decides rule old mid (bare_instr i) → Builds mid new i before behind
    → ReadsOnto (one rule) old new (map bare_instr before) (map bare_instr behind)
put_decided rule old mid new i before behind d b = put rule old mid new i before behind (decided rule old mid (bare_instr i) d) b

-- an instruction without immediates, for which no token is read
pub at_once : (rule : Toks → Parse Instruction) (r : Reader) (i : Instruction) → rule (left r) ≡ Some (i, left r) → Decides rule r r i
at_once rule r i is = record {
  make = refl;
  clean = λ h. h;
  gives = λ h. is;
  keeps = λ h. refl;
  refuses = λ h f. absurd (subst IsRefused h f);
}

-- a plain instruction, by its word, which is read before it
pub by_word : (w : Word) (name : Bor (List ℕ)) (old skipped new : Reader) (before behind : List Instruction)
    → peek 0 (left old) ≡ Some (token.Word w name) → is_plaininstr w ≡ true
    → left skipped ≡ after (left old) → skipped.fault ≡ old.fault → skipped.make ≡ old.make
    → ReadsOnto (one (plaininstr w name)) skipped new before behind → ReadsOnto (one instruction) old new before behind
by_word w name old skipped new before behind next plain stays fault make r = record {
  made = λ h. sym make ∙ r.made h;
  clean = λ h. sym fault ∙ r.clean h;
  gives = λ h. ap (λ p. with_parts before (listed p)) same ∙ r.gives h;
  keeps = λ h. r.keeps (subst (λ e. e ≡ None → ⊥) (sym fault) h) ∙ fault;
  refuses = λ h m f. ap listed same ∙ r.refuses (fault ∙ h) m f;
}
  where
    listed : Parse Instruction → Parse (List Instruction)
    listed p = p >>= λ x. Some (x.0 ∷ [], x.1)

    same : instruction (left old) ≡ plaininstr w name (left skipped)
    same = ap (λ t. instruction_of t (after (left old))) next ∙ not_opener w name (after (left old)) plain ∙ ap (plaininstr w name) (sym stays)
