-- The contracts of functions that read a part of a text, by a rule of the grammar.
--
-- The tokens of the code have addresses, and so have the parts that it makes of them. A contract speaks of tokens and parts without
-- addresses (Bare in wat_syntax): of the bare tokens that were left before, the rule makes the bare part.
--
-- A rule takes tokens, and returns a value and the tokens that are left, or `None`. A contract states both directions. If the
-- function succeeds, its result is the value of the rule. If it rejects the tokens, the rule is `None`.
--
--   (result i32) drop      the rule of results returns `i32`, and leaves `drop`
use Rattle.std.specs.Prelude.{◌≡◌, ◌≢◌, ⊤, ℕ, zero, suc, ◌-◌, Bool, true, false, List, [], ◌∷◌, ◌++◌, length, map, drop, slice_get, Option, None, Some}
use Rattle.std.specs.Global.{Vec}
use Rattle.wast_base.specs.declared.ids.Span.{Span}
use Rattle.wat_tokens.specs.declared.faults.TextFault.{TextFault}
use Rattle.wat_tokens.specs.declared.faults.TextFault.TheVariants as fault
use Rattle.wat_tokens.specs.declared.faults.TextError.{TextError}
use Rattle.wat_tokens.specs.declared.tokens.Placed.{Placed}
use Rattle.wat_tokens.specs.declared.tokens.Token.TheVariants as token
use Rattle.wat_tokens.specs.Groups.{all_in}
use Rattle.wat_tokens.specs.Scans.{placed}
use Rattle.wat_syntax.specs.Bare.{bare_placed}
use Rattle.wat_syntax.specs.Tokens.{Toks, Parse, position_in, optional, is_there, with_parts}
use Rattle.wat_text.specs.declared.reader.Reader.{Reader}

-- Of some tokens without addresses, those after the first ones, with the position of the token before them.
abbrev pub left_of : ℕ → List Placed → Span → Toks
left_of at found end = record { before = position_in (drop (at - 1) found) end; left = drop at found; end = end }

-- So many tokens of a list. If it has fewer, a ')' at the start of the text is in the place of each that it lacks. A reader never
-- counts more tokens than it has, but no invariant states that, so that a count alone says how many tokens are left.
unfoldable pub exactly : ℕ → List Placed → List Placed
exactly zero found = []
exactly (suc n) [] = placed token.Close 0 ∷ exactly n []
exactly (suc n) (p ∷ ps) = p ∷ exactly n ps

-- the tokens of a group and of those after it, of which all have so many
unfoldable pub grouped : List Placed → ℕ → List (Vec Placed) → List Placed
grouped found count later = found ++ exactly (count - length found) (all_in later)

-- the token after so many others in groups
unfoldable pub token_in : List (Vec Placed) → ℕ → Option Placed
token_in groups ahead = slice_get (all_in groups) ahead

-- the tokens that are left, without addresses
unfoldable pub left : Reader → Toks
left r = left_of r.at (map bare_placed (grouped r.tokens.items r.count r.later.items)) r.end

-- There is no error, and no allocation of the tree failed.
abbrev pub IsClean : Reader → Type 0
IsClean r = (r.fault ≡ None) × (r.make ≡ false)

-- a fault other than a failed allocation
abbrev pub IsRefusal : TextFault → Type 0
IsRefusal fault.Memory = ⊥
IsRefusal f = ⊤

abbrev pub IsRefused : Option TextError → Type 0
IsRefused None = ⊥
IsRefused (Some e) = IsRefusal e.fault

-- A reader read a part by a rule; `part` is without addresses. If there is no error afterwards, there was none before. Then the rule
-- reads this part from the tokens that were left before, and leaves the tokens that are left now. An error that there was before is
-- kept. If the reader rejected the tokens and no allocation of the tree failed, the rule does not produce them.
pub record Reads {T : Type 0} (rule : Toks → Parse T) (old new : Reader) (part : T) : Type 0 where
  pub made : new.make ≡ false → old.make ≡ false
  pub clean : new.fault ≡ None → old.fault ≡ None
  pub gives : IsClean new → rule (left old) ≡ Some (part, left new)
  pub keeps : old.fault ≢ None → new.fault ≡ old.fault
  pub refuses : old.fault ≡ None → new.make ≡ false → IsRefused new.fault → rule (left old) ≡ None

-- The same for a part that needs no list of the tree, so that the fault alone shows whether something failed. If the reader
-- rejected the tokens, the rule does not produce them.
pub record Decides {T : Type 0} (rule : Toks → Parse T) (old new : Reader) (part : T) : Type 0 where
  pub make : new.make ≡ old.make
  pub clean : new.fault ≡ None → old.fault ≡ None
  pub gives : new.fault ≡ None → rule (left old) ≡ Some (part, left new)
  pub keeps : old.fault ≢ None → new.fault ≡ old.fault
  pub refuses : old.fault ≡ None → IsRefused new.fault → rule (left old) ≡ None

-- The same for a terminal such as ')', which has no value.
pub record Expects (rule : Toks → Option Toks) (old new : Reader) : Type 0 where
  pub make : new.make ≡ old.make
  pub clean : new.fault ≡ None → old.fault ≡ None
  pub gives : new.fault ≡ None → rule (left old) ≡ Some (left new)
  pub keeps : old.fault ≢ None → new.fault ≡ old.fault
  pub refuses : old.fault ≡ None → IsRefused new.fault → rule (left old) ≡ None

-- A reader read a terminal that can be left out, and returned whether it was there.
pub record Accepts (rule : Toks → Option Toks) (old new : Reader) (found : Bool) : Type 0 where
  pub there : found ≡ true → rule (left old) ≡ Some (left new)
  pub absent : found ≡ false → rule (left old) ≡ None
  pub stays : found ≡ false → left new ≡ left old
  pub gives : is_there rule (left old) ≡ Some (found, left new)
  pub fault : new.fault ≡ old.fault
  pub make : new.make ≡ old.make

-- A reader read one token by a rule, if the rule produces it.
pub record Finds {T : Type 0} (rule : Toks → Parse T) (old new : Reader) (part : Option T) : Type 0 where
  pub there : (x : T) → part ≡ Some x → rule (left old) ≡ Some (x, left new)
  pub absent : part ≡ None → rule (left old) ≡ None
  pub stays : part ≡ None → left new ≡ left old
  pub gives : optional rule (left old) ≡ Some (part, left new)
  pub fault : new.fault ≡ old.fault
  pub make : new.make ≡ old.make

-- A reader stored a fault at a position, unless it had one.
pub record Fails (fault : TextFault) (span : Span) (old new : Reader) : Type 0 where
  pub make : new.make ≡ old.make
  pub first : old.fault ≡ None → new.fault ≡ Some (record { fault = fault; span = span })
  pub keeps : old.fault ≢ None → new.fault ≡ old.fault

-- A reader stored some fault, unless it had one.
pub record Refuses (old new : Reader) : Type 0 where
  pub make : new.make ≡ old.make
  pub faulty : new.fault ≢ None
  pub keeps : old.fault ≢ None → new.fault ≡ old.fault

-- A reader read a list of parts by a rule, and appended them to those that a list had before.
pub record ReadsOnto {T : Type 0} (rule : Toks → Parse (List T)) (old new : Reader) (before after : List T) : Type 0 where
  pub made : new.make ≡ false → old.make ≡ false
  pub clean : new.fault ≡ None → old.fault ≡ None
  pub gives : IsClean new → with_parts before (rule (left old)) ≡ Some (after, left new)
  pub keeps : old.fault ≢ None → new.fault ≡ old.fault
  pub refuses : old.fault ≡ None → new.make ≡ false → IsRefused new.fault → rule (left old) ≡ None

-- A reader appended a part to a list, or stored that the allocation failed.
pub record Pushes {T : Type 0} (old new : Reader) (part : T) (before after : List T) : Type 0 where
  pub make : new.make ≡ old.make
  pub clean : new.fault ≡ None → old.fault ≡ None
  pub pushed : new.fault ≡ None → after ≡ before ++ part ∷ []
  pub left : new.fault ≡ None → left new ≡ left old
  pub keeps : old.fault ≢ None → new.fault ≡ old.fault
  pub memory : old.fault ≡ None → IsRefused new.fault → ⊥

-- The same for a part of the tree. If the allocation failed, `make` stores that, and no fault is added.
pub record Builds {T : Type 0} (old new : Reader) (part : T) (before after : List T) : Type 0 where
  pub made : new.make ≡ false → old.make ≡ false
  pub fault : new.fault ≡ old.fault
  pub pushed : new.make ≡ false → after ≡ before ++ part ∷ []
  pub left : left new ≡ left old
