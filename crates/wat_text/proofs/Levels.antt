-- The rules that the grammar still has to read while levels are open, those of the innermost level first.
--
--   (drop (i32.const 0      two levels are open; each still has to read a ')'
use Rattle.std.proofs.Common.{ℕ, suc, Bool, List, [], ◌∷◌, ◌++◌, Option, None, Some}
use Rattle.wat_tokens.specs.declared.words.Key.TheVariants as key
use Rattle.wat_syntax.specs.Tree.{Instruction, Expression}
use Rattle.wat_syntax.specs.Tokens.{Parse, rparen, form}
use Rattle.wat_syntax.specs.Bodies.{Item, Instr, Hint, Rule, Within, Place, Anywhere, Folded, Catches, CatchArms, terminal, writes, arm, ends}
use Rattle.wat_syntax.specs.Bodies.{else_arm, catch_all_arm, handlers, part, End, else_to_end, catch_all_to_end, catches_to_end, sequences, at_end}
use Rattle.wat_text.specs.declared.bodies.Level.{Level}
use Rattle.wat_text.specs.declared.bodies.Level.TheVariants as level
use Rattle.wat_text.specs.declared.bodies.Hint as code
use Rattle.wat_text.specs.declared.bodies.Open.{Open}
use Rattle.wat_text.specs.Machine.{State, last_of, before_last}
use Rattle.wat_text.proofs.Running.{run, mix, BelowRules, same_rule, same_rules, before_both, sequences_below, arm_below, else_arm_below}
use Rattle.wat_text.proofs.Running.{catch_all_arm_below, handlers_below, else_to_end_below, catch_all_to_end_below, catches_to_end_below}

-- what is read: an expression up to the end of its form, or one folded instruction
pub data Base : Type 0 where
  Whole : Base
  One : Base

-- which instructions are read in a level, if any
abbrev pub level_place : Level → Option Place
level_place level.Operands = Some Folded
level_place level.Condition = Some Folded
level_place level.Catch = Some CatchArms
level_place level.Then = None
level_place level.Try = None
level_place level.Do = None
level_place level.Last = None
level_place level.Delegated = None
level_place l = Some Anywhere

abbrev pub base_place : Base → Option Place
base_place Whole = Some Anywhere
base_place One = None

abbrev pub base_rules : Base → List Rule
base_rules Whole = at_end ∷ []
base_rules One = []

abbrev pub place_in : Base → List Open → Option Place
place_in b [] = base_place b
place_in b (o ∷ os) = level_place o.level

-- the hint of an instruction, and the instruction that waits since last
abbrev pub hint_items : Option code.Hint → List Item
hint_items None = []
hint_items (Some h) = Hint h.value ∷ []

abbrev pub item_of : Option Instruction → List Item
item_of None = []
item_of (Some i) = Instr i ∷ []

abbrev pub waits : Option code.Hint → List Instruction → List Item
waits h ws = hint_items h ++ item_of (last_of ws)

-- what waits outside of a level
abbrev pub others : Level → List Instruction → List Instruction
others level.Operands ws = before_last ws
others level.Condition ws = before_last ws
others l ws = ws

module _ (may : Bool) where
  -- what follows the instructions of a level
  abbrev pub own : Within → Level → Option code.Hint → List Instruction → List Rule
  own within level.Operands h ws = terminal rparen ∷ writes (waits h ws) ∷ []
  own within level.Condition h ws = terminal (form key.Then) ∷ writes (waits h ws) ∷ arm within ∷ else_arm within ∷ ends ∷ []
  own within level.Block h ws = ends ∷ []
  own within level.Then h ws = else_arm within ∷ ends ∷ []
  own within level.Try h ws = terminal (form key.Do) ∷ arm within ∷ handlers within ∷ []
  own within level.Do h ws = handlers within ∷ []
  own within level.Catch h ws = catch_all_arm within ∷ ends ∷ []
  own within level.Last h ws = ends ∷ []
  own within level.Delegated h ws = terminal rparen ∷ []
  own within level.Arm h ws = terminal rparen ∷ []
  own within level.Plain h ws = part may End ∷ []
  own within level.PlainIf h ws = else_to_end may within ∷ []
  own within level.PlainTry h ws = catches_to_end may within ∷ []
  own within level.PlainCatch h ws = within Catches ∷ catch_all_to_end may within ∷ []

  -- the instructions that are read in a level, and what follows them
  abbrev pub placed : ℕ → Option Place → List Rule → List Rule
  placed m (Some p) ps = sequences may m p ∷ ps
  placed m None ps = ps

  abbrev pub behind : Base → ℕ → List Open → List Instruction → List Rule
  behind b m [] ws = base_rules b
  behind b m (o ∷ os) ws = own (sequences may m) o.level o.hint ws ++ placed m (place_in b os) (behind b m os (others o.level ws))

  abbrev pub todo : Base → ℕ → List Open → List Instruction → List Rule
  todo b m ls ws = placed m (place_in b ls) (behind b m ls ws)

  -- the result of the grammar from a state
  abbrev pub answer : Base → ℕ → State → Parse Expression
  answer b m s = run (todo b m s.levels s.waiting) s.read s.toks

  -- the same if the first rules have one step fewer
  abbrev pub mixed : Base → ℕ → ℕ → State → Parse Expression
  mixed b k m s = run (mix k (todo b m s.levels s.waiting) (todo b (suc m) s.levels s.waiting)) s.read s.toks

  own_below : (m : ℕ) (l : Level) (h : Option code.Hint) (ws : List Instruction)
      → BelowRules (own (sequences may m) l h ws) (own (sequences may (suc m)) l h ws)
  own_below m level.Operands h ws = same_rules (own (sequences may m) level.Operands h ws)
  own_below m level.Condition h ws = (
    same_rule (terminal (form key.Then)),
    (
      same_rule (writes (waits h ws)),
      (
        arm_below may (sequences may m) (sequences may (suc m))
            (sequences_below may m),
        (else_arm_below may (sequences may m) (sequences may (suc m)) (sequences_below may m), (same_rule ends, tt)),
      ),
    ),
  )
  own_below m level.Block h ws = same_rules (own (sequences may m) level.Block h ws)
  own_below m level.Then h ws = (else_arm_below may (sequences may m) (sequences may (suc m)) (sequences_below may m), (same_rule ends, tt))
  own_below m level.Try h ws = (
    same_rule (terminal (form key.Do)),
    (
      arm_below may (sequences may m) (sequences may (suc m))
          (sequences_below may m),
      (handlers_below may (sequences may m) (sequences may (suc m)) (sequences_below may m), tt),
    ),
  )
  own_below m level.Do h ws = (handlers_below may (sequences may m) (sequences may (suc m)) (sequences_below may m), tt)
  own_below m level.Catch h ws = (catch_all_arm_below may (sequences may m) (sequences may (suc m)) (sequences_below may m), (same_rule ends, tt))
  own_below m level.Last h ws = same_rules (own (sequences may m) level.Last h ws)
  own_below m level.Delegated h ws = same_rules (own (sequences may m) level.Delegated h ws)
  own_below m level.Arm h ws = same_rules (own (sequences may m) level.Arm h ws)
  own_below m level.Plain h ws = same_rules (own (sequences may m) level.Plain h ws)
  own_below m level.PlainIf h ws = (else_to_end_below may (sequences may m) (sequences may (suc m)) (sequences_below may m), tt)
  own_below m level.PlainTry h ws = (catches_to_end_below may (sequences may m) (sequences may (suc m)) (sequences_below may m), tt)
  own_below m level.PlainCatch h ws =
      ((sequences_below may m).at Catches, (catch_all_to_end_below may (sequences may m) (sequences may (suc m)) (sequences_below may m), tt))

  placed_below : (m : ℕ) (p : Option Place) (ps qs : List Rule) → BelowRules ps qs → BelowRules (placed m p ps) (placed (suc m) p qs)
  placed_below m None ps qs below = below
  placed_below m (Some p) ps qs below = ((sequences_below may m).at p, below)

  behind_below : (b : Base) (m : ℕ) (ls : List Open) (ws : List Instruction) → BelowRules (behind b m ls ws) (behind b (suc m) ls ws)
  behind_below b m [] ws = same_rules (base_rules b)
  behind_below b m (o ∷ os) ws =
      before_both _ _ _ _ (own_below m o.level o.hint ws) (placed_below m (place_in b os) _ _ (behind_below b m os (others o.level ws)))

  pub todo_below : (b : Base) (m : ℕ) (ls : List Open) (ws : List Instruction) → BelowRules (todo b m ls ws) (todo b (suc m) ls ws)
  todo_below b m ls ws = placed_below m (place_in b ls) _ _ (behind_below b m ls ws)
