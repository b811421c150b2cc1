-- Closes the functions that put tokens in groups: a token more, and a group more.
use Rattle.std.proofs.Common.{◌≡◌, ◌∙◌, ◌+◌, List, [], ◌∷◌, ◌++◌, length, sym, ap, append_assoc, append-nil, length-append}
use Rattle.std.specs.Global.{Vec}
use Rattle.wat_tokens.specs.declared.tokens.Placed.{Placed}
use Rattle.wat_tokens.specs.Groups.{all_in}

-- no tokens
pub nothing_put : (groups : List (Vec Placed)) (last : List Placed) → groups ≡ [] → last ≡ [] → all_in groups ++ last ≡ []
nothing_put groups last e f = ap (λ gs. all_in gs ++ last) e ∙ f

pub nothing_counted : (groups : List (Vec Placed)) → groups ≡ [] → 0 ≡ length (all_in groups)
nothing_counted groups e = sym (ap (λ gs. length (all_in gs)) e)

-- a token more
pub token_put : (groups last : List Placed) (token : Placed) → groups ++ (last ++ token ∷ []) ≡ (groups ++ last) ++ token ∷ []
token_put groups last token = sym (append_assoc groups last (token ∷ []))

-- a group more
pub group_put : (groups : List (Vec Placed)) (group : Vec Placed) → all_in (groups ++ group ∷ []) ≡ all_in groups ++ group.items
group_put [] group = append-nil group.items
group_put (g ∷ gs) group = ap (λ ts. g.items ++ ts) (group_put gs group) ∙ sym (append_assoc g.items (all_in gs) group.items)

pub group_counted : (groups : List (Vec Placed)) (group : Vec Placed) → length (all_in (groups ++ group ∷ [])) ≡ length (all_in groups) + length group.items
group_counted groups group = ap length (group_put groups group) ∙ length-append (all_in groups) group.items

-- a new group, which has no tokens yet
pub group_begun : (tokens next : List Placed) → next ≡ [] → tokens ++ next ≡ tokens
group_begun tokens next e = ap (λ ts. tokens ++ ts) e ∙ append-nil tokens
