-- The results of the id counter: a generated id, and an id that is generated if there is none.
--
-- The counter is the generation of its next id.
--
--   generate at counter 3                    the generated id 3; the counter is then 4
--   generate at counter 2^64 - 1             E10; the counter is unchanged
--   fill a slot that has `$f`                `$f`; slot and counter are unchanged
use Rattle.std.specs.Prelude.{◌≡◌, ℕ, ◌+◌, ◌^◌, Option, Some, None, Result, Ok, Err}
use Rattle.wast_base.specs.declared.ids.Span.{Span}
use Rattle.wast_base.specs.declared.ids.Id.{Id}
use Rattle.wast_base.specs.declared.faults.Error.{Error}
use Rattle.wast_base.specs.Ids.{gensym_id}
use Rattle.wast_base.specs.Faults.{too_large}

-- the generated id of the counter with this position; E10 at the greatest number, with nothing changed
abbrev pub Generates : ℕ → Span → Result Id Error → ℕ → Type 0
Generates old span (Ok id) new = (id ≡ gensym_id old span) × (new ≡ old + 1)
Generates old span (Err e) new = (e ≡ too_large) × (old + 1 ≡ 2 ^ 64) × (new ≡ old)

-- the id in the slot, or else a generated one, which is then in the slot
abbrev pub Fills : ℕ → Span → Option Id → Result Id Error → Option Id → ℕ → Type 0
Fills old span (Some id) result slot new = (result ≡ Ok id) × (slot ≡ Some id) × (new ≡ old)
Fills old span None (Ok id) slot new = (id ≡ gensym_id old span) × (slot ≡ Some id) × (new ≡ old + 1)
Fills old span None (Err e) slot new = (e ≡ too_large) × (old + 1 ≡ 2 ^ 64) × (slot ≡ None) × (new ≡ old)
