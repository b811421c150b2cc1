-- The contents of results, as the prover computes them.
use Rattle.std.specs.Prelude.{◌≡◌, Some, None, codes}
use Rattle.wast_base.specs.declared.faults.Fault.TheVariants as fault
use Rattle.wast_base.specs.declared.faults.Form.TheVariants as form
use Rattle.wast_base.specs.declared.spaces.Space.TheVariants as space
use Rattle.wast_base.specs.Ids.{Written}
use Rattle.wast_base.specs.Faults.{At, Nowhere, Unknown, Uncovered}
use Rattle.wast_tree_nodes.specs.WorkedModules.{Address, text, place, id_at}
use Rattle.wat_tokens.specs.declared.faults.TextFault.TheVariants as text_fault
use Rattle.wat_bytes.specs.declared.refusals.Refused.TheVariants as answer
use Rattle.wat_bytes.specs.Names.{content_of}
use Rattle.wat_bytes.specs.OneText.{diagnostic_in}

-- An entry of `$f` at 14 as function 0 has no address. Neither has E4 at `$f`. E11 and an error of the text have no position.
abbrev pub Contents : Type 0
Contents = (a b : Address) →
    (content_of (record { space = space.Func; id = id_at a (codes "f") 14; number = 0 }) ≡ (space.Func, (0, (Written (codes "f"), place 14))))
    × (diagnostic_in (answer.Module (record { fault = fault.Unknown (text a (codes "func")) (text b (codes "f")); span = Some (place 15) }))
    ≡ Some (At (Unknown (codes "func") (codes "f")) (place 15)))
    × (diagnostic_in (answer.Uncovered (record { form = form.Shared; span = place 20; word = Some (text b (codes "shared")) }))
    ≡ Some (Nowhere (Uncovered form.Shared)))
    × (diagnostic_in (answer.Text (record { fault = text_fault.Memory; span = place 20 })) ≡ None)
