use Rattle.std.proofs.Common.{refl}
use Rattle.wast_script.specs.declared.commands.CommandKind.TheVariants as kind
use Rattle.wast_script_json.specs.References.{copied, entered, left}
use Rattle.wast_script_json.proofs.References.{of_kind, plain}
use Rattle.wast_script_json.proofs.instances.Instances.pass.Goals as goal

pub returns-in_ok-module-in-Module : goal.returns-in_ok-module-in-Module
returns-in_ok-module-in-Module c s k =
    let p = c.in_ok-module-in-Module.ensures s k in
    of_kind c.args.kind (kind.Module c.in-Module.«module») c.in-Module.is _ _ s p.0 p.1 p.2

pub returns-in_ok-module-in-Definition : goal.returns-in_ok-module-in-Definition
returns-in_ok-module-in-Definition c s k =
    let p = c.in_ok-module-in-Definition.ensures s k in
    of_kind c.args.kind (kind.Definition c.in-Definition.«module») c.in-Definition.is _ _ s p.0 p.1 p.2

pub returns-in_ok-copy-in-Instance : goal.returns-in_ok-copy-in-Instance
returns-in_ok-copy-in-Instance c s k =
    of_kind c.args.kind (kind.Instance c.in-Instance.id c.in-Instance.original) c.in-Instance.is _ _ s
    (copied c.in-Instance.id c.in-Instance.original s) refl (c.in_ok-copy-in-Instance.ensures s k)

pub returns-in_ok-enter-in-Thread : goal.returns-in_ok-enter-in-Thread
returns-in_ok-enter-in-Thread c s k =
    of_kind c.args.kind (kind.Thread c.in-Thread.field-0 c.in-Thread.shared) c.in-Thread.is _ _ s (entered c.in-Thread.shared s) refl
    (c.in_ok-enter-in-Thread.ensures s k)

pub returns-in-ThreadEnd : goal.returns-in-ThreadEnd
returns-in-ThreadEnd c s k = of_kind c.args.kind kind.ThreadEnd c.in-ThreadEnd.is _ _ s (left s) refl (c.leave.ensures s k)

pub returns-in_default : goal.returns-in_default
returns-in_default c s k = (
  s,
  plain c.args.kind _ s c.in_default.not-Module c.in_default.not-Definition c.in_default.not-Instance c.in_default.not-Thread
      c.in_default.not-ThreadEnd,
  k,
)
