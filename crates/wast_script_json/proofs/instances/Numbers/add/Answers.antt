use Rattle.std.proofs.Common.{refl}
use Rattle.wast_script_json.proofs.instances.Numbers.add.Goals as goal

pub returns : goal.returns
returns c own all h = record { by_id = c.in_ok-_before.ensures all h.by_id; last = refl }
