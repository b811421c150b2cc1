-- Nothing is written of another command.
use Rattle.std.proofs.Common.{List, ℕ, ◌++◌, sym, ap, ◌∙◌, append-nil}
use Rattle.wast_script_json.specs.Json.{written}
use Rattle.wast_script_json.proofs.OtherKinds.{none_written}
use Rattle.wast_script_json.proofs.objects.write_other.Goals as goal

pub returns-in_default : goal.returns-in_default
returns-in_default c =
    sym (append-nil (written c.args.json.now))
    ∙ ap (λ (l : List ℕ). written c.args.json.now ++ l)
    (none_written c.args.kind c.args.line c.args.is_skipped c.in_default.not-Instance c.in_default.not-Register c.in_default.not-Thread
    c.in_default.not-ThreadEnd c.in_default.not-Wait)
