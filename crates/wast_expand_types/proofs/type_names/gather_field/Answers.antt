use Rattle.std.proofs.Common.{◌++◌, append-nil, sym, ap, ◌∙◌}
use Rattle.wast_expand_types.proofs.TypeItems.{other_names}
use Rattle.wast_expand_types.proofs.type_names.gather_field.Goals as goal

pub returns-in_default : goal.returns-in_default
returns-in_default c = record {
  ok = sym (append-nil c.args.gathering.now)
      ∙ ap (λ ns. c.args.gathering.now ++ ns) (sym (other_names c.args.field.now c.in_default.not-Ty c.in_default.not-Rec));
  refusal = tt;
}
