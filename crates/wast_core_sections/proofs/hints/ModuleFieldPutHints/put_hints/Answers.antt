use Rattle.std.proofs.Common.{◌≡◌, true, subst}
use Rattle.wast_core_conv.specs.Encodable.{is_encodable_field}
use Rattle.wast_core_conv.proofs.Ready.{hints_ready, import_ready}
use Rattle.wast_core_sections.proofs.Hinting.{nothing_written}
use Rattle.wast_core_sections.proofs.hints.ModuleFieldPutHints.put_hints.Goals as goal

pub put_function-requires : goal.put_function-requires
put_function-requires g c = hints_ready c.in-Func.func (subst (λ x. is_encodable_field x ≡ true) c.in-Func.is c.requires)

pub imported-requires : goal.imported-requires
imported-requires g c = import_ready c.in-Import.imports (subst (λ x. is_encodable_field x ≡ true) c.in-Import.is c.requires)

pub returns-in-Import-clause-written : goal.returns-in-Import-clause-written
returns-in-Import-clause-written g c = rw c.in-Import.is (λ n from. nothing_written g.S.Sink.rules c.args.out.now n c.in-Import.imports.items g.met.S.Sink.laws)
