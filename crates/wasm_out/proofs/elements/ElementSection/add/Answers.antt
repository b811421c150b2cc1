use Rattle.std.proofs.Common.{subst, refl}
use Rattle.std.specs.Prelude.{IsTrue}
use Rattle.wasm_out.specs.BuiltElements.{is_form, element_kind, AreElements}
use Rattle.wasm_out.specs.declared.elements.ElementKind.TheVariants as kinds
use Rattle.wasm_out.proofs.BuiltSegments.{segment_ready}
use Rattle.wasm_out.proofs.elements.ElementSection.add.Goals as goal

pub push-requires : goal.push-requires
push-requires c =
    let form = subst (λ e. IsTrue (is_form c.args.mode (element_kind e))) c.in-Functions.is c.requires.form in
    segment_ready c.args.mode kinds.Functions c.deref.result.now form refl

pub push-requires-in-Expressions : goal.push-requires-in-Expressions
push-requires-in-Expressions c =
    let form = subst (λ e. IsTrue (is_form c.args.mode (element_kind e))) c.in-Expressions.is c.requires.form in
    let are = subst AreElements c.in-Expressions.is c.requires.elements in
    segment_ready c.args.mode (kinds.Expressions c.in-Expressions.ty) c.deref-in-Expressions.result.now form are
