-- Closes the arms: the lemmas say what the kit reads of a decimal number, and what the rules make of it.
use Rattle.std.proofs.Common.{◌∙◌, Ok, Err, sym, ap}
use Rattle.std.specs.Prelude.{if◌then◌else◌}
use Rattle.std.specs.Float.{binary32}
use Rattle.std.specs.Float.Ieee.{to_bits}
use Rattle.wat_tokens.specs.declared.faults.TextFault.TheVariants as fault
use Rattle.wat_tokens.proofs.FloatBits.{decimal_none, decimal_bits, decimal_reads}
use Rattle.wat_tokens.proofs.floats.decimal32.Goals as goal

pub returns-in-Err : goal.returns-in-Err
returns-in-Err c = record { value = λ other. let h = c.in-Err.ensures.err (λ e. other (e, tt)) in ap Err h.0 ∙ sym (decimal_none binary32 c.args.text.now h.1) }

pub returns-in-Err-parse : goal.returns-in-Err-parse
returns-in-Err-parse c =
    let h = c.in-Ok.ensures.ok in record {
      value = λ other. absurd
          (decimal_reads binary32 c.args.text.now c.as_slice.result.now h.0 (c.as_slice.ensures.value ∙ h.1) c.in-Err-parse.ensures.exact);
    }

pub returns-in-true : goal.returns-in-true
returns-in-true c =
    let h = c.in-Ok.ensures.ok in
    let x = c.in-Ok-parse.value in
    let bits = decimal_bits binary32 c.args.text.now c.as_slice.result.now x h.0 (c.as_slice.ensures.value ∙ h.1) c.in-Ok-parse.ensures.exact in
    record {
      value = ap Ok c.from.ensures
          ∙ sym (bits ∙ ap (λ b. if b then Ok (to_bits binary32 x) else Err fault.Range) (sym c.is_finite.ensures.value ∙ c.in-true.is));
    }

pub returns : goal.returns
returns c =
    let h = c.in-Ok.ensures.ok in
    let x = c.in-Ok-parse.value in
    let bits = decimal_bits binary32 c.args.text.now c.as_slice.result.now x h.0 (c.as_slice.ensures.value ∙ h.1) c.in-Ok-parse.ensures.exact in
    record { value = λ other. sym (bits ∙ ap (λ b. if b then Ok (to_bits binary32 x) else Err fault.Range) (sym c.is_finite.ensures.value ∙ c.in-false.is)) }
