use Rattle.std.proofs.Common.{refl, ◌∷◌}
use Rattle.wasm_ops.proofs.Sinking.{puts_as}
use Rattle.wasm_out.specs.NameSectionBytes.{Whole, One, NameSubsection, name_content, name_subsection}
use Rattle.wasm_ops.specs.Spelling.{length_prefixed}
use Rattle.wast_core_name_section.proofs.NameMaps.{subsection_written}
use Rattle.wast_core_name_section.proofs.names_payload.ModuleNameEncode.encode.Goals as goal

pub returns-in-Some : goal.returns-in-Some
returns-in-Some g c =
    let rules = g.S.Sink.rules in
    let s : NameSubsection = record { of = Whole; content = One c.in-Some.text.now } in
    rw c.in-Some.is (subsection_written rules c.args.out.now c.encode.new.out s 0 c.encode.result refl
    (puts_as rules (Unit {0} × (name_subsection s).in_range) (name_subsection s).in_range c.args.out.now c.encode.new.out
    (0 ∷ length_prefixed (λ x. (name_content x).bytes) s.content) c.encode.result (λ h. h.1) (λ h. (tt, h)) c.encode.ensures))
