use Rattle.std.proofs.Common.{subst}
use Rattle.wast_core_name_section.specs.FoundNames.{text_seen}
use Rattle.wast_core_sections.specs.Encoding.{EncodesFields}
use Rattle.wast_core.proofs.encode.encode_resolved.Goals as goal

pub returns-in-Text : goal.returns-in-Text
returns-in-Text c =
    rw c.in-Text.is
    (subst (λ n. EncodesFields n c.in-Text.fields c.encode_covered.result) c.given_name-name.ensures
    (subst (λ fs. EncodesFields (text_seen c.given_name-name.result) fs c.encode_covered.result) c.as_slice.ensures c.encode_covered.ensures))
