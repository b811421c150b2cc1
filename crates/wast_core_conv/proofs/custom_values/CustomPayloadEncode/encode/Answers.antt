use Rattle.std.proofs.Common.{◌≡◌, ℕ, List, ◌++◌, true, ap, ◌∙◌, subst, map}
use Rattle.wasm_ops.specs.Sinks.{Writes}
use Rattle.wasm_ops.specs.Spelling.{name, InRangeName, InRangeVec, vec}
use Rattle.wasm_out.specs.Producers.{producer_field}
use Rattle.wast_tree_nodes.specs.Customs.{custom_name}
use Rattle.wast_core_conv.specs.Customs.{as_producer_field, is_encodable_custom}
use Rattle.wast_core_conv.proofs.CustomsSpelled.{all_ready, listed_behind, subsections_ready}
use Rattle.wast_core_conv.proofs.custom_values.CustomPayloadEncode.encode.Goals as goal

pub encode-requires : goal.encode-requires
encode-requires g c = all_ready c.as_slice.result.now

pub encode-requires-in-Producers : goal.encode-requires-in-Producers
encode-requires-in-Producers g c = all_ready c.as_slice-in-Producers.result.now

pub encode-requires-in-Dylink0 : goal.encode-requires-in-Dylink0
encode-requires-in-Dylink0 g c =
    rw c.as_slice-in-Dylink0.ensures (subsections_ready c.in-Dylink0.info.subsections (subst (λ x. is_encodable_custom x ≡ true) c.in-Dylink0.is c.requires))

pub returns-in-Producers : goal.returns-in-Producers
returns-in-Producers g c =
    let rules = g.S.Sink.rules in
    let fields = c.in-Producers.made.fields in
    let text = c.name.result.now in
    let written = listed_behind rules c.args.out.now c.encode-in-Producers.new.out (name text) (InRangeName text) (λ x. (producer_field x).bytes)
    (λ x. (producer_field x).in_range) as_producer_field c.as_slice-in-Producers.result.now fields c.encode-in-Producers.result
    c.as_slice-in-Producers.ensures c.encode-in-Producers.ensures in
    rw c.in-Producers.is (subst
    (λ (t : List ℕ). Writes rules (InRangeName t × InRangeVec (λ x. (producer_field x).in_range) (map as_producer_field fields)) c.args.out.now
    c.encode-in-Producers.new.out (name t ++ vec (λ x. (producer_field x).bytes) (map as_producer_field fields)) c.encode-in-Producers.result)
    (c.name.ensures ∙ ap custom_name c.in-Producers.is) written)
