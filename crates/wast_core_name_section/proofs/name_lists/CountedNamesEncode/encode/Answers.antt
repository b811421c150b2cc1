use Rattle.std.proofs.Common.{◌≡◌, ◌<◌, ◌∷◌, ◌++◌, [], Err, refl, inr, subst, length, arith}
use Rattle.std.specs.Prelude.{All}
use Rattle.std.specs.List.{flat_map}
use Rattle.std.proofs.lemmas.Result.{err_from_is_err_and}
use Rattle.wasm_ops.specs.Leb128.{unsigned}
use Rattle.wasm_ops.specs.Sinks.{Writes}
use Rattle.wasm_ops.specs.Spelling.{InRangeU32, vec, InRangeVec}
use Rattle.wasm_ops.proofs.Sinking.{cut_back}
use Rattle.wasm_ops.proofs.PutLengths.{no_longer, no_byte, cut_whole, number_set, put_anew}
use Rattle.wasm_out.specs.NameSectionBytes.{name_entry}
use Rattle.wast_core_name_section.specs.FoundNames.{names_listed}
use Rattle.wast_core_name_section.proofs.name_lists.CountedNamesEncode.encode.Goals as goal

pub returns-in_err-push_bytes : goal.returns-in_err-push_bytes
returns-in_err-push_bytes g c =
    let es = names_listed c.args.self.now.0 in
    let p = err_from_is_err_and c.from_residual.result c.from_residual.ensures.1 in
    rw (p.1, p.2) (no_byte (Unit {0}) g.S.Sink.rules (InRangeVec (λ x. (name_entry x).in_range) es) c.args.out.now c.push_bytes.new.self 0
    (length es) (flat_map (λ x. (name_entry x).bytes) es) c.in_err-push_bytes.field-0.0 g.met.S.Sink.laws c.in_err-push_bytes.ensures)

pub returns-in-Err : goal.returns-in-Err
returns-in-Err g c =
    let es = names_listed c.args.self.now.0 in
    let y = flat_map (λ x. (name_entry x).bytes) es in
    cut_back {A = Unit {0}} g.S.Sink.rules (InRangeVec (λ x. (name_entry x).in_range) es)
    (All (λ x. (name_entry x).in_range) es) c.args.out.now c.push_bytes.new.self c.put_listed.new.out c.cut.new.self (0 ∷ []) y
    (vec (λ x. (name_entry x).bytes) es) c.size-start.result (Err c.in-Err.refusal)
    g.met.S.Sink.laws (no_longer (length es) y) (λ i. i.1) c.in_ok-push_bytes.ensures.0 c.in-Err.ensures.names refl c.size-start.ensures c.cut.ensures

pub returns-in_default : goal.returns-in_default
returns-in_default g c =
    let of = g.S.Sink.rules in
    let laws = g.met.S.Sink.laws in
    let es = names_listed c.args.self.now.0 in
    let y = flat_map (λ x. (name_entry x).bytes) es in
    let put = laws.joins c.args.out.now c.push_bytes.new.self c.put_listed.new.out (0 ∷ []) y c.in_ok-push_bytes.ensures.0 c.in-Ok.ensures.names.0 in
    let wide = c.in_default.ensures in
    let many = c.in-Ok.ensures.count in (
      cut_whole of c.args.out.now c.put_listed.new.out c.cut-in_default.new.self
          (0 ∷ y) c.size-start.result laws put c.size-start.ensures c.cut-in_default.ensures,
      inr (refl, λ h. let few = h.0 in wide (omega arith)),
    )

pub returns-then-set_number : goal.returns-then-set_number
returns-then-set_number g c =
    let of = g.S.Sink.rules in
    let laws = g.met.S.Sink.laws in
    let es = names_listed c.args.self.now.0 in
    let y = flat_map (λ x. (name_entry x).bytes) es in
    let put = laws.joins c.args.out.now c.push_bytes.new.self c.put_listed.new.out (0 ∷ []) y c.in_ok-push_bytes.ensures.0 c.in-Ok.ensures.names.0 in
    let many = c.in-Ok.ensures.count in
    let small = c.in-Ok-try_from.ensures in
    let is : c.in-Ok.count ≡ length es = omega arith in
    let few : c.in-Ok.count < 4294967296 = omega arith in
    let set = number_set of c.args.out.now c.put_listed.new.out c.set_number.new.self 0 c.in-Ok.count y c.size-start.result c.set_number.result laws
    put c.size-start.ensures c.set_number.ensures c.if-set_number.true in
    (subst (λ n. of.appended c.args.out.now c.set_number.new.self (unsigned n ++ y)) is set, (subst InRangeU32 is few, c.in-Ok.ensures.names.1))

pub returns : goal.returns
returns g c =
    let of = g.S.Sink.rules in
    let laws = g.met.S.Sink.laws in
    let es = names_listed c.args.self.now.0 in
    let y = flat_map (λ x. (name_entry x).bytes) es in
    let put = laws.joins c.args.out.now c.push_bytes.new.self c.put_listed.new.out (0 ∷ []) y c.in_ok-push_bytes.ensures.0 c.in-Ok.ensures.names.0 in
    let many = c.in-Ok.ensures.count in
    let small = c.in-Ok-try_from.ensures in
    let is : c.in-Ok-try_from.number ≡ length es = omega arith in
    let anew = subst (λ n. Writes of (InRangeU32 n × All (λ x. (name_entry x).in_range) es) c.cut-2.new.self c.encode.new.out
    (unsigned n ++ y) c.encode.result) is c.encode.ensures in
    put_anew of (InRangeVec (λ x. (name_entry x).in_range) es)
    (InRangeVec (λ x. (name_entry x).in_range) es) c.args.out.now c.put_listed.new.out c.set_number.new.self c.cut-2.new.self c.encode.new.out 0
    c.in-Ok.count y (vec (λ x. (name_entry x).bytes) es) c.size-start.result c.set_number.result c.encode.result
    laws put c.size-start.ensures c.set_number.ensures c.if-set_number.false c.cut-2.ensures (λ i. i) (λ i. i) anew
