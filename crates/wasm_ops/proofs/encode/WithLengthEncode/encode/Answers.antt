use Rattle.std.proofs.Common.{◌≤◌, ◌<◌, ◌-◌, ◌∷◌, ◌++◌, [], sym, ◌∙◌, length, refl, inr, subst, rules, arith}
use Rattle.std.proofs.lemmas.Result.{err_from_is_err_and}
use Rattle.wasm_ops.specs.Leb128.{unsigned}
use Rattle.wasm_ops.specs.Spelling.{length_prefixed, InRangeSized}
use Rattle.wasm_ops.proofs.Sinking.{cut_back}
use Rattle.wasm_ops.proofs.PutLengths.{no_longer, no_byte, both_put, size_behind, cut_whole, number_set, byte_kept, byte_within, unset_within, put_anew}
use Rattle.wasm_ops.proofs.encode.WithLengthEncode.encode.Goals as goal

pub returns-in_err-push_bytes : goal.returns-in_err-push_bytes
returns-in_err-push_bytes g c =
    let v = c.args.self.now.0 in
    let p = err_from_is_err_and c.from_residual.result c.from_residual.ensures.1 in
    rw (p.1, p.2) (no_byte (Unit {0}) g.S.Sink.rules (InRangeSized g.T.Encode.in_range g.T.Encode.spelling v) c.args.out.now c.push_bytes.new.self 0
    (length (g.T.Encode.spelling v)) (g.T.Encode.spelling v) c.in_err-push_bytes.field-0.0 g.met.S.Sink.laws c.in_err-push_bytes.ensures)

pub returns-then-not-set_number : goal.returns-then-not-set_number
returns-then-not-set_number g c =
    let v = c.args.self.now.0 in
    let all = InRangeSized g.T.Encode.in_range g.T.Encode.spelling v in
    put_anew g.S.Sink.rules all all c.args.out.now c.push_bytes.new.self c.set_number.new.self c.cut.new.self c.put_counted.new.out 0 0 []
    (length_prefixed g.T.Encode.spelling v) c.size-start.result c.set_number.result c.put_counted.result
    g.met.S.Sink.laws c.in_ok-push_bytes.ensures.0 c.size-start.ensures c.set_number.ensures c.if-not-set_number.true c.cut.ensures (λ h. h)
    (λ h. h) c.put_counted.ensures

pub returns-then-is_err : goal.returns-then-is_err
returns-then-is_err g c =
    let v = c.args.self.now.0 in
    let y = g.T.Encode.spelling v in
    let kept = byte_kept g.S.Sink.rules c.args.out.now c.push_bytes.new.self c.set_number.new.self c.size-start.result c.set_number.result
    g.met.S.Sink.laws c.in_ok-push_bytes.ensures.0 c.size-start.ensures c.set_number.ensures c.if-not-set_number.false in
    cut_back g.S.Sink.rules (InRangeSized g.T.Encode.in_range g.T.Encode.spelling v)
    (g.T.Encode.in_range v) c.args.out.now c.set_number.new.self c.encode-value.new.out c.cut-then-is_err.new.self (0 ∷ []) y
    (length_prefixed g.T.Encode.spelling v) c.size-start.result c.encode-value.result
    g.met.S.Sink.laws (no_longer (length y) y) (λ i. i.1) kept c.encode-value.ensures (sym c.is_err.ensures.value
    ∙ c.if-is_err.true) c.size-start.ensures c.cut-then-is_err.ensures

pub returns-then-is_err-2 : goal.returns-then-is_err-2
returns-then-is_err-2 g c =
    let of = g.S.Sink.rules in
    let laws = g.met.S.Sink.laws in
    let v = c.args.self.now.0 in
    let y = g.T.Encode.spelling v in
    let kept = byte_kept g.S.Sink.rules c.args.out.now c.push_bytes.new.self c.set_number.new.self c.size-start.result c.set_number.result
    g.met.S.Sink.laws c.in_ok-push_bytes.ensures.0 c.size-start.ensures c.set_number.ensures c.if-not-set_number.false in
    let put = both_put of (g.T.Encode.in_range v) c.args.out.now c.set_number.new.self c.encode-value.new.out 0 y c.encode-value.result laws kept
    c.encode-value.ensures (sym c.is_err.ensures.value ∙ c.if-is_err.false) in
    let size = size_behind of c.args.out.now c.encode-value.new.out 0 y c.size-start.result c.size.result laws put.0 c.size-start.ensures c.size.ensures in
    let wide : 4294967296 ≤ c.size.result - c.size-start.result - 1 = search rules in (
      cut_whole of c.args.out.now c.encode-value.new.out c.cut-then-is_err-2.new.self
          (0 ∷ y) c.size-start.result laws put.0 c.size-start.ensures c.cut-then-is_err-2.ensures,
      inr (refl, λ i. omega (arith, wide, i.0, size)),
    )

pub returns-then-set_number : goal.returns-then-set_number
returns-then-set_number g c =
    let of = g.S.Sink.rules in
    let laws = g.met.S.Sink.laws in
    let v = c.args.self.now.0 in
    let y = g.T.Encode.spelling v in
    let kept = byte_kept g.S.Sink.rules c.args.out.now c.push_bytes.new.self c.set_number.new.self c.size-start.result c.set_number.result
    g.met.S.Sink.laws c.in_ok-push_bytes.ensures.0 c.size-start.ensures c.set_number.ensures c.if-not-set_number.false in
    let put = both_put of (g.T.Encode.in_range v) c.args.out.now c.set_number.new.self c.encode-value.new.out 0 y c.encode-value.result laws kept
    c.encode-value.ensures (sym c.is_err.ensures.value ∙ c.if-is_err.false) in
    let size = size_behind of c.args.out.now c.encode-value.new.out 0 y c.size-start.result c.size.result laws put.0 c.size-start.ensures c.size.ensures in
    let few : c.size.result - c.size-start.result - 1 < 4294967296 = search rules in
    let set = number_set of c.args.out.now c.encode-value.new.out c.set_number-2.new.self 0
    (c.size.result - c.size-start.result - 1) y c.size-start.result c.set_number-2.result laws put.0 c.size-start.ensures c.set_number-2.ensures
    c.if-set_number.true in
    (subst (λ n. of.appended c.args.out.now c.set_number-2.new.self (unsigned n ++ y)) size set, (subst (λ n. n < 4294967296) size few, put.1))

pub returns : goal.returns
returns g c =
    let of = g.S.Sink.rules in
    let laws = g.met.S.Sink.laws in
    let v = c.args.self.now.0 in
    let y = g.T.Encode.spelling v in
    let kept = byte_kept g.S.Sink.rules c.args.out.now c.push_bytes.new.self c.set_number.new.self c.size-start.result c.set_number.result
    g.met.S.Sink.laws c.in_ok-push_bytes.ensures.0 c.size-start.ensures c.set_number.ensures c.if-not-set_number.false in
    let put = both_put of (g.T.Encode.in_range v) c.args.out.now c.set_number.new.self c.encode-value.new.out 0 y c.encode-value.result laws kept
    c.encode-value.ensures (sym c.is_err.ensures.value ∙ c.if-is_err.false) in
    let size = size_behind of c.args.out.now c.encode-value.new.out 0 y c.size-start.result c.size.result laws put.0 c.size-start.ensures c.size.ensures in
    let few : c.size.result - c.size-start.result - 1 < 4294967296 = search rules in
    put_anew of (Unit {0}) (InRangeSized g.T.Encode.in_range g.T.Encode.spelling v) c.args.out.now c.encode-value.new.out c.set_number-2.new.self
    c.cut-2.new.self c.put_sized.new.out 0 (c.size.result - c.size-start.result - 1) y
    (length_prefixed g.T.Encode.spelling v) c.size-start.result c.set_number-2.result c.put_sized.result
    laws put.0 c.size-start.ensures c.set_number-2.ensures c.if-set_number.false c.cut-2.ensures (λ u. (subst (λ n. n < 4294967296) size few, put.1))
    (λ i. tt) c.put_sized.ensures

pub cut-requires-then-is_err : goal.cut-requires-then-is_err
cut-requires-then-is_err g c =
    let v = c.args.self.now.0 in
    let kept = byte_kept g.S.Sink.rules c.args.out.now c.push_bytes.new.self c.set_number.new.self c.size-start.result c.set_number.result
    g.met.S.Sink.laws c.in_ok-push_bytes.ensures.0 c.size-start.ensures c.set_number.ensures c.if-not-set_number.false in
    let within = byte_within g.S.Sink.rules (g.T.Encode.in_range v) c.args.out.now c.set_number.new.self c.encode-value.new.out 0
    (g.T.Encode.spelling v) c.size-start.result c.encode-value.result g.met.S.Sink.laws kept c.size-start.ensures c.encode-value.ensures in
    omega (arith, within)

pub overflow_sub-size : goal.overflow_sub-size
overflow_sub-size g c =
    let v = c.args.self.now.0 in
    let kept = byte_kept g.S.Sink.rules c.args.out.now c.push_bytes.new.self c.set_number.new.self c.size-start.result c.set_number.result
    g.met.S.Sink.laws c.in_ok-push_bytes.ensures.0 c.size-start.ensures c.set_number.ensures c.if-not-set_number.false in
    let within = byte_within g.S.Sink.rules (g.T.Encode.in_range v) c.args.out.now c.set_number.new.self c.encode-value.new.out 0
    (g.T.Encode.spelling v) c.size-start.result c.encode-value.result g.met.S.Sink.laws kept c.size-start.ensures c.encode-value.ensures in
    omega (arith, within, c.size.ensures)

pub overflow_sub-size-2 : goal.overflow_sub-size-2
overflow_sub-size-2 g c =
    let v = c.args.self.now.0 in
    let kept = byte_kept g.S.Sink.rules c.args.out.now c.push_bytes.new.self c.set_number.new.self c.size-start.result c.set_number.result
    g.met.S.Sink.laws c.in_ok-push_bytes.ensures.0 c.size-start.ensures c.set_number.ensures c.if-not-set_number.false in
    let within = byte_within g.S.Sink.rules (g.T.Encode.in_range v) c.args.out.now c.set_number.new.self c.encode-value.new.out 0
    (g.T.Encode.spelling v) c.size-start.result c.encode-value.result g.met.S.Sink.laws kept c.size-start.ensures c.encode-value.ensures in
    omega (arith, within, c.size.ensures)

pub set_number-requires-2 : goal.set_number-requires-2
set_number-requires-2 g c =
    let v = c.args.self.now.0 in
    let kept = byte_kept g.S.Sink.rules c.args.out.now c.push_bytes.new.self c.set_number.new.self c.size-start.result c.set_number.result
    g.met.S.Sink.laws c.in_ok-push_bytes.ensures.0 c.size-start.ensures c.set_number.ensures c.if-not-set_number.false in
    let within = byte_within g.S.Sink.rules (g.T.Encode.in_range v) c.args.out.now c.set_number.new.self c.encode-value.new.out 0
    (g.T.Encode.spelling v) c.size-start.result c.encode-value.result g.met.S.Sink.laws kept c.size-start.ensures c.encode-value.ensures in
    within

pub cut-requires-2 : goal.cut-requires-2
cut-requires-2 g c =
    let v = c.args.self.now.0 in
    let kept = byte_kept g.S.Sink.rules c.args.out.now c.push_bytes.new.self c.set_number.new.self c.size-start.result c.set_number.result
    g.met.S.Sink.laws c.in_ok-push_bytes.ensures.0 c.size-start.ensures c.set_number.ensures c.if-not-set_number.false in
    let within = byte_within g.S.Sink.rules (g.T.Encode.in_range v) c.args.out.now c.set_number.new.self c.encode-value.new.out 0
    (g.T.Encode.spelling v) c.size-start.result c.encode-value.result g.met.S.Sink.laws kept c.size-start.ensures c.encode-value.ensures in
    unset_within g.S.Sink.rules c.encode-value.new.out c.set_number-2.new.self c.size-start.result
    (c.size.result - c.size-start.result - 1) c.set_number-2.result g.met.S.Sink.laws within c.set_number-2.ensures c.if-set_number.false

pub put_sized-requires-clause-size : goal.put_sized-requires-clause-size
put_sized-requires-clause-size g c =
    let of = g.S.Sink.rules in
    let laws = g.met.S.Sink.laws in
    let v = c.args.self.now.0 in
    let y = g.T.Encode.spelling v in
    let kept = byte_kept g.S.Sink.rules c.args.out.now c.push_bytes.new.self c.set_number.new.self c.size-start.result c.set_number.result
    g.met.S.Sink.laws c.in_ok-push_bytes.ensures.0 c.size-start.ensures c.set_number.ensures c.if-not-set_number.false in
    let put = both_put of (g.T.Encode.in_range v) c.args.out.now c.set_number.new.self c.encode-value.new.out 0 y c.encode-value.result laws kept
    c.encode-value.ensures (sym c.is_err.ensures.value ∙ c.if-is_err.false) in
    size_behind of c.args.out.now c.encode-value.new.out 0 y c.size-start.result c.size.result laws put.0 c.size-start.ensures c.size.ensures
