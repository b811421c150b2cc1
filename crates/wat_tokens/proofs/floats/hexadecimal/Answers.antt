-- Closes the arms: the lemmas say what the rules give, by the place of the mantissa.
use Rattle.std.proofs.Common.{◌∙◌, ◌+◌, ◌-◌, ◌*◌, ◌<◌, ◌≤◌, ℕ, length, refl, sym, subst, arith}
use Rattle.std.specs.Prelude.{min, ◌^◌, if◌then◌else◌, not}
use Rattle.std.specs.Float.Ieee.{low}
use Rattle.wat_grammar.specs.Characters.{hexdigit}
use Rattle.wat_tokens.specs.Fractions.{ieee, seen, power_of, value_after, Form}
use Rattle.wat_tokens.proofs.Hexadecimal.{is_read, hexadecimal_none, zero_bits, tiny_bits, huge_bits, ok_bits, range_bits}
use Rattle.wat_tokens.proofs.Scanned.{short_form}
use Rattle.wat_tokens.proofs.floats.hexadecimal.Goals as goal
use Rattle.wat_tokens.proofs.floats.hexadecimal.Goals.{then-pieces-ge576460752303423488-via-then-pieces-ge576460752303423488}
use Rattle.wat_tokens.proofs.floats.hexadecimal.Goals.{then-pieces-ge576460752303423488-via-else-pieces-ge576460752303423488+then-pieces-ge576460752303423488-2}

pub returns-then-not-is_number : goal.returns-then-not-is_number
returns-then-not-is_number c = λ other. hexadecimal_none (ieee c.args.format) c.args.text.now
    (seen c.pieces_of-pieces.result) c.pieces_of-pieces.ensures (sym c.is_number.ensures ∙ c.if-not-is_number.true)

pub returns-then-pieces-ge576460752303423488 : goal.returns-then-pieces-ge576460752303423488
returns-then-pieces-ge576460752303423488 c = λ other.
    let short = short_form 0x50 0x70 c.args.text.now in
    let whole : length c.pieces_of-pieces.result.whole.now ≤ length c.args.text.now = subst
    (λ p. length p.whole ≤ length c.args.text.now) (sym c.pieces_of-pieces.ensures) short.0 in
    let fraction : length c.pieces_of-pieces.result.fraction.now ≤ length c.args.text.now = subst
    (λ p. length p.fraction ≤ length c.args.text.now) (sym c.pieces_of-pieces.ensures) short.1 in
    absurd (other (
      refl,
      elim c.then-pieces-ge576460752303423488.branch [
        | then-pieces-ge576460752303423488-via-then-pieces-ge576460752303423488 w ↦ omega (arith, w.if-pieces-ge576460752303423488.true, whole)
        | then-pieces-ge576460752303423488-via-else-pieces-ge576460752303423488+then-pieces-ge576460752303423488-2 w ↦ omega
            (arith, w.if-pieces-ge576460752303423488-2.true, fraction)
      ],
    ))

pub returns-then-all-eq0 : goal.returns-then-all-eq0
returns-then-all-eq0 c =
    let f = ieee c.args.format in
    let p : Form = seen c.pieces_of-pieces.result in
    let whole = c.read-whole.result in
    let all = c.read-all.result in
    let e : ℕ = min (power_of p.exponent) (2 ^ 63) in
    let rise : ℕ = if not p.is_negative then e else 0 in
    let fall : ℕ = if p.is_negative then e else 0 in
    let r = is_read f p whole all e (low f) rise fall (length p.whole) (length p.fraction) (c.read-all.ensures.keeps
    (value_after hexdigit 16 0 c.pieces_of-pieces.result.whole.now) (c.read-whole.ensures.keeps 0 c.new.ensures.keeps))
    (omega (arith, c.read-whole.ensures.most, c.new.ensures.count)) c.if-pieces-ge576460752303423488.false c.read-all.ensures.count
    c.read-all.ensures.most c.if-pieces-ge576460752303423488-2.false c.read-all.ensures.dropped refl refl refl refl in
    zero_bits f c.args.text.now p c.pieces_of-pieces.ensures (sym c.is_number.ensures ∙ c.if-not-is_number.false) all
    (all.count - whole.count) e (all.dropped * 4 + low f + 4096 + rise) ((all.count - whole.count) * 4 + fall) r
    c.if-all-eq0.true

pub rounded-bits-requires-clause-most : goal.rounded-bits-requires-clause-most
rounded-bits-requires-clause-most c = let k = (c.read-all.ensures.keeps
    (value_after hexdigit 16 0 c.pieces_of-pieces.result.whole.now) (c.read-whole.ensures.keeps 0 c.new.ensures.keeps)) in k.fits

pub returns-then-up-down : goal.returns-then-up-down
returns-then-up-down c =
    let f = ieee c.args.format in
    let p : Form = seen c.pieces_of-pieces.result in
    let whole = c.read-whole.result in
    let all = c.read-all.result in
    let e = c.power_of-power.result in
    let rise = c.power_if.result in
    let fall = c.power_if-2.result in
    let r = is_read f p whole all e c.lowest.result rise fall (length p.whole) (length p.fraction) (c.read-all.ensures.keeps
    (value_after hexdigit 16 0 c.pieces_of-pieces.result.whole.now) (c.read-whole.ensures.keeps 0 c.new.ensures.keeps))
    (omega (arith, c.read-whole.ensures.most, c.new.ensures.count)) c.if-pieces-ge576460752303423488.false
    c.read-all.ensures.count c.read-all.ensures.most c.if-pieces-ge576460752303423488-2.false
    c.read-all.ensures.dropped c.power_of-power.ensures c.lowest.ensures c.power_if.ensures c.power_if-2.ensures in
    tiny_bits f c.args.text.now p c.pieces_of-pieces.ensures (sym c.is_number.ensures ∙ c.if-not-is_number.false) all
    (all.count - whole.count) e (all.dropped * 4 + c.lowest.result + 4096 + rise) ((all.count - whole.count) * 4 + fall) r
    c.if-up-down.true

pub returns-then-up-down-gt7168 : goal.returns-then-up-down-gt7168
returns-then-up-down-gt7168 c = λ other.
    let f = ieee c.args.format in
    let p : Form = seen c.pieces_of-pieces.result in
    let whole = c.read-whole.result in
    let all = c.read-all.result in
    let e = c.power_of-power.result in
    let rise = c.power_if.result in
    let fall = c.power_if-2.result in
    let r = is_read f p whole all e c.lowest.result rise fall (length p.whole) (length p.fraction) (c.read-all.ensures.keeps
    (value_after hexdigit 16 0 c.pieces_of-pieces.result.whole.now) (c.read-whole.ensures.keeps 0 c.new.ensures.keeps))
    (omega (arith, c.read-whole.ensures.most, c.new.ensures.count)) c.if-pieces-ge576460752303423488.false
    c.read-all.ensures.count c.read-all.ensures.most c.if-pieces-ge576460752303423488-2.false
    c.read-all.ensures.dropped c.power_of-power.ensures c.lowest.ensures c.power_if.ensures c.power_if-2.ensures in
    huge_bits f c.args.text.now p c.pieces_of-pieces.ensures (sym c.is_number.ensures ∙ c.if-not-is_number.false) all
    (all.count - whole.count) e (all.dropped * 4 + c.lowest.result + 4096 + rise) ((all.count - whole.count) * 4 + fall) r
    (omega (arith, c.if-all-eq0.false)) (omega (arith, c.if-up-down.false, c.if-up-down-gt7168.true))

pub returns-in-true : goal.returns-in-true
returns-in-true c =
    let f = ieee c.args.format in
    let p : Form = seen c.pieces_of-pieces.result in
    let whole = c.read-whole.result in
    let all = c.read-all.result in
    let e = c.power_of-power.result in
    let rise = c.power_if.result in
    let fall = c.power_if-2.result in
    let r = is_read f p whole all e c.lowest.result rise fall (length p.whole) (length p.fraction) (c.read-all.ensures.keeps
    (value_after hexdigit 16 0 c.pieces_of-pieces.result.whole.now) (c.read-whole.ensures.keeps 0 c.new.ensures.keeps))
    (omega (arith, c.read-whole.ensures.most, c.new.ensures.count)) c.if-pieces-ge576460752303423488.false
    c.read-all.ensures.count c.read-all.ensures.most c.if-pieces-ge576460752303423488-2.false
    c.read-all.ensures.dropped c.power_of-power.ensures c.lowest.ensures c.power_if.ensures c.power_if-2.ensures in
    ok_bits f c.args.text.now p c.pieces_of-pieces.ensures (sym c.is_number.ensures ∙ c.if-not-is_number.false) all
    (all.count - whole.count) e (all.dropped * 4 + c.lowest.result + 4096 + rise) ((all.count - whole.count) * 4 + fall) r
    c.if-up-down.false (omega (arith, c.if-up-down-gt7168.false)) c.rounded-bits.result c.rounded-bits.ensures
    (subst (λ k. c.rounded-bits.result < k) c.infinity.ensures.value c.in-true.is)

pub returns-in-false : goal.returns-in-false
returns-in-false c = λ other.
    let f = ieee c.args.format in
    let p : Form = seen c.pieces_of-pieces.result in
    let whole = c.read-whole.result in
    let all = c.read-all.result in
    let e = c.power_of-power.result in
    let rise = c.power_if.result in
    let fall = c.power_if-2.result in
    let r = is_read f p whole all e c.lowest.result rise fall (length p.whole) (length p.fraction) (c.read-all.ensures.keeps
    (value_after hexdigit 16 0 c.pieces_of-pieces.result.whole.now) (c.read-whole.ensures.keeps 0 c.new.ensures.keeps))
    (omega (arith, c.read-whole.ensures.most, c.new.ensures.count)) c.if-pieces-ge576460752303423488.false
    c.read-all.ensures.count c.read-all.ensures.most c.if-pieces-ge576460752303423488-2.false
    c.read-all.ensures.dropped c.power_of-power.ensures c.lowest.ensures c.power_if.ensures c.power_if-2.ensures in
    range_bits f c.args.text.now p c.pieces_of-pieces.ensures (sym c.is_number.ensures ∙ c.if-not-is_number.false) all
    (all.count - whole.count) e (all.dropped * 4 + c.lowest.result + 4096 + rise) ((all.count - whole.count) * 4 + fall) r
    c.if-up-down.false (omega (arith, c.if-up-down-gt7168.false)) c.rounded-bits.result c.rounded-bits.ensures
    (subst (λ k. k ≤ c.rounded-bits.result) c.infinity.ensures.value c.in-false.is)
