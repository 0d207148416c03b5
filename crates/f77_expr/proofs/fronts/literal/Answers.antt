use Rattle.std.proofs.Common.{◌≡◌, length, arith, sym}
use Rattle.f77_expr.proofs.Literals.{inside_start, inside_turns, inside_goes, begins_literal, begins_unclosed}
use Rattle.f77_expr.proofs.fronts.literal.Goals as goal
use Rattle.f77_expr.proofs.fronts.literal.Goals.{then-text-i-eq39, else-text-i-eq39+else-not-open}

pub byte-init : goal.byte-init
byte-init c = inside_start c.args.text.now c.requires.some c.requires.quote

pub returns-then-not-open : goal.returns-then-not-open
returns-then-not-open c =
    begins_literal c.args.text.now c.byte.i c.requires.some (omega (arith, c.byte-test.true)) (rw c.if-not-open.true at c.byte.invariant) (λ lt. c.if-text-i-eq39.false)

pub byte-preserved : goal.byte-preserved
byte-preserved c =
    elim c.if-text-i-eq39.branch [
      | then-text-i-eq39 w ↦ rw w.open-is (inside_turns c.args.text.now c.byte.i c.byte.open c.byte-test.true c.byte.invariant w.if-text-i-eq39.true)
      | else-text-i-eq39+else-not-open w ↦ rw (w.open-is, w.if-not-open.false) (inside_goes c.args.text.now c.byte.i c.byte-test.true (rw w.if-not-open.false at c.byte.invariant) w.if-text-i-eq39.false)
    ]

pub returns-then-open : goal.returns-then-open
returns-then-open c =
    let ends : c.byte.i ≡ length c.args.text.now = omega (arith, c.byte-test.false, c.byte.auto.i-end, c.requires.some) in
    begins_unclosed c.args.text.now c.requires.some (rw (sym ends, sym c.if-open.true) c.byte.invariant)

pub returns-else-open : goal.returns-else-open
returns-else-open c =
    let ends : c.byte.i ≡ length c.args.text.now = omega (arith, c.byte-test.false, c.byte.auto.i-end, c.requires.some) in
    begins_literal c.args.text.now (length c.args.text.now) c.requires.some (omega arith) (rw (sym ends, sym c.if-open.false) c.byte.invariant) (λ lt q. omega (arith, lt))
