use Rattle.std.proofs.Common.{arith, get_or, ap, sym, ◌∙◌}
use Rattle.form_kinds.proofs.Places.{scan_none, scan_more, none_start, none_missed, scan_deeper}
use Rattle.form_kinds.specs.Scans.{scan_after}
use Rattle.form_kinds.proofs.scans.first_outside.Goals as goal

pub byte-init : goal.byte-init
byte-init c = record { scan = scan_none c.args.text.now; small = omega arith; none = none_start c.args.mark c.args.text.now }

pub byte-preserved : goal.byte-preserved
byte-preserved c = record {
  scan = c.after-scan.ensures ∙ (ap (λ s. scan_after s (get_or c.args.text.now c.byte.i 0)) c.byte.invariant.scan ∙ sym (scan_more c.args.text.now c.byte.i c.byte-test.true));
  small = let deeper = scan_deeper c.byte.scan (get_or c.args.text.now c.byte.i 0) in omega (arith, deeper, ap (λ s. s.depth) c.after-scan.ensures, c.byte.invariant.small);
  none = none_missed c.byte.invariant.none c.byte.invariant.scan c.finds.ensures c.if-finds.false;
}
