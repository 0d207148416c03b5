use Rattle.std.proofs.Common.{◌≡◌, ◌≤◌, take}
use Rattle.form_kinds.specs.Scans.{scan_of, NoneBefore}
use Rattle.form_kinds.proofs.scans.first_outside.Given as goal

abbrev pub invariant-byte : goal.invariant-byte
invariant-byte l = record {
  scan : l.scan ≡ scan_of (take l.i l.text);
  small : l.scan.depth ≤ l.i;
  none : NoneBefore l.mark l.text l.i;
}
