use Rattle.std.proofs.Common.{◌≡◌, map, nat_eq}
use Rattle.std.specs.List.{range_with_len}
use Rattle.check_names.specs.Untyped.{seen_before, untyped_at}
use Rattle.check_names.proofs.untyped.untyped_flags.Given as goal

abbrev pub invariant-loop-statement : goal.invariant-loop-statement
invariant-loop-statement l = record {
  first : l.is_first ≡ nat_eq l.statement-index 0;
  seen : l.seen ≡ seen_before l.unit l.statement-index;
  flags : l.flags ≡ map (untyped_at l.facts l.unit) (range_with_len 0 l.statement-index);
}
