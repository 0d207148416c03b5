-- Runs of programs with more steps go on where runs with fewer stop.
use Rattle.std.proofs.Common.{ℕ, zero, suc, ◌+◌, List, [], length, Option, Some, None, ℤ, refl, map, arith}
use Rattle.std.specs.List.{find}
use Rattle.run_model.specs.Storage.{Interval}
use Rattle.run_model.specs.Acts.{World, Handler, play}
use Rattle.run_model.specs.Turns.{run_from}
use Rattle.run_model.specs.Runs.{Begins, RunExtends}
use Rattle.run_model.proofs.Extend.{printed_by, same, with_more, Extends, grows_then, extends_then, play_grows, turns_grow, play_extends, turns_extend, answers}
use Rattle.f77_tree.specs.declared.unit.Unit.{Unit}
use Rattle.f77_values.specs.Tables.{Name}
use Rattle.f77_semantics.specs.Program.{Routine}
use Rattle.f77_semantics.specs.Statements.{turn}
use Rattle.f77_semantics.specs.Units.{Program, entry, cleared, entered, beginning, run_unit, at_sites, meaning, callee, named, fresh_world, running}
use Rattle.f77_semantics.specs.Source.{routine, is_main, with_main, Source}

unit_grows : (h : Handler) → ((s : ℕ) (ds : List Interval) (w : World) → Begins w.out (printed_by (h s ds w))) → (u : Routine) (ds : List Interval) (w : World) → Begins w.out (printed_by (run_unit h u ds w))
unit_grows h hg u ds w = grows_then w.out (play h (entry (entered u ds) u.dummy_arrays) (cleared u w)) (λ f w1. run_from h (turn u f) (beginning u) w1) (play_grows h hg (entry (entered u ds) u.dummy_arrays) (cleared u w)) (λ f v. turns_grow h hg (turn u f) (suc v.left) (beginning u) v)

unit_extends : (h : Handler) → ((s : ℕ) (ds : List Interval) (w : World) → Begins w.out (printed_by (h s ds w))) → (k : ℕ) → ((s : ℕ) (ds : List Interval) (w : World) → Extends k (h s ds w) (h s ds (with_more k w))) → (u : Routine) (ds : List Interval) (w : World) → Extends k (run_unit h u ds w) (run_unit h u ds (with_more k w))
unit_extends h hg k hx u ds w = extends_then k (play h (entry (entered u ds) u.dummy_arrays) (cleared u w)) (play h (entry (entered u ds) u.dummy_arrays) (with_more k (cleared u w))) (λ f w1. run_from h (turn u f) (beginning u) w1) (play_extends h hg k hx (entry (entered u ds) u.dummy_arrays) (cleared u w))
    (λ f v. turns_extend h hg k hx (turn u f) (suc v.left) (suc (v.left + k)) (omega arith) (beginning u) v) (λ f v. turns_grow h hg (turn u f) (suc v.left) (beginning u) v)

pub meaning_grows : (units : Program) (d : ℕ) (q : Name) (ds : List Interval) (w : World) → Begins w.out (printed_by (meaning units d q ds w))
meaning_grows units zero q ds w = same w.out
meaning_grows units (suc d) q ds w = unit_grows (at_sites (units q) (meaning units d)) (λ s ds w. meaning_grows units d (callee (units q) s) ds w) (units q) ds w

pub meaning_extends : (k : ℕ) (units : Program) (d : ℕ) (q : Name) (ds : List Interval) (w : World) → Extends k (meaning units d q ds w) (meaning units d q ds (with_more k w))
meaning_extends k units zero q ds w = refl
meaning_extends k units (suc d) q ds w = unit_extends (at_sites (units q) (meaning units d)) (λ s ds w. meaning_grows units d (callee (units q) s) ds w) k (λ s ds w. meaning_extends k units d (callee (units q) s) ds w) (units q) ds w

pub running_extends : (us : List Routine) (main : Routine) (input : List ℤ) (n k : ℕ) → RunExtends (running us main input n) (running us main input (n + k))
running_extends us main input n k = answers n k _ _ (meaning_extends k (named us main) (length us) main.name [] (fresh_world us input n))

pub source_extends : (units : List Unit) (input : List ℤ) (n k : ℕ) → RunExtends (Source units input n) (Source units input (n + k))
source_extends units input n k = go (find (λ u. is_main u.kind) units)
  where
    go : (main : Option Unit) → RunExtends (with_main (map routine units) main input n) (with_main (map routine units) main input (n + k))
    go None = refl
    go (Some main) = running_extends (map routine units) (routine main) input n k
