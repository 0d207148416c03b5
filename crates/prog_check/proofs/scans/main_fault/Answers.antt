use Rattle.std.proofs.Common.{subst, sym}
use Rattle.call_cycles.specs.Marks.{Earliest}
use Rattle.prog_check.specs.ProgramFaults.{MainFaults}
use Rattle.prog_check.proofs.Telling.{mains_found}
use Rattle.prog_check.proofs.scans.main_fault.Goals as goal

pub returns : goal.returns
returns c =
    subst (Earliest (MainFaults c.args.units.now)) (sym c.first_of.ensures)
    (mains_found c.args.units.now c.lacking_main.result c.later_main.result c.lacking_main.ensures c.later_main.ensures)
