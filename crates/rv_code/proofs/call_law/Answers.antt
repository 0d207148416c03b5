use Rattle.rv_code.proofs.Pieces.{show_goes, print_goes, byte_goes, line_goes, halt_goes}
use Rattle.rv_code.proofs.call_law.Goals as goal

pub returns-clause-show : goal.returns-clause-show
returns-clause-show c = show_goes

pub returns-clause-print : goal.returns-clause-print
returns-clause-print c = print_goes

pub returns-clause-byte : goal.returns-clause-byte
returns-clause-byte c = byte_goes

pub returns-clause-line : goal.returns-clause-line
returns-clause-line c = line_goes

pub returns-clause-halt : goal.returns-clause-halt
returns-clause-halt c = halt_goes
