use Rattle.rv_code.proofs.Pieces.{load_goes, save_goes, store_goes}
use Rattle.rv_code.proofs.unit_law.Goals as goal

pub returns-clause-load : goal.returns-clause-load
returns-clause-load c = load_goes

pub returns-clause-save : goal.returns-clause-save
returns-clause-save c = save_goes

pub returns-clause-store : goal.returns-clause-store
returns-clause-store c = store_goes
