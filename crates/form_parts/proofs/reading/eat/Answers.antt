use Rattle.form_parts.proofs.Depths.{deepest-next}
use Rattle.form_parts.proofs.reading.eat.Goals as goal

pub returns-then-eq-clause-shallow : goal.returns-then-eq-clause-shallow
returns-then-eq-clause-shallow c = deepest-next c.in_ok-found.ensures.next c.requires
