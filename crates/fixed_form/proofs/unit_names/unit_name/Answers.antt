use Rattle.fixed_form.specs.UnitNames.{headed}
use Rattle.fixed_form.proofs.unit_names.unit_name.Goals as goal

pub returns-in_ok-from_slice-in-Some : goal.returns-in_ok-from_slice-in-Some
returns-in_ok-from_slice-in-Some c = rw (c.from_list.ensures, c.in_ok-from_slice-in-Some.ensures {u = tt}) (headed (c.in-Some.ensures {u = tt}))
