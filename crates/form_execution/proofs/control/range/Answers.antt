use Rattle.form_execution.proofs.Conditions.{two_of, three_of, range_of_two, range_of_three}
use Rattle.form_execution.proofs.control.range.Goals as goal

pub returns-in-len2 : goal.returns-in-len2
returns-in-len2 c =
    let two = two_of c.as_slice.result.now c.from-item.result c.to-item.result c.in-len2.len_at_least c.in-len2.len_below c.from-item.is c.to-item.is in
    rw (c.in_ok-copy-in-len2.ensures {u = tt}, c.in_ok-copy-in-len2-2.ensures {u = tt}) (range_of_two (rw c.in-Some.is at (c.in_ok-all.ensures {u = tt})) (rw c.as_slice.ensures at two))

pub returns-in-len3 : goal.returns-in-len3
returns-in-len3 c =
    let three = three_of c.as_slice.result.now c.from-item-then-this-lt4.result c.to-item-then-this-lt4.result c.step-item.result c.in-len3.len_at_least c.in-len3.len_below c.from-item-then-this-lt4.is c.to-item-then-this-lt4.is c.step-item.is in
    rw (c.in_ok-copy-in-len3.ensures {u = tt}, c.in_ok-copy-in-len3-2.ensures {u = tt}, c.in_ok-copy-in-len3-3.ensures {u = tt}) (range_of_three (rw c.in-Some.is at (c.in_ok-all.ensures {u = tt})) (rw c.as_slice.ensures at three))
