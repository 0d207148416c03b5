-- The first statement is the same, in whatever order the runs stand.
use Rattle.std.proofs.Common.{List, Some, None}
use Rattle.std.specs.declared.option.Option.{Option}
use Rattle.std.specs.List.Sorted.{IsPermutation}
use Rattle.std.proofs.lemmas.List.Sorted.{Contains-permutation, IsPermutation-sym}
use Rattle.check_common.specs.declared.initials.Initial.{Initial}
use Rattle.check_common.specs.declared.again.Again.{Again}
use Rattle.check_common.specs.Again.{IsAgain, FirstAgain}

moved : (xs ys : List Initial) → IsPermutation xs ys → (again : Again) → IsAgain xs again → IsAgain ys again
moved xs ys p again h = record {
  earlier = h.earlier;
  earlier_is = Contains-permutation xs ys h.earlier p h.earlier_is;
  later = h.later;
  later_is = Contains-permutation xs ys h.later p h.later_is;
  order = h.order;
  shared = h.shared;
  told = h.told;
}

-- sorted, and as they stood
pub first_moved : (xs ys : List Initial) (again : Option Again) → IsPermutation xs ys → FirstAgain ys again → FirstAgain xs again
first_moved xs ys None p h = λ again k. h again (moved xs ys p again k)
first_moved xs ys (Some a) p h = record {
  initialises = moved ys xs (IsPermutation-sym xs ys p) a h.initialises;
  first_unit = λ other k. h.first_unit other (moved xs ys p other k);
  first_line = λ other k. h.first_line other (moved xs ys p other k);
}
