-- Where nothing passes the test, the first place that does is the length.
use Rattle.std.proofs.Common.{◌≡◌, ◌≤◌, List, length, Bool, true, false, Some, None, cond, refl, arith}
use Rattle.std.specs.Prelude.{position, nat_lt, not}
use Rattle.std.specs.List.{position_or_len}
use Rattle.std.proofs.lemmas.Bool.{ltb-false}
use Rattle.std.proofs.lemmas.List.Sums.{prefix_len-le-length}

pub no_position : {X : Type 0} (p : X → Bool) (xs : List X) → position p xs ≡ None → position_or_len p xs ≡ length xs
no_position p xs h = go (nat_lt (position_or_len p xs) (length xs)) refl h
  where
    go : (b : Bool) → nat_lt (position_or_len p xs) (length xs) ≡ b → cond b (Some (position_or_len p xs)) None ≡ None → position_or_len p xs ≡ length xs
    go true e h = absurd (cc)
    go false e h = let l : length xs ≤ position_or_len p xs = ltb-false (position_or_len p xs) (length xs) e in omega (arith, l, prefix_len-le-length (λ x. not (p x)) xs)
