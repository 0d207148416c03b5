-- The test of 64 bits is one.
use Rattle.std.proofs.Common.{◌≡◌, ℕ, ◌<◌, ◌^◌, List, [], ◌∷◌, Bool, true, false, ◌&&◌, ℤ, pos, negsuc, refl, nat_lt, arith}
use Rattle.std.specs.List.{list_all}
use Rattle.std.proofs.lemmas.Bool.Decides.{nat_tests}
use Rattle.run_inputs.specs.Inputs.{IsWord64, AllWord64, is_word64, IntegersAreDecided, InputsAreDecided}

below : (n m : ℕ) → nat_lt n m ≡ true → n < m
below n m e = grind (arith, nat_tests)

passes : (n m : ℕ) → n < m → nat_lt n m ≡ true
passes n m e = grind (arith, nat_tests)

pub word : (z : ℤ) → is_word64 z ≡ true → IsWord64 z
word (pos n) e = record { sfits = below n (2 ^ 63) e }
word (negsuc n) e = record { sfits = below n (2 ^ 63) e }

test : (z : ℤ) → IsWord64 z → is_word64 z ≡ true
test (pos n) h = passes n (2 ^ 63) h.sfits
test (negsuc n) h = passes n (2 ^ 63) h.sfits

both : (a b : Bool) → (a && b) ≡ true → (a ≡ true) × (b ≡ true)
both true b e = (refl, e)
both false b e = let z : false ≡ true = e in cc

words : (zs : List ℤ) → list_all is_word64 zs ≡ true → AllWord64 zs
words [] e = tt
words (z ∷ zs) e = let b = both (is_word64 z) (list_all is_word64 zs) e in (word z b.0, words zs b.1)

join : (a b : Bool) → a ≡ true → b ≡ true → (a && b) ≡ true
join true b e f = f
join false b e f = e

tests : (zs : List ℤ) → AllWord64 zs → list_all is_word64 zs ≡ true
tests [] h = refl
tests (z ∷ zs) h = join (is_word64 z) (list_all is_word64 zs) (test z h.0) (tests zs h.1)

pub integers : IntegersAreDecided
integers z = (word z, test z)

pub inputs : InputsAreDecided
inputs zs = (words zs, tests zs)
