-- The test for names, by its parts.
use Rattle.std.proofs.Common.{◌≡◌, ℕ, ◌≤◌, Bool, true, ◌&&◌, nat_le, List, ◌∷◌, length, ap, sym, ◌∙◌, arith}
use Rattle.std.specs.List.{list_all}
use Rattle.std.proofs.lemmas.Bool.Decides.{nat_tests}
use Rattle.f77_tree.specs.Names.{is_letter, is_word, is_name}

within : (m n : ℕ) → m ≤ n → nat_le m n ≡ true
within m n h = grind (arith, nat_tests)

pub name_here : (word others : List ℕ) (first : ℕ) (b : Bool) → word ≡ first ∷ others → is_letter first ≡ true → length word ≤ 31 → b ≡ list_all is_word others → b ≡ is_name word
name_here word others first b e letter short all =
    all
    ∙ (sym (ap (λ x. (x && nat_le (length (first ∷ others)) 31) && list_all is_word others) letter
    ∙ ap (λ x. x && list_all is_word others) (within (length (first ∷ others)) 31 (let h : length (first ∷ others) ≤ 31 = omega (arith, ap length e, short) in h)))
    ∙ ap is_name (sym e))
