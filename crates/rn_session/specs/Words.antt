-- What the words of a command line ask for.
use Rattle.std.specs.Prelude.{ℕ, ◌-◌, ◌^◌, ◌&&◌, nat_le, nat_lt, Bool, List, [], ◌∷◌, length, None, Some, if◌then◌else◌, codes}
use Rattle.std.specs.List.{list_all}
use Rattle.std.specs.Str.{bytes_eq}
use Rattle.std.specs.declared.option.Option.{Option}
use Rattle.fixed_form.specs.Cards.{is_digit, value_of}

-- decimal digits, at least one, of a value below 2^63
abbrev pub is_number : List ℕ → Bool
is_number digits = nat_lt 0 (length digits) && (list_all is_digit digits && nat_le (value_of digits) (2 ^ 63 - 1))

abbrev pub number_of : List ℕ → Option ℕ
number_of digits = if is_number digits then Some (value_of digits) else None

-- `one STEPS`
abbrev pub steps_of : List (List ℕ) → Option ℕ
steps_of (word ∷ digits ∷ []) = if bytes_eq word (codes "one") then number_of digits else None
steps_of words = None
