-- What a text is read to, and its first fault.
use Rattle.std.proofs.Common.{◌≡◌, ℕ, ◌+◌, List, ◌∷◌, ◌++◌, length, sym, ap, ◌∙◌, Some, None}
use Rattle.f77_tree.specs.declared.fault.SourceFault.{SourceFault}
use Rattle.fixed_form.specs.declared.reader.UnitText.{UnitText}
use Rattle.fixed_form.specs.Lines.{Text}
use Rattle.fixed_form.specs.Reading.{told, place_of, fault_at, HasNoFault, FirstFault, at_line, at_the_end, IsFirstFault, Reads}
use Rattle.one_answer.proofs.Cutting.{Places, same, earlier, later, places}
use Rattle.one_answer.proofs.Lines.{closed_lines}

-- ---- faults

record SameFault (n m at bt : ℕ) : Type 0 where
  number : n ≡ m
  line : at ≡ bt

no_fault_there : {lines : List Text} (before rest : List Text) (line : Text) {n : ℕ} → HasNoFault lines → lines ≡ before ++ line ∷ rest → fault_at (place_of before) line ≡ Some n → ⊥
no_fault_there before rest line {n = n} none e f = let z : None ≡ Some n = sym (none.none before line rest e) ∙ f in cc

one_some : {n m : ℕ} → Some n ≡ Some m → n ≡ m
one_some e = cc

one_first : (lines : List Text) (n m at bt : ℕ) → FirstFault lines n at → FirstFault lines m bt → SameFault n m at bt
one_first lines n m at bt (at_line before line rest e a none f) (at_line front other more g b clear h) = go (places before front rest more line other (sym e ∙ g))
  where
    go : Places before front line other → SameFault n m at bt
    go (same p q) = record {
      number = one_some (sym f ∙ ap (λ l. fault_at (place_of before) l) q ∙ ap (λ xs. fault_at (place_of xs) other) p ∙ h);
      line = a ∙ ap (λ xs. length xs + 1) p ∙ sym b;
    }
    go (earlier between p) = absurd (no_fault_there before between line clear p f)
    go (later between p) = absurd (no_fault_there front between other none p h)
one_first lines n m at bt (at_line before line rest e a none f) (at_the_end p clear h g b) = absurd (no_fault_there before rest line clear e f)
one_first lines n m at bt (at_the_end p none h g b) (at_line before line rest e a clear f) = absurd (no_fault_there before rest line none e f)
one_first lines n m at bt (at_the_end p none h g b) (at_the_end q clear k e a) = record { number = g ∙ sym e; line = b ∙ sym a }

pub one_reading_fault : (lines : List Text) (a b : SourceFault) → IsFirstFault a lines → IsFirstFault b lines → a ≡ b
one_reading_fault lines a b h k =
    let both = one_first lines a.number b.number h.at k.at h.first k.first in
    let unit = h.unit ∙ sym k.unit in
    let line = h.line ∙ ap told both.line ∙ sym k.line in
    let limit = h.limit ∙ sym k.limit in
    λ i. record { number = both.number i; place = record { unit = unit i; line = line i }; limit = limit i }

none_left : (lines : List Text) (n at : ℕ) → HasNoFault lines → place_of lines ≡ None → FirstFault lines n at → ⊥
none_left lines n at none closed (at_line before line rest e a clear f) = no_fault_there before rest line none e f
none_left lines n at none closed (at_the_end p clear h g b) = let z : None ≡ Some p = sym closed ∙ h in cc

pub read_or_faulty : (lines : List Text) (units : List UnitText) (fault : SourceFault) → Reads lines units → IsFirstFault fault lines → ⊥
read_or_faulty lines units fault r f = none_left lines fault.number f.at r.faultless (closed_lines lines r.parts r.each r.cards) f.first
