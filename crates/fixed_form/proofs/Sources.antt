-- Lines of equal sources are equal in label and text.
use Rattle.std.proofs.Common.{◌≡◌, ℕ, ◌<◌, List, length, map, get_or, ap, sym, ◌∙◌}
use Rattle.std.proofs.lemmas.List.{get_or-map}
use Rattle.fixed_form.specs.declared.reader.Line.{Line}
use Rattle.fixed_form.specs.Lines.{Text}
use Rattle.fixed_form.specs.Reading.{label_and_text}

pub same_at : (xs ys : List Line) (i : ℕ) (x y : Line) → i < length xs → i < length ys → x ≡ get_or xs i x → y ≡ get_or ys i y → map label_and_text xs ≡ map label_and_text ys → label_and_text x ≡ label_and_text y
same_at xs ys i x y h g e f same =
    ap label_and_text e ∙ (sym (get_or-map label_and_text xs i x (label_and_text x) h)
    ∙ (ap (λ (ls : List (ℕ × Text)). get_or ls i (label_and_text x)) same ∙ (get_or-map label_and_text ys i y (label_and_text x) g ∙ ap label_and_text (sym f))))
