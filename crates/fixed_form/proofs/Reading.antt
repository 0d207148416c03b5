-- The reader's loop over a text.
use Rattle.std.proofs.Common.{◌≡◌, ℕ, ◌+◌, ◌<◌, List, [], ◌∷◌, ◌++◌, length, ap, sym, ◌∙◌, subst, refl, arith, Some, None, Option, true, false, append_assoc, length-append}
use Rattle.std.specs.Option.{is_some}
use Rattle.std.proofs.lemmas.List.{append-nil}
use Rattle.f77_tree.specs.declared.fault.Refused.{Refused}
use Rattle.fixed_form.specs.declared.reader.Current.{Current}
use Rattle.fixed_form.specs.declared.reader.Line.{Line}
use Rattle.fixed_form.specs.declared.reader.UnitText.{UnitText}
use Rattle.fixed_form.specs.declared.reader.Reader.{Reader}
use Rattle.fixed_form.specs.Lines.{Text, lines_of}
use Rattle.fixed_form.specs.Reading.{Explains, Reads}
use Rattle.fixed_form.specs.Progress.{Stands, StandsIn, RefusesAt, Gone}
use Rattle.fixed_form.proofs.Steps.{stands_start, first_end, reads_all}

pub gone_start : (text : Text) → Gone text text 0 (record { units = []; done = []; current = None; next = 1 })
gone_start text = record { seen = []; whole = refl; numbered = refl; taken = omega arith; stands = stands_start }

pub gone_next : {text rest line : Text} {n : ℕ} {reader next : Reader} (after : Text) → Gone text rest n reader → lines_of rest ≡ line ∷ lines_of after → length after < length rest →
    ((seen : List Text) → n + 1 ≡ length seen + 1 → StandsIn seen reader → StandsIn (seen ++ line ∷ []) next) → Gone text after (n + 1) next
gone_next {line = line} after g e short step = record {
  seen = g.seen ++ line ∷ [];
  whole = g.whole ∙ (ap (λ ls. g.seen ++ ls) e ∙ sym (append_assoc g.seen (line ∷ []) (lines_of after)));
  numbered = omega (arith, g.numbered, length-append g.seen (line ∷ []));
  taken = omega (arith, g.taken, short);
  stands = step g.seen (omega (arith, g.numbered)) g.stands;
}

pub gone_err : {text rest line : Text} {n : ℕ} {reader : Reader} (e : Refused) (after : Text) → Gone text rest n reader → lines_of rest ≡ line ∷ lines_of after →
    ((seen rest : List Text) → n + 1 ≡ length seen + 1 → StandsIn seen reader → Explains e (seen ++ line ∷ rest)) → Explains e (lines_of text)
gone_err {line = line} e after g f step =
    subst (Explains e) (sym (g.whole ∙ ap (λ ls. g.seen ++ ls) f)) (step g.seen (lines_of after) (omega (arith, g.numbered)) g.stands)

all_seen : {text rest : Text} {n : ℕ} {reader : Reader} (g : Gone text rest n reader) → lines_of rest ≡ [] → g.seen ≡ lines_of text
all_seen g e = sym (g.whole ∙ (ap (λ ls. g.seen ++ ls) e ∙ append-nil g.seen))

pub gone_open : {text rest : Text} {n : ℕ} {reader : Reader} (e : Refused) → Gone text rest n reader → lines_of rest ≡ [] → is_some reader.current ≡ true → RefusesAt e 5 n → Explains e (lines_of text)
gone_open {reader = reader} e g f some h = subst (Explains e) (all_seen g f) (first_end reader.current e some h g.numbered g.stands)

reads_of : {lines : List Text} {u : List UnitText} {d : List Line} {next : ℕ} (o : Option Current) → is_some o ≡ false → Stands lines u d o next → Reads lines u
reads_of None h s = reads_all s
reads_of (Some c) h s = absurd cc

pub gone_all : {text rest : Text} {n : ℕ} {reader : Reader} → Gone text rest n reader → lines_of rest ≡ [] → is_some reader.current ≡ false → Reads (lines_of text) reader.units
gone_all {reader = reader} g e none = subst (λ ls. Reads ls reader.units) (all_seen g e) (reads_of reader.current none g.stands)
