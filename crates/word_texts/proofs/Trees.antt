-- The trees of accepted units have integers of 64 bits, so their program stays in 64 bits.
use Rattle.std.proofs.Common.{◌≡◌, true, List, [], ◌∷◌, refl}
use Rattle.std.specs.List.{AllZip, list_all}
use Rattle.f77_tree.specs.declared.form.Form.{out-Form}
use Rattle.f77_tree.specs.declared.unit.Stmt.{Stmt}
use Rattle.f77_tree.specs.declared.unit.Unit.{Unit as SourceUnit}
use Rattle.fixed_form.specs.declared.reader.Line.{Line}
use Rattle.fixed_form.specs.declared.reader.UnitText.{UnitText}
use Rattle.f77_parse.specs.Parsed.{IsStatement}
use Rattle.rn_draft.specs.Accepted.{IsAccepted}
use Rattle.word_laws.specs.Literals.{form_has_word64, unit_has_word64}
use Rattle.word_laws.proofs.Runs.{stays}
use Rattle.word_texts.specs.Laws.{AcceptedHaveWord64, AcceptedStayInWord64}
use Rattle.word_texts.proofs.Expressions.{join}
use Rattle.word_texts.proofs.Forms.{form_has}

statements_have : (lines : List Line) (all : List Stmt) → AllZip IsStatement lines all → list_all (λ s. form_has_word64 (out-Form s.form)) all ≡ true
statements_have [] [] h = refl
statements_have [] (s ∷ all) h = absurd h
statements_have (l ∷ lines) [] h = absurd h
statements_have (l ∷ lines) (s ∷ all) h = join (form_has_word64 (out-Form s.form)) _ (form_has l.text s.form h.0.form) (statements_have lines all h.1)

units_have : (units : List UnitText) (trees : List SourceUnit) → AllZip IsAccepted units trees → list_all unit_has_word64 trees ≡ true
units_have [] [] h = refl
units_have [] (t ∷ trees) h = absurd h
units_have (u ∷ units) [] h = absurd h
units_have (u ∷ units) (t ∷ trees) h = join (unit_has_word64 t) (list_all unit_has_word64 trees) (statements_have u.statements t.statements h.0.tree.statements) (units_have units trees h.1)

pub accepted_have : AcceptedHaveWord64
accepted_have units trees a = units_have units trees a.each

pub accepted_stay : AcceptedStayInWord64
accepted_stay units trees a main is input words n = stays trees (accepted_have units trees a) main is input words n
