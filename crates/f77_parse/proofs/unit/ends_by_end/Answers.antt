use Rattle.std.proofs.Common.{List, length, sym, ap, ◌∙◌}
use Rattle.std.specs.Str.{bytes_eq}
use Rattle.fixed_form.specs.declared.reader.Line.{Line}
use Rattle.f77_parse.proofs.LastStatements.{ends_is, never_ends, spelled}
use Rattle.f77_parse.proofs.unit.ends_by_end.Goals as goal

pub returns-in_default : goal.returns-in_default
returns-in_default c = record { ends = never_ends c.args.unit.now (ap (λ (xs : List Line). length xs) (sym c.as_slice.ensures) ∙ (c.in_default.ensures {u = tt}).cases) }

pub returns : goal.returns
returns c =
    let cut = sym c.as_slice.ensures ∙ (c.in-Some.ensures {u = tt}).cases.0 in
    record { ends = ends_is c.args.unit.now c.in-Some.field-0-1.now c.in-Some.last.now c.eq.result cut (spelled c.eq.result c.in-Some.last.now.text _ (c.eq.ensures ∙ (ap (λ xs. bytes_eq xs c.as_slice-3.result.now) c.as_slice-2.ensures ∙ ap (bytes_eq c.in-Some.last.now.text) c.as_slice-3.ensures))) }
