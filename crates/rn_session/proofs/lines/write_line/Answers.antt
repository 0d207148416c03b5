use Rattle.std.proofs.Common.{ℕ, List, [], ◌∷◌, subst}
use Rattle.rn_ports.specs.Sent.{AppendsPart}
use Rattle.rn_ports.proofs.Sending.{part_first, part_then}
use Rattle.rn_session.proofs.Parts.{line_parts}
use Rattle.rn_session.proofs.lines.write_line.Goals as goal

pub returns-in-Ok-clause-front : goal.returns-in-Ok-clause-front
returns-in-Ok-clause-front g c =
    subst (λ (x : List ℕ). AppendsPart (g.O.Sink.written c.args.out.now) (g.O.Sink.written c.write_both-in-Ok.new.out) x)
    (line_parts c.args.within _ c.args.word.now c.args.rest.now (10 ∷ []) c.line_end_before.ensures)
    (part_then _ (c.in-Ok.ensures {u = tt}).all c.write_both-in-Ok.ensures.front)

pub returns-in-Err-clause-front : goal.returns-in-Err-clause-front
returns-in-Err-clause-front g c =
    subst (λ (x : List ℕ). AppendsPart (g.O.Sink.written c.args.out.now) (g.O.Sink.written c.write_both.new.out) x)
    (line_parts c.args.within _ c.args.word.now c.args.rest.now (10 ∷ []) c.line_end_before.ensures)
    (part_first _ c.write_both.ensures.front)
