use Rattle.std.proofs.Common.{sym, subst, ◌+◌, ◌*◌}
use Rattle.std.specs.Prelude.{sum_by}
use Rattle.thin_form.specs.Programs.{size_of}
use Rattle.thin_code.specs.Meaning.{Source}
use Rattle.thin_code.specs.Sizes.{steps_each, words_each}
use Rattle.thin_code.specs.Agreement.{Agrees, EndsWithin}
use Rattle.thin_code.proofs.Given.{if_ok}
use Rattle.thin_code.proofs.Orderly.{orderly}
use Rattle.thin_code.proofs.Theorem.{agrees, bounded}
use Rattle.thin_code.proofs.program.program_file.Goals as goal

pub returns-clause-agrees : goal.returns-clause-agrees
returns-clause-agrees c = if_ok c.linked.result (λ file e. subst (Agrees (Source c.args.body.now) (steps_each c.args.body.now) (words_each c.args.body.now)) (sym e) (agrees c.args.body.now c.requires.program c.requires.small)) c.linked.ensures

pub returns-clause-bound : goal.returns-clause-bound
returns-clause-bound c = if_ok c.linked.result (λ file e. subst (λ bytes. EndsWithin bytes (64 + 32 * sum_by size_of c.args.body.now)) (sym e) (bounded c.args.body.now c.requires.program c.requires.small)) c.linked.ensures

pub returns-clause-orderly : goal.returns-clause-orderly
returns-clause-orderly c = λ input words n. orderly c.args.body.now c.requires.program input n
