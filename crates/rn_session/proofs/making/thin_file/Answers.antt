use Rattle.std.proofs.Common.{◌≡◌, ℕ, ℤ, ◌+◌, ◌*◌, ◌≤◌, List, sym, subst, arith}
use Rattle.std.specs.Prelude.{sum_by}
use Rattle.thin_form.specs.declared.statement.Statement.{Statement}
use Rattle.thin_form.specs.Programs.{size_of}
use Rattle.run_inputs.specs.Inputs.{AllWord64}
use Rattle.run_model.specs.Runs.{Run}
use Rattle.f77_semantics.specs.Source as whole
use Rattle.thin_code.specs.Meaning.{Source}
use Rattle.thin_code.specs.Sizes.{steps_each, words_each}
use Rattle.thin_code.specs.Agreement.{Agrees, EndsWithin, IsOrderly}
use Rattle.thin_text.specs.Thin.{text_bytes}
use Rattle.rn_session.specs.Texts.{IsThinText}
use Rattle.thin_meaning.specs.Laws.{TextsRunAlike}
use Rattle.rn_session.proofs.making.thin_file.Goals as goal

within_more : (file : List ℕ) (most more : ℕ) → most ≤ more → EndsWithin file most → EndsWithin file more
within_more file most more l h = λ input words s loads m n. h input words s loads m (omega arith)

-- a thin text means what its units do
meant : TextsRunAlike → (bytes : List ℕ) (body : List Statement) (text : IsThinText bytes body) → Source body ≡ whole.Source text.trees
meant alike bytes body text = λ i input n. sym (alike text.units body text.trees text.thin text.accepted input n) i

pub returns-in-Ok-note-clause-file : goal.returns-in-Ok-note-clause-file
returns-in-Ok-note-clause-file g c =
    let read = c.in-Ok.ensures {u = tt} in
    let made = c.in-Ok-program_file.ensures {u = tt} in
    let body = c.in-Ok.body in
    let same : Source body ≡ whole.Source read.text.text.trees = meant c.texts_law.ensures.alike c.args.text.now body read.text.text in
    let size : sum_by size_of c.in-Ok.body ≤ text_bytes read.text.text.units = read.text.size in
    record {
      body = body;
      text = read.text.text;
      orderly = subst (λ (meaning : List ℤ → ℕ → Run). (input : List ℤ) → AllWord64 input → (n : ℕ) → IsOrderly (meaning input n)) same
          (subst (λ (b : List Statement). (input : List ℤ) → AllWord64 input → (n : ℕ) → IsOrderly (Source b input n)) c.as_slice.ensures c.program_file.ensures.orderly);
      agrees = subst (λ (meaning : List ℤ → ℕ → Run). Agrees meaning (steps_each body) (words_each body) c.in-Ok-program_file.file.items) same
          (subst (λ (b : List Statement). Agrees (Source b) (steps_each b) (words_each b) c.in-Ok-program_file.file.items) c.as_slice.ensures made.agrees);
      bound = within_more c.in-Ok-program_file.file.items (64 + 32 * sum_by size_of body) (64 + 32 * text_bytes read.text.text.units) (omega (arith, size))
          (subst (λ (b : List Statement). EndsWithin c.in-Ok-program_file.file.items (64 + 32 * sum_by size_of b)) c.as_slice.ensures made.bound);
    }
