use Rattle.std.proofs.Common.{◌≡◌, rules}
use Rattle.serde_json.specs.Data.{string}
use Rattle.serde_json.specs.View.{view}
use Rattle.hex.specs.Hex.{encode_lower}
use Rattle.std.specs.List.{All}
use Rattle.obj_form.specs.Grammar.{code_bytes}
use Rattle.obj_form.proofs.Words.{Small}
use Rattle.obj_form.proofs.code.code_of.Goals as goal

pub returns-then-eq : goal.returns-then-eq
returns-then-eq c =
    let text : view c.args.value.now ≡ string (encode_lower (code_bytes c.in-Some-2.words)) = search rules in
    let small : All Small c.in-Some-2.words = search rules in
    (text, small)
