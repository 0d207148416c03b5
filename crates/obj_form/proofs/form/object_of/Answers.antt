use Rattle.std.proofs.Common.{subst}
use Rattle.serde_json.specs.View.{view}
use Rattle.obj_form.specs.Grammar.{IsCode, IsInitial, IsRelocs, Never, Reads}
use Rattle.obj_form.proofs.Reading.{no_initial, no_relocs}
use Rattle.obj_form.proofs.form.object_of.Goals as goal

pub returns-in_default-2 : goal.returns-in_default-2
returns-in_default-2 c =
    let f = c.in-Some.fields in
    no_initial (view c.args.value.now) (view f.code.now) (view f.initial.now) (view f.relocs.now) (view f.size.now) c.in-Some.ensures
    (subst (Reads IsInitial (view f.initial.now)) c.in_default-2.is c.in_ok-initial.ensures)

pub returns-in_default-4 : goal.returns-in_default-4
returns-in_default-4 c =
    let f = c.in-Some.fields in
    no_relocs (view c.args.value.now) (view f.code.now) (view f.initial.now) (view f.relocs.now) (view f.size.now) c.in-Some.ensures
    c.in-Some-3.code
    (subst (Reads IsCode (view f.code.now)) c.in-Some-3.is c.in_ok-code.ensures)
    (subst (λ n. Never (IsRelocs n) (view f.relocs.now)) c.len.ensures
    (subst (Reads (IsRelocs c.len.result) (view f.relocs.now)) c.in_default-4.is c.in_ok-relocs.ensures))
