use Rattle.std.proofs.Common.{◌≡◌, ℕ, ◌<◌, List, [], ◌∷◌, ◌++◌, length, refl, ap, sym, subst, rules}
use Rattle.std.proofs.lemmas.List.Elements.{All-nil, All-push}
use Rattle.std.specs.List.{All}
use Rattle.f77_tree.specs.declared.expr.Expr.{Expr}
use Rattle.thin_form.specs.declared.statement.Addend.{Addend}
use Rattle.thin_form.specs.declared.statement.Term.{Term}
use Rattle.thin_form.specs.Lacks.{Lacks}
use Rattle.thin_form.specs.Forms.{IsTermOf, IsSumOf, alone}
use Rattle.thin_form.specs.Programs.{IsTerm}
use Rattle.thin_form.proofs.Terms.{no_sum_alone, no_sum_sign, no_sum_before, no_sum_last, sum_joined}
use Rattle.thin_form.proofs.forms.+sum.Goals as goal

pub returns-in_default-2-clause-sum : goal.returns-in_default-2-clause-sum
returns-in_default-2-clause-sum t c =
    let none = rw c.in_default-2.is at (c.in_ok-first.ensures {u = tt}).term in
    no_sum_alone c.args.tree.now c.in_default.not-Binary none

pub returns-in_default : goal.returns-in_default
returns-in_default t c =
    let h = c.in_ok-first.ensures {u = tt} in
    let some = rw c.in-Some.is at h.term in
    let plain = rw c.in-Some.is at h.plain in
    record { sum = alone some c.new.ensures; plain = (plain, subst (All (λ (a : Addend). IsTerm a.term)) (sym c.new.ensures) (All-nil (λ (a : Addend). IsTerm a.term))) }

pub returns-in_default-3-clause-sum : goal.returns-in_default-3-clause-sum
returns-in_default-3-clause-sum t c =
    let none = rw c.in_default-3.is at (c.in_ok-first-2.ensures {u = tt}).sum in
    no_sum_before c.args.tree.now c.in-Binary.op c.in-Binary.before c.in-Binary.last c.in-Binary.is (subst (λ (x : Expr). Lacks (λ (y : Term × List Addend). IsSumOf x y.0 y.1)) c.get.ensures none)

pub returns-in_default-4-clause-sum : goal.returns-in_default-4-clause-sum
returns-in_default-4-clause-sum t c =
    let none = rw c.in_default-4.is at (c.in_ok-term.ensures {u = tt}).term in
    no_sum_last c.args.tree.now c.in-Binary.op c.in-Binary.before c.in-Binary.last c.in-Binary.is (subst (λ (x : Expr). Lacks (IsTermOf x)) c.get-2.ensures none)

pub returns-clause-sum : goal.returns-clause-sum
returns-clause-sum t c =
    let before = rw c.in-Some-2.is at (c.in_ok-first-2.ensures {u = tt}).sum in
    let last = rw c.in-Some-3.is at (c.in_ok-term.ensures {u = tt}).term in
    let sign = rw c.in-Some-sign_of.is at c.sign_of.ensures in
    let of_before = subst (λ (x : Expr). IsSumOf x c.in-Some-2.first c.in-Some-2.more) c.get.ensures before in
    let of_last = subst (λ (x : Expr). IsTermOf x c.in-Some-3.term) c.get-2.ensures last in
    subst (λ (more : List Addend). IsSumOf c.args.tree.now c.in-Some-2.first more) (sym c.in_ok-push.ensures.ok)
    (sum_joined c.args.tree.now c.in-Binary.before c.in-Binary.last c.in-Binary.op c.in-Some-sign_of.sign c.in-Some-2.first c.in-Some-2.more c.in-Some-3.term c.in-Binary.is sign of_before of_last)

pub returns-clause-plain : goal.returns-clause-plain
returns-clause-plain t c =
    let before = rw c.in-Some-2.is at (c.in_ok-first-2.ensures {u = tt}).plain in
    let last = rw c.in-Some-3.is at (c.in_ok-term.ensures {u = tt}).plain in
    (before.0, subst (All (λ (a : Addend). IsTerm a.term)) (sym c.in_ok-push.ensures.ok) (All-push (λ (a : Addend). IsTerm a.term) c.in-Some-2.more (record { sign = c.in-Some-sign_of.sign; term = c.in-Some-3.term }) before.1 last))
