-- What is written of the parts is written of the whole.
use Rattle.std.proofs.Common.{ℕ, List, sym, ap, ◌∙◌, codes}
use Rattle.serde_json.specs.Data.{Data, string}
use Rattle.obj_form.specs.declared.object.InitialRun.{InitialRun}
use Rattle.obj_form.specs.declared.object.Object.{Object}
use Rattle.obj_form.specs.declared.object.Reloc.{Reloc}
use Rattle.obj_form.specs.declared.object.Target.TheVariants.{Call, Own, Block}
use Rattle.obj_form.specs.Grammar.{IsArrayOf, IsBlock, IsCode, IsNamed, IsObject, IsReloc, IsRun, IsTarget, IsValue, IsWord, Writes, four, three, two}

pub writes_run : (run : InitialRun) (a b c : Data) → Writes IsWord a run.from → Writes IsWord b run.count → Writes IsValue c run.value → Writes IsRun (three a b c) run
writes_run run a b c from count value d h =
    ap (λ x. three x b c) (from h.0 h.4) ∙ ap (λ x. three h.0 x c) (count h.1 h.5) ∙ ap (λ x. three h.0 h.1 x) (value h.2 h.6) ∙ sym h.3

pub writes_call : (name : List ℕ) (a : Data) → Writes IsNamed a name → Writes IsTarget (two (string (codes "call")) a) (Call name)
writes_call name a named d h = ap (λ x. two (string (codes "call")) x) (named h.0 h.2) ∙ sym h.1

pub writes_own : (k : ℕ) (a : Data) → Writes IsWord a k → Writes IsTarget (two (string (codes "own")) a) (Own k)
writes_own k a word d h = ap (λ x. two (string (codes "own")) x) (word h.0 h.2) ∙ sym h.1

pub writes_block : (name : List ℕ) (k : ℕ) (a b : Data) → Writes IsBlock a name → Writes IsWord b k → Writes IsTarget (three (string (codes "block")) a b) (Block name k)
writes_block name k a b named word d h =
    ap (λ x. three (string (codes "block")) x b) (named h.0 h.3) ∙ ap (λ x. three (string (codes "block")) h.0 x) (word h.1 h.4) ∙ sym h.2

pub writes_reloc : (reloc : Reloc) (a b : Data) → Writes IsWord a reloc.word → Writes IsTarget b reloc.target → Writes IsReloc (two a b) reloc
writes_reloc reloc a b word target d h = ap (λ x. two x b) (word h.0 h.3) ∙ ap (λ x. two h.0 x) (target h.1 h.4) ∙ sym h.2

pub writes_object : (o : Object) (a b c e : Data) → Writes IsCode a o.code → Writes (IsArrayOf IsRun) b o.initial → Writes (IsArrayOf IsReloc) c o.relocs
    → Writes IsWord e o.size → Writes IsObject (four a b c e) o
writes_object o a b c e code initial relocs size d h =
    ap (λ x. four x b c e) (code h.0 h.5) ∙ ap (λ x. four h.0 x c e) (initial h.1 h.6.0) ∙ ap (λ x. four h.0 h.1 x e) (relocs h.2 h.7.0)
    ∙ ap (λ x. four h.0 h.1 h.2 x) (size h.3 h.8) ∙ sym h.4
