-- Whatever reads them: a part that ends where a list may go on or end is the only one there.
use Rattle.std.proofs.Common.{◌≡◌, ℕ, Bool, true, false, List, [], length, ap, sym, ◌∙◌, subst, refl, arith}
use Rattle.f77_tree.specs.declared.expr.Expr.{Expr}
use Rattle.f77_expr.specs.declared.token.Kind.TheVariants as k
use Rattle.f77_expr.specs.Kinds.{Tokens, IsNext}
use Rattle.f77_expr.specs.Grammar.{ReadsExpression}
use Rattle.f77_expr.specs.Longest.{Settles}
use Rattle.f77_expr.specs.OneReading.{OneSettled, TakesTokens}
use Rattle.form_parts.specs.Listed.{Listed, last, more, Parenthesized, Whole, Chained, none, some, Sequence}
use Rattle.form_parts.specs.Only.{Follows, over, comma, close, Halts, Tail, stop, go, OnlyTail, OnlyPart, OnlyListed, OnlyFront, NoFront, OnlyEntry, Resumes, Sole}
use Rattle.form_parts.specs.Parts.{IsName, IsVariable, plain, element}
use Rattle.form_parts.proofs.NextToken.{next_shorter, name_next}
use Rattle.form_parts.proofs.Lists.{begins, only_list, tail_only, halts_at_nothing, halts_at_close}
use Rattle.form_parts.proofs.Enclosed.{front_enclosed, sole_whole}
use Rattle.form_parts.proofs.Entries.{resumes, sole_none, sole_some, sole_sequence}
use Rattle.form_parts.proofs.Following.{settles_follows, not_open}
use Rattle.form_parts.proofs.Elements.{is_element, is_bare}

-- what is known of expressions
pub record Readings : Type 0 where
  pub settled : OneSettled
  pub taken : TakesTokens

-- ---- lists

halting_only : {A : Type 0} {Part : Tokens → A → Tokens → Type 0} {slash : Bool} {ts z : Tokens} {others : List A} → Halts Part ts → Tail Part ts others z → Follows slash z → (others ≡ []) × (z ≡ ts)
halting_only h (stop empty is) f = (empty, is)
halting_only h (go n list) f = let b = begins list f in absurd (h.not _ b.rest b.x n b.part)

tail_halts : {A : Type 0} {Part : Tokens → A → Tokens → Type 0} {slash : Bool} {ts : Tokens} → Halts Part ts → OnlyTail Part slash ts [] ts
tail_halts h = record { tail = stop refl refl; shorter = omega arith; only = λ others z t f g. halting_only h t f }

tail_list : {A : Type 0} {Part : Tokens → A → Tokens → Type 0} {slash : Bool} {ts rest s : Tokens} {all : List A} → IsNext ts k.Comma rest → Follows slash s → OnlyListed Part slash rest all s → OnlyTail Part slash ts all s
tail_list n f l =
    let b = begins l.listed f in
    record {
      tail = go n l.listed;
      shorter = omega (arith, next_shorter n, l.shorter);
      only = λ others z t g h. tail_only b.rest b.x n b.part l t g h;
    }

pub one_list : {A : Type 0} (Part : Tokens → A → Tokens → Type 0) (slash : Bool) → ((ts s : Tokens) (x : A) → Part ts x s → Follows slash s → OnlyPart Part slash ts x s) → {ts s : Tokens} {all : List A} → Listed Part ts all s → Follows slash s → Halts Part s → OnlyListed Part slash ts all s
one_list Part slash each {ts} {s} (last {x = x} part is) f h =
    subst (λ all. OnlyListed Part slash ts all s) (sym is) (only_list (each ts s x part f) (tail_halts h))
one_list Part slash each {ts} {s} (more {rest = rest} {x = x} part n l is) f h =
    subst (λ all. OnlyListed Part slash ts all s) (sym is) (only_list (each ts rest x part (comma _ n)) (tail_list n f (one_list Part slash each l f h)))

pub one_enclosed : {A : Type 0} (Part : Tokens → A → Tokens → Type 0) (slash : Bool) → ((ts s : Tokens) (x : A) → Part ts x s → Follows slash s → OnlyPart Part slash ts x s) → {ts s : Tokens} {all : List A} → Parenthesized Part ts all s → OnlyFront (Parenthesized Part) ts all s
one_enclosed Part slash each {s = s} q = front_enclosed q.opens (one_list Part slash each q.listed (close s q.closes) (halts_at_close q.closes)) q.closes

pub one_whole : {A : Type 0} (Part : Tokens → A → Tokens → Type 0) (slash : Bool) → ((ts s : Tokens) (x : A) → Part ts x s → Follows slash s → OnlyPart Part slash ts x s) → {ts : Tokens} {all : List A} → Whole Part ts all → Sole (Whole Part) ts all
one_whole Part slash each q = sole_whole (one_list Part slash each q (over refl) (halts_at_nothing refl)) refl

pub one_chain : {A : Type 0} (Part : Tokens → A → Tokens → Type 0) → ((ts s : Tokens) (x : A) → Part ts x s → Resumes Part s → OnlyEntry Part Part ts x s) → {ts : Tokens} {all : List A} → Chained Part ts all → Sole (Chained Part) ts all
one_chain Part each {ts} (none is nothing) = subst (λ all. Sole (Chained Part) ts all) (sym nothing) (sole_none (ap length is))
one_chain Part each {ts} (some {s = s} {x = x} filled part c is) =
    subst (λ all. Sole (Chained Part) ts all) (sym is) (sole_some filled (each _ s x part (resumes c)) (one_chain Part each c))

pub one_sequence : {A : Type 0} (First Part : Tokens → A → Tokens → Type 0) → ((ts s : Tokens) (x : A) → First ts x s → Resumes Part s → OnlyEntry First Part ts x s) → ((ts s : Tokens) (x : A) → Part ts x s → Resumes Part s → OnlyEntry Part Part ts x s) → {ts : Tokens} {all : List A} → Sequence First Part ts all → Sole (Sequence First Part) ts all
one_sequence First Part first each {ts} q =
    let chain = one_chain Part each q.chained in
    sole_sequence (first ts q.rest q.x q.first (resumes q.chained)) (record { others = q.others; is = q.is; chained = q.chained; only = λ more c. chain.only more c })

-- ---- names and expressions

name_same : {ts s z : Tokens} {name other : List ℕ} → IsName ts name s → IsName ts other z → (other ≡ name) × (z ≡ s)
name_same n m = let fronts = sym n.front ∙ m.front in (cc, cc)

pub one_name : {ts s : Tokens} {name : List ℕ} → IsName ts name s → OnlyFront IsName ts name s
one_name n = record { part = n; shorter = next_shorter (name_next n); only = λ other z m. name_same n m }

pub only_expression : Readings → {ts s : Tokens} {x : Expr} → ReadsExpression ts x s → Settles s → (y : Expr) (z : Tokens) → ReadsExpression ts y z → Settles z → (y ≡ x) × (z ≡ s)
only_expression laws {ts} {s} {x} d settles y z e also = laws.settled ts z s y x e also d settles

pub one_expression : Readings → (ts s : Tokens) (x : Expr) → ReadsExpression ts x s → Follows false s → OnlyPart ReadsExpression false ts x s
one_expression laws ts s x d f = record {
  part = d;
  shorter = laws.taken ts s x d;
  only = λ y z e g. only_expression laws d (settles_follows f) y z e (settles_follows g);
}

not_opened : {A : Type 0} {Part : Tokens → A → Tokens → Type 0} {slash : Bool} {ts : Tokens} → Follows slash ts → NoFront (Parenthesized Part) ts
not_opened f = record { not = λ all z q. not_open f q.opens }

pub one_variable : Readings → (ts s : Tokens) (x : Expr) → IsVariable ts x s → Follows true s → OnlyPart IsVariable true ts x s
one_variable laws ts s x (plain n is) f = subst (λ x. OnlyPart IsVariable true ts x s) (sym is) (is_bare (one_name n) (not_opened f))
one_variable laws ts s x (element n l is) f = subst (λ x. OnlyPart IsVariable true ts x s) (sym is) (is_element (one_name n) (one_enclosed ReadsExpression false (one_expression laws) l))
