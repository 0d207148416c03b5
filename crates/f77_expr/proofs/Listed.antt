-- Lists of expressions.
use Rattle.std.proofs.Common.{List, [], ◌∷◌, subst, refl, arith}
use Rattle.f77_tree.specs.declared.expr.Expr.{Expr}
use Rattle.f77_expr.specs.declared.token.Kind.TheVariants as k
use Rattle.f77_expr.specs.declared.token.Rule.TheVariants as r
use Rattle.f77_expr.specs.Kinds.{Tokens, IsNext}
use Rattle.f77_expr.specs.Grammar.{Lists, none, some, Items, last, more}
use Rattle.f77_expr.specs.Best.{Best, Fails, NotNext, FirstList, FirstItems, NoList, NoItems}
use Rattle.f77_expr.proofs.NextToken.{same_kind, same_rest}
use Rattle.f77_expr.proofs.Shorter.{next_length}
use Rattle.f77_expr.proofs.Primaries.{closed}

pub empty_list : {ts s : Tokens} → IsNext ts k.Close s → FirstList ts [] s
empty_list n = record { lists = none n refl; shorter = omega (arith, next_length n) }

pub filled_list : {ts s : Tokens} {all : List Expr} → FirstItems ts all s → FirstList ts all s
filled_list found = record { lists = some found.items; shorter = found.shorter }

not_items : {ts z : Tokens} {others : List Expr} → NotNext ts k.Close → NoItems ts → Lists ts others z → ⊥
not_items filled fails (none m eq) = filled.not _ m
not_items filled fails (some i) = fails.not _ _ i

pub no_items : {ts : Tokens} → NotNext ts k.Close → NoItems ts → NoList ts
no_items filled fails = record { not = λ others z l. not_items filled fails l }

pub last_item : {ts rest s : Tokens} {x : Expr} → Best r.Equivalence ts x rest → IsNext rest k.Close s → FirstItems ts (x ∷ []) s
last_item best n = record { items = last best.reads n refl; shorter = omega (arith, best.shorter, next_length n) }

pub more_items : {ts rest after s : Tokens} {x : Expr} {all : List Expr} → Best r.Equivalence ts x rest → IsNext rest k.Comma after → FirstItems after all s → FirstItems ts (x ∷ all) s
more_items best n found = record {
  items = more best.reads n found.items refl;
  shorter = omega (arith, best.shorter, next_length n, found.shorter);
}

not_last : {ts z : Tokens} {others : List Expr} → Fails r.Equivalence ts → Items ts others z → ⊥
not_last fails (last d m eq) = fails.not _ _ d
not_last fails (more d m i eq) = fails.not _ _ d

pub no_item : {ts : Tokens} → Fails r.Equivalence ts → NoItems ts
no_item fails = record { not = λ others z i. not_last fails i }

not_ended : {ts rest z : Tokens} {x : Expr} {others : List Expr} → Best r.Equivalence ts x rest → NotNext rest k.Close → NotNext rest k.Comma → Items ts others z → ⊥
not_ended {z = z} best no_end no_comma (last d m eq) = no_end.not z (subst (λ ts. IsNext ts k.Close z) (closed best refl d m).1 m)
not_ended best no_end no_comma (more {after = after} d m i eq) = no_comma.not after (subst (λ ts. IsNext ts k.Comma after) (closed best refl d m).1 m)

pub no_end : {ts rest : Tokens} {x : Expr} → Best r.Equivalence ts x rest → NotNext rest k.Close → NotNext rest k.Comma → NoItems ts
no_end best closes commas = record { not = λ others z i. not_ended best closes commas i }

not_after : {ts rest after z : Tokens} {x : Expr} {others : List Expr} → Best r.Equivalence ts x rest → IsNext rest k.Comma after → NoItems after → Items ts others z → ⊥
not_after {z = z} best n fails (last d m eq) =
    let same = closed best refl d m in
    let kinds = same_kind n (subst (λ ts. IsNext ts k.Close z) same.1 m) in cc
not_after {z = z} best n fails (more {after = after'} {others = others'} d m i eq) =
    let same = closed best refl d m in
    fails.not others' z (subst (λ ts. Items ts others' z) (same_rest n (subst (λ ts. IsNext ts k.Comma after') same.1 m)) i)

pub no_after : {ts rest after : Tokens} {x : Expr} → Best r.Equivalence ts x rest → IsNext rest k.Comma after → NoItems after → NoItems ts
no_after best n fails = record { not = λ others z i. not_after best n fails i }
