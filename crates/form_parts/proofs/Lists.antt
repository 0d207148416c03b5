-- Lists are unique where their parts are.
use Rattle.std.proofs.Common.{◌≡◌, Bool, List, [], ◌∷◌, ap, sym, ◌∙◌, subst, refl, arith}
use Rattle.f77_expr.specs.declared.token.Kind.TheVariants as k
use Rattle.f77_expr.specs.Kinds.{Tokens, IsNext}
use Rattle.form_parts.specs.Listed.{Listed, last, more}
use Rattle.form_parts.specs.Only.{NotNext, Follows, comma, OnlyPart, NoPart, Halts, Tail, stop, go, OnlyTail, OnlyListed, NoList}
use Rattle.form_parts.proofs.NextToken.{next_shorter, same_kind, same_rest, none_next}

-- the first part of a list, and how it goes on
pub record Begins {A : Type 0} (Part : Tokens → A → Tokens → Type 0) (slash : Bool) (ts : Tokens) (all : List A) (s : Tokens) : Type 0 where
  pub x : A
  pub rest : Tokens
  pub others : List A
  pub part : Part ts x rest
  pub follows : Follows slash rest
  pub is : all ≡ x ∷ others
  pub tail : Tail Part rest others s

pub begins : {A : Type 0} {Part : Tokens → A → Tokens → Type 0} {slash : Bool} {ts s : Tokens} {all : List A} → Listed Part ts all s → Follows slash s → Begins Part slash ts all s
begins {s = s} (last {x = x} part is) f = record { x = x; rest = s; others = []; part = part; follows = f; is = is; tail = stop refl refl }
begins (more {rest = rest} {x = x} {others = others} part n tail is) f = record { x = x; rest = rest; others = others; part = part; follows = comma _ n; is = is; tail = go n tail }

with_tail : {A : Type 0} {Part : Tokens → A → Tokens → Type 0} {ts rest s : Tokens} {x : A} {others : List A} → Part ts x rest → Tail Part rest others s → Listed Part ts (x ∷ others) s
with_tail {Part = Part} {ts = ts} {x = x} part (stop none is) = last (subst (λ z. Part ts x z) (sym is) part) (ap (λ all. x ∷ all) none)
with_tail part (go n tail) = more part n tail refl

only_begins : {A : Type 0} {Part : Tokens → A → Tokens → Type 0} {slash : Bool} {ts rest s z : Tokens} {x : A} {others all : List A} → OnlyPart Part slash ts x rest → OnlyTail Part slash rest others s → Begins Part slash ts all z → Follows slash z → Halts Part z → (all ≡ x ∷ others) × (z ≡ s)
only_begins {Part = Part} {z = z} {x = x} p t b f h =
    let same = p.only b.x b.rest b.part b.follows in
    let rests = t.only b.others z (subst (λ w. Tail Part w b.others z) same.1 b.tail) f h in
    (b.is ∙ (ap (λ y. y ∷ b.others) same.0 ∙ ap (λ all. x ∷ all) rests.0), rests.1)

pub only_list : {A : Type 0} {Part : Tokens → A → Tokens → Type 0} {slash : Bool} {ts rest s : Tokens} {x : A} {others : List A} → OnlyPart Part slash ts x rest → OnlyTail Part slash rest others s → OnlyListed Part slash ts (x ∷ others) s
only_list p t = record {
  listed = with_tail p.part t.tail;
  shorter = omega (arith, p.shorter, t.shorter);
  only = λ all z l f h. only_begins p t (begins l f) f h;
}

pub no_list : {A : Type 0} {Part : Tokens → A → Tokens → Type 0} {slash : Bool} {ts : Tokens} → NoPart Part slash ts → NoList Part slash ts
no_list n = record { not = λ all z l f. let b = begins l f in n.not b.x b.rest b.part b.follows }

pub tail_only : {A : Type 0} {Part : Tokens → A → Tokens → Type 0} {slash : Bool} {ts rest s z : Tokens} {all others : List A} (behind : Tokens) (x : A) → IsNext ts k.Comma rest → Part rest x behind → OnlyListed Part slash rest all s → Tail Part ts others z → Follows slash z → Halts Part z → (others ≡ all) × (z ≡ s)
tail_only {rest = rest} behind x n part l (stop none is) f h = absurd (h.not rest behind x (subst (λ w. IsNext w k.Comma rest) (sym is) n) part)
tail_only {Part = Part} {z = z} {others = others} behind x n part l (go m list) f h = l.only others z (subst (λ w. Listed Part w others z) (same_rest n m) list) f h

-- behind a comma another part, and what follows it
pub tail_goes : {A : Type 0} {Part : Tokens → A → Tokens → Type 0} {slash : Bool} {ts rest behind s : Tokens} {x : A} {others : List A} → IsNext ts k.Comma rest → OnlyPart Part slash rest x behind → OnlyTail Part slash behind others s → OnlyTail Part slash ts (x ∷ others) s
tail_goes n p t =
    let l = only_list p t in
    record {
      tail = go n l.listed;
      shorter = omega (arith, next_shorter n, l.shorter);
      only = λ others z tail f h. tail_only _ _ n p.part l tail f h;
    }

stops_only : {A : Type 0} {Part : Tokens → A → Tokens → Type 0} {ts z : Tokens} {others : List A} → NotNext ts k.Comma → Tail Part ts others z → (others ≡ []) × (z ≡ ts)
stops_only n (stop none is) = (none, is)
stops_only n (go m list) = absurd (n.not _ m)

pub tail_stops : {A : Type 0} {Part : Tokens → A → Tokens → Type 0} {slash : Bool} {ts : Tokens} → NotNext ts k.Comma → OnlyTail Part slash ts [] ts
tail_stops n = record {
  tail = stop refl refl;
  shorter = omega arith;
  only = λ others z tail f h. stops_only n tail;
}

ends_only : {A : Type 0} {Part : Tokens → A → Tokens → Type 0} {slash : Bool} {ts rest z : Tokens} {others : List A} → IsNext ts k.Comma rest → NoPart Part slash rest → Tail Part ts others z → Follows slash z → (others ≡ []) × (z ≡ ts)
ends_only n p (stop none is) f = (none, is)
ends_only {Part = Part} {z = z} {others = others} n p (go m list) f =
    let b = begins (subst (λ w. Listed Part w others z) (same_rest n m) list) f in
    absurd (p.not b.x b.rest b.part b.follows)

pub tail_ends : {A : Type 0} {Part : Tokens → A → Tokens → Type 0} {slash : Bool} {ts rest : Tokens} → IsNext ts k.Comma rest → NoPart Part slash rest → OnlyTail Part slash ts [] ts
tail_ends n p = record {
  tail = stop refl refl;
  shorter = omega arith;
  only = λ others z tail f h. ends_only n p tail f;
}

-- ---- where a list ends

pub halts_at_nothing : {A : Type 0} {Part : Tokens → A → Tokens → Type 0} {ts : Tokens} → ts ≡ [] → Halts Part ts
halts_at_nothing is = record { not = λ rest s x n part. none_next is n }

pub halts_at_close : {A : Type 0} {Part : Tokens → A → Tokens → Type 0} {ts rest : Tokens} → IsNext ts k.Close rest → Halts Part ts
halts_at_close m = record { not = λ rest s x n part. let kinds = same_kind n m in cc }

pub halts_at_slash : {A : Type 0} {Part : Tokens → A → Tokens → Type 0} {ts rest : Tokens} → IsNext ts k.Slash rest → Halts Part ts
halts_at_slash m = record { not = λ rest s x n part. let kinds = same_kind n m in cc }
