-- Lists between parentheses, and lists that are all of the tokens.
use Rattle.std.proofs.Common.{◌≡◌, ◌<◌, Bool, List, [], length, ap, subst, refl, arith}
use Rattle.f77_expr.specs.declared.token.Kind.TheVariants as k
use Rattle.f77_expr.specs.Kinds.{Tokens, IsNext}
use Rattle.form_parts.specs.Listed.{Listed, Parenthesized, Whole}
use Rattle.form_parts.specs.Only.{NotNext, over, close, OnlyListed, NoList, OnlyFront, NoFront, Sole, Never}
use Rattle.form_parts.proofs.NextToken.{next_shorter, same_rest, nil_of}
use Rattle.form_parts.proofs.Lists.{halts_at_nothing, halts_at_close}

only_enclosed : {A : Type 0} {Part : Tokens → A → Tokens → Type 0} {slash : Bool} {ts inside behind s z : Tokens} {all others : List A} → IsNext ts k.Open inside → OnlyListed Part slash inside all behind → IsNext behind k.Close s → Parenthesized Part ts others z → (others ≡ all) × (z ≡ s)
only_enclosed {Part = Part} {s = s} {z = z} {others = others} n l m q =
    let list = subst (λ w. Listed Part w others q.behind) (same_rest n q.opens) q.listed in
    let same = l.only others q.behind list (close z q.closes) (halts_at_close q.closes) in
    (same.0, same_rest m (subst (λ w. IsNext w k.Close z) same.1 q.closes))

pub front_enclosed : {A : Type 0} {Part : Tokens → A → Tokens → Type 0} {slash : Bool} {ts inside behind s : Tokens} {all : List A} → IsNext ts k.Open inside → OnlyListed Part slash inside all behind → IsNext behind k.Close s → OnlyFront (Parenthesized Part) ts all s
front_enclosed {inside = inside} {behind = behind} n l m = record {
  part = record { inside = inside; behind = behind; opens = n; listed = l.listed; closes = m };
  shorter = omega (arith, next_shorter n, l.shorter, next_shorter m);
  only = λ others z q. only_enclosed n l m q;
}

pub not_opened : {A : Type 0} {Part : Tokens → A → Tokens → Type 0} {ts : Tokens} → NotNext ts k.Open → NoFront (Parenthesized Part) ts
not_opened n = record { not = λ others z q. n.not _ q.opens }

pub no_list_inside : {A : Type 0} {Part : Tokens → A → Tokens → Type 0} {slash : Bool} {ts inside : Tokens} → IsNext ts k.Open inside → NoList Part slash inside → NoFront (Parenthesized Part) ts
no_list_inside {Part = Part} n l = record { not = λ others z q. l.not others q.behind (subst (λ w. Listed Part w others q.behind) (same_rest n q.opens) q.listed) (close z q.closes) }

not_closed_here : {A : Type 0} {Part : Tokens → A → Tokens → Type 0} {slash : Bool} {ts inside behind z : Tokens} {all others : List A} → IsNext ts k.Open inside → OnlyListed Part slash inside all behind → NotNext behind k.Close → Parenthesized Part ts others z → ⊥
not_closed_here {Part = Part} {z = z} {others = others} n l m q =
    let list = subst (λ w. Listed Part w others q.behind) (same_rest n q.opens) q.listed in
    let same = l.only others q.behind list (close z q.closes) (halts_at_close q.closes) in
    m.not z (subst (λ w. IsNext w k.Close z) same.1 q.closes)

pub not_closed : {A : Type 0} {Part : Tokens → A → Tokens → Type 0} {slash : Bool} {ts inside behind : Tokens} {all : List A} → IsNext ts k.Open inside → OnlyListed Part slash inside all behind → NotNext behind k.Close → NoFront (Parenthesized Part) ts
not_closed n l m = record { not = λ others z q. not_closed_here n l m q }

-- ---- all of the tokens

pub sole_whole : {A : Type 0} {Part : Tokens → A → Tokens → Type 0} {slash : Bool} {ts rest : Tokens} {all : List A} → OnlyListed Part slash ts all rest → length rest ≡ 0 → Sole (Whole Part) ts all
sole_whole {Part = Part} {ts = ts} {all = all} l empty =
    let end = nil_of _ empty in
    record {
      is = subst (λ w. Listed Part ts all w) end l.listed;
      only = λ others q. (l.only others [] q (over refl) (halts_at_nothing refl)).0;
    }

pub never_whole : {A : Type 0} {Part : Tokens → A → Tokens → Type 0} {slash : Bool} {ts : Tokens} → NoList Part slash ts → Never (Whole Part) ts
never_whole l = record { not = λ others q. l.not others [] q (over refl) }

pub more_than_whole : {A : Type 0} {Part : Tokens → A → Tokens → Type 0} {slash : Bool} {ts rest : Tokens} {all : List A} → OnlyListed Part slash ts all rest → 0 < length rest → Never (Whole Part) ts
more_than_whole l some = record { not = λ others q. let end = (l.only others [] q (over refl) (halts_at_nothing refl)).1 in omega (arith, ap length end, some) }
