-- What DATA gives values to, one more.
use Rattle.std.proofs.Common.{◌≡◌, ℕ, ◌+◌, ◌<◌, ◌≤◌, Bool, true, false, ◌&&◌, ◌||◌, List, [], ◌∷◌, ◌++◌, Option, Some, None, length, take, drop, get_or, refl, ap, ap₂, sym, ◌∙◌, append_assoc, append-nil, if◌then◌else◌}
use Rattle.std.proofs.Math.Bool.{or_assoc}
use Rattle.std.proofs.lemmas.List.{take_more, drop_more, drop_all}
use Rattle.std.proofs.lemmas.List.Folds.{list_any-append}
use Rattle.std.specs.Prelude.{ℤ}
use Rattle.std.specs.List.{list_any}
use Rattle.f77_tree.specs.declared.expr.Expr.TheViews.{outs-Apply}
use Rattle.f77_tree.specs.declared.expr.Expr.{Expr}
use Rattle.f77_tree.specs.declared.unit.Stmt.{Stmt}
use Rattle.f77_tree.specs.declared.unit.Value.{Value}
use Rattle.f77_values.specs.Tables.{Name, Told}
use Rattle.f77_values.specs.Constants.{value_of}
use Rattle.f77_values.specs.Sizes.{whole}
use Rattle.check_data.specs.declared.given.Given.{Given}
use Rattle.check_data.specs.declared.given.Seen.{Seen}
use Rattle.check_data.specs.DataTwice.{meets, given_twice, subscripts, with_subscript, Past, past_with, statement_repeats}
use Rattle.check_constants.specs.Passes.{flags_from}
use Rattle.check_data.specs.Seen.{found_as, Tells, Adds}

abbrev pub behind : List ℤ → Option (List ℤ) → Option (List ℤ)
behind front None = None
behind front (Some rest) = Some (front ++ rest)

pub ruleset givings = (outs-Apply, append_assoc)

or_false : (b : Bool) → b ≡ (b || false)
or_false true = refl
or_false false = refl

or_true : (b : Bool) → true ≡ (b || true)
or_true true = refl
or_true false = refl

-- ---- subscripts

pub behind_nothing : (rest : Option (List ℤ)) → behind [] rest ≡ rest
behind_nothing None = refl
behind_nothing (Some rest) = refl

behind_more : (front : List ℤ) (n : ℤ) (rest : Option (List ℤ)) → behind (front ++ n ∷ []) rest ≡ behind front (with_subscript (Some n) rest)
behind_more front n None = refl
behind_more front n (Some rest) = ap Some (append_assoc front (n ∷ []) rest)

subscripts_at : (named : Told Value) (list : List Expr) (i : ℕ) (e : Expr) (n : Option ℤ) → i < length list → e ≡ get_or list i e → n ≡ whole (value_of named e) → subscripts named (drop i list) ≡ with_subscript n (subscripts named (drop (i + 1) list))
subscripts_at named list i e n h is v =
    ap (subscripts named) (drop_more list i e h ∙ ap (λ x. x ∷ drop (i + 1) list) (sym is))
    ∙ ap (λ x. with_subscript x (subscripts named (drop (i + 1) list))) (sym v)

pub subscript_more : (named : Told Value) (list : List Expr) (i : ℕ) (e : Expr) (front : List ℤ) (n : ℤ) (all : Option (List ℤ)) → i < length list → e ≡ get_or list i e → Some n ≡ whole (value_of named e)
    → behind front (subscripts named (drop i list)) ≡ all → behind (front ++ n ∷ []) (subscripts named (drop (i + 1) list)) ≡ all
subscript_more named list i e front n all h is v k =
    behind_more front n (subscripts named (drop (i + 1) list)) ∙ (ap (behind front) (sym (subscripts_at named list i e (Some n) h is v)) ∙ k)

without : (rest : Option (List ℤ)) → with_subscript None rest ≡ None
without None = refl
without (Some rest) = refl

pub subscript_lacks : (named : Told Value) (list : List Expr) (i : ℕ) (e : Expr) (front : List ℤ) (all : Option (List ℤ)) → i < length list → e ≡ get_or list i e → None ≡ whole (value_of named e)
    → behind front (subscripts named (drop i list)) ≡ all → None ≡ all
subscript_lacks named list i e front all h is v k =
    ap (behind front) (sym (subscripts_at named list i e None h is v ∙ without (subscripts named (drop (i + 1) list)))) ∙ k

pub subscripts_end : (named : Told Value) (list : List Expr) (i : ℕ) (front : List ℤ) (all : Option (List ℤ)) → length list ≤ i → behind front (subscripts named (drop i list)) ≡ all → Some front ≡ all
subscripts_end named list i front all h k = ap Some (sym (append-nil front)) ∙ (ap (λ es. behind front (subscripts named es)) (sym (drop_all i list h)) ∙ k)

-- ---- several

nothing_found : (part : Option (List ℤ)) (name : Name) → found_as (record { names = []; elements = [] }) name part ≡ false
nothing_found None name = refl
nothing_found (Some list) name = refl

pub tells_nothing : (seen : Seen) → seen.names ≡ [] → seen.elements ≡ [] → Tells seen []
tells_nothing seen n e g = ap₂ (λ names elements. found_as (record { names = names; elements = elements }) g.name g.subscripts) n e ∙ nothing_found g.subscripts g.name

pub ruleset nothing_seen = (tells_nothing)

pub twice_more : (before front rest : List Given) (g : Given) (twice met all : Bool) → met ≡ list_any (meets g) (before ++ front) → (twice || given_twice (before ++ front) (g ∷ rest)) ≡ all → ((twice || met) || given_twice (before ++ (front ++ g ∷ [])) rest) ≡ all
twice_more before front rest g twice met all m h =
    ap (λ b. (twice || b) || given_twice (before ++ (front ++ g ∷ [])) rest) m
    ∙ (ap (λ gs. (twice || list_any (meets g) (before ++ front)) || given_twice gs rest) (sym (append_assoc before front (g ∷ [])))
    ∙ (or_assoc twice (list_any (meets g) (before ++ front)) (given_twice ((before ++ front) ++ g ∷ []) rest) ∙ h))

pub tells_more : (before front : List Given) (g : Given) (old seen : Seen) → Tells old (before ++ front) → Adds old g seen → Tells seen (before ++ (front ++ g ∷ []))
tells_more before front g old seen t adds q =
    adds q
    ∙ (ap (λ b. b || meets q g) (t q)
    ∙ (ap (λ b. list_any (meets q) (before ++ front) || b) (or_false (meets q g))
    ∙ (sym (list_any-append (meets q) (before ++ front) (g ∷ []))
    ∙ ap (list_any (meets q)) (append_assoc before front (g ∷ [])))))

-- ---- statements

pub repeats_more : (past : Past) (s : Stmt) (rest : List Stmt) (flags all : List Bool) (twice : Bool) → twice ≡ statement_repeats past s → flags ++ flags_from past_with statement_repeats past (s ∷ rest) ≡ all → (flags ++ twice ∷ []) ++ flags_from past_with statement_repeats (past_with past s) rest ≡ all
repeats_more past s rest flags all twice e h =
    append_assoc flags (twice ∷ []) (flags_from past_with statement_repeats (past_with past s) rest)
    ∙ (ap (λ b. flags ++ b ∷ flags_from past_with statement_repeats (past_with past s) rest) e ∙ h)
