-- What is a term, and what isn't.
use Rattle.std.proofs.Common.{◌≡◌, ◌≢◌, Some, None, ℕ, ℤ, pos, negsuc, zero, suc, Bool, true, false, List, [], ◌∷◌, ◌++◌, sym, ap, ◌∙◌, refl, subst, rules, arith}
use Rattle.std.specs.Prelude.{MatchOption}
use Rattle.std.specs.declared.option.Option.{Option}
use Rattle.std.specs.List.{AllZip}
use Rattle.f77_tree.specs.declared.expr.Op.{Op}
use Rattle.f77_tree.specs.declared.expr.Expr.{Expr, the_lemmas}
use Rattle.f77_tree.specs.declared.expr.Expr.TheVariants as e
use Rattle.thin_form.specs.declared.statement.Sign.{Sign}
use Rattle.thin_form.specs.declared.statement.Addend.{Addend}
use Rattle.thin_form.specs.declared.statement.Term.{Term}
use Rattle.thin_form.specs.declared.statement.Term.TheVariants.{Integer}
use Rattle.thin_form.specs.declared.statement.Item.{Item}
use Rattle.thin_form.specs.declared.statement.Statement.{Statement}
use Rattle.thin_form.specs.Lacks.{Lacks}
use Rattle.thin_form.specs.Forms.{is_integer_name, IsAssignmentOf, IsNatural, IsTermOf, variable, integer, op_of, IsSumOf, alone, joined, IsItemOf, value as by_value, literal}
use Rattle.thin_form.proofs.Parts.{same_binary}

-- neither a name nor an integer
pub record NoTermTree (tree : Expr) : Type 0 where
  pub no_name : (name : List ℕ) → tree ≡ e.Scalar name → ⊥
  pub no_integer : (value : ℤ) → tree ≡ e.Int value → ⊥

pub no_term : (tree : Expr) → NoTermTree tree → Lacks (IsTermOf tree)
no_term tree h = record { not = go }
  where
    go : (term : Term) → IsTermOf tree term → ⊥
    go term (variable name e i t) = h.no_name name e
    go term (integer value e n t) = h.no_integer value e

pub no_sum_alone : (tree : Expr) → ((op : Op) (a b : Expr) → tree ≡ e.Binary op a b → ⊥) → Lacks (IsTermOf tree) → Lacks (λ (x : Term × List Addend). IsSumOf tree x.0 x.1)
no_sum_alone tree h none = record { not = λ x s. go x.0 x.1 s }
  where
    go : (first : Term) (more : List Addend) → IsSumOf tree first more → ⊥
    go first more (alone t e) = none.not first t
    go first more (joined {a = a} {b = b} last e s t m) = h (op_of last.sign) a b e

pub no_term_binary : (op : Op) (a b : Expr) (term : Term) → IsTermOf (e.Binary op a b) term → ⊥
no_term_binary op a b term (variable name h i t) = search (rules, the_lemmas)
no_term_binary op a b term (integer value h n t) = search (rules, the_lemmas)

-- an operator with its operands is no sum where the operator is no sign, or an operand is none
pub record SumParts (op : Op) (a b : Expr) : Type 0 where
  pub sign : Sign
  pub is : op ≡ op_of sign
  pub first : Term
  pub before : List Addend
  pub sum : IsSumOf a first before
  pub last : Term
  pub term : IsTermOf b last

pub sum_parts : (op : Op) (a b : Expr) (first : Term) (more : List Addend) → IsSumOf (e.Binary op a b) first more → SumParts op a b
sum_parts op a b first more (alone t e) = absurd (no_term_binary op a b first t)
sum_parts op a b first more (joined {before = before} last e s t m) =
    let h = same_binary e in
    record {
      sign = last.sign;
      is = h.op;
      first = first;
      before = before;
      sum = subst (λ x. IsSumOf x first before) (sym h.left) s;
      last = last.term;
      term = subst (λ x. IsTermOf x last.term) (sym h.right) t;
    }

pub no_sum_sign : (tree : Expr) (op : Op) (a b : Expr) → tree ≡ e.Binary op a b → Lacks (λ sign. op ≡ op_of sign) → Lacks (λ (x : Term × List Addend). IsSumOf tree x.0 x.1)
no_sum_sign tree op a b e none = record { not = λ x s. let h = sum_parts op a b x.0 x.1 (subst (λ t. IsSumOf t x.0 x.1) e s) in none.not h.sign h.is }

pub no_sum_before : (tree : Expr) (op : Op) (a b : Expr) → tree ≡ e.Binary op a b → Lacks (λ (x : Term × List Addend). IsSumOf a x.0 x.1) → Lacks (λ (x : Term × List Addend). IsSumOf tree x.0 x.1)
no_sum_before tree op a b e none = record { not = λ x s. let h = sum_parts op a b x.0 x.1 (subst (λ t. IsSumOf t x.0 x.1) e s) in none.not (h.first, h.before) h.sum }

pub no_sum_last : (tree : Expr) (op : Op) (a b : Expr) → tree ≡ e.Binary op a b → Lacks (IsTermOf b) → Lacks (λ (x : Term × List Addend). IsSumOf tree x.0 x.1)
no_sum_last tree op a b e none = record { not = λ x s. let h = sum_parts op a b x.0 x.1 (subst (λ t. IsSumOf t x.0 x.1) e s) in none.not h.last h.term }

pub sum_joined : (tree a b : Expr) (op : Op) (sign : Sign) (first : Term) (before : List Addend) (term : Term) → tree ≡ e.Binary op a b → op ≡ op_of sign → IsSumOf a first before → IsTermOf b term → IsSumOf tree first (before ++ record { sign = sign; term = term } ∷ [])
sum_joined tree a b op sign first before term h o s t = joined (record { sign = sign; term = term }) (h ∙ ap (λ o. e.Binary o a b) o) s t refl

pub no_item_literal : (tree : Expr) → ((bytes : List ℕ) → tree ≡ e.Text bytes → ⊥) → Lacks (IsTermOf tree) → Lacks (IsItemOf tree)
no_item_literal tree other none = record { not = go }
  where
    go : (item : Item) → IsItemOf tree item → ⊥
    go item (by_value term t h) = none.not term t
    go item (literal bytes e i) = other bytes e

no_integer_term : (tree : Expr) (n : ℤ) → tree ≡ e.Int n → Lacks (λ k. n ≡ pos k) → Lacks (IsTermOf tree)
no_integer_term tree n h none = record { not = go }
  where
    go : (term : Term) → IsTermOf tree term → ⊥
    go term (variable name f i t) = let z : e.Int n ≡ e.Scalar name = sym h ∙ f in search (rules, the_lemmas)
    go term (integer m f k t) = let z : e.Int n ≡ e.Int m = sym h ∙ f in let same : n ≡ m = search (rules, the_lemmas) in none.not k.n (same ∙ k.is)

pub integer_found : (tree : Expr) (n : ℤ) (found : Option Term) → tree ≡ e.Int n → MatchOption found (Lacks (λ k. n ≡ pos k)) (λ term. IsNatural n × (term ≡ Integer n)) → MatchOption found (Lacks (IsTermOf tree)) (λ term. IsTermOf tree term)
integer_found tree n None h f = no_integer_term tree n h f
integer_found tree n (Some term) h f = integer n h f.0 f.1

-- ---- assignments

pub no_assignment_name : (target value : Expr) (name : List ℕ) → target ≡ e.Scalar name → is_integer_name name ≡ false → Lacks (IsAssignmentOf target value)
no_assignment_name target value name h none = record { not = go }
  where
    go : (statement : Statement) → IsAssignmentOf target value statement → ⊥
    go statement a =
        let z : e.Scalar name ≡ e.Scalar a.name = sym h ∙ a.variable in
        let same : name ≡ a.name = search (rules, the_lemmas) in
        let w : false ≡ true = sym none ∙ (ap is_integer_name same ∙ a.integer) in
        cc

pub no_assignment_sum : (target value : Expr) → Lacks (λ (x : Term × List Addend). IsSumOf value x.0 x.1) → Lacks (IsAssignmentOf target value)
no_assignment_sum target value none = record { not = λ statement a. none.not (a.first, a.more) a.sum }
