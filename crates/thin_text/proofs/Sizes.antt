-- Thin statements are no larger than their texts, and no more than their tokens.
use Rattle.std.proofs.Common.{ℕ, suc, ◌≤◌, List, [], ◌∷◌, length, sum, sum_by, ap, subst, arith}
use Rattle.std.specs.List.{All, AllZip}
use Rattle.std.proofs.lemmas.List.Elements.{All-nil, All-cons}
use Rattle.std.proofs.lemmas.List.Sums.{sum_by-cons}
use Rattle.fixed_form.specs.declared.reader.Line.{Line}
use Rattle.fixed_form.specs.declared.reader.UnitText.{UnitText}
use Rattle.f77_expr.specs.Lexing.{Pieces, done, spelled, strange, Counts}
use Rattle.f77_parse.specs.Limits.{CountTokens}
use Rattle.f77_parse.specs.Statements.{IsShortText}
use Rattle.thin_form.specs.declared.statement.Statement.{Statement}
use Rattle.thin_form.specs.declared.statement.Statement.TheVariants.{Assign, Print, End}
use Rattle.thin_form.specs.Programs.{size_of, IsShort}
use Rattle.thin_text.specs.Thin.{standing, IsThinLine, IsThin, unit_bytes, text_bytes}
use Rattle.thin_text.proofs.FormSizes.{statement_text}

filled_count : (text : List ℕ) (n : ℕ) → Counts text n → 1 ≤ length text → 1 ≤ n
filled_count text n c h = go c.pieces
  where
    go : Pieces text c.all → 1 ≤ n
    go (done e a) = let l = ap length e in absurd (omega (arith, l, h))
    go (spelled f p a) = let l = ap length a in let m = c.number in omega (arith, l, m)
    go (strange b cut n p a) = let l = ap length a in let m = c.number in omega (arith, l, m)

filled_size : (s : Statement) → 1 ≤ size_of s
filled_size (Assign target first more) = omega arith
filled_size (Print items) = omega arith
filled_size End = omega arith

all_head : {X : Type 0} (P : X → Type 0) (x : X) (xs : List X) → All P (x ∷ xs) → P x
all_head P x xs h = h 0 x (omega arith)

all_rest : {X : Type 0} (P : X → Type 0) (x : X) (xs : List X) → All P (x ∷ xs) → All P xs
all_rest P x xs h = λ k d l. h (suc k) d (omega arith)

size_of_lines : (lines : List Line) (body : List Statement) → AllZip IsThinLine (standing lines) body → sum_by size_of body ≤ sum_by (λ line. length line.text) lines
size_of_lines [] [] z = omega arith
size_of_lines [] (x ∷ body) z = absurd z
size_of_lines (l ∷ lines) [] z = absurd z
size_of_lines (l ∷ lines) (x ∷ body) z =
    let rest = size_of_lines lines body z.1 in
    let own = statement_text l.text z.0.form x z.0.has.has z.0.thin in
    let a = sum_by-cons size_of x body in
    let b = sum_by-cons (λ line. length line.text) l lines in
    omega (arith, a, b, own, rest)

few_of_lines : (lines : List Line) (body : List Statement) (counts : List ℕ) → AllZip IsThinLine (standing lines) body → AllZip (λ line count. Counts line.text count) lines counts → length body ≤ sum counts
few_of_lines [] [] counts z c = omega arith
few_of_lines [] (x ∷ body) counts z c = absurd z
few_of_lines (l ∷ lines) [] counts z c = absurd z
few_of_lines (l ∷ lines) (x ∷ body) [] z c = absurd c
few_of_lines (l ∷ lines) (x ∷ body) (k ∷ counts) z c =
    let rest = few_of_lines lines body counts z.1 c.1 in
    let own = statement_text l.text z.0.form x z.0.has.has z.0.thin in
    let some = filled_size x in
    let one = filled_count l.text k c.0 (omega (arith, own, some)) in
    let d = sum_by-cons (λ n. n) k counts in
    omega (arith, d, one, rest)

short_lines : (lines : List Line) (body : List Statement) → AllZip IsThinLine (standing lines) body → All IsShortText lines → All IsShort body
short_lines [] [] z s = All-nil IsShort
short_lines [] (x ∷ body) z s = absurd z
short_lines (l ∷ lines) [] z s = absurd z
short_lines (l ∷ lines) (x ∷ body) z s =
    let own = statement_text l.text z.0.form x z.0.has.has z.0.thin in
    let long = all_head IsShortText l lines s in
    All-cons IsShort x body (omega (arith, own, long)) (short_lines lines body z.1 (all_rest IsShortText l lines s))

pub size : (units : List UnitText) (body : List Statement) → IsThin units body → sum_by size_of body ≤ text_bytes units
unfolding text_bytes
size units body h =
    let p = size_of_lines h.unit.statements body h.statements in
    let q = ap (sum_by unit_bytes) h.alone in
    omega (arith, p, q)

pub few : (units : List UnitText) (body : List Statement) (h : IsThin units body) (n : ℕ) → CountTokens h.unit.statements n → length body ≤ n
few units body h n c = let p = few_of_lines h.unit.statements body c.counts h.statements c.each in let q = c.total in omega (arith, p, q)

pub short : (units : List UnitText) (body : List Statement) → IsThin units body → All (λ u. All IsShortText u.statements) units → All IsShort body
short units body h s = short_lines h.unit.statements body h.statements (all_head (λ u. All IsShortText u.statements) h.unit [] (subst (All (λ u. All IsShortText u.statements)) h.alone s))
