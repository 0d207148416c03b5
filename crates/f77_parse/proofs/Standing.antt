-- One more statement of a unit.
use Rattle.std.proofs.Common.{◌≡◌, ℕ, ◌+◌, ◌<◌, ◌≤◌, min, Bool, true, false, List, [], ◌∷◌, ◌++◌, length, cond, Some, None, refl, sym, ap, ◌∙◌, subst, ◌⊎◌, inl, inr, append_assoc, length-append, arith}
use Rattle.std.specs.Prelude.{sum}
use Rattle.std.specs.Bool.{MatchBool}
use Rattle.std.specs.List.{All, AllZip}
use Rattle.std.specs.declared.option.Option.{Option}
use Rattle.std.proofs.lemmas.List.Elements.{All-push}
use Rattle.std.proofs.lemmas.List.Sums.{sum_by-append}
use Rattle.f77_tree.specs.Ends.{IsNoEnd}
use Rattle.f77_tree.specs.declared.form.Form.{Form}
use Rattle.f77_tree.specs.declared.unit.Stmt.{Stmt}
use Rattle.f77_tree.specs.declared.unit.UnitKind.{UnitKind}
use Rattle.fixed_form.specs.declared.reader.Line.{Line}
use Rattle.f77_expr.specs.Laws.{PiecesAreUnique}
use Rattle.f77_expr.specs.Lexing.{Counts}
use Rattle.f77_parse.specs.declared.context.Context.{Context}
use Rattle.fault_marks.specs.declared.marks.Mark.{Mark}
use Rattle.f77_parse.specs.declared.unit.Progress.{Progress}
use Rattle.f77_parse.specs.Context.{Knows, behind}
use Rattle.fault_marks.specs.Earliest.{first_of, Earliest}
use Rattle.std.proofs.lemmas.Bool.Decides.{nat_tests}
use Rattle.fault_marks.specs.Marks.{comes_first}
use Rattle.f77_parse.specs.Limits.{CountTokens}
use Rattle.f77_parse.specs.Parsed.{IsStatement}
use Rattle.f77_parse.specs.Progress.{Among, Clean, Stands, with_statement}
use Rattle.f77_parse.specs.Shown.{KnowsForm, HasNoForm, KnowsPassing}
use Rattle.f77_parse.specs.UnitFaults as u
use Rattle.f77_parse.specs.UnitFaults.{Shows, IsAt, IsFormless, TokenFault}
use Rattle.fault_marks.proofs.Firsts.{mapped, either}
use Rattle.f77_parse.proofs.Contexts.{knows_behind, Cut, at_last, earlier, cut_of}

zip_push : {A B : Type 0} (R : A → B → Type 0) (xs : List A) (x : A) (zs : List B) (z : B) → AllZip R xs zs → R x z → AllZip R (xs ++ x ∷ []) (zs ++ z ∷ [])
zip_push R [] x [] z h r = (r, tt)
zip_push R [] x (w ∷ zs) z h r = absurd h
zip_push R (w ∷ xs) x [] z h r = absurd h
zip_push R (w ∷ xs) x (v ∷ zs) z h r = (h.0, zip_push R xs x zs z h.1 r)

-- ---- counts

counts_same : PiecesAreUnique → (text : List ℕ) (n m : ℕ) → Counts text n → Counts text m → n ≡ m
counts_same unique text n m a b = a.number ∙ (ap length (unique text a.all b.all a.pieces b.pieces) ∙ sym b.number)

all_same : PiecesAreUnique → (lines : List Line) (xs ys : List ℕ) → AllZip (λ line count. Counts line.text count) lines xs → AllZip (λ line count. Counts line.text count) lines ys → xs ≡ ys
all_same unique [] [] [] h k = refl
all_same unique [] [] (b ∷ ys) h k = absurd k
all_same unique [] (a ∷ xs) ys h k = absurd h
all_same unique (l ∷ lines) [] ys h k = absurd h
all_same unique (l ∷ lines) (a ∷ xs) [] h k = absurd k
all_same unique (l ∷ lines) (a ∷ xs) (b ∷ ys) h k = λ i. counts_same unique l.text a b h.0 k.0 i ∷ all_same unique lines xs ys h.1 k.1 i

totals_same : PiecesAreUnique → (lines : List Line) (n m : ℕ) → CountTokens lines n → CountTokens lines m → n ≡ m
totals_same unique lines n m a b = a.total ∙ (ap sum (all_same unique lines a.counts b.counts a.each b.each) ∙ sym b.total)

pub count_more : (lines : List Line) (line : Line) (n m : ℕ) → CountTokens lines n → Counts line.text m → CountTokens (lines ++ line ∷ []) (n + m)
count_more lines line n m a b = record {
  counts = a.counts ++ m ∷ [];
  each = zip_push (λ line count. Counts line.text count) lines line a.counts m a.each b;
  total = let s = sum_by-append (λ (k : ℕ). k) a.counts (m ∷ []) in omega (arith, s, a.total);
}

pub passes_told : PiecesAreUnique → (before : List Line) (line : Line) (n m tokens total : ℕ) → CountTokens before n → Counts line.text m → tokens ≡ min n 20001 → total ≡ min (tokens + m) 20001 →
    (passes : Bool) → MatchBool passes ((tokens ≤ 20000) × (20001 ≤ total)) ((tokens ≤ 20000) × (20001 ≤ total) → ⊥) → KnowsPassing before line passes
passes_told unique before line n m tokens total a b e g true h = record { earlier = n; own = m; counted = a; counts = b; within = omega (arith, h.0, e); passes = omega (arith, h.0, h.1, e, g) }
passes_told unique before line n m tokens total a b e g false h = λ p.
    let k = totals_same unique before p.earlier n p.counted a in
    let o = counts_same unique line.text p.own m p.counts b in
    let w = p.within in
    let x = p.passes in
    h (omega (arith, k, o, w, x, e, g), omega (arith, k, o, w, x, e, g))

-- ---- who shows a fault

among_more : (kind : UnitKind) (before : List Line) (line : Line) (after : List Line) (m : Mark) → Among kind before (line ∷ after) m ⊎ Shows kind before line after m → Among kind (before ++ line ∷ []) after m
among_more kind before line after m (inl a) = record {
  front = a.front;
  line = a.line;
  more = a.more ++ line ∷ [];
  cut = ap (λ ls. ls ++ line ∷ []) a.cut ∙ append_assoc a.front (a.line ∷ a.more) (line ∷ []);
  shows = subst (λ b. Shows kind a.front a.line b m) (sym (append_assoc a.more (line ∷ []) after)) a.shows;
}
among_more kind before line after m (inr s) = record { front = before; line = line; more = []; cut = refl; shows = s }

among_fewer : (kind : UnitKind) (before : List Line) (line : Line) (after : List Line) (m : Mark) → Among kind (before ++ line ∷ []) after m → Among kind before (line ∷ after) m ⊎ Shows kind before line after m
among_fewer kind before line after m a = go (cut_of before line a.front a.line a.more a.cut)
  where
    go : Cut before line a.front a.line a.more → Among kind before (line ∷ after) m ⊎ Shows kind before line after m
    go (at_last fr i n) = inr (subst (λ b. Shows kind b line after m) fr (subst (λ l. Shows kind a.front l after m) i (subst (λ b. Shows kind a.front a.line (b ++ after) m) n a.shows)))
    go (earlier more fr n) = inl (record {
      front = a.front;
      line = a.line;
      more = more;
      cut = fr;
      shows = subst (λ b. Shows kind a.front a.line b m) (append_assoc more (line ∷ []) after) (subst (λ b. Shows kind a.front a.line (b ++ after) m) n a.shows);
    })

-- ---- without a fault

one_none : (x y : Mark) (test : Bool) → cond test (Some x) (Some y) ≡ None → (Some x ≡ None) × (Some y ≡ None)
one_none x y true e = absurd (cc)
one_none x y false e = absurd (cc)

both_none : (a b : Option Mark) → first_of a b ≡ None → (a ≡ None) × (b ≡ None)
both_none None b e = (refl, e)
both_none (Some x) None e = absurd (cc)
both_none (Some x) (Some y) e = one_none x y (comes_first x y) e

-- a statement that shows nothing has a form
formed : (kind : UnitKind) (before : List Line) (line : Line) (after : List Line) → ((m : Mark) → Shows kind before line after m → ⊥) → HasNoForm after line.text → ⊥
formed kind before line after none h =
    let at : (n : ℕ) → IsAt line n 0 (record { line = line.line; number = n; limit = 0 }) = λ n. record { line_is = refl; number_is = refl; limit_is = refl } in
    let tokens : (n : ℕ) → TokenFault line.text n → ⊥ = λ n t. none (record { line = line.line; number = n; limit = 0 }) (u.by_tokens n t (at n)) in
    let formless : IsFormless after line.text = record { none = h.not; unexplained = tokens } in
    none (record { line = line.line; number = 6; limit = 0 }) (u.no_form formless (λ i. none (record { line = line.line; number = 7; limit = 0 }) (u.foreign formless i (at 7))) (at 6))

front_same : (statements : List Stmt) (s : Stmt) (front : List Stmt) (last : Stmt) → statements ++ s ∷ [] ≡ front ++ last ∷ [] → front ≡ statements
front_same statements s front last e = go (cut_of statements s front last [] e)
  where
    go : Cut statements s front last [] → front ≡ statements
    go (at_last f i n) = f
    go (earlier more f n) = let l = ap length n in absurd (omega (arith, l, length-append more (s ∷ [])))

within_still : (n : ℕ) → (20000 < n → ⊥) → n ≤ 20000
within_still n h = grind (arith, nat_tests)

kind_kept : (c : Context) (form : Option Form) → (behind c form).kind ≡ c.kind
kind_kept c None = refl
kind_kept c (Some form) = refl

clean_more : (kind : UnitKind) (before : List Line) (line : Line) (after : List Line) (n m : ℕ) (statements : List Stmt) (form : Option Form) → KnowsForm after line.text form → Counts line.text m → CountTokens before n →
    ((mark : Mark) → Shows kind before line after mark → ⊥) → Clean before (line ∷ after) n statements → Clean (before ++ line ∷ []) after (n + m) (with_statement statements line form)
clean_more kind before line after n m statements None k b a none c = absurd (formed kind before line after none k)
clean_more kind before line after n m statements (Some form) k b a none c = record {
  parsed = zip_push IsStatement before line statements (record { label = line.label; line = line.line; form = form }) c.parsed (record { label = refl; line_is = refl; form = k.is.has });
  goes_on = λ more. All-push IsNoEnd statements (record { label = line.label; line = line.line; form = form }) (c.goes_on (λ e. cc)) (λ e. more (k.is.ends e));
  closed = λ front last e. subst (All IsNoEnd) (sym (front_same statements (record { label = line.label; line = line.line; form = form }) front last e)) (c.goes_on (λ e. cc));
  within = within_still (n + m) (λ p. none (record { line = line.line; number = 37; limit = 20000 }) (u.tokens (record { earlier = n; own = m; counted = a; counts = b; within = c.within; passes = p }) (record { line_is = refl; number_is = refl; limit_is = refl })));
}

pub stands_next : (before : List Line) (line : Line) (after : List Line) (p next : Progress) (form : Option Form) (m : ℕ) (mark : Option Mark) → Stands before (line ∷ after) p → KnowsForm after line.text form → Counts line.text m →
    Earliest (Shows p.context.kind before line after) mark → next.context ≡ behind p.context form → next.tokens ≡ min (p.tokens + m) 20001 → next.fault ≡ first_of p.fault mark → next.statements ≡ with_statement p.statements line form →
    Stands (before ++ line ∷ []) after next
stands_next before line after p next form m mark s k b first c t e w = record {
  knows = subst (Knows (before ++ line ∷ [])) (sym c) (knows_behind after before line form p.context k s.knows);
  total = s.total + m;
  counted = count_more before line s.total m s.counted b;
  tokens = omega (arith, t, s.tokens);
  fault = subst (λ kind. Earliest (Among kind (before ++ line ∷ []) after) next.fault) (sym (ap (λ x. x.kind) c ∙ kind_kept p.context form))
      (subst (Earliest (Among p.context.kind (before ++ line ∷ []) after)) (sym e)
      (mapped (λ m. Among p.context.kind before (line ∷ after) m ⊎ Shows p.context.kind before line after m) (Among p.context.kind (before ++ line ∷ []) after) (first_of p.fault mark) (among_more p.context.kind before line after) (among_fewer p.context.kind before line after)
      (either (Among p.context.kind before (line ∷ after)) (Shows p.context.kind before line after) p.fault mark s.fault first)));
  clean = λ none.
      let both = both_none p.fault mark (sym e ∙ none) in
      subst (Clean (before ++ line ∷ []) after (s.total + m)) (sym w)
      (clean_more p.context.kind before line after s.total m p.statements form k b s.counted (subst (Earliest (Shows p.context.kind before line after)) both.1 first) (s.clean both.0));
}
