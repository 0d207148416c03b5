-- The steps of terms do what the terms do.
use Rattle.std.proofs.Common.{◌≡◌, ℕ, suc, List, [], ◌∷◌, ◌++◌, Option, Some, None, refl, sym, ap, ◌∙◌, append-nil, flat_map}
use Rattle.run_model.specs.Storage.{Interval}
use Rattle.run_model.specs.Acts.{Act, Done, Fail, Stuck, and_then}
use Rattle.f77_semantics.specs.Program.{Term, Literal, Text, Variable, Element, Whole, Reference, Apply, Paren, Negative, Plus, Not, Binary, NoTerm, Terms, End, ◌and◌}
use Rattle.f77_semantics.specs.declared.storage.Array.{Array}
use Rattle.f77_semantics.specs.Expressions.{Frame, value, values, actuals, fetch, scalar, element, at, sequence}
use Rattle.f77_semantics.specs.Statements.{target, items, read_all}
use Rattle.f77_tree.specs.declared.unit.Ty.{Ty}
use Rattle.f77_tree.specs.declared.unit.Value.{Value}
use Rattle.interp_code.specs.Steps.{Step, Load, Operands, Operand, Item, Place, Passed, Mark, onto, passed_onto, operands_onto, items_above, passed_above, said, shown, steps, step, with_element, push_item, push}
use Rattle.interp_code.specs.Code.{code, codes, passes, aim, shows, reads}
use Rattle.interp_code.proofs.Acts.{assoc, later}

above : (vs : List Value) (s : Operands) (acc : List Value) → items_above (onto vs s) acc ≡ items_above s (vs ++ acc)
above [] s acc = refl
above (v ∷ vs) s acc = above vs (Item v ∷ s) acc

pub items_back : (vs : List Value) (s : Operands) → items_above (onto vs (Mark ∷ s)) [] ≡ Some (vs, s)
items_back vs s = above vs (Mark ∷ s) [] ∙ ap (λ xs. Some (xs, s)) (append-nil vs)

passed : (ds : List Interval) (s : Operands) (acc : List Interval) → passed_above (passed_onto ds s) acc ≡ passed_above s (ds ++ acc)
passed [] s acc = refl
passed (d ∷ ds) s acc = passed ds (Passed d ∷ s) acc

pub passed_back : (ds : List Interval) (s : Operands) → passed_above (passed_onto ds (Mark ∷ s)) [] ≡ Some (ds, s)
passed_back ds s = passed ds (Mark ∷ s) [] ∙ ap (λ xs. Some (xs, s)) (append-nil ds)

mutual
  pub code_does : (f : Frame) (t : Term) (cs : List Step) (s : Operands) → steps f (code t cs) s ≡ and_then (value f t) (λ v. steps f cs (Item v ∷ s))
  code_does f (Literal v) cs s = refl
  code_does f (Text bs) cs s = refl
  code_does f (Variable ty b) cs s = assoc (fetch ty (scalar f b)) (push_item s) (steps f cs)
  code_does f (Element ty a subscripts) cs s = simp (codes_does f subscripts, items_back, assoc)
  code_does f (Whole a) cs s = refl
  code_does f (Reference site es) cs s = simp (passes_does f site 0 es, passed_back, assoc)
  code_does f (Apply i es) cs s = simp (codes_does f es, items_back, assoc)
  code_does f (Paren e) cs s = code_does f e cs s
  code_does f (Negative e) cs s = simp (code_does f e, assoc)
  code_does f (Plus e) cs s = simp (code_does f e, assoc)
  code_does f (Not e) cs s = simp (code_does f e, assoc)
  code_does f (Binary op a b) cs s = simp (code_does f a, code_does f b, assoc)
  code_does f NoTerm cs s = refl

  pub codes_does : (f : Frame) (ts : Terms) (cs : List Step) (s : Operands) → steps f (codes ts cs) s ≡ and_then (values f ts) (λ vs. steps f cs (onto vs s))
  codes_does f End cs s = refl
  codes_does f (e and es) cs s = simp (code_does f e, codes_does f es, assoc)

  pub passes_does : (f : Frame) (site position : ℕ) (ts : Terms) (cs : List Step) (s : Operands) → steps f (passes site position ts cs) s ≡ and_then (actuals f site position ts) (λ ds. steps f cs (passed_onto ds s))
  passes_does f i j End cs s = refl
  passes_does f i j (Variable ty b and es) cs s = simp (passes_does f i (suc j) es, assoc)
  passes_does f i j (Whole a and es) cs s = simp (passes_does f i (suc j) es, assoc)
  passes_does f i j (Element ty a subscripts and es) cs s = simp (codes_does f subscripts, items_back, passes_does f i (suc j) es, assoc)
  passes_does f i j (e and es) cs s = simp (code_does f e, passes_does f i (suc j) es, assoc)

pub aim_does : (f : Frame) (t : Term) (cs : List Step) (s : Operands) → steps f (aim t cs) s ≡ and_then (target f t) (λ l. steps f cs (Place l ∷ s))
aim_does f (Variable ty b) cs s = refl
aim_does f (Element ty a subscripts) cs s = simp (codes_does f subscripts, items_back, assoc)
aim_does f _ cs s = refl

pub reads_does : (f : Frame) (ts : Terms) (cs : List Step) (s : Operands) → steps f (reads ts cs) s ≡ and_then (read_all f ts) (λ _. steps f cs s)
reads_does f End cs s = refl
reads_does f (t and ts) cs s = simp (aim_does f t, reads_does f ts, assoc)

item_shown : (f : Frame) (a : Act Value) (ts : Terms) (cs : List Step) (s : Operands)
    → ((t : Operands) → steps f (shows ts cs) t ≡ and_then (shown f ts) (λ os. steps f cs (operands_onto os t)))
    → and_then a (λ x. steps f (shows ts cs) (Item x ∷ s)) ≡ and_then (and_then a (λ x. and_then (shown f ts) (λ os. Done (Item x ∷ os)))) (λ os. steps f cs (operands_onto os s))
item_shown f a ts cs s others = simp (others, assoc)

pub shows_does : (f : Frame) (ts : Terms) (cs : List Step) (s : Operands) → steps f (shows ts cs) s ≡ and_then (shown f ts) (λ os. steps f cs (operands_onto os s))
shows_does f End cs s = refl
shows_does f (Text bs and ts) cs s = simp (shows_does f ts, assoc)
shows_does f (e and ts) cs s = code_does f e (shows ts cs) s ∙ item_shown f (value f e) ts cs s (shows_does f ts cs)

pub shown_says : (f : Frame) (ts : Terms) → items f ts ≡ and_then (shown f ts) (λ os. Done (flat_map said os))
shown_says f End = refl
shown_says f (Text bs and ts) = simp (shown_says f ts, assoc)
shown_says f (e and ts) = simp (shown_says f ts, assoc)
