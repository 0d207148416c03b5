-- What the statements of a unit do that thin statements are looked up to: what thin statements do.
use Rattle.std.proofs.Common.{◌≡◌, ℕ, suc, ◌+◌, add-zero, List, [], ◌∷◌, ◌++◌, Option, Some, None, cond, ◌&&◌, nat_eq, ℤ, map, flat_map, fold, refl, sym, ap, ◌∙◌, subst, append_assoc}
use Rattle.std.specs.Fmt.{signed_decimal}
use Rattle.std.proofs.lemmas.Cmp.{nat_list_eq_equiv}
use Rattle.run_model.specs.Storage.{Name, Value as Stored, Integer as Number, Logical, Local, put_cell}
use Rattle.run_model.specs.Acts.{World, Act, Done, Say, Handler, and_then, play, with_cell, no_calls}
use Rattle.run_model.specs.Turns.{After, Again, Result}
use Rattle.f77_tree.specs.declared.unit.Ty.TheVariants as types
use Rattle.f77_tree.specs.declared.unit.Value.{Value}
use Rattle.f77_tree.specs.declared.unit.Value.TheVariants as values
use Rattle.f77_flow.specs.Graph.{Point, At}
use Rattle.f77_semantics.specs.Program as program
use Rattle.f77_semantics.specs.Program.{Term, Terms, Routine}
use Rattle.f77_semantics.specs.declared.storage.Base.TheVariants.{Own}
use Rattle.f77_semantics.specs.Values.{seen, operated}
use Rattle.f77_semantics.specs.Expressions.{Frame, typed, scalar, store}
use Rattle.f77_semantics.specs.Expressions as whole
use Rattle.f77_semantics.specs.Statements.{Here, written, items, say_all, say_record, to, perform}
use Rattle.thin_form.specs.declared.statement.Sign.{Sign}
use Rattle.thin_form.specs.declared.statement.Sign.TheVariants.{Plus, Minus}
use Rattle.thin_form.specs.Forms.{op_of}
use Rattle.thin_form.specs.declared.statement.Addend.{Addend}
use Rattle.thin_form.specs.declared.statement.Term.{Term as ThinTerm}
use Rattle.thin_form.specs.declared.statement.Term.TheVariants.{Variable, Integer}
use Rattle.thin_form.specs.declared.statement.Item.{Item}
use Rattle.thin_form.specs.declared.statement.Item.TheVariants.{Value as OfValue, Text}
use Rattle.thin_form.specs.declared.statement.Statement.{Statement}
use Rattle.thin_form.specs.declared.statement.Statement.TheVariants.{Assign, Print, End}
use Rattle.thin_code.specs.Layout.{main, offset_of, location_of}
use Rattle.thin_code.specs.Meaning as thin
use Rattle.thin_code.specs.Meaning.{as_integer, joined, sum_from, printed, all_printed, record_of}
use Rattle.thin_meaning.proofs.Images.{term_image, added, sum_image, items_image, image}
use Rattle.thin_meaning.proofs.Alike.{Same, Alike, and_then-assoc, Acts, after_acts, acts_as, acts_done}

-- the text of the parts of a record
abbrev pub flat : List (List ℕ) → List ℕ
flat ps = flat_map (λ p. p) ps

abbrev pub IsInteger : Value → ℤ → Type 0
IsInteger v x = v ≡ values.Integer x

-- an item or more begin no record by a blank alone
abbrev pub SaysAll : List Item → List (List ℕ) → Type 0
SaysAll [] ps = Unit {0}
SaysAll (i ∷ is) ps = say_record ps ≡ say_all ps

pub record Shows (is : List Item) (ps : List (List ℕ)) (text : List ℕ) : Type 0 where
  pub text_is : flat ps ≡ text
  pub says : SaysAll is ps

-- the statement that is next
abbrev pub GoesOn : After Here → After ℕ → Type 0
GoesOn (Again s) (Again k) = s.point ≡ At k
GoesOn (Result a) (Result b) = a ≡ b
GoesOn (Again s) (Result b) = ⊥
GoesOn (Result a) (Again k) = ⊥

flat_bytes : (bs : List ℕ) (ps : List (List ℕ)) → flat (map (λ b. b ∷ []) bs ++ ps) ≡ bs ++ flat ps
flat_bytes [] ps = refl
flat_bytes (b ∷ bs) ps = ap (λ t. b ∷ t) (flat_bytes bs ps)

-- the parts of a record are printed one behind the other
said : (h : Handler) {A : Type 0} (b : Act A) (ps : List (List ℕ)) (v : World) → play h (and_then (say_all ps) (λ x. b)) v ≡ play h b (record v { out = v.out ++ (flat ps ++ 10 ∷ []) })
said h b [] v = refl
said h b (p ∷ ps) v =
    said h b ps (record v { out = v.out ++ p })
    ∙ ap (λ o. play h b (record v { out = o })) (append_assoc v.out p (flat ps ++ 10 ∷ []) ∙ ap (λ t. v.out ++ t) (sym (append_assoc p (flat ps) (10 ∷ []))))

module _ (names : List Name) (f : Frame) (h : Handler) where
  abbrev Do : {A B : Type 0} → (A → B → Type 0) → Act A → Act B → Type 0
  Do R a b = Acts f.unit h R a b

  -- ---- values

  read_alike : (v w : World) → Same f.unit v w → (p q : Option Stored) → p ≡ q
      → Alike f.unit IsInteger (with_cell p v (λ c. play h (typed types.Integer (seen c)) v)) (with_cell q w (λ c. play no_calls (as_integer c) w))
  read_alike v w s p q e = subst (λ p. Alike f.unit IsInteger (with_cell p v (λ c. play h (typed types.Integer (seen c)) v)) (with_cell q w (λ c. play no_calls (as_integer c) w))) (sym e) (go q)
    where
      go : (q : Option Stored) → Alike f.unit IsInteger (with_cell q v (λ c. play h (typed types.Integer (seen c)) v)) (with_cell q w (λ c. play no_calls (as_integer c) w))
      go None = (refl, s)
      go (Some (Number x)) = (refl, s)
      go (Some (Logical b)) = (refl, s)

  same_cell : (v w : World) → Same f.unit v w → (name : Name) → v.cells (scalar f (Own (offset_of names name))) ≡ w.cells (location_of names name)
  same_cell v w s name = ap (λ o. v.cells (record { area = Local f.unit; offset = o })) (add-zero (offset_of names name)) ∙ s.cells (offset_of names name)

  value_alike : (t : ThinTerm) → Do IsInteger (whole.value f (term_image names t)) (thin.value names t)
  value_alike (Variable name) v w s = read_alike v w s (v.cells (scalar f (Own (offset_of names name)))) (w.cells (location_of names name)) (same_cell v w s name)
  value_alike (Integer x) v w s = (refl, s)

  -- ---- sums

  operated_alike : (sign : Sign) (x y : Value) (m n : ℤ) → IsInteger x m → IsInteger y n → Do IsInteger (operated (op_of sign) x y) (Done (joined sign m n))
  operated_alike sign x y m n e g = subst (λ x. Do IsInteger (operated (op_of sign) x y) (Done (joined sign m n))) (sym e) (subst (λ y. Do IsInteger (operated (op_of sign) (values.Integer m) y) (Done (joined sign m n))) (sym g) (go sign))
    where
      go : (sign : Sign) → Do IsInteger (operated (op_of sign) (values.Integer m) (values.Integer n)) (Done (joined sign m n))
      go Plus v w s = (refl, s)
      go Minus v w s = (refl, s)

  -- one term more
  more_alike : (t : Term) (a : Act ℤ) (m : Addend) → Do IsInteger (whole.value f t) a
      → Do IsInteger (whole.value f (added names t m)) (and_then a (λ x. and_then (thin.value names m.term) (λ y. Done (joined m.sign x y))))
  more_alike t a m r =
      after_acts f.unit h IsInteger IsInteger (whole.value f t) a (λ x. and_then (whole.value f (term_image names m.term)) (λ y. operated (op_of m.sign) x y)) (λ x. and_then (thin.value names m.term) (λ y. Done (joined m.sign x y))) r
      (λ x x' e. after_acts f.unit h IsInteger IsInteger (whole.value f (term_image names m.term)) (thin.value names m.term) (λ y. operated (op_of m.sign) x y) (λ y. Done (joined m.sign x' y)) (value_alike m.term)
      (λ y y' g. operated_alike m.sign x y x' y' e g))

  sum_alike : (more : List Addend) (t : Term) (a : Act ℤ) → Do IsInteger (whole.value f t) a → Do IsInteger (whole.value f (fold (added names) t more)) (and_then a (λ x. sum_from names x more))
  sum_alike [] t a r = acts_done f.unit h IsInteger (whole.value f t) a r
  sum_alike (m ∷ more) t a r =
      let next : ℤ → Act ℤ = λ x. and_then (thin.value names m.term) (λ y. Done (joined m.sign x y)) in
      let rest : ℤ → Act ℤ = λ x. sum_from names x more in
      acts_as f.unit h IsInteger (whole.value f (fold (added names) (added names t m) more)) (and_then (and_then a next) rest) (and_then a (λ x. sum_from names x (m ∷ more)))
      (and_then-assoc a next rest ∙ (λ i. and_then a (λ x. and_then-assoc (thin.value names m.term) (λ y. Done (joined m.sign x y)) rest i)))
      (sum_alike more (added names t m) (and_then a next) (more_alike t a m r))

  -- ---- records

  -- a value's text among the items of a record
  of_value : (t : ThinTerm) (es : Terms) → items f (program.◌and◌ (term_image names t) es)
      ≡ and_then (whole.value f (term_image names t)) (λ x. and_then (items f es) (λ ps. Done ((32 ∷ []) ∷ written x ∷ ps)))
  of_value (Variable name) es = refl
  of_value (Integer x) es = refl

  items_alike : (is : List Item) → Do (Shows is) (items f (items_image names is)) (all_printed names is)
  items_alike [] = λ v w s. (record { text_is = refl; says = tt }, s)
  items_alike (Text bs ∷ is) =
      after_acts f.unit h (Shows is) (Shows (Text bs ∷ is)) (items f (items_image names is)) (all_printed names is) (λ ps. Done ((32 ∷ []) ∷ map (λ b. b ∷ []) bs ++ ps)) (λ others. Done ((32 ∷ bs) ++ others)) (items_alike is)
      (λ ps others e v w s. (record { text_is = ap (λ t. 32 ∷ t) (flat_bytes bs ps ∙ ap (λ t. bs ++ t) e.text_is); says = refl }, s))
  items_alike (OfValue t ∷ is) =
      let value : Act Value = whole.value f (term_image names t) in
      let show : Value → Act (List (List ℕ)) = λ x. and_then (items f (items_image names is)) (λ ps. Done ((32 ∷ []) ∷ written x ∷ ps)) in
      let join : List ℕ → Act (List ℕ) = λ first. and_then (all_printed names is) (λ others. Done (first ++ others)) in
      subst (λ a. Do (Shows (OfValue t ∷ is)) a (all_printed names (OfValue t ∷ is))) (sym (of_value t (items_image names is)))
      (acts_as f.unit h (Shows (OfValue t ∷ is)) (and_then value show) (and_then (thin.value names t) (λ x. join (32 ∷ signed_decimal x))) (all_printed names (OfValue t ∷ is)) (sym (and_then-assoc (thin.value names t) (λ x. Done (32 ∷ signed_decimal x)) join))
      (after_acts f.unit h IsInteger (Shows (OfValue t ∷ is)) value (thin.value names t) show (λ x. join (32 ∷ signed_decimal x)) (value_alike t)
      (λ x y e. after_acts f.unit h (Shows is) (Shows (OfValue t ∷ is)) (items f (items_image names is)) (all_printed names is) (λ ps. Done ((32 ∷ []) ∷ written x ∷ ps)) (λ others. Done ((32 ∷ signed_decimal y) ++ others)) (items_alike is)
      (λ ps others g v w s. (record { text_is = ap (λ x. 32 ∷ (written x ++ flat ps)) e ∙ ap (λ t. 32 ∷ (signed_decimal y ++ t)) g.text_is; says = refl }, s)))))

  -- what is printed of a record, and what follows
  print_alike : (p : Point) (s : Here) (k : ℕ) → p ≡ At k → (is : List Item)
      → Do GoesOn (and_then (items f (items_image names is)) (λ ps. and_then (say_record ps) (λ x. to p s))) (and_then (record_of names is) (λ text. Say (text ++ 10 ∷ []) (Done (Again k))))
  print_alike p s k e [] = λ v w t. (e, record { cells = t.cells; out = ap (λ o. (o ++ 32 ∷ []) ++ 10 ∷ []) t.out ∙ append_assoc w.out (32 ∷ []) (10 ∷ []); left = t.left })
  print_alike p s k e (i ∷ is) =
      after_acts f.unit h (Shows (i ∷ is)) GoesOn (items f (items_image names (i ∷ is))) (all_printed names (i ∷ is)) (λ ps. and_then (say_record ps) (λ x. to p s)) (λ text. Say (text ++ 10 ∷ []) (Done (Again k))) (items_alike (i ∷ is))
      (λ ps text g v w t. subst (λ o. Alike f.unit GoesOn o (play no_calls (Say (text ++ 10 ∷ []) (Done (Again k))) w))
      (sym (ap (λ a. play h (and_then a (λ x. to p s)) v) g.says ∙ said h (to p s) ps v))
      (e, record { cells = t.cells; out = (λ j. t.out j ++ (g.text_is j ++ 10 ∷ [])); left = t.left }))

  -- ---- statements

  same_put : (name : Name) (x : ℤ) (v w : World) → Same f.unit v w → (o : ℕ)
      → put_cell (scalar f (Own (offset_of names name))) (Number x) v.cells (record { area = Local f.unit; offset = o }) ≡ put_cell (location_of names name) (Number x) w.cells (record { area = Local main; offset = o })
  same_put name x v w s o =
      let at = offset_of names name in
      ap (λ b. cond (b && nat_eq (at + 0) o) (Some (Number x)) (v.cells (record { area = Local f.unit; offset = o }))) (nat_list_eq_equiv.refl f.unit)
      ∙ ap (λ n. cond (nat_eq n o) (Some (Number x)) (v.cells (record { area = Local f.unit; offset = o }))) (add-zero at)
      ∙ ap (cond (nat_eq at o) (Some (Number x))) (s.cells o)

  store_alike : (name : Name) (p : Point) (s : Here) (k : ℕ) → p ≡ At k → (x : Value) (y : ℤ) → IsInteger x y
      → Do GoesOn (and_then (store (scalar f (Own (offset_of names name))) x) (λ z. to p s)) (and_then (thin.store (location_of names name) y) (λ z. Done (Again k)))
  store_alike name p s k e x y g = subst (λ x. Do GoesOn (and_then (store (scalar f (Own (offset_of names name))) x) (λ z. to p s)) (and_then (thin.store (location_of names name) y) (λ z. Done (Again k)))) (sym g)
      (λ v w t. (e, record { cells = same_put name y v w t; out = t.out; left = t.left }))

  pub perform_alike : (u : Routine) (s : Here) (k : ℕ) (t : Statement) → u.after k ≡ At (suc k) → Do GoesOn (perform u f s k (image names t)) (thin.perform names k t)
  perform_alike u s k (Assign target first more) e =
      let put : ℤ → Act (After ℕ) = λ y. and_then (thin.store (location_of names target) y) (λ z. Done (Again (suc k))) in
      acts_as f.unit h GoesOn (perform u f s k (image names (Assign target first more))) (and_then (and_then (thin.value names first) (λ x. sum_from names x more)) put) (thin.perform names k (Assign target first more))
      (and_then-assoc (thin.value names first) (λ x. sum_from names x more) put)
      (after_acts f.unit h IsInteger GoesOn (whole.value f (sum_image names first more)) (and_then (thin.value names first) (λ x. sum_from names x more)) (λ x. and_then (store (scalar f (Own (offset_of names target))) x) (λ z. to (u.after k) s)) put
      (sum_alike more (term_image names first) (thin.value names first) (value_alike first)) (λ x y g. store_alike target (u.after k) s (suc k) e x y g))
  perform_alike u s k (Print is) e = print_alike (u.after k) s (suc k) e is
  perform_alike u s k End e = λ v w t. (refl, t)
