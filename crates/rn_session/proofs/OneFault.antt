-- An input has one fault, or it is a program.
use Rattle.std.proofs.Common.{◌≡◌, ℕ, true, List, [], ◌∷◌, ◌++◌, map, refl, sym, ap, ◌∙◌, subst, arith}
use Rattle.std.specs.List.{All, AllZip}
use Rattle.std.proofs.lemmas.List.{append-nil}
use Rattle.std.proofs.lemmas.List.Elements.{All-nil, All-cons, All-head, All-tail}
use Rattle.f77_tree.specs.declared.fault.SourceFault.{SourceFault}
use Rattle.f77_tree.specs.declared.unit.Unit.{Unit as SourceUnit}
use Rattle.fixed_form.specs.declared.reader.UnitText.{UnitText}
use Rattle.fixed_form.specs.Lines.{lines_of}
use Rattle.fixed_form.specs.Reading.{Reads, IsFirstFault as IsReadingFault}
use Rattle.rn_draft.specs.Accepted.{Accepted, IsFirstFault}
use Rattle.rn_draft.specs.Drafts.{drafted}
use Rattle.thin_form.specs.declared.statement.Statement.{Statement}
use Rattle.thin_text.specs.Thin.{Standing, standing, IsThinLine, IsThin, Placed, placed_in, placed_from, placed, IsThinPlaced, fault_at, IsThinFault}
use Rattle.one_answer.proofs.Cutting.{Places, same, earlier, later, places}
use Rattle.rn_session.specs.Texts.{IsTextFault, of_reading, of_draft, of_form}
use Rattle.rn_session.specs.Exact.{HasFault, of_length, of_text, IsProgramText}

-- ---- thin texts

-- what all of a list are, one in its middle is
in_middle : {A : Type 0} (P : A → Type 0) (xs before after : List A) (x : A) → All P xs → xs ≡ before ++ x ∷ after → P x
in_middle P [] [] after x h e = absurd cc
in_middle P [] (b ∷ before) after x h e = absurd cc
in_middle P (y ∷ xs) [] after x h e = let first : y ≡ x = cc in subst P first (All-head P y xs h)
in_middle P (y ∷ xs) (b ∷ before) after x h e = let more : xs ≡ before ++ x ∷ after = cc in in_middle P xs before after x (All-tail P y xs h) more

abbrev placed_at : List ℕ → Standing → Placed
placed_at name s = record { unit = name; opening = true; at = s }

all_placed : (name : List ℕ) (all : List Standing) (body : List Statement) → AllZip IsThinLine all body → All IsThinPlaced (map (placed_at name) all)
all_placed name [] body h = All-nil IsThinPlaced
all_placed name (s ∷ all) [] h = absurd h
all_placed name (s ∷ all) (b ∷ body) h =
    All-cons IsThinPlaced (placed_at name s) (map (placed_at name) all) (record { opening = refl; statement = b; thin = h.0 }) (all_placed name all body h.1)

one_placed : (u : UnitText) → placed (u ∷ []) ≡ placed_in true u
unfolding placed_from
one_placed u = append-nil (placed_in true u)

thin_placed : (units : List UnitText) (body : List Statement) → IsThin units body → All IsThinPlaced (placed units)
thin_placed units body h =
    subst (All IsThinPlaced) (sym (ap placed h.alone ∙ one_placed h.unit)) (all_placed h.unit.name (standing h.unit.statements) body h.statements)

no_thin_fault : (units : List UnitText) (body : List Statement) (fault : SourceFault) → IsThin units body → IsThinFault fault units → ⊥
no_thin_fault units body fault h f = f.not (in_middle IsThinPlaced (placed units) f.before f.after f.first (thin_placed units body h) f.cut)

one_thin_fault : (units : List UnitText) (a b : SourceFault) → IsThinFault a units → IsThinFault b units → a ≡ b
one_thin_fault units a b h k = go (places h.before k.before h.after k.after h.first k.first (sym h.cut ∙ k.cut))
  where
    go : Places h.before k.before h.first k.first → a ≡ b
    go (same p q) = h.told ∙ ap (λ f. fault_at f.unit f.at.line) q ∙ sym k.told
    go (earlier between p) = absurd (h.not (in_middle IsThinPlaced k.before h.before between h.first k.thin p))
    go (later between p) = absurd (k.not (in_middle IsThinPlaced h.before k.before between k.first h.thin p))

-- ---- texts

module _
    (one_reading : (lines : List (List ℕ)) (a b : List UnitText) → Reads lines a → Reads lines b → a ≡ b)
    (one_reading_fault : (lines : List (List ℕ)) (a b : SourceFault) → IsReadingFault a lines → IsReadingFault b lines → a ≡ b)
    (read_or_faulty : (lines : List (List ℕ)) (units : List UnitText) (fault : SourceFault) → Reads lines units → IsReadingFault fault lines → ⊥)
    (one_draft : (units : List UnitText) (a b : List SourceUnit) → Accepted units a → Accepted units b → a ≡ b)
    (one_draft_fault : (units : List UnitText) (a b : SourceFault) → IsFirstFault a units → IsFirstFault b units → a ≡ b)
    (accepted_or_faulty : (units : List UnitText) (trees : List SourceUnit) (fault : SourceFault) → Accepted units trees → IsFirstFault fault units → ⊥) where
  -- an accepted text has no fault of its draft
  no_draft_fault : (lines : List (List ℕ)) (a b : List UnitText) (trees : List SourceUnit) (fault : SourceFault) → Reads lines a → Reads lines b → Accepted (drafted a) trees → IsFirstFault fault (drafted b) → ⊥
  no_draft_fault lines a b trees fault h k accepted f =
      accepted_or_faulty (drafted a) trees fault accepted (subst (λ us. IsFirstFault fault (drafted us)) (one_reading lines b a k h) f)

  one_text_fault : (bytes : List ℕ) (a b : SourceFault) → IsTextFault a bytes → IsTextFault b bytes → a ≡ b
  one_text_fault bytes a b (of_reading h) (of_reading k) = one_reading_fault (lines_of bytes) a b h k
  one_text_fault bytes a b (of_reading h) (of_draft units reads k) = absurd (read_or_faulty (lines_of bytes) units a reads h)
  one_text_fault bytes a b (of_reading h) (of_form units trees reads accepted k) = absurd (read_or_faulty (lines_of bytes) units a reads h)
  one_text_fault bytes a b (of_draft units reads h) (of_reading k) = absurd (read_or_faulty (lines_of bytes) units b reads k)
  one_text_fault bytes a b (of_draft units reads h) (of_draft others read k) =
      one_draft_fault (drafted units) a b h (subst (λ us. IsFirstFault b (drafted us)) (one_reading (lines_of bytes) others units read reads) k)
  one_text_fault bytes a b (of_draft units reads h) (of_form others trees read accepted k) = absurd (no_draft_fault (lines_of bytes) others units trees a read reads accepted h)
  one_text_fault bytes a b (of_form units trees reads accepted h) (of_reading k) = absurd (read_or_faulty (lines_of bytes) units b reads k)
  one_text_fault bytes a b (of_form units trees reads accepted h) (of_draft others read k) = absurd (no_draft_fault (lines_of bytes) units others trees b reads read accepted k)
  one_text_fault bytes a b (of_form units trees reads accepted h) (of_form others more read took k) =
      one_thin_fault units a b h (subst (IsThinFault b) (one_reading (lines_of bytes) others units read reads) k)

  pub one_fault : (limit : ℕ) (bytes : List ℕ) (a b : SourceFault) → HasFault limit bytes a → HasFault limit bytes b → a ≡ b
  one_fault limit bytes a b (of_length l e) (of_length m f) = e ∙ sym f
  one_fault limit bytes a b (of_length l e) (of_text m k) = absurd (omega (arith, l, m))
  one_fault limit bytes a b (of_text l h) (of_length m f) = absurd (omega (arith, l, m))
  one_fault limit bytes a b (of_text l h) (of_text m k) = one_text_fault bytes a b h k

  no_text_fault : (bytes : List ℕ) (fault : SourceFault) (units : List UnitText) (trees : List SourceUnit) (body : List Statement) →
      Reads (lines_of bytes) units → Accepted (drafted units) trees → IsThin units body → IsTextFault fault bytes → ⊥
  no_text_fault bytes fault units trees body reads accepted thin (of_reading h) = read_or_faulty (lines_of bytes) units fault reads h
  no_text_fault bytes fault units trees body reads accepted thin (of_draft others read h) = no_draft_fault (lines_of bytes) units others trees fault reads read accepted h
  no_text_fault bytes fault units trees body reads accepted thin (of_form others more read took h) =
      no_thin_fault units body fault thin (subst (IsThinFault fault) (one_reading (lines_of bytes) others units read reads) h)

  pub no_fault : (limit : ℕ) (bytes : List ℕ) (fault : SourceFault) → IsProgramText limit bytes → HasFault limit bytes fault → ⊥
  no_fault limit bytes fault p (of_length l e) = omega (arith, l, p.within)
  no_fault limit bytes fault p (of_text l h) = no_text_fault bytes fault p.text.units p.text.trees p.body p.text.reads p.text.accepted p.text.thin h
