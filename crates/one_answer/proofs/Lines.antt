-- The lines of a text are cut into statements and units in one way, and units leave no statement open.
use Rattle.std.proofs.Common.{◌≡◌, ℕ, List, [], ◌∷◌, ◌++◌, fold, refl, sym, ap, ◌∙◌, subst, flat_map, Some, None, Option}
use Rattle.std.specs.List.{All}
use Rattle.std.proofs.lemmas.List.Sums.{fold-append}
use Rattle.std.proofs.lemmas.List.Concat.{flat_map-append}
use Rattle.std.proofs.lemmas.List.Elements.{All-nil, All-cons, All-head, All-tail, All-append}
use Rattle.fixed_form.specs.declared.card.LineKind.{LineKind}
use Rattle.fixed_form.specs.declared.card.LineKind.TheVariants as kind
use Rattle.fixed_form.specs.Lines.{Text}
use Rattle.fixed_form.specs.Reading.{kind_at, field_at, Progress, after, place_of, Card, card_of, next_number, cards_from, Group, cards_of, IsStatement, IsUnit, Parts, groups_of}
use Rattle.one_answer.proofs.Cutting.{SameCut, one_cut}

-- ---- statements

Goes : Card → Type 0
Goes c = kind_at c.line ≡ kind.Continuation

Stands : Card → Type 0
Stands c = kind_at c.line ≡ kind.Continuation → ⊥

-- no continuation line comes first
Begins : List Card → Type 0
Begins [] = Unit {0}
Begins (c ∷ cs) = Stands c

record IsGroup (g : Group) : Type 0 where
  first : Stands g.first
  more : All Goes g.more

one_run : (xs ys s t : List Card) → All Goes xs → All Goes ys → Begins s → Begins t → xs ++ s ≡ ys ++ t → SameCut xs ys s t
unfolding Goes Stands Begins
one_run [] [] s t h k p q e = record { part = refl; rest = e }
one_run [] (y ∷ ys) s t h k p q e = absurd (subst Begins e p (All-head Goes y ys k))
one_run (x ∷ xs) [] s t h k p q e = absurd (subst Begins (sym e) q (All-head Goes x xs h))
one_run (x ∷ xs) (y ∷ ys) s t h k p q e =
    let first : x ≡ y = cc in
    let more : xs ++ s ≡ ys ++ t = cc in
    let both = one_run xs ys s t (All-tail Goes x xs h) (All-tail Goes y ys k) p q more in
    record { part = λ i. first i ∷ both.part i; rest = both.rest }

one_group : (x y : Group) (s t : List Card) → IsGroup x → IsGroup y → Begins s → Begins t → cards_of x ++ s ≡ cards_of y ++ t → SameCut x y s t
one_group x y s t h k p q e =
    let first : x.first ≡ y.first = cc in
    let more : x.more ++ s ≡ y.more ++ t = cc in
    let both = one_run x.more y.more s t h.more k.more p q more in
    record { part = λ i. record { first = first i; more = both.part i }; rest = both.rest }

no_group : (x : Group) (s : List Card) → cards_of x ++ s ≡ [] → ⊥
no_group x s e = cc

begins : (x : Group) (s : List Card) → IsGroup x → Begins (cards_of x ++ s)
unfolding Begins
begins x s h = h.first

one_groups : (xs ys : List Group) → All IsGroup xs → All IsGroup ys → flat_map cards_of xs ≡ flat_map cards_of ys → xs ≡ ys
unfolding Begins
one_groups = one_cut cards_of IsGroup Begins tt begins no_group one_group

-- ---- units

abbrev IsPart : Parts → Type 0
IsPart p = IsUnit p.body p.last

initial_stands : (g : Group) → IsStatement g → IsGroup g
unfolding Goes Stands
initial_stands g h = record { first = λ e. let z : kind.Initial ≡ kind.Continuation = sym h.initial ∙ e in cc; more = h.continued }

end_stands : (g : Group) → kind_at g.first.line ≡ kind.End → g.more ≡ [] → IsGroup g
unfolding Goes Stands
end_stands g e alone = record { first = λ f. let z : kind.End ≡ kind.Continuation = sym e ∙ f in cc; more = subst (All Goes) (sym alone) (All-nil Goes) }

all_groups : (body : List Group) → All IsStatement body → All IsGroup body
all_groups [] h = All-nil IsGroup
all_groups (g ∷ body) h = All-cons IsGroup g body (initial_stands g (All-head IsStatement g body h)) (all_groups body (All-tail IsStatement g body h))

part_groups : (p : Parts) → IsPart p → All IsGroup (groups_of p)
part_groups p h = All-append IsGroup p.body (p.last ∷ []) (all_groups p.body h.statements) (All-cons IsGroup p.last [] (end_stands p.last h.end h.alone) (All-nil IsGroup))

parts_groups : (parts : List Parts) → All IsPart parts → All IsGroup (flat_map groups_of parts)
parts_groups [] h = All-nil IsGroup
parts_groups (p ∷ parts) h = All-append IsGroup (groups_of p) (flat_map groups_of parts) (part_groups p (All-head IsPart p parts h)) (parts_groups parts (All-tail IsPart p parts h))

record SameEnd (xs ys : List Group) (x y : Group) (s t : List Group) : Type 0 where
  body : xs ≡ ys
  last : x ≡ y
  rest : s ≡ t

no_end : (g : Group) → IsStatement g → kind_at g.first.line ≡ kind.End → ⊥
no_end g h e = let z : kind.Initial ≡ kind.End = sym h.initial ∙ e in cc

one_end : (xs ys : List Group) (x y : Group) (s t : List Group) → All IsStatement xs → All IsStatement ys → kind_at x.first.line ≡ kind.End → kind_at y.first.line ≡ kind.End →
    (xs ++ x ∷ []) ++ s ≡ (ys ++ y ∷ []) ++ t → SameEnd xs ys x y s t
one_end [] [] x y s t h k p q e = record { body = refl; last = cc; rest = cc }
one_end [] (b ∷ ys) x y s t h k p q e =
    let same : x ≡ b = cc in
    absurd (no_end b (All-head IsStatement b ys k) (subst (λ g. kind_at g.first.line ≡ kind.End) same p))
one_end (a ∷ xs) [] x y s t h k p q e =
    let same : y ≡ a = cc in
    absurd (no_end a (All-head IsStatement a xs h) (subst (λ g. kind_at g.first.line ≡ kind.End) same q))
one_end (a ∷ xs) (b ∷ ys) x y s t h k p q e =
    let first : a ≡ b = cc in
    let more : (xs ++ x ∷ []) ++ s ≡ (ys ++ y ∷ []) ++ t = cc in
    let both = one_end xs ys x y s t (All-tail IsStatement a xs h) (All-tail IsStatement b ys k) p q more in
    record { body = λ i. first i ∷ both.body i; last = both.last; rest = both.rest }

one_part : (x y : Parts) (s t : List Group) → IsPart x → IsPart y → Unit {0} → Unit {0} → groups_of x ++ s ≡ groups_of y ++ t → SameCut x y s t
one_part x y s t h k p q e =
    let both = one_end x.body y.body x.last y.last s t h.statements k.statements h.end k.end e in
    record { part = λ i. record { body = both.body i; last = both.last i }; rest = both.rest }

no_part : (x : Parts) (s : List Group) → groups_of x ++ s ≡ [] → ⊥
no_part x s e = go x.body e
  where
    go : (body : List Group) → (body ++ x.last ∷ []) ++ s ≡ [] → ⊥
    go [] e = cc
    go (g ∷ body) e = cc

part_cards : Parts → List Card
part_cards p = flat_map cards_of (groups_of p)

all_cards : (parts : List Parts) → flat_map (λ p. flat_map cards_of (groups_of p)) parts ≡ flat_map cards_of (flat_map groups_of parts)
all_cards [] = refl
all_cards (p ∷ parts) = ap (λ cs. flat_map cards_of (groups_of p) ++ cs) (all_cards parts) ∙ sym (flat_map-append cards_of (groups_of p) (flat_map groups_of parts))

-- The lines of the statements tell the units.
pub one_parts : (a b : List Parts) → All IsPart a → All IsPart b → flat_map (λ p. flat_map cards_of (groups_of p)) a ≡ flat_map (λ p. flat_map cards_of (groups_of p)) b → a ≡ b
one_parts a b h k e =
    one_cut groups_of IsPart (λ s. Unit {0}) tt (λ x s g. tt) no_part one_part a b h k
    (one_groups (flat_map groups_of a) (flat_map groups_of b) (parts_groups a h) (parts_groups b k) (sym (all_cards a) ∙ e ∙ all_cards b))

-- ---- no statement is left open

abbrev behind_card : Option Progress → Card → Option Progress
behind_card place c = after place (kind_at c.line) (field_at c.line)

abbrev behind_line : Option Progress → Text → Option Progress
behind_line place line = after place (kind_at line) (field_at line)

after_comment : (p : Option Progress) (f : Text) → after p kind.Comment f ≡ p
after_comment None f = refl
after_comment (Some p) f = refl

by_card : (n : ℕ) (line : Text) (p : Option Progress) (rest : List Card) (k : LineKind) → kind_at line ≡ k → fold behind_card p (card_of n line k ++ rest) ≡ fold behind_card (after p k (field_at line)) rest
by_card n line p rest kind.Comment e = ap (λ q. fold behind_card q rest) (sym (after_comment p (field_at line)))
by_card n line p rest kind.Initial e = ap (λ k. fold behind_card (after p k (field_at line)) rest) e
by_card n line p rest kind.End e = ap (λ k. fold behind_card (after p k (field_at line)) rest) e
by_card n line p rest kind.Continuation e = ap (λ k. fold behind_card (after p k (field_at line)) rest) e
by_card n line p rest kind.BadLabel e = ap (λ k. fold behind_card (after p k (field_at line)) rest) e
by_card n line p rest kind.LabelledContinuation e = ap (λ k. fold behind_card (after p k (field_at line)) rest) e

by_cards : (n : ℕ) (p : Option Progress) (lines : List Text) → fold behind_line p lines ≡ fold behind_card p (cards_from n lines)
unfolding cards_from
by_cards n p [] = refl
by_cards n p (line ∷ lines) =
    by_cards (next_number n (kind_at line)) (behind_line p line) lines
    ∙ sym (by_card n line p (cards_from (next_number n (kind_at line)) lines) (kind_at line) refl)

after_end : (p : Option Progress) (f : Text) → after p kind.End f ≡ None
after_end None f = refl
after_end (Some p) f = refl

last_closes : (g : Group) (p : Option Progress) → kind_at g.first.line ≡ kind.End → g.more ≡ [] → fold behind_card p (cards_of g) ≡ None
last_closes g p e alone =
    ap (λ more. fold behind_card p (g.first ∷ more)) alone
    ∙ ap (λ k. after p k (field_at g.first.line)) e
    ∙ after_end p (field_at g.first.line)

part_closes : (p : Parts) (at : Option Progress) → IsPart p → fold behind_card at (flat_map cards_of (groups_of p)) ≡ None
part_closes p at h =
    ap (fold behind_card at) (flat_map-append cards_of p.body (p.last ∷ []))
    ∙ fold-append behind_card at (flat_map cards_of p.body) (flat_map cards_of (p.last ∷ []))
    ∙ fold-append behind_card (fold behind_card at (flat_map cards_of p.body)) (cards_of p.last) []
    ∙ last_closes p.last (fold behind_card at (flat_map cards_of p.body)) h.end h.alone

parts_close : (parts : List Parts) → All IsPart parts → fold behind_card None (flat_map (λ p. flat_map cards_of (groups_of p)) parts) ≡ None
parts_close [] h = refl
parts_close (p ∷ parts) h =
    fold-append behind_card None (flat_map cards_of (groups_of p)) (flat_map (λ p. flat_map cards_of (groups_of p)) parts)
    ∙ ap (λ q. fold behind_card q (flat_map (λ p. flat_map cards_of (groups_of p)) parts)) (part_closes p None (All-head IsPart p parts h))
    ∙ parts_close parts (All-tail IsPart p parts h)

pub closed_lines : (lines : List Text) (parts : List Parts) → All IsPart parts → cards_from 1 lines ≡ flat_map (λ p. flat_map cards_of (groups_of p)) parts → place_of lines ≡ None
unfolding place_of
closed_lines lines parts h e = by_cards 1 None lines ∙ ap (fold behind_card None) e ∙ parts_close parts h
