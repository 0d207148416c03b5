-- What PRINT's record says, played.
use Rattle.std.proofs.Common.{◌≡◌, ℕ, List, [], ◌∷◌, ◌++◌, true, false, map, reverse, flat_map, refl, sym, ap, ◌∙◌, append-nil, append_assoc}
use Rattle.std.proofs.lemmas.List.{reverse-append, reverse-reverse}
use Rattle.run_model.specs.Acts.{World, Fine, Handler, play}
use Rattle.f77_semantics.specs.Statements.{written, say_all, say_record}
use Rattle.interp_code.specs.Steps.{Operand, Operands, Item, Bytes, operands_onto, said}
use Rattle.interp_steps.specs.declared.operand.Operand as code
use Rattle.interp_steps.specs.Stacks.{operand_of, stack_of}
use Rattle.interp_turns.specs.Records.{text, record_from}

-- texts one behind the other
abbrev joined : List (List ℕ) → List ℕ
joined ps = flat_map (λ p. p) ps

abbrev line : List (List ℕ) → List ℕ
line [] = 32 ∷ 10 ∷ []
line (p ∷ ps) = joined (p ∷ ps) ++ 10 ∷ []

joined_both : (ps qs : List (List ℕ)) → joined (ps ++ qs) ≡ joined ps ++ joined qs
joined_both [] qs = refl
joined_both (p ∷ ps) qs = ap (λ l. p ++ l) (joined_both ps qs) ∙ sym (append_assoc p (joined ps) (joined qs))

singles : (bytes : List ℕ) → joined (map (λ b. b ∷ []) bytes) ≡ bytes
singles [] = refl
singles (b ∷ bytes) = ap (λ l. b ∷ l) (singles bytes)

said_text : (o : Operand) → text o ≡ joined (said o)
said_text (Item v) = ap (λ l. 32 ∷ l) (sym (append-nil (written v)))
said_text (Bytes bytes) = ap (λ l. 32 ∷ l) (sym (singles bytes))
said_text _ = refl

one_more : (o : Operand) (os : Operands) → text o ++ (joined (flat_map said os) ++ 10 ∷ []) ≡ joined (said o ++ flat_map said os) ++ 10 ∷ []
one_more o os = ap (λ t. t ++ (joined (flat_map said os) ++ 10 ∷ [])) (said_text o) ∙ (sym (append_assoc (joined (said o)) (joined (flat_map said os)) (10 ∷ [])) ∙ ap (λ l. l ++ 10 ∷ []) (sym (joined_both (said o) (flat_map said os))))

from_some : (os : Operands) → record_from true os ≡ joined (flat_map said os) ++ 10 ∷ []
from_some [] = refl
from_some (o ∷ os) = ap (λ l. text o ++ l) (from_some os) ∙ one_more o os

from_none : (os : Operands) → record_from false os ≡ line (flat_map said os)
from_none [] = refl
from_none (Item v ∷ os) = ap (λ l. text (Item v) ++ l) (from_some os) ∙ one_more (Item v) os
from_none (Bytes bytes ∷ os) = ap (λ l. text (Bytes bytes) ++ l) (from_some os) ∙ one_more (Bytes bytes) os
from_none (o ∷ os) = from_none os

says_all : (h : Handler) (ps : List (List ℕ)) (w : World) → play h (say_all ps) w ≡ Fine tt (record w { out = w.out ++ (joined ps ++ 10 ∷ []) })
says_all h [] w = refl
says_all h (p ∷ ps) w = says_all h ps (record w { out = w.out ++ p }) ∙ ap (λ l. Fine tt (record w { out = l })) (append_assoc w.out p (joined ps ++ 10 ∷ []) ∙ ap (λ l. w.out ++ l) (sym (append_assoc p (joined ps) (10 ∷ []))))

says_record : (h : Handler) (ps : List (List ℕ)) (w : World) → play h (say_record ps) w ≡ Fine tt (record w { out = w.out ++ line ps })
says_record h [] w = says_all h ((32 ∷ []) ∷ []) w
says_record h (p ∷ ps) w = says_all h (p ∷ ps) w

onto_is : (os s : Operands) → operands_onto os s ≡ reverse os ++ s
onto_is [] s = refl
onto_is (o ∷ os) s = onto_is os (o ∷ s) ∙ (sym (append_assoc (reverse os) (o ∷ []) s) ∙ ap (λ l. l ++ s) (sym (reverse-append (o ∷ []) os)))

turned : (os : Operands) → operands_onto (reverse os) [] ≡ os
turned os = onto_is (reverse os) [] ∙ (append-nil (reverse (reverse os)) ∙ reverse-reverse os)

pub record_says : (h : Handler) (operands : List code.Operand) (w : World) → play h (say_record (flat_map said (operands_onto (stack_of operands) []))) w ≡ Fine tt (record w { out = w.out ++ record_from false (map operand_of operands) })
record_says h operands w = ap (λ os. play h (say_record (flat_map said os)) w) (turned (map operand_of operands)) ∙ (says_record h (flat_map said (map operand_of operands)) w ∙ ap (λ l. Fine tt (record w { out = w.out ++ l })) (sym (from_none (map operand_of operands))))

-- one text behind another
pub said_both : (w w1 w2 : World) (s t : List ℕ) → w1 ≡ record w { out = w.out ++ s } → w2 ≡ record w1 { out = w1.out ++ t } → w2 ≡ record w { out = w.out ++ (s ++ t) }
said_both w w1 w2 s t e1 e2 = e2 ∙ (ap (λ (x : World). record x { out = x.out ++ t }) e1 ∙ ap (λ l. record w { out = l }) (append_assoc w.out s t))
