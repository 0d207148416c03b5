-- One more line.
use Rattle.std.proofs.Common.{◌≡◌, ℕ, ◌+◌, ◌<◌, ◌≤◌, Bool, true, false, List, [], ◌∷◌, ◌++◌, length, map, fold, cond, get_or, ap, sym, ◌∙◌, subst, refl, arith, Some, None, Option, option_map, append_assoc, length-append, flat_map}
use Rattle.std.specs.List.{All}
use Rattle.std.specs.Option.{is_some}
use Rattle.std.proofs.lemmas.List.{append-nil, map-append}
use Rattle.std.proofs.lemmas.Bool.Decides.{nat_tests}
use Rattle.std.proofs.lemmas.List.Sums.{fold-append}
use Rattle.std.proofs.lemmas.List.Concat.{flat_map-append}
use Rattle.std.proofs.lemmas.List.Elements.{All-nil, All-push, All-append}
use Rattle.f77_tree.specs.declared.fault.Refused.{Refused}
use Rattle.f77_tree.specs.declared.fault.Refused.TheVariants.{Fault, OutOfMemory}
use Rattle.fixed_form.specs.declared.card.LineKind.{LineKind}
use Rattle.fixed_form.specs.declared.card.LineKind.TheVariants as kind
use Rattle.fixed_form.specs.declared.reader.Line.{Line}
use Rattle.fixed_form.specs.declared.reader.UnitText.{UnitText}
use Rattle.fixed_form.specs.declared.reader.Current.{Current}
use Rattle.fixed_form.specs.declared.reader.Reader.{Reader}
use Rattle.fixed_form.specs.Lines.{Text}
use Rattle.fixed_form.specs.Cards.{columns, is_comment, is_initial, is_label, is_end, is_blank, statement_kind, kind_of, label_field, text_field, value_of, text_from, inside_from, card_strange}
use Rattle.fixed_form.specs.Reading.{told, kind_at, field_at, Progress, after, place_of, inside_at, fault, fault_at, HasNoFault, FirstFault, at_line, at_the_end, Explains, Card, card_of, next_number, cards_from, Group, cards_of, fields_of, statement_of, IsStatement, IsUnit, Parts, groups_of, statements_of, IsNamed, Reads}
use Rattle.fixed_form.specs.Progress.{begun_at, longer, closed, inside_current, open_cards, IsOpen, open_of, progress_of, number_after, Stands, StandsIn, IsNextCard, RefusesAt, IsClosed}
use Rattle.fixed_form.proofs.TextSoFar.{text_append, inside_append}

-- ---- lists that grow at the end

place_more : (seen : List Text) (line : Text) → place_of (seen ++ line ∷ []) ≡ after (place_of seen) (kind_at line) (field_at line)
unfolding place_of
place_more seen line = fold-append (λ place line. after place (kind_at line) (field_at line)) None seen (line ∷ [])

number_more : (seen : List Text) (line : Text) → number_after (seen ++ line ∷ []) ≡ next_number (number_after seen) (kind_at line)
unfolding number_after
number_more seen line = fold-append (λ n line. next_number n (kind_at line)) 1 seen (line ∷ [])

number_from : ℕ → List Text → ℕ
number_from n lines = fold (λ n line. next_number n (kind_at line)) n lines

cards_from_more : (n : ℕ) (seen : List Text) (line : Text) → cards_from n (seen ++ line ∷ []) ≡ cards_from n seen ++ card_of (number_from n seen) line (kind_at line)
unfolding cards_from number_from
cards_from_more n [] line = append-nil (card_of n line (kind_at line))
cards_from_more n (first ∷ seen) line =
    ap (λ cs. card_of n first (kind_at first) ++ cs) (cards_from_more (next_number n (kind_at first)) seen line)
    ∙ sym (append_assoc (card_of n first (kind_at first)) (cards_from (next_number n (kind_at first)) seen) (card_of (number_from (next_number n (kind_at first)) seen) line (kind_at line)))

cards_more : (seen : List Text) (line : Text) → cards_from 1 (seen ++ line ∷ []) ≡ cards_from 1 seen ++ card_of (number_after seen) line (kind_at line)
unfolding number_from number_after
cards_more seen line = cards_from_more 1 seen line

-- a list that ends with one element is cut there, or before
data Cut (seen : List Text) (line : Text) (before : List Text) (cut : Text) : Type 0 where
  at_end : before ≡ seen → cut ≡ line → Cut seen line before cut
  inside : (more : List Text) → seen ≡ before ++ cut ∷ more → Cut seen line before cut

cut_cons : {seen before : List Text} {line cut s b : Text} → s ≡ b → Cut seen line before cut → Cut (s ∷ seen) line (b ∷ before) cut
cut_cons {seen} {s = s} same (at_end e f) = at_end (cc (same, e)) f
cut_cons same (inside more e) = inside more (cc (same, e))

cut_of : (seen : List Text) (line : Text) (before : List Text) (cut : Text) (rest : List Text) → seen ++ line ∷ [] ≡ before ++ cut ∷ rest → Cut seen line before cut
cut_of [] line [] cut rest e = at_end refl cc
cut_of [] line (b ∷ before) cut rest e =
    let tail : [] ≡ before ++ cut ∷ rest = cc in absurd (omega (arith, ap length tail, length-append before (cut ∷ rest)))
cut_of (s ∷ seen) line [] cut rest e = inside seen cc
cut_of (s ∷ seen) line (b ∷ before) cut rest e =
    let same : s ≡ b = cc in
    let tail : seen ++ line ∷ [] ≡ before ++ cut ∷ rest = cc in
    cut_cons same (cut_of seen line before cut rest tail)

no_fault_at : {seen : List Text} {line : Text} {before : List Text} {cut : Text} → HasNoFault seen → fault_at (place_of seen) line ≡ None → Cut seen line before cut → fault_at (place_of before) cut ≡ None
no_fault_at {seen} {cut = cut} none here (at_end e f) =
    ap (λ b. fault_at (place_of b) cut) e ∙ (ap (λ c. fault_at (place_of seen) c) f ∙ here)
no_fault_at none here (inside more e) = none.none _ _ more e

no_fault_more : {seen : List Text} (line : Text) → HasNoFault seen → fault_at (place_of seen) line ≡ None → HasNoFault (seen ++ line ∷ [])
no_fault_more {seen} line none here = record { none = λ before cut rest e. no_fault_at none here (cut_of seen line before cut rest e) }

-- ---- the fault of a line

-- by its kind, and whether it has a strange byte
fault_by : {strange : Bool} (line : Text) (place : Option Progress) (k : LineKind) → kind_at line ≡ k → card_strange (inside_at place k) (columns line) ≡ strange → fault_at place line ≡ fault place k strange
unfolding fault_at
fault_by line place k e f = ap (λ k. fault place k (card_strange (inside_at place k) (columns line))) e ∙ ap (fault place k) f

comment_fault : (line : Text) (place : Option Progress) → kind_at line ≡ kind.Comment → fault_at place line ≡ None
comment_fault line None e = fault_by line None kind.Comment e refl
comment_fault line (Some p) e = fault_by line (Some p) kind.Comment e refl

plain_initial : (place : Option Progress) → fault place kind.Initial false ≡ None
plain_initial None = refl
plain_initial (Some p) = refl

plain_end : (place : Option Progress) → fault place kind.End false ≡ None
plain_end None = refl
plain_end (Some p) = refl

-- columns 1 to 5 that are wrong, on a line of either sort
pub data WrongLabel : LineKind → Type 0 where
  initial_label : {k : LineKind} → k ≡ kind.BadLabel → WrongLabel k
  continuation_label : {k : LineKind} → k ≡ kind.LabelledContinuation → WrongLabel k

wrong_label : (place : Option Progress) {k : LineKind} → WrongLabel k → fault place k false ≡ Some 2
wrong_label None (initial_label e) = ap (λ k. fault None k false) e
wrong_label None (continuation_label e) = ap (λ k. fault None k false) e
wrong_label (Some p) (initial_label e) = ap (λ k. fault (Some p) k false) e
wrong_label (Some p) (continuation_label e) = ap (λ k. fault (Some p) k false) e

pub data NoComment : LineKind → Type 0 where
  initial : {k : LineKind} → k ≡ kind.Initial → NoComment k
  end : {k : LineKind} → k ≡ kind.End → NoComment k
  continuation : {k : LineKind} → k ≡ kind.Continuation → NoComment k
  label : {k : LineKind} → k ≡ kind.BadLabel → NoComment k
  labelled : {k : LineKind} → k ≡ kind.LabelledContinuation → NoComment k

strange_fault : (place : Option Progress) {k : LineKind} → NoComment k → fault place k true ≡ Some 1
strange_fault None (initial e) = ap (λ k. fault None k true) e
strange_fault None (end e) = ap (λ k. fault None k true) e
strange_fault None (continuation e) = ap (λ k. fault None k true) e
strange_fault None (label e) = ap (λ k. fault None k true) e
strange_fault None (labelled e) = ap (λ k. fault None k true) e
strange_fault (Some p) (initial e) = ap (λ k. fault (Some p) k true) e
strange_fault (Some p) (end e) = ap (λ k. fault (Some p) k true) e
strange_fault (Some p) (continuation e) = ap (λ k. fault (Some p) k true) e
strange_fault (Some p) (label e) = ap (λ k. fault (Some p) k true) e
strange_fault (Some p) (labelled e) = ap (λ k. fault (Some p) k true) e

after_comment : (p : Option Progress) (f : Text) → after p kind.Comment f ≡ p
after_comment None f = refl
after_comment (Some p) f = refl

after_initial : (p : Option Progress) (f : Text) → after p kind.Initial f ≡ Some (record { more = 0; fields = f })
after_initial None f = refl
after_initial (Some p) f = refl

after_end : (p : Option Progress) (f : Text) → after p kind.End f ≡ None
after_end None f = refl
after_end (Some p) f = refl

nothing_open : (last : Option Group) → None ≡ option_map open_of last → last ≡ None
nothing_open None e = refl
nothing_open (Some g) e = absurd cc

-- whether column 7 is inside a literal, by a group in progress
inside_of : (last : Option Group) (k : LineKind) → inside_at (option_map progress_of last) k ≡ inside_current (option_map open_of last) k
inside_of None kind.Comment = refl
inside_of None kind.Initial = refl
inside_of None kind.End = refl
inside_of None kind.Continuation = refl
inside_of None kind.BadLabel = refl
inside_of None kind.LabelledContinuation = refl
inside_of (Some g) kind.Comment = refl
inside_of (Some g) kind.Initial = refl
inside_of (Some g) kind.End = refl
inside_of (Some g) kind.Continuation = refl
inside_of (Some g) kind.BadLabel = refl
inside_of (Some g) kind.LabelledContinuation = refl

inside_initial : (place : Option Progress) → inside_at place kind.Initial ≡ false
inside_initial None = refl
inside_initial (Some p) = refl

inside_end : (place : Option Progress) → inside_at place kind.End ≡ false
inside_end None = refl
inside_end (Some p) = refl

initial_plain : (line : Text) (place : Option Progress) → kind_at line ≡ kind.Initial → card_strange false (columns line) ≡ false → fault_at place line ≡ None
initial_plain line place e plain = fault_by line place kind.Initial e (ap (λ i. card_strange i (columns line)) (inside_initial place) ∙ plain) ∙ plain_initial place

end_plain : (line : Text) (place : Option Progress) → kind_at line ≡ kind.End → card_strange false (columns line) ≡ false → fault_at place line ≡ None
end_plain line place e plain = fault_by line place kind.End e (ap (λ i. card_strange i (columns line)) (inside_end place) ∙ plain) ∙ plain_end place

abbrev grouped : Option Group → List Group
grouped None = []
grouped (Some g) = g ∷ []

grouped_cards : (last : Option Group) → flat_map cards_of (grouped last) ≡ open_cards last
grouped_cards None = refl
grouped_cards (Some g) = append-nil (cards_of g)

grouped_all : (last : Option Group) → IsOpen last → All IsStatement (grouped last)
grouped_all None h = All-nil IsStatement
grouped_all (Some g) h = All-push IsStatement [] g (All-nil IsStatement) h

grouped_lines : (last : Option Group) → closed (option_map open_of last) ≡ map statement_of (grouped last)
grouped_lines None = refl
grouped_lines (Some g) = refl

-- ---- numbers

told_more : (n next : ℕ) → next ≡ told n → told (next + 1) ≡ told (n + 1)
told_more n next e = omega (arith, e)

next_plain : (seen : List Text) (line : Text) (next : ℕ) → next ≡ told (number_after seen) → number_after (seen ++ line ∷ []) ≡ number_after seen + 1 → told (next + 1) ≡ told (number_after (seen ++ line ∷ []))
next_plain seen line next e f = told_more (number_after seen) next e ∙ ap told (sym f)

cards_next : {k : LineKind} (seen : List Text) (line : Text) → kind_at line ≡ k → cards_from 1 (seen ++ line ∷ []) ≡ cards_from 1 seen ++ card_of (number_after seen) line k
cards_next seen line e = cards_more seen line ∙ ap (λ k. cards_from 1 seen ++ card_of (number_after seen) line k) e

-- ---- a comment line

pub stands_comment : {seen : List Text} {u : List UnitText} {d : List Line} {o : Option Current} {next : ℕ} (line : Text) → kind_at line ≡ kind.Comment → Stands seen u d o next → Stands (seen ++ line ∷ []) u d o (told (next + 1))
stands_comment {seen} {next = next} line k s = record {
  parts = s.parts;
  body = s.body;
  last = s.last;
  cards = cards_next seen line k ∙ (append-nil (cards_from 1 seen) ∙ s.cards);
  each = s.each;
  statements = s.statements;
  opened = s.opened;
  units = s.units;
  named = s.named;
  statements_are = s.statements_are;
  last_is = s.last_is;
  begun = s.begun;
  place = place_more seen line ∙ (ap (λ k. after (place_of seen) k (field_at line)) k ∙ (after_comment (place_of seen) (field_at line) ∙ s.place));
  numbered = next_plain seen line next s.numbered (number_more seen line ∙ ap (next_number (number_after seen)) k);
  none = no_fault_more line s.none (comment_fault line (place_of seen) k);
}

-- the cards so far, with a group that is closed
closed_cards : {seen : List Text} {u : List UnitText} {d : List Line} {o : Option Current} {next : ℕ} (s : Stands seen u d o next) → cards_from 1 seen ≡ flat_map (λ p. flat_map cards_of (groups_of p)) s.parts ++ flat_map cards_of (s.body ++ grouped s.last)
closed_cards s =
    s.cards ∙ (append_assoc (flat_map (λ p. flat_map cards_of (groups_of p)) s.parts) (flat_map cards_of s.body) (open_cards s.last)
    ∙ ap (λ cs. flat_map (λ p. flat_map cards_of (groups_of p)) s.parts ++ cs)
    (ap (λ cs. flat_map cards_of s.body ++ cs) (sym (grouped_cards s.last)) ∙ sym (flat_map-append cards_of s.body (grouped s.last))))

closed_lines : {seen : List Text} {u : List UnitText} {d : List Line} {o : Option Current} {next : ℕ} (s : Stands seen u d o next) → d ++ closed o ≡ map statement_of (s.body ++ grouped s.last)
closed_lines {d = d} s =
    ap (λ o. d ++ closed o) s.last_is ∙ (ap (λ d. d ++ closed (option_map open_of s.last)) s.statements_are
    ∙ (ap (λ ls. map statement_of s.body ++ ls) (grouped_lines s.last) ∙ sym (map-append statement_of s.body (grouped s.last))))

abbrev new_group : ℕ → Text → Group
new_group n line = record { first = record { number = n; line = line }; more = [] }

new_open : (n : ℕ) (line : Text) → begun_at (told n) (columns line) ≡ open_of (new_group n line)
unfolding statement_of field_at
new_open n line =
    ap (λ (f : Text). let c : Current = record { line = record { label = value_of (label_field (columns line)); line = told n; text = text_from false f }; more = 0; inside = inside_from false f } in c)
    (sym (append-nil (text_field (columns line))))

new_statement : (n : ℕ) (line : Text) → (begun_at (told n) (columns line)).line ≡ statement_of (new_group n line)
new_statement n line = ap (λ (c : Current). c.line) (new_open n line)

new_progress : (n : ℕ) (line : Text) → Some (record { more = 0; fields = field_at line }) ≡ Some (progress_of (new_group n line))
new_progress n line = ap (λ (f : Text). let p : Option Progress = Some (record { more = 0; fields = f }) in p) (sym (append-nil (field_at line)))

pub stands_initial : {seen : List Text} {u : List UnitText} {d : List Line} {o : Option Current} {next : ℕ} (line : Text) → kind_at line ≡ kind.Initial → card_strange false (columns line) ≡ false → Stands seen u d o next →
    Stands (seen ++ line ∷ []) u (d ++ closed o) (Some (begun_at next (columns line))) (told (next + 1))
stands_initial {seen} {next = next} line k plain s =
    let g = new_group (number_after seen) line in
    record {
      parts = s.parts;
      body = s.body ++ grouped s.last;
      last = Some g;
      cards = cards_next seen line k ∙ ap (λ cs. cs ++ g.first ∷ []) (closed_cards s);
      each = s.each;
      statements = All-append IsStatement s.body (grouped s.last) s.statements (grouped_all s.last s.opened);
      opened = record { initial = k; continued = All-nil (λ c. kind_at c.line ≡ kind.Continuation); few = omega arith };
      units = s.units;
      named = s.named;
      statements_are = closed_lines s;
      last_is = ap (λ n. Some (begun_at n (columns line))) s.numbered ∙ ap Some (new_open (number_after seen) line);
      begun = λ e. cc;
      place = place_more seen line ∙ (ap (λ k. after (place_of seen) k (field_at line)) k ∙ (after_initial (place_of seen) (field_at line) ∙ new_progress (number_after seen) line));
      numbered = next_plain seen line next s.numbered (number_more seen line ∙ ap (next_number (number_after seen)) k);
      none = no_fault_more line s.none (initial_plain line (place_of seen) k plain);
    }

abbrev all_cards : List Parts → List Card
all_cards = flat_map (λ p. flat_map cards_of (groups_of p))

cards_of_parts : (parts : List Parts) (p : Parts) → all_cards (parts ++ p ∷ []) ≡ (all_cards parts ++ flat_map cards_of p.body) ++ cards_of p.last
cards_of_parts parts p =
    flat_map-append (λ p. flat_map cards_of (groups_of p)) parts (p ∷ [])
    ∙ (ap (λ cs. all_cards parts ++ cs) (append-nil (flat_map cards_of (groups_of p)) ∙ (flat_map-append cards_of p.body (p.last ∷ []) ∙ ap (λ cs. flat_map cards_of p.body ++ cs) (append-nil (cards_of p.last))))
    ∙ sym (append_assoc (all_cards parts) (flat_map cards_of p.body) (cards_of p.last)))

unit_statements : (p : Parts) (n next : ℕ) (line : Text) (ls : List Line) → ls ≡ map statement_of p.body → p.last ≡ new_group n line → next ≡ told n → ls ++ (begun_at next (columns line)).line ∷ [] ≡ statements_of p
unfolding statements_of
unit_statements p n next line ls e f h =
    ap (λ next. ls ++ (begun_at next (columns line)).line ∷ []) h
    ∙ (ap (λ l. ls ++ l ∷ []) (new_statement n line ∙ ap statement_of (sym f)) ∙ (ap (λ ls. ls ++ statement_of p.last ∷ []) e ∙ sym (map-append statement_of p.body (p.last ∷ []))))

pub stands_end : {seen : List Text} {reader behind : Reader} (line : Text) → kind_at line ≡ kind.End → card_strange false (columns line) ≡ false → StandsIn seen reader → IsClosed reader (columns line) behind → StandsIn (seen ++ line ∷ []) behind
stands_end {seen} {reader} {behind} line k plain s ended =
    let p : Parts = record { body = s.body ++ grouped s.last; last = new_group (number_after seen) line } in
    record {
      parts = s.parts ++ p ∷ [];
      body = [];
      last = None;
      cards = cards_next seen line k ∙ (ap (λ cs. cs ++ p.last.first ∷ []) (closed_cards s)
          ∙ (sym (cards_of_parts s.parts p) ∙ (sym (append-nil (all_cards (s.parts ++ p ∷ []))) ∙ sym (append-nil (all_cards (s.parts ++ p ∷ []) ++ [])))));
      each = All-push (λ p. IsUnit p.body p.last) s.parts p s.each
          (record { statements = All-append IsStatement s.body (grouped s.last) s.statements (grouped_all s.last s.opened); end = k; alone = refl });
      statements = All-nil IsStatement;
      opened = tt;
      units = ap (map (λ (u : UnitText). u.statements)) ended.units
          ∙ (map-append (λ (u : UnitText). u.statements) reader.units (ended.last ∷ [])
          ∙ (ap (λ us. us ++ ended.last.statements ∷ []) s.units
          ∙ (ap (λ ls. map statements_of s.parts ++ ls ∷ []) (ended.statements ∙ unit_statements p (number_after seen) reader.next line _ (closed_lines s) refl s.numbered)
          ∙ sym (map-append statements_of s.parts (p ∷ [])))));
      named = subst (All IsNamed) (sym ended.units) (All-push IsNamed reader.units ended.last s.named ended.named);
      statements_are = ended.done;
      last_is = ended.current;
      begun = λ e. refl;
      place = place_more seen line ∙ (ap (λ k. after (place_of seen) k (field_at line)) k ∙ after_end (place_of seen) (field_at line));
      numbered = ended.next_line ∙ ap told (sym (number_more seen line ∙ ap (next_number (number_after seen)) k));
      none = no_fault_more line s.none (end_plain line (place_of seen) k plain);
    }

some_same : {A : Type 0} {a b : A} → Some a ≡ Some b → a ≡ b
some_same e = cc

-- ---- a continuation line

record Open (c : Current) (last : Option Group) : Type 0 where
  group : Group
  is : last ≡ Some group
  current_is : c ≡ open_of group

open_at : {c : Current} (last : Option Group) → Some c ≡ option_map open_of last → Open c last
open_at None e = absurd cc
open_at (Some g) e = record { group = g; is = refl; current_is = some_same e }

abbrev with_card : Group → Card → Group
with_card g c = record { first = g.first; more = g.more ++ c ∷ [] }

fields_more : (g : Group) (c : Card) → fields_of (with_card g c) ≡ fields_of g ++ field_at c.line
fields_more g c =
    ap (λ f. field_at g.first.line ++ f) (flat_map-append (λ c. field_at c.line) g.more (c ∷ []) ∙ ap (λ f. flat_map (λ c. field_at c.line) g.more ++ f) (append-nil (field_at c.line)))
    ∙ sym (append_assoc (field_at g.first.line) (flat_map (λ c. field_at c.line) g.more) (field_at c.line))

longer_open : (g : Group) (n : ℕ) (line : Text) → longer (open_of g) (columns line) ≡ open_of (with_card g (record { number = n; line = line }))
unfolding statement_of field_at
longer_open g n line =
    let c : Card = record { number = n; line = line } in
    let joined = fields_more g c in
    let text : text_from false (fields_of g) ++ text_from (inside_from false (fields_of g)) (field_at line) ≡ text_from false (fields_of (with_card g c)) =
    sym (text_append false (fields_of g) (field_at line)) ∙ ap (text_from false) (sym joined) in
    let behind : inside_from (inside_from false (fields_of g)) (field_at line) ≡ inside_from false (fields_of (with_card g c)) =
    sym (inside_append false (fields_of g) (field_at line)) ∙ ap (inside_from false) (sym joined) in
    ap (λ (t : Text). let x : Current = record { line = record { label = (statement_of g).label; line = (statement_of g).line; text = t }; more = length g.more + 1; inside = inside_from (inside_from false (fields_of g)) (field_at line) } in x) text
    ∙ (ap (λ (m : ℕ). let x : Current = record { line = statement_of (with_card g c); more = m; inside = inside_from (inside_from false (fields_of g)) (field_at line) } in x) (sym (length-append g.more (c ∷ [])))
    ∙ ap (λ (b : Bool). let x : Current = record { line = statement_of (with_card g c); more = length (with_card g c).more; inside = b } in x) behind)

progress_more : (g : Group) (n : ℕ) (line : Text) → after (Some (progress_of g)) kind.Continuation (field_at line) ≡ Some (progress_of (with_card g (record { number = n; line = line })))
progress_more g n line =
    let c : Card = record { number = n; line = line } in
    ap (λ (m : ℕ). let x : Option Progress = Some (record { more = m; fields = fields_of g ++ field_at line }) in x) (sym (length-append g.more (c ∷ [])))
    ∙ ap (λ (f : Text). let x : Option Progress = Some (record { more = length (with_card g c).more; fields = f }) in x) (sym (fields_more g c))

few_plain : (p : Progress) → p.more < 19 → fault (Some p) kind.Continuation false ≡ None
few_plain p h = grind (arith, nat_tests)

many_fault : (p : Progress) → p.more ≡ 19 → fault (Some p) kind.Continuation false ≡ Some 4
many_fault p h = grind (arith, nat_tests)

place_open : {seen : List Text} {u : List UnitText} {d : List Line} {c : Current} {next : ℕ} (s : Stands seen u d (Some c) next) (o : Open c s.last) → place_of seen ≡ Some (progress_of o.group)
place_open s o = s.place ∙ ap (option_map progress_of) o.is

inside_open : {seen : List Text} {u : List UnitText} {d : List Line} {c : Current} {next : ℕ} (s : Stands seen u d (Some c) next) (o : Open c s.last) → inside_at (place_of seen) kind.Continuation ≡ c.inside
inside_open s o = ap (λ p. inside_at p kind.Continuation) (place_open s o) ∙ ap (λ (c : Current). c.inside) (sym o.current_is)

pub stands_continued : {seen : List Text} {u : List UnitText} {d : List Line} {c : Current} {next : ℕ} (line : Text) → kind_at line ≡ kind.Continuation → card_strange c.inside (columns line) ≡ false → c.more < 19 → Stands seen u d (Some c) next →
    Stands (seen ++ line ∷ []) u d (Some (longer c (columns line))) (told (next + 1))
stands_continued {seen} {c = c} {next = next} line k plain few s =
    let o = open_at s.last s.last_is in
    let card : Card = record { number = number_after seen; line = line } in
    let g = o.group in
    let shape : IsStatement g = subst IsOpen o.is s.opened in
    let count : c.more ≡ length g.more = ap (λ (c : Current). c.more) o.current_is in
    record {
      parts = s.parts;
      body = s.body;
      last = Some (with_card g card);
      cards = cards_next seen line k ∙ (ap (λ cs. cs ++ card ∷ []) (s.cards ∙ ap (λ last. (all_cards s.parts ++ flat_map cards_of s.body) ++ open_cards last) o.is)
          ∙ append_assoc (all_cards s.parts ++ flat_map cards_of s.body) (cards_of g) (card ∷ []));
      each = s.each;
      statements = s.statements;
      opened = record {
        initial = shape.initial;
        continued = All-push (λ c. kind_at c.line ≡ kind.Continuation) g.more card shape.continued k;
        few = omega (arith, length-append g.more (card ∷ []), count, few);
      };
      units = s.units;
      named = s.named;
      statements_are = s.statements_are;
      last_is = ap (λ c. Some (longer c (columns line))) o.current_is ∙ ap Some (longer_open g (number_after seen) line);
      begun = λ e. cc;
      place = place_more seen line ∙ (ap (λ k. after (place_of seen) k (field_at line)) k ∙ (ap (λ p. after p kind.Continuation (field_at line)) (place_open s o) ∙ progress_more g (number_after seen) line));
      numbered = next_plain seen line next s.numbered (number_more seen line ∙ ap (next_number (number_after seen)) k);
      none = no_fault_more line s.none (fault_by line (place_of seen) kind.Continuation k (ap (λ i. card_strange i (columns line)) (inside_open s o) ∙ plain)
          ∙ (ap (λ p. fault p kind.Continuation false) (place_open s o) ∙ few_plain (progress_of g) (omega (arith, count, few))));
    }

-- ---- faults

pub inside_same : {seen : List Text} {u : List UnitText} {d : List Line} {next : ℕ} (o : Option Current) (k : LineKind) → Stands seen u d o next → inside_at (place_of seen) k ≡ inside_current o k
inside_same {seen} o k s = ap (λ p. inside_at p k) s.place ∙ (inside_of s.last k ∙ ap (λ o. inside_current o k) (sym s.last_is))

closed_place : {seen : List Text} {u : List UnitText} {d : List Line} {next : ℕ} (s : Stands seen u d None next) → place_of seen ≡ None
closed_place s = s.place ∙ ap (option_map progress_of) (nothing_open s.last s.last_is)

explained : {lines : List Text} (e : Refused) (number at : ℕ) → RefusesAt e number at → FirstFault lines number at → Explains e lines
explained {lines} (Fault f) number at h first = record { at = at; first = subst (λ n. FirstFault lines n at) (sym h.0) first; unit = h.1; line = h.2; limit = h.3 }
explained OutOfMemory number at h first = tt

first_here : {seen : List Text} {u : List UnitText} {d : List Line} {o : Option Current} {next : ℕ} (e : Refused) (number at : ℕ) (line : Text) (rest : List Text) → RefusesAt e number at → at ≡ length seen + 1 → fault_at (place_of seen) line ≡ Some number → Stands seen u d o next → Explains e (seen ++ line ∷ rest)
first_here {seen} e number at line rest h numbered f s = explained e number at h (at_line seen line rest refl numbered s.none f)

pub first_strange : {seen : List Text} {u : List UnitText} {d : List Line} {o : Option Current} {next : ℕ} (e : Refused) (at : ℕ) (k : LineKind) (line : Text) (rest : List Text) → RefusesAt e 1 at → at ≡ length seen + 1 → NoComment k → kind_at line ≡ k → card_strange (inside_current o k) (columns line) ≡ true → Stands seen u d o next → Explains e (seen ++ line ∷ rest)
first_strange {seen} {o = o} e at k line rest h numbered no_comment is strange s =
    first_here e 1 at line rest h numbered (fault_by line (place_of seen) k is (ap (λ i. card_strange i (columns line)) (inside_same o k s) ∙ strange) ∙ strange_fault (place_of seen) no_comment) s

pub first_label : {seen : List Text} {u : List UnitText} {d : List Line} {o : Option Current} {next : ℕ} (e : Refused) (at : ℕ) (k : LineKind) (line : Text) (rest : List Text) → RefusesAt e 2 at → at ≡ length seen + 1 → WrongLabel k → kind_at line ≡ k → card_strange (inside_current o k) (columns line) ≡ false → Stands seen u d o next → Explains e (seen ++ line ∷ rest)
first_label {seen} {o = o} e at k line rest h numbered wrong is plain s =
    first_here e 2 at line rest h numbered (fault_by line (place_of seen) k is (ap (λ i. card_strange i (columns line)) (inside_same o k s) ∙ plain) ∙ wrong_label (place_of seen) wrong) s

pub first_lone : {seen : List Text} {u : List UnitText} {d : List Line} {next : ℕ} (e : Refused) (at : ℕ) (line : Text) (rest : List Text) → RefusesAt e 3 at → at ≡ length seen + 1 → kind_at line ≡ kind.Continuation → card_strange false (columns line) ≡ false → Stands seen u d None next → Explains e (seen ++ line ∷ rest)
first_lone {seen} e at line rest h numbered is plain s =
    first_here e 3 at line rest h numbered
    (fault_by line (place_of seen) kind.Continuation is (ap (λ i. card_strange i (columns line)) (inside_same None kind.Continuation s) ∙ plain) ∙ ap (λ p. fault p kind.Continuation false) (closed_place s)) s

pub first_many : {seen : List Text} {u : List UnitText} {d : List Line} {c : Current} {next : ℕ} (e : Refused) (at : ℕ) (line : Text) (rest : List Text) → RefusesAt e 4 at → at ≡ length seen + 1 → kind_at line ≡ kind.Continuation → card_strange c.inside (columns line) ≡ false → 19 ≤ c.more → Stands seen u d (Some c) next → Explains e (seen ++ line ∷ rest)
first_many {seen} {c = c} e at line rest h numbered is plain many s =
    let o = open_at s.last s.last_is in
    let shape : IsStatement o.group = subst IsOpen o.is s.opened in
    let count : c.more ≡ length o.group.more = ap (λ (c : Current). c.more) o.current_is in
    first_here e 4 at line rest h numbered
    (fault_by line (place_of seen) kind.Continuation is (ap (λ i. card_strange i (columns line)) (inside_open s o) ∙ plain)
    ∙ (ap (λ p. fault p kind.Continuation false) (place_open s o) ∙ many_fault (progress_of o.group) (omega (arith, shape.few, count, many)))) s

-- ---- the end

pub first_end : {seen : List Text} {u : List UnitText} {d : List Line} {next at : ℕ} (o : Option Current) (e : Refused) → is_some o ≡ true → RefusesAt e 5 at → at ≡ length seen → Stands seen u d o next → Explains e seen
first_end None e some h numbered s = absurd cc
first_end {at = at} (Some c) e some h numbered s =
    let o = open_at s.last s.last_is in explained e 5 at h (at_the_end (progress_of o.group) s.none (place_open s o) refl numbered)

pub reads_all : {seen : List Text} {u : List UnitText} {d : List Line} {next : ℕ} → Stands seen u d None next → Reads seen u
reads_all s =
    let none = nothing_open s.last s.last_is in
    record {
      parts = s.parts;
      cards = s.cards ∙ (ap (λ last. (all_cards s.parts ++ flat_map cards_of s.body) ++ open_cards last) none
          ∙ (ap (λ body. (all_cards s.parts ++ flat_map cards_of body) ++ []) (s.begun none) ∙ (append-nil (all_cards s.parts ++ []) ∙ append-nil (all_cards s.parts))));
      each = s.each;
      units = s.units;
      named = s.named;
      faultless = s.none;
    }

pub stands_start : Stands [] [] [] None 1
unfolding cards_from place_of number_after
stands_start = record {
  parts = [];
  body = [];
  last = None;
  cards = refl;
  each = All-nil (λ p. IsUnit p.body p.last);
  statements = All-nil IsStatement;
  opened = tt;
  units = refl;
  named = All-nil IsNamed;
  statements_are = refl;
  last_is = refl;
  begun = λ e. refl;
  place = refl;
  numbered = refl;
  none = record { none = λ before line rest e. absurd (omega (arith, ap length e, length-append before (line ∷ rest))) };
}

-- ---- the kind of a card

no_comment_of : (a b c d : Bool) → NoComment (cond a (cond b (cond c kind.End kind.Initial) kind.BadLabel) (cond d kind.Continuation kind.LabelledContinuation))
no_comment_of true true true d = end refl
no_comment_of true true false d = initial refl
no_comment_of true false c d = label refl
no_comment_of false b c true = continuation refl
no_comment_of false b c false = labelled refl

pub no_comment : (card : Text) → NoComment (statement_kind card)
unfolding statement_kind
no_comment card = no_comment_of (is_initial (get_or card 5 0)) (is_label (label_field card)) (is_end (text_field card)) (is_blank (label_field card))

pub kind_here : {seen : List Text} {line card : Text} {n : ℕ} (found : LineKind) → IsNextCard seen line n card → found ≡ statement_kind card → kind_at line ≡ found
unfolding kind_at kind_of
kind_here {card = card} found next e = ap kind_of (sym next.card_is) ∙ (ap (λ (b : Bool). cond b kind.Comment (statement_kind card)) next.no_comment ∙ sym e)

pub comment_here : (line : Text) → is_comment (columns line) ≡ true → kind_at line ≡ kind.Comment
unfolding kind_at kind_of
comment_here line e = ap (λ (b : Bool). cond b kind.Comment (statement_kind (columns line))) e

pub plain : {card : Text} {i j b : Bool} (line : Text) → card ≡ columns line → b ≡ card_strange i card → b ≡ false → i ≡ j → card_strange j (columns line) ≡ false
plain {card} {i} {j} line e f g h = ap (card_strange j) (sym e) ∙ (ap (λ i. card_strange i card) (sym h) ∙ (sym f ∙ g))

pub outside_initial : (o : Option Current) → inside_current o kind.Initial ≡ false
outside_initial None = refl
outside_initial (Some c) = refl

pub outside_end : (o : Option Current) → inside_current o kind.End ≡ false
outside_end None = refl
outside_end (Some c) = refl
