-- The code of statements, one after another.
use Rattle.std.proofs.Common.{◌≡◌, ℕ, suc, ◌+◌, ◌*◌, List, [], ◌∷◌, ◌++◌, length, sym, ap, ◌∙◌, subst, append_assoc, arith, length-append}
use Rattle.std.specs.List.{All}
use Rattle.rv_isa.specs.declared.inst.Inst.{Inst}
use Rattle.thin_form.specs.declared.statement.Statement.{Statement}
use Rattle.thin_form.specs.declared.statement.Statement.TheVariants.{Assign, Print, End}
use Rattle.thin_form.specs.Programs.{IsPlain}
use Rattle.rv_machine.specs.Memory.{Memory, write}
use Rattle.rv_machine.specs.Machine.{State}
use Rattle.rv_code.specs.Pieces.{save_code, line_code}
use Rattle.thin_code.specs.Code.{Frame, address_of, sum_code, record_code, statement_code, body_code}
use Rattle.thin_code.proofs.Acting.{Ready, ready_split, Acts, acts_save, acts_line, acts_none, acts_then}
use Rattle.thin_code.proofs.Sums.{lies, sums}
use Rattle.thin_code.proofs.Prints.{acts_record}
use Rattle.thin_code.proofs.Effects.{word_of, sum_of, memory_after, record_text, statement_text, IsSound}

-- a statement that isn't END
pub acts_statement : (f : Frame) (rest : List Inst) (p : ℕ) (s : State) (x : Statement) → IsPlain x → IsSound f x → Ready f (statement_code f p x ++ rest) p s → Acts f rest p (length (statement_code f p x)) s (memory_after f s.mem x) (statement_text f s.mem x)
acts_statement f rest p s (Assign target first more) h i r =
    let A = sum_code f p first more in
    let B = save_code (p + 4 * length A) (address_of f target) 5 in
    let one = sums f (B ++ rest) p s first more i.begins i.goes_on (ready_split f A B rest p s r) in
    let v = sum_of f s.mem (word_of f s.mem first) more in
    let two = acts_save f rest (p + 4 * length A) one.then (address_of f target) v one.value (lies f target r.aligned i.placed) one.ready in
    let two' = subst (λ m. Acts f rest (p + 4 * length A) 3 one.then (write 8 (address_of f target) v m) []) one.mem two in
    let one' : Acts f (B ++ rest) p (length A) s s.mem [] = record { then = one.then; goes = one.goes; ready = one.ready; mem = one.mem } in
    acts_then f rest (B ++ rest) p (length A) 3 (length (A ++ B)) s s.mem (write 8 (address_of f target) v s.mem) [] [] (sym (length-append A B)) one' two'
acts_statement f rest p s (Print items) h i r =
    let A = record_code f p items in
    let one = acts_record f (line_code ++ rest) p s items i (ready_split f A (line_code) rest p s r) in
    let two = acts_line f rest (p + 4 * length A) one.then one.ready in
    let two' = subst (λ m. Acts f rest (p + 4 * length A) 2 one.then m (10 ∷ [])) one.mem two in
    acts_then f rest (line_code ++ rest) p (length A) 2 (length (A ++ line_code)) s s.mem s.mem (record_text f s.mem items) (10 ∷ []) (sym (length-append A (line_code))) one two'
acts_statement f rest p s End h i r = absurd h

-- ---- statements one after another

abbrev pub memory_of : Frame → Memory → List Statement → Memory
memory_of f m [] = m
memory_of f m (x ∷ xs) = memory_of f (memory_after f m x) xs

abbrev pub text_of : Frame → Memory → List Statement → List ℕ
text_of f m [] = []
text_of f m (x ∷ xs) = statement_text f m x ++ text_of f (memory_after f m x) xs

pub acts_statements : (f : Frame) (rest : List Inst) (p : ℕ) (s : State) (xs : List Statement) → All IsPlain xs → All (IsSound f) xs → Ready f (body_code f p xs ++ rest) p s → Acts f rest p (length (body_code f p xs)) s (memory_of f s.mem xs) (text_of f s.mem xs)
acts_statements f rest p s [] h i r = acts_none f rest p s r
acts_statements f rest p s (x ∷ xs) h i r =
    let A = statement_code f p x in
    let B = body_code f (p + 4 * length A) xs in
    let one = acts_statement f (B ++ rest) p s x (h 0 x (omega arith)) (i 0 x (omega arith)) (ready_split f A B rest p s r) in
    let two = acts_statements f rest (p + 4 * length A) one.then xs (λ k d l. h (suc k) d (omega arith)) (λ k d l. i (suc k) d (omega arith)) one.ready in
    let m = memory_after f s.mem x in
    let two' = subst (λ m. Acts f rest (p + 4 * length A) (length B) one.then (memory_of f m xs) (text_of f m xs)) one.mem two in
    acts_then f rest (B ++ rest) p (length A) (length B) (length (A ++ B)) s m (memory_of f m xs) (statement_text f s.mem x) (text_of f m xs) (sym (length-append A B)) one two'

-- the code of a list in two parts
pub body_code-append : (f : Frame) (p : ℕ) (xs ys : List Statement) → body_code f p (xs ++ ys) ≡ body_code f p xs ++ body_code f (p + 4 * length (body_code f p xs)) ys
body_code-append f p [] ys = let z : p ≡ p + 4 * 0 = omega arith in ap (λ q. body_code f q ys) z
body_code-append f p (x ∷ xs) ys =
    let A = statement_code f p x in
    let q = p + 4 * length A in
    let B = body_code f q xs in
    let z : q + 4 * length B ≡ p + 4 * length (A ++ B) = omega (arith, length-append A B) in
    ap (λ c. A ++ c) (body_code-append f q xs ys) ∙ sym (append_assoc A B (body_code f (q + 4 * length B) ys)) ∙ ap (λ o. (A ++ B) ++ body_code f o ys) z
