-- The code of sums.
use Rattle.std.proofs.Common.{◌≡◌, ℕ, suc, ◌+◌, ◌*◌, ◌%◌, ◌^◌, ◌<◌, List, [], ◌∷◌, ◌++◌, length, refl, sym, ap, ◌∙◌, subst, arith, lit<, length-append}
use Rattle.std.specs.List.{All}
use Rattle.rv_isa.specs.declared.inst.Inst.{Inst}
use Rattle.thin_form.specs.declared.statement.Term.{Term}
use Rattle.thin_form.specs.declared.statement.Term.TheVariants.{Variable, Integer}
use Rattle.thin_form.specs.declared.statement.Addend.{Addend}
use Rattle.run_model.specs.Storage.{Name}
use Rattle.rv_machine.specs.Machine.{State, bits_of}
use Rattle.rv_code.specs.Line.{Goes}
use Rattle.rv_code.specs.Pieces.{operation_code}
use Rattle.rv_code.proofs.Lines.{goes_then, goes_none}
use Rattle.thin_code.specs.Code.{Frame, address_of, term_code, operation, addend_code, addends_code, sum_code}
use Rattle.thin_code.proofs.Acting.{Ready, ready_split, Puts, Lies, puts_constant, puts_load, operates}
use Rattle.thin_code.proofs.Effects.{word_of, joined_words, sum_of, IsPlaced, IsSoundTerm}

pub lies : (f : Frame) (name : Name) → f.data_at % 8 ≡ 0 → IsPlaced f name → Lies f (address_of f name)
lies f name h i = record { from_start = omega arith; to_end = omega arith; on_unit = omega arith }

-- a term
pub puts_term : (f : Frame) (rest : List Inst) (p : ℕ) (s : State) (d : ℕ) (t : Term) → 0 < d → d < 32 → IsSoundTerm f t → Ready f (term_code f d p t ++ rest) p s → Puts f rest p (length (term_code f d p t)) s d (word_of f s.mem t)
puts_term f rest p s d (Variable name) h0 h1 i r = puts_load f rest p s d (address_of f name) h0 (lies f name r.aligned i) r
puts_term f rest p s d (Integer value) h0 h1 i r =
    let small : bits_of value < 2 ^ 64 = subst (λ z. bits_of z < 2 ^ 64) (sym i.1.1) (omega (arith, i.1.0)) in
    puts_constant f rest p s d (bits_of value) h0 h1 small r

-- words that leave a sum in register 5
pub record Sums (f : Frame) (rest : List Inst) (p n : ℕ) (s : State) (v : ℕ) : Type 0 where
  pub then : State
  pub goes : Goes n s then []
  pub ready : Ready f rest (p + 4 * n) then
  pub mem : then.mem ≡ s.mem
  pub value : then.regs 5 ≡ v

sums_put : (f : Frame) (rest : List Inst) (p n : ℕ) (s : State) (v : ℕ) → Puts f rest p n s 5 v → Sums f rest p n s v
sums_put f rest p n s v a = record { then = a.then; goes = a.goes; ready = a.ready; mem = a.mem; value = ap (λ r. r 5) a.regs }

-- more words after a sum
sums_then : (f : Frame) (rest more : List Inst) (p n k m : ℕ) (s : State) (v w : ℕ) → n + k ≡ m → (a : Sums f more p n s v) → Sums f rest (p + 4 * n) k a.then w → Sums f rest p m s w
sums_then f rest more p n k m s v w e a b =
    let z : p + 4 * n + 4 * k ≡ p + 4 * m = omega (arith, e) in
    record {
      then = b.then;
      goes = subst (λ m. Goes m s b.then []) e (goes_then a.goes b.goes);
      ready = subst (λ q. Ready f rest q b.then) z b.ready;
      mem = b.mem ∙ a.mem;
      value = b.value;
    }

adds : (f : Frame) (rest : List Inst) (p : ℕ) (s : State) (a : Addend) (x : ℕ) → s.regs 5 ≡ x → IsSoundTerm f a.term → Ready f (addend_code f p a ++ rest) p s → Sums f rest p (length (addend_code f p a)) s (joined_words a.sign x (word_of f s.mem a.term))
adds f rest p s a x e i r =
    let T = term_code f 7 p a.term in
    let R = operation_code (operation a.sign) 5 5 7 in
    let one = puts_term f (R ++ rest) p s 7 a.term (lit< tt) (lit< tt) i (ready_split f T R rest p s r) in
    let y = word_of f s.mem a.term in
    let kept : Sums f (R ++ rest) p (length T) s x = record { then = one.then; goes = one.goes; ready = one.ready; mem = one.mem; value = ap (λ r. r 5) one.regs ∙ e } in
    let two = operates f rest (p + 4 * length T) one.then a.sign x y kept.value (ap (λ r. r 7) one.regs) one.ready in
    sums_then f rest (R ++ rest) p (length T) 1 (length (T ++ R)) s x (joined_words a.sign x y) (sym (length-append T R)) kept (sums_put f rest (p + 4 * length T) 1 one.then (joined_words a.sign x y) two)

adds_all : (f : Frame) (rest : List Inst) (p : ℕ) (s : State) (more : List Addend) (x : ℕ) → s.regs 5 ≡ x → All (λ a. IsSoundTerm f a.term) more → Ready f (addends_code f p more ++ rest) p s → Sums f rest p (length (addends_code f p more)) s (sum_of f s.mem x more)
adds_all f rest p s [] x e i r =
    let z : p ≡ p + 4 * 0 = omega arith in
    record { then = s; goes = goes_none s; ready = subst (λ q. Ready f rest q s) z r; mem = refl; value = e }
adds_all f rest p s (a ∷ more) x e i r =
    let A = addend_code f p a in
    let B = addends_code f (p + 4 * length A) more in
    let one = adds f (B ++ rest) p s a x e (i 0 a (omega arith)) (ready_split f A B rest p s r) in
    let y = joined_words a.sign x (word_of f s.mem a.term) in
    let two = adds_all f rest (p + 4 * length A) one.then more y one.value (λ k d h. i (suc k) d (omega arith)) one.ready in
    let two' : Sums f rest (p + 4 * length A) (length B) one.then (sum_of f s.mem y more) = subst (λ m. Sums f rest (p + 4 * length A) (length B) one.then (sum_of f m y more)) one.mem two in
    sums_then f rest (B ++ rest) p (length A) (length B) (length (A ++ B)) s y (sum_of f s.mem y more) (sym (length-append A B)) one two'

pub sums : (f : Frame) (rest : List Inst) (p : ℕ) (s : State) (first : Term) (more : List Addend) → IsSoundTerm f first → All (λ a. IsSoundTerm f a.term) more → Ready f (sum_code f p first more ++ rest) p s → Sums f rest p (length (sum_code f p first more)) s (sum_of f s.mem (word_of f s.mem first) more)
sums f rest p s first more i j r =
    let T = term_code f 5 p first in
    let B = addends_code f (p + 4 * length T) more in
    let x = word_of f s.mem first in
    let one = sums_put f (B ++ rest) p (length T) s x (puts_term f (B ++ rest) p s 5 first (lit< tt) (lit< tt) i (ready_split f T B rest p s r)) in
    let two = adds_all f rest (p + 4 * length T) one.then more x one.value j one.ready in
    let two' : Sums f rest (p + 4 * length T) (length B) one.then (sum_of f s.mem x more) = subst (λ m. Sums f rest (p + 4 * length T) (length B) one.then (sum_of f m x more)) one.mem two in
    sums_then f rest (B ++ rest) p (length T) (length B) (length (T ++ B)) s x (sum_of f s.mem x more) (sym (length-append T B)) one two'
