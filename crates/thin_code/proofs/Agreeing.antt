-- The executable agrees with the program.
use Rattle.std.proofs.Common.{◌≡◌, ℕ, ◌+◌, ◌*◌, ◌≤◌, List, [], ◌∷◌, ◌++◌, length, take, drop, Bool, true, false, refl, sym, ap, ◌∙◌, subst, append_assoc, append-nil, arith, lit<}
use Rattle.std.specs.Prelude.{nat_le}
use Rattle.std.specs.List.{All}
use Rattle.std.proofs.lemmas.List.{take-append-drop, take_all, drop_all}
use Rattle.std.proofs.lemmas.Bool.Decides.{nat_tests}
use Rattle.std.proofs.lemmas.List.Elements.{All-take}
use Rattle.thin_form.specs.declared.statement.Statement.{Statement}
use Rattle.thin_form.specs.declared.statement.Statement.TheVariants.{End}
use Rattle.thin_form.specs.Programs.{IsPlain}
use Rattle.rv_isa.specs.declared.inst.Inst.{Inst}
use Rattle.rv_machine.specs.declared.outcome.Outcome.TheVariants.{Halted, Trap}
use Rattle.rv_machine.specs.declared.outcome.TrapCause.{TrapCause}
use Rattle.rv_machine.specs.Machine.{State, run, output, set_reg}
use Rattle.rv_machine.proofs.Steps.{halted_over, trap_over, stays}
use Rattle.rv_code.specs.Line.{Goes, HasAt, IsNear, distance}
use Rattle.rv_code.specs.Pieces.{Ready as Runs, jump_code, halt_code}
use Rattle.rv_code.proofs.Lines.{goes_then, ready_first, has-rest}
use Rattle.rv_code.proofs.Pieces.{jump_goes}
use Rattle.thin_code.specs.Code.{Frame, body_code, program_code}
use Rattle.thin_code.proofs.Effects.{IsSound}
use Rattle.thin_code.proofs.Acting.{Ready, Acts, halts}
use Rattle.thin_code.proofs.Bodies.{text_of, memory_of, acts_statements, body_code-append}
use Rattle.thin_code.proofs.Counts.{body_words, length-body}

-- ---- the machine's run of a program in a frame

-- the machine at the start of the code of statements and END
pub record Begun (f : Frame) (front : List Statement) (s : State) : Type 0 where
  pub ready : Ready f (program_code f (front ++ End ∷ [])) 65536 s
  pub plain : All IsPlain front
  pub sound : All (IsSound f) front

-- so many instructions behind the start the statements up to n are done
pub record Done (f : Frame) (front : List Statement) (s : State) (n : ℕ) : Type 0 where
  pub then : State
  pub goes : Goes (2 + body_words (take n front)) s then (text_of f s.mem (take n front))
  pub ready : Ready f (body_code f (65544 + 4 * body_words (take n front)) (drop n front ++ End ∷ [])) (65544 + 4 * body_words (take n front)) then

-- the call pair
acts_jump : (f : Frame) (rest : List Inst) (s : State) → Ready f (jump_code 65536 65544 ++ rest) 65536 s → Acts f rest 65536 2 s s.mem []
acts_jump f rest s r =
    let regs = set_reg 1 (s.pc + 8) s.regs in
    let code : HasAt s.mem s.code_end 65536 (jump_code 65536 65544 ++ rest) = subst (λ p. HasAt s.mem s.code_end p (jump_code 65536 65544 ++ rest)) r.at r.runs.here in
    let near : IsNear (distance s.pc 65544) = omega (arith, r.at) in
    let q = subst (λ p. Runs s (jump_code p 65544 ++ rest)) (sym r.at) r.runs in
    record {
      then = record s { pc = 65544; regs = regs };
      goes = jump_goes s 65544 (lit< tt) refl near (ready_first s (jump_code s.pc 65544) rest q);
      ready = record {
        at = refl;
        runs = record { runs = r.runs.runs; here = has-rest s.mem s.code_end 65536 (jump_code 65536 65544) rest code; apart = r.runs.apart; within = r.runs.within; below = r.runs.below };
        zero = refl;
        low = omega arith;
        data_is = r.data_is;
        end_is = r.end_is;
        aligned = r.aligned;
        near = r.near;
      };
      mem = refl;
    }

-- the code of a program up to statement n, and the rest
cut : (f : Frame) (front : List Statement) (n : ℕ) → body_code f 65544 (front ++ End ∷ []) ≡ body_code f 65544 (take n front) ++ body_code f (65544 + 4 * body_words (take n front)) (drop n front ++ End ∷ [])
cut f front n =
    let e : front ++ End ∷ [] ≡ take n front ++ (drop n front ++ End ∷ []) = ap (λ xs. xs ++ End ∷ []) (sym (take-append-drop n front)) ∙ append_assoc (take n front) (drop n front) (End ∷ []) in
    ap (body_code f 65544) e ∙ body_code-append f 65544 (take n front) (drop n front ++ End ∷ [])
    ∙ ap (λ k. body_code f 65544 (take n front) ++ body_code f (65544 + 4 * k) (drop n front ++ End ∷ [])) (length-body f 65544 (take n front))

pub done : (f : Frame) (front : List Statement) (s : State) (n : ℕ) → Begun f front s → Done f front s n
done f front s n b =
    let xs = take n front in
    let A = body_code f 65544 xs in
    let B = body_code f (65544 + 4 * body_words xs) (drop n front ++ End ∷ []) in
    let r : Ready f (jump_code 65536 65544 ++ (A ++ B)) 65536 s = subst (λ c. Ready f (jump_code 65536 65544 ++ c) 65536 s) (cut f front n) b.ready in
    let one = acts_jump f (A ++ B) s r in
    let two = acts_statements f B 65544 one.then xs (All-take IsPlain n front b.plain) (All-take (IsSound f) n front b.sound) one.ready in
    let two' = subst (λ m. Acts f B 65544 (length A) one.then (memory_of f m xs) (text_of f m xs)) one.mem two in
    let words : 2 + length A ≡ 2 + body_words xs = ap (λ k. 2 + k) (length-body f 65544 xs) in
    let at : 65544 + 4 * length A ≡ 65544 + 4 * body_words xs = ap (λ k. 65544 + 4 * k) (length-body f 65544 xs) in
    record {
      then = two'.then;
      goes = subst (λ k. Goes k s two'.then (text_of f s.mem xs)) words (goes_then one.goes two'.goes);
      ready = subst (λ p. Ready f B p two'.then) at two'.ready;
    }

-- END halts behind the last statement.
pub record Over (f : Frame) (front : List Statement) (s : State) : Type 0 where
  pub halts : (run (5 + body_words front) s).outcome ≡ Halted 0
  pub prints : output (5 + body_words front) s ≡ text_of f s.mem front

pub over : (f : Frame) (front : List Statement) (s : State) → Begun f front s → Over f front s
over f front s b =
    let n = length front in
    let whole : take n front ≡ front = take_all n front (omega arith) in
    let none : drop n front ≡ [] = drop_all n front (omega arith) in
    let d = done f front s n b in
    let p = 65544 + 4 * body_words (take n front) in
    let r : Ready f halt_code p d.then = subst (λ ys. Ready f (body_code f p (ys ++ End ∷ [])) p d.then) none d.ready in
    let h = halts f [] p d.then r in
    let g = goes_then d.goes h.goes in
    let count : 2 + body_words (take n front) + 3 ≡ 5 + body_words front = ap (λ xs. 2 + body_words xs + 3) whole ∙ omega arith in
    let text : text_of f s.mem (take n front) ++ [] ≡ text_of f s.mem front = append-nil _ ∙ ap (text_of f s.mem) whole in
    record {
      halts = ap (λ k. (run k s).outcome) (sym count) ∙ ap (λ t. t.outcome) g.stands ∙ h.halted;
      prints = ap (λ k. output k s) (sym count) ∙ g.prints ∙ text;
    }

-- a machine that halts never traps, and stays as it is
pub never_traps : (s : State) (m k pc : ℕ) (c : TrapCause) → (run k s).outcome ≡ Halted 0 → (run m s).outcome ≡ Trap pc c → ⊥
never_traps s m k pc c h t = go (nat_le m k) refl
  where
    go : (b : Bool) → nat_le m k ≡ b → ⊥
    go true e =
        let l : m ≤ k = grind (arith, nat_tests, e) in
        let w = stays s m k l (trap_over (run m s) pc c t) in
        let z : Halted 0 ≡ Trap pc c = sym h ∙ ap (λ u. u.outcome) w.stands ∙ t in cc
    go false e =
        let l : k ≤ m = grind (arith, nat_tests, e) in
        let w = stays s k m l (halted_over (run k s) 0 h) in
        let z : Halted 0 ≡ Trap pc c = sym h ∙ ap (λ u. u.outcome) (sym w.stands) ∙ t in cc

pub stays_halted : (s : State) (k m : ℕ) → k ≤ m → (run k s).outcome ≡ Halted 0 → (run m s).outcome ≡ Halted 0
stays_halted s k m l h = ap (λ u. u.outcome) (stays s k m l (halted_over (run k s) 0 h)).stands ∙ h
