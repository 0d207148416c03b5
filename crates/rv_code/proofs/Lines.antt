-- Runs of straight-line code, piece by piece.
use Rattle.std.proofs.Common.{◌≡◌, ℕ, suc, ◌+◌, ◌*◌, ◌≤◌, List, [], ◌∷◌, ◌++◌, length, true, refl, ap, ◌∙◌, append-nil, subst, arith}
use Rattle.std.proofs.lemmas.Bool.Decides.{nat_tests}
use Rattle.rv_isa.specs.declared.inst.Inst.{Inst}
use Rattle.rv_isa.specs.Table.{encode_word}
use Rattle.rv_isa.proofs.Round.{decode-encode}
use Rattle.rv_machine.specs.declared.outcome.Outcome.TheVariants.{Running}
use Rattle.rv_machine.specs.Memory.{Memory, read, write}
use Rattle.rv_machine.specs.Machine.{State, step_prints, run, output, exec, prints, is_fetchable}
use Rattle.rv_machine.proofs.Steps.{Does, step_fetched, fetched-word, run-add, output-add}
use Rattle.rv_code.specs.Line.{HasAt, nil, more, Goes}
use Rattle.rv_code.specs.Pieces.{Ready}
use Rattle.rv_code.proofs.Writes.{code_stays}

-- ---- code where it stands

-- what an instruction at pc does
pub step_at : (s : State) (a : ℕ) (i : Inst) (is : List Inst) → s.pc ≡ a → s.outcome ≡ Running → HasAt s.mem s.code_end a (i ∷ is) → Does s (exec i s) (prints i s)
step_at s a i is p r (more l h g w rest) =
    let f : is_fetchable s ≡ true = grind (arith, nat_tests) in
    let e : read 4 s.mem s.pc ≡ encode_word i = ap (read 4 s.mem) p ∙ w in
    step_fetched s _ r f (fetched-word s (encode_word i) e ∙ decode-encode i g)

pub tail : (m : Memory) (e a : ℕ) (i : Inst) (is : List Inst) → HasAt m e a (i ∷ is) → HasAt m e (a + 4) is
tail m e a i is (more l h g w rest) = rest

pub ends : (m : Memory) (e a : ℕ) (i : Inst) (is : List Inst) → HasAt m e a (i ∷ is) → a + 4 ≤ e
ends m e a i is (more l h g w rest) = h

pub has-first : (m : Memory) (e a : ℕ) (is js : List Inst) → HasAt m e a (is ++ js) → HasAt m e a is
has-first m e a [] js h = nil
has-first m e a (i ∷ is) js (more l k g w rest) = more l k g w (has-first m e (a + 4) is js rest)

pub has-rest : (m : Memory) (e a : ℕ) (is js : List Inst) → HasAt m e a (is ++ js) → HasAt m e (a + 4 * length is) js
has-rest m e a [] js h = let z : a ≡ a + 4 * 0 = omega arith in subst (λ b. HasAt m e b js) z h
has-rest m e a (i ∷ is) js (more l k g w rest) =
    let z : a + 4 + 4 * length is ≡ a + 4 * suc (length is) = omega arith in
    subst (λ b. HasAt m e b js) z (has-rest m e (a + 4) is js rest)

-- ---- one piece after another

pub goes_then : {n k : ℕ} {s t u : State} {o p : List ℕ} → Goes n s t o → Goes k t u p → Goes (n + k) s u (o ++ p)
goes_then {n = n} {k = k} {s = s} {o = o} g h = record {
  stands = run-add n k s ∙ ap (run k) g.stands ∙ h.stands;
  prints = output-add n k s ∙ (λ i. g.prints i ++ output k (g.stands i)) ∙ ap (λ q. o ++ q) h.prints;
}

pub goes_one : {s t : State} {o : List ℕ} → Does s t o → Goes 1 s t o
goes_one {s = s} d = record { stands = d.stands; prints = append-nil (step_prints s) ∙ d.prints }

pub goes_none : (s : State) → Goes 0 s s []
goes_none s = record { stands = refl; prints = refl }

-- the end in another form
pub goes_to : {n : ℕ} {s t u : State} {o : List ℕ} → Goes n s t o → t ≡ u → Goes n s u o
goes_to g e = record { stands = g.stands ∙ e; prints = g.prints }

pub ready_first : (s : State) (is js : List Inst) → Ready s (is ++ js) → Ready s is
ready_first s is js h = record { runs = h.runs; here = has-first s.mem s.code_end s.pc is js h.here; apart = h.apart; within = h.within; below = h.below }

-- the rest of the code, from where a piece without a store ends
pub ready_rest : (s : State) (is js : List Inst) (regs : ℕ → ℕ) → Ready s (is ++ js) → Ready (record s { pc = s.pc + 4 * length is; regs = regs }) js
ready_rest s is js regs h = record { runs = h.runs; here = has-rest s.mem s.code_end s.pc is js h.here; apart = h.apart; within = h.within; below = h.below }

-- and from where a piece that stores to the data ends
pub ready_saved : (s : State) (is js : List Inst) (regs : ℕ → ℕ) (n to v : ℕ) → s.data_at ≤ to → Ready s (is ++ js) → Ready (record s { pc = s.pc + 4 * length is; regs = regs; mem = write n to v s.mem }) js
ready_saved s is js regs n to v l h =
    let apart = h.apart in
    record {
      runs = h.runs;
      here = code_stays s.mem s.code_end (s.pc + 4 * length is) n to v js (omega arith) (has-rest s.mem s.code_end s.pc is js h.here);
      apart = h.apart;
      within = h.within;
      below = h.below;
    }
