-- One step, and runs of steps.
use Rattle.std.proofs.Common.{◌≡◌, ◌≢◌, ℕ, zero, suc, ◌+◌, ◌-◌, ◌≤◌, List, [], ◌++◌, Option, true, false, cond, refl, sym, ap, ◌∙◌, subst, append_assoc, append-nil, arith}
use Rattle.std.specs.Prelude.{Result, Ok, Err, OnOk, OnErr}
use Rattle.std.specs.Io.KnownBytes.{Appends}
use Rattle.std.proofs.KnownBytes.{Appends-nil, Appends-trans}
use Rattle.rn_ports.specs.Sent.{AppendsPart}
use Rattle.rn_ports.proofs.Sending.{part_first, part_then}
use Rattle.rv_isa.specs.declared.inst.Inst.{Inst}
use Rattle.rv_isa.specs.Table.{decode_word}
use Rattle.rv_machine.specs.declared.outcome.Outcome.{Outcome}
use Rattle.rv_machine.specs.declared.outcome.Outcome.TheVariants.{Running, Halted, Trap}
use Rattle.rv_machine.specs.declared.outcome.TrapCause.{TrapCause}
use Rattle.rv_machine.specs.declared.outcome.TrapCause.TheVariants.{Unmapped}
use Rattle.rv_machine.specs.Memory.{read}
use Rattle.rv_machine.specs.Machine.{State, step, step_prints, step_by, prints_by, is_fetchable, fetched, exec_fetched, print_fetched, trap, run, output}
use Rattle.rv_machine.specs.Runs.{IsOver, Stays, RunsJoin, EndStays}

-- ---- one step

-- what a step does and prints
pub record Does (s : State) (after : State) (printed : List ℕ) : Type 0 where
  pub stands : step s ≡ after
  pub prints : step_prints s ≡ printed

pub fetched-word : (s : State) (w : ℕ) → read 4 s.mem s.pc ≡ w → fetched s ≡ decode_word w
unfolding fetched
fetched-word s w e = ap decode_word e

pub step_fetched : (s : State) (o : Option Inst) → s.outcome ≡ Running → is_fetchable s ≡ true → fetched s ≡ o → Does s (exec_fetched o s) (print_fetched o s)
unfolding step step_prints
step_fetched s o r f e = record {
  stands = ap (λ x. step_by x s) r ∙ ap (λ b. cond b (exec_fetched (fetched s) s) (trap Unmapped s)) f ∙ ap (λ o. exec_fetched o s) e;
  prints = ap (λ x. prints_by x s) r ∙ ap (λ b. cond b (print_fetched (fetched s) s) []) f ∙ ap (λ o. print_fetched o s) e;
}

pub step_unmapped : (s : State) → s.outcome ≡ Running → is_fetchable s ≡ false → Does s (trap Unmapped s) []
unfolding step step_prints
step_unmapped s r f = record {
  stands = ap (λ x. step_by x s) r ∙ ap (λ b. cond b (exec_fetched (fetched s) s) (trap Unmapped s)) f;
  prints = ap (λ x. prints_by x s) r ∙ ap (λ b. cond b (print_fetched (fetched s) s) []) f;
}

-- ---- a and then b steps

pub run-add : (a b : ℕ) (s : State) → run (a + b) s ≡ run b (run a s)
run-add zero b s = let e : 0 + b ≡ b = omega arith in ap (λ n. run n s) e
run-add (suc a) b s = let e : suc a + b ≡ suc (a + b) = omega arith in ap (λ n. run n s) e ∙ run-add a b (step s)

pub output-add : (a b : ℕ) (s : State) → output (a + b) s ≡ output a s ++ output b (run a s)
output-add zero b s = let e : 0 + b ≡ b = omega arith in ap (λ n. output n s) e
output-add (suc a) b s =
    let e : suc a + b ≡ suc (a + b) = omega arith in
    ap (λ n. output n s) e ∙ ap (λ o. step_prints s ++ o) (output-add a b (step s)) ∙ sym (append_assoc (step_prints s) (output a (step s)) (output b (run a (step s))))

pub runs_join : RunsJoin
runs_join a b s = record { stands = run-add a b s; prints = output-add a b s }

-- one more step, at the end
pub run-more : (k : ℕ) (s mid : State) → mid ≡ run k s → run (k + 1) s ≡ step mid
run-more k s mid e = run-add k 1 s ∙ ap step (sym e)

pub output-more : (k : ℕ) (s mid : State) → mid ≡ run k s → output (k + 1) s ≡ output k s ++ step_prints mid
output-more k s mid e = output-add k 1 s ∙ ap (λ o. output k s ++ o) (append-nil (step_prints (run k s)) ∙ ap step_prints (sym e))

-- an output only grows
pub output-grows : (k n : ℕ) (s : State) → k ≤ n → output n s ≡ output k s ++ output (n - k) (run k s)
output-grows k n s h = let e : n ≡ k + (n - k) = omega arith in ap (λ m. output m s) e ∙ output-add k (n - k) s

-- ---- the end

pub halted_over : (s : State) (k : ℕ) → s.outcome ≡ Halted k → IsOver s
unfolding step step_prints
halted_over s k e = record { stands = ap (λ x. step_by x s) e; prints = ap (λ x. prints_by x s) e }

pub trap_over : (s : State) (a : ℕ) (c : TrapCause) → s.outcome ≡ Trap a c → IsOver s
unfolding step step_prints
trap_over s a c e = record { stands = ap (λ x. step_by x s) e; prints = ap (λ x. prints_by x s) e }

pub over_unless : (s : State) → s.outcome ≢ Running → IsOver s
over_unless s h = go s.outcome refl
  where
    go : (o : Outcome) → s.outcome ≡ o → IsOver s
    go Running e = absurd (h e)
    go (Halted k) e = halted_over s k e
    go (Trap a c) e = trap_over s a c e

pub run_over : (n : ℕ) (s : State) → IsOver s → run n s ≡ s
run_over zero s h = refl
run_over (suc n) s h = ap (run n) h.stands ∙ run_over n s h

pub output_over : (n : ℕ) (s : State) → IsOver s → output n s ≡ []
output_over zero s h = refl
output_over (suc n) s h = (λ i. h.prints i ++ output n (h.stands i)) ∙ output_over n s h

pub stays : (s : State) (k n : ℕ) → k ≤ n → IsOver (run k s) → Stays s k n
stays s k n h o =
    let e : n ≡ k + (n - k) = omega arith in
    record {
      stands = ap (λ n. run n s) e ∙ run-add k (n - k) s ∙ run_over (n - k) (run k s) o;
      prints = output-grows k n s h ∙ ap (λ xs. output k s ++ xs) (output_over (n - k) (run k s) o) ∙ append-nil (output k s);
    }

pub end_stays : EndStays
end_stays s k n h o = stays s k n h (over_unless (run k s) o)

-- ---- what a sink has got of an output

pub on_ok : {T E : Type 0} {P Q : Type 0} (r : Result T E) → (P → Q) → OnOk r P → OnOk r Q
on_ok (Ok x) f h = f h
on_ok (Err e) f h = h

pub on_err : {T E : Type 0} {P Q : Type 0} (r : Result T E) → (P → Q) → OnErr r P → OnErr r Q
on_err (Ok x) f h = h
on_err (Err e) f h = f h

pub err_given : {T E : Type 0} {P : Type 0} (r : Result T E) → P → OnErr r P
err_given (Ok x) p = tt
err_given (Err e) p = p

pub writes_none : (a : Option (List ℕ)) (t : List ℕ) → t ≡ [] → Appends a a t
writes_none a t e = subst (λ (x : List ℕ). Appends a a x) (sym e) (Appends-nil a)

pub written_more : (a b c : Option (List ℕ)) (k : ℕ) (s mid : State) → mid ≡ run k s → Appends a b (output k s) → Appends b c (step_prints mid) → Appends a c (output (k + 1) s)
written_more a b c k s mid e p q = subst (λ (x : List ℕ). Appends a c x) (sym (output-more k s mid e)) (Appends-trans a b c (output k s) (step_prints mid) p q)

pub part_more : (a b c : Option (List ℕ)) (k : ℕ) (s mid : State) → mid ≡ run k s → Appends a b (output k s) → AppendsPart b c (step_prints mid) → AppendsPart a c (output (k + 1) s)
part_more a b c k s mid e p q = subst (λ (x : List ℕ). AppendsPart a c x) (sym (output-more k s mid e)) (part_then (output k s) p q)

pub part_grows : (a c : Option (List ℕ)) (k n : ℕ) (s : State) → k ≤ n → AppendsPart a c (output k s) → AppendsPart a c (output n s)
part_grows a c k n s h p = subst (λ (x : List ℕ). AppendsPart a c x) (sym (output-grows k n s h)) (part_first (output (n - k) (run k s)) p)
