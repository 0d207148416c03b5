-- The parts of the text that ends a run.
use Rattle.std.proofs.Common.{◌≡◌, ℕ, Bool, true, false, List, [], ◌∷◌, ◌++◌, sym, ap, append_assoc}
use Rattle.rn_session.specs.Replies.{begun}

-- a line in the parts in which it is written
pub line_parts : (within : Bool) (start word rest end : List ℕ) → start ≡ begun within [] → (start ++ word) ++ (rest ++ end) ≡ begun within (word ++ rest ++ end)
line_parts true start word rest end e = rw e (ap (λ x. 10 ∷ x) (sym (append_assoc word rest end)))
line_parts false start word rest end e = rw e (sym (append_assoc word rest end))
