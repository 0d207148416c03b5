-- The first of faults of one line, by number.
use Rattle.std.proofs.Common.{◌≡◌, ℕ, Some, None, refl, sym}
use Rattle.std.specs.declared.option.Option.{Option}
use Rattle.fault_marks.specs.declared.marks.Mark.{Mark}
use Rattle.fault_marks.specs.Earliest.{Earliest}
use Rattle.fault_marks.proofs.Firsts.{same_first}
use Rattle.f77_parse.specs.Shown.{IsOnly, mark_at}

-- a fault whose number is one of a kind
pub record Numbered (Is : ℕ → Type 0) (line : ℕ) (mark : Mark) : Type 0 where
  pub is : Is mark.number
  pub line_is : mark.line ≡ line
  pub limit_is : mark.limit ≡ 0

pub numbered : (Is : ℕ → Type 0) (line : ℕ) (found : Option ℕ) → IsOnly Is found → Earliest (Numbered Is line) (mark_at line found)
numbered Is line None h = λ m k. h m.number k.is
numbered Is line (Some n) h = record {
  shows = record { is = h.0; line_is = refl; limit_is = refl };
  first = λ m k. same_first (record { line = line; number = n; limit = 0 }) m (sym k.line_is) (sym (h.1 m.number k.is)) (sym k.limit_is);
}
