-- What may stand behind a part.
use Rattle.std.proofs.Common.{◌≡◌, Bool, true, false, ap, ◌∙◌, refl}
use Rattle.f77_expr.specs.declared.token.Kind.{Kind}
use Rattle.f77_expr.specs.declared.token.Kind.TheVariants as k
use Rattle.f77_expr.specs.Kinds.{Tokens, IsNext}
use Rattle.f77_expr.specs.Longest.{strength, Settles}
use Rattle.form_parts.specs.Only.{Follows, over, comma, close, equals, cut}
use Rattle.form_parts.proofs.NextToken.{same_kind, none_next}

pub settles_at : {ts rest : Tokens} {kind : Kind} → strength kind ≡ 0 → IsNext ts kind rest → Settles ts
settles_at weak n = record { free = λ kind rest m. ap strength (same_kind n m) ∙ weak }

pub settles_follows : {ts : Tokens} → Follows false ts → Settles ts
settles_follows (over is) = record { free = λ kind rest n. absurd (none_next is n) }
settles_follows (comma rest n) = settles_at refl n
settles_follows (close rest n) = settles_at refl n
settles_follows (equals rest n) = settles_at refl n
settles_follows (cut rest is n) = absurd (no_cut is)
  where
    no_cut : false ≡ true → ⊥
    no_cut is = cc

pub follows_no : {slash : Bool} {ts rest : Tokens} {kind : Kind} → (kind ≡ k.Comma → ⊥) → (kind ≡ k.Close → ⊥) → (kind ≡ k.Equals → ⊥) → (kind ≡ k.Slash → ⊥) → Follows slash ts → IsNext ts kind rest → ⊥
follows_no a b c d (over is) n = none_next is n
follows_no a b c d (comma rest m) n = a (same_kind m n)
follows_no a b c d (close rest m) n = b (same_kind m n)
follows_no a b c d (equals rest m) n = c (same_kind m n)
follows_no a b c d (cut rest is m) n = d (same_kind m n)

pub not_colon : {slash : Bool} {ts rest : Tokens} → Follows slash ts → IsNext ts k.Colon rest → ⊥
not_colon f n = follows_no (λ e. cc) (λ e. cc) (λ e. cc) (λ e. cc) f n

pub not_open : {slash : Bool} {ts rest : Tokens} → Follows slash ts → IsNext ts k.Open rest → ⊥
not_open f n = follows_no (λ e. cc) (λ e. cc) (λ e. cc) (λ e. cc) f n
