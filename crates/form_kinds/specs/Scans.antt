-- Places of a text that stand outside literals and parentheses.
use Rattle.std.specs.Prelude.{◌≡◌, ℕ, ◌+◌, ◌-◌, ◌≤◌, false, not, ◌==◌, if◌then◌else◌, ◌∷◌, ◌++◌, length, fold}
use Rattle.f77_expr.specs.Spelling.{Text}
use Rattle.form_kinds.specs.declared.scans.Scan.{Scan}

abbrev pub start : Scan
start = record { quoted = false; depth = 0 }

-- An apostrophe begins a literal or ends it; a doubled one does both. A parenthesis that closes nothing is passed over.
abbrev pub scan_after : Scan → ℕ → Scan
scan_after scan b =
    if b == 39 then record { quoted = not scan.quoted; depth = scan.depth }
    else (if scan.quoted then scan
    else (if b == 40 then record { quoted = false; depth = scan.depth + 1 }
    else (if b == 41 then record { quoted = false; depth = scan.depth - 1 } else scan)))

-- behind these bytes: whether a place is inside a literal, and in how many parentheses
unfoldable pub scan_of : Text → Scan
scan_of = fold scan_after start

-- The place behind these bytes is outside. Behind a parenthesis that isn't closed everything is inside.
pub record Outside (before : Text) : Type 0 where
  pub unquoted : (scan_of before).quoted ≡ false
  pub closed : (scan_of before).depth ≡ 0

-- the first place outside at which this byte stands, by what is before it and behind it
pub record FirstOutside (mark : ℕ) (text before behind : Text) : Type 0 where
  pub cut : text ≡ before ++ mark ∷ behind
  pub outside : Outside before
  pub first : (other more : Text) → text ≡ other ++ mark ∷ more → Outside other → length before ≤ length other

pub record NoneOutside (mark : ℕ) (text : Text) : Type 0 where
  pub not : (other more : Text) → text ≡ other ++ mark ∷ more → Outside other → ⊥

-- the byte stands at no place outside before this one
pub record NoneBefore (mark : ℕ) (text : Text) (at : ℕ) : Type 0 where
  pub not : (other more : Text) → text ≡ other ++ mark ∷ more → Outside other → at ≤ length other
