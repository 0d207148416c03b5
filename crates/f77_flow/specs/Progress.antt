-- What a pass from the last statement to the first knows of the block IFs that are open, by their level: 0 is the innermost.
use Rattle.std.specs.Prelude.{◌≡◌, ℕ, ◌+◌, List, reverse, length, slice_index_or}
use Rattle.f77_tree.specs.declared.unit.Stmt.{Stmt}
use Rattle.f77_flow.specs.declared.blocks.Block.{Block}
use Rattle.f77_flow.specs.declared.blocks.Seen.{Seen}
use Rattle.f77_flow.specs.Blocks.{next_end, next_part, next_test, coming}

abbrev pub block_at : Seen → ℕ → Block
block_at seen level = slice_index_or (reverse seen.blocks) level (record { end = seen.none; part = seen.none; test = seen.none })

-- these statements, numbered from k, were seen
pub record HasSeen (seen : Seen) (k : ℕ) (ss : List Stmt) : Type 0 where
  pub none : seen.none ≡ k + length ss
  pub ends : (level : ℕ) → (block_at seen level).end ≡ next_end level k ss
  pub parts : (level : ℕ) → (block_at seen level).part ≡ next_part level k ss
  pub tests : (level : ℕ) → (block_at seen level).test ≡ next_test level k ss
  pub coming : seen.coming ≡ coming k ss
