-- What a store to an area makes of the finite map.
use Rattle.std.proofs.Common.{◌≡◌, ℕ, zero, suc, Option, Some, None, Bool, true, false, ◌&&◌, cond, nat_eq, option_map, refl, ap, ◌∙◌, Result, Ok, Err, OnOk, arith}
use Rattle.std.proofs.lemmas.Bool.Decides.{nat_tests}
use Rattle.indexmap.specs.IndexMap.{get}
use Rattle.run_model.specs.Storage as run
use Rattle.run_model.specs.Storage.{Loc, loc_eq, put_cell}
use Rattle.f77_tree.specs.declared.unit.Value.{Value}
use Rattle.f77_values.specs.Tables.{Name, name_eq}
use Rattle.f77_semantics.specs.Values.{stored}
use Rattle.interp_cells.specs.declared.unit_cells.Seat.{Seat}
use Rattle.interp_cells.specs.declared.storage.Storage.{Storage}
use Rattle.interp_cells.specs.UnitCells.{same_seat, local_cell, fresh_cell}
use Rattle.interp_cells.specs.Cells.{found, cells_of}

-- two facts of an answer that is Ok
pub both_on_ok : {T E P Q R : Type 0} (r : Result T E) → (P → Q → R) → OnOk r P → OnOk r Q → OnOk r R
both_on_ok (Ok x) f p q = f p q
both_on_ok (Err e) f p q = tt

mapped : (c : Bool) (v : Value) (x : Option Value) → option_map stored (cond c (Some v) x) ≡ cond c (Some (stored v)) (option_map stored x)
mapped true v x = refl
mapped false v x = refl

later : (j : ℕ) → nat_eq (suc j) 0 ≡ false
later j = grind (arith, nat_tests)

before : (j : ℕ) → nat_eq 0 (suc j) ≡ false
before j = grind (arith, nat_tests)

and_true : (c : Bool) → c ≡ (c && true)
and_true true = refl
and_true false = refl

and_false : (c : Bool) → false ≡ (c && false)
and_false true = refl
and_false false = refl

module _ (s n : Storage) (commons : n.commons ≡ s.commons) (unit : Name) (v : Value) where
  local_at : (k : ℕ) → ((q : Name) → (j : ℕ) → local_cell (get name_eq n.units q) j ≡ cond (name_eq unit q && nat_eq k j) (Some v) (local_cell (get name_eq s.units q) j))
      → ((q : Name) → (t : Seat) → fresh_cell (get name_eq n.units q) t ≡ fresh_cell (get name_eq s.units q) t)
      → (a : run.Area) (j : ℕ) → option_map stored (found n a j) ≡ put_cell (record { area = run.Local unit; offset = k }) (stored v) (cells_of s) (record { area = a; offset = j })
  local_at k rows seats (run.Block b) j = rw commons refl
  local_at k rows seats (run.Local w) j = ap (option_map stored) (rows w j) ∙ mapped (name_eq unit w && nat_eq k j) v (local_cell (get name_eq s.units w) j)
  local_at k rows seats (run.Fresh w i p) j = ap (λ x. option_map stored (cond (nat_eq j 0) x None)) (seats w (record { site = i; position = p }))

  pub local_stored : (k : ℕ) → ((q : Name) → (j : ℕ) → local_cell (get name_eq n.units q) j ≡ cond (name_eq unit q && nat_eq k j) (Some v) (local_cell (get name_eq s.units q) j))
      → ((q : Name) → (t : Seat) → fresh_cell (get name_eq n.units q) t ≡ fresh_cell (get name_eq s.units q) t)
      → (l : Loc) → cells_of n l ≡ put_cell (record { area = run.Local unit; offset = k }) (stored v) (cells_of s) l
  local_stored k rows seats l = local_at k rows seats l.area l.offset

  fresh_at : (seat : Seat) → ((q : Name) → (j : ℕ) → local_cell (get name_eq n.units q) j ≡ local_cell (get name_eq s.units q) j)
      → ((q : Name) → (t : Seat) → fresh_cell (get name_eq n.units q) t ≡ cond (name_eq unit q && same_seat seat t) (Some v) (fresh_cell (get name_eq s.units q) t))
      → (a : run.Area) (j : ℕ) → option_map stored (found n a j) ≡ put_cell (record { area = run.Fresh unit seat.site seat.position; offset = 0 }) (stored v) (cells_of s) (record { area = a; offset = j })
  fresh_at seat rows seats (run.Block b) j = rw commons refl
  fresh_at seat rows seats (run.Local w) j = ap (option_map stored) (rows w j)
  fresh_at seat rows seats (run.Fresh w i p) zero = ap (option_map stored) (seats w (record { site = i; position = p })) ∙ mapped (name_eq unit w && same_seat seat (record { site = i; position = p })) v (fresh_cell (get name_eq s.units w) (record { site = i; position = p })) ∙ ap (λ c. cond c (Some (stored v)) (option_map stored (fresh_cell (get name_eq s.units w) (record { site = i; position = p })))) (and_true _)
  fresh_at seat rows seats (run.Fresh w i p) (suc j) = rw (later j, before j) (ap (λ c. cond c (Some (stored v)) None) (and_false (name_eq unit w && (nat_eq seat.site i && nat_eq seat.position p))))

  pub fresh_stored : (seat : Seat) → ((q : Name) → (j : ℕ) → local_cell (get name_eq n.units q) j ≡ local_cell (get name_eq s.units q) j)
      → ((q : Name) → (t : Seat) → fresh_cell (get name_eq n.units q) t ≡ cond (name_eq unit q && same_seat seat t) (Some v) (fresh_cell (get name_eq s.units q) t))
      → (l : Loc) → cells_of n l ≡ put_cell (record { area = run.Fresh unit seat.site seat.position; offset = 0 }) (stored v) (cells_of s) l
  fresh_stored seat rows seats l = fresh_at seat rows seats l.area l.offset
