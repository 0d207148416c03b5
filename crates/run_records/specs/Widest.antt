-- Records that tell less than others, and the one that tells least.
use Rattle.std.specs.Prelude.{◌≡◌, ℕ, Some, None, Bool, true, false}
use Rattle.run_model.specs.Storage.{Value}
use Rattle.f77_tree.specs.declared.unit.Item.{Item}
use Rattle.f77_tree.specs.declared.unit.Item.TheVariants.{Dummy, Local, Common}
use Rattle.run_records.specs.Records.{Record}

-- The second record is as wide as the first: its sets and pairs have those of the first, and its constants are constants of the first.
pub record AsWide (r s : Record) : Type 0 where
  pub mods : (site : ℕ) (x : Item) → r.may_mod site x ≡ true → s.may_mod site x ≡ true
  pub refs : (site : ℕ) (x : Item) → r.may_ref site x ≡ true → s.may_ref site x ≡ true
  pub pairs : (x y : Item) → r.paired x y ≡ true → s.paired x y ≡ true
  pub constants : (x : Item) (c : Value) → s.constant x ≡ Some c → r.constant x ≡ Some c

abbrev pub is_dummy : Item → Bool
is_dummy (Dummy k) = true
is_dummy _ = false

abbrev pub is_local : Item → Bool
is_local (Local o) = true
is_local _ = false

-- a dummy with a dummy or with a unit of COMMON
abbrev pub may_pair : Item → Item → Bool
may_pair (Dummy j) (Dummy k) = true
may_pair (Dummy j) (Common b o) = true
may_pair (Common b o) (Dummy k) = true
may_pair _ _ = false

-- each call may change and read every item, each such pair may share a location, and nothing is constant
abbrev pub widest : Record
widest = record { may_mod = λ s x. true; may_ref = λ s x. true; paired = may_pair; constant = λ x. None }
