-- Orders with a least value, and joins and meets in them.
use Rattle.std.specs.Prelude.{◌≡◌, Bool, IsTrue}

-- a partial order of the values, and a value below all
pub record IsOrderFrom {L : Type 0} (is_value : L → Type 0) (leq : L → L → Bool) (bottom : L) : Type 0 where
  pub reflexive : (x : L) → is_value x → IsTrue (leq x x)
  pub transitive : (x y z : L) → is_value x → is_value y → is_value z → IsTrue (leq x y) → IsTrue (leq y z) → IsTrue (leq x z)
  pub antisymmetric : (x y : L) → is_value x → is_value y → IsTrue (leq x y) → IsTrue (leq y x) → x ≡ y
  pub bottom_value : is_value bottom
  pub bottom_least : (x : L) → is_value x → IsTrue (leq bottom x)

-- a value above all
pub record IsGreatest {L : Type 0} (is_value : L → Type 0) (leq : L → L → Bool) (top : L) : Type 0 where
  pub top_value : is_value top
  pub top_greatest : (x : L) → is_value x → IsTrue (leq x top)

-- z is the least upper bound of x and y
pub record IsJoin {L : Type 0} (is_value : L → Type 0) (leq : L → L → Bool) (x y z : L) : Type 0 where
  pub value : is_value z
  pub above_first : IsTrue (leq x z)
  pub above_second : IsTrue (leq y z)
  pub least : (w : L) → is_value w → IsTrue (leq x w) → IsTrue (leq y w) → IsTrue (leq z w)

-- z is the greatest lower bound of x and y
pub record IsMeet {L : Type 0} (is_value : L → Type 0) (leq : L → L → Bool) (x y z : L) : Type 0 where
  pub value : is_value z
  pub below_first : IsTrue (leq z x)
  pub below_second : IsTrue (leq z y)
  pub greatest : (w : L) → is_value w → IsTrue (leq w x) → IsTrue (leq w y) → IsTrue (leq w z)
