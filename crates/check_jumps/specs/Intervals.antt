-- Intervals of places, any of which may overlap. At most one begins at each place: that at h holds the places behind h, up to the
-- number that the table `ends` has at h. Where that is not above h there is none.
use Rattle.std.specs.Prelude.{◌≡◌, ℕ, suc, ◌+◌, ◌<◌, ◌≤◌, List, length, slice_index}

pub record Holds (ends : List ℕ) (h j : ℕ) : Type 0 where
  pub behind : h < j
  pub within : j ≤ slice_index ends h

-- an interval holds t, and not k
pub record Enters (ends : List ℕ) (k t : ℕ) : Type 0 where
  pub begin : ℕ
  pub holds : Holds ends begin t
  pub apart : Holds ends begin k → ⊥

-- an interval that holds j ends before x
pub record EndsBefore (ends : List ℕ) (j x : ℕ) : Type 0 where
  pub begin : ℕ
  pub holds : Holds ends begin j
  pub before : slice_index ends begin < x

-- ---- tables of intervals

-- m is one more than the greatest place at which an interval begins that holds j, or 0
pub record IsGreatestBegin (ends : List ℕ) (j m : ℕ) : Type 0 where
  pub above : (h : ℕ) → Holds ends h j → h < m
  pub here : (h : ℕ) → m ≡ suc h → Holds ends h j

pub record AreGreatestBegins (ends : List ℕ) (n : ℕ) (begins : List ℕ) : Type 0 where
  pub long : length begins ≡ n
  pub each : (j : ℕ) → j < n → IsGreatestBegin ends j (slice_index begins j)

-- the first of the places from k on that has e in the table, or a number that is no such place
pub record IsFirstEnding (ends : List ℕ) (k e first : ℕ) : Type 0 where
  pub least : (h : ℕ) → k ≤ h → h < length ends → slice_index ends h ≡ e → first ≤ h
  pub here : first < length ends → slice_index ends first ≡ e

pub record AreFirstEndings (ends : List ℕ) (k : ℕ) (firsts : List ℕ) : Type 0 where
  pub long : length firsts ≡ length ends
  pub each : (e : ℕ) → e < length ends → IsFirstEnding ends k e (slice_index firsts e)

-- The least place at which an interval ends that holds j, or the number of places. The table of first endings has where it begins.
pub record IsLeastEnd (ends firsts : List ℕ) (j e : ℕ) : Type 0 where
  pub below : (h : ℕ) → Holds ends h j → e ≤ slice_index ends h
  pub holds : e < length ends → Holds ends (slice_index firsts e) j
  pub ending : e < length ends → slice_index ends (slice_index firsts e) ≡ e

pub record AreLeastEnds (ends firsts : List ℕ) (from : ℕ) (least : List ℕ) : Type 0 where
  pub long : length least ≡ length ends + 1
  pub each : (j : ℕ) → from ≤ j → j ≤ length ends → IsLeastEnd ends firsts j (slice_index least j)

pub record AreIntervals (ends firsts begins least : List ℕ) : Type 0 where
  pub greatest : AreGreatestBegins ends (length ends) begins
  pub ending : AreLeastEnds ends firsts 0 least

pub record IsFilled (number count : ℕ) (table : List ℕ) : Type 0 where
  pub long : length table ≡ count
  pub each : (k : ℕ) → k < count → slice_index table k ≡ number
