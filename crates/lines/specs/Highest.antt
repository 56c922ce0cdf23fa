-- Whom a ranked line takes, by how its members compare and not by the order in which they come up. Assumes nothing.
--     Highest ranks ts t          t is one of ts, and each of ts has a lower rank than t, or an equal one and no lower number
--     TakesHighest ranks ts      of the members ts the highest is taken, and none exactly where there is none
--     RankedTakesHighest        so it is whatever the ranks and the members are
use Rattle.std.specs.Prelude.{◌≡◌, ℕ, ◌<◌, ◌≤◌, true, ◌⊎◌, ◌↔◌, List, [], Some, None, slice_index}
use Rattle.lines.specs.Lines.{has}
use Rattle.lines.specs.Ranking.{best}

-- thread u has the rank `slice_index ranks u`
pub record Highest (ranks ts : List ℕ) (t : ℕ) : Type 0 where
  pub member : has t ts ≡ true
  pub above : (u : ℕ) → has u ts ≡ true → (slice_index ranks u < slice_index ranks t) ⊎ ((slice_index ranks u ≡ slice_index ranks t) × (t ≤ u))

pub record TakesHighest (ranks ts : List ℕ) : Type 0 where
  -- none is taken exactly where there is no member
  pub nobody : best ranks ts ≡ None ↔ ts ≡ []
  -- t is taken exactly where t is the highest
  pub somebody : (t : ℕ) → best ranks ts ≡ Some t ↔ Highest ranks ts t

abbrev pub RankedTakesHighest : Type 0
RankedTakesHighest = (ranks ts : List ℕ) → TakesHighest ranks ts
