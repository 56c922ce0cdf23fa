-- What stands on a page.
--   Placed     a text, with the line and the column where it begins
--   place_of   so far down and right of the corner of a cell; cells are 7 lines and 30 columns apart
--   others     the texts that begin elsewhere
use Rattle.std.specs.Prelude.{ℕ, ◌+◌, ◌*◌, List, filter, not, ◌&&◌, ◌==◌}
use Rattle.arrayvec.specs.ArrayString.{ArrayString}
use Rattle.stage_map.specs.declared.page.Spot.{Spot}

abbrev pub Placed : Type 0
Placed = (ℕ × ℕ) × ArrayString

abbrev pub place_of : Spot → ℕ → ℕ → ℕ × ℕ
place_of s down right = (s.row * 7 + down, s.column * 30 + right)

abbrev pub others : ℕ × ℕ → List Placed → List Placed
others p = filter (λ t. not (t.0.0 == p.0 && t.0.1 == p.1))
