-- The kinds that keep one list of arrivals and differ in whom a take chooses. Assumes nothing.
--     left_by o l es         the arrivals without the one that o chooses in line l, if any
--     choosing n C choose    the kind that serves n threads and takes by `choose`
--     first_come             serves 64 threads, and takes the earliest arrival
--     ranked                 serves 32 threads, and takes the highest rank, among equals the lowest thread number
use Rattle.std.specs.Prelude.{ℕ, List, [], ◌∷◌, ◌++◌, Some, None, Option}
use Rattle.lines.specs.declared.arrival.Arrival.{Arrival}
use Rattle.lines.specs.Kinds.{Kind}
use Rattle.lines.specs.Arrivals.{arrival, members, quit, earliest}
use Rattle.lines.specs.Ranking.{best}

abbrev pub left_by : Option ℕ → ℕ → List Arrival → List Arrival
left_by None l es = es
left_by (Some t) l es = quit l t es

-- C is what the choice goes by besides the members, and no operation changes it
abbrev pub choosing : ℕ → (C : Type 0) → (C → List ℕ → Option ℕ) → Kind
choosing n C choose = record {
  State = C × List Arrival;
  serves = n;
  line = λ s. members s.1;
  next = λ s l. choose s.0 (members s.1 l);
  added = λ s l t. (s.0, s.1 ++ arrival l t ∷ []);
  taken = λ s l. (s.0, left_by (choose s.0 (members s.1 l)) l s.1);
  removed = λ s l t. (s.0, quit l t s.1);
}

abbrev pub first_come : Kind
first_come = choosing 64 (Unit {0}) (λ _ ts. earliest ts)

abbrev pub ranked : Kind
ranked = choosing 32 (List ℕ) best
