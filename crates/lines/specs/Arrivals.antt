-- A whole set of lines as one list of arrivals. Assumes nothing.
--     arrival l t               thread t that came to line l
--     members es                the lines that the arrivals make
--     seen t es                 thread t stands, in whatever line
--     first_place l es          the place of the earliest arrival of line l, if there is one
--     place l t es              the place of the arrival of thread t in line l, if there is one
--     sound n es                each thread is below n and stands once, each line is one that there is
--     quit l t es               the arrivals without thread t in line l
--     others l es               the arrivals without those of line l
--     earliest ts               the earliest of a line's members
--     line_at es i, thread_at es i      the line and the thread of the arrival at place i
--     Chosen es l o r           r is the place of the one that o chooses in line l, and none where o chooses none
use Rattle.std.specs.Prelude.{◌≡◌, ℕ, ◌<◌, Bool, true, cond, not, ◌&&◌, List, [], ◌∷◌, length, Some, None, Option, ◌==◌, nat_lt, slice_index_or}
use Rattle.std.specs.List.{list_any, position}
use Rattle.lines.specs.declared.arrival.Arrival.{Arrival}
use Rattle.lines.specs.Lines.{Lines, lines}

abbrev pub arrival : ℕ → ℕ → Arrival
arrival l t = record { line = l; thread = t }

abbrev pub members : List Arrival → Lines
members [] l = []
members (e ∷ es) l = cond (e.line == l) (e.thread ∷ members es l) (members es l)

abbrev pub seen : ℕ → List Arrival → Bool
seen t es = list_any (λ e. e.thread == t) es

-- a proof unfolds these two by name, so that what a place tells is said by lemmas
unfoldable pub first_place : ℕ → List Arrival → Option ℕ
first_place l es = position (λ e. e.line == l) es

unfoldable pub place : ℕ → ℕ → List Arrival → Option ℕ
place l t es = position (λ e. e.line == l && e.thread == t) es

abbrev pub sound : ℕ → List Arrival → Bool
sound n [] = true
sound n (e ∷ es) = (nat_lt e.line lines && nat_lt e.thread n) && (not (seen e.thread es) && sound n es)

abbrev pub quit : ℕ → ℕ → List Arrival → List Arrival
quit l t [] = []
quit l t (e ∷ es) = cond (e.line == l && e.thread == t) (quit l t es) (e ∷ quit l t es)

abbrev pub others : ℕ → List Arrival → List Arrival
others l [] = []
others l (e ∷ es) = cond (e.line == l) (others l es) (e ∷ others l es)

abbrev pub earliest : List ℕ → Option ℕ
earliest [] = None
earliest (x ∷ xs) = Some x

abbrev pub line_at : List Arrival → ℕ → ℕ
line_at es i = (slice_index_or es i (arrival 0 0)).line

abbrev pub thread_at : List Arrival → ℕ → ℕ
thread_at es i = (slice_index_or es i (arrival 0 0)).thread

abbrev pub Chosen : List Arrival → ℕ → Option ℕ → Option ℕ → Type 0
Chosen es l o None = o ≡ None
Chosen es l o (Some i) = (i < length es) × (line_at es i ≡ l) × (o ≡ Some (thread_at es i))
