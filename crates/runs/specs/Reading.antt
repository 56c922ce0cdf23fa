-- The reading of a nub as a published state, and what holds between the two.
--   read_holder, read_waits, read_avail   how a mutex, a condition and a semaphore read
--   on_way     the thread is on its way to a gate
--   is_parked  the stages at which a thread is parked on a condition
--   Holds     the published state is the reading; a free gate with a thread in its line has some thread on its way;
--             every thread parked on a condition is in its published set
--   Marked    the nub is as the marks of the stages say
use Rattle.std.specs.Prelude.{◌≡◌, ℕ, Bool, true, false, cond, not, ◌&&◌, ◌||◌, Some as some, None as none, Option, ◌==◌, nat_le}
use Rattle.stages.specs.Calls.{Object, Request, gate_of, cond_of, same_object, elem}
use Rattle.stages.specs.Calls.Object.{mutex, semaphore, condition}
use Rattle.stages.specs.Names.{stage_no, is_wait}
use Rattle.stages.specs.Marks.{marks}
use Rattle.stages.specs.Pairs.{fits}
use Rattle.stages.specs.declared.marks.Stands.{Stands}
use Rattle.stages.specs.declared.marks.Stands.TheVariants.{Nowhere as nowhere, AtGate as at_gate, AtCondition as at_cond}
use Rattle.stages.specs.declared.stage.Stage.{Stage}
use Rattle.thread.specs.Turns.{ThreadState, between_on}
use Rattle.nub.specs.Model.{NubState}
use Rattle.runs.specs.Published.{Published}

-- the thread is at Clear in a wait with mutex m
abbrev pub wait_clear : ThreadState → ℕ → Bool
wait_clear h m = is_wait h.call.kind && stage_no h.stage == 13 && h.call.x == m

abbrev pub held_by : (ℕ → ThreadState) → ℕ → Option ℕ → Option ℕ
held_by th m none = none
held_by th m (some u) = cond (wait_clear (th u) m) none (some u)

-- held by its owner, but not while the owner is at Clear in a wait with it
abbrev pub read_holder : NubState → ℕ → Option ℕ
read_holder s m = held_by s.thread m (s.owners m)

-- the members of its line, and the threads between on it whose kept count is its count
abbrev pub read_waits : NubState → ℕ → ℕ → Bool
read_waits s c u = elem u (s.line (condition c)) || (between_on (s.thread u) c && (s.thread u).kept == s.counts c)

-- available while its bit is 0
abbrev pub read_avail : NubState → ℕ → Bool
read_avail s i = not (s.bits (semaphore i))

abbrev pub on_way : ThreadState → Object → Bool
on_way h o = (marks h.stage).way && same_object (gate_of h.call) o

abbrev pub is_parked : Stage → Bool
is_parked st = nat_le 21 (stage_no st) && nat_le (stage_no st) 23

-- a gate is free in the published state
abbrev pub Free : Published → Object → Type 0
Free p (mutex m) = p.holder m ≡ none
Free p (semaphore i) = p.avail i ≡ true
Free p (condition c) = ⊥

pub record Holds (p : Published) (s : NubState) : Type 0 where
  -- the published state is the reading
  pub holders : (m : ℕ) → p.holder m ≡ read_holder s m
  pub sets : (c u : ℕ) → p.waits c u ≡ read_waits s c u
  pub semaphores : (i : ℕ) → p.avail i ≡ read_avail s i
  pub alerted : (u : ℕ) → p.alerts u ≡ s.flags u
  -- a free gate with a thread in its line has some thread on its way
  pub way : (o : Object) → Free p o → (u : ℕ) → elem u (s.line o) ≡ true → (w : ℕ) × (on_way (s.thread w) o ≡ true)
  -- every thread parked on a condition is in its set
  pub waiters : (u : ℕ) → is_parked (s.thread u).stage ≡ true → p.waits (cond_of (s.thread u).call) u ≡ true

-- where a thread with the request c and the mark m stands
abbrev pub stands_by : Stands → Request → Object → Bool
stands_by nowhere c o = false
stands_by at_gate c o = same_object (gate_of c) o
stands_by at_cond c o = same_object (condition (cond_of c)) o

pub record Marked (s : NubState) : Type 0 where
  -- stage and call are a pair that can meet
  pub fitting : (u : ℕ) → fits (s.thread u).stage (s.thread u).call.kind ≡ true
  -- a thread is a member of a line exactly where its stage's mark says so
  pub standing : (o : Object) (u : ℕ) → elem u (s.line o) ≡ stands_by (marks (s.thread u).stage).line (s.thread u).call o
  -- the spin bit is held by the one thread that is at a stage marked so, if any
  pub spinning : (t : ℕ) × ((u : ℕ) → (marks (s.thread u).stage).spin ≡ (s.spin && t == u))
