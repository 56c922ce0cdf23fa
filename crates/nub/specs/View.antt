-- The arrays of a nub and its numbered lines, as the rules speak of them.
--   view    the state of a nub whose arrays are k and whose lines, of the kind K, are f
--   picks   whom a take of each object's line would give
--   core_of  the arrays of a nub, and lines_of its lines
use Rattle.std.specs.Prelude.{ℕ, false, List, [], get_or, Some as some, None as none, Option, slice_index, slice_index_or}
use Rattle.lines.specs.Kinds.{Kind as LineKind}
use Rattle.stages.specs.Calls.{Object}
use Rattle.thread.specs.Turns.{idle_thread, state_of}
use Rattle.nub.specs.declared.Core.{Core}
use Rattle.nub.specs.declared.Nub.{Nub}
use Rattle.nub.specs.Places.{at_line}
use Rattle.nub.specs.Model.{NubState, Pick}

abbrev pub core_of : {L : Type 0} → Nub L → Core
core_of n = n.core

abbrev pub lines_of : {L : Type 0} → Nub L → L
lines_of n = n.lines

-- f at a line, and d where there is none
abbrev pub by_line : {A : Type 0} → A → (ℕ → A) → Option ℕ → A
by_line d f none = d
by_line d f (some l) = f l

-- what is kept by line number, by object; d where there can be no such object
abbrev pub by_obj : {A : Type 0} → A → (ℕ → A) → Object → A
by_obj d f o = by_line d f (at_line o)

-- the arrays, with the lines given by object
abbrev pub view_core : Core → (Object → List ℕ) → NubState
view_core k l =
    record {
      size = k.sizes.threads;
      mutexes = k.sizes.mutexes;
      conditions = k.sizes.conditions;
      semaphores = k.sizes.semaphores;
      thread = λ u. state_of (slice_index_or k.threads u idle_thread);
      flags = λ u. (get_or k.threads u idle_thread).alert;
      line = l;
      bits = λ o. by_obj false (λ n. get_or k.bits n false) o;
      owners = λ m. slice_index_or k.owners m none;
      counts = λ i. slice_index k.counts i;
      spin = k.spin;
    }

abbrev pub view : (K : LineKind) → Core → K.State → NubState
view K k f = view_core k (λ o. by_obj [] (K.line f) o)

abbrev pub picks : (K : LineKind) → K.State → Pick
picks K f o = by_obj none (K.next f) o
