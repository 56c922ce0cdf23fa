-- Which records can be taken from a line, and what becomes of them.
--   taken_from   the record once it is taken, by the mark of its stage; none where it stands in no line or holds the spin bit
--   free         a sight with nothing in the way
--   answers_one  the record's turn, with nothing in the way, answers 1
use Rattle.std.specs.Prelude.{Bool, true, false, cond, Some, None, Option, ◌==◌}
use Rattle.stages.specs.Marks.{marks}
use Rattle.stages.specs.declared.marks.Stands.{Stands}
use Rattle.stages.specs.declared.marks.Stands.TheVariants.{Nowhere, AtGate, AtCondition}
use Rattle.stages.specs.declared.step.LineEffect.TheVariants.{WakeGate, SignalOne}
use Rattle.stages.specs.declared.step.Sight.{Sight}
use Rattle.thread.specs.Turns.{woken_thread, step_after}
use Rattle.thread.specs.declared.record.Thread.{Thread}

abbrev pub taken_at : Stands → Thread → Option Thread
taken_at Nowhere h = None
taken_at AtGate h = Some (woken_thread WakeGate h)
taken_at AtCondition h = Some (woken_thread SignalOne h)

-- who takes holds the spin bit, so a thread that holds it itself is not taken
abbrev pub taken_from : Thread → Option Thread
taken_from h = cond (marks h.stage).spin None (taken_at (marks h.stage).line h)

abbrev pub free : Sight
free = record { spin = false; bit = false; empty = true; count = 0 }

abbrev pub answers_one : Thread → Bool
answers_one h = elim (step_after h free) [ None ↦ false | Some s ↦ s.value == 1 ]
