-- Sizes, entries and answers as plain numbers.
--   asked_of a      the sizes that a asks for
--   event_of e      the submission or turn that the entry e is
--   in_numbers a    the answer a of a nub, in numbers
--   row_of v        the number that a build's check answers by: 0 where it grants
use Rattle.std.specs.Prelude.{ℕ, cond, Ok, Err, Result, ◌==◌}
use Rattle.stages.specs.Names.{status_no, action_no}
use Rattle.nub.specs.declared.Sizes.{Sizes}
use Rattle.nub.specs.declared.Decline.{Decline}
use Rattle.nub.specs.declared.Event.{Event}
use Rattle.nub.specs.declared.Event.TheVariants.{Submission, Turn}
use Rattle.nub.specs.declared.Answer as nub
use Rattle.nub.specs.declared.Answer.TheVariants.{Granted as granted, Declined as declined, Reported as reported}
use Rattle.nub.specs.Answers.{decline_no}
use Rattle.embed.specs.declared.numbers.Asked.{Asked}
use Rattle.embed.specs.declared.numbers.Entry.{Entry}
use Rattle.embed.specs.declared.numbers.Answer.{Answer}

abbrev pub asked_of : Asked → Sizes
asked_of a = record { threads = a.threads; mutexes = a.mutexes; conditions = a.conditions; semaphores = a.semaphores }

abbrev pub event_of : Entry → Event
event_of e = cond (e.turn == 0) (Submission e.thread e.code e.first e.second) (Turn e.thread)

abbrev pub in_numbers : nub.Answer → Answer
in_numbers granted = record { row = 0; status = 0; value = 0; action = 0; mask = 0 }
in_numbers (declined d) = record { row = decline_no d; status = 0; value = 0; action = 0; mask = 0 }
in_numbers (reported r) = record { row = 0; status = status_no r.status; value = r.value; action = action_no r.action; mask = r.mask }

abbrev pub row_of : Result (Unit {0}) Decline → ℕ
row_of (Ok u) = 0
row_of (Err d) = decline_no d
