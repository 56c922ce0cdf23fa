-- The numbers of the declines, and results as answers.
use Rattle.std.specs.Prelude.{ℕ, Ok, Err, Result}
use Rattle.nub.specs.declared.Decline.{Decline}
use Rattle.nub.specs.declared.Decline.TheVariants.{NoThread, UnderWay, NoCode, NoObject, NotOwner, CountHigh, IdleThread, WrongSize}
use Rattle.nub.specs.declared.Report.{Report}
use Rattle.nub.specs.declared.Answer.{Answer}
use Rattle.nub.specs.declared.Answer.TheVariants.{Granted as granted, Declined as declined, Reported as reported}

-- the number of each decline
abbrev pub decline_no : Decline → ℕ
decline_no NoThread = 1
decline_no UnderWay = 2
decline_no NoCode = 3
decline_no NoObject = 4
decline_no NotOwner = 5
decline_no CountHigh = 6
decline_no IdleThread = 7
decline_no WrongSize = 8

-- the answer to a turn, and to a submission
abbrev pub of_turn : Result Report Decline → Answer
of_turn (Ok r) = reported r
of_turn (Err d) = declined d

abbrev pub of_submission : Result (Unit {0}) Decline → Answer
of_submission (Ok r) = granted
of_submission (Err d) = declined d
