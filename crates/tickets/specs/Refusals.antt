-- Why tickets and holds are refused.
--   same_call     the same call with the same objects
--   refusal_no    the number of each refusal: the nub's own for its declines, and 9
--   refusal_for   why a turn on thread t's ticket for a call is refused, or none: by 1, 7 or 9, in this order
use Rattle.std.specs.Prelude.{ℕ, Bool, cond, ◌&&◌, ◌==◌, Some, None, Ok, Err, Option, Result}
use Rattle.stages.specs.Names.{call_no}
use Rattle.stages.specs.Calls.{request_of, kind_of}
use Rattle.stages.specs.declared.call.Call.{Call}
use Rattle.nub.specs.declared.Core.{Core}
use Rattle.nub.specs.declared.Decline.{Decline}
use Rattle.nub.specs.Answers.{decline_no}
use Rattle.nub.specs.UnderWay.{under_way}
use Rattle.tickets.specs.declared.refusal.Refusal.{Refusal}
use Rattle.tickets.specs.declared.refusal.Refusal.TheVariants.{Declined, OtherCall}

-- an object that a call has not counts as 0
abbrev pub same_call : Call → Call → Bool
same_call a b =
    call_no (kind_of (Some a)) == call_no (kind_of (Some b))
    && (request_of (Some a)).x == (request_of (Some b)).x
    && (request_of (Some a)).y == (request_of (Some b)).y

abbrev pub refusal_no : Refusal → ℕ
refusal_no (Declined d) = decline_no d
refusal_no OtherCall = 9

-- by the call under way, or why a turn is declined
abbrev pub refusal_by : Result (Option Call) Decline → Call → Option Refusal
refusal_by (Err d) c = Some (Declined d)
refusal_by (Ok None) c = Some OtherCall
refusal_by (Ok (Some u)) c = cond (same_call u c) None (Some OtherCall)

abbrev pub refusal_for : Core → ℕ → Call → Option Refusal
refusal_for k t c = refusal_by (under_way k t) c
