-- A call as a submission, and what declines it.
--   of_thread     why no call of thread t can begin, whatever it is, or else what the rest says
--   of_call       why a call of thread t, on objects that exist, is declined for its mutex or its condition, or none
--   of_meant      the same of what a code and objects mean, or why they mean no call
--   begun         the arrays once a call has begun, unless it is declined
--   verdict_for   why thread t's submission of a call is declined, or none
--   submits       the arrays of the nub after it
--   result_of     the plain answer to a submission of this verdict, and answer_for to thread t's submission of a call
use Rattle.std.specs.Prelude.{ℕ, cond, not, ◌&&◌, Some as some, None as none, Ok, Err, Option, Result, nat_le, nat_lt, slice_set}
use Rattle.stages.specs.Names.{call_no, is_idle, counted}
use Rattle.stages.specs.Calls.{request_of, kind_of, is_this}
use Rattle.stages.specs.declared.call.Call.{Call}
use Rattle.thread.specs.Turns.{started}
use Rattle.nub.specs.declared.Core.{Core}
use Rattle.nub.specs.declared.Decline.{Decline}
use Rattle.nub.specs.declared.Decline.TheVariants.{NoThread, UnderWay, NotOwner, CountHigh}
use Rattle.nub.specs.Model.{by_verdict, needs_owner, high_count}
use Rattle.nub.specs.Work.{with_threads, thread_at, owner_at, count_at}
use Rattle.nub.specs.Turn.{verdict_in, submitted_in}

abbrev pub of_thread : Core → ℕ → Option Decline → Option Decline
of_thread k t rest = cond (not (nat_lt t k.sizes.threads)) (some NoThread) (cond (not (is_idle (thread_at k t).stage)) (some UnderWay) rest)

abbrev pub of_call : Core → ℕ → Option Call → Option Decline
of_call k t c =
    cond (needs_owner (kind_of c) && not (is_this t (owner_at k (request_of c).x))) (some NotOwner)
    (cond (counted (kind_of c) && nat_le high_count (count_at k (request_of c).x)) (some CountHigh) none)

-- the same of what a code and objects mean, or why they mean no call
abbrev pub of_meant : Core → ℕ → Result Call Decline → Option Decline
of_meant k t (Err d) = some d
of_meant k t (Ok c) = of_call k t (some c)

-- the arrays once the call of thread t has begun, unless it is declined
abbrev pub begun : Core → ℕ → Option Call → Option Decline → Core
begun k t c v = by_verdict v (with_threads k (slice_set k.threads t (started c (thread_at k t)))) (λ d. k)

abbrev pub verdict_for : Core → ℕ → Call → Option Decline
verdict_for k t c = verdict_in k t (call_no (kind_of (some c))) (request_of (some c)).x (request_of (some c)).y

abbrev pub submits : Core → ℕ → Call → Core
submits k t c = submitted_in k t (call_no (kind_of (some c))) (request_of (some c)).x (request_of (some c)).y

abbrev pub result_of : Option Decline → Result (Unit {0}) Decline
result_of v = by_verdict v (Ok tt) (λ d. Err d)

abbrev pub answer_for : Core → ℕ → Call → Result (Unit {0}) Decline
answer_for k t c = result_of (verdict_for k t c)
