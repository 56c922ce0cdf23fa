-- What a submission answers in tickets and holds, and what a turn on a ticket answers and leaves.
--   ticketed     a ticket where a submission is granted
--   spent        a ticket for a hold where a submission is granted, and else the hold back
--   after        what a turn with this status leaves of a ticket
--   ticket_turn   a turn on a ticket: its answer, and the nub after it
use Rattle.std.specs.Prelude.{ℕ, Some, None, Ok, Err, Option, Result}
use Rattle.lines.specs.Kinds.{Kind}
use Rattle.stages.specs.declared.call.Call.{Call}
use Rattle.stages.specs.declared.action.Status.{Status}
use Rattle.stages.specs.declared.action.Status.TheVariants as status
use Rattle.nub.specs.declared.Core.{Core}
use Rattle.nub.specs.declared.Report.{Report}
use Rattle.nub.specs.declared.Decline.{Decline}
use Rattle.nub.specs.declared.Answer.{Answer}
use Rattle.nub.specs.declared.Answer.TheVariants.{Granted as granted, Declined as declined, Reported as reported}
use Rattle.nub.specs.Turn.{turned}
use Rattle.tickets.specs.declared.hold.Hold.{Hold}
use Rattle.tickets.specs.declared.ticket.Ticket.{Ticket}
use Rattle.tickets.specs.declared.ticket.Turned.{Turned}
use Rattle.tickets.specs.declared.ticket.Turned.TheVariants as gave
use Rattle.tickets.specs.declared.refusal.Back.{Back}
use Rattle.tickets.specs.declared.refusal.Refusal.{Refusal}
use Rattle.tickets.specs.declared.refusal.Refusal.TheVariants.{Declined}
use Rattle.tickets.specs.Refusals.{refusal_for}

abbrev pub ticketed : {C : Type 0} → Result (Unit {0}) Decline → ℕ → C → Result (Ticket C) Refusal
ticketed (Ok u) t c = Ok (record { thread = t; call = c })
ticketed (Err d) t c = Err (Declined d)

abbrev pub spent : {C : Type 0} → Result (Unit {0}) Decline → Hold → C → Result (Ticket C) (Back Hold)
spent (Ok u) h c = Ok (record { thread = h.thread; call = c })
spent (Err d) h c = Err (record { back = h; why = Declined d })

-- the same ticket while its call goes on; what the call gives, e, once it has finished
abbrev pub after : {C E : Type 0} → Status → Ticket C → Report → E → Turned C E
after status.On x r e = gave.On x r
after status.Parked x r e = gave.On x r
after status.Spun x r e = gave.On x r
after status.Finished x r e = gave.Finished r e

-- what a turn on a ticket X answers, a Y or the ticket back, and what it leaves; no turn is answered as a submission is
pub record OnTicket (K : Kind) (X Y : Type 0) : Type 0 where
  pub answer : Option (Result Y (Back X))
  pub core : Core
  pub lines : K.State

abbrev pub answered : {X Y : Type 0} → Answer → X → (Report → Y) → Option (Result Y (Back X))
answered granted x y = None
answered (declined d) x y = Some (Err (record { back = x; why = Declined d }))
answered (reported r) x y = Some (Ok (y r))

-- the nub's own turn of thread t, whose report makes the answer y, unless the ticket x is refused before
abbrev pub unless : (K : Kind) → {X Y : Type 0} → Option Refusal → Core → K.State → ℕ → X → (Report → Y) → OnTicket K X Y
unless K (Some w) k f t x y = record { answer = Some (Err (record { back = x; why = w })); core = k; lines = f }
unless K None k f t x y = record { answer = answered (turned K k f t).answer x y; core = (turned K k f t).core; lines = (turned K k f t).lines }

-- a turn on the ticket x of a call c that gives e
abbrev pub ticket_turn : (K : Kind) → {C E : Type 0} → Core → K.State → Ticket C → Call → E → OnTicket K (Ticket C) (Turned C E)
ticket_turn K k f x c e = unless K (refusal_for k x.thread c) k f x.thread x (λ r. after r.status x r e)
