-- How long a ticket lasts: from the submission that is granted to the turn that finishes its call, whatever other threads do.
--   Recorded           every thread of the nub has its record
--   Accepted           a turn on thread t's ticket for the call c is not refused
--   finishes           an event, so answered, is the turn of thread t that finishes its call
--   BuiltRecorded     a new nub is recorded, and StaysRecorded: it stays so at every event
--   GrantedAccepted   the ticket of a granted submission is accepted by the next turn
--   AcceptedLasts     it is accepted after every event but the turn that finishes its call
--   ComesBack         it comes back unchanged from every turn that does not finish its call
use Rattle.std.specs.Prelude.{◌≡◌, ℕ, ◌≤◌, Bool, false, ◌&&◌, length, Some, None, Ok, ◌==◌}
use Rattle.lines.specs.Kinds.{Kind}
use Rattle.stages.specs.Names.{status_no}
use Rattle.stages.specs.declared.action.Status.{Status}
use Rattle.stages.specs.declared.call.Call.{Call}
use Rattle.nub.specs.declared.Core.{Core}
use Rattle.nub.specs.declared.Sizes.{Sizes}
use Rattle.nub.specs.declared.Report.{Report}
use Rattle.nub.specs.declared.Event.{Event}
use Rattle.nub.specs.declared.Event.TheVariants.{Submission as submission, Turn as turn}
use Rattle.nub.specs.declared.Answer.{Answer}
use Rattle.nub.specs.declared.Answer.TheVariants.{Granted as granted, Declined as declined, Reported as reported}
use Rattle.nub.specs.Build.{built_sizes, built_core}
use Rattle.nub.specs.Turn.{turned, moves}
use Rattle.tickets.specs.declared.ticket.Ticket.{Ticket}
use Rattle.tickets.specs.declared.ticket.Turned.TheVariants as gave
use Rattle.nub.specs.Submissions.{verdict_for, submits}
use Rattle.tickets.specs.Refusals.{refusal_for}
use Rattle.tickets.specs.Tickets.{ticket_turn}

abbrev pub Recorded : Core → Type 0
Recorded k = k.sizes.threads ≤ length k.threads

abbrev pub Accepted : Core → ℕ → Call → Type 0
Accepted k t c = refusal_for k t c ≡ None

abbrev pub is_finished : Status → Bool
is_finished s = status_no s == 3

abbrev pub finishes : ℕ → Event → Answer → Bool
finishes t (submission u n a b) w = false
finishes t (turn u) granted = false
finishes t (turn u) (declined d) = false
finishes t (turn u) (reported r) = t == u && is_finished r.status

abbrev pub BuiltRecorded : Type 0
BuiltRecorded = (serves : ℕ) (z : Sizes) (n : ℕ) → serves ≤ 64 → Recorded (built_core (built_sizes serves z) n)

abbrev pub StaysRecorded : Kind → Type 0
StaysRecorded K = (k : Core) (f : K.State) (e : Event) → Recorded k → Recorded (moves K k f e).core

abbrev pub GrantedAccepted : Type 0
GrantedAccepted = (k : Core) (t : ℕ) (c : Call) → Recorded k → verdict_for k t c ≡ None → Accepted (submits k t c) t c

abbrev pub AcceptedLasts : Kind → Type 0
AcceptedLasts K = (k : Core) (f : K.State) (e : Event) (t : ℕ) (c : Call) → Accepted k t c → finishes t e (moves K k f e).answer ≡ false → Accepted (moves K k f e).core t c

abbrev pub ComesBack : Kind → Type 0 → Type 0 → Type 0
ComesBack K C E = (k : Core) (f : K.State) (x : Ticket C) (c : Call) (e : E) (r : Report) → Accepted k x.thread c → (turned K k f x.thread).answer ≡ reported r → is_finished r.status ≡ false → (ticket_turn K k f x c e).answer ≡ Some (Ok (gave.On x r))
