-- A ticket comes back unchanged while its call goes on.
use Rattle.std.proofs.Common.{◌≡◌, false, refl, true≢false}
use Rattle.lines.specs.Kinds.{Kind}
use Rattle.stages.specs.declared.action.Status.{Status}
use Rattle.stages.specs.declared.action.Status.TheVariants as status
use Rattle.nub.specs.declared.Report.{Report}
use Rattle.tickets.specs.declared.ticket.Ticket.{Ticket}
use Rattle.tickets.specs.declared.ticket.Turned.TheVariants as gave
use Rattle.tickets.specs.Tickets.{after}
use Rattle.lasting.specs.Lasting.{is_finished, ComesBack}

goes_on : {C E : Type 0} (s : Status) (x : Ticket C) (r : Report) (e : E) → is_finished s ≡ false → after s x r e ≡ gave.On x r
goes_on status.Finished x r e h = absurd (true≢false h)
goes_on s x r e h = refl

pub returning : (K : Kind) (C E : Type 0) → ComesBack K C E
returning K C E k f x c e r a w h = simp (a, w, goes_on r.status x r e h)
