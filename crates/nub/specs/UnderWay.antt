-- Which call a thread has under way.
--   under_way   the call of thread t, or why a turn of it is declined
use Rattle.std.specs.Prelude.{ℕ, [], Ok, Err, Option, Result}
use Rattle.stages.specs.declared.call.Call.{Call}
use Rattle.nub.specs.declared.Core.{Core}
use Rattle.nub.specs.declared.Decline.{Decline}
use Rattle.nub.specs.declared.Event.TheVariants.{Turn as turn}
use Rattle.nub.specs.Model.{verdict, by_verdict}
use Rattle.nub.specs.View.{view_core}
use Rattle.nub.specs.Work.{thread_at}

abbrev pub under_way : Core → ℕ → Result (Option Call) Decline
under_way k t = by_verdict (verdict (view_core k (λ o. [])) (turn t)) (Ok (thread_at k t).call) (λ d. Err d)
