-- Which finished calls give a hold, and of what.
--   hold_of       the hold that a call gives to the thread that has finished it, or none
--   mutex_taken   the mutex of that hold, and 0 where there is none
use Rattle.std.specs.Prelude.{ℕ, Some, None, Option}
use Rattle.stages.specs.declared.call.Call.{Call}
use Rattle.stages.specs.declared.call.Call.TheVariants.{Acquire, Release, Wait, Signal, Broadcast, P, V, Alert, TestAlert, AlertP, AlertWait}
use Rattle.tickets.specs.declared.hold.Hold.{Hold}

abbrev pub hold_of : Call → ℕ → Option Hold
hold_of (Acquire m) t = Some (record { thread = t; mutex = m })
hold_of (Release m) t = None
hold_of (Wait m c) t = Some (record { thread = t; mutex = m })
hold_of (Signal c) t = None
hold_of (Broadcast c) t = None
hold_of (P s) t = None
hold_of (V s) t = None
hold_of (Alert n) t = None
hold_of TestAlert t = None
hold_of (AlertP s) t = None
hold_of (AlertWait m c) t = Some (record { thread = t; mutex = m })

abbrev pub mutex_or : Option Hold → ℕ
mutex_or (Some h) = h.mutex
mutex_or None = 0

abbrev pub mutex_taken : Call → ℕ
mutex_taken c = mutex_or (hold_of c 0)
