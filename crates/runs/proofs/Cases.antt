use Rattle.lines.specs.Lines.{stands}
use Rattle.std.proofs.Common.{refl}
use Rattle.runs.specs.Cases.{CasesHold}

pub cases_hold : CasesHold
unfolding stands
cases_hold =
    record {
      acquire_free = refl;
      v_available = refl;
      signal_between = refl;
      alert_then_signal = refl;
      quit_then_signal = refl;
      alertp_available = refl;
      signal_limit = (refl, refl);
    }
