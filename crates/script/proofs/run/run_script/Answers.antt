use Rattle.std.proofs.Common.{◌≡◌, vec_items, sym, subst}
use Rattle.std.proofs.lemmas.Result.{IfOk-weaker}
use Rattle.script.specs.Written.{written}
use Rattle.script.specs.Played.{Played}
use Rattle.script.proofs.Plays.{plays_right}
use Rattle.script.proofs.run.run_script.Goals as goal

pub returns : goal.returns
returns c =
    let input = c.args.input.now in
    record {
      text = c.ran.ensures;
      run = IfOk-weaker c.ran.result (λ v. vec_items v ≡ written input) (λ v. Played input (vec_items v)) (λ v e. subst (Played input) (sym e) (plays_right input)) c.ran.ensures;
    }
