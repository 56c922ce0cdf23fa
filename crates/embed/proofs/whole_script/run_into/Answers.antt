use Rattle.std.proofs.Common.{ℕ, List, length, sym, refl, ap, ◌∙◌, inl, inr}
use Rattle.script.proofs.Plays.{plays_right}
use Rattle.embed.specs.Play.{laid}
use Rattle.embed.proofs.whole_script.run_into.Goals as goal

pub returns-in-Ok : goal.returns-in-Ok
returns-in-Ok c =
    let t = c.in-Ok.ensures.text in
    record {
      text = inr (c.len.ensures ∙ sym c.as_slice.ensures.len ∙ ap length (c.as_slice.ensures.value ∙ t), c.lay.ensures ∙ ap (λ (xs : List ℕ). laid xs c.args.output.now) (c.as_slice.ensures.value ∙ t));
      run = plays_right c.args.input.now;
    }

pub returns-in-Err : goal.returns-in-Err
returns-in-Err c = record { text = inl (refl, refl); run = plays_right c.args.input.now }
