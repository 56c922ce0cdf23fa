use Rattle.std.proofs.Common.{◌≤◌, length, arith, rules}
use Rattle.runs.proofs.Kept.{runs_over}
use Rattle.embed.specs.Play.{events_for}
use Rattle.embed.proofs.play.play.Goals as goal

pub returns-in-Ok : goal.returns-in-Ok
returns-in-Ok g c =
    let m = g.met.L.LineSet in
    let b : c.args.start ≤ 4294967295 = omega (arith, c.ranges.start.fits) in
    record {
      row = search rules;
      answers = search rules;
      run = runs_over g.L.LineSet.kind m.lawful m.serving c.args.sizes c.args.start (g.L.LineSet.fresh c.args.maker) (events_for (length c.args.answers.now) c.args.entries.now) b (m.new c.args.maker);
    }

pub returns-in-Err : goal.returns-in-Err
returns-in-Err g c =
    let m = g.met.L.LineSet in
    let b : c.args.start ≤ 4294967295 = omega (arith, c.ranges.start.fits) in
    record {
      row = search rules;
      answers = search rules;
      run = runs_over g.L.LineSet.kind m.lawful m.serving c.args.sizes c.args.start (g.L.LineSet.fresh c.args.maker) (events_for (length c.args.answers.now) c.args.entries.now) b (m.new c.args.maker);
    }
