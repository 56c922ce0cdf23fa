use Rattle.std.proofs.Common.{ap, ◌∙◌}
use Rattle.lines.specs.Arrivals.{place}
use Rattle.lines.proofs.Granted.{has_place, removed_if}
use Rattle.lines.proofs.waiting.Waiting.place_of.Goals as goal

pub returns-clause-member : goal.returns-clause-member
returns-clause-member g c =
    has_place c.args.line c.args.thread c.args.self.now.arrivals.items _ (c.place_in.ensures.value ∙ ap (place c.args.line c.args.thread) c.as_slice.ensures.value)

pub returns-clause-without : goal.returns-clause-without
returns-clause-without g c =
    let a = c.args.self.now in
    removed_if g.row.N c.args.line c.args.thread a.arrivals.items _ a.apart (c.place_in.ensures.value ∙ ap (place c.args.line c.args.thread) c.as_slice.ensures.value)
