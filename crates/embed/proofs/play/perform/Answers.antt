use Rattle.std.proofs.Common.{◌≡◌, ◌<◌, length, take, ap, ◌∙◌, arith}
use Rattle.std.proofs.lemmas.List.{length-take-le, get_or-take}
use Rattle.embed.specs.declared.numbers.Entry.{Entry}
use Rattle.embed.specs.Numbers.{event_of, in_numbers}
use Rattle.embed.proofs.Laying.{least}
use Rattle.embed.proofs.Playing.{at_step}
use Rattle.embed.proofs.play.perform.Goals as goal

-- an entry that stands for none
abbrev zero : Entry
zero = record { turn = 0; thread = 0; code = 0; first = 0; second = 0 }

pub loop-i-preserved : goal.loop-i-preserved
loop-i-preserved g c =
    let K = g.L.LineSet.kind in
    let i = c.loop-i.i in
    let es = c.args.entries.now in
    let zs = c.args.answers.now in
    let m = least c.min-n.result (length es) (length zs) c.min-n.ensures in
    let n = c.min-n.result in
    let long : length (take n es) ≡ n = length-take-le n es m.left in
    let h : i < n = omega (arith, c.loop-i-test.true, long) in
    at_step K c.args.nub.now.core (g.L.LineSet.state c.args.nub.now.lines) es zs i zero c.loop-i.nub.core c.enter.new.self.core (g.L.LineSet.state c.loop-i.nub.lines) (g.L.LineSet.state c.enter.new.self.lines) c.loop-i.answers c.into.result c.from.result
    (omega (arith, h, m.left)) (omega (arith, h, m.right)) c.loop-i.invariant (c.from.ensures ∙ ap event_of (get_or-take n es i zero h)) c.enter.ensures.core c.enter.ensures.lines (c.into.ensures ∙ ap in_numbers c.enter.ensures.answer)
