use Rattle.std.proofs.Common.{◌≡◌, ◌+◌, ◌<◌, ◌≤◌, List, [], length, get_or, take, vec_items, sym, refl, ap, subst, arith}
use Rattle.std.proofs.lemmas.List.{take_all, take_more}
use Rattle.nub.specs.declared.Answer.{Answer}
use Rattle.nub.specs.declared.Event.{Event}
use Rattle.nub.specs.declared.Event.TheVariants.{Submission}
use Rattle.nub.specs.Build.{built_sizes}
use Rattle.nub.specs.Turn.{moves}
use Rattle.runs.specs.Replay.{Conformed}
use Rattle.runs.proofs.Along.{Along, along_none, along_end, along_next, ran_next, built_sized}
use Rattle.runs.proofs.Kept.{runs_over}
use Rattle.runs.proofs.replay.replay.Goals as goal

pub loop-event-init : goal.loop-event-init
loop-event-init g c =
    let K = g.L.LineSet.kind in
    let m = g.met.L.LineSet in
    let k = c.make-nub.result.core in
    let f = g.L.LineSet.state c.make-nub.result.lines in
    let b : c.args.start ≤ 4294967295 = omega (arith, c.ranges.start.fits) in (
      subst (λ (xs : List Answer). Along K [] xs k f) (sym c.new-answers.ensures.items)
          (along_none K k (built_sizes K.serves c.args.sizes) c.args.start f c.make-nub.ensures.core b (built_sized K.serves c.args.sizes m.serving)
          (λ l. subst (λ (s : K.State). K.line s l ≡ []) (sym c.make-nub.ensures.lines) (m.new c.args.maker l))),
      ap (λ (xs : List Answer). record { answers = xs; core = k; lines = f }) (sym c.new-answers.ensures.items),
    )

pub loop-event-preserved : goal.loop-event-preserved
loop-event-preserved g c =
    let K = g.L.LineSet.kind in
    let m = g.met.L.LineSet in
    let k = c.loop-event.nub.core in
    let f = g.L.LineSet.state c.loop-event.nub.lines in
    let h = c.loop-event.invariant in
    let es = c.args.events.now in
    let i = c.loop-event.event-index in
    let e : Event = get_or es i (Submission 0 0 0 0) in
    let l : i < length es = c.loop-event-test.true in (
      along_next K m.lawful (take i es) (take (i + 1) es) (vec_items c.loop-event.answers) (vec_items c.enter_one.new.answers) k c.enter_one.new.nub.core f (g.L.LineSet.state c.enter_one.new.nub.lines) e (moves K k f e).answer
          (m.sound c.loop-event.nub.lines) h.0 (take_more es i (Submission 0 0 0 0) l) c.in_ok-enter_one.ensures.answer refl c.enter_one.ensures.core c.enter_one.ensures.lines,
      ran_next K c.make-nub.result.core (g.L.LineSet.state c.make-nub.result.lines) (take i es) (take (i + 1) es) (vec_items c.loop-event.answers) (vec_items c.enter_one.new.answers) k c.enter_one.new.nub.core f (g.L.LineSet.state c.enter_one.new.nub.lines) e (moves K k f e).answer
          h.1 (take_more es i (Submission 0 0 0 0) l) c.in_ok-enter_one.ensures.answer refl c.enter_one.ensures.core c.enter_one.ensures.lines,
    )

pub returns-in_err-enter_one-clause-granted : goal.returns-in_err-enter_one-clause-granted
returns-in_err-enter_one-clause-granted g c =
    let m = g.met.L.LineSet in
    let b : c.args.start ≤ 4294967295 = omega (arith, c.ranges.start.fits) in
    (runs_over g.L.LineSet.kind m.lawful m.serving c.args.sizes c.args.start (g.L.LineSet.fresh c.args.maker) c.args.events.now b (m.new c.args.maker)).granted

pub returns-clause-run : goal.returns-clause-run
returns-clause-run g c =
    let K = g.L.LineSet.kind in
    let i = c.loop-event.event-index in
    let l : length c.args.events.now ≤ i = c.loop-event-test.false in
    subst (λ (es : List Event). Conformed K es (vec_items c.loop-event.answers) c.loop-event.nub.core (g.L.LineSet.state c.loop-event.nub.lines)) (take_all i c.args.events.now l)
    (along_end K (take i c.args.events.now) (vec_items c.loop-event.answers) c.loop-event.nub.core (g.L.LineSet.state c.loop-event.nub.lines) c.loop-event.invariant.0)

pub returns-clause-granted : goal.returns-clause-granted
returns-clause-granted g c =
    let m = g.met.L.LineSet in
    let b : c.args.start ≤ 4294967295 = omega (arith, c.ranges.start.fits) in
    (runs_over g.L.LineSet.kind m.lawful m.serving c.args.sizes c.args.start (g.L.LineSet.fresh c.args.maker) c.args.events.now b (m.new c.args.maker)).granted
