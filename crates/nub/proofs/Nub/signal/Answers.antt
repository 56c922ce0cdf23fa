use Rattle.std.proofs.Common.{◌≡◌, ℕ, ◌<◌, Bool, false, ◌||◌, List, length, get_or, Option, ap, ◌∙◌}
use lib.ListN.{get_or-replicate}
use Rattle.lines.specs.Lines.{has}
use Rattle.stages.specs.Calls.Object.{condition}
use Rattle.nub.specs.Places.{at_line, by_condition}
use Rattle.nub.specs.Work.{taken_in, worked_in, signalled_on, freed_mask_on}
use Rattle.nub.proofs.Taken.{signalled_marks, mask_marks}
use Rattle.nub.proofs.Nub.signal.Goals as goal

pub returns : goal.returns
returns g c =
    let K = g.L.LineSet.kind in
    let k = c.args.self.now.core in
    let f = g.L.LineSet.state c.args.self.now.lines in
    let e = c.args.effect in
    let i = c.in-Some.c in
    let q = c.in-Some.ensures in
    let us : Option ℕ → List ℕ = λ l. taken_in K e l f in
    let bs : List Bool = c.mark.new.taken in
    let l : length bs ≡ 64 = c.mark.auto.taken in
    let a : c.condition_line.result ≡ at_line (condition i) = c.condition_line.ensures in
    let m : (n : ℕ) → n < 64 → get_or bs n false ≡ has n (us (at_line (condition i))) =
    λ n h. c.mark.ensures.marks n h ∙ ap (λ (x : Bool). x || has n (us c.condition_line.result)) (get_or-replicate 64 n false false h) ∙ ap (λ (o : Option ℕ). has n (us o)) a in
    record {
      core = c.count_up.ensures.core ∙ signalled_marks (us (at_line (condition i))) bs i k l m e c.count_up.ensures.full ∙ ap (λ (o : Option ℕ). signalled_on e o (us (by_condition o)) k) q;
      lines = c.mark.ensures.after ∙ ap (λ (o : Option ℕ). worked_in K e o f 0) a ∙ ap (λ (o : Option ℕ). worked_in K e (by_condition o) f 0) q;
      mask = c.count_up.ensures.value ∙ mask_marks (us (at_line (condition i))) bs i k l m ∙ ap (λ (o : Option ℕ). freed_mask_on o (us (by_condition o)) k) q;
    }
