use Rattle.std.proofs.Common.{Option, Some, sym, ap, ◌∙◌}
use Rattle.stages.specs.declared.call.Call.{Call}
use Rattle.nub.specs.Model.{code_kind}
use Rattle.nub.specs.Turn.{call_by}
use Rattle.nub.specs.Submissions.{of_call, begun, result_of}
use Rattle.nub.proofs.Submitted.{call_for, verdict_of}
use Rattle.nub.proofs.Core.submit.Goals as goal

pub returns : goal.returns
returns c =
    let k = c.args.self.now in
    let t = c.args.t in
    let call = c.in_ok-call.call in
    let m = c.in_ok-call.ensures in
    let v = verdict_of k t c.args.code c.args.a c.args.b call c.in_ok-check_thread.ensures m in
    record {
      core =
          c.begin.ensures.after
          ∙ ap (λ (o : Option Call). begun k t o (of_call k t (Some call))) (call_for k c.args.code c.args.a c.args.b call m)
          ∙ ap (begun k t (call_by (code_kind c.args.code) c.args.a c.args.b)) (sym v);
      answer = c.begin.ensures.answer ∙ ap result_of (sym v);
    }
