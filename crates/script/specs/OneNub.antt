-- One nub over lines of a kind, as the machine of a script: each line of the script is an event of the nub's run.
--   Now              its state: the arrays and the lines
--   now_of            the state of a nub, its lines read by f
--   asked            the sizes that a building line asks for; its fifth number is the start count
--   submission_of     the event of a submission line, and turn_of that of a turn line
--   answer_to         the nub's answer to an event, and after the state that it leaves
--   in_numbers        a report of the nub, in numbers
--   submission_says   the nub's answer to a submission, in numbers, and turn_says that to a turn
--   build_one         what a building line makes, or the number of the decline
--   nub_over          the nub over lines of the kind K, which are f when new
use Rattle.std.specs.Prelude.{ℕ, List, Ok, Err, Result, slice_index}
use Rattle.lines.specs.Kinds.{Kind}
use Rattle.stages.specs.Names.{status_no, action_no}
use Rattle.nub.specs.declared.Core.{Core}
use Rattle.nub.specs.declared.Sizes.{Sizes}
use Rattle.nub.specs.declared.Nub.{Nub}
use Rattle.nub.specs.declared.Decline.{Decline}
use Rattle.nub.specs.declared.Report as nub
use Rattle.nub.specs.declared.Event.{Event}
use Rattle.nub.specs.declared.Event.TheVariants.{Submission, Turn}
use Rattle.nub.specs.declared.Answer.{Answer}
use Rattle.nub.specs.declared.Answer.TheVariants.{Granted as granted, Declined as declined, Reported as reported}
use Rattle.nub.specs.Answers.{decline_no}
use Rattle.nub.specs.Build.{sizes_verdict, built_sizes, built_core}
use Rattle.nub.specs.Turn.{moves}
use Rattle.nub.specs.View.{core_of, lines_of}
use Rattle.text.specs.declared.answer.Report.{Report}
use Rattle.text.specs.Model.{Single}

pub record Now (K : Kind) : Type 0 where
  pub core : Core
  pub lines : K.State

abbrev pub now_of : (K : Kind) {L : Type 0} → (L → K.State) → Nub L → Now K
now_of K f n = record { core = core_of n; lines = f (lines_of n) }

-- threads, mutexes, conditions and semaphores
abbrev pub asked : List ℕ → Sizes
asked ns = record { threads = slice_index ns 0; mutexes = slice_index ns 1; conditions = slice_index ns 2; semaphores = slice_index ns 3 }

-- a thread, the code of its call and two objects
abbrev pub submission_of : List ℕ → Event
submission_of ns = Submission (slice_index ns 0) (slice_index ns 1) (slice_index ns 2) (slice_index ns 3)

abbrev pub turn_of : ℕ → Event
turn_of t = Turn t

abbrev pub answer_to : (K : Kind) → Now K → Event → Answer
answer_to K n e = (moves K n.core n.lines e).answer

abbrev pub after : (K : Kind) → Now K → Event → Now K
after K n e = record { core = (moves K n.core n.lines e).core; lines = (moves K n.core n.lines e).lines }

abbrev pub in_numbers : nub.Report → Report
in_numbers r = record { status = status_no r.status; value = r.value; action = action_no r.action; mask = r.mask }

-- no submission is answered by a report
abbrev pub submission_says : Answer → Result (Unit {0}) ℕ
submission_says granted = Ok tt
submission_says (declined d) = Err (decline_no d)
submission_says (reported r) = Ok tt

-- no turn is answered without a report or a decline; 0 is the number of no decline
abbrev pub turn_says : Answer → Result Report ℕ
turn_says granted = Err 0
turn_says (declined d) = Err (decline_no d)
turn_says (reported r) = Ok (in_numbers r)

-- x where a check grants it
abbrev pub checked : {X : Type 0} → Result (Unit {0}) Decline → X → Result X ℕ
checked (Ok u) x = Ok x
checked (Err d) x = Err (decline_no d)

-- a new nub with these sizes and this start count
abbrev pub new_nub : (K : Kind) → K.State → Sizes → ℕ → Now K
new_nub K f z n = record { core = built_core (built_sizes K.serves z) n; lines = f }

abbrev pub build_one : (K : Kind) → K.State → List ℕ → Result (Now K) ℕ
build_one K f ns = checked (sizes_verdict K.serves (asked ns)) (new_nub K f (asked ns) (slice_index ns 4))

abbrev pub nub_over : (K : Kind) → K.State → Single
nub_over K f = record {
  State = Now K;
  build = build_one K f;
  submit = λ n ns. submission_says (answer_to K n (submission_of ns));
  submitted = λ n ns. after K n (submission_of ns);
  turn = λ n t. turn_says (answer_to K n (turn_of t));
  turned = λ n t. after K n (turn_of t);
}
