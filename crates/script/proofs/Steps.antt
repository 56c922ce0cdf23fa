-- What one line does, by its meaning, where there is a nub and where there is none.
use Rattle.std.proofs.Common.{◌≡◌, ℕ, Bool, true, false, cond, ltb, List, get_or, drop, Some, None, Ok, Err, Option, Result, refl, ap}
use Rattle.lines.specs.Kinds.{Kind}
use Rattle.stages.specs.declared.step.Step as stage
use Rattle.thread.specs.Turns.{step_after}
use Rattle.nub.specs.declared.Core.{Core}
use Rattle.nub.specs.declared.Decline.{Decline}
use Rattle.nub.specs.declared.Decline.TheVariants.{NoThread, WrongSize}
use Rattle.nub.specs.Work.{thread_at}
use Rattle.nub.specs.Turn.{answer_in, verdict_in, sight_of, row_done, steps, turned}
use Rattle.nub.specs.Turn as nub
use Rattle.text.specs.declared.answer.Refusal.TheVariants.{Script}
use Rattle.tokens.specs.declared.fault.Fault.TheVariants.{OutOfOrder}
use Rattle.text.specs.Model.{Model, made_at}
use Rattle.text.specs.Both.{both, arrival, rank}
use Rattle.tokens.specs.Word.{Word, first_come, ranked, submit, turn, note, number, wrong, opening}
use Rattle.tokens.specs.Numbers.{read}
use Rattle.text.specs.Step.{Step, Reply, done, reported, echoed, by_nub, making, built, submitted, saying, answered, by_word, stepped}
use Rattle.text.specs.Step as text
use Rattle.script.specs.OneNub.{Now, asked, submission_of, turn_of, answer_to, after, submission_says, turn_says, checked, new_nub}
use Rattle.script.specs.Kinds.{by_arrival, by_rank, kind_of, new_lines}
use Rattle.script.specs.Played.{Meaning, builds, enters, notes, faulty, means_by, word_means, meaning, said_of, makes, early, Said}

abbrev pub machine : Model
machine = both by_arrival by_rank

-- a nub of either kind, as the machine's state
abbrev pub nub_at : (k : Bool) → Now (kind_of k) → machine.State
nub_at false n = arrival n
nub_at true n = rank n

-- a submission is granted or declined
said_submission : (v : Option Decline) → saying (λ _. done) (by_nub (submission_says (answer_in v))) ≡ said_of (answer_in v)
said_submission None = refl
said_submission (Some d) = refl

-- a turn is reported or declined
said_turn : (K : Kind) (k : Core) (f : K.State) (t : ℕ) → saying reported (by_nub (turn_says (turned K k f t).answer)) ≡ said_of (turned K k f t).answer
said_turn K k f t = by_thread (ltb t k.sizes.threads) (step_after (thread_at k t) (sight_of K k f t))
  where
    by_thread : (b : Bool) (o : Option stage.Step)
        → saying reported (by_nub (turn_says (cond b (steps K o t (thread_at k t).call k (row_done k t (sight_of K k f t)) f) (nub.refused K NoThread k f)).answer))
        ≡ said_of (cond b (steps K o t (thread_at k t).call k (row_done k t (sight_of K k f t)) f) (nub.refused K NoThread k f)).answer
    by_thread true None = refl
    by_thread true (Some s) = refl
    by_thread false o = refl

-- what is said to a line, and the nub after it
abbrev pub step_to : Said → Option machine.State → Step machine Reply
step_to r s = record { answer = r; state = s }

-- the step of a line where the nub is n
abbrev pub with_nub : (k : Bool) → Now (kind_of k) → Meaning → Step machine Reply
with_nub k n (builds j ns) = step_to (Err (Script OutOfOrder)) (Some (nub_at k n))
with_nub k n (enters e) = step_to (said_of (answer_to (kind_of k) n e)) (Some (nub_at k (after (kind_of k) n e)))
with_nub k n (notes t) = step_to (Ok (echoed t)) (Some (nub_at k n))
with_nub k n (faulty f) = step_to (Err (Script f)) (Some (nub_at k n))

pub with_nub_lem : (k : Bool) (n : Now (kind_of k)) (l : List ℕ) → stepped machine (Some (nub_at k n)) l ≡ with_nub k n (meaning l)
with_nub_lem k n l = by_word_lem (opening l) (drop 1 l)
  where
    built_again : (j : Bool) (r : Result (List ℕ) ℕ) → answered machine (λ _. done) (built machine j (Some (nub_at k n)) r) ≡ with_nub k n (means_by (builds j) r)
    built_again j (Ok ns) = refl
    built_again j (Err c) = refl

    submission : (k : Bool) (n : Now (kind_of k)) (r : Result (List ℕ) ℕ) → answered machine (λ _. done) (submitted machine (Some (nub_at k n)) r) ≡ with_nub k n (means_by (λ ns. enters (submission_of ns)) r)
    submission false n (Ok ns) = ap (λ r. step_to r (Some (arrival (after (kind_of false) n (submission_of ns))))) (said_submission (verdict_in n.core (get_or ns 0 0) (get_or ns 1 0) (get_or ns 2 0) (get_or ns 3 0)))
    submission true n (Ok ns) = ap (λ r. step_to r (Some (rank (after (kind_of true) n (submission_of ns))))) (said_submission (verdict_in n.core (get_or ns 0 0) (get_or ns 1 0) (get_or ns 2 0) (get_or ns 3 0)))
    submission k n (Err c) = refl

    turn_of_lem : (k : Bool) (n : Now (kind_of k)) (r : Result (List ℕ) ℕ) → answered machine reported (text.turned machine (Some (nub_at k n)) r) ≡ with_nub k n (means_by (λ ns. enters (turn_of (get_or ns 0 0))) r)
    turn_of_lem false n (Ok ns) = ap (λ r. step_to r (Some (arrival (after (kind_of false) n (turn_of (get_or ns 0 0)))))) (said_turn (kind_of false) n.core n.lines (get_or ns 0 0))
    turn_of_lem true n (Ok ns) = ap (λ r. step_to r (Some (rank (after (kind_of true) n (turn_of (get_or ns 0 0)))))) (said_turn (kind_of true) n.core n.lines (get_or ns 0 0))
    turn_of_lem k n (Err c) = refl

    by_word_lem : (w : Word) (bs : List ℕ) → by_word machine w (Some (nub_at k n)) bs ≡ with_nub k n (word_means w bs)
    by_word_lem first_come bs = built_again false (read 5 2 bs)
    by_word_lem ranked bs = built_again true (read 5 2 bs)
    by_word_lem submit bs = submission k n (read 4 2 bs)
    by_word_lem turn bs = turn_of_lem k n (read 1 2 bs)
    by_word_lem (note t) bs = refl
    by_word_lem (number ds) bs = refl
    by_word_lem (wrong j) bs = refl

-- a new nub from five numbers
abbrev pub new_one : (k : Bool) → List ℕ → Now (kind_of k)
new_one k ns = new_nub (kind_of k) (new_lines k) (asked ns) (get_or ns 4 0)

-- a nub is asked for where there is none, and made if b
abbrev pub built_if : Bool → Bool → List ℕ → Step machine Reply
built_if b k ns = cond b (step_to (Ok done) (Some (nub_at k (new_one k ns)))) (step_to (early (builds k ns)) None)

-- the step of a line where there is no nub
abbrev pub with_none : Meaning → Step machine Reply
with_none (builds k ns) = built_if (makes (builds k ns)) k ns
with_none (enters e) = step_to (early (enters e)) None
with_none (notes t) = step_to (early (notes t)) None
with_none (faulty f) = step_to (early (faulty f)) None

pub with_none_lem : (l : List ℕ) → stepped machine None l ≡ with_none (meaning l)
with_none_lem l = by_word_lem (opening l) (drop 1 l)
  where
    by_sizes : (k b : Bool) (ns : List ℕ) → answered machine (λ _. done) (making machine (made_at (nub_at k) (checked (cond {A = Result (Unit {0}) Decline} b (Ok tt) (Err WrongSize)) (new_one k ns)))) ≡ built_if b k ns
    by_sizes k true ns = refl
    by_sizes k false ns = refl

    built_first : (k : Bool) (r : Result (List ℕ) ℕ) → answered machine (λ _. done) (built machine k None r) ≡ with_none (means_by (builds k) r)
    built_first false (Ok ns) = by_sizes false (makes (builds false ns)) ns
    built_first true (Ok ns) = by_sizes true (makes (builds true ns)) ns
    built_first k (Err c) = refl

    submission : (r : Result (List ℕ) ℕ) → answered machine (λ _. done) (submitted machine None r) ≡ with_none (means_by (λ ns. enters (submission_of ns)) r)
    submission (Ok ns) = refl
    submission (Err c) = refl

    turn_of_lem : (r : Result (List ℕ) ℕ) → answered machine reported (text.turned machine None r) ≡ with_none (means_by (λ ns. enters (turn_of (get_or ns 0 0))) r)
    turn_of_lem (Ok ns) = refl
    turn_of_lem (Err c) = refl

    by_word_lem : (w : Word) (bs : List ℕ) → by_word machine w None bs ≡ with_none (word_means w bs)
    by_word_lem first_come bs = built_first false (read 5 2 bs)
    by_word_lem ranked bs = built_first true (read 5 2 bs)
    by_word_lem submit bs = submission (read 4 2 bs)
    by_word_lem turn bs = turn_of_lem (read 1 2 bs)
    by_word_lem (note t) bs = refl
    by_word_lem (number ds) bs = refl
    by_word_lem (wrong j) bs = refl
