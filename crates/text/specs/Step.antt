-- What one line does.
--     Step m X        an answer in X or a refusal, and the nub after it, if there is one
--     built, submitted, turned   the step of N or K, of S and of T, from the numbers that were read
--     Reply           what is answered to a line that is not refused
--     replied r       an answer or a refusal, with the bytes of a note in place of where they stand
--     stepped m s l   the step of the line l where the nub is s
use Rattle.std.specs.Prelude.{ℕ, Bool, true, false, List, drop, Some, None, Ok, Err, Option, Result, slice_index}
use Rattle.text.specs.declared.answer.Report.{Report}
use Rattle.text.specs.declared.answer.Refusal.{Refusal}
use Rattle.text.specs.declared.answer.Refusal.TheVariants.{Nub, Script}
use Rattle.text.specs.declared.answer.Answer.{Answer}
use Rattle.text.specs.declared.answer.Answer.TheVariants as answer
use Rattle.tokens.specs.declared.fault.Fault.TheVariants.{NoLetter, BadNumber, OutOfOrder}
use Rattle.text.specs.Model.{Model}
use Rattle.tokens.specs.Word.{Word, first_come, ranked, submit, turn, note, number, wrong, opening}
use Rattle.tokens.specs.Numbers.{read}

pub record Step (m : Model) (X : Type 0) : Type 0 where
  pub answer : Result X Refusal
  pub state : Option m.State

-- a refusal leaves the nub as it was
abbrev pub refused : (m : Model) {X : Type 0} → Refusal → Option m.State → Step m X
refused m r s = record { answer = Err r; state = s }

abbrev pub by_nub : {X : Type 0} → Result X ℕ → Result X Refusal
by_nub (Ok x) = Ok x
by_nub (Err n) = Err (Nub n)

-- where the nub cannot be built there is still none, so that it may be tried again
abbrev pub making : (m : Model) → Result m.State ℕ → Step m (Unit {0})
making m (Ok s) = record { answer = Ok tt; state = Some s }
making m (Err n) = refused m (Nub n) None

abbrev pub built : (m : Model) → Bool → Option m.State → Result (List ℕ) ℕ → Step m (Unit {0})
built m k s (Err c) = refused m (Script (BadNumber c)) s
built m k (Some s) (Ok ns) = refused m (Script OutOfOrder) (Some s)
built m k None (Ok ns) = making m (m.build k ns)

abbrev pub submitted : (m : Model) → Option m.State → Result (List ℕ) ℕ → Step m (Unit {0})
submitted m s (Err c) = refused m (Script (BadNumber c)) s
submitted m None (Ok ns) = refused m (Script OutOfOrder) None
submitted m (Some s) (Ok ns) = record { answer = by_nub (m.submit s ns); state = Some (m.submitted s ns) }

abbrev pub turned : (m : Model) → Option m.State → Result (List ℕ) ℕ → Step m Report
turned m s (Err c) = refused m (Script (BadNumber c)) s
turned m None (Ok ns) = refused m (Script OutOfOrder) None
turned m (Some s) (Ok ns) = record { answer = by_nub (m.turn s (slice_index ns 0)); state = Some (m.turned s (slice_index ns 0)) }

pub data Reply : Type 0 where
  done : Reply
  reported : Report → Reply
  -- the bytes after the mark of a note
  echoed : List ℕ → Reply

abbrev pub reply_of : Answer → Reply
reply_of answer.Done = done
reply_of (answer.Turned r) = reported r
reply_of (answer.Note s) = echoed s.now

abbrev pub replied : Result Answer Refusal → Result Reply Refusal
replied (Ok a) = Ok (reply_of a)
replied (Err r) = Err r

abbrev pub saying : {X : Type 0} → (X → Reply) → Result X Refusal → Result Reply Refusal
saying f (Ok x) = Ok (f x)
saying f (Err r) = Err r

abbrev pub answered : (m : Model) {X : Type 0} → (X → Reply) → Step m X → Step m Reply
answered m f s = record { answer = saying f s.answer; state = s.state }

-- by the word that a line begins with, and the bytes after its letter, which stand from column 2 on
abbrev pub by_word : (m : Model) → Word → Option m.State → List ℕ → Step m Reply
by_word m first_come s bs = answered m (λ _. done) (built m false s (read 5 2 bs))
by_word m ranked s bs = answered m (λ _. done) (built m true s (read 5 2 bs))
by_word m submit s bs = answered m (λ _. done) (submitted m s (read 4 2 bs))
by_word m turn s bs = answered m reported (turned m s (read 1 2 bs))
by_word m (note t) s bs = record { answer = Ok (echoed t); state = s }
by_word m (number ds) s bs = refused m (Script NoLetter) s
by_word m (wrong n) s bs = refused m (Script NoLetter) s

abbrev pub stepped : (m : Model) → Option m.State → List ℕ → Step m Reply
stepped m s line = by_word m (opening line) s (drop 1 line)
