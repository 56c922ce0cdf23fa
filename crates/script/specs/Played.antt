-- A script as a run of one nub: what is written of it is what the nub answers along a run that is right.
--   Meaning         what a line asks for, whatever came before it
--   meaning l       that of the line l
--   events_in ms     the submissions and turns that lines of the meanings ms ask for, in order
--   Said            what is said to a line: a reply or a refusal
--   said_of a        what is said to a line whose event the nub answers by a
--   told ms as      what is said to lines where there is a nub, whose answers to their events are as
--   makes x         where there is no nub, a line of the meaning x builds one
--   early x         what is said to a line of the meaning x where there is no nub, and it builds none
--   numbered n rs   what is written where rs are said to the lines from n + 1 on
--   new_core ns      a new nub but for its lines, of the sizes and the start count that the five numbers ns give
--   Run ms rs       the lines build a nub and then run it: their events, and its answers as rs say them, are a right run
--   Replied ms rs   rs are said to lines of the meanings ms, which build no nub, or are a run of one
--   Played bs out   out is written of the input bs
use Rattle.std.specs.Prelude.{◌≡◌, ℕ, ◌+◌, ◌<◌, ◌≤◌, Bool, true, false, List, [], ◌∷◌, ◌++◌, map, length, take, drop, Ok, Err, Result, slice_index}
use Rattle.nub.specs.declared.Core.{Core}
use Rattle.nub.specs.declared.Decline.TheVariants.{WrongSize}
use Rattle.nub.specs.declared.Event.{Event}
use Rattle.nub.specs.declared.Answer.{Answer}
use Rattle.nub.specs.declared.Answer.TheVariants.{Granted as granted, Declined as declined, Reported as reported}
use Rattle.nub.specs.Answers.{decline_no}
use Rattle.nub.specs.Build.{sizes_fit, built_core}
use Rattle.runs.specs.Replay.{ran, RunsRight}
use Rattle.text.specs.declared.answer.Refusal.{Refusal}
use Rattle.text.specs.declared.answer.Refusal.TheVariants.{Nub, Script}
use Rattle.tokens.specs.declared.fault.Fault.{Fault}
use Rattle.tokens.specs.declared.fault.Fault.TheVariants.{NoLetter, BadNumber, OutOfOrder, TooLong}
use Rattle.tokens.specs.Word.{Word, first_come, ranked, submit, turn, note, number, wrong, opening}
use Rattle.tokens.specs.Numbers.{read}
use Rattle.text.specs.Step.{Reply, done, echoed}
use Rattle.text.specs.Step as step
use Rattle.text.specs.Written.{line_text}
use Rattle.text.specs.Script.{lines}
use Rattle.script.specs.OneNub.{asked, submission_of, turn_of, in_numbers}
use Rattle.script.specs.Kinds.{kind_of, new_lines}

pub data Meaning : Type 0 where
  -- a new nub, with lines by rank if true, and five numbers
  builds : Bool → List ℕ → Meaning
  -- a submission or a turn
  enters : Event → Meaning
  -- the bytes after the mark of a note
  notes : List ℕ → Meaning
  -- nothing, for its fault
  faulty : Fault → Meaning

-- by the numbers that were read after the letter, or the column of their fault
abbrev pub means_by : (List ℕ → Meaning) → Result (List ℕ) ℕ → Meaning
means_by f (Ok ns) = f ns
means_by f (Err c) = faulty (BadNumber c)

-- by the word that a line begins with, and the bytes after its letter, which stand from column 2 on
abbrev pub word_means : Word → List ℕ → Meaning
word_means first_come bs = means_by (builds false) (read 5 2 bs)
word_means ranked bs = means_by (builds true) (read 5 2 bs)
word_means submit bs = means_by (λ ns. enters (submission_of ns)) (read 4 2 bs)
word_means turn bs = means_by (λ ns. enters (turn_of (slice_index ns 0))) (read 1 2 bs)
word_means (note t) bs = notes t
word_means (number ds) bs = faulty NoLetter
word_means (wrong n) bs = faulty NoLetter

abbrev pub meaning : List ℕ → Meaning
meaning l = word_means (opening l) (drop 1 l)

abbrev pub events_in : List Meaning → List Event
events_in [] = []
events_in (builds k ns ∷ ms) = events_in ms
events_in (enters e ∷ ms) = e ∷ events_in ms
events_in (notes t ∷ ms) = events_in ms
events_in (faulty f ∷ ms) = events_in ms

abbrev pub Said : Type 0
Said = Result Reply Refusal

abbrev pub said_of : Answer → Said
said_of granted = Ok done
said_of (declined d) = Err (Nub (decline_no d))
said_of (reported r) = Ok (step.reported (in_numbers r))

-- each event takes the next answer, and there is one for each; a second nub is refused
abbrev pub told : List Meaning → List Answer → List Said
told [] as' = []
told (builds k ns ∷ ms) as' = Err (Script OutOfOrder) ∷ told ms as'
told (enters e ∷ ms) [] = []
told (enters e ∷ ms) (a ∷ as') = said_of a ∷ told ms as'
told (notes t ∷ ms) as' = Ok (echoed t) ∷ told ms as'
told (faulty f ∷ ms) as' = Err (Script f) ∷ told ms as'

abbrev pub makes : Meaning → Bool
makes (builds k ns) = sizes_fit (kind_of k).serves (asked ns)
makes (enters e) = false
makes (notes t) = false
makes (faulty f) = false

-- no line of these meanings does
abbrev pub NoneMakes : List Meaning → Type 0
NoneMakes [] = Unit {0}
NoneMakes (x ∷ ms) = (makes x ≡ false) × NoneMakes ms

-- a nub of wrong sizes is declined, and a submission or a turn comes too early
abbrev pub early : Meaning → Said
early (builds k ns) = Err (Nub (decline_no WrongSize))
early (enters e) = Err (Script OutOfOrder)
early (notes t) = Ok (echoed t)
early (faulty f) = Err (Script f)

abbrev pub numbered : ℕ → List Said → List ℕ
numbered n [] = []
numbered n (r ∷ rs) = line_text (n + 1) r ++ numbered (n + 1) rs

abbrev pub new_core : List ℕ → Core
new_core ns = built_core (asked ns) (slice_index ns 4)

pub record Run (ms : List Meaning) (rs : List Said) : Type 0 where
  -- the lines before the one that builds the nub, what that one asks for, and the lines after it
  pub before : List Meaning
  pub kind : Bool
  pub numbers : List ℕ
  pub after : List Meaning
  pub cut : ms ≡ before ++ (builds kind numbers ∷ after)
  -- it builds one, and it is the first
  pub made : makes (builds kind numbers) ≡ true
  pub first : NoneMakes before
  -- what is said to the lines after it is what the nub answers along the run of their events
  pub said : rs ≡ map early before ++ (Ok done ∷ told after (ran (kind_of kind) (new_core numbers) (new_lines kind) (events_in after)).answers)
  -- that run conforms to the published actions, and all that it asks of the lines is granted
  pub right : RunsRight (kind_of kind) (new_core numbers) (new_lines kind) (events_in after)
  -- and so it does where it is cut short, after any number of events
  pub along : (n : ℕ) → RunsRight (kind_of kind) (new_core numbers) (new_lines kind) (take n (events_in after))

pub data Replied (ms : List Meaning) (rs : List Said) : Type 0 where
  unbuilt : NoneMakes ms → rs ≡ map early ms → Replied ms rs
  run : Run ms rs → Replied ms rs

pub data Played (bs out : List ℕ) : Type 0 where
  -- an input of more than 65,536 bytes is refused as line 0
  long : 65536 < length bs → out ≡ line_text 0 (Err (Script TooLong)) → Played bs out
  short : length bs ≤ 65536 → (rs : List Said) → Replied (map meaning (lines bs)) rs → out ≡ numbered 0 rs → Played bs out
