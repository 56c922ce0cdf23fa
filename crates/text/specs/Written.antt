-- What is written of an answer and of a refusal.
--     shown_report r   the text of a report: its letter T, then status, value, action and mask
--     shown_refusal r   the text of a refusal: who refuses, by which number, and a fault's column
--     refusal n r     what is written where line n is refused by r
--     line a          what is written of the reply a
--     written a       what is written of the answer a
--     line_text n r    what is written of line n
use Rattle.std.specs.Prelude.{ℕ, List, [], ◌∷◌, ◌++◌, Ok, Err, codes, decimal, Result}
use Rattle.text.specs.declared.answer.Report.{Report}
use Rattle.text.specs.declared.answer.Refusal.{Refusal}
use Rattle.text.specs.declared.answer.Refusal.TheVariants.{Nub, Script}
use Rattle.text.specs.declared.answer.Answer.{Answer}
use Rattle.tokens.specs.Refusals.{number_of, column_of}
use Rattle.text.specs.Step.{Reply, done, reported, echoed, reply_of}

abbrev pub shown_report : Report → List ℕ
shown_report r = codes "T " ++ (decimal r.status ++ (codes " " ++ (decimal r.value ++ (codes " " ++ (decimal r.action ++ (codes " " ++ decimal r.mask))))))

abbrev pub shown_refusal : Refusal → List ℕ
shown_refusal (Nub k) = codes "nub " ++ decimal k
shown_refusal (Script f) = codes "script " ++ (decimal (number_of f) ++ (codes " column " ++ decimal (column_of f)))

abbrev pub refusal : ℕ → Refusal → List ℕ
refusal n r = codes "line " ++ (decimal n ++ (codes " " ++ (shown_refusal r ++ (10 ∷ []))))

-- 10 is the end of a line, and 35 the mark of a note
abbrev pub line : Reply → List ℕ
line done = codes "ok" ++ (10 ∷ [])
line (reported r) = shown_report r ++ (10 ∷ [])
line (echoed t) = 35 ∷ (t ++ (10 ∷ []))

abbrev pub written : Answer → List ℕ
written a = line (reply_of a)

abbrev pub line_text : ℕ → Result Reply Refusal → List ℕ
line_text n (Ok a) = line a
line_text n (Err r) = refusal n r
