-- The threads that a signal takes, given by a mark for each thread and not by a list.
use Rattle.thread.specs.Turns.{woken_thread}
use Rattle.lines.specs.Lines.{has}
use Rattle.std.specs.Prelude.{◌≡◌, ◌<◌, length, ℕ, ◌+◌, ◌%◌, ◌^◌, Bool, false, cond, ◌||◌, List, [], ◌∷◌, slice_index_or, slice_set}
use Rattle.thread.specs.declared.record.Thread.{Thread}
use Rattle.stages.specs.declared.step.LineEffect.{LineEffect}
use Rattle.nub.specs.declared.Core.{Core}
use Rattle.nub.specs.Model.{mask_of}
use Rattle.nub.specs.Work.{with_threads, with_counts, count_at, kept_on}

-- the marks new are the marks old, with those of us set; a mark past the end is none
abbrev pub Marks : List Bool → List Bool → List ℕ → Type 0
Marks old new us = (n : ℕ) → n < length old → slice_index_or new n false ≡ (slice_index_or old n false || has n us)

-- the records with the marked ones woken
abbrev pub wake_marked : LineEffect → List Bool → List Thread → List Thread
wake_marked e [] ts = ts
wake_marked e (b ∷ bs) [] = []
wake_marked e (b ∷ bs) (t ∷ ts) = cond b (woken_thread e t) t ∷ wake_marked e bs ts

-- the marked threads are woken, and condition c counts up
abbrev pub signalled_marked : LineEffect → ℕ → List Bool → Core → Core
signalled_marked e c bs k = with_threads (with_counts k (slice_set k.counts c ((count_at k c + 1) % 2 ^ 32))) (wake_marked e bs k.threads)

abbrev pub mask_marked : ℕ → List Bool → Core → ℕ
mask_marked c bs k = mask_of (λ n. slice_index_or bs n false || kept_on k c (count_at k c) n) 64
