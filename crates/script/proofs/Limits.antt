-- The numbers of a line are at most 4,294,967,295; so is the start count that a line gives.
use Rattle.std.proofs.Common.{◌≡◌, ℕ, zero, suc, ◌+◌, ◌≤◌, Bool, true, false, cond, ◌&&◌, leb, List, [], ◌∷◌, length, get_or, drop, Some, None, Ok, Err, Result, refl, lit≤}
use Rattle.std.proofs.lemmas.Bool.{leb-true}
use Rattle.nub.specs.declared.Event.{Event}
use Rattle.tokens.specs.Number.{value}
use Rattle.tokens.specs.Word.{Word, first_come, ranked, submit, turn, note, number, wrong, numeral, opening}
use Rattle.tokens.specs.Numbers.{read, prepend, counted, taken}
use Rattle.script.specs.OneNub.{submission_of, turn_of}
use Rattle.script.specs.Played.{Meaning, builds, enters, notes, faulty, means_by, word_means, meaning}

-- the numbers that were read, if they were
abbrev AllLow : Result (List ℕ) ℕ → Type 0
AllLow (Ok ns) = (i : ℕ) → get_or ns i 0 ≤ 4294967295
AllLow (Err c) = Unit {0}

low_prepend : (n : ℕ) (r : Result (List ℕ) ℕ) → n ≤ 4294967295 → AllLow r → AllLow (prepend (n ∷ []) r)
low_prepend n (Ok ns) h low = λ i. at i
  where
    at : (i : ℕ) → get_or (n ∷ ns) i 0 ≤ 4294967295
    at zero = h
    at (suc i) = low i
low_prepend n (Err c) h low = tt

low_counted : (a b : Bool) (n c : ℕ) (r : Result (List ℕ) ℕ) → (b ≡ true → n ≤ 4294967295) → AllLow r → AllLow (counted (cond (a && b) (Some n) None) c r)
low_counted true true n c r h low = low_prepend n r (h refl) low
low_counted true false n c r h low = tt
low_counted false b n c r h low = tt

low_taken : (w : Word) (c : ℕ) (next : ℕ → Result (List ℕ) ℕ) → ((n : ℕ) → AllLow (next n)) → AllLow (taken w c next)
low_taken (number ds) c next low = low_counted (leb (length ds) 10) (leb (value ds) 4294967295) (value ds) (c + 1) (next (length ds)) (leb-true (value ds) 4294967295) (low (length ds))
low_taken (wrong n) c next low = tt
low_taken first_come c next low = tt
low_taken ranked c next low = tt
low_taken submit c next low = tt
low_taken turn c next low = tt
low_taken (note t) c next low = tt

low_read : (k c : ℕ) (bs : List ℕ) → AllLow (read k c bs)
low_read zero c [] = λ i. lit≤ tt
low_read zero c (b ∷ bs) = tt
low_read (suc k) c bs = low_taken (numeral bs) c (λ n. read k (c + (n + 1)) (drop (n + 1) bs)) (λ n. low_read k (c + (n + 1)) (drop (n + 1) bs))

-- the start count, if a nub is asked for
abbrev pub LowStart : Meaning → Type 0
LowStart (builds k ns) = get_or ns 4 0 ≤ 4294967295
LowStart (enters e) = Unit {0}
LowStart (notes t) = Unit {0}
LowStart (faulty f) = Unit {0}

pub low_start : (l : List ℕ) → LowStart (meaning l)
low_start l = by_word_lem (opening l) (drop 1 l)
  where
    built : (k : Bool) (r : Result (List ℕ) ℕ) → AllLow r → LowStart (means_by (builds k) r)
    built k (Ok ns) low = low 4
    built k (Err c) low = tt

    entered : (f : List ℕ → Event) (r : Result (List ℕ) ℕ) → LowStart (means_by (λ ns. enters (f ns)) r)
    entered f (Ok ns) = tt
    entered f (Err c) = tt

    by_word_lem : (w : Word) (bs : List ℕ) → LowStart (word_means w bs)
    by_word_lem first_come bs = built false (read 5 2 bs) (low_read 5 2 bs)
    by_word_lem ranked bs = built true (read 5 2 bs) (low_read 5 2 bs)
    by_word_lem submit bs = entered submission_of (read 4 2 bs)
    by_word_lem turn bs = entered (λ ns. turn_of (get_or ns 0 0)) (read 1 2 bs)
    by_word_lem (note t) bs = tt
    by_word_lem (number ds) bs = tt
    by_word_lem (wrong n) bs = tt
