-- Numbers that are each written after one space are read right.
use Rattle.std.proofs.Common.{◌≡◌, ℕ, ◌+◌, List, [], ◌∷◌, ◌++◌, length, drop, refl, ap, ◌∙◌, add-one, arith}
use Rattle.std.proofs.lemmas.List.{take_at, drop_at}
use Rattle.std.proofs.lemmas.Bool.{ne_eqb}
use Rattle.std.specs.Char.{is_ascii_digit}
use Rattle.std.specs.List.{prefix_len}
use Rattle.tokens.specs.Word.{number, numeral, digits_or}
use Rattle.tokens.specs.Numbers.{read, taken, counted, prepend}
use Rattle.tokens.specs.Laws.{AllDigits, Spells, spaced, ReadsRight}

digits_front : (ds rest : List ℕ) → AllDigits ds → prefix_len is_ascii_digit rest ≡ 0 → prefix_len is_ascii_digit (ds ++ rest) ≡ length ds
digits_front [] rest h stop = stop
digits_front (d ∷ ds) rest h stop = rw h.0 (omega (arith, digits_front ds rest h.1 stop))

stops : (dss : List (List ℕ)) → prefix_len is_ascii_digit (spaced dss) ≡ 0
stops [] = refl
stops (ds ∷ dss) = refl

is_number : (ds rest : List ℕ) (n : ℕ) → Spells ds n → prefix_len is_ascii_digit rest ≡ 0 → numeral (32 ∷ (ds ++ rest)) ≡ number ds
is_number ds rest n h stop =
    let some : length ds ≡ 0 → ⊥ = λ z. omega (arith, h.some) in
    let long = digits_front ds rest h.digits stop in
    ap (λ k. digits_or k (ds ++ rest)) long ∙ rw (ne_eqb (length ds) 0 some, take_at ds rest (length ds) refl) refl

pub reads_right : ReadsRight
reads_right [] [] c h = refl
reads_right [] (n ∷ ns) c h = absurd h
reads_right (ds ∷ dss) [] c h = absurd h
reads_right (ds ∷ dss) (n ∷ ns) c h =
    let next : ℕ → _ = λ k. read (length ns) (c + (k + 1)) (drop (k + 1) (spaced (ds ∷ dss))) in
    let past : drop (length ds + 1) (spaced (ds ∷ dss)) ≡ spaced dss = rw add-one (drop_at ds (spaced dss) (length ds) refl) in
    ap (λ w. taken w c next) (is_number ds (spaced dss) n h.0 (stops dss))
    ∙ ap (λ o. counted o (c + 1) (next (length ds))) h.0.value
    ∙ ap (λ t. prepend (n ∷ []) (read (length ns) (c + (length ds + 1)) t)) past
    ∙ ap (prepend (n ∷ [])) (reads_right dss ns (c + (length ds + 1)) h.1)
