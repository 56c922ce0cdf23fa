-- How `value` goes along digits, and when they are worth a number.
use Rattle.std.proofs.Common.{◌≡◌, ℕ, ◌+◌, ◌-◌, ◌*◌, ◌<◌, ◌≤◌, List, [], ◌∷◌, length, get_or, drop, Some, None, sym, ap, ◌∙◌, arith}
use Rattle.std.proofs.lemmas.List.{at_drop_more}
use Rattle.std.proofs.lemmas.Bool.{le-leb, lt-leb, and_from, and_right, cond-true, cond-false}
use Rattle.tokens.specs.Number.{value_on, value, worth}

pub value_on_ge : (n : ℕ) (ds : List ℕ) → n ≤ value_on n ds
value_on_ge n [] = omega arith
value_on_ge n (d ∷ ds) = omega (arith, value_on_ge (n * 10 + (d - 48)) ds)

pub value_on_more : (n : ℕ) (ds : List ℕ) (i : ℕ) → i < length ds → value_on n (drop i ds) ≡ value_on (n * 10 + (get_or ds i 0 - 48)) (drop (i + 1) ds)
value_on_more n ds i h = at_drop_more (value_on n) ds i 0 h

-- one digit more is at least that
pub value_on_high : (n : ℕ) (ds : List ℕ) (i : ℕ) → i < length ds → n * 10 + (get_or ds i 0 - 48) ≤ value_on n (drop i ds)
value_on_high n ds i h = omega (arith, value_on_more n ds i h, value_on_ge (n * 10 + (get_or ds i 0 - 48)) (drop (i + 1) ds))

pub worth_high : (ds : List ℕ) → 4294967295 < value ds → None ≡ worth ds
worth_high ds h = sym (cond-false _ _ _ (and_right _ _ (lt-leb _ _ h)))

pub worth_some : (ds : List ℕ) (n : ℕ) → n ≡ value ds → length ds ≤ 10 → n ≤ 4294967295 → Some n ≡ worth ds
worth_some ds n e short low = ap Some e ∙ sym (cond-true _ _ _ (and_from _ _ (le-leb _ _ short) (le-leb _ _ (omega arith))))
