-- Which column a text that should be some numbers is told, in words that do not repeat how it is read.
--     OverLimit bs           bs begin with a number that is over its limit
--     Leftmost k tail o      where k more numbers should stand, the leftmost fault of the tail is o bytes on
--     Faulted k c text e     the text, from column c on, is not k numbers, and its leftmost fault is at the column e
--     Right k text ns        the text is the k numbers ns
--     TellsRight            what is read of a text is right: it is the numbers, or the column is that of the leftmost fault
use Rattle.std.specs.Prelude.{◌≡◌, ℕ, zero, suc, ◌+◌, ◌<◌, false, ◌⊎◌, List, [], ◌∷◌, ◌++◌, length, None, Ok, Err, Result}
use Rattle.std.specs.Char.{is_ascii_digit}
use Rattle.tokens.specs.Number.{worth}
use Rattle.tokens.specs.Numbers.{read}
use Rattle.tokens.specs.Laws.{AllDigits, SpellAll, spaced}

abbrev pub NoSpace : List ℕ → Type 0
NoSpace [] = Unit {0}
NoSpace (b ∷ bs) = b ≡ 32 → ⊥

abbrev pub NoDigit : List ℕ → Type 0
NoDigit [] = Unit {0}
NoDigit (b ∷ bs) = is_ascii_digit b ≡ false

-- begins with a number over its limit
pub record OverLimit (rest : List ℕ) : Type 0 where
  pub ds : List ℕ
  pub more : List ℕ
  pub some : 0 < length ds
  pub digits : AllDigits ds
  pub ends : NoDigit more
  pub cut : rest ≡ ds ++ more
  pub high : worth ds ≡ None

-- where k numbers should follow, the tail has its leftmost fault o bytes on
abbrev pub Leftmost : ℕ → List ℕ → ℕ → Type 0
Leftmost zero tail o = (0 < length tail) × (o ≡ 0)
Leftmost (suc k) tail o = (NoSpace tail × (o ≡ 0)) ⊎ ((rest : List ℕ) × (tail ≡ 32 ∷ rest) × (o ≡ 1) × (NoDigit rest ⊎ OverLimit rest))

-- the last of the right numbers, if any, ends where the tail begins
abbrev pub Ended : List (List ℕ) → List ℕ → Type 0
Ended [] tail = Unit {0}
Ended (ds ∷ dss) tail = NoDigit tail

-- after some right numbers, the column e has the leftmost fault
pub record Faulted (k c : ℕ) (text : List ℕ) (e : ℕ) : Type 0 where
  pub dss : List (List ℕ)
  pub ns : List ℕ
  pub spells : SpellAll dss ns
  pub left : ℕ
  pub count : length ns + left ≡ k
  pub tail : List ℕ
  pub cut : text ≡ spaced dss ++ tail
  pub ended : Ended dss tail
  pub on : ℕ
  pub fault : Leftmost left tail on
  pub column : e ≡ c + (length (spaced dss) + on)

pub record Right (k : ℕ) (text ns : List ℕ) : Type 0 where
  pub dss : List (List ℕ)
  pub spells : SpellAll dss ns
  pub count : length ns ≡ k
  pub cut : text ≡ spaced dss

abbrev pub Told : ℕ → ℕ → List ℕ → Result (List ℕ) ℕ → Type 0
Told k c text (Ok ns) = Right k text ns
Told k c text (Err e) = Faulted k c text e

abbrev pub TellsRight : Type 0
TellsRight = (k c : ℕ) (text : List ℕ) → Told k c text (read k c text)
