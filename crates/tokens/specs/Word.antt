-- The words of a line: what its tokens are, without regard to where their bytes stand.
--     Word         a letter, a note, a number, or the place of a wrong byte
--     word_of o    the word of a token
--     opened o     the word that is read where a line opens, and the place of a wrong byte where none is
--     spelt r      the word that is read where a number stands, or the place of a wrong byte
--     opening l    the word that the line l begins with
--     numeral bs   the number that bs begin with, after one space
--     reach w      how many bytes a number takes, with its space
use Rattle.std.specs.Prelude.{ℕ, ◌+◌, cond, List, [], ◌∷◌, length, take, Some, None, Ok, Err, Option, Result, ◌==◌}
use Rattle.std.specs.Char.{is_ascii_digit}
use Rattle.std.specs.List.{prefix_len}
use Rattle.tokens.specs.declared.token.Misplaced.{Misplaced}
use Rattle.tokens.specs.declared.token.Token.{Token}
use Rattle.tokens.specs.declared.token.Token.TheVariants as opens

pub data Word : Type 0 where
  first_come : Word
  ranked : Word
  submit : Word
  turn : Word
  -- the bytes after the mark
  note : List ℕ → Word
  -- its digits
  number : List ℕ → Word
  -- so many bytes on is the wrong one, or none
  wrong : ℕ → Word

abbrev pub word_of : Token → Word
word_of opens.FirstCome = first_come
word_of opens.Ranked = ranked
word_of opens.Submit = submit
word_of opens.Turn = turn
word_of (opens.Note s) = note s.now
word_of (opens.Number s) = number s.now

-- the first byte is the wrong one where a line opens with none of these
abbrev pub opened : Option Token → Word
opened (Some o) = word_of o
opened None = wrong 0

abbrev pub spelt : Result Token Misplaced → Word
spelt (Ok o) = word_of o
spelt (Err e) = wrong e.on

-- by the letter that a line begins with: 78 is N, 75 is K, 83 is S, 84 is T, 35 is #
abbrev pub by_letter : ℕ → List ℕ → Word
by_letter b bs =
    cond (b == 78) first_come (cond (b == 75) ranked (cond (b == 83) submit (cond (b == 84) turn (cond (b == 35) (note bs) (wrong 0)))))

abbrev pub opening : List ℕ → Word
opening [] = wrong 0
opening (b ∷ bs) = by_letter b bs

-- the first n bytes, which are digits, if there is one
abbrev pub digits_or : ℕ → List ℕ → Word
digits_or n bs = cond (n == 0) (wrong 1) (number (take n bs))

-- 32 is the space
abbrev pub numeral : List ℕ → Word
numeral [] = wrong 0
numeral (b ∷ bs) = cond (b == 32) (digits_or (prefix_len is_ascii_digit bs) bs) (wrong 0)

abbrev pub reach : Word → ℕ
reach (number ds) = length ds + 1
reach (wrong n) = n
reach first_come = 0
reach ranked = 0
reach submit = 0
reach turn = 0
reach (note s) = 0
