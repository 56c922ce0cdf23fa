-- What a set of waiting lines is, what each operation answers, and by which number a refusal is known. Assumes nothing.
--     Lines                         for each line its members, in order of arrival
--     lines                         how many lines there are
--     has t xs                      t is one of xs
--     none xs                       xs has no member
--     distinct xs                   no one stands twice in xs
--     stands n f t                  t stands in one of the first n lines
--     put f l xs                    the lines f, with xs for line l
--     without t xs, minus o xs      xs without t; xs without the one that o gives, if any
--     Sound serves f                no thread stands twice in f, and only threads below serves stand
--     add_answer, remove_answer, take_answer, every_answer, empty_answer      what each operation answers
--     marked xs bs                  the marks bs, with those of xs set
--     after r new old               what is left by an operation that answers r
--     number d                      the number of the refusal d
use Rattle.std.specs.Prelude.{◌≡◌, ℕ, zero, suc, ◌<◌, Bool, true, false, cond, not, ◌&&◌, ◌||◌, List, [], ◌∷◌, Some, None, Ok, Err, Option, Result, ◌==◌, nat_lt, slice_set}
use Rattle.lines.specs.declared.decline.Decline.{Decline}
use Rattle.lines.specs.declared.decline.Decline.TheVariants.{NoSuchLine, NotServed, AlreadyInSet, NotInLine}

-- a line that there is not, at 48 and above, has a list too; `Sound` says that it is empty
abbrev pub Lines : Type 0
Lines = ℕ → List ℕ

-- mutex m has line m, semaphore s line 16 + s, condition c line 32 + c
abbrev pub lines : ℕ
lines = 48

abbrev pub has : ℕ → List ℕ → Bool
has t [] = false
has t (x ∷ xs) = x == t || has t xs

-- a proof unfolds it by name, since `stands lines f t` would otherwise be 48 tests wherever it is met
unfoldable pub stands : ℕ → Lines → ℕ → Bool
stands zero f t = false
stands (suc n) f t = has t (f n) || stands n f t

abbrev pub put : Lines → ℕ → List ℕ → Lines
put f l xs k = cond (l == k) xs (f k)

abbrev pub without : ℕ → List ℕ → List ℕ
without t [] = []
without t (x ∷ xs) = cond (x == t) (without t xs) (x ∷ without t xs)

abbrev pub minus : Option ℕ → List ℕ → List ℕ
minus None xs = xs
minus (Some t) xs = without t xs

abbrev pub none : List ℕ → Bool
none [] = true
none (x ∷ xs) = false

abbrev pub distinct : List ℕ → Bool
distinct [] = true
distinct (x ∷ xs) = not (has x xs) && distinct xs

pub record Sound (serves : ℕ) (f : Lines) : Type 0 where
  -- no thread stands twice in a line
  pub once : (l : ℕ) → distinct (f l) ≡ true
  -- no thread stands in two lines
  pub one_line : (l k t : ℕ) → has t (f l) ≡ true → has t (f k) ≡ true → l ≡ k
  -- only served threads stand
  pub served : (l t : ℕ) → has t (f l) ≡ true → t < serves
  -- they stand only in lines that there are
  pub inside : (l t : ℕ) → has t (f l) ≡ true → l < lines

-- the refusals are tried in the order of their numbers, here and below
abbrev pub add_answer : ℕ → Lines → ℕ → ℕ → Result (Unit {0}) Decline
add_answer serves f l t =
    cond (nat_lt l lines) (cond (nat_lt t serves) (cond (stands lines f t) (Err AlreadyInSet) (Ok tt)) (Err NotServed)) (Err NoSuchLine)

abbrev pub remove_answer : ℕ → Lines → ℕ → ℕ → Result (Unit {0}) Decline
remove_answer serves f l t =
    cond (nat_lt l lines) (cond (nat_lt t serves) (cond (has t (f l)) (Ok tt) (Err NotInLine)) (Err NotServed)) (Err NoSuchLine)

-- `next` is whom the kind chooses in each line
abbrev pub take_answer : (ℕ → Option ℕ) → ℕ → Result (Option ℕ) Decline
take_answer next l = cond (nat_lt l lines) (Ok (next l)) (Err NoSuchLine)

abbrev pub every_answer : ℕ → Result (Unit {0}) Decline
every_answer l = cond (nat_lt l lines) (Ok tt) (Err NoSuchLine)

abbrev pub empty_answer : Lines → ℕ → Result Bool Decline
empty_answer f l = cond (nat_lt l lines) (Ok (none (f l))) (Err NoSuchLine)

abbrev pub marked : List ℕ → List Bool → List Bool
marked [] bs = bs
marked (x ∷ xs) bs = marked xs (slice_set bs x true)

-- a refusal alters nothing
abbrev pub after : {A S : Type 0} → Result A Decline → S → S → S
after (Ok a) new old = new
after (Err e) new old = old

abbrev pub number : Decline → ℕ
number NoSuchLine = 21
number NotServed = 22
number AlreadyInSet = 23
number NotInLine = 24
