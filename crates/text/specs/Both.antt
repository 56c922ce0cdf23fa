-- Two machines of one kind each, as the machine of a script.
--     Either           a state of one kind or of the other
--     either_of f g h   the state of the machine h, read by f or by g after its kind
--     held_at f g o     the same where there may be no machine yet
--     both a b         the machine of a script that is a or b, as it is built
--     is_ranked o      the kind whose waiting threads go by the order o, true for ranked
--     builder_of o     the word of a line that builds a machine of that kind
use Rattle.std.specs.Prelude.{ℕ, Bool, true, false, List, Some, None, Option, Result}
use Rattle.text.specs.declared.answer.Report.{Report}
use Rattle.tokens.specs.Word.{Word, first_come, ranked}
use Rattle.text.specs.declared.held.Held.{Held}
use Rattle.text.specs.declared.held.Held.TheVariants.{ByArrival, ByRank}
use Rattle.text.specs.declared.held.Order.{Order}
use Rattle.text.specs.declared.held.Order.TheVariants.{Arrival, Rank}
use Rattle.text.specs.Model.{Model, Single, made_at}

pub data Either (X Y : Type 0) : Type 0 where
  arrival : X → Either X Y
  rank : Y → Either X Y

abbrev pub either_of : {A B X Y : Type 0} → (A → X) → (B → Y) → Held A B → Either X Y
either_of f g (ByArrival a) = arrival (f a)
either_of f g (ByRank b) = rank (g b)

abbrev pub held_at : {A B X Y : Type 0} → (A → X) → (B → Y) → Option (Held A B) → Option (Either X Y)
held_at f g (Some h) = Some (either_of f g h)
held_at f g None = None

module _ (a b : Single) where
  abbrev pub build_both : Bool → List ℕ → Result (Either a.State b.State) ℕ
  build_both false ns = made_at arrival (a.build ns)
  build_both true ns = made_at rank (b.build ns)

  abbrev pub submit_both : Either a.State b.State → List ℕ → Result (Unit {0}) ℕ
  submit_both (arrival s) ns = a.submit s ns
  submit_both (rank s) ns = b.submit s ns

  abbrev pub submitted_both : Either a.State b.State → List ℕ → Either a.State b.State
  submitted_both (arrival s) ns = arrival (a.submitted s ns)
  submitted_both (rank s) ns = rank (b.submitted s ns)

  abbrev pub turn_both : Either a.State b.State → ℕ → Result Report ℕ
  turn_both (arrival s) t = a.turn s t
  turn_both (rank s) t = b.turn s t

  abbrev pub turned_both : Either a.State b.State → ℕ → Either a.State b.State
  turned_both (arrival s) t = arrival (a.turned s t)
  turned_both (rank s) t = rank (b.turned s t)

  abbrev pub both : Model
  both = record { State = Either a.State b.State; build = build_both; submit = submit_both; submitted = submitted_both; turn = turn_both; turned = turned_both }

abbrev pub is_ranked : Order → Bool
is_ranked Arrival = false
is_ranked Rank = true

abbrev pub builder_of : Order → Word
builder_of Arrival = first_come
builder_of Rank = ranked
