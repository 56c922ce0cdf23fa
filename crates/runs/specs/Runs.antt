-- Every run by the rules, whoever is taken at each take.
--   Picks         what a line kind may answer to a take: a member, or none exactly at an empty line
--   Conforms      all along a run each answer is right, and at its end the published state and the nub agree
--   RunsConform  so it is for every build and every list of events
use Rattle.std.specs.Prelude.{◌≡◌, ℕ, true, List, [], ◌∷◌, Some as some, None as none, Option}
use Rattle.stages.specs.Calls.{Object, elem}
use Rattle.nub.specs.Model.{NubState, Pick, built, after, answer}
use Rattle.nub.specs.declared.Event.{Event}
use Rattle.runs.specs.Published.{Published, start, Right, fed}
use Rattle.runs.specs.Reading.{Holds}

abbrev pub Member : List ℕ → Option ℕ → Type 0
Member l none = l ≡ []
Member l (some u) = elem u l ≡ true

abbrev pub Picks : NubState → Pick → Type 0
Picks s pick = (o : Object) → Member (s.line o) (pick o)

-- an event, with whom a take of each line would give at it
pub record Step : Type 0 where
  pub event : Event
  pub pick : Pick

abbrev pub Conforms : Published → NubState → List Step → Type 0
Conforms p s [] = Holds p s
Conforms p s (e ∷ es) =
    Picks s e.pick →
    Right p e.event (answer s e.event e.pick) ×
    Conforms (fed p e.event (answer s e.event e.pick)) (after s e.event e.pick) es

abbrev pub RunsConform : Type 0
RunsConform = (n m c i : ℕ) (begin : ℕ → ℕ) (es : List Step) → Conforms start (built n m c i begin) es
