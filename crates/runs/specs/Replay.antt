-- What is said of a run: of its entries, its answers and the nub that it leaves.
--   ran         the answers and the nub that the tables give along a list of entries
--   Accepted    the published state takes each entry with its answer
--   published   the published state after them
--   Conformed   a run is right all along, and at its end the published state is the reading of the nub, which is as its marks say
--   Ruled       along a run the arrays and lines do what the rules on functions say, the kind's own choice being whom a take gives
--   RunsOver   every run conforms, on every nub that is built over lines of a kind
use Rattle.std.specs.Prelude.{◌≡◌, ℕ, ◌≤◌, List, [], ◌∷◌}
use Rattle.lines.specs.Kinds.{Kind as LineKind}
use Rattle.nub.specs.declared.Core.{Core}
use Rattle.nub.specs.declared.Event.{Event}
use Rattle.nub.specs.declared.Answer.{Answer}
use Rattle.nub.specs.declared.Sizes.{Sizes}
use Rattle.nub.specs.View.{view, picks}
use Rattle.nub.specs.Model.{after, answer}
use Rattle.nub.specs.Turn.{moves}
use Rattle.nub.specs.Build.{built_core, built_sizes}
use Rattle.runs.specs.Published.{Published, start, Right, fed}
use Rattle.runs.specs.Reading.{Holds, Marked}
use Rattle.runs.specs.Granted.{AllGranted}

abbrev pub Accepted : Published → List Event → List Answer → Type 0
Accepted p [] [] = Unit {0}
Accepted p [] (a ∷ as') = ⊥
Accepted p (e ∷ es) [] = ⊥
Accepted p (e ∷ es) (a ∷ as') = Right p e a × Accepted (fed p e a) es as'

abbrev pub published : Published → List Event → List Answer → Published
published p [] as' = p
published p (e ∷ es) [] = p
published p (e ∷ es) (a ∷ as') = published (fed p e a) es as'

pub record Ran (K : LineKind) : Type 0 where
  pub answers : List Answer
  pub core : Core
  pub lines : K.State

abbrev pub ran : (K : LineKind) → Core → K.State → List Event → Ran K
ran K k f [] = record { answers = []; core = k; lines = f }
ran K k f (e ∷ es) =
    let r : Ran K = ran K (moves K k f e).core (moves K k f e).lines es in
    record { answers = (moves K k f e).answer ∷ r.answers; core = r.core; lines = r.lines }

pub record Conformed (K : LineKind) (es : List Event) (as' : List Answer) (k : Core) (f : K.State) : Type 0 where
  pub accepted : Accepted start es as'
  pub reading : Holds (published start es as') (view K k f)
  pub marked : Marked (view K k f)

abbrev pub Ruled : (K : LineKind) → Core → K.State → List Event → Type 0
Ruled K k f [] = Unit {0}
Ruled K k f (e ∷ es) =
    ((moves K k f e).answer ≡ answer (view K k f) e (picks K f))
    × (view K (moves K k f e).core (moves K k f e).lines ≡ after (view K k f) e (picks K f))
    × Ruled K (moves K k f e).core (moves K k f e).lines es

-- a run on a new nub: what it answers and leaves conforms, and along it nothing that it asks of the lines is refused and no count wraps
pub record RunsRight (K : LineKind) (k : Core) (f : K.State) (es : List Event) : Type 0 where
  pub conformed : Conformed K es (ran K k f es).answers (ran K k f es).core (ran K k f es).lines
  pub granted : AllGranted K k f es
  pub ruled : Ruled K k f es

-- whatever sizes are asked for, also those that the check declines, for every start count, every new set of lines and every list of entries
abbrev pub RunsOver : LineKind → Type 0
RunsOver K =
    (asked : Sizes) (n : ℕ) (f : K.State) (es : List Event) → n ≤ 4294967295 → ((l : ℕ) → K.line f l ≡ [])
    → RunsRight K (built_core (built_sizes K.serves asked) n) f es
