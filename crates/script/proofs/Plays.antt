-- What is written of a script is what a right run of its nub says.
use Rattle.std.proofs.Common.{◌≡◌, ℕ, ◌+◌, ◌≤◌, Bool, true, false, cond, leb, List, [], ◌∷◌, ◌++◌, map, length, get_or, take, Some, None, Ok, Err, Option, sym, refl, ap, ◌∙◌, subst, lit≤}
use Rattle.std.proofs.lemmas.Bool.{leb-true, leb-false, cond-true}
use Rattle.lines.specs.Arrivals.{earliest}
use Rattle.lines.specs.Ranking.{best}
use Rattle.lines.specs.Choosing.{first_come, ranked}
use Rattle.lines.specs.Lawful.{choosing_laws, first_picks}
use Rattle.lines.specs.Best.{best_picks}
use Rattle.nub.specs.declared.Event.{Event}
use Rattle.nub.specs.declared.Sizes.{Sizes}
use Rattle.nub.specs.Build.{sizes_fit, built_sizes, built_core, least_sizes}
use Rattle.runs.specs.Replay.{ran, RunsRight}
use Rattle.runs.proofs.Kept.{runs_over}
use Rattle.text.specs.declared.answer.Refusal.TheVariants.{Script}
use Rattle.tokens.specs.declared.fault.Fault.TheVariants.{OutOfOrder, TooLong}
use Rattle.text.specs.Step.{Step, Reply, done, echoed, stepped}
use Rattle.text.specs.Written.{line_text}
use Rattle.text.specs.Script.{lines, texts}
use Rattle.script.specs.OneNub.{Now, asked, answer_to, after}
use Rattle.script.specs.Kinds.{kind_of, new_lines}
use Rattle.script.specs.Written.{written}
use Rattle.script.specs.Played.{Meaning, builds, enters, notes, faulty, meaning, events_in, Said, said_of, told, makes, early, numbered, new_core, Run, Replied, unbuilt, run, Played, long, short}
use Rattle.script.proofs.Limits.{LowStart, low_start}
use Rattle.script.proofs.Steps.{machine, nub_at, with_nub, with_nub_lem, new_one, built_if, with_none, with_none_lem}

-- what is said to each line, where the nub is s
abbrev said_along : Option machine.State → List (List ℕ) → List Said
said_along s [] = []
said_along s (l ∷ ls) = (stepped machine s l).answer ∷ said_along (stepped machine s l).state ls

texts_said : (n : ℕ) (s : Option machine.State) (ls : List (List ℕ)) → texts machine n s ls ≡ numbered n (said_along s ls)
texts_said n s [] = refl
texts_said n s (l ∷ ls) = ap (λ t. line_text (n + 1) (stepped machine s l).answer ++ t) (texts_said (n + 1) (stepped machine s l).state ls)

-- where there is a nub, its answers are those of the run of the lines' events
told_along : (k : Bool) (n : Now (kind_of k)) (ls : List (List ℕ)) → said_along (Some (nub_at k n)) ls ≡ told (map meaning ls) (ran (kind_of k) n.core n.lines (events_in (map meaning ls))).answers
told_along k n [] = refl
told_along k n (l ∷ ls) = ap (λ (s : Step machine Reply). s.answer ∷ said_along s.state ls) (with_nub_lem k n l) ∙ by_meaning (meaning l) (λ n. told_along k n ls)
  where
    by_meaning : (x : Meaning) → ((n : Now (kind_of k)) → said_along (Some (nub_at k n)) ls ≡ told (map meaning ls) (ran (kind_of k) n.core n.lines (events_in (map meaning ls))).answers)
        → ((with_nub k n x).answer ∷ said_along (with_nub k n x).state ls) ≡ told (x ∷ map meaning ls) (ran (kind_of k) n.core n.lines (events_in (x ∷ map meaning ls))).answers
    by_meaning (builds j ns) more = ap (λ rs. Err (Script OutOfOrder) ∷ rs) (more n)
    by_meaning (enters e) more = ap (λ rs. said_of (answer_to (kind_of k) n e) ∷ rs) (more (after (kind_of k) n e))
    by_meaning (notes t) more = ap (λ rs. Ok (echoed t) ∷ rs) (more n)
    by_meaning (faulty f) more = ap (λ rs. Err (Script f) ∷ rs) (more n)

-- the run theorem, at a new nub of either kind
runs_right : (k : Bool) (z : Sizes) (start : ℕ) (es : List Event) → start ≤ 4294967295 → RunsRight (kind_of k) (built_core (built_sizes (kind_of k).serves z) start) (new_lines k) es
runs_right false z start es h = runs_over first_come (choosing_laws 64 (Unit {0}) (λ _ ts. earliest ts) (λ _ ts. first_picks ts)) (lit≤ tt, lit≤ tt) z start (new_lines false) es h (λ l. refl)
runs_right true z start es h = runs_over ranked (choosing_laws 32 (List ℕ) best best_picks) (lit≤ tt, lit≤ tt) z start (new_lines true) es h (λ l. refl)

-- a line builds a nub, and the others run it
first_run : (k : Bool) (ns : List ℕ) (ls : List (List ℕ)) → makes (builds k ns) ≡ true → get_or ns 4 0 ≤ 4294967295 → Run (builds k ns ∷ map meaning ls) (Ok done ∷ said_along (Some (nub_at k (new_one k ns))) ls)
first_run k ns ls fits low = record {
  before = [];
  kind = k;
  numbers = ns;
  after = map meaning ls;
  cut = refl;
  made = fits;
  first = tt;
  said = ap (λ rs. Ok done ∷ rs) (told_along k (new_one k ns) ls ∙ ap (λ (z : Sizes). told (map meaning ls) (ran (kind_of k) (built_core z (get_or ns 4 0)) (new_lines k) (events_in (map meaning ls))).answers) same);
  right = right (events_in (map meaning ls));
  along = λ n. right (take n (events_in (map meaning ls)));
}
  where
    same : built_sizes (kind_of k).serves (asked ns) ≡ asked ns
    same = cond-true (sizes_fit (kind_of k).serves (asked ns)) (asked ns) least_sizes fits

    right : (es : List Event) → RunsRight (kind_of k) (new_core ns) (new_lines k) es
    right es = subst (λ (z : Sizes). RunsRight (kind_of k) (built_core z (get_or ns 4 0)) (new_lines k) es) same (runs_right k (asked ns) (get_or ns 4 0) es low)

-- one line more before those, which builds no nub
one_before : (x : Meaning) (ms : List Meaning) (rs : List Said) → makes x ≡ false → Replied ms rs → Replied (x ∷ ms) (early x ∷ rs)
one_before x ms rs e (unbuilt none said) = unbuilt (e, none) (ap (λ rs. early x ∷ rs) said)
one_before x ms rs e (run r) = run (record {
  before = x ∷ r.before;
  kind = r.kind;
  numbers = r.numbers;
  after = r.after;
  cut = ap (λ ms. x ∷ ms) r.cut;
  made = r.made;
  first = (e, r.first);
  said = ap (λ rs. early x ∷ rs) r.said;
  right = r.right;
  along = r.along;
})

replied : (ls : List (List ℕ)) → Replied (map meaning ls) (said_along None ls)
replied [] = unbuilt tt refl
replied (l ∷ ls) = subst (λ (s : Step machine Reply). Replied (meaning l ∷ map meaning ls) (s.answer ∷ said_along s.state ls)) (sym (with_none_lem l)) (by_meaning (meaning l) (low_start l) (replied ls))
  where
    by_sizes : (k : Bool) (ns : List ℕ) → get_or ns 4 0 ≤ 4294967295 → Replied (map meaning ls) (said_along None ls) → (b : Bool) → makes (builds k ns) ≡ b
        → Replied (builds k ns ∷ map meaning ls) ((built_if b k ns).answer ∷ said_along (built_if b k ns).state ls)
    by_sizes k ns low more true e = run (first_run k ns ls e low)
    by_sizes k ns low more false e = one_before (builds k ns) (map meaning ls) (said_along None ls) e more

    by_meaning : (x : Meaning) → LowStart x → Replied (map meaning ls) (said_along None ls) → Replied (x ∷ map meaning ls) ((with_none x).answer ∷ said_along (with_none x).state ls)
    by_meaning (builds k ns) low more = by_sizes k ns low more (makes (builds k ns)) refl
    by_meaning (enters e) low more = one_before (enters e) (map meaning ls) (said_along None ls) refl more
    by_meaning (notes t) low more = one_before (notes t) (map meaning ls) (said_along None ls) refl more
    by_meaning (faulty f) low more = one_before (faulty f) (map meaning ls) (said_along None ls) refl more

pub plays_right : (bs : List ℕ) → Played bs (written bs)
plays_right bs = by_length (leb (length bs) 65536) refl
  where
    by_length : (b : Bool) → leb (length bs) 65536 ≡ b → Played bs (cond b (texts machine 0 None (lines bs)) (line_text 0 (Err (Script TooLong))))
    by_length true e = short (leb-true (length bs) 65536 e) (said_along None (lines bs)) (replied (lines bs)) (texts_said 0 None (lines bs))
    by_length false e = long (leb-false (length bs) 65536 e) refl
