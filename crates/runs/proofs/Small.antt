-- Small facts on tests and lists of thread numbers.
use Rattle.std.proofs.Common.{◌≡◌, ℕ, Bool, true, false, cond, not, ◌&&◌, ◌||◌, T, eqb, List, [], ◌∷◌, ◌++◌, sym, refl, ap, ◌∙◌, arith}
use Rattle.std.proofs.lemmas.Bool.{eq-eqb, eqb-true}
use Rattle.runs.specs.Reading.{stands_by}
use Rattle.stages.specs.Calls.{Object, same_object, elem, without, Request}
use Rattle.stages.specs.Calls.Object.{mutex, semaphore, condition}
use Rattle.stages.specs.declared.step.LineEffect.{LineEffect}
use Rattle.stages.specs.declared.marks.Stands.{Stands}
use Rattle.stages.specs.declared.step.LineEffect.TheVariants.{Keep as keep_line, JoinGate as join_gate, LeaveGate as leave_gate, JoinCondition as join_cond, LeaveCondition as leave_cond, WakeGate as wake_gate, SignalOne as signal_one, SignalAll as signal_all}
use Rattle.stages.specs.declared.marks.Stands.TheVariants.{Nowhere as nowhere, AtGate as at_gate, AtCondition as at_cond}
use Rattle.nub.specs.Model.{line_new, line_at}
use Rattle.stages.proofs.Finite.{no}

pub to_t : (b : Bool) → b ≡ true → T b
to_t true h = tt
to_t false h = no h

pub of_t : (b : Bool) → T b → b ≡ true
of_t true h = refl
of_t false h = absurd h

pub same_object_lem : (a b : Object) → same_object a b ≡ true → a ≡ b
same_object_lem (mutex a) (mutex b) h = ap mutex (eqb-true a b h)
same_object_lem (mutex a) (semaphore b) h = no h
same_object_lem (mutex a) (condition b) h = no h
same_object_lem (semaphore a) (mutex b) h = no h
same_object_lem (semaphore a) (semaphore b) h = ap semaphore (eqb-true a b h)
same_object_lem (semaphore a) (condition b) h = no h
same_object_lem (condition a) (mutex b) h = no h
same_object_lem (condition a) (semaphore b) h = no h
same_object_lem (condition a) (condition b) h = ap condition (eqb-true a b h)

pub object_same : (a : Object) → same_object a a ≡ true
object_same (mutex a) = eq-eqb a a refl
object_same (semaphore a) = eq-eqb a a refl
object_same (condition a) = eq-eqb a a refl

pub elem_join : (u t : ℕ) (l : List ℕ) → elem u (l ++ (t ∷ [])) ≡ (elem u l || eqb t u)
elem_join u t [] = mathlib.Core.Bool.or-false (eqb t u)
elem_join u t (x ∷ l) = go (eqb x u) (elem_join u t l)
  where
    go : (b : Bool) → elem u (l ++ (t ∷ [])) ≡ (elem u l || eqb t u) → (b || elem u (l ++ (t ∷ []))) ≡ (b || elem u l || eqb t u)
    go true ih = refl
    go false ih = ih

pub elem_without : (f : ℕ → Bool) (u : ℕ) (l : List ℕ) → elem u (without f l) ≡ (not (f u) && elem u l)
elem_without f u [] = sym (mathlib.Core.Bool.and-false (not (f u)))
elem_without f u (x ∷ l) = go (f x) (eqb x u) refl refl (elem_without f u l)
  where
    go : (a b : Bool) → f x ≡ a → eqb x u ≡ b → elem u (without f l) ≡ (not (f u) && elem u l)
        → elem u (cond a (without f l) (x ∷ without f l)) ≡ (not (f u) && (b || elem u l))
    go true true p q ih = let e : f u ≡ true = ap f (sym (eqb-true x u q)) ∙ p in rw ih (rw e)
    go true false p q ih = ih
    go false true p q ih = let e : f u ≡ false = ap f (sym (eqb-true x u q)) ∙ p in rw (q, e)
    go false false p q ih = rw q ih

abbrev pub in_new : LineEffect → Bool → Bool → Bool → Bool
in_new keep_line b k was = was
in_new join_gate b k was = was || b
in_new leave_gate b k was = not b && was
in_new join_cond b k was = was || b
in_new leave_cond b k was = not b && was
in_new wake_gate b k was = not k && was
in_new signal_one b k was = not k && was
in_new signal_all b k was = not k && was

pub elem_new : (e : LineEffect) (t u : ℕ) (k l : List ℕ) → elem u (line_new e t k l) ≡ in_new e (eqb t u) (elem u k) (elem u l)
elem_new keep_line t u k l = refl
elem_new join_gate t u k l = elem_join u t l
elem_new leave_gate t u k l = elem_without (λ x. eqb t x) u l
elem_new join_cond t u k l = elem_join u t l
elem_new leave_cond t u k l = elem_without (λ x. eqb t x) u l
elem_new wake_gate t u k l = elem_without (λ x. elem x k) u l
elem_new signal_one t u k l = elem_without (λ x. elem x k) u l
elem_new signal_all t u k l = elem_without (λ x. elem x k) u l

abbrev pub is_stand : Stands → Stands → Bool
is_stand nowhere nowhere = true
is_stand nowhere at_gate = false
is_stand nowhere at_cond = false
is_stand at_gate nowhere = false
is_stand at_gate at_gate = true
is_stand at_gate at_cond = false
is_stand at_cond nowhere = false
is_stand at_cond at_gate = false
is_stand at_cond at_cond = true

abbrev pub stands_pre : LineEffect → Stands
stands_pre keep_line = nowhere
stands_pre join_gate = nowhere
stands_pre leave_gate = at_gate
stands_pre join_cond = nowhere
stands_pre leave_cond = at_cond
stands_pre wake_gate = nowhere
stands_pre signal_one = nowhere
stands_pre signal_all = nowhere

abbrev pub stands_post : LineEffect → Stands
stands_post keep_line = nowhere
stands_post join_gate = at_gate
stands_post leave_gate = nowhere
stands_post join_cond = at_cond
stands_post leave_cond = nowhere
stands_post wake_gate = nowhere
stands_post signal_one = nowhere
stands_post signal_all = nowhere

abbrev pub is_keep_line : LineEffect → Bool
is_keep_line keep_line = true
is_keep_line join_gate = false
is_keep_line leave_gate = false
is_keep_line join_cond = false
is_keep_line leave_cond = false
is_keep_line wake_gate = false
is_keep_line signal_one = false
is_keep_line signal_all = false

abbrev pub stands_ok : LineEffect → Stands → Stands → Bool
stands_ok e m n = cond (is_keep_line e) (is_stand m n) (is_stand (stands_pre e) m && is_stand (stands_post e) n)

-- the acting thread
pub stood_self : (e : LineEffect) (m n : Stands) (c : Request) (o : Object) (ek : Bool) → stands_ok e m n ≡ true
    → cond (same_object (line_at e c) o) (in_new e true ek (stands_by m c o)) (stands_by m c o) ≡ stands_by n c o
stood_self e m n c o ek h = grind arith

pub or_else : (a b : Bool) → (a || b) ≡ true → a ≡ false → b ≡ true
or_else true b p q = no (sym q)
or_else false b p q = p

pub clash : {A : Type 0} {b : Bool} → b ≡ true → b ≡ false → A
clash p q = no (sym q ∙ p)
