-- The calls as the tables speak of them, and the objects that have a waiting line.
--   Request      which call, with its two objects; 0 where it has none
--   request_of    the request of a call under way, or of none
--   Object       a mutex, a semaphore or a condition
--   gate_of       the mutex or semaphore of a request, of use where `has_gate` holds of its kind
--   cond_of       the condition of a request, of use where `has_cond` holds of its kind
--   condition_of  the condition of a call, if it has one
use Rattle.std.specs.Prelude.{ℕ, Bool, true, false, cond, List, [], ◌∷◌, Some, None, Option, ◌==◌}
use Rattle.lines.specs.Lines.{has, none as none_in}
use Rattle.stages.specs.Names.{CallKind, is_wait, is_sem}
use Rattle.stages.specs.Names.CallKind.{NoCall, Acquire, Release, Wait, Signal, Broadcast, SemP, SemV, Alert, TestAlert, AlertP, AlertWait}
use Rattle.stages.specs.declared.call.Call.{Call}
use Rattle.stages.specs.declared.call.Call.TheVariants as call

pub record Request : Type 0 where
  pub kind : CallKind
  pub x : ℕ
  pub y : ℕ

abbrev pub request_for : CallKind → ℕ → ℕ → Request
request_for k a b = record { kind = k; x = a; y = b }

abbrev pub no_call : Request
no_call = request_for NoCall 0 0

-- each call with its kind and its objects
abbrev pub request_of : Option Call → Request
request_of None = request_for NoCall 0 0
request_of (Some (call.Acquire m)) = request_for Acquire m 0
request_of (Some (call.Release m)) = request_for Release m 0
request_of (Some (call.Wait m c)) = request_for Wait m c
request_of (Some (call.Signal c)) = request_for Signal c 0
request_of (Some (call.Broadcast c)) = request_for Broadcast c 0
request_of (Some (call.P s)) = request_for SemP s 0
request_of (Some (call.V s)) = request_for SemV s 0
request_of (Some (call.Alert t)) = request_for Alert t 0
request_of (Some call.TestAlert) = request_for TestAlert 0 0
request_of (Some (call.AlertP s)) = request_for AlertP s 0
request_of (Some (call.AlertWait m c)) = request_for AlertWait m c

abbrev pub kind_of : Option Call → CallKind
kind_of c = (request_of c).kind

pub data Object : Type 0 where
  mutex semaphore condition : ℕ → Object

abbrev pub gate_of : Request → Object
gate_of c = cond (is_sem c.kind) (semaphore c.x) (mutex c.x)

-- a wait's condition is its second object, a signal's its first
abbrev pub cond_of : Request → ℕ
cond_of c = cond (is_wait c.kind) c.y c.x

abbrev pub condition_of : Option Call → Option ℕ
condition_of None = None
condition_of (Some (call.Acquire m)) = None
condition_of (Some (call.Release m)) = None
condition_of (Some (call.Wait m c)) = Some c
condition_of (Some (call.Signal c)) = Some c
condition_of (Some (call.Broadcast c)) = Some c
condition_of (Some (call.P s)) = None
condition_of (Some (call.V s)) = None
condition_of (Some (call.Alert t)) = None
condition_of (Some call.TestAlert) = None
condition_of (Some (call.AlertP s)) = None
condition_of (Some (call.AlertWait m c)) = Some c

abbrev pub same_object : Object → Object → Bool
same_object (mutex a) (mutex b) = a == b
same_object (mutex a) (semaphore b) = false
same_object (mutex a) (condition b) = false
same_object (semaphore a) (mutex b) = false
same_object (semaphore a) (semaphore b) = a == b
same_object (semaphore a) (condition b) = false
same_object (condition a) (mutex b) = false
same_object (condition a) (semaphore b) = false
same_object (condition a) (condition b) = a == b

-- lists of thread numbers
abbrev pub elem : ℕ → List ℕ → Bool
elem u xs = has u xs

-- the list without those of which f says true
abbrev pub without : (ℕ → Bool) → List ℕ → List ℕ
without f [] = []
without f (x ∷ xs) = cond (f x) (without f xs) (x ∷ without f xs)

abbrev pub is_empty : List ℕ → Bool
is_empty xs = none_in xs

abbrev pub to_list : Option ℕ → List ℕ
to_list None = []
to_list (Some u) = u ∷ []

abbrev pub is_some : Option ℕ → Bool
is_some None = false
is_some (Some u) = true

abbrev pub is_this : ℕ → Option ℕ → Bool
is_this t None = false
is_this t (Some u) = t == u
