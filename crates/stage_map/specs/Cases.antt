-- What a case says of each thing, and which calls a set has.
--   thing_no    the number of a thing, in the order in which a case names them
--   says        what a case says of a thing: off, on, or nothing
--   saying      the same case with one thing off or on
--   call_place  the place of a call's kind in the order of the codes
--   has_call    whether a set has the calls of a kind
--   with_call   the same set with the calls of a kind
use Rattle.std.specs.Prelude.{ℕ, ◌-◌, Bool, true, false, Option, None, Some, slice_index_or, slice_set}
use Rattle.stages.specs.declared.call.Call.{Call}
use Rattle.stages.specs.Calls.{kind_of}
use Rattle.stages.specs.Names.{call_no}
use Rattle.stage_map.specs.declared.calls.Calls.{Calls}
use Rattle.stage_map.specs.declared.seen.Case.{Case}
use Rattle.stage_map.specs.declared.seen.Thing.{Thing}
use Rattle.stage_map.specs.declared.seen.Thing.TheVariants.{Spin, Bit, Empty, Other, Flag, Alerted}

abbrev pub thing_no : Thing → ℕ
thing_no Spin = 0
thing_no Bit = 1
thing_no Empty = 2
thing_no Other = 3
thing_no Flag = 4
thing_no Alerted = 5

abbrev pub says : Case → Thing → Option Bool
says c t = slice_index_or c.of (thing_no t) None

abbrev pub saying : Case → Thing → Bool → Case
saying c t on = record { of = slice_set c.of (thing_no t) (Some on) }

abbrev pub call_place : Call → ℕ
call_place c = call_no (kind_of (Some c)) - 1

abbrev pub has_call : Calls → Call → Bool
has_call s c = slice_index_or s.of (call_place c) false

abbrev pub with_call : Calls → Call → Calls
with_call s c = record { of = slice_set s.of (call_place c) true }
