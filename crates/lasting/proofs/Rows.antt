-- A row that does not finish the call does not lead to Idle.
use Rattle.std.proofs.Common.{◌≡◌, false, true≢false, arith}
use Rattle.stages.specs.Names.{CallKind, is_idle}
use Rattle.stages.specs.Table.{Seen, row}
use Rattle.stages.specs.declared.stage.Stage.{Stage}
use Rattle.stages.specs.declared.stage.Stage.TheVariants.{Idle}
use Rattle.lasting.specs.Lasting.{is_finished}

pub row_goes : (st : Stage) (k : CallKind) (v : Seen) → is_idle st ≡ false → is_finished (row st k v).status ≡ false → is_idle (row st k v).next ≡ false
row_goes Idle k v h e = absurd (true≢false h)
row_goes st k v h e = grind arith
