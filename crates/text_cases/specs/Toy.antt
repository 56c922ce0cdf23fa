-- A machine that keeps one number.
--     toy k   it refuses no threads by 8, submissions of odd threads by 2, and turns of threads over 63 by 1;
--             a submission keeps its last number, and a turn reports it, with the action k
use Rattle.std.specs.Prelude.{ℕ, ◌%◌, cond, Ok, Err, ◌==◌, nat_le, slice_index}
use Rattle.text.specs.Model.{Single}

abbrev pub toy : ℕ → Single
toy k = record {
  State = ℕ;
  build = λ ns. cond (slice_index ns 0 == 0) (Err 8) (Ok (slice_index ns 4));
  submit = λ s ns. cond (slice_index ns 0 % 2 == 1) (Err 2) (Ok tt);
  submitted = λ s ns. cond (slice_index ns 0 % 2 == 1) s (slice_index ns 3);
  turn = λ s t. cond (nat_le t 63) (Ok (record { status = 3; value = s; action = k; mask = 18446744073709551615 })) (Err 1);
  turned = λ s t. s;
}
