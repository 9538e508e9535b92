-- Outcomes: what an operation gives, an answer or a refusal.
--
--   number e        the paper's number of a refusal
--   number_of r     the number of an outcome: that of its refusal, 0 for an answer
--   value_or z r    the value of an answer, z beside a refusal
use Rattle.std.specs.Prelude.{ℕ, Result, Ok, Err}
use Rattle.std.specs.Result.{result_unwrap_or}
use Rattle.checks.specs.declared.Refusal.{Refusal}
use Rattle.checks.specs.declared.Refusal.TheVariants.{Variables, Length, Rows, Entry, Argument, Order, Incomplete, Room, Frame, Place, End, EqualRows}

abbrev pub number : Refusal → ℕ
number Variables = 1
number Length = 2
number Rows = 3
number Entry = 4
number Argument = 5
number Order = 6
number Incomplete = 7
number Room = 8
number Frame = 9
number Place = 10
number End = 11
number EqualRows = 12

abbrev pub number_of : {A : Type 0} → Result A Refusal → ℕ
number_of (Ok x) = 0
number_of (Err e) = number e

abbrev pub value_or : {A : Type 0} → A → Result A Refusal → A
value_or z r = result_unwrap_or r z
