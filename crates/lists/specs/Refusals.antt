-- The numbers of the refusals.
use Rattle.std.specs.Prelude.{ℕ}
use Rattle.lists.specs.declared.refusal.Refusal.{Refusal}
use Rattle.lists.specs.declared.refusal.Refusal.TheVariants.{NoSuchPlace, NoRoom}

abbrev pub number_of : Refusal → ℕ
number_of NoSuchPlace = 12
number_of NoRoom = 14
