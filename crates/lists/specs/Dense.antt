-- Dense lists: elements at the places 0 to length - 1.
use Rattle.std.specs.Prelude.{◌≡◌, ℕ, ◌+◌, ◌-◌, ◌<◌, Bool, ◌&&◌, List, ◌++◌, length, take, drop, ◌≢◌, nat_le, nat_lt}
use Rattle.std.specs.List.{slice_get}
use Rattle.lists.specs.declared.dense_list.DenseList.{DenseList}

-- the list with its last element moved into the gap at i
unfoldable pub last_into_gap : {X : Type 0} → List X → ℕ → List X
last_into_gap xs i = take (length xs - 1) (take i xs ++ (drop (length xs - 1) xs ++ drop (i + 1) xs))

-- what that means: one element fewer, the last one in the gap, and every other one where it was
pub record GapFilled {X : Type 0} (old : List X) (i : ℕ) (new : List X) : Type 0 where
  pub one_fewer : length new + 1 ≡ length old
  pub gap : i < length new → slice_get new i ≡ slice_get old (length new)
  pub others : (k : ℕ) → k < length new → (k ≢ i) → slice_get new k ≡ slice_get old k

-- whether the list in the first `len` places, where there are so many, has a place i
abbrev pub has_place : {X : Type 0} → List X → ℕ → ℕ → Bool
has_place places len i = nat_lt i len && nat_le len (length places)

-- the elements of a list with its own length, and how many places it has
abbrev pub items : {X : Type 0} → DenseList X → List X
items l = take l.len l.places.now

abbrev pub room : {X : Type 0} → DenseList X → ℕ
room l = length l.places.now

-- the list is as it was, and so are all its places
pub record IsUnchanged {X : Type 0} (old new : DenseList X) : Type 0 where
  pub len : new.len ≡ old.len
  pub places : new.places.now ≡ old.places.now
