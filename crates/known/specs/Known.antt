-- The known results, by the definitions that the contracts cite.
use Rattle.std.specs.Prelude.{◌≡◌, ℕ, ◌-◌, ◌^◌, ◌||◌, List, [], ◌∷◌, Some, None, Ok, Option}
use Rattle.std.specs.List.{slice_get}
use Rattle.masks.specs.declared.mask.Mask.{Mask}
use Rattle.lists.specs.Dense.{last_into_gap}
use Rattle.masks.specs.Masks.{holds, lowest_free, highest_free}
use Rattle.lists.specs.Positions.{position}

pub data Known : Type 0 where
  -- a bucket, a place in it, and the word of that position
  word : ℕ → ℕ → ℕ → Known
  -- the colours in use at each of two non-fixed bodies, and the colour of a pair of both
  colour_of_two : Mask → Mask → Option ℕ → Known
  -- the colours in use at the one non-fixed body of a pair, and the pair's colour
  colour_of_one : Mask → Option ℕ → Known
  -- a dense list, a place, the list without that place, and the element that moved
  removal : List ℕ → ℕ → List ℕ → Option ℕ → Known

abbrev pub Holds : Known → Type 0
Holds (word bucket local w) = position bucket local ≡ Ok (record { word = w })
Holds (colour_of_two a b c) = lowest_free (λ k. holds a k || holds b k) 120 ≡ c
Holds (colour_of_one a c) = highest_free (holds a) 128 ≡ c
Holds (removal xs i ys moved) = (last_into_gap xs i ≡ ys) × (slice_get ys i ≡ moved)

abbrev pub mask : ℕ → ℕ → Mask
mask low high = record { words = low ∷ high ∷ [] }

abbrev pub result_list : List Known
result_list =
    word 5 3 20971523
    ∷ word 129 0 541065216
    ∷ colour_of_two (mask 0 0) (mask 0 0) (Some 0)
    ∷ colour_of_two (mask 1 0) (mask 2 0) (Some 2)
    ∷ colour_of_two (mask (2 ^ 64 - 1) 0) (mask 0 (2 ^ 56 - 1)) None
    ∷ colour_of_one (mask 0 0) (Some 127)
    ∷ colour_of_one (mask 0 (2 ^ 63)) (Some 126)
    ∷ colour_of_one (mask (2 ^ 64 - 1) (2 ^ 64 - 1)) None
    ∷ removal (65 ∷ 66 ∷ 67 ∷ []) 0 (67 ∷ 66 ∷ []) (Some 67)
    ∷ removal (67 ∷ 66 ∷ []) 1 (67 ∷ []) None
    ∷ []
