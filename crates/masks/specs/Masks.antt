-- Sets of numbers below 128, as two words.
use Rattle.std.specs.Prelude.{◌≡◌, ℕ, zero, suc, ◌/◌, ◌%◌, ◌<◌, ◌≤◌, Bool, true, false, if◌then◌else◌, ◌||◌, List, [], ◌∷◌, Some, None, Option, ◌==◌, slice_index}
use Rattle.std.specs.Int.{bit_at}
use Rattle.std.specs.List.{range_with_len}
use Rattle.masks.specs.declared.mask.Mask.{Mask}

-- whether the bit k of n is set
abbrev pub bit : ℕ → ℕ → Bool
bit n k = bit_at n k == 1

-- whether k is in the set
abbrev pub holds : Mask → ℕ → Bool
holds m k = bit (slice_index m.words (k / 64)) (k % 64)

-- the set with n in it; only numbers below 128 go in
abbrev pub With : Mask → ℕ → Option Mask → Type 0
With m n None = 128 ≤ n
With m n (Some s) = (n < 128) × ((k : ℕ) → holds s k ≡ (holds m k || k == n))

-- the first of some numbers that is not taken
abbrev pub first_free : (ℕ → Bool) → List ℕ → Option ℕ
first_free taken [] = None
first_free taken (c ∷ cs) = if taken c then first_free taken cs else Some c

-- the numbers below n, falling
abbrev pub falling : ℕ → List ℕ
falling zero = []
falling (suc n) = n ∷ falling n

-- the lowest, and the highest, number below n that is not taken
unfoldable pub lowest_free : (ℕ → Bool) → ℕ → Option ℕ
lowest_free taken n = first_free taken (range_with_len 0 n)

unfoldable pub highest_free : (ℕ → Bool) → ℕ → Option ℕ
highest_free taken n = first_free taken (falling n)

-- what they mean: the answer is free and every lower, or higher, number below n is taken; none if all are taken
abbrev pub LowestFree : (ℕ → Bool) → ℕ → Option ℕ → Type 0
LowestFree taken n None = (k : ℕ) → k < n → taken k ≡ true
LowestFree taken n (Some c) = (c < n) × (taken c ≡ false) × ((k : ℕ) → k < c → taken k ≡ true)

abbrev pub HighestFree : (ℕ → Bool) → ℕ → Option ℕ → Type 0
HighestFree taken n None = (k : ℕ) → k < n → taken k ≡ true
HighestFree taken n (Some c) = (c < n) × (taken c ≡ false) × ((k : ℕ) → c < k → k < n → taken k ≡ true)
