-- Which numbers a set has, by its two words.
use Rattle.std.proofs.Common.{◌≡◌, ℕ, ◌⊎◌, ◌+◌, ◌*◌, ◌/◌, ◌%◌, ◌^◌, ◌<◌, ◌≤◌, true, false, not, ◌&&◌, ◌||◌, eqb, [], ◌∷◌, length, slice_index, bit_and, bit_or, arith, w64}
use Rattle.std.specs.Int.{bit_not, trailing_zeros}
use Rattle.std.proofs.lemmas.Bool.Decides.{nat_tests}
use Rattle.std.proofs.lemmas.List.{get_or_past}
use Rattle.std.proofs.lemmas.Nat.Bits.{bit_at-lt, bit_at-zero, bit_at_or, bit_at_and, bit_at_not, bit_at_set_same, bit_at_set_other, bit_at-trailing_zeros}
use Rattle.masks.specs.declared.mask.Mask.{Mask}
use Rattle.masks.specs.Masks.{bit, holds}

-- the words that a set consists of
abbrev pub low : Mask → ℕ
low m = slice_index m.words 0

abbrev pub high : Mask → ℕ
high m = slice_index m.words 1

-- a number's bit is in the first word, in the second or past both
pub word_of : (k : ℕ) → (k / 64 ≡ 0) ⊎ ((k / 64 ≡ 1) ⊎ (2 ≤ k / 64))
word_of k = grind arith

-- the bits of `a | b`, `1 << n` and `a & !b`
pub bit-bit_or : (a b k : ℕ) → bit (bit_or a b) k ≡ (bit a k || bit b k)
bit-bit_or a b k = grind (arith, nat_tests, bit_at_or, bit_at-lt)

bit-one : (n k : ℕ) → n < 64 → bit (1 * 2 ^ n % 2 ^ 64) k ≡ eqb k n
bit-one n k l = grind (arith, nat_tests, bit_at_set_same w64 0 n l, bit_at_set_other w64 0 n l k, bit_at-lt)

bit-and_not : (a b k : ℕ) → b < 2 ^ 64 → k < 64 → bit (bit_and a (bit_not w64 b)) k ≡ (bit a k && not (bit b k))
bit-and_not a b k f l = grind (arith, nat_tests, bit_at_and, bit_at_not w64 b k, bit_at-lt)

-- the set of one number, whichever word it is in
pub only_low : (n k : ℕ) → n < 64 → holds (record { words = 1 * 2 ^ (n % 64) % 2 ^ 64 ∷ 0 ∷ [] }) k ≡ eqb k n
only_low n k l = grind (arith, nat_tests, word_of, get_or_past {X = ℕ}, bit-one, bit_at-zero)

pub only_high : (n k : ℕ) → 64 ≤ n → n < 128 → holds (record { words = 0 ∷ 1 * 2 ^ (n % 64) % 2 ^ 64 ∷ [] }) k ≡ eqb k n
only_high n k h l = grind (arith, nat_tests, word_of, get_or_past {X = ℕ}, bit-one, bit_at-zero)

module _ (m : Mask) where
  pub holds_past : (k : ℕ) → length m.words ≡ 2 → 128 ≤ k → holds m k ≡ false
  holds_past k l p = grind (arith, word_of, get_or_past {X = ℕ}, bit_at-zero)

  pub holds_minus : (o : Mask) (k : ℕ) → length m.words ≡ 2 → length o.words ≡ 2 → low o < 2 ^ 64 → high o < 2 ^ 64 → holds (record { words = bit_and (low m) (bit_not w64 (low o)) ∷ bit_and (high m) (bit_not w64 (high o)) ∷ [] }) k ≡ (holds m k && not (holds o k))
  holds_minus o k l h f g = grind (arith, word_of, nat_tests, get_or_past {X = ℕ}, bit-and_not, bit_at-zero)

  pub holds_union : (o : Mask) (k : ℕ) → length m.words ≡ 2 → length o.words ≡ 2 → holds (record { words = bit_or (low m) (low o) ∷ bit_or (high m) (high o) ∷ [] }) k ≡ (holds m k || holds o k)
  holds_union o k l h = grind (arith, word_of, get_or_past {X = ℕ}, bit-bit_or, bit_at-zero)

  -- where both words are 0 the set is empty, and where one is not 0 a number is in it. The first part of the last two only shows `grind` the word
  pub holds_nothing : length m.words ≡ 2 → low m ≡ 0 → high m ≡ 0 → (k : ℕ) → holds m k ≡ false
  holds_nothing l e f k = grind (arith, word_of, get_or_past {X = ℕ}, bit_at-zero)

  pub holds_low : 0 < low m → low m < 2 ^ 64 → (0 < low m) × ((k : ℕ) × (holds m k ≡ true))
  holds_low p f =
      let t = bit_at-trailing_zeros w64 (low m) p f in
      (p, (trailing_zeros w64 (low m), grind (arith, nat_tests, t.0, t.1)))

  pub holds_high : 0 < high m → high m < 2 ^ 64 → (0 < high m) × ((k : ℕ) × (holds m k ≡ true))
  holds_high p f =
      let t = bit_at-trailing_zeros w64 (high m) p f in
      (p, (64 + trailing_zeros w64 (high m), grind (arith, nat_tests, t.0, t.1)))

pub ruleset empty = (holds_nothing, holds_low, holds_high)
