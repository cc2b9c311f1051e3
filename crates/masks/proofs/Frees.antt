-- The lowest and the highest free number, by what they mean and by the search that finds them.
use Rattle.std.proofs.Common.{◌≡◌, ℕ, zero, suc, ◌+◌, ◌-◌, ◌^◌, ◌<◌, ◌≤◌, Bool, true, false, Some, None, Option, sym, refl, ap, subst, ◌∙◌, inl, inr, arith, pow-suc, w64}
use Rattle.std.specs.Int.{bit_at, bit_not, trailing_ones, leading_ones}
use Rattle.std.specs.Int.Count.{trailing_of_zero}
use Rattle.std.specs.List.{range_with_len}
use Rattle.std.proofs.lemmas.Bool.{cases_eq}
use Rattle.std.proofs.lemmas.Bool.Decides.{nat_tests}
use Rattle.std.proofs.lemmas.Nat.{leading_top, pow_pos, div_below, le-div}
use Rattle.std.proofs.lemmas.Nat.Bits.{bit_at_not, bit_at_ones, bit_at_above, bit_at-trailing_ones}
use Rattle.masks.specs.declared.mask.Mask.{Mask}
use Rattle.masks.specs.Masks.{holds, first_free, lowest_free, highest_free, LowestFree, HighestFree}
use Rattle.masks.proofs.Words.{low, high, word_of}

module _ (taken : ℕ → Bool) where
  -- among the n numbers from a on
  abbrev Least : ℕ → ℕ → Option ℕ → Type 0
  Least a n None = (k : ℕ) → a ≤ k → k < a + n → taken k ≡ true
  Least a n (Some c) = (a ≤ c) × (c < a + n) × (taken c ≡ false) × ((k : ℕ) → a ≤ k → k < c → taken k ≡ true)

  least_found : (n a : ℕ) (r : Option ℕ) → Least a n r → r ≡ first_free taken (range_with_len a n)
  least_found zero a None f = refl
  least_found zero a (Some c) f = absurd (omega (arith, f.0, f.1))
  least_found (suc n) a None f =
      let t : taken a ≡ true = f a (omega arith) (omega arith) in
      simp t (least_found n (a + 1) None (λ k h l. f k (omega arith) (omega arith)))
  least_found (suc n) a (Some c) f =
      elim (cases_eq a c) [
        | inl e ↦ let t : taken a ≡ false = ap taken e ∙ f.2 in simp t (ap Some (sym e))
        | inr ne ↦
            let t : taken a ≡ true = f.3 a (omega arith) (omega (arith, f.0)) in
            simp t (least_found n (a + 1) (Some c) (omega (arith, f.0), omega (arith, f.1), f.2, λ k h l. f.3 k (omega arith) l))
      ]

  pub lowest_found : (n : ℕ) (r : Option ℕ) → LowestFree taken n r → r ≡ lowest_free taken n
  unfolding lowest_free
  lowest_found n None f = least_found n 0 None (λ k h l. f k (omega arith))
  lowest_found n (Some c) f = least_found n 0 (Some c) (omega arith, omega (arith, f.0), f.1, λ k h l. f.2 k l)

  pub highest_found : (n : ℕ) (r : Option ℕ) → HighestFree taken n r → r ≡ highest_free taken n
  unfolding highest_free
  highest_found zero None f = refl
  highest_found zero (Some c) f = absurd (omega (arith, f.0))
  highest_found (suc n) None f =
      let t : taken n ≡ true = f n (omega arith) in
      simp t (highest_found n None (λ k h. f k (omega arith)))
  highest_found (suc n) (Some c) f =
      elim (cases_eq n c) [
        | inl e ↦ let t : taken n ≡ false = ap taken e ∙ f.1 in simp t (ap Some (sym e))
        | inr ne ↦
            let t : taken n ≡ true = f.2 n (omega (arith, f.0)) (omega arith) in
            simp t (highest_found n (Some c) (omega (arith, f.0), f.1, λ k h l. f.2 k h (omega arith)))
      ]

-- what is taken may be said in other words
pub lowest_like : (f g : ℕ → Bool) → ((k : ℕ) → f k ≡ g k) → (n : ℕ) (r : Option ℕ) → LowestFree f n r → LowestFree g n r
lowest_like f g e n r l = let same : f ≡ g = λ i k. e k i in subst (λ t. LowestFree t n r) same l

-- the lowest 0 of a word, and the highest
lowest_zero : (n : ℕ) → n < 2 ^ 64 → let t = trailing_ones w64 n in (t < 64 → bit_at n t ≡ 0) × ((k : ℕ) → k < t → k < 64 → bit_at n k ≡ 1)
lowest_zero n l =
    elim (cases_eq n (2 ^ 64 - 1)) [
      | inl e ↦
          let full : trailing_ones w64 n ≡ 64 = ap (trailing_ones w64) e ∙ trailing_of_zero 64 in
          (λ h. absurd (omega arith), λ k h s. ap (λ x. bit_at x k) e ∙ bit_at_ones 64 k s)
      | inr d ↦ let z = bit_at-trailing_ones w64 n (omega arith) in (λ h. z.1, λ k h s. z.2 k h)
    ]

bit_at_top : (n k : ℕ) → 2 ^ k ≤ n → n < 2 ^ suc k → bit_at n k ≡ 1
bit_at_top n k h l =
    let p = pow_pos k in
    omega (arith, div_below n (2 ^ k) 2 p (omega (arith, pow-suc 2 k)), le-div 1 n (2 ^ k) p (omega arith))

highest_zero : (n : ℕ) → n + 1 < 2 ^ 64 → let z = leading_ones w64 n in (z < 64) × (bit_at n (63 - z) ≡ 0) × ((k : ℕ) → 63 - z < k → k < 64 → bit_at n k ≡ 1)
highest_zero n l =
    let t = leading_top 64 (bit_not w64 n) (omega arith) (omega arith) in
    let e : 63 - leading_ones w64 n ≡ t.0 = omega (arith, t.1) in
    let one = bit_at_top (bit_not w64 n) t.0 t.2 t.3 in (
      omega (arith, t.1),
      ap (bit_at n) e ∙ omega (arith, one, bit_at_not w64 n t.0 (omega arith) (omega (arith, t.1))),
      λ k h s. omega (arith, bit_at_above (bit_not w64 n) (suc t.0) k t.3 (omega (arith, e)), bit_at_not w64 n k (omega arith) s),
    )

module _ (m : Mask) where
  abbrev IsLowest : Option ℕ → Type 0
  IsLowest r = LowestFree (holds m) 120 r × (lowest_free (holds m) 120 ≡ r)

  is_lowest : (r : Option ℕ) → LowestFree (holds m) 120 r → IsLowest r
  is_lowest r l = (l, sym (lowest_found (holds m) 120 r l))

  abbrev IsHighest : Option ℕ → Type 0
  IsHighest r = HighestFree (holds m) 128 r × (highest_free (holds m) 128 ≡ r)

  is_highest : (r : Option ℕ) → HighestFree (holds m) 128 r → IsHighest r
  is_highest r l = (l, sym (highest_found (holds m) 128 r l))

  pub lowest_in_low : low m + 1 < 2 ^ 64 → IsLowest (Some (trailing_ones w64 (low m)))
  lowest_in_low l = is_lowest (Some _) (grind (arith, nat_tests, bit_at-trailing_ones w64 (low m) l))

  -- every number before the first that is free in the high word is taken
  pub taken_before : low m ≡ 2 ^ 64 - 1 → high m < 2 ^ 64 → (k : ℕ) → k < 64 + trailing_ones w64 (high m) → k < 128 → holds m k ≡ true
  taken_before e f k h l = grind (arith, nat_tests, word_of, bit_at_ones 64, lowest_zero (high m) f)

  pub lowest_in_high : low m ≡ 2 ^ 64 - 1 → high m < 2 ^ 64 → 64 + trailing_ones w64 (high m) < 120 → IsLowest (Some (64 + trailing_ones w64 (high m)))
  lowest_in_high e f b = is_lowest (Some _) (grind (arith, nat_tests, (lowest_zero (high m) f).0, taken_before e f))

  pub lowest_nowhere : low m ≡ 2 ^ 64 - 1 → high m < 2 ^ 64 → 120 ≤ 64 + trailing_ones w64 (high m) → IsLowest None
  lowest_nowhere e f b = is_lowest None (grind (arith, taken_before e f))

  pub highest_in_high : high m + 1 < 2 ^ 64 → IsHighest (Some (127 - leading_ones w64 (high m)))
  highest_in_high l = is_highest (Some _) (grind (arith, nat_tests, highest_zero (high m) l))

  pub highest_in_low : high m ≡ 2 ^ 64 - 1 → low m + 1 < 2 ^ 64 → IsHighest (Some (63 - leading_ones w64 (low m)))
  highest_in_low e l = is_highest (Some _) (grind (arith, nat_tests, word_of, highest_zero (low m) l, bit_at_ones 64))

  pub taken_everywhere : high m ≡ 2 ^ 64 - 1 → low m ≡ 2 ^ 64 - 1 → (k : ℕ) → k < 128 → holds m k ≡ true
  taken_everywhere e f k h = grind (arith, nat_tests, word_of, bit_at_ones 64)

  pub highest_nowhere : high m ≡ 2 ^ 64 - 1 → low m ≡ 2 ^ 64 - 1 → IsHighest None
  highest_nowhere e f = is_highest None (taken_everywhere e f)

pub ruleset lowest = (lowest_in_low, lowest_in_high, lowest_nowhere, taken_before)

pub ruleset highest = (highest_in_high, highest_in_low, highest_nowhere, taken_everywhere)
