-- The last element of a dense list moves into the gap.
use Rattle.std.proofs.Common.{◌≡◌, ℕ, ◌+◌, ◌-◌, ◌<◌, ◌≤◌, ◌≢◌, List, [], ◌∷◌, length, get_or, take, drop, set, swap_remove, Some, subst, sym, ap, ◌∙◌, add-one, arith}
use lib.Seq.{take-set-lt}
use Rattle.std.proofs.lemmas.Grind.{common_steps}
use Rattle.std.proofs.lemmas.List.{set_split, drop_more, drop_all, length-take-le, get_or-take, take-take, take-set-le}
use Rattle.std.proofs.lemmas.Option.{slice_get-get_or}
use Rattle.lists.specs.Dense.{last_into_gap, GapFilled}

-- one element of a list that has some
first_of : {X : Type 0} (xs : List X) → 0 < length xs → X
first_of [] h = absurd (omega arith)
first_of (x ∷ xs) h = x

module _ {X : Type 0} (xs : List X) (i : ℕ) (d : X) (within : i < length xs) where
  last_as_list : drop (length xs - 1) xs ≡ get_or xs (length xs - 1) d ∷ []
  last_as_list =
      let e = drop_more xs (length xs - 1) d (omega arith) in
      let z = drop_all (length xs - 1 + 1) xs (omega arith) in
      cc

  -- as code does it
  pub swap_remove-last_into_gap : swap_remove xs i d ≡ last_into_gap xs i
  unfolding last_into_gap
  swap_remove-last_into_gap =
      let s = set_split xs i (get_or xs (length xs - 1) d) within in
      let l = last_as_list in
      rw (s, l, add-one)

-- the law of a gap that is filled
module _ {X : Type 0} (xs : List X) (i : ℕ) (d : X) (within : i < length xs) where
  one_fewer : length (swap_remove xs i d) + 1 ≡ length xs
  one_fewer = grind (arith, common_steps)

  last_is : get_or xs (length (swap_remove xs i d)) d ≡ get_or xs (length xs - 1) d
  last_is = let l = one_fewer in ap (λ n. get_or xs n d) (omega arith)

  gap_or : i < length (swap_remove xs i d) → get_or (swap_remove xs i d) i d ≡ get_or xs (length xs - 1) d
  gap_or b = grind (arith, common_steps, one_fewer)

  others_or : (k : ℕ) → k < length (swap_remove xs i d) → k ≢ i → get_or (swap_remove xs i d) k d ≡ get_or xs k d
  others_or k b ne = grind (arith, common_steps, one_fewer)

  GapFilled-swap_remove : GapFilled xs i (swap_remove xs i d)
  GapFilled-swap_remove =
      let ys = swap_remove xs i d in
      let l = one_fewer in
      record {
        one_fewer = l;
        gap = λ b. slice_get-get_or ys i d b ∙ ap Some (gap_or b ∙ sym last_is) ∙ sym (slice_get-get_or xs (length ys) d (omega arith));
        others = λ k b ne. slice_get-get_or ys k d b ∙ ap Some (others_or k b ne) ∙ sym (slice_get-get_or xs k d (omega arith));
      }

pub gap_law : {X : Type 0} (xs : List X) (i : ℕ) → i < length xs → GapFilled xs i (last_into_gap xs i)
gap_law xs i h =
    let d = first_of xs (omega arith) in
    subst (GapFilled xs i) (swap_remove-last_into_gap xs i d h) (GapFilled-swap_remove xs i d h)

-- what stands in the first n - 1 places when the one at n - 1 was written to i
pub gap_filled : {X : Type 0} (ps : List X) (n i : ℕ) (d : X) → i < n → n ≤ length ps → last_into_gap (take n ps) i ≡ take (n - 1) (set ps i (get_or ps (n - 1) d))
gap_filled ps n i d within fits =
    let l = length-take-le n ps fits in
    let s = swap_remove-last_into_gap (take n ps) i d (omega arith) in
    let g = get_or-take n ps (n - 1) d (omega arith) in
    let t = take-set-lt n ps i (get_or ps (n - 1) d) within in
    let u = take-take (n - 1) n (set ps i (get_or ps (n - 1) d)) (omega arith) in
    cc

pub last_cut : {X : Type 0} (ps : List X) (n i : ℕ) → i + 1 ≡ n → n ≤ length ps → last_into_gap (take n ps) i ≡ take (n - 1) ps
last_cut ps n i e fits =
    let d = first_of ps (omega arith) in
    gap_filled ps n i d (omega arith) fits ∙ take-set-le (n - 1) ps i (get_or ps (n - 1) d) (omega arith)

-- a write below n, seen from the first n places
pub ruleset front_steps = (take-set-lt)
