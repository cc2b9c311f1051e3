-- Positions: a bucket and a place in it, as one word.
use Rattle.std.specs.Prelude.{◌≡◌, ◌≢◌, ℕ, ◌+◌, ◌*◌, ◌/◌, ◌%◌, if◌then◌else◌, ◌&&◌, Ok, Err, Result, nat_le, nat_lt}
use Rattle.lists.specs.declared.refusal.Refusal.{Refusal}
use Rattle.lists.specs.declared.refusal.Refusal.TheVariants.{NoSuchPlace}
use Rattle.lists.specs.declared.solver_contact_graph.GraphPos.{GraphPos}

abbrev pub word_of : GraphPos → ℕ
word_of p = p.word

-- the word of a missing position
abbrev pub none : ℕ
none = 4294967295

-- the position is not the missing one
abbrev pub IsPresent : GraphPos → Type 0
IsPresent p = word_of p ≢ none

abbrev pub bucket_of : GraphPos → ℕ
bucket_of p = word_of p / 4194304

abbrev pub local_of : GraphPos → ℕ
local_of p = word_of p % 4194304

-- the position of a place in a bucket
abbrev pub position : ℕ → ℕ → Result GraphPos Refusal
position bucket local = if nat_le bucket 129 && nat_lt local 4194304 then Ok (record { word = bucket * 4194304 + local }) else Err NoSuchPlace

-- the position p, made of a bucket and a place
pub record Sole (bucket local : ℕ) (p : GraphPos) : Type 0 where
  -- taken apart, it gives both again, and made of these again, itself
  pub bucket_again : bucket_of p ≡ bucket
  pub local_again : local_of p ≡ local
  pub position_again : position (bucket_of p) (local_of p) ≡ Ok p
  -- no other bucket and place make it
  pub sole : (b l : ℕ) → position b l ≡ Ok p → (b ≡ bucket) × (l ≡ local)
  -- a position is equal to it exactly if bucket and place are
  pub equal : (q : GraphPos) → q ≡ p → (bucket_of q ≡ bucket) × (local_of q ≡ local)
  pub alone : (q : GraphPos) → bucket_of q ≡ bucket → local_of q ≡ local → q ≡ p
  -- it is not the missing one
  pub some : IsPresent p

abbrev pub NamesOnePlace : ℕ → ℕ → Result GraphPos Refusal → Type 0
NamesOnePlace bucket local (Ok p) = Sole bucket local p
NamesOnePlace bucket local (Err e) = Unit {0}
