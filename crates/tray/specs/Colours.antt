-- The colour of a contact.
use Rattle.std.specs.Prelude.{◌≡◌, ℕ, Bool, true, false, ◌&&◌, ◌||◌, ◌==◌, if◌then◌else◌, List, Some, None, Option, slice_index, slice_index_or}
use Rattle.tray.specs.declared.tray.Contact.{Contact}
use Rattle.masks.specs.Masks.{holds, LowestFree, HighestFree}
use Rattle.tray.specs.declared.tray.Body.{Body}
use Rattle.tray.specs.declared.tray.Body.TheVariants.{Fixed, Moving}

-- two moving bodies take the lowest colour below 120 that neither uses, one the highest below 128, none takes none
abbrev pub ColourFor : Body → Body → Option ℕ → Type 0
ColourFor (Moving a) (Moving b) r = LowestFree (λ k. holds a k || holds b k) 120 r
ColourFor (Moving a) Fixed r = HighestFree (holds a) 128 r
ColourFor Fixed (Moving b) r = HighestFree (holds b) 128 r
ColourFor Fixed Fixed r = r ≡ None

-- the body moves, and no contact of it has a colour
abbrev pub IsUncoloured : Body → Type 0
IsUncoloured (Moving a) = (k : ℕ) → holds a k ≡ false
IsUncoloured Fixed = ⊥

-- whether the body moves, and whether the colour k is in use at it
abbrev pub moves : Body → Bool
moves (Moving a) = true
moves Fixed = false

abbrev pub uses : Body → ℕ → Bool
uses (Moving a) k = holds a k
uses Fixed k = false

-- the same of body b of some; past the last one nothing moves
abbrev pub moves_at : List Body → ℕ → Bool
moves_at bodies b = moves (slice_index_or bodies b Fixed)

abbrev pub uses_at : List Body → ℕ → ℕ → Bool
uses_at bodies b = uses (slice_index_or bodies b Fixed)

-- whether b is a body of the contact, and whether k is its colour
abbrev pub is_body_of : Contact → ℕ → Bool
is_body_of c b = b == slice_index c.bodies 0 || b == slice_index c.bodies 1

abbrev pub is_colour_of : Option ℕ → ℕ → Bool
is_colour_of None k = false
is_colour_of (Some c) k = k == c

-- the contact's colour is in use, or not, at those of its bodies that move; every other use is as it was, and so is which bodies move
pub record IsRecoloured (old new : List Body) (c : Contact) (used : Bool) : Type 0 where
  pub moving : (b : ℕ) → moves_at new b ≡ moves_at old b
  pub colours : (b k : ℕ) → uses_at new b k ≡ (if (is_body_of c b && is_colour_of c.color k) && moves_at old b then used else uses_at old b k)
