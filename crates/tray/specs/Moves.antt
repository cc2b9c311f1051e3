-- What taking a contact in and striking one out do.
use Rattle.std.specs.Prelude.{◌≡◌, ℕ, ◌<◌, [], ◌∷◌, ◌++◌, length, nat_lt, if◌then◌else◌, Ok, Err, Option, Result, option_and_then, option_map, unwrap_or, Some, None, List, slice_set, IsSomeAnd}
use Rattle.std.specs.List.{slice_get}
use Rattle.lists.specs.declared.refusal.Refusal.{Refusal}
use Rattle.lists.specs.declared.refusal.Refusal.TheVariants.{NoSuchPlace}
use Rattle.lists.specs.declared.solver_contact_graph.GraphPos.{GraphPos}
use Rattle.lists.specs.Dense.{last_into_gap}
use Rattle.lists.specs.Positions.{bucket_of, local_of}
use Rattle.tray.specs.declared.tray.Contact.{Contact}
use Rattle.tray.specs.declared.tray.Tray.{Tray}
use Rattle.tray.specs.declared.buckets.Buckets.{Buckets}
use Rattle.tray.specs.Buckets.{list_of, IsRelisted}
use Rattle.tray.specs.Colours.{ColourFor}

-- the contact n, if there is one
abbrev pub contact_of : Tray → ℕ → Option Contact
contact_of t n = slice_get t.contacts.items n

-- the position of contact n, if there is one and it has not been struck out
abbrev pub pos_of : Tray → ℕ → Option GraphPos
pos_of t n = option_and_then (λ c. c.pos) (contact_of t n)

-- c is a contact of the bodies a and b, with a colour that the tray has for the two
abbrev pub IsContactOf : Tray → ℕ → ℕ → Contact → Type 0
IsContactOf t a b c = (c.bodies ≡ a ∷ b ∷ []) × IsSomeAnd (slice_get t.bodies a) (λ x. IsSomeAnd (slice_get t.bodies b) (λ y. ColourFor x y c.color))

-- c stands in the bucket of its colour, or in the one for contacts that found none
abbrev pub IsInItsBucket : Contact → Type 0
IsInItsBucket c = IsSomeAnd c.pos (λ p. bucket_of p ≡ unwrap_or c.color 128)

-- there is room for one more contact, and in every bucket for its reference
abbrev pub HasRoom : Tray → Type 0
HasRoom t = (length t.contacts.items < 8) × ((b : ℕ) → length (list_of t.buckets b) < 8)

-- the contact is the next one, and stands at the end of its bucket's list, at its position; no other list changes
abbrev pub TakenIn : Tray → ℕ → Tray → Type 0
TakenIn old n new = (n ≡ length old.contacts.items) × IsSomeAnd (pos_of new n) (λ p. (local_of p ≡ length (list_of old.buckets (bucket_of p))) × IsRelisted old.buckets new.buckets (bucket_of p) (list_of old.buckets (bucket_of p) ++ record { pair = n; ordinal = 0 } ∷ []))

-- the contacts when n, if there is such a one, has got the position p
abbrev pub with_pos : List Contact → ℕ → Option GraphPos → List Contact
with_pos cs n p = unwrap_or (option_map (λ c. slice_set cs n (record c { pos = p })) (slice_get cs n)) cs

-- the contacts after n was struck out at p and m, if any, moved: n loses its position, then m gets it
abbrev pub contacts_after : List Contact → ℕ → Option ℕ → Option GraphPos → List Contact
contacts_after cs n None p = with_pos cs n None
contacts_after cs n (Some m) p = with_pos (with_pos cs n None) m p

-- what striking out at a position answers: the contact that moves into the gap, or a refusal where nothing stands there
abbrev pub answer_of : Buckets → Option GraphPos → Result (Option ℕ) Refusal
answer_of t None = Err NoSuchPlace
answer_of t (Some p) =
    let xs = list_of t (bucket_of p) in
    if nat_lt (local_of p) (length xs) then Ok (option_map (λ c. c.pair) (slice_get (last_into_gap xs (local_of p)) (local_of p))) else Err NoSuchPlace

-- in the list of the contact's bucket the last one moves into its gap; no other list changes
abbrev pub StruckOut : Tray → ℕ → Tray → Type 0
StruckOut old n new = IsSomeAnd (pos_of old n) (λ p. IsRelisted old.buckets new.buckets (bucket_of p) (last_into_gap (list_of old.buckets (bucket_of p)) (local_of p)))
