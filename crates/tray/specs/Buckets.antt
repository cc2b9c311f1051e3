-- The lists of the buckets.
use Rattle.std.specs.Prelude.{◌≡◌, ℕ, if◌then◌else◌, List, [], ◌==◌, slice_index_or}
use Rattle.lists.specs.declared.solver_contact_graph.ContactRef.{ContactRef}
use Rattle.tray.specs.declared.buckets.Buckets.{Buckets}

-- the list of bucket b
abbrev pub list_of : Buckets → ℕ → List ContactRef
list_of t b = slice_index_or t.lists b []

-- the list of bucket b is xs, and every other list is as it was
abbrev pub IsRelisted : Buckets → Buckets → ℕ → List ContactRef → Type 0
IsRelisted old new b xs = (c : ℕ) → list_of new c ≡ (if c == b then xs else list_of old c)
