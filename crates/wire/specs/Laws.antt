-- What reading and writing are to each other.
use Rattle.std.specs.Prelude.{◌≡◌, ℕ, ◌<◌, List, Ok, slice_index}
use Rattle.wire.specs.Reports.{Content, Allowed, read_report}
use Rattle.wire.specs.Form.{encode}

-- The numbers of a list are bytes.
abbrev pub Bytes : List ℕ → Type 0
Bytes b = (k : ℕ) → slice_index b k < 256

-- The bytes b are the one form of an allowed report that says q.
abbrev pub Forms : List ℕ → Content → Type 0
Forms b q = Allowed q × (encode q ≡ b)

-- Bytes that read are the form of what they say.
abbrev pub Undone : Type 0
Undone = (b : List ℕ) (q : Content) → Bytes b → read_report b ≡ Ok q → Forms b q

-- The form of an allowed report reads as what it says.
abbrev pub Returned : Type 0
Returned = (q : Content) → Allowed q → read_report (encode q) ≡ Ok q
