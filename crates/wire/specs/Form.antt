-- The one form of a report as bytes.
use Rattle.std.specs.Prelude.{ℕ, ◌+◌, ◌/◌, ◌%◌, Bool, if◌then◌else◌, List, [], ◌∷◌, ◌++◌, length}
use Rattle.wire.specs.declared.report.Header.{Header}
use Rattle.wire.specs.Lines.{pair_bytes}
use Rattle.wire.specs.Reports.{Content}

-- The age's byte: 128 more where the retry flag is set.
abbrev pub age_byte : ℕ → Bool → ℕ
age_byte age retry = if retry then age % 128 + 128 else age % 128

-- The bytes before the pairs: three fields of one byte, then tag and length of the fourth.
abbrev pub head : Header → ℕ → List ℕ
head h n =
    1 ∷ 0 ∷ 1 ∷ h.origin
    ∷ 2 ∷ 0 ∷ 1 ∷ h.serial
    ∷ 3 ∷ 0 ∷ 1 ∷ age_byte h.age h.retry
    ∷ 4 ∷ n / 256 % 256 ∷ n % 256 ∷ []

-- The bytes of a report with this header and these pairs.
abbrev pub framed : Header → List ℕ → List ℕ
framed h pairs = head h (length pairs) ++ pairs

-- The bytes of a report that says this.
abbrev pub encode : Content → List ℕ
encode q = framed q.header (pair_bytes q.lines)
