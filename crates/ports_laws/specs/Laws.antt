-- What holds over any run of calls, told of their answers, the last one first.
use Rattle.std.specs.Prelude.{◌≡◌, ℕ, ◌+◌, ◌*◌, ◌≤◌, Bool, true, false, if◌then◌else◌, List, [], ◌∷◌, ◌++◌, length, sum, Some, ◌==◌}
use Rattle.slots.specs.Slots.{UpLine}
use Rattle.slots.specs.Thresholds.{first}
use Rattle.ports.specs.Held.{Held, slot_at}
use Rattle.ports_laws.specs.Runs.{Answer, raised, dropped, noted, closed, reported, refused}

-- An own report was made.
abbrev pub is_own : Answer → Bool
is_own (raised s) = true
is_own (dropped s) = true
is_own (noted s d) = false
is_own (closed report) = report
is_own reported = true
is_own (refused e) = false

-- How many closings an answer is.
abbrev pub closes : Answer → ℕ
closes (raised s) = 0
closes (dropped s) = 0
closes (noted s d) = 0
closes (closed report) = 1
closes reported = 0
closes (refused e) = 0

-- How many closings there were.
abbrev pub closings : List Answer → ℕ
closings [] = 0
closings (a ∷ earlier) = closes a + closings earlier

-- No own report was made.
abbrev pub Quiet : List Answer → Type 0
Quiet [] = Unit {0}
Quiet (a ∷ earlier) = (is_own a ≡ false) × Quiet earlier

-- A stretch of a run without an own report has at most five closings: the sixth closing since the last own report, or since the start, makes one at the latest.
abbrev pub SixthReports : List Answer → Type 0
SixthReports run = (later stretch earlier : List Answer) → run ≡ later ++ (stretch ++ earlier) → Quiet stretch → closings stretch ≤ 5

-- How many closings there were since the last own report, or since the start.
abbrev pub closings_since : List Answer → ℕ
closings_since [] = 0
closings_since (a ∷ earlier) = if is_own a then 0 else closes a + closings_since earlier

-- The threshold is 640 less 128 for each closing since the last own report.
abbrev pub ThresholdKept : Held → List Answer → Type 0
ThresholdKept h run = h.threshold + 128 * closings_since run ≡ first

-- The delays noted on a slot since the last closing or its raising, whichever is later.
abbrev pub noted_since : ℕ → List Answer → List ℕ
noted_since slot [] = []
noted_since slot (raised s ∷ earlier) = if s == slot then [] else noted_since slot earlier
noted_since slot (dropped s ∷ earlier) = noted_since slot earlier
noted_since slot (noted s d ∷ earlier) = if s == slot then d ∷ noted_since slot earlier else noted_since slot earlier
noted_since slot (closed report ∷ earlier) = []
noted_since slot (reported ∷ earlier) = noted_since slot earlier
noted_since slot (refused e ∷ earlier) = noted_since slot earlier

-- A line has the sum and the count of these delays.
pub record SumsUp (delays : List ℕ) (u : UpLine) : Type 0 where
  pub adds : u.noted.sum ≡ sum delays
  pub counts : u.noted.count ≡ length delays

-- Every up slot has the sum and the count of the delays noted on it since the last closing or its raising.
abbrev pub SumsOfPeriod : Held → List Answer → Type 0
SumsOfPeriod h run = (slot : ℕ) (u : UpLine) → slot_at h.slots slot ≡ Some u → SumsUp (noted_since slot run) u
