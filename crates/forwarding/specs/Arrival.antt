-- What holds of a walk where all nodes show their routes of one map under one metric. Assumes nothing.
use Rattle.std.specs.Prelude.{◌≡◌, ℕ, Some, None, ◌≢◌}
use Rattle.metric.specs.Meaning.{Meaning}
use Rattle.metric.specs.Laws.{Laws}
use Rattle.spf.specs.Maps.{Map, Node, Sound}
use Rattle.spf.specs.Forwarding.{AllShow, Arrives}
use Rattle.spf.specs.declared.route.Route.{Route}
use Rattle.forwarding.specs.declared.walk.End.TheVariants.{Arrived, Lost}
use Rattle.forwarding.specs.Courses.{Course, hops_of, ends_at}

-- So many nodes show their routes of one map under one metric.
pub record OneMap (k : Meaning) (m : Map) (shows : ℕ → ℕ → Route) (count : ℕ) : Type 0 where
  pub laws : Laws k
  pub sound : Sound m
  pub counts : m.count ≡ count
  pub shown : AllShow k m shows

-- Of one map under one metric, the course between two nodes arrives wherever the first shows a distance for the second: its hops are fewer than the nodes, go along lines and cost that distance.
abbrev pub Arriving : (ℕ → ℕ → Route) → ℕ → ℕ → ℕ → Course → Type 0
Arriving shows count a d course =
    (k : Meaning) (m : Map) → OneMap k m shows count → Node m a → Node m d → (c : ℕ) → (shows a d).distance ≡ Some c
    → (course.end ≡ Arrived) × Arrives k m shows a d c (hops_of course)

-- Of one map under one metric, the course between two nodes is lost where it began wherever the first shows no distance for the second, which then is another node.
abbrev pub Absent : (ℕ → ℕ → Route) → ℕ → ℕ → ℕ → Course → Type 0
Absent shows count a d course =
    (k : Meaning) (m : Map) → OneMap k m shows count → Node m a → Node m d → (shows a d).distance ≡ None
    → (course ≡ ends_at a Lost) × (a ≢ d)
