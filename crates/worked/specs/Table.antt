-- What was reckoned by hand, one row each.
use Rattle.std.specs.Prelude.{true, false, List, [], ◌∷◌, Some, None}
use Rattle.entries.specs.declared.freshness.Freshness.TheVariants.{Newer, Duplicate, Older}
use Rattle.entries.specs.Freshness.{freshness}
use Rattle.metric.specs.Metrics.{delay, fewest_lines}
use Rattle.ports.specs.Closing.{closing_row}
use Rattle.ports.specs.Rows.{row_of}
use Rattle.spf.specs.Changes.{changed_count}
use Rattle.spf.specs.Reckoning.{route_of, tree_of}
use Rattle.timing.specs.declared.speed.Speed.TheVariants.{Bits50000, Bits64000}
use Rattle.timing.specs.Sending.{sending_time}
use Rattle.timing.specs.Tallies.{average_of}
use Rattle.worked.specs.Agreement.{Row, gives}
use Rattle.worked.specs.Four.{four, route}
use Rattle.worked.specs.Scenes.{down_after, holding, measured}

abbrev pub table : List Row
table =
    -- The four routes of root 1 in the network of four, under the delay.
    gives (route_of delay (four 450) 1 1) (route 0 0 0)
    ∷ gives (route_of delay (four 450) 1 2) (route 200 1 2)
    ∷ gives (route_of delay (four 450) 1 3) (route 500 1 3)
    ∷ gives (route_of delay (four 450) 1 4) (route 650 2 2)
    -- Under fewest lines, node 4.
    ∷ gives (route_of fewest_lines (four 450) 1 4) (route 131522 2 2)
    -- With the line from 2 to 4 at 600, the way by 3 is the cheaper one.
    ∷ gives (route_of delay (four 600) 1 4) (route 650 3 3)
    -- Then one route of the tree changed.
    ∷ gives (changed_count (tree_of delay (four 450) 1) (tree_of delay (four 600) 1)) 1
    -- Held 63 at age 3: 0 is newer.
    ∷ gives (freshness (holding 63 3) 0) Newer
    -- Held 10 at age 3: 41 is newer, 42 older, 10 a duplicate; at age 0, 9 is newer.
    ∷ gives (freshness (holding 10 3) 41) Newer
    ∷ gives (freshness (holding 10 3) 42) Older
    ∷ gives (freshness (holding 10 3) 10) Duplicate
    ∷ gives (freshness (holding 10 0) 9) Newer
    -- 64 words at 64,000 bit/s take 160 units; 1 word at 50,000 takes 4.
    ∷ gives (sending_time Bits64000 64) 160
    ∷ gives (sending_time Bits50000 1) 4
    -- A sum of 7 with a count of 2 averages 3, whatever the resting figure.
    ∷ gives (average_of (record { sum = 7; count = 2 }) 160) 3
    -- Reported 1,000, threshold 640: an average of 1,639 gives none, 1,640 a report.
    ∷ gives (closing_row (measured 640 1000 1639)) None
    ∷ gives (closing_row (measured 640 1000 1640)) (Some (row_of (record { neighbour = 2; figure = 1640 } ∷ [])))
    -- Three misses within 20 messages after Ready, and three that span 21.
    ∷ gives (down_after (1 ∷ 2 ∷ 20 ∷ []) 20) true
    ∷ gives (down_after (1 ∷ 2 ∷ 21 ∷ []) 21) false
    ∷ []
