-- The delay of a packet, and of a line at rest, in units of 0.1 ms.
use Rattle.std.specs.Prelude.{ℕ, ◌+◌, ◌-◌, min, if◌then◌else◌, Some, None, Option, nat_le}
use Rattle.timing.specs.declared.speed.Speed.{Speed}
use Rattle.timing.specs.Limits.{largest, longest}
use Rattle.timing.specs.Sending.{sending_time}

-- a time as a delay: above the largest it counts as the largest
abbrev pub capped : ℕ → ℕ
capped time = min time largest

-- what a packet waited, and the time that its signal and its bits are under way; there is none if it was sent before it arrived
abbrev pub packet_delay : Speed → ℕ → ℕ → ℕ → ℕ → Option ℕ
packet_delay speed propagation arrived sent words =
    if nat_le arrived sent then Some (capped (sent - arrived + propagation + sending_time speed words)) else None

-- a line at rest has the delay of a longest packet that does not wait: the propagation plus the sending time of 64 words
abbrev pub resting_delay : Speed → ℕ → ℕ
resting_delay speed propagation = propagation + sending_time speed longest
