use Rattle.std.proofs.Common.{rules, refl, ◌≡◌}
use denote.Enum.Declared.{tag_of}
use Rattle.line.specs.Windows.{bit_of}
use Rattle.line.specs.declared.messages.Message.{Message}
use Rattle.line.specs.declared.messages.Message.TheVariants.{Heard, Missed}
use Rattle.line.specs.contracts.messages.Message.{the_type}
use Rattle.line.proofs.Masks.{shift_held, shift_misses}
use Rattle.line.proofs.window.Window.after.Goals as goal

tag_bit : (m : Message) → tag_of the_type m ≡ bit_of m
tag_bit Heard = refl
tag_bit Missed = refl

pub returns-then-missed-lt-TOO_MANY : goal.returns-then-missed-lt-TOO_MANY
returns-then-missed-lt-TOO_MANY c =
    let mask = c.args.self.missed in
    let m = c.args.message in
    let kept = shift_held mask m _ _ c.args.self.narrow (tag_bit m) refl in
    let few = shift_misses mask m _ _ c.args.self.narrow (tag_bit m) refl in
    search rules

pub returns-else-missed-lt-TOO_MANY : goal.returns-else-missed-lt-TOO_MANY
returns-else-missed-lt-TOO_MANY c =
    let mask = c.args.self.missed in
    let m = c.args.message in
    let many = shift_misses mask m _ _ c.args.self.narrow (tag_bit m) refl in
    search rules
