-- The entry is right by the test over the whole table.
use Rattle.std.proofs.Common.{◌≡◌, arith}
use Rattle.timing.specs.Ranges.{units_of}
use Rattle.timing.proofs.Entries.{entry}
use Rattle.timing.proofs.Leasts.{least_time, rounded_up, at_least_one, at_most}
use Rattle.timing.proofs.sending.sending_time.Goals as goal

pub returns : goal.returns
returns c =
    let s = c.args.speed in
    let words = units_of c.args.words in
    let same : c.from.result ≡ words = omega arith in
    let right = entry c.times.result.now c.times.ensures s c.block.result words c.block.ensures c.args.words.least c.args.words.most in
    rw same (record {
      value = rounded_up s words _ c.args.words.least right;
      least = least_time s words _ c.args.words.least right;
      range = (at_least_one s words _ c.args.words.least right, at_most s words _ c.args.words.least right c.args.words.most);
    })
