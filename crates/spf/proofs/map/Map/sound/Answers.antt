use Rattle.spf.proofs.Held.{sound_of}
use Rattle.spf.proofs.map.Map.sound.Goals as goal

pub returns : goal.returns
returns c = let m = c.args.self.now in sound_of m.count m.rows m.some m.few m.allowed
