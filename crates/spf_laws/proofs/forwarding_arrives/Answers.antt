use Rattle.spf_laws.proofs.Forward.{forwarding}
use Rattle.spf_laws.proofs.forwarding_arrives.Goals as goal

pub returns : goal.returns
returns c k laws m sound a na shows right d c' nd e = forwarding k laws m sound shows right a d c' na nd e
