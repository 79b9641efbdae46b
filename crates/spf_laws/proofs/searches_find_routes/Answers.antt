use Rattle.std.proofs.Common.{false, refl}
use Rattle.spf_laws.proofs.Finish.{found}
use Rattle.spf_laws.proofs.Steps.{start, stepped}
use Rattle.spf_laws.proofs.searches_find_routes.Goals as goal

pub returns : goal.returns
returns c = λ k laws m sound r root. record {
  begins = λ routes p. start k m r routes (λ v. false) (λ v. refl) p;
  goes = λ before hopped after s s' u a search fresh here nearest done others costs parents hops hop changed.
      stepped k laws m sound r root before hopped after s s' search u a fresh here nearest done others costs parents hops hop changed;
  ends = λ routes s search over. found k laws m sound r root routes s search over;
}
