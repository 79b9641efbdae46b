use Rattle.ports_laws.proofs.Closings.{sixth_reports, threshold_kept}
use Rattle.ports_laws.proofs.sixth_closing_reports.Goals as goal

pub returns : goal.returns
returns c = record { sixth = sixth_reports; threshold = threshold_kept }
