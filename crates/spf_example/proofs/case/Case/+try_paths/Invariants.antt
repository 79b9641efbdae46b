use Rattle.spf_example.proofs.case.Case.+try_paths.Given as goal

abbrev pub decreases-try_paths : goal.decreases-try_paths
decreases-try_paths g l = l.more
