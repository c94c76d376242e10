use Rattle.std.proofs.Common.{vec_len}
use Rattle.report_merge.proofs.readers.+add_all.Given as goal

abbrev pub decreases-add_all : goal.decreases-add_all
decreases-add_all g l = vec_len l.readers
