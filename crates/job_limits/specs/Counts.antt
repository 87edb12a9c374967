-- What stands before a field, as the code holds it.
-- Assumes nothing.
use Rattle.job_field.specs.Items.{Moment}
use Rattle.job_limits.specs.declared.Counts.{Counts}

abbrev pub moment_of : Counts → Moment
moment_of c = record { records = c.records; differs = c.differs; questions = c.questions }
