-- A field that is there ends within the job.
-- Assumes nothing.
use Rattle.std.proofs.Common.{sym, arith}
use Rattle.job_field.proofs.Reading.{field-whole}
use Rattle.records_fill.proofs.look.Goals as goal

pub behind-requires : goal.behind-requires
behind-requires c = omega (arith, field-whole c.args.job.now c.args.at _ tt (sym (rw c.in-Ok-Noted.field-0-is at c.in-Ok-Noted.ensures)))

pub behind-requires-in-Ok-Posed : goal.behind-requires-in-Ok-Posed
behind-requires-in-Ok-Posed c = omega (arith, field-whole c.args.job.now c.args.at _ tt (sym (rw c.in-Ok-Posed.field-0-is at c.in-Ok-Posed.ensures)))

pub behind-requires-in-Ok-Header : goal.behind-requires-in-Ok-Header
behind-requires-in-Ok-Header c = omega (arith, field-whole c.args.job.now c.args.at _ tt (sym (rw c.in-Ok-Header.field-0-is at c.in-Ok-Header.ensures)))
