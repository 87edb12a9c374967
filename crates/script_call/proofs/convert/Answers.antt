use Rattle.table_labels.proofs.Loops.{fills}
use Rattle.script_call.proofs.Carrying.{filled-refused, job-asked, filled-done}
use Rattle.script_call.proofs.convert.Goals as goal

pub returns-in-Err : goal.returns-in-Err
returns-in-Err c = filled-refused c.in-Err.ensures (fills _ 0 c.fill.ensures.after)

pub write_job-length-requires : goal.write_job-length-requires
write_job-length-requires c = job-asked c.in-Ok.ensures c.requires.long

pub returns : goal.returns
returns c = filled-done c.in-Ok.ensures c.write_job-length.ensures (fills _ 0 c.fill-2.ensures.after)
