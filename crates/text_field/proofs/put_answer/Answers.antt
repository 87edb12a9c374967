-- `text_field::put_answer` meets its contract: the line of the sheets is put behind the question's own.
-- Assumes nothing.
use Rattle.text_line.proofs.Puts.{put_then, put-place}
use Rattle.text_field.proofs.put_answer.Goals as goal

pub put_filed-requires : goal.put_filed-requires
put_filed-requires c = put-place c.put_question-next.ensures

pub returns : goal.returns
returns c = put_then c.put_question-next.ensures c.put_filed.ensures
