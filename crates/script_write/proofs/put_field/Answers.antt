use Rattle.script_write.proofs.Fields.{put_one, put_five, put_six, put_two}
use Rattle.script_write.proofs.put_field.Goals as goal

pub returns-then-kind-eq1 : goal.returns-then-kind-eq1
returns-then-kind-eq1 c = put_one _ _ _ _ _ _ _ _ _ _ c.cell-kind.ensures c.tag_of-a.ensures c.tag_of-b.ensures c.tag_of-c.ensures c.cell.ensures c.cell-2.ensures c.cell-3.ensures c.if-kind-eq1.true c.put_pair.ensures

pub returns-then-kind-eq5 : goal.returns-then-kind-eq5
returns-then-kind-eq5 c = put_five _ _ _ _ _ _ _ _ _ _ c.cell-kind.ensures c.tag_of-a.ensures c.tag_of-b.ensures c.tag_of-c.ensures c.cell.ensures c.cell-2.ensures c.cell-3.ensures c.if-kind-eq1.false c.if-kind-eq5.true c.put_pair-then-kind-eq5.ensures

pub returns-then-kind-eq6 : goal.returns-then-kind-eq6
returns-then-kind-eq6 c = put_six _ _ _ _ _ _ _ _ _ _ c.cell-kind.ensures c.tag_of-a.ensures c.tag_of-b.ensures c.tag_of-c.ensures c.cell.ensures c.cell-2.ensures c.cell-3.ensures c.if-kind-eq1.false c.if-kind-eq5.false c.if-kind-eq6.true c.put_front.ensures

pub returns : goal.returns
returns c = put_two _ _ _ _ _ _ _ _ _ _ c.cell-kind.ensures c.tag_of-a.ensures c.tag_of-b.ensures c.tag_of-c.ensures c.cell.ensures c.cell-2.ensures c.cell-3.ensures c.if-kind-eq1.false c.if-kind-eq5.false c.if-kind-eq6.false c.put_triple.ensures
