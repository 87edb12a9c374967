use mathlib.Core.Path.{refl, ◌∙◌}
use native.Mathlib.Omega.{arith}
use Rattle.script_write.proofs.Jobs.{tags-few, fields-ask, end-space, job-laid}
use Rattle.script_write.proofs.write_job.Goals as goal

pub tags_of-tags-requires : goal.tags_of-tags-requires
tags_of-tags-requires c = tags-few c.requires.whole c.requires.read

pub put_fields-at-requires : goal.put_fields-at-requires
put_fields-at-requires c = fields-ask c.requires (c.put_number.auto.room ∙ c.put_front.auto.room)

pub put_front-requires-2 : goal.put_front-requires-2
put_front-requires-2 c = (end-space c.requires c.put_fields-at.ensures (c.put_fields-at.auto.room ∙ c.put_number.auto.room ∙ c.put_front.auto.room)).0

pub overflow_add-result : goal.overflow_add-result
overflow_add-result c = let h = (end-space c.requires c.put_fields-at.ensures (c.put_fields-at.auto.room ∙ c.put_number.auto.room ∙ c.put_front.auto.room)).1 in omega arith

pub returns : goal.returns
returns c = record { put = λ s cs e W. job-laid W e _ _ _ _ _ _ _ _ c.requires.long c.tags_of-tags.ensures c.put_front.ensures c.put_number.ensures c.put_fields-at.ensures c.put_front-2.ensures refl }
