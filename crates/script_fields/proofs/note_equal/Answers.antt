use mathlib.Core.Path.{refl}
use Rattle.script_fields.proofs.Fields.{notes-equal}
use Rattle.script_fields.proofs.note_equal.Goals as goal

pub returns : goal.returns
returns c = notes-equal c.note_field.ensures c.requires.1 refl refl refl refl refl refl
