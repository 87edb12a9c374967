use mathlib.Core.Path.{refl}
use Rattle.script_fields.proofs.Fields.{notes-check}
use Rattle.script_fields.proofs.note_check.Goals as goal

pub returns : goal.returns
returns c = notes-check c.note_field.ensures c.requires.1 refl refl refl refl refl refl
