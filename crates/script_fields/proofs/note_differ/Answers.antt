use mathlib.Core.Path.{refl}
use Rattle.script_fields.proofs.Fields.{notes-differ}
use Rattle.script_fields.proofs.note_differ.Goals as goal

pub returns : goal.returns
returns c = notes-differ c.note_field.ensures c.requires.1 refl refl refl refl refl refl
