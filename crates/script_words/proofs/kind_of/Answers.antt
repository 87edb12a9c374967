use mathlib.Core.Path.{refl, sym, ◌∙◌}
use Rattle.script_words.specs.Words.{told, number, name}
use Rattle.script_words.proofs.kind_of.Goals as goal

pub returns-in-Some : goal.returns-in-Some
returns-in-Some c = record { place = c.in-Some.place; spotted = c.in-Some.ensures.1; placed = told c.in-Some.ensures.0 }

pub returns-in-None : goal.returns-in-None
returns-in-None c = record { place = 54; spotted = c.in-None.ensures; placed = number refl (sym c.is_ascii_digit.ensures.value ∙ c.if-is_ascii_digit.true) }

pub returns-in-None-2 : goal.returns-in-None-2
returns-in-None-2 c = record { place = 54; spotted = c.in-None.ensures; placed = name refl (sym c.is_ascii_digit.ensures.value ∙ c.if-is_ascii_digit.false) }
