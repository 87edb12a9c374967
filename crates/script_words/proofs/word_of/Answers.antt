use mathlib.Core.Path.{sym, ◌∙◌}
use Rattle.script_words.proofs.Telling.{sought-it}
use Rattle.script_words.proofs.word_of.Goals as goal

pub returns-then-is_word : goal.returns-then-is_word
returns-then-is_word c = (c.loop-place-test.true, sought-it c.loop-place-test.true (sym c.if-is_word.true ∙ c.is_word.ensures))
