use Rattle.script_words.proofs.Telling.{Sought}
use Rattle.script_words.proofs.word_of.Given as goal

abbrev pub invariant-loop-place : goal.invariant-loop-place
invariant-loop-place l = Sought l.word l.place
