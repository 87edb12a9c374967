use Rattle.script_meaning.specs.Tokens.{reserved, core}
use Rattle.script_words.specs.Words.{known, word_at}
use Rattle.script_words.proofs.Telling.{word-is}
use Rattle.script_words.proofs.is_word.Goals as goal

pub returns : goal.returns
unfolding word_at known core reserved
returns c = word-is c.stands_at.ensures c.requires tt
