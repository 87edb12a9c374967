use native.Mathlib.Omega.{arith}
use mathlib.Core.Path.{◌≡◌, ◌∙◌, ap}
use lib.Seq.{slice}
use Rattle.script_meaning.specs.Tokens.{same_bytes}
use Rattle.script_meaning.proofs.Matching.{part-is, part-same}
use Rattle.script_words.specs.Words.{word_at}
use Rattle.script_steps.proofs.Stepping.{sort-outside, sort-bool, sort-it, sort-other, name-order}
use Rattle.script_steps.proofs.sort_of.Goals as goal
use Rattle.script_steps.proofs.sort_of.Goals.{After-is_word, After-eq}

pub returns-then-not-is_simple : goal.returns-then-not-is_simple
returns-then-not-is_simple c = sort-outside c.args.x c.requires c.is_simple.ensures _ c.if-not-is_simple.true

-- What the two comparisons said, of the parts between places.
bool-word : (c : After-is_word) → c.is_word.result ≡ same_bytes (word_at 54) (slice c.args.x.from c.args.x.to c.args.script.now)
bool-word c = let h = name-order c.args.x c.requires c.is_simple.ensures c.if-not-is_simple.false in c.is_word.ensures ∙ ap (same_bytes (word_at 54)) (part-is c.args.script.now (omega arith))

same-name : (c : After-eq) → c.eq.result ≡ same_bytes c.args.sort.now (slice c.args.x.from c.args.x.to c.args.script.now)
same-name c = let h = name-order c.args.x c.requires c.is_simple.ensures c.if-not-is_simple.false in part-same c.args.sort.now c.args.script.now (omega arith) c.eq.ensures

pub returns-then-is_word : goal.returns-then-is_word
returns-then-is_word c = sort-bool c.args.x c.requires c.is_simple.ensures _ c.if-not-is_simple.false (bool-word (goal.at.returns-then-is_word c).After-is_word) c.if-is_word.true

pub returns-then-eq : goal.returns-then-eq
returns-then-eq c =
    sort-it c.args.x c.requires c.is_simple.ensures _ c.if-not-is_simple.false (bool-word (goal.at.returns-then-eq c).After-is_word) c.if-is_word.false (same-name (goal.at.returns-then-eq c).After-eq) c.if-eq.true

pub returns : goal.returns
returns c = sort-other c.args.x c.requires c.is_simple.ensures _ c.if-not-is_simple.false (bool-word (goal.at.returns c).After-is_word) c.if-is_word.false (same-name (goal.at.returns c).After-eq) c.if-eq.false
