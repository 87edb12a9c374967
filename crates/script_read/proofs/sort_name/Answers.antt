use native.Mathlib.Omega.{arith}
use Prim.Native.Nat.{◌≤◌}
use mathlib.Core.Path.{◌∙◌, ap}
use Rattle.script_meaning.specs.Tokens.{same_bytes}
use Rattle.script_meaning.proofs.Matching.{part-is}
use Rattle.script_words.specs.Words.{word_at}
use Rattle.script_steps.proofs.Stepping.{name-order}
use Rattle.script_read.proofs.Opening.{sort-outside, sort-bool, sort-long, sort-good}
use Rattle.script_read.proofs.sort_name.Goals as goal

pub returns-then-not-is_simple : goal.returns-then-not-is_simple
returns-then-not-is_simple c = sort-outside c.read_at-x.result c.read_at-x.ensures c.is_simple.ensures c.if-not-is_simple.true

pub returns-then-is_word : goal.returns-then-is_word
returns-then-is_word c = sort-bool c.read_at-x.result c.read_at-x.ensures c.is_simple.ensures c.if-not-is_simple.false (c.is_word.ensures ∙ ap (same_bytes (word_at 54)) (part-is c.args.script.now (let h = name-order c.read_at-x.result c.read_at-x.ensures c.is_simple.ensures c.if-not-is_simple.false in omega arith))) c.if-is_word.true

pub overflow_sub-x : goal.overflow_sub-x
overflow_sub-x c = let h = name-order c.read_at-x.result c.read_at-x.ensures c.is_simple.ensures c.if-not-is_simple.false in omega arith

pub returns-then-x-gt32 : goal.returns-then-x-gt32
returns-then-x-gt32 c = sort-long c.read_at-x.result c.read_at-x.ensures c.is_simple.ensures c.if-not-is_simple.false (c.is_word.ensures ∙ ap (same_bytes (word_at 54)) (part-is c.args.script.now (let h = name-order c.read_at-x.result c.read_at-x.ensures c.is_simple.ensures c.if-not-is_simple.false in omega arith))) c.if-is_word.false c.if-x-gt32.true

pub returns : goal.returns
returns c = sort-good c.read_at-x.result c.read_at-x.ensures c.is_simple.ensures c.if-not-is_simple.false (c.is_word.ensures ∙ ap (same_bytes (word_at 54)) (part-is c.args.script.now (let h = name-order c.read_at-x.result c.read_at-x.ensures c.is_simple.ensures c.if-not-is_simple.false in omega arith))) c.if-is_word.false (omega arith)
