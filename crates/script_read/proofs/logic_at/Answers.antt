use native.Mathlib.Omega.{arith}
use Prim.Native.Nat.{◌≤◌}
use mathlib.Core.Path.{◌∙◌, ap}
use Rattle.script_meaning.specs.Tokens.{same_bytes}
use Rattle.script_meaning.proofs.Matching.{part-is}
use Rattle.script_words.specs.Words.{word_at}
use Rattle.script_steps.proofs.Stepping.{name-order}
use Rattle.script_read.proofs.Opening.{logic-outside, logic-it, logic-not}
use Rattle.script_read.proofs.logic_at.Goals as goal

pub returns-then-not-is_simple : goal.returns-then-not-is_simple
returns-then-not-is_simple c = logic-outside c.read_at-x.result c.read_at-x.ensures c.is_simple.ensures c.if-not-is_simple.true

pub returns-then-is_word : goal.returns-then-is_word
returns-then-is_word c = logic-it c.read_at-x.result c.read_at-x.ensures c.is_simple.ensures c.if-not-is_simple.false (c.is_word.ensures ∙ ap (same_bytes (word_at 55)) (part-is c.args.script.now (let h = name-order c.read_at-x.result c.read_at-x.ensures c.is_simple.ensures c.if-not-is_simple.false in omega arith))) c.if-is_word.true

pub returns : goal.returns
returns c = logic-not c.read_at-x.result c.read_at-x.ensures c.is_simple.ensures c.if-not-is_simple.false (c.is_word.ensures ∙ ap (same_bytes (word_at 55)) (part-is c.args.script.now (let h = name-order c.read_at-x.result c.read_at-x.ensures c.is_simple.ensures c.if-not-is_simple.false in omega arith))) c.if-is_word.false
