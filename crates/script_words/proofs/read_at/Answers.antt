use borrow.Author.Rules.{rules}
use native.Mathlib.Omega.{arith}
use mathlib.Core.Path.{ap}
use Rattle.script_tokens.specs.Kinds.{number}
use Rattle.script_tokens.proofs.Apart.{number-apart}
use Rattle.script_words.proofs.Reading.{read_plain, read_word, word-order, word-some}
use Rattle.script_words.proofs.read_at.Goals as goal

pub slice_bounds-kind_of-count : goal.slice_bounds-kind_of-count
slice_bounds-kind_of-count c = let h = word-order c.lex_at-x.ensures (ap number c.in-Name.is) in omega arith

pub slice_bounds-kind_of-start : goal.slice_bounds-kind_of-start
slice_bounds-kind_of-start c = let h = word-order c.lex_at-x.ensures (ap number c.in-Name.is) in search rules

pub kind_of-kind-requires : goal.kind_of-kind-requires
kind_of-kind-requires c = word-some c.lex_at-x.ensures (ap number c.in-Name.is)

pub returns-in-Name : goal.returns-in-Name
returns-in-Name c = read_word c.lex_at-x.ensures (ap number c.in-Name.is) c.kind_of-kind.ensures

pub returns-in_default : goal.returns-in_default
returns-in_default c = read_plain c.lex_at-x.ensures (number-apart c.in_default.not-Name)
