-- The lexer's enums by the numbers that its contracts say. Assumes nothing.
use Rattle.std.specs.Prelude.{ℕ, ◌+◌}
use Rattle.script_tokens.specs.declared.State.{State}
use Rattle.script_tokens.specs.declared.State.TheVariants as state
use Rattle.script_tokens.specs.declared.Kind.{Kind}
use Rattle.script_tokens.specs.declared.Kind.TheVariants.{End, Opening, Closing, Other, Name, Known}

abbrev pub state_number : State → ℕ
state_number state.Outside = 0
state_number state.Comment = 1
state_number state.Token = 2

-- A token's number: 0 the end, 3 and 4 parentheses, 5 any other byte, 6 a name, and from 7 on the words of script_words.
abbrev pub number : Kind → ℕ
number End = 0
number Opening = 3
number Closing = 4
number Other = 5
number Name = 6
number (Known place) = 7 + place
