-- What the enums of the code say in the documents' words: the number of each refusal, a kind and a field.
-- Assumes nothing.
use Rattle.std.specs.Prelude.{ℕ, Option, Some, None, Result, Ok, Err}
use Rattle.meaning.specs.Following.{eq, app}
use Rattle.job_field.specs.Items.{Head, Note, line, differ, Question, noted, posed, ask, explain, broken, why}
use Rattle.job_field.specs.Reading.{Kind, first, first-units, first-sheets, record-eq, record-app, sheeted-eq, sheeted-app, note-differ, question-ask, question-explain, question-broken, question-why, last, unknown, Field, bad, header, item, end}
use Rattle.job_field.specs.declared.Fault.{Fault}
use Rattle.job_field.specs.declared.Fault.TheVariants.{Cut, Misplaced, Misfit, OutOfRange, TooMany, Trailing, FirstTag, SecondTag, ThirdTag, Sheet}
use Rattle.job_field.specs.declared.Kind.{Kind as KindCode}
use Rattle.job_field.specs.declared.Kind.TheVariants as k
use Rattle.job_field.specs.declared.Line.{Line}
use Rattle.job_field.specs.declared.Line.TheVariants.{Equation, Application, Differ}
use Rattle.job_field.specs.declared.Query.{Query}
use Rattle.job_field.specs.declared.Query.TheVariants.{Ask, Explain, Broken, Why}
use Rattle.job_field.specs.declared.Field.{Field as FieldCode}
use Rattle.job_field.specs.declared.Field.TheVariants.{Header, Noted, Posed, End}
use Rattle.job_field.specs.declared.Head.{Head as HeadCode}

-- The refusals of reading by the numbers of documents 01 and 02.
abbrev pub number_of : Fault → ℕ
number_of Cut = 3
number_of Misplaced = 4
number_of Misfit = 5
number_of OutOfRange = 6
number_of TooMany = 7
number_of Trailing = 8
number_of FirstTag = 11
number_of SecondTag = 12
number_of ThirdTag = 13
number_of Sheet = 17

abbrev pub kind_named : KindCode → Kind
kind_named k.First = first
kind_named k.Units = first-units
kind_named k.Equal = record-eq
kind_named k.Apply = record-app
kind_named k.Asked = question-ask
kind_named k.Explained = question-explain
kind_named k.Differed = note-differ
kind_named k.Breaking = question-broken
kind_named k.Doubted = question-why
kind_named k.Last = last
kind_named k.Sheets = first-sheets
kind_named k.EqualOn = sheeted-eq
kind_named k.ApplyOn = sheeted-app

-- A byte names a kind of the table, or none.
abbrev pub kind_of : Option KindCode → Kind
kind_of (Some k) = kind_named k
kind_of None = unknown

-- What a note and a question of the code say.
abbrev pub note_said : Line → Note
note_said (Equation a b h) = line (eq a.0 b.0) h
note_said (Application a b c h) = line (app a.0 b.0 c.0) h
note_said (Differ a b) = differ a.0 b.0

abbrev pub question_said : Query → Question
question_said (Ask s t) = ask s.0 t.0
question_said (Explain s t) = explain s.0 t.0
question_said Broken = broken
question_said (Why s t) = why s.0 t.0

-- What the first field of the code says, what any does, and what its reader answers: a field, or a refusal by its number.
abbrev pub head_said : HeadCode → Head
head_said h = record { size = h.size; units = h.units; sheeted = h.sheeted }

abbrev pub field_said : FieldCode → Field
field_said (Header h) = header (head_said h)
field_said (Noted l) = item (noted (note_said l))
field_said (Posed q) = item (posed (question_said q))
field_said End = end

abbrev pub said : Result FieldCode Fault → Field
said (Ok f) = field_said f
said (Err f) = bad (number_of f)
