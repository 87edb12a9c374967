-- DEFINITIONS, to be read against document 01, "The job and the report", and document 02, Nos. 1 and 4: the bytes of the job that a script becomes. "The header has
-- length 2." Assumes nothing.
use Rattle.std.specs.Prelude.{ℕ, ◌/◌, ◌%◌, List, [], ◌∷◌, ◌++◌}
use Rattle.meaning.specs.Following.{eq, app}
use Rattle.script_terms.specs.Terms.{Command}
use Rattle.script_terms.specs.Flat.{Item, noted, differing, checking, tags_of, items_of}
use Rattle.script_meaning.specs.Reading.{Got, got, ◌>>=◌, reading}

-- "All numbers are two bytes, high byte first."
abbrev pub two : ℕ → List ℕ
two n = n / 256 ∷ n % 256 ∷ []

abbrev pub field_of : Item → List ℕ
field_of (noted (eq a b)) = 1 ∷ 0 ∷ 4 ∷ two a ++ two b
field_of (noted (app a b c)) = 2 ∷ 0 ∷ 6 ∷ two a ++ two b ++ two c
field_of (differing a b) = 5 ∷ 0 ∷ 4 ∷ two a ++ two b
field_of checking = 6 ∷ 0 ∷ 0 ∷ []

abbrev pub fields_of : List Item → List ℕ
fields_of [] = 127 ∷ 0 ∷ 0 ∷ []
fields_of (i ∷ is) = field_of i ++ fields_of is

unfoldable pub job_of : List Command → List ℕ
job_of cs = 16 ∷ 0 ∷ 2 ∷ two (tags_of cs) ++ fields_of (items_of cs)

-- What a script of at most 60,000 bytes gives: a refusal by number and place, or a job.
unfoldable pub translated : List ℕ → Got (List ℕ)
translated s = reading s >>= λ cs. got (job_of cs)
