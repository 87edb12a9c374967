-- The bytes of the job, by what the table holds. Assumes nothing.
use Rattle.std.specs.Prelude.{ℕ, zero, suc, ◌+◌, ◌≤◌, ◌≡◌, cond, List, [], ◌∷◌, ◌++◌, eqb, length, get_or, drop}
use Rattle.report.specs.Report.{laid}
use Rattle.script_terms.specs.Terms.{Command}
use Rattle.script_meaning.specs.Reading.{got, reading}
use Rattle.script_meaning.specs.Bytes.{two, job_of}
use Rattle.script_meaning.proofs.Shift.{shift}
use Rattle.script_shelf.specs.declared.Counts.{Counts}
use Rattle.script_read.specs.Script.{Whole}

unfoldable pub pair_of : ℕ → ℕ → ℕ → List ℕ
pair_of kind a b = kind ∷ 0 ∷ 4 ∷ two a ++ two b

unfoldable pub triple_of : ℕ → ℕ → ℕ → List ℕ
triple_of a b c = 2 ∷ 0 ∷ 6 ∷ two a ++ (two b ++ two c)

-- A field by its kind and its numbers in the table.
unfoldable pub field_bytes : ℕ → ℕ → ℕ → ℕ → ℕ → List ℕ
field_bytes S kind a b c =
    cond (eqb kind 1) (pair_of 1 (shift S a) (shift S b))
    (cond (eqb kind 5) (pair_of 5 (shift S a) (shift S b)) (cond (eqb kind 6) (6 ∷ 0 ∷ 0 ∷ []) (triple_of (shift S a) (shift S b) (shift S c))))

abbrev pub field_in : List ℕ → ℕ → ℕ → List ℕ
field_in w S i = field_bytes S (get_or w (8025 + i) 0) (get_or w (13526 + i) 0) (get_or w (19027 + i) 0) (get_or w (24528 + i) 0)

-- The first n fields.
unfoldable pub fields_in : List ℕ → ℕ → ℕ → List ℕ
fields_in w S zero = []
fields_in w S (suc n) = fields_in w S n ++ field_in w S n

pub record FieldPut (w : List ℕ) (S i : ℕ) (room room' : List ℕ) (at to : ℕ) : Type 0 where
  pub is : room' ≡ laid at (field_in w S i) room
  pub behind : to ≡ at + length (field_in w S i)

pub record FieldsAsk (w : List ℕ) (c : Counts) (room : List ℕ) (start : ℕ) : Type 0 where
  pub long : 32768 ≤ length w
  pub few : c.fields ≤ 5501
  pub symbols : c.symbols ≤ 1000
  pub space : start + length (fields_in w c.symbols c.fields) + 9 ≤ length room

pub record FieldsPut (w : List ℕ) (c : Counts) (room room' : List ℕ) (start to : ℕ) : Type 0 where
  pub is : room' ≡ laid start (fields_in w c.symbols c.fields) room
  pub behind : to ≡ start + length (fields_in w c.symbols c.fields)

-- The table holds the commands of an accepted script, and the room is long enough for any job.
pub record JobAsk (w : List ℕ) (c : Counts) (room : List ℕ) : Type 0 where
  pub script : List ℕ
  pub commands : List Command
  pub read : reading script ≡ got commands
  pub whole : Whole script w commands c
  pub long : 46510 ≤ length room

-- The room has the job in front, and every byte behind it is as it was.
pub record Job (room room' : List ℕ) (to : ℕ) (cs : List Command) : Type 0 where
  pub is : room' ≡ job_of cs ++ drop (length (job_of cs)) room
  pub size : to ≡ length (job_of cs)

pub record JobPut (w : List ℕ) (c : Counts) (room room' : List ℕ) (to : ℕ) : Type 0 where
  pub put : (s : List ℕ) (cs : List Command) → reading s ≡ got cs → Whole s w cs c → Job room room' to cs
