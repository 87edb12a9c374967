-- The records of the record table, as they come to the columns of the work table.
-- Assumes nothing.
use Rattle.std.specs.Prelude.{ℕ, ◌+◌, ◌≤◌, ◌<◌, ◌≡◌, cond, List, eqb, length, get_or, set}
use Rattle.meaning.specs.Following.{Rec}
use Rattle.meaning.proofs.Reference.{Small}
use Rattle.meaning.specs.Limits.{most_records, most_tags}
use Rattle.records.specs.declared.Record.{Record}
use Rattle.records.specs.Table.{blank, rec_of}
use Rattle.table.specs.Map.{gather, records_in, Within}
use Rattle.table.specs.Places.{EQUATION, Large, RESULT, RIGHT, columns_part}

-- The records that the first n places mean, in order.
abbrev pub held : ℕ → List Record → List Rec
held n t = gather (λ k. rec_of (get_or t k blank)) n

-- The work table with the place p in its columns as record number i + 1: a result of 65,535 marks an equation.
abbrev pub carry : List ℕ → ℕ → Record → List ℕ
carry w i p = set (set (set w (i + 1) p.a.0) (RIGHT.at + (i + 1)) p.b.0) (RESULT.at + (i + 1)) (cond (eqb p.kind 1) EQUATION p.c.0)

-- The first n places hold records whose tags are below 1,000, and the columns have room for them.
pub record Loadable (n : ℕ) (t : List Record) (w : List ℕ) : Type 0 where
  pub most : n ≤ most_records
  pub there : n ≤ length t
  pub long : Large w
  pub small : (k : ℕ) → k < n → Small most_tags (rec_of (get_or t k blank))

-- Records 1 to n of the columns are those, and nothing but the columns has changed.
pub record Carried (n : ℕ) (t : List Record) (w w' : List ℕ) : Type 0 where
  pub frame : Within columns_part w w'
  pub same : records_in n w' ≡ held n t
