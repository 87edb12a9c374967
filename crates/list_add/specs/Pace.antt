-- How far the adding of places has come, as the code holds it: what every step asks of it and what it leaves. No meaning rests on it. Assumes nothing.
use Rattle.std.specs.Prelude.{◌<◌, List, ℕ}
use Rattle.list_add.specs.declared.Task.{Task}
use Rattle.list_add.specs.declared.Pace.{Pace}
use Rattle.list_add.specs.Busy.{Busy, Went, rank}

-- The places are added, and have come to s.
abbrev pub Underway : Task → Pace → List ℕ → Type 0
Underway t s w = Busy t.size t.len t.n w s.first s.last s.joins

-- From w to w' they came on from s to r: less is to be done.
abbrev pub Forward : Task → Pace → List ℕ → List ℕ → Pace → Type 0
Forward t s w w' r = Underway t r w' × Went w w' s.joins r.joins × (rank w' r.joins < rank w s.joins)
