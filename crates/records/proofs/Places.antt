-- A place means the record that stands in it: by the two kinds.
-- Assumes nothing.
use Prim.Native.Nat.{ℕ}
use mathlib.Core.Path.{◌≡◌, refl}
use Rattle.meaning.specs.Following.{Rec, eq, app}
use Rattle.records.specs.Table.{place_of, rec_of}

pub place-means : (r : Rec) (h : ℕ) → rec_of (place_of r h) ≡ r
place-means (eq a b) h = refl
place-means (app a b c) h = refl
