-- What the writer's steps come to: a front and two numbers laid behind it are the field.
-- Assumes nothing.
use Prim.Native.Nat.{ℕ, ◌+◌, ◌≤◌}
use native.Mathlib.Omega.{arith}
use mathlib.Core.Path.{◌≡◌, refl, ◌∙◌}
use mathlib.Core.List.{List, [], ◌∷◌, ◌++◌}
use lib.ListN.{length, set}
use Rattle.report.specs.Report.{two, numbers, front, field, laid}
use Rattle.report.proofs.Laid.{laid-sets, laid_then}

pub front-laid : (at kind size : ℕ) (room w : List ℕ) → at + 3 ≤ length room → w ≡ laid (at + 1) (two size) (set room at kind) → w ≡ laid at (front kind size) room
unfolding front two
front-laid at kind size room w fits h = h ∙ laid_then at (at + 1) (kind ∷ []) (two size) room (set room at kind) (omega arith) refl (laid-sets at (kind ∷ []) room (omega arith))

pub pair-laid : (at kind a b : ℕ) (room x y z : List ℕ) → at + 7 ≤ length room
    → x ≡ laid at (front kind 4) room → y ≡ laid (at + 3) (two a) x → z ≡ laid (at + 5) (two b) y
    → z ≡ laid at (field kind (numbers (a ∷ b ∷ []))) room
unfolding field numbers front two
pair-laid at kind a b room x y z fits h k l =
    let e : at + 5 ≡ at + length (front kind 4 ++ two a) = omega arith in
    l ∙ laid_then at (at + 5) (front kind 4 ++ two a) (two b) room y (omega arith) e (k ∙ laid_then at (at + 3) (front kind 4) (two a) room x (omega arith) refl h)
