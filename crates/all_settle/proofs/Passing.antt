-- What waits is met, one after the other. Each join leaves one fewer that can still be made, and where none came fewer wait.
-- Assumes nothing.
use Prim.Native.Nat.{ℕ, suc, ◌+◌, ◌-◌, ◌*◌, ◌≤◌, ◌<◌}
use native.Mathlib.Omega.{arith}
use native.Mathlib.Decide.{ℕ_discrete}
use mathlib.Core.Path.{◌≡◌}
use mathlib.Core.List.{List}
use Rattle.meaning.specs.Limits.{most_records}
use Rattle.table.specs.Map.{chain_of}
use Rattle.table.specs.Places.{column_size}
use Rattle.all_index.specs.declared.Front.{Front}
use Rattle.all_index.specs.Waiting.{waiting}
use Rattle.all_index.proofs.Waiting.{waiting-low}
use Rattle.all_settle.specs.State.{Open, Gone}

-- The first that waits.
pub open-first : {t : Front} {w : List ℕ} {n first : ℕ} → Open t w n first → 0 < first → Open t w n (suc (first - 1))
open-first {first = first} o l = let e : suc (first - 1) ≡ first = omega arith in rw e o

-- What is left to do falls.
pub settle-less : {t : Front} {w w' : List ℕ} {n n' first : ℕ} → Gone t w n w' n' first → column_size * (t.size - n') + waiting t.places (chain_of w') < column_size * (t.size - n) + waiting t.places (chain_of w)
settle-less {t} {w} {w'} {n} {n'} {first} g =
    let most : t.places ≤ most_records = omega (arith, g.state.standing.reach, g.state.standing.loaded.most) in
    let made : n' ≤ t.size = omega (arith, g.state.standing.total) in
    let more : n ≤ n' = g.more in
    let few : waiting t.places (chain_of w') ≤ t.places = waiting-low t.places (chain_of w') in
    elim (ℕ_discrete n' n) [ yes q ↦ let z = g.less q in omega arith | no q ↦ omega arith ]
