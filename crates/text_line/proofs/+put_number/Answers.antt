-- `text_line::put_number` meets its contract. It calls itself on the tenth part, whose digits stand before the last one.
-- Assumes nothing.
use mathlib.Core.Path.{◌≡◌}
use mathlib.Core.List.{[], ◌∷◌, ◌++◌}
use Prim.Native.Nat.{ℕ, ◌+◌, ◌/◌, ◌%◌}
use native.Mathlib.Omega.{arith}
use Rattle.text_line.specs.Digits.{digits}
use Rattle.text_line.proofs.Digits.{digits-one, digits_more}
use Rattle.text_line.proofs.Puts.{put_then, put_as}
use Rattle.text_line.proofs.+put_number.Goals as goal

pub returns-then-n-lt10 : goal.returns-then-n-lt10
returns-then-n-lt10 t c =
    let n : ℕ = c.args.n in
    let e : digits n ≡ (48 + n) ∷ [] = digits-one n (omega arith) in
    put_as (cc) c.put.ensures

pub returns-else-n-lt10 : goal.returns-else-n-lt10
returns-else-n-lt10 t c =
    let n : ℕ = c.args.n in
    let e : digits n ≡ digits (n / 10) ++ ((48 + n % 10) ∷ []) = digits_more n (omega arith) in
    put_as (cc) (put_then c.put_number-next.ensures c.put-else-n-lt10.ensures)
