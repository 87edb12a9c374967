-- Things numbered from nought, filed by a test and never taken out: the last that passes it. Assumes nothing.
use Rattle.std.specs.Prelude.{ℕ, zero, suc, Bool, cond}

-- One more than the last number below n that passes the test, or 0.
abbrev pub last_of : (ℕ → Bool) → ℕ → ℕ
last_of f zero = 0
last_of f (suc n) = cond (f n) (suc n) (last_of f n)
