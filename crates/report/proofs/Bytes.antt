-- The bytes of numbers and fields: how many they are, and that they can be told apart: a number is its two bytes, and a field
-- says its own length, so that what stands behind it is known where it is.
-- Assumes nothing.
use Prim.Native.Nat.{ℕ, ◌+◌, ◌*◌, ◌/◌, ◌%◌, ◌<◌}
use native.Mathlib.Omega.{arith}
use mathlib.Core.Path.{◌≡◌, refl}
use mathlib.Core.List.{List, [], ◌∷◌, ◌++◌}
use lib.ListN.{length}
use Rattle.report.specs.Report.{two, numbers, front, field}

pub length_two : (n : ℕ) → length (two n) ≡ 2
unfolding two
length_two n = refl

pub length-numbers : (ns : List ℕ) → length (numbers ns) ≡ 2 * length ns
unfolding numbers two
length-numbers [] = refl
length-numbers (n ∷ ns) = omega (arith, length-numbers ns)

pub length-field : (kind : ℕ) (body : List ℕ) → length (field kind body) ≡ 3 + length body
unfolding field front two
length-field kind body = omega arith

-- Two bytes name one number, and two bytes name each number below 65,536.
pub two-one : (m n : ℕ) → two m ≡ two n → m ≡ n
unfolding two
two-one m n e =
    let hi : m / 256 ≡ n / 256 = cc in
    let lo : m % 256 ≡ n % 256 = cc in
    omega arith

pub two-of : (hi lo : ℕ) → lo < 256 → two (hi * 256 + lo) ≡ hi ∷ lo ∷ []
unfolding two
two-of hi lo l =
    let p : (hi * 256 + lo) / 256 ≡ hi = omega arith in
    let q : (hi * 256 + lo) % 256 ≡ lo = omega arith in
    rw (p, q)

-- Where two lists of one length begin the same bytes, they are one and so is what is left.
pub append-one : (a b x y : List ℕ) → length a ≡ length b → a ++ x ≡ b ++ y → (a ≡ b) × (x ≡ y)
append-one [] [] x y l e = (refl, e)
append-one [] (c ∷ b) x y l e = absurd (omega arith)
append-one (c ∷ a) [] x y l e = absurd (omega arith)
append-one (c ∷ a) (d ∷ b) x y l e =
    let h : c ≡ d = cc in
    let t : a ++ x ≡ b ++ y = cc in
    let r = append-one a b x y (omega arith) t in
    (let q : a ≡ b = r.0 in cc, r.1)

pub numbers-one : (ms ns : List ℕ) → numbers ms ≡ numbers ns → ms ≡ ns
unfolding numbers two
numbers-one [] [] e = refl
numbers-one [] (n ∷ ns) e = let z : ◌≡◌ {A = ℕ} 0 1 = cc in absurd (omega arith)
numbers-one (m ∷ ms) [] e = let z : ◌≡◌ {A = ℕ} 0 1 = cc in absurd (omega arith)
numbers-one (m ∷ ms) (n ∷ ns) e =
    let h : two m ≡ two n = (append-one (two m) (two n) (numbers ms) (numbers ns) refl e).0 in
    let p : m ≡ n = two-one m n h in
    let q : ms ≡ ns = numbers-one ms ns (append-one (two m) (two n) (numbers ms) (numbers ns) refl e).1 in
    cc

pub numbers-append : (ms ns : List ℕ) → numbers (ms ++ ns) ≡ numbers ms ++ numbers ns
unfolding numbers two
numbers-append [] ns = refl
numbers-append (m ∷ ms) ns = rw (numbers-append ms ns)

-- Where two fields begin the same bytes, they are one and so is what stands behind them.
pub field-one : (k k' : ℕ) (b b' x y : List ℕ) → field k b ++ x ≡ field k' b' ++ y → (k ≡ k') × (b ≡ b') × (x ≡ y)
unfolding field front two
field-one k k' b b' x y e =
    let p : k ≡ k' = cc in
    let hi : length b / 256 ≡ length b' / 256 = cc in
    let lo : length b % 256 ≡ length b' % 256 = cc in
    let t : b ++ x ≡ b' ++ y = cc in
    let r = append-one b b' x y (omega arith) t in
    (p, r.0, r.1)
