-- Tests that antt computes, and what they say: of two tests at once, of two numbers, of each thing in a list. Assumes nothing.
use Prim.Native.Nat.{ℕ, zero, suc, ◌≤◌, ◌<◌}
use native.Mathlib.Omega.{arith}
use native.Mathlib.Decide.{ℕ_discrete}
use mathlib.Core.Path.{◌≡◌, refl, sym, subst}
use mathlib.Core.Logic.{◌≢◌}
use mathlib.Core.Bool.{Bool, true, false, not, ◌&&◌}
use mathlib.Core.List.{List, [], ◌∷◌, map, Memᴰ}
use lib.Dec.{T, eqb, eqb→eq, eqb_refl, ltb, lt→ltb, ltb→lt, leb, leb→le, le→leb}

pub is_true : (b : Bool) → T b → b ≡ true
is_true true t = refl
is_true false t = absurd t

pub is_false : (b : Bool) → (T b → ⊥) → b ≡ false
is_false true f = absurd (f tt)
is_false false f = refl

pub both : (a b : Bool) → T (a && b) → T a × T b
both true true t = (tt, tt)
both true false t = absurd t
both false true t = absurd t
both false false t = absurd t

pub and : (a b : Bool) → T a → T b → T (a && b)
and true true t u = tt
and true false t u = u
and false b t u = absurd t

pub and_no : (a : Bool) → a && false ≡ false
and_no true = refl
and_no false = refl

-- The same of tests that are known to hold.
pub both_hold : (a b : Bool) → a && b ≡ true → (a ≡ true) × (b ≡ true)
both_hold a b e = let p = both a b (rw e tt) in (is_true a p.0, is_true b p.1)

-- One test for "these two answers are one".
abbrev pub alike : Bool → Bool → Bool
alike true b = b
alike false b = not b

pub alike-one : (a b : Bool) → T (alike a b) → a ≡ b
alike-one true true t = refl
alike-one true false t = absurd t
alike-one false true t = absurd t
alike-one false false t = refl

-- A test that passes at each number below n.
abbrev pub each : (ℕ → Bool) → ℕ → Bool
each f zero = true
each f (suc n) = f n && each f n

pub each_at : (f : ℕ → Bool) (n : ℕ) → T (each f n) → (k : ℕ) → k < n → T (f k)
each_at f zero t k h = absurd (omega arith)
each_at f (suc n) t k h = let p = both (f n) (each f n) t in go (ℕ_discrete k n) p.0 (each_at f n p.1 k)
  where
    go : Dec (k ≡ n) → T (f n) → (k < n → T (f k)) → T (f k)
    go (yes e) u r = subst (λ i. T (f i)) (sym e) u
    go (no d) u r = r (omega arith)

-- Numbers.
pub eqb_yes : {m n : ℕ} → m ≡ n → eqb m n ≡ true
eqb_yes {m} {n} e = is_true (eqb m n) (rw e (eqb_refl n))

pub eqb_no : {m n : ℕ} → m ≢ n → eqb m n ≡ false
eqb_no {m} {n} d = is_false (eqb m n) (λ t. d (eqb→eq m n t))

pub ltb_yes : {m n : ℕ} → m < n → ltb m n ≡ true
ltb_yes {m} {n} h = is_true (ltb m n) (lt→ltb m n h)

pub ltb_no : {m n : ℕ} → n ≤ m → ltb m n ≡ false
ltb_no {m} {n} h = is_false (ltb m n) (λ t. let l : m < n = ltb→lt m n t in absurd (omega arith))

pub leb_yes : (m n : ℕ) → m ≤ n → leb m n ≡ true
leb_yes m n h = is_true (leb m n) (le→leb m n h)

pub leb_no : (m n : ℕ) → n < m → leb m n ≡ false
leb_no m n h = is_false (leb m n) (λ t. let l : m ≤ n = leb→le m n t in absurd (omega arith))

-- Two functions that agree on what a list has give one list.
pub map_same : {A B : Type 0} (f g : A → B) (l : List A) → ((x : A) → Memᴰ x l → f x ≡ g x) → map f l ≡ map g l
map_same f g [] h = refl
map_same f g (x ∷ l) h = rw (h x (Memᴰ.head refl), map_same f g l (λ y i. h y (Memᴰ.tail i)))
