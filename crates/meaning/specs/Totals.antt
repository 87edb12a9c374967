-- DEFINITIONS, to be read against document 02, No. 6, which stands in place of document 01, "Idle records": the number of classes, an idle record, the number of them.
-- Assumes nothing.
use Rattle.std.specs.Prelude.{ℕ, suc, List, length}
use Rattle.meaning.specs.Following.{Rec, eq, app, At, Follows, UpTo, Least}

-- Of the numbers 0 to N-1, n are in P: each is counted or skipped, by what it is.
pub data Count (P : ℕ → Type 0) : ℕ → ℕ → Type 0 where
  none : Count P 0 0
  one : {N n : ℕ} → P N → Count P N n → Count P (suc N) (suc n)
  skip : {N n : ℕ} → (P N → ⊥) → Count P N n → Count P (suc N) n

-- "The number of classes" of the N tags is n. A class has one smallest tag, so the tags that are the smallest of their own class are counted.
abbrev pub Classes : ℕ → (Rec → Type 0) → ℕ → Type 0
Classes N S n = Count (λ x. Least S x x) N n

-- Document 02, No. 6: "A record a = b is to be idle if a and b are equal by the records before it; f(a,b)=c if an earlier f(a',b')=c' has all three equal by the records before it": so it is
-- with record number k + 1, before which the records 1 to k stand.
pub data Idle (rs : List Rec) (k : ℕ) : Type 0 where
  equation : {a b : ℕ} → At rs (suc k) (eq a b) → Follows (UpTo rs k) a b → Idle rs k
  application : {a b c a' b' c' : ℕ} → At rs (suc k) (app a b c) → UpTo rs k (app a' b' c')
      → Follows (UpTo rs k) a a' → Follows (UpTo rs k) b b' → Follows (UpTo rs k) c c' → Idle rs k

-- "The number .. of idle records over the whole job" is n.
abbrev pub Idles : List Rec → ℕ → Type 0
Idles rs n = Count (Idle rs) (length rs) n
