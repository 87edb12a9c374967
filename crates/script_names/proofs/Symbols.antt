-- The list of declared symbols: what it says of a name, and one symbol more. Assumes nothing.
use Prim.Native.Nat.{ℕ, suc, ◌<◌}
use native.Mathlib.Omega.{arith}
use native.Mathlib.Decide.{ℕ_discrete}
use mathlib.Core.Path.{◌≡◌, refl, sym, ◌∙◌, ap}
use mathlib.Core.Bool.{Bool, true, false, cond, ◌||◌}
use mathlib.Core.List.{List, [], ◌∷◌, ◌++◌}
use lib.Dec.{T}
use lib.ListN.{length, get_or, length-append, get_or-append}
use lib.Seq.{get_or-append_seam}
use Rattle.script_meaning.specs.Tokens.{same_bytes}
use Rattle.script_meaning.specs.Reading.{Symbol, find, is_there, takes_of}
use Rattle.script_shelf.specs.Shelf.{blank, Once}
use Rattle.script_names.specs.Names.{Said}
use Rattle.script_meaning.proofs.Matching.{bytes-self}

-- A name that is there: the symbol at its number has it, and its number of arguments.
pub record There (l : List Symbol) (x : List ℕ) : Type 0 where
  pub below : find l x < length l
  pub named : T (same_bytes (get_or l (find l x) blank).name x)
  pub takes : takes_of l x ≡ (get_or l (find l x) blank).takes

pub there : (l : List Symbol) (x : List ℕ) → is_there l x ≡ true → There l x
there [] x e = let z : ◌≡◌ {A = ℕ} 0 1 = cc in absurd (omega arith)
there (y ∷ l) x e = go (same_bytes y.name x) refl e (there l x)
  where
    go : (b : Bool) → same_bytes y.name x ≡ b → b || is_there l x ≡ true → (is_there l x ≡ true → There l x) → There (y ∷ l) x
    go true q e f = record { below = rw q (omega arith); named = rw q (rw q tt); takes = rw q }
    go false q e f = let r = f e in record { below = rw q (omega (arith, r.below)); named = rw q r.named; takes = rw q r.takes }

pub is-there : (l : List Symbol) (x : List ℕ) → find l x < length l → is_there l x ≡ true
is-there [] x h = absurd (omega arith)
is-there (y ∷ l) x h = go (same_bytes y.name x) h (is-there l x)
  where
    go : (b : Bool) → cond b 0 (suc (find l x)) < suc (length l) → (find l x < length l → is_there l x ≡ true) → b || is_there l x ≡ true
    go true h f = refl
    go false h f = f (omega arith)

find-append : (l m : List Symbol) (x : List ℕ) → find l x < length l → find (l ++ m) x ≡ find l x
find-append [] m x h = absurd (omega arith)
find-append (y ∷ l) m x h = go (same_bytes y.name x) h (find-append l m x)
  where
    go : (b : Bool) → cond b 0 (suc (find l x)) < suc (length l) → (find l x < length l → find (l ++ m) x ≡ find l x) → cond b 0 (suc (find (l ++ m) x)) ≡ cond b 0 (suc (find l x))
    go true h f = refl
    go false h f = ap suc (f (omega arith))

find-new : (l : List Symbol) (y : Symbol) → is_there l y.name ≡ false → find (l ++ y ∷ []) y.name ≡ length l
find-new [] y e = rw (bytes-self y.name)
find-new (z ∷ l) y e = go (same_bytes z.name y.name) e (find-new l y)
  where
    go : (b : Bool) → b || is_there l y.name ≡ false → (is_there l y.name ≡ false → find (l ++ y ∷ []) y.name ≡ length l) → cond b 0 (suc (find (l ++ y ∷ []) y.name)) ≡ suc (length l)
    go true e f = let z : ◌≡◌ {A = ℕ} 0 1 = cc in absurd (omega arith)
    go false e f = ap suc (f e)

-- Each name stands there once, also with one more that was not there.
pub once_more : (l : List Symbol) (y : Symbol) → Once l → is_there l y.name ≡ false → Once (l ++ y ∷ [])
once_more l y O e i h = go (ℕ_discrete i (length l))
  where
    go : Dec (i ≡ length l) → find (l ++ y ∷ []) (get_or (l ++ y ∷ []) i blank).name ≡ i
    go (yes z) = rw (z, get_or-append_seam l y [] blank) (find-new l y e)
    go (no d) =
        let m : i < length l = omega (arith, length-append l (y ∷ [])) in
        let o : find l (get_or l i blank).name ≡ i = O i m in
        rw (get_or-append l (y ∷ []) blank i m) (find-append l (y ∷ []) (get_or l i blank).name (omega arith) ∙ o)

-- A symbol that has the name is the one.
pub said-there : {l : List Symbol} {x : List ℕ} (k : ℕ) → Once l → k < length l → (get_or l k blank).name ≡ x → Said l x true k (get_or l k blank).takes
said-there {l} {x} k O h e =
    let f : find l x ≡ k = ap (find l) (sym e) ∙ O k h in
    let t : is_there l x ≡ true = is-there l x (omega arith) in
    record { there-is = sym t; number_is = λ q. sym f; takes-is = λ q. sym ((there l x t).takes ∙ ap (λ i. (get_or l i blank).takes) f) }

-- Where none has it, it is not there.
pub said-not : (l : List Symbol) (x : List ℕ) (n m : ℕ) → ((k : ℕ) → k < length l → T (same_bytes (get_or l k blank).name x) → ⊥) → Said l x false n m
said-not l x n m none = go (is_there l x) refl
  where
    go : (b : Bool) → is_there l x ≡ b → Said l x false n m
    go false e = record { there-is = sym e; number_is = λ q. let z : ◌≡◌ {A = ℕ} 0 1 = cc in absurd (omega arith); takes-is = λ q. let z : ◌≡◌ {A = ℕ} 0 1 = cc in absurd (omega arith) }
    go true e = let r = there l x e in absurd (none (find l x) r.below r.named)
