-- A newest join is followed on both its sides and between its arguments, all by older joins, and marked after them: so every marked join rests on
-- marked ones at every step. Assumes nothing.
use Prim.Native.Nat.{ℕ, ◌<◌}
use native.Mathlib.Decide.{ℕ_discrete}
use mathlib.Core.Path.{◌≡◌}
use mathlib.Core.Bool.{Bool, true}
use mathlib.Core.List.{List}
use lib.Dec.{T}
use Rattle.meaning.specs.Following.{Rec, eq, app, At}
use Rattle.meaning.specs.Joins.{by, cong, Join, Linked, over, Grounds, equation, applications, Supported, put}
use Rattle.meaning.specs.Walk.{Walked}
use Rattle.meaning.proofs.Log.{linked-more, linked-refl, linked-sym, linked_up, grounds-more, put-hit, put-miss}

mark-old : (b : ℕ) (m : ℕ → Bool) (a : ℕ) → T (m a) → T (put b true m a)
mark-old b m a t = go (ℕ_discrete a b)
  where
    go : Dec (a ≡ b) → T (put b true m a)
    go (yes q) = rw (q, put-hit b true m) tt
    go (no q) = rw (put-miss b true m a q) t

-- One more mark, on a join that rests on marked ones.
pub mark-supported : {rs : List Rec} {e : ℕ → Join} {m : ℕ → Bool} {n : ℕ} (b : ℕ) → Grounds rs (Linked e m b) (e b).u (e b).v (e b).why → Supported rs e m n → Supported rs e (put b true m) n
mark-supported {rs} {e} {m} {n} b g s a l t = go (ℕ_discrete a b)
  where
    go : Dec (a ≡ b) → Grounds rs (Linked e (put b true m) a) (e a).u (e a).v (e a).why
    go (yes q) = rw q (grounds-more (λ x y. linked-more (mark-old b m)) g)
    go (no q) = grounds-more (λ x y. linked-more (mark-old b m)) (s a l (rw (put-miss b true m a q) at t))

module _ {rs : List Rec} {e : ℕ → Join} {n : ℕ} where
  pub walk_same : {m : ℕ → Bool} (b s : ℕ) → Supported rs e m n → Walked rs e n m m b s s
  walk_same b s h = record { more = λ a t. t; supported = h; linked = linked-refl b s }

  pub walk-flip : {m m' : ℕ → Bool} {b s t : ℕ} → Walked rs e n m m' b s t → Walked rs e n m m' b t s
  walk-flip w = record { more = w.more; supported = w.supported; linked = linked-sym w.linked }

  -- The join of an equation.
  pub walk-by : {m m₁ m₂ : ℕ → Bool} {s t k : ℕ} (b c : ℕ) → b < c → (e b).why ≡ by k → At rs k (eq (e b).u (e b).v)
      → Walked rs e n m m₁ b s (e b).u → Walked rs e n m₁ m₂ b (e b).v t → Walked rs e n m (put b true m₂) c s t
  walk-by {m₂ = m₂} b c l w i x y = record {
    more = λ a t. mark-old b m₂ a (y.more a (x.more a t));
    supported = mark-supported b (rw w (equation i)) y.supported;
    linked = linked_up c l (over (rw (put-hit b true m₂) tt) (linked-more (λ a t. mark-old b m₂ a (y.more a t)) x.linked) (linked-more (mark-old b m₂) y.linked));
  }

  -- The join of two applications: its arguments were followed besides.
  pub walk-cong : {m m₁ m₂ m₃ m₄ : ℕ → Bool} {s t k k' x x' y y' : ℕ} (b c : ℕ) → b < c → (e b).why ≡ cong k k' → At rs k (app x y (e b).u) → At rs k' (app x' y' (e b).v)
      → Walked rs e n m m₁ b s (e b).u → Walked rs e n m₁ m₂ b (e b).v t → Walked rs e n m₂ m₃ b x x' → Walked rs e n m₃ m₄ b y y' → Walked rs e n m (put b true m₄) c s t
  walk-cong {m₂ = m₂} {m₄ = m₄} b c l w i i' p q r r' = record {
    more = λ a t. mark-old b m₄ a (late a (q.more a (p.more a t)));
    supported = mark-supported b (rw w (applications i i' (linked-more r'.more r.linked) r'.linked)) r'.supported;
    linked = linked_up c l (over (rw (put-hit b true m₄) tt) (linked-more (λ a t. mark-old b m₄ a (late a (q.more a t))) p.linked) (linked-more (λ a t. mark-old b m₄ a (late a t)) q.linked));
  }
    where
      late : (a : ℕ) → T (m₂ a) → T (m₄ a)
      late a t = r'.more a (r.more a t)
