-- A row goes by each of its places once, so a change at a place that it does not go by leaves it as it was: one that begins to wait is put first, the first is taken out,
-- and the others stand as they stood. Assumes nothing.
use Prim.Native.Nat.{ℕ, suc, ◌≤◌, ◌<◌}
use native.Mathlib.Omega.{arith}
use native.Mathlib.Decide.{ℕ_discrete}
use mathlib.Core.Path.{◌≡◌, refl, sym, ◌∙◌}
use mathlib.Core.Logic.{◌≢◌, inl, inr}
use mathlib.Core.Bool.{Bool, true, false}
use mathlib.Core.List.Memᴰ
use mathlib.Core.List.{List, [], ◌∷◌, Memᴰ}
use lib.Dec.{eqb}
use borrow.Author.Tests.{eq-eqb, ne_eqb}
use Rattle.meaning.specs.Joins.{put}
use Rattle.meaning.proofs.Log.{put-hit, put-miss}
use Rattle.meaning.proofs.Count.{count_low}
use Rattle.meaning.proofs.Relabel.{count-less-one}
use Rattle.all_index.specs.Waiting.{Row, end, step, Queue, waiting}

by-same : {C : Type 0} (a b : ℕ) → (a ≡ b → C) → (a ≢ b → C) → C
by-same a b f g = elim (ℕ_discrete a b) [ yes e ↦ f e | no n ↦ g n ]

by_zero : {C : Type 0} (a : ℕ) → (a ≡ 0 → C) → (0 < a → C) → C
by_zero a f g = elim (ℕ_discrete a 0) [ yes e ↦ f e | no n ↦ g (omega arith) ]

clash : {A : Type 0} {b : Bool} → b ≡ true → b ≡ false → A
clash e h = let z : true ≡ false = sym e ∙ h in let y : ◌≡◌ {A = ℕ} 0 1 = cc in absurd (omega arith)

-- Numbers that agree at all places of a row: it is one row.
row_at : {nx nx' : ℕ → ℕ} {p p' : ℕ} {l : List ℕ} → p ≡ p' → ((r : ℕ) → Memᴰ r l → nx r ≡ nx' r) → Row nx p l → Row nx' p' l
row_at z en end = rw (← z) end
row_at z en (step {r = r} o n) = rw (← z) (step (row_at (en r (Memᴰ.head refl)) (λ s m. en s (Memᴰ.tail m)) o) n)

row-along : {nx nx' : ℕ → ℕ} {p : ℕ} {l : List ℕ} → ((r : ℕ) → Memᴰ r l → nx r ≡ nx' r) → Row nx p l → Row nx' p l
row-along = row_at refl

-- What a row from 0 goes by, and one from a place.
row-empty : {nx : ℕ → ℕ} {l : List ℕ} → Row nx 0 l → l ≡ []
row-empty end = refl

row_first : {nx : ℕ → ℕ} {j : ℕ} {l : List ℕ} → Row nx (suc j) l → (m : List ℕ) × (l ≡ j ∷ m) × Row nx (nx j) m × (Memᴰ j m → ⊥)
row_first (step {l = m} o n) = (m, refl, o, n)

pub queue-none : {i : ℕ} {eqn : ℕ → Bool} {ch wt : ℕ → ℕ} → ((j : ℕ) → j < i → eqn j ≡ false → 0 < ch j) → Queue i eqn ch wt 0
queue-none h = record {
  members = [];
  row = end;
  all = λ j l e z. (let g = h j l e in absurd (omega (arith, z)));
  only = λ j m. absurd (Memᴰ.not-nil m);
}

module _ {i : ℕ} {eqn : ℕ → Bool} {ch wt : ℕ → ℕ} where
  pub queue-empty : Queue i eqn ch wt 0 → (j : ℕ) → j < i → eqn j ≡ false → 0 < ch j
  queue-empty Q j l e = by_zero (ch j) (λ z. absurd (Memᴰ.not-nil (rw (row-empty Q.row) at (Q.all j l e z)))) (λ h. h)

  pub queue-head : (j : ℕ) → Queue i eqn ch wt (suc j) → (j < i) × (eqn j ≡ false) × (ch j ≡ 0)
  queue-head j Q = let f = row_first Q.row in Q.only j (rw f.1 (Memᴰ.head refl))

  -- One begins to wait: it is put first.
  pub queue-push : {first : ℕ} → Queue i eqn ch wt first → (j : ℕ) → j < i → eqn j ≡ false → 0 < ch j → (ch' wt' : ℕ → ℕ) → ch' j ≡ 0 → wt' j ≡ first
      → ((r : ℕ) → ch r ≡ 0 → (ch' r ≡ 0) × (wt' r ≡ wt r)) → ((r : ℕ) → r ≢ j → 0 < ch r → 0 < ch' r) → Queue i eqn ch' wt' (suc j)
  queue-push Q j l e h ch' wt' z w old new = record {
    members = j ∷ Q.members;
    row = step (row_at (sym w) (λ r m. sym (old r (Q.only r m).2).1) Q.row) (λ m. let y = (Q.only j m).2 in omega (arith, h));
    all = λ k d f y. by-same k j
        (λ s. Memᴰ.head s)
        (λ n. Memᴰ.tail (by_zero (ch k) (λ x. Q.all k d f x) (λ g. let c = new k n g in absurd (omega (arith, y)))));
    only = λ k m. elim (Memᴰ.cases_cons m) [
      | inl s ↦ (rw s l, rw s e, rw s z)
      | inr t ↦ (let f = Q.only k t in (f.0, f.1, (old k f.2).0))
    ];
  }

  -- The first waits no longer.
  pub queue-pop : (j : ℕ) → Queue i eqn ch wt (suc j) → (ch' wt' : ℕ → ℕ) → 0 < ch' j → ((r : ℕ) → r ≢ j → ch r ≡ 0 → (ch' r ≡ 0) × (wt' r ≡ wt r))
      → ((r : ℕ) → 0 < ch r → 0 < ch' r) → Queue i eqn ch' wt' (wt j)
  queue-pop j Q ch' wt' h old new = record {
    members = rest;
    row = row-along (λ r m. sym (old r (other r m) (Q.only r (inner r m)).2).1) first.2;
    all = λ k d f y. by_zero (ch k)
        (λ x. elim (Memᴰ.cases_cons (rw first.1 at (Q.all k d f x))) [
          | inl s ↦ (let c : ch' j ≡ 0 = rw s at y in absurd (omega (arith, h)))
          | inr t ↦ t
        ])
        (λ g. let c = new k g in absurd (omega (arith, y)));
    only = λ k m. let f = Q.only k (inner k m) in (f.0, f.1, (old k (other k m) f.2).0);
  }
    where
      first : (m : List ℕ) × (Q.members ≡ j ∷ m) × Row wt (wt j) m × (Memᴰ j m → ⊥)
      first = row_first Q.row

      rest : List ℕ
      rest = first.0

      other : (r : ℕ) → Memᴰ r rest → r ≢ j
      other r m e = first.3 (Memᴰ.cast (sym e) m)

      inner : (r : ℕ) → Memᴰ r rest → Memᴰ r Q.members
      inner r m = rw first.1 (Memᴰ.tail m)

  -- Place i comes in: it is an equation, or it waits. What is below i is as it was.
  pub queue-more : {first : ℕ} (ch' wt' : ℕ → ℕ) → ((r : ℕ) → r < i → (ch' r ≡ ch r) × (wt' r ≡ wt r)) → eqn i ≡ true → Queue i eqn ch wt first → Queue (suc i) eqn ch' wt' first
  queue-more ch' wt' same q Q = record {
    members = Q.members;
    row = row-along (λ r m. sym (same r (Q.only r m).0).1) Q.row;
    all = λ j l e z. by-same j i
        (λ s. clash q (rw s at e))
        (λ n. let d : j < i = omega arith in Q.all j d e (sym (same j d).0 ∙ z));
    only = λ j m. let f = Q.only j m in (omega (arith, f.0), f.1, (same j f.0).0 ∙ f.2);
  }

  pub queue-more-app : {first : ℕ} (ch' wt' : ℕ → ℕ) → ((r : ℕ) → r < i → (ch' r ≡ ch r) × (wt' r ≡ wt r)) → eqn i ≡ false → ch' i ≡ 0 → wt' i ≡ first
      → Queue i eqn ch wt first → Queue (suc i) eqn ch' wt' (suc i)
  queue-more-app ch' wt' same e h w Q = record {
    members = i ∷ Q.members;
    row = step (row_at (sym w) (λ r m. sym (same r (Q.only r m).0).1) Q.row) (λ m. let d = (Q.only i m).0 in omega arith);
    all = λ j l f z. by-same j i
        (λ s. Memᴰ.head s)
        (λ n. let d : j < i = omega arith in Memᴰ.tail (Q.all j d f (sym (same j d).0 ∙ z)));
    only = λ j m. elim (Memᴰ.cases_cons m) [
      | inl s ↦ (rw s (omega arith), rw s e, rw s h)
      | inr t ↦ (let f = Q.only j t in (omega (arith, f.0), f.1, (same j f.0).0 ∙ f.2))
    ];
  }

  -- .. as where it is put at place i.
  pub queue-put-app : (first : ℕ) → eqn i ≡ false → Queue i eqn ch wt first → Queue (suc i) eqn (put i 0 ch) (put i first wt) (suc i)
  queue-put-app first e = queue-more-app (put i 0 ch) (put i first wt) (λ r l. (put-miss i 0 ch r (omega arith), put-miss i first wt r (omega arith))) e (put-hit i 0 ch) (put-hit i first wt)

-- How many wait.
pub waiting-low : (i : ℕ) (ch : ℕ → ℕ) → waiting i ch ≤ i
waiting-low i ch = count_low (λ j. eqb (ch j) 0) i

pub waiting-one : (i j : ℕ) (ch ch' : ℕ → ℕ) → j < i → ch j ≡ 0 → 0 < ch' j → ((r : ℕ) → r ≢ j → (ch r ≡ 0 → ch' r ≡ 0) × (0 < ch r → 0 < ch' r))
    → waiting i ch ≡ suc (waiting i ch')
waiting-one i j ch ch' l z h same =
    count-less-one (λ r. eqb (ch r) 0) (λ r. eqb (ch' r) 0) j (eq-eqb (ch j) 0 z) (ne_eqb (ch' j) 0 (omega (arith, h)))
    (λ r n. by_zero (ch r)
    (λ y. eq-eqb (ch r) 0 y ∙ sym (eq-eqb (ch' r) 0 ((same r n).0 y)))
    (λ g. let c = (same r n).1 g in ne_eqb (ch r) 0 (omega arith) ∙ sym (ne_eqb (ch' r) 0 (omega arith)))) i l

pub waiting-less : (i j : ℕ) (ch ch' : ℕ → ℕ) → j < i → ch j ≡ 0 → 0 < ch' j → ((r : ℕ) → r ≢ j → (ch r ≡ 0 → ch' r ≡ 0) × (0 < ch r → 0 < ch' r))
    → waiting i ch' < waiting i ch
waiting-less i j ch ch' l z h same = let e = waiting-one i j ch ch' l z h same in omega arith
