-- The loop of `load`: each turn puts one record into the columns at a number of its own, so that those before it stay. A tag is no
-- 65,535, so that an application is read back as one.
-- Assumes nothing.
use Prim.Native.Nat.{ℕ, zero, suc, ◌+◌, ◌≤◌, ◌<◌}
use native.Mathlib.Omega.{arith}
use mathlib.Core.Path.{◌≡◌, refl, ◌∙◌, ap}
use mathlib.Core.Logic.{◌≢◌}
use mathlib.Core.Bool.{Bool, true, false, cond}
use mathlib.Core.List.{List, [], ◌∷◌, ◌++◌}
use lib.Dec.{eqb}
use borrow.Author.Tests.{eq-eqb, ne_eqb}
use lib.ListN.{length, get_or, set, length-set}
use Rattle.meaning.specs.Following.{Rec, eq, app}
use Rattle.meaning.proofs.Reference.{Small}
use Rattle.meaning.specs.Limits.{most_records, most_tags}
use Rattle.records.specs.declared.Record.{Record}
use Rattle.records.specs.Table.{blank, rec_of}
use Rattle.table.specs.Map.{rec_at, records_in, Within}
use Rattle.table.proofs.Frame.{within-refl, within-trans, gather-same}
use Rattle.table.proofs.Columns.{stored-within, record-other, record-here}
use Rattle.table.specs.Places.{EQUATION, Large, RESULT, RIGHT, columns_part}
use Rattle.records_fill.specs.Loading.{held, carry, Loadable, Carried}

-- What the two arms of `load_one` leave is `carry`.
pub carry-equation : (w : List ℕ) (i : ℕ) (p : Record) → p.kind ≡ 1 → set (set (set w (i + 1) p.a.0) (RIGHT.at + (i + 1)) p.b.0) (RESULT.at + (i + 1)) EQUATION ≡ carry w i p
carry-equation w i p e = rw (eq-eqb p.kind 1 e)

pub carry-application : (w : List ℕ) (i : ℕ) (p : Record) → (p.kind ≡ 1 → ⊥) → set (set (set w (i + 1) p.a.0) (RIGHT.at + (i + 1)) p.b.0) (RESULT.at + (i + 1)) p.c.0 ≡ carry w i p
carry-application w i p e = rw (ne_eqb p.kind 1 e)

-- The work table after i turns.
abbrev pub loads : List Record → ℕ → List ℕ → List ℕ
loads t zero w = w
loads t (suc i) w = carry (loads t i w) i (get_or t i blank)

module _ (w : List ℕ) (i : ℕ) (p : Record) where
  abbrev w₁ : List ℕ
  w₁ = set w (i + 1) p.a.0

  abbrev w₂ : List ℕ
  w₂ = set w₁ (RIGHT.at + (i + 1)) p.b.0

  abbrev res : ℕ
  res = cond (eqb p.kind 1) EQUATION p.c.0

  pub length-carry : length (carry w i p) ≡ length w
  length-carry = length-set w₂ (RESULT.at + (i + 1)) res ∙ length-set w₁ (RIGHT.at + (i + 1)) p.b.0 ∙ length-set w (i + 1) p.a.0

  module _ (long : Large w) (few : i < most_records) where
    -- Another record stays.
    carry-other : (k : ℕ) → k ≢ i + 1 → rec_at (carry w i p) k ≡ rec_at w k
    carry-other k q = record-other w (i + 1) p.a.0 p.b.0 res (omega arith) long k q

    -- Its own is the one that the place means.
    carry_own : Small most_tags (rec_of p) → rec_at (carry w i p) (i + 1) ≡ rec_of p
    carry_own s = record-here w (i + 1) p.a.0 p.b.0 res (omega arith) long ∙ go (eqb p.kind 1) s
      where
        go : (b : Bool) → Small most_tags (cond b (eq p.a.0 p.b.0) (app p.a.0 p.b.0 p.c.0))
            → cond (eqb (cond b EQUATION p.c.0) EQUATION) (eq p.a.0 p.b.0) (app p.a.0 p.b.0 (cond b EQUATION p.c.0)) ≡ cond b (eq p.a.0 p.b.0) (app p.a.0 p.b.0 p.c.0)
        go true s = refl
        go false s = rw (ne_eqb p.c.0 EQUATION (λ e. omega (arith, s.2)))

    carry-within : Within columns_part w (carry w i p)
    carry-within = stored-within w (i + 1) p.a.0 p.b.0 res (omega arith)

module _ (n : ℕ) (t : List Record) (w : List ℕ) where
  pub length-loads : (i : ℕ) → length (loads t i w) ≡ length w
  length-loads zero = refl
  length-loads (suc i) = length-carry (loads t i w) i (get_or t i blank) ∙ length-loads i

  module _ (h : Loadable n t w) where
    loaded : (i : ℕ) → i ≤ n → Carried i t w (loads t i w)
    loaded zero l = record { frame = within-refl w; same = refl }
    loaded (suc i) l =
        let c : Carried i t w (loads t i w) = loaded i (omega arith) in
        let u : Large (loads t i w) = omega (arith, length-loads i, h.long) in
        let few : i < most_records = omega (arith, h.most) in
        let one : suc i ≡ i + 1 = omega arith in
        let own : rec_at (loads t (suc i) w) (suc i) ≡ rec_of (get_or t i blank) = rw one (carry_own (loads t i w) i (get_or t i blank) u few (h.small i l)) in
        let before : records_in i (loads t (suc i) w) ≡ records_in i (loads t i w) = gather-same _ _ i (λ k b. carry-other (loads t i w) i (get_or t i blank) u few (suc k) (λ e. omega arith)) in
        record {
          frame = within-trans c.frame (carry-within (loads t i w) i (get_or t i blank) u few);
          same = ap (λ (l : List Rec). l ++ (rec_at (loads t (suc i) w) (suc i) ∷ [])) (before ∙ c.same) ∙ ap (λ (r : Rec). held i t ++ (r ∷ [])) own;
        }

    pub loads-carried : Carried n t w (loads t n w)
    loads-carried = loaded n (omega arith)
