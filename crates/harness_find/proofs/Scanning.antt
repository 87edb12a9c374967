-- A level, record by record, and the table before the first. Assumes nothing.
use Prim.Native.Nat.{ℕ, suc, ◌+◌, ◌≤◌, ◌<◌}
use native.Mathlib.Omega.{arith}
use native.Mathlib.Decide.{dec_le, dec_lt}
use native.Mathlib.Numerals.{add-one}
use mathlib.Core.Path.{◌≡◌, sym, ◌∙◌, fun_ext}
use mathlib.Core.Logic.{inl, inr}
use mathlib.Core.List.{List, ◌++◌}
use lib.ListN.{length, take, drop}
use Rattle.meaning.specs.Limits.{most_tags}
use Rattle.table.specs.Map.{left_of, right_of, Within}
use Rattle.table.specs.Places.{PARENT, Part, Large, from_to}
use Rattle.table_labels.specs.Parts.{Fills}
use Rattle.table_labels.proofs.Views.{lent-within, lent_at}
use Rattle.table.proofs.Frame.{seen_at, seen-past, within-refl, within-trans, within_wider}
use Rattle.table.proofs.Kept.{lefts, rights}
use Rattle.harness_meaning.specs.Search.{Ends, forth, back, During, Levels}
use Rattle.harness_meaning.specs.Search as search
use Rattle.harness_meaning.proofs.Offers.{With}
use Rattle.harness_meaning.proofs.Found.{during-said, level-begins, level-ends}
use Rattle.harness_table.specs.Levels.{LEVELS, unfound, found_part, lev_in, last_in}
use Rattle.harness_find.specs.Table.{Trial, Offered, Scanned, Trying, Went, Done, Rising, Risen, Blank}
use Rattle.harness_find.proofs.Trying.{offered-during}

-- The columns are as they were.
pub same-lefts : {p : Part} {w w' : List ℕ} → PARENT.at ≤ p.from → Within p w w' → left_of w' ≡ left_of w
same-lefts {p} l f = lefts (within_wider (from_to PARENT.at p.upto) l (omega arith) f)

pub same-rights : {p : Part} {w w' : List ℕ} → PARENT.at ≤ p.from → Within p w w' → right_of w' ≡ right_of w
same-rights {p} l f = rights (within_wider (from_to PARENT.at p.upto) l (omega arith) f)

pub tags-same : {p : Part} {R : ℕ} {w w' : List ℕ} → PARENT.at ≤ p.from → Within p w w' → ((j : ℕ) → search.Within R j → (left_of w j < most_tags) × (right_of w j < most_tags))
    → (j : ℕ) → search.Within R j → (left_of w' j < most_tags) × (right_of w' j < most_tags)
tags-same l f h j i = rw (same-lefts l f, same-rights l f) (h j i)

-- What is known while records are tried is enough to try one.
pub scanned-trial : {w : List ℕ} {R s d k : ℕ} → Scanned w R s d k → Trial w d
scanned-trial {R = R} {s = s} h = record { before = R; from = s; long = h.long; few = h.few; during = during-said (λ j u v w e i. absurd i) h.during }

pub tags-small : {w : List ℕ} {R s d k r a b : ℕ} → r ≡ k + 1 → a ≡ left_of w r → b ≡ right_of w r → k < R → Scanned w R s d k → (a < most_tags) × (b < most_tags)
tags-small {r = r} e ea eb l h = rw (ea, eb) (h.tags r (omega arith, omega arith))

-- Record k + 1, in both directions.
module _ {w w₁ : List ℕ} {d k r a b : ℕ} (e : r ≡ k + 1) (ea : a ≡ left_of w r) (eb : b ≡ right_of w r) (o : Offered w w₁ d r a b) where
  next-in : {R : ℕ} → k < R → search.Within R r
  next-in l = (omega arith, omega arith)

  first-during : {R s : ℕ} → k < R → Scanned w R s d k → During (left_of w₁) (right_of w₁) R s d unfound (With (λ j v. j ≤ k) r b) (lev_in w₁) (last_in w₁)
  first-during l h = offered-during (next-in l) (forth ea eb) o h.during

  pub second-trial : {R s : ℕ} → k < R → Scanned w R s d k → Trial w₁ d
  second-trial {R} {s} l h = record { before = R; from = s; long = omega (arith, o.kept.size, h.long); few = h.few; during = during-said (λ j u v w e i. absurd i) (first-during l h) }

  pub record-tried : {w₂ : List ℕ} → Offered w₁ w₂ d r b a → Went w w₂ d k
  record-tried {w₂} p = record {
    kept = within-trans o.kept p.kept;
    on = λ R s l h. record {
      long = omega (arith, o.kept.size, p.kept.size, h.long);
      few = h.few;
      tags = tags-same (omega arith) (within-trans o.kept p.kept) h.tags;
      during = during-said (λ j u v w g i. said j u v g i (dec_le j k)) (offered-during (next-in l) (back (rw (same-rights (omega arith) o.kept) eb) (rw (same-lefts (omega arith) o.kept) ea)) p (first-during l h));
    };
  }
    where
      said : (j u v : ℕ) → Ends (left_of w₂) (right_of w₂) j u v → j ≤ suc k → Dec (j ≤ k) → With (With (λ j v. j ≤ k) r b) r a j v
      said j u v g i (yes l) = inl (inl l)
      said j u v (forth x y) i (no l) = let q : j ≡ r = omega arith in inl (inr (q, y ∙ (rw (q, same-rights (omega arith) (within-trans o.kept p.kept)) (sym eb))))
      said j u v (back x y) i (no l) = let q : j ≡ r = omega arith in inr (q, y ∙ (rw (q, same-lefts (omega arith) (within-trans o.kept p.kept)) (sym ea)))

-- A level, so far.
pub record Sweeping (w w' : List ℕ) (R d k : ℕ) : Type 0 where
  pub few : k ≤ R
  pub kept : Within found_part w w'
  pub on : (s : ℕ) → Done w R s d → Scanned w' R s d k

pub sweep-start : {w : List ℕ} {R d : ℕ} → suc d < unfound → Sweeping w w R d 0
sweep-start {w} l = record {
  few = omega arith;
  kept = within-refl w;
  on = λ s h. record { long = h.long; few = h.few; tags = h.tags; during = during-said (λ j u v w e i. omega (arith, w.0)) (level-begins h.levels l) };
}

pub sweep-trying : {w w' : List ℕ} {R d k : ℕ} → Rising w R d → Sweeping w w' R d k → k < R → Trying w' d k
sweep-trying {R = R} h g l = record { before = R; from = h.from; scanned = g.on h.from h.done; next = l }

pub sweep-on : {w w' w'' : List ℕ} {R d k : ℕ} → Sweeping w w' R d k → k < R → Went w' w'' d k → Sweeping w w'' R d (k + 1)
sweep-on {R = R} {d = d} {k = k} g l h = rw add-one (record { few = l; kept = within-trans g.kept h.kept; on = λ s f. h.on R s l (g.on s f) })

pub sweep-end : {w w' : List ℕ} {R d k : ℕ} → Sweeping w w' R d k → R ≤ k → Risen w w' R d
sweep-end {R = R} g l = record {
  kept = g.kept;
  on = λ s f. let h = g.on s f in record { long = h.long; few = h.few; tags = h.tags; levels = level-ends h.during (λ k u v i e q. omega (arith, i.1)) };
}

-- Levels cleared.
pub blanked : (w w' v : List ℕ) → Large w → length v ≡ length (take most_tags (drop LEVELS.at w)) → w' ≡ take LEVELS.at w ++ (v ++ drop most_tags (drop LEVELS.at w)) → Fills v unfound → Blank w w' most_tags
blanked w w' v long s e h = record {
  kept = within_wider found_part (omega arith) (omega arith) (lent-within LEVELS.at most_tags w w' v (omega arith) s e);
  none = λ x l. seen_at LEVELS w' x l ∙ lent_at LEVELS.at most_tags w w' v (omega arith) s e (λ i. unfound) h x l;
}

pub blank-all : {w w' : List ℕ} → Blank w w' most_tags → lev_in w' ≡ λ x. unfound
blank-all {w} {w'} h = fun_ext (λ x. go x (dec_lt x most_tags))
  where
    go : (x : ℕ) → Dec (x < most_tags) → lev_in w' x ≡ unfound
    go x (yes l) = h.none x l
    go x (no l) = seen-past LEVELS w' x (omega arith)
