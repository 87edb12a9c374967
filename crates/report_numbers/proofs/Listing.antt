-- Reading a reason into the list: the next number comes behind those that are there, which stay as they are. Comparing it with the list:
-- the numbers stand there exactly if each stands at its own place.
-- Assumes nothing.
use Prim.Native.Nat.{ℕ, zero, suc, ◌+◌, ◌*◌, ◌<◌}
use native.Mathlib.Omega.{arith}
use native.Mathlib.Numerals.{add-one}
use native.Mathlib.Decide.{ℕ_discrete}
use mathlib.Core.Path.{◌≡◌, ◌∙◌, ap}
use mathlib.Core.List.{List, [], ◌∷◌, ◌++◌}
use lib.ListN.{set}
use Rattle.meaning.specs.Joins.{put}
use Rattle.meaning.proofs.Log.{put-hit, put-miss}
use Rattle.meaning.specs.Limits.{most_records}
use Rattle.table.specs.Map.{list_of, list_in, gather}
use Rattle.table.proofs.Frame.{seen-in, within-refl, within-trans, within-set, gather-same}
use Rattle.table.specs.Places.{LIST, Large, all_of}
use Rattle.report.specs.Report.{two, numbers}
use Rattle.report_read.specs.Read.{Holds}
use Rattle.report_numbers.specs.Read.{Placed, ListRead}
use Rattle.report.proofs.Bytes.{numbers-append}
use Rattle.report_read.proofs.Read.{holds-none, holds-both, holds-front, holds-behind}
use Rattle.report_numbers.proofs.Written.{length-list}

pub list-read-none : (report : List ℕ) (at : ℕ) (w : List ℕ) → ListRead report at 0 w w
unfolding numbers
list-read-none report at w = record { kept = within-refl w; read = holds-none report at }

-- The list with one more number stored behind its first i.
list-more : (w : List ℕ) (i n : ℕ) → i < most_records → Large w → numbers (list_in (i + 1) (set w (LIST.at + i) n)) ≡ numbers (list_in i w) ++ two n
unfolding numbers two
list-more w i n l k =
    let e : list_of (set w (LIST.at + i) n) ≡ put i n (list_of w) = seen-in LIST w i n l (omega arith) in
    let same : gather (put i n (list_of w)) i ≡ list_in i w = gather-same (put i n (list_of w)) (list_of w) i (λ j m. put-miss i n (list_of w) j (λ q. omega arith)) in
    let last : put i n (list_of w) i ≡ n = put-hit i n (list_of w) in
    rw add-one (ap (λ (f : ℕ → ℕ). numbers (gather f (suc i))) e ∙ ap (λ (L : List ℕ). numbers (L ++ (put i n (list_of w) i ∷ []))) same
    ∙ ap (λ (m : ℕ). numbers (list_in i w ++ (m ∷ []))) last ∙ numbers-append (list_in i w) (n ∷ []))

pub list-read-more : (report : List ℕ) (at i : ℕ) (w₀ w w' : List ℕ) → i < most_records → Large w → ListRead report at i w₀ w → Placed report (at + 2 * i) i w w' → ListRead report at (i + 1) w₀ w'
list-read-more report at i w₀ w w' l k h p = record {
  kept = within-trans h.kept (rw p.stored (within-set (all_of LIST) w (LIST.at + i) p.number (omega arith) (omega arith)));
  read = rw (p.stored, list-more w i p.number l k) (holds-both report at (numbers (list_in i w)) (two p.number) h.read (rw (length-list (list_of w) i) p.stands));
}

-- Numbers by their places, one by one.
pub list-held-none : (report : List ℕ) (at : ℕ) (f : ℕ → ℕ) → Holds report at (numbers (gather f 0))
unfolding numbers
list-held-none report at f = holds-none report at

list-split : (f : ℕ → ℕ) (i : ℕ) → numbers (gather f (i + 1)) ≡ numbers (gather f i) ++ two (f i)
unfolding numbers two
list-split f i = rw add-one (numbers-append (gather f i) (f i ∷ []))

module _ (report : List ℕ) (at : ℕ) (f : ℕ → ℕ) where
  pub list-held-more : (i : ℕ) → Holds report at (numbers (gather f i)) → Holds report (at + 2 * i) (two (f i)) → Holds report at (numbers (gather f (i + 1)))
  list-held-more i h k = rw (list-split f i) (holds-both report at (numbers (gather f i)) (two (f i)) h (rw (length-list f i) k))

  pub list-held-at : (n i : ℕ) → i < n → Holds report at (numbers (gather f n)) → Holds report (at + 2 * i) (two (f i))
  list-held-at zero i l h = absurd (omega arith)
  list-held-at (suc n) i l h = go (list-held-at n i) (ℕ_discrete i n)
    where
      both : Holds report at (numbers (gather f n) ++ two (f n))
      both = let e : n + 1 ≡ suc n = omega arith in rw (← list-split f n, e) h

      go : (i < n → Holds report at (numbers (gather f n)) → Holds report (at + 2 * i) (two (f i))) → Dec (i ≡ n) → Holds report (at + 2 * i) (two (f i))
      go r (yes q) = rw q (rw (length-list f n) at (holds-behind report at (numbers (gather f n)) (two (f n)) both))
      go r (no q) = r (omega arith) (holds-front report at (numbers (gather f n)) (two (f n)) both)
