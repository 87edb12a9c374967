-- The loop of `fill`: the places below i hold the records below i, and the cursor stands where the records from i on stand ahead. Each
-- turn finds the next one and stores it.
-- Assumes nothing.
use Prim.Native.Nat.{ℕ, zero, suc, ◌≤◌, ◌<◌}
use native.Mathlib.Nat.{not-suc-le-zero}
use native.Mathlib.Omega.{arith}
use native.Mathlib.Decide.{ℕ_discrete}
use mathlib.Core.Path.{◌≡◌, refl, sym, ◌∙◌, ap}
use mathlib.Core.List.{List, [], ◌∷◌}
use lib.ListN.{length, get_or, set, drop, length-set}
use lib.Seq.{drop-cons, get_or-set_same, get_or-set_other}
use Rattle.meaning.specs.Following.{Rec, eq}
use Rattle.job_field.specs.Items.{Head, Item, accepted, line, differ, noted, posed, records_of, sheets_of}
use Rattle.job_field.specs.Reading.{reading}
use Rattle.job_field.proofs.Standing.{accepted-stands}
use Rattle.records.specs.declared.Record.{Record}
use Rattle.records.specs.Table.{blank, place_of}
use Rattle.records_fill.specs.declared.Found.{Found}
use Rattle.records_fill.specs.Seeking.{Ahead as Waiting, begin, First, Seeks}
use Rattle.records_fill.specs.Filling.{Filled}

-- ---- lists
module _ {A : Type 0} where
  drop_more : (i : ℕ) (l : List A) → drop (suc i) l ≡ drop 1 (drop i l)
  drop_more zero l = refl
  drop_more (suc i) [] = refl
  drop_more (suc i) (x ∷ xs) = drop_more i xs

  drop-set : (l : List A) (i : ℕ) (a : A) → drop (suc i) (set l i a) ≡ drop (suc i) l
  drop-set [] i a = refl
  drop-set (x ∷ xs) zero a = refl
  drop-set (x ∷ xs) (suc i) a = drop-set xs i a

  -- Lists that agree from i on agree further on.
  pub drop-further : (i n : ℕ) (l m : List A) → i ≤ n → drop i l ≡ drop i m → drop n l ≡ drop n m
  drop-further i zero l m h e = let z : i ≡ 0 = omega arith in rw z at e
  drop-further i (suc n) l m h e = go (ℕ_discrete i (suc n)) (λ k. drop-further i n l m k e)
    where
      go : Dec (i ≡ suc n) → (i ≤ n → drop n l ≡ drop n m) → drop (suc n) l ≡ drop (suc n) m
      go (yes q) k = rw q at e
      go (no q) k = drop_more n l ∙ ap (drop 1) (k (omega arith)) ∙ sym (drop_more n m)

-- Each record has a sheet.
sheets-many : (is : List Item) → length (sheets_of is) ≡ length (records_of is)
sheets-many [] = refl
sheets-many (noted (line r h) ∷ is) = ap suc (sheets-many is)
sheets-many (noted (differ a b) ∷ is) = sheets-many is
sheets-many (posed q ∷ is) = sheets-many is

-- The cursor stands before the records from i on, and those before them are stored in u.
record Ahead (job : List ℕ) (H : Head) (at i : ℕ) (rs : List Rec) (hs : List ℕ) (u : List Record) : Type 0 where
  others : List Item
  stands : Waiting job H at others
  left : records_of others ≡ drop i rs
  sheets : sheets_of others ≡ drop i hs
  stored : (k : ℕ) → k < i → get_or u k blank ≡ place_of (get_or rs k (eq 0 0)) (get_or hs k 0)

-- The loop's invariant before turn i of n, with the table at u and the cursor at `at`.
pub record Going (job : List ℕ) (n : ℕ) (t : List Record) (i : ℕ) (u : List Record) (at : ℕ) : Type 0 where
  pub size : length u ≡ length t
  rest : drop i u ≡ drop i t
  ahead : (H : Head) (items : List Item) → reading job ≡ accepted H items → n ≤ length (records_of items) → Ahead job H at i (records_of items) (sheets_of items) u

module _ (job : List ℕ) (n : ℕ) (t : List Record) where
  pub going-begin : Going job n t 0 t 0
  going-begin = record { size = refl; rest = refl; ahead = λ H items e h. record { others = items; stands = let j = accepted-stands job H items e in begin j.first j.stands; left = refl; sheets = refl; stored = λ k l. absurd (not-suc-le-zero l) } }

  pub going_on : (i : ℕ) (u : List Record) (at : ℕ) (f : Found) → i < n → n ≤ length t → Going job n t i u at → Seeks job at f → Going job n t (suc i) (set u i f.place) f.next
  going_on i u at f l h g s =
      record {
        size = length-set u i f.place ∙ g.size;
        rest = drop-set u i f.place ∙ drop_more i u ∙ ap (drop 1) g.rest ∙ sym (drop_more i t);
        ahead = λ H items e m. more H (records_of items) (sheets_of items) m (sheets-many items) (g.ahead H items e m);
      }
    where
      more : (H : Head) (rs : List Rec) (hs : List ℕ) → n ≤ length rs → length hs ≡ length rs → Ahead job H at i rs hs u → Ahead job H f.next (suc i) rs hs (set u i f.place)
      more H rs hs m z a =
          let w : First job H (get_or rs i (eq 0 0)) (drop (suc i) rs) (get_or hs i 0) (drop (suc i) hs) f = s H a.others _ _ _ _ a.stands (a.left ∙ drop-cons rs i (eq 0 0) (omega arith)) (a.sheets ∙ drop-cons hs i 0 (omega arith)) in
          record { others = w.others; stands = w.stands; left = w.behind; sheets = w.sheets; stored = λ k b. here w k b (ℕ_discrete k i) }
        where
          here : First job H (get_or rs i (eq 0 0)) (drop (suc i) rs) (get_or hs i 0) (drop (suc i) hs) f → (k : ℕ) → k < suc i → Dec (k ≡ i) → get_or (set u i f.place) k blank ≡ place_of (get_or rs k (eq 0 0)) (get_or hs k 0)
          here w k b (yes q) = rw q (get_or-set_same u i f.place blank (omega (arith, g.size)) ∙ w.is)
          here w k b (no q) = get_or-set_other u i k f.place blank q ∙ a.stored k (omega arith)

  pub going_done : (u : List Record) (at : ℕ) → Going job n t n u at → Filled job n t u
  going_done u at g = record { size = g.size; rest = g.rest; holds = λ H items e h. (g.ahead H items e h).stored }
