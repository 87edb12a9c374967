-- The walk: what stands ahead has the sheets of the records that are not passed, and the record at the next place of the list is one of these. So the field that
-- brings the count of records up to its number is its own. Assumes nothing.
use Prim.Native.Nat.{ℕ, zero, suc, ◌+◌, ◌-◌, ◌≤◌, ◌<◌}
use native.Mathlib.Omega.{arith}
use native.Mathlib.Numerals.{add-one}
use native.Mathlib.Decide.{ℕ_discrete}
use mathlib.Core.Path.{◌≡◌, refl, sym, ◌∙◌, ap, subst}
use mathlib.Core.Logic.{◌↔◌, ◌⊎◌, inl, inr}
use mathlib.Core.Bool.{Bool, true}
use mathlib.Core.List.Memᴰ
use mathlib.Core.List.{List, [], ◌∷◌, ◌++◌, append-nil, append_assoc, Memᴰ}
use lib.Dec.{T}
use borrow.Author.Tests.{leb-true}
use lib.ListN.{length, get_or, length-append}
use lib.Seq.{get_or-append_seam}
use Rattle.meaning.specs.Limits.{most_records, most_sheet}
use Rattle.meaning.specs.Reasons.{Above, last_of}
use Rattle.meaning.proofs.Trim.{member-le-last}
use Rattle.job_field.specs.Items.{line, differ, Item, noted, posed, records_of, sheets_of}
use Rattle.job_field.specs.Reading.{Field, item, filed, field_standing, behind_at, head_in, items_in}
use Rattle.job_field.specs.Standing.{Stands, ends, next}
use Rattle.job_field.proofs.Standing.{stands-within}
use Rattle.table.specs.Map.{gather, list_of, Within}
use Rattle.table.proofs.Frame.{seen-within, gather-in, within-refl, within-trans}
use Rattle.table.specs.Places.{LIST, filed_part}
use Rattle.sheets_find.specs.Filing.{is_filed, top_sheet, Added}
use Rattle.sheets_walk.specs.Walk.{sheets_at, first_sheet, listed_sheets, Listed, Meeting, Turn, further, here, Gathered, Clear}

-- A record has one sheet.
pub sheets-count : (is : List Item) → length (sheets_of is) ≡ length (records_of is)
sheets-count [] = refl
sheets-count (noted (line r h) ∷ is) = ap (λ (n : ℕ). suc n) (sheets-count is)
sheets-count (noted (differ a b) ∷ is) = sheets-count is
sheets-count (posed q ∷ is) = sheets-count is

sheets-cons : (i : Item) (is : List Item) → sheets_of (i ∷ is) ≡ sheets_at (item i) ++ sheets_of is
sheets-cons (noted n) is = refl
sheets-cons (posed q) is = refl

sheet-low : (i : Item) → filed (item i) ≡ true → first_sheet (sheets_at (item i)) ≤ most_sheet
sheet-low (noted (line r h)) e = leb-true h most_sheet e
sheet-low (noted (differ a b)) e = omega arith
sheet-low (posed q) e = omega arith

-- The numbers of a rising list, by their places.
above-unsnoc : (m : ℕ) (L : List ℕ) (k : ℕ) → Above m (L ++ (k ∷ [])) → Above m L × (last_of m L < k)
above-unsnoc m [] k a = (tt, a.0)
above-unsnoc m (x ∷ L) k a = let r = above-unsnoc x L k a.1 in ((a.0, r.0), r.1)

rising-front : (f : ℕ → ℕ) (n : ℕ) → Above 0 (gather f n) → (j : ℕ) → j < n → Above 0 (gather f j) × (last_of 0 (gather f j) < f j)
rising-front f zero a j l = absurd (omega arith)
rising-front f (suc n) a j l = go (rising-front f n) (above-unsnoc 0 (gather f n) (f n) a) (ℕ_discrete j n)
  where
    go : (Above 0 (gather f n) → (i : ℕ) → i < n → Above 0 (gather f i) × (last_of 0 (gather f i) < f i)) → Above 0 (gather f n) × (last_of 0 (gather f n) < f n) → Dec (j ≡ n) → Above 0 (gather f j) × (last_of 0 (gather f j) < f j)
    go h r (yes q) = rw q r
    go h r (no q) = h r.0 j (omega arith)

pub rising-pair : (f : ℕ → ℕ) (n : ℕ) → Above 0 (gather f n) → (i j : ℕ) → i < j → j < n → f i < f j
rising-pair f n a i j l k =
    let r = rising-front f n a j k in
    omega (arith, r.1, member-le-last 0 (gather f j) r.0 (f i) (gather-in f j i l))

-- From a place on stand the items that are left; so many records are passed, and the sheets of the list's first i records are filed.
pub record Walking (job w₀ : List ℕ) (count : ℕ) (w : List ℕ) (at passed i : ℕ) : Type 0 where
  pub rest : List Item
  pub stands : Stands job (head_in job).size at rest
  pub done : List ℕ
  pub all : sheets_of (items_in job) ≡ done ++ sheets_of rest
  pub counted : length done ≡ passed
  pub kept : Within filed_part w₀ w
  pub most : i ≤ count
  pub ahead : (j : ℕ) → i ≤ j → j < count → passed < list_of w₀ j
  pub low : (h : ℕ) → Memᴰ h (listed_sheets (sheets_of (items_in job)) w₀ i) → h ≤ most_sheet
  pub same : (h : ℕ) → 1 ≤ h → h ≤ top_sheet → T (is_filed w h) ↔ Memᴰ h (listed_sheets (sheets_of (items_in job)) w₀ i)

listed-some : (f : ℕ → ℕ) (n : ℕ) → Above 0 (gather f n) → (j : ℕ) → j < n → 0 < f j
listed-some f n a j l = omega (arith, (rising-front f n a j l).1)

pub walking-begin : {job w : List ℕ} {count at : ℕ} → Listed job w count → Clear w → at ≡ behind_at job 0 → Walking job w count w at 0 0
walking-begin {job} {w} {count} {at} d z e = record {
  rest = items_in job;
  stands = rw e d.stands.stands;
  done = [];
  all = refl;
  counted = refl;
  kept = within-refl w;
  most = omega arith;
  ahead = λ j a b. listed-some (list_of w) count d.rising j b;
  low = λ h m. absurd (Memᴰ.not-nil m);
  same = λ h a b. (λ t. absurd (subst (λ (x : Bool). T x) (z.none h a b) t), λ m. absurd (Memᴰ.not-nil m));
}

module _ {job w₀ : List ℕ} {count : ℕ} {w : List ℕ} {at passed i : ℕ} (s : Walking job w₀ count w at passed i) where
  pub walking-within : at + 3 ≤ length job
  walking-within = stands-within job (head_in job).size at s.rest s.stands

  pub walking-closer : (at < behind_at job at) × (behind_at job at ≤ length job)
  walking-closer = go s.rest s.stands
    where
      go : (rest : List Item) → Stands job (head_in job).size at rest → (at < behind_at job at) × (behind_at job at ≤ length job)
      go rest (ends f l) = (omega arith, omega arith)
      go rest (next f t v l st) = (omega arith, l)

  pub walking-few : Listed job w₀ count → passed ≤ most_records
  walking-few d = omega (arith, s.counted, ap (λ (L : List ℕ). length L) s.all, length-append s.done (sheets_of s.rest), sheets-count (items_in job), d.stands.records)

  pub walking-list : list_of w ≡ list_of w₀
  walking-list = seen-within LIST s.kept (inl (omega arith))

  pub walking-low : first_sheet (sheets_at (field_standing job at)) ≤ most_sheet
  walking-low = go s.rest s.stands
    where
      go : (rest : List Item) → Stands job (head_in job).size at rest → first_sheet (sheets_at (field_standing job at)) ≤ most_sheet
      go rest (ends f l) = rw f (omega arith)
      go rest (next {i = it} f t v l st) = rw f (sheet-low it v)

  pub walking-met : Listed job w₀ count → i < count → Meeting (field_standing job at) w passed i
  walking-met d l = record { long = omega (arith, d.long, s.kept.size); few = walking-few d; place = omega (arith, d.few); low = walking-low }

-- A field has one sheet at most.
sheets-few : (it : Item) → length (sheets_at (item it)) ≤ 1
sheets-few (noted (line r h)) = omega arith
sheets-few (noted (differ a b)) = omega arith
sheets-few (posed q) = omega arith

one-sheet : (hs : List ℕ) → length hs ≡ 1 → hs ≡ first_sheet hs ∷ []
one-sheet [] e = absurd (omega arith)
one-sheet (h ∷ []) e = refl
one-sheet (h ∷ x ∷ hs) e = absurd (omega arith)

-- A field is passed.
module _ {job w₀ : List ℕ} {count : ℕ} {w : List ℕ} {at passed i : ℕ} (d : Listed job w₀ count) (l : i < count) (s : Walking job w₀ count w at passed i) where
  later : (it : Item) (j : ℕ) → passed + length (sheets_at (item it)) < list_of w₀ i → i ≤ j → j < count → Dec (j ≡ i) → passed + length (sheets_at (item it)) < list_of w₀ j
  later it j m a b (yes q) = rw q m
  later it j m a b (no q) = omega (arith, m, rising-pair (list_of w₀) count d.rising i j (omega arith) b)

  walking-ended : {A : Type 0} → sheets_of s.rest ≡ [] → A
  walking-ended e = absurd (omega (arith, s.ahead i (omega arith) l, d.there (list_of w₀ i) (gather-in (list_of w₀) count i l), sheets-count (items_in job), ap (λ (L : List ℕ). length L) (s.all ∙ ap (λ (L : List ℕ). s.done ++ L) e ∙ append-nil s.done), s.counted))

  passing : (it : Item) (is : List Item) → sheets_of (items_in job) ≡ s.done ++ sheets_of (it ∷ is) → Stands job (head_in job).size (behind_at job at) is → first_sheet (sheets_at (item it)) ≤ most_sheet
      → (w' : List ℕ) (j : ℕ) → Turn (item it) w passed i w' j → Walking job w₀ count w' (behind_at job at) (passed + length (sheets_at (item it))) j
  passing it is e st v w' j (further m) = record {
    rest = is;
    stands = st;
    done = s.done ++ sheets_at (item it);
    all = e ∙ ap (λ (L : List ℕ). s.done ++ L) (sheets-cons it is) ∙ sym (append_assoc s.done (sheets_at (item it)) (sheets_of is));
    counted = length-append s.done (sheets_at (item it)) ∙ ap (λ (n : ℕ). n + length (sheets_at (item it))) s.counted;
    kept = s.kept;
    most = s.most;
    ahead = λ x a b. later it x (subst (λ (f : ℕ → ℕ). passed + length (sheets_at (item it)) < f i) (walking-list s) m) a b (ℕ_discrete x i);
    low = s.low;
    same = s.same;
  }
  passing it is e st v w' j (here m a) = record {
    rest = is;
    stands = st;
    done = s.done ++ sheets_at (item it);
    all = e ∙ ap (λ (L : List ℕ). s.done ++ L) (sheets-cons it is) ∙ sym (append_assoc s.done (sheets_at (item it)) (sheets_of is));
    counted = length-append s.done (sheets_at (item it)) ∙ ap (λ (n : ℕ). n + length (sheets_at (item it))) s.counted;
    kept = within-trans s.kept a.kept;
    most = omega arith;
    ahead = λ x p q. omega (arith, number, one, rising-pair (list_of w₀) count d.rising i x (omega arith) q);
    low = λ h p. low-at h (Memᴰ.append_cases (listed_sheets (sheets_of (items_in job)) w₀ i) p);
    same = λ h p q. (λ t. into h (s.same h p q) ((a.same h p q).0 t), λ t. (a.same h p q).1 (from h (s.same h p q) (Memᴰ.append_cases (listed_sheets (sheets_of (items_in job)) w₀ i) t)));
  }
    where
      due : list_of w₀ i ≤ passed + length (sheets_at (item it))
      due = subst (λ (f : ℕ → ℕ). f i ≤ passed + length (sheets_at (item it))) (walking-list s) m

      one : length (sheets_at (item it)) ≡ 1
      one = omega (arith, due, sheets-few it, s.ahead i (omega arith) l)

      number : list_of w₀ i ≡ suc passed
      number = omega (arith, due, one, s.ahead i (omega arith) l)

      its : get_or (sheets_of (items_in job)) (list_of w₀ i - 1) 0 ≡ first_sheet (sheets_at (item it))
      its =
          let k : list_of w₀ i - 1 ≡ length s.done = omega (arith, number, s.counted) in
          let f : sheets_of (items_in job) ≡ s.done ++ (first_sheet (sheets_at (item it)) ∷ sheets_of is) = e ∙ ap (λ (L : List ℕ). s.done ++ L) (sheets-cons it is ∙ ap (λ (L : List ℕ). L ++ sheets_of is) (one-sheet (sheets_at (item it)) one)) in
          ap (λ (n : ℕ). get_or (sheets_of (items_in job)) n 0) k ∙ ap (λ (L : List ℕ). get_or L (length s.done) 0) f ∙ get_or-append_seam s.done (first_sheet (sheets_at (item it))) (sheets_of is) 0

      low-at : (h : ℕ) → Memᴰ h (listed_sheets (sheets_of (items_in job)) w₀ i) ⊎ Memᴰ h (get_or (sheets_of (items_in job)) (list_of w₀ i - 1) 0 ∷ []) → h ≤ most_sheet
      low-at h (inl p) = s.low h p
      low-at h (inr p) = omega (arith, v, its, Memᴰ.eq_of_singleton p)

      into : (h : ℕ) → (T (is_filed w h) ↔ Memᴰ h (listed_sheets (sheets_of (items_in job)) w₀ i)) → T (is_filed w h) ⊎ (h ≡ first_sheet (sheets_at (item it))) → Memᴰ h (listed_sheets (sheets_of (items_in job)) w₀ (suc i))
      into h b (inl t) = Memᴰ.append_left (get_or (sheets_of (items_in job)) (list_of w₀ i - 1) 0 ∷ []) (b.0 t)
      into h b (inr q) = Memᴰ.append_right (listed_sheets (sheets_of (items_in job)) w₀ i) (Memᴰ.head (q ∙ sym its))

      from : (h : ℕ) → (T (is_filed w h) ↔ Memᴰ h (listed_sheets (sheets_of (items_in job)) w₀ i)) → Memᴰ h (listed_sheets (sheets_of (items_in job)) w₀ i) ⊎ Memᴰ h (get_or (sheets_of (items_in job)) (list_of w₀ i - 1) 0 ∷ []) → T (is_filed w h) ⊎ (h ≡ first_sheet (sheets_at (item it)))
      from h b (inl p) = inl (b.1 p)
      from h b (inr p) = inr (Memᴰ.eq_of_singleton p ∙ its)

  pub walking_on : (w' : List ℕ) (j : ℕ) → Turn (field_standing job at) w passed i w' j → Walking job w₀ count w' (behind_at job at) (passed + length (sheets_at (field_standing job at))) j
  walking_on w' j t = go s.rest refl s.stands s.all
    where
      go : (rest : List Item) → s.rest ≡ rest → Stands job (head_in job).size at rest → sheets_of (items_in job) ≡ s.done ++ sheets_of rest → Walking job w₀ count w' (behind_at job at) (passed + length (sheets_at (field_standing job at))) j
      go rest q (ends f k) e = walking-ended (ap sheets_of q)
      go rest q (next {i = it} {is = is} f x v k st) e =
          rw f (passing it is e st (sheet-low it v) w' j (subst (λ (g : Field). Turn g w passed i w' j) f t))

pub walking-end : {job w₀ : List ℕ} {count : ℕ} {w : List ℕ} {at passed i : ℕ} → Walking job w₀ count w at passed i → i ≡ count → Gathered job w₀ w count
walking-end s e = rw (← e) (record { kept = s.kept; low = s.low; same = s.same })

-- The two outcomes of a turn, by the numbers that the code compares.
module _ (f : Field) (w : List ℕ) (passed i count due : ℕ) (e : count ≡ length (sheets_at f)) (k : due ≡ list_of w i) where
  pub turn-further : passed + count < due → Turn f w passed i w i
  turn-further l = further (omega (arith, e, k, l))

  pub turn-here : (w' : List ℕ) (h : ℕ) → due ≤ passed + count → h ≡ first_sheet (sheets_at f) → Added w w' h → Turn f w passed i w' (i + 1)
  turn-here w' h l q a = rw add-one (here (omega (arith, e, k, l)) (subst (λ (x : ℕ). Added w w' x) q a))
