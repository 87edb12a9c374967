-- An accepted job's records, handed on: what `fill` leaves is what `load` asks for, and what `load` leaves is the job's records in
-- the columns, with tags below N. By the cursor's laws of an accepted job.
-- Assumes nothing.
use Prim.Native.Nat.{ℕ, zero, suc, ◌≤◌, ◌<◌}
use native.Mathlib.Nat.{not-suc-le-zero, le_of_suc-le-suc}
use native.Mathlib.Omega.{arith}
use mathlib.Core.Path.{◌≡◌, refl, sym, ◌∙◌, ap, subst}
use mathlib.Core.Logic.{◌⊎◌, inl, inr}
use mathlib.Core.List.{List, [], ◌∷◌, ◌++◌}
use lib.ListN.{length, get_or}
use Rattle.meaning.specs.Following.{Rec, eq, app}
use Rattle.meaning.proofs.Reference.{Small}
use Rattle.meaning.specs.Limits.{most_records, most_tags}
use Rattle.job_field.specs.Items.{Head, Note, line, differ, stands_for, tags_of_record, Item, noted, posed, accepted, records_of, sheets_of}
use Rattle.job_field.specs.Reading.{behind_at, reading}
use Rattle.job_field.specs.Standing.{Below, Tagged, Stands, next, Job}
use Rattle.job_field.proofs.Standing.{accepted-stands}
use Rattle.records.specs.declared.Record.{Record}
use Rattle.records.specs.Table.{blank, rec_of}
use Rattle.records.proofs.Places.{place-means}
use Rattle.table.specs.Map.{rec_at, records_in, Loaded}
use Rattle.table.proofs.Frame.{length-gather, get_or-gather}
use Rattle.table.specs.Places.{Large}
use Rattle.records_fill.specs.Filling.{Filled}
use Rattle.records_fill.specs.Loading.{held, Loadable, Carried}
use Rattle.records_fill.specs.Handing.{Counts, Handable, Handed}
use Rattle.records_fill.proofs.Filling.{drop-further}

-- ---- lists
module _ {A : Type 0} where
  -- Two lists of one length with the same values are one.
  same-values : (l m : List A) (d : A) → length l ≡ length m → ((k : ℕ) → k < length m → get_or l k d ≡ get_or m k d) → l ≡ m
  same-values [] [] d e h = refl
  same-values [] (y ∷ ys) d e h = absurd (omega arith)
  same-values (x ∷ xs) [] d e h = absurd (omega arith)
  same-values (x ∷ xs) (y ∷ ys) d e h = rw (h 0 (omega arith), same-values xs ys d (omega arith) (λ k l. h (suc k) (omega arith)))

-- ---- tags
tagged-small : (N : ℕ) (r : Rec) → Below N (tags_of_record r) → Small N r
tagged-small N (eq a b) t = (t.0, t.1.0)
tagged-small N (app a b c) t = (t.0, t.1.0, t.1.1.0)

small-more : (N M : ℕ) (r : Rec) → N ≤ M → Small N r → Small M r
small-more N M (eq a b) l s = (omega (arith, s.0), omega (arith, s.1))
small-more N M (app a b c) l s = (omega (arith, s.0), omega (arith, s.1), omega (arith, s.2))

-- All records of a list have tags below N.
abbrev AllSmall : ℕ → List Rec → Type 0
AllSmall N [] = Unit {0}
AllSmall N (r ∷ rs) = Small N r × AllSmall N rs

all-at : (N : ℕ) (rs : List Rec) → AllSmall N rs → (k : ℕ) → k < length rs → Small N (get_or rs k (eq 0 0))
all-at N [] a k h = absurd (not-suc-le-zero h)
all-at N (r ∷ rs) a zero h = a.0
all-at N (r ∷ rs) a (suc k) h = all-at N rs a.1 k (le_of_suc-le-suc h)

all_append : (N : ℕ) (rs qs : List Rec) → AllSmall N rs → AllSmall N qs → AllSmall N (rs ++ qs)
all_append N [] qs a b = b
all_append N (r ∷ rs) qs a b = (a.0, all_append N rs qs a.1 b)

note-small : (N : ℕ) (n : Note) → Tagged N (noted n) → AllSmall N (stands_for n)
note-small N (line r h) t = (tagged-small N r t, tt)
note-small N (differ a b) t = tt

stands-small : (job : List ℕ) (N at : ℕ) (items : List Item) → Stands job N at items → AllSmall N (records_of items)
stands-small job N at [] s = tt
stands-small job N at (noted n ∷ is) (next e t v l s) = all_append N (stands_for n) (records_of is) (note-small N n t) (stands-small job N (behind_at job at) is s)
stands-small job N at (posed q ∷ is) (next e t v l s) = stands-small job N (behind_at job at) is s

-- Nothing to load.
pub none-loadable : (t : List Record) (w : List ℕ) → Large w → Loadable 0 t w
none-loadable t w h = record { most = omega arith; there = omega arith; long = h; small = λ k l. absurd (not-suc-le-zero l) }

module _ (job : List ℕ) (H : Head) (items : List Item) (e : reading job ≡ accepted H items) (t t' : List Record) where
  abbrev N : ℕ
  N = H.size

  abbrev rs : List Rec
  rs = records_of items

  abbrev n : ℕ
  n = length rs

  taken : Job job H items
  taken = accepted-stands job H items e

  pub job-small : (k : ℕ) → k < n → Small N (get_or rs k (eq 0 0))
  job-small = all-at N rs (stands-small job N (behind_at job 0) items taken.stands)

  module _ (f : Filled job n t t') where
    filled_at : (k : ℕ) → k < n → rec_of (get_or t' k blank) ≡ get_or rs k (eq 0 0)
    filled_at k l = ap rec_of (f.holds H items e (omega arith) k l) ∙ place-means (get_or rs k (eq 0 0)) (get_or (sheets_of items) k 0)

    -- The first places mean the job's records.
    pub filled-held : held n t' ≡ rs
    filled-held = same-values (held n t') rs (eq 0 0) (length-gather _ n) (λ k l. get_or-gather _ n k (eq 0 0) l ∙ filled_at k l)

    pub filled-loadable : (w : List ℕ) → n ≤ length t → Large w → Loadable n t' w
    filled-loadable w h l = record {
      most = taken.records;
      there = omega (arith, f.size, h);
      long = l;
      small = λ k b. rw (filled_at k b) (small-more N most_tags (get_or rs k (eq 0 0)) taken.most (job-small k b));
    }

    module _ (w w' : List ℕ) (c : Carried n t' w w') where
      -- The columns hold the job's records ..
      pub carried-records : records_in n w' ≡ rs
      carried-records = c.same ∙ filled-held

      -- .. with tags below N.
      pub carried-loaded : Large w → Loaded N n w'
      carried-loaded l = record {
        long = omega (arith, c.frame.size, l);
        some = taken.some;
        few = taken.most;
        most = taken.records;
        small = λ k b. rw (sym (get_or-gather (λ i. rec_at w' (suc i)) n k (eq 0 0) b) ∙ ap (λ (l : List Rec). get_or l k (eq 0 0)) carried-records) (job-small k b);
      }

-- ---- the whole way, for `take_in`
module _ (job : List ℕ) (t : List Record) (w : List ℕ) (n : ℕ) (h : Handable job t w n) where
  pub few : n ≤ most_records
  few = go h.count
    where
      go : (n ≡ 0) ⊎ Counts job n → n ≤ most_records
      go (inl z) = omega arith
      go (inr c) = omega (arith, c.records, (accepted-stands job c.head c.items c.reads).records)

  pub handable-fills : n ≤ length t
  handable-fills = omega (arith, few, h.places)

  pub handable-loads : (t' : List Record) → Filled job n t t' → Loadable n t' w
  handable-loads t' f = go h.count
    where
      go : (n ≡ 0) ⊎ Counts job n → Loadable n t' w
      go (inl z) = subst (λ (k : ℕ). Loadable k t' w) (sym z) (none-loadable t' w h.numbers)
      go (inr c) =
          subst (λ (k : ℕ). Loadable k t' w) (sym c.records)
          (filled-loadable job c.head c.items c.reads t t' (subst (λ (k : ℕ). Filled job k t t') c.records f) w (omega (arith, handable-fills, c.records)) h.numbers)

  pub taken_in : (t' : List Record) (w' : List ℕ) → Filled job n t t' → Carried n t' w w' → Handed job t w n t' w'
  taken_in t' w' f c = record {
    size = f.size;
    rest = drop-further n most_records t' t few f.rest;
    frame = c.frame;
    loaded = λ H items e k. subst (λ (m : ℕ). Loaded H.size m w') (sym k) (carried-loaded job H items e t t' (subst (λ (m : ℕ). Filled job m t t') k f) w w' (subst (λ (m : ℕ). Carried m t' w w') k c) h.numbers);
    records = λ H items e k. subst (λ (m : ℕ). records_in m w' ≡ records_of items) (sym k) (carried-records job H items e t t' (subst (λ (m : ℕ). Filled job m t t') k f) w w' (subst (λ (m : ℕ). Carried m t' w w') k c));
  }
