-- The joins made by record k are the first few, since joins stand in the order of their records; so the newest join between two tags
-- was made at the first record that makes them equal. Assumes nothing.
use Prim.Native.Nat.{ℕ, zero, suc, ◌+◌, ◌≤◌, ◌<◌}
use native.Mathlib.Omega.{arith}
use native.Mathlib.Numerals.{add-one}
use native.Mathlib.Decide.{ℕ_discrete, dec_lt, dec_le}
use mathlib.Core.Path.{◌≡◌, refl, sym, ◌∙◌}
use mathlib.Core.Logic.{◌⊎◌, inl, inr}
use mathlib.Core.List.{List}
use lib.Dec.{leb}
use borrow.Author.Tests.{le-leb, lt-leb}
use Rattle.meaning.specs.Following.{Follows, UpTo, Least}
use Rattle.meaning.specs.Reasons.{FirstAt}
use Rattle.meaning.specs.Joins.{count}
use Rattle.meaning.specs.Forest.{root, Links}
use Rattle.meaning.proofs.Count.{count_low}
use Rattle.meaning.proofs.Forest.{root-stop, root-up, root-ind}
use Rattle.meaning.proofs.Log.{linked_up}
use Rattle.meaning.proofs.Exact.{settled_same, settled-least}
use Rattle.meaning.specs.Limits.{most_tags}
use Rattle.table.specs.Map.{parent_of, age_of, when_of, records_in}
use Rattle.table.specs.Past.{Past, age_by, leader_after}
use Rattle.moment.specs.Meeting.{leader_at, Met}
use Rattle.moment.proofs.Kept.{links-all}

-- One more join counted, or not.
pub count-in : (h : ℕ → ℕ) (k a n r : ℕ) → r ≡ h a → r ≤ k → n ≡ count (λ i. leb (h i) k) a → n + 1 ≡ count (λ i. leb (h i) k) (a + 1)
count-in h k a n r e l q = rw (add-one a, le-leb (h a) k (omega arith)) (omega arith)

pub count-out : (h : ℕ → ℕ) (k a n r : ℕ) → r ≡ h a → k < r → n ≡ count (λ i. leb (h i) k) a → n ≡ count (λ i. leb (h i) k) (a + 1)
count-out h k a n r e l q = rw (add-one a, lt-leb (h a) k (omega arith)) q

-- Where h rises, the numbers counted are the first.
module _ (h : ℕ → ℕ) (k : ℕ) where
  front-in : (n : ℕ) → ((a b : ℕ) → a ≤ b → b < n → h a ≤ h b) → (a : ℕ) → a < n → h a ≤ k → a < count (λ i. leb (h i) k) n
  front-in zero rise a l m = absurd (omega arith)
  front-in (suc n) rise a l m = go (front-in n (λ b c i j. rise b c i (omega arith))) (dec_le (h n) k)
    where
      full : (m : ℕ) → m ≡ n → ((b : ℕ) → b < n → h b ≤ k → b < count (λ i. leb (h i) k) n) → h n ≤ k → m ≤ count (λ i. leb (h i) k) n
      full zero e f i = omega arith
      full (suc m) e f i = f m (omega arith) (omega (arith, rise m n (omega arith) (omega arith)))

      last : ((b : ℕ) → b < n → h b ≤ k → b < count (λ i. leb (h i) k) n) → h n ≤ k → Dec (a < n) → a < suc (count (λ i. leb (h i) k) n)
      last f i (yes j) = omega (arith, f a j m)
      last f i (no j) = omega (arith, full n refl f i)

      early : ¬ (h n ≤ k) → Dec (a ≡ n) → a < n
      early i (yes q) = absurd (i (rw q at m))
      early i (no q) = omega arith

      go : ((b : ℕ) → b < n → h b ≤ k → b < count (λ i. leb (h i) k) n) → Dec (h n ≤ k) → a < count (λ i. leb (h i) k) (suc n)
      go f (yes i) = rw (le-leb (h n) k i) (last f i (dec_lt a n))
      go f (no i) = rw (lt-leb (h n) k (omega arith)) (f a (early i (ℕ_discrete a n)) m)

  front_out : (n : ℕ) → ((a b : ℕ) → a ≤ b → b < n → h a ≤ h b) → (a : ℕ) → a < n → k < h a → count (λ i. leb (h i) k) n ≤ a
  front_out zero rise a l m = absurd (omega arith)
  front_out (suc n) rise a l m = rw (lt-leb (h n) k (omega (arith, rise a n (omega arith) (omega arith)))) (go (front_out n (λ b c i j. rise b c i (omega arith)) a) (dec_lt a n))
    where
      go : (a < n → k < h a → count (λ i. leb (h i) k) n ≤ a) → Dec (a < n) → count (λ i. leb (h i) k) n ≤ a
      go f (yes j) = f j m
      go f (no j) = omega (arith, count_low (λ i. leb (h i) k) n)

-- No join has an age from n up to 1,000, so the leaders do not change there.
root-beyond : (p g : ℕ → ℕ) (n a : ℕ) → Links p g most_tags n → n ≤ a → a ≤ most_tags → (x : ℕ) → root p g a x ≡ root p g n x
root-beyond p g n a K l m = root-ind p g most_tags n K n (omega arith) (omega arith) (λ x. root p g a x ≡ root p g n x)
    (λ x h. root-stop p g most_tags most_tags (links-all K (omega arith)) a m (omega arith) x (top x h (K.age x)) ∙ sym (root-stop p g most_tags n K n (omega arith) (omega arith) x h))
    (λ x h q. root-up p g most_tags most_tags (links-all K (omega arith)) a m (omega arith) x (omega arith) ∙ q ∙ sym (root-up p g most_tags n K n (omega arith) (omega arith) x h))
  where
    top : (x : ℕ) → n ≤ g x → (g x < n) ⊎ (most_tags ≤ g x) → a ≤ g x
    top x h (inl i) = absurd (omega arith)
    top x h (inr i) = omega arith

module _ {N len n : ℕ} {w : List ℕ} (P : Past N len w n) where
  -- The leader that the table gives at the age of record k is the leader by records 1 to k.
  pub least-after : (k : ℕ) → k ≤ len → (x : ℕ) → Least (UpTo (records_in len w) k) x (leader_after w n k x)
  least-after k l x = settled-least (P.moments k l) x

  pub age-after-most : (k : ℕ) → age_by w n k ≤ n
  age-after-most k = count_low (λ a. leb (when_of w a) k) n

  -- The age of a moment is that of a join, or one more.
  pub age-low : (k a : ℕ) → a ≡ age_by w n k → a ≤ most_tags
  age-low k a e = omega (arith, age-after-most k, P.history.room)

  -- A join has been made once its own record is in.
  pub made_by : (b : ℕ) → b < n → b < age_by w n (when_of w b)
  made_by b l = front-in (when_of w) (when_of w b) n P.order b l (omega arith)

  -- Once together, together.
  together-later : (s t a b : ℕ) → a ≤ b → b ≤ n → leader_at w a s ≡ leader_at w a t → leader_at w b s ≡ leader_at w b t
  together-later s t a b l m q = (P.history.then b m).labels s t (linked_up b l ((P.history.then a (omega arith)).joins s t q))

  module _ {s t b : ℕ} (M : Met w s t b) where
    -- The age is that of a join, or 1,000.
    pub met-join : b < most_tags → b < n
    met-join l = go (dec_lt b n)
      where
        go : Dec (b < n) → b < n
        go (yes h) = h
        go (no h) = absurd (M.apart n (omega arith) (sym (beyond s) ∙ M.joined l ∙ beyond t))
          where
            beyond : (x : ℕ) → leader_at w (suc b) x ≡ leader_at w n x
            beyond = root-beyond (parent_of w) (age_of w) n (suc b) P.history.links (omega arith) (omega arith)

    -- The record at which the newest join was made is the first that makes the two equal.
    pub met-first : b < n → FirstAt (records_in len w) s t (when_of w b)
    met-first l = record {
      then = (settled_same (P.moments (when_of w b) (P.made b l).1) s t).1 (together-later s t (suc b) (age_by w n (when_of w b))
          (made_by b l) (age-after-most (when_of w b)) (M.joined (omega (arith, P.history.room))));
      before = λ m h f. M.apart (age_by w n m) (front_out (when_of w) m n P.order b l h) ((settled_same (P.moments m (omega (arith, (P.made b l).1))) s t).0 f);
    }

    -- Where it was made later than record R, or never, the two are not equal by records 1 to R.
    pub met-later : (R : ℕ) → R ≤ len → b < n → R < when_of w b → Follows (UpTo (records_in len w) R) s t → ⊥
    met-later R m l h f = M.apart (age_by w n R) (front_out (when_of w) R n P.order b l h) ((settled_same (P.moments R m) s t).0 f)

    pub met-never : (R : ℕ) → R ≤ len → b ≡ most_tags → Follows (UpTo (records_in len w) R) s t → ⊥
    met-never R m q f = M.apart (age_by w n R) (omega (arith, age-after-most R, P.history.room)) ((settled_same (P.moments R m) s t).0 f)
