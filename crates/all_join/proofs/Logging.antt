-- The five stores that keep a join: what the log and the links show after one more.
-- Assumes nothing.
use Prim.Native.Nat.{ℕ, ◌+◌, ◌<◌}
use native.Mathlib.Omega.{arith}
use native.Mathlib.Decide.{ℕ_discrete}
use mathlib.Core.Path.{◌≡◌, ap, ◌∙◌, fun_ext}
use mathlib.Core.Logic.{inl, inr}
use mathlib.Core.List.{List}
use lib.ListN.{length, set, length-set}
use Rattle.meaning.specs.Joins.{put}
use Rattle.meaning.proofs.Log.{put-hit, put-miss}
use Rattle.meaning.specs.Limits.{most_tags}
use Rattle.table.specs.Map.{parent_of, age_of, first_of, second_of, when_of, join_by, join_at, Within}
use Rattle.table.proofs.Frame.{seen-in, seen-out, seen-within, within-trans, within_wider, within-set}
use Rattle.table.proofs.Kept.{lefts, rights, results}
use Rattle.table.specs.Places.{AGE, FIRST, Large, PARENT, SECOND, WHEN, before_marks, forest_part, joins_part, log_part}
use Rattle.all_join.specs.State.{noted}

-- The two for the link, then the three for the log.
pub noted-both : (w w₁ w₂ : List ℕ) (lo hi n k k' m : ℕ) → w₁ ≡ set (set w (PARENT.at + hi) lo) (AGE.at + hi) n → w₂ ≡ set (set (set w₁ (FIRST.at + n) k) (SECOND.at + n) k') (WHEN.at + n) m → w₂ ≡ noted w lo hi n k k' m
noted-both w w₁ w₂ lo hi n k k' m a b = b ∙ ap (λ (l : List ℕ). set (set (set l (FIRST.at + n) k) (SECOND.at + n) k') (WHEN.at + n) m) a

-- The five stores.
module _ (w : List ℕ) (long : Large w) (lo hi n k k' m : ℕ) (high : hi < most_tags) (young : n < most_tags) where
  abbrev w₁ : List ℕ
  w₁ = set w (PARENT.at + hi) lo

  abbrev w₂ : List ℕ
  w₂ = set w₁ (AGE.at + hi) n

  abbrev w₃ : List ℕ
  w₃ = set w₂ (FIRST.at + n) k

  abbrev w₄ : List ℕ
  w₄ = set w₃ (SECOND.at + n) k'

  abbrev pub stored : List ℕ
  stored = set w₄ (WHEN.at + n) m

  l₁ : length w₁ ≡ length w
  l₁ = length-set w (PARENT.at + hi) lo

  l₂ : length w₂ ≡ length w
  l₂ = length-set w₁ (AGE.at + hi) n ∙ l₁

  l₃ : length w₃ ≡ length w
  l₃ = length-set w₂ (FIRST.at + n) k ∙ l₂

  l₄ : length w₄ ≡ length w
  l₄ = length-set w₃ (SECOND.at + n) k' ∙ l₃

  linked : Within forest_part w w₂
  linked = within-trans (within-set forest_part w (PARENT.at + hi) lo (omega arith) (omega arith)) (within-set forest_part w₁ (AGE.at + hi) n (omega arith) (omega arith))

  logged : Within log_part w₂ stored
  logged = within-trans (within-set log_part w₂ (FIRST.at + n) k (omega arith) (omega arith))
      (within-trans (within-set log_part w₃ (SECOND.at + n) k' (omega arith) (omega arith)) (within-set log_part w₄ (WHEN.at + n) m (omega arith) (omega arith)))

  stored-frame : Within joins_part w stored
  stored-frame = within-trans (within_wider joins_part (omega arith) (omega arith) linked) (within_wider joins_part (omega arith) (omega arith) logged)

  stored-parent : parent_of stored ≡ put hi lo (parent_of w)
  stored-parent = seen-within PARENT logged (inl (omega arith)) ∙ seen-out PARENT w₁ (AGE.at + hi) n (inr (omega arith)) ∙ seen-in PARENT w hi lo high (omega arith)

  stored-age : age_of stored ≡ put hi n (age_of w)
  stored-age = seen-within AGE logged (inl (omega arith)) ∙ seen-in AGE w₁ hi n high (omega (arith, l₁))
      ∙ ap (put hi n) (seen-out AGE w (PARENT.at + hi) lo (inl (omega arith)))

  stored-first : first_of stored ≡ put n k (first_of w)
  stored-first = seen-out FIRST w₄ (WHEN.at + n) m (inr (omega arith)) ∙ seen-out FIRST w₃ (SECOND.at + n) k' (inr (omega arith))
      ∙ seen-in FIRST w₂ n k young (omega (arith, l₂)) ∙ ap (put n k) (seen-within FIRST linked (inr (omega arith)))

  stored-second : second_of stored ≡ put n k' (second_of w)
  stored-second = seen-out SECOND w₄ (WHEN.at + n) m (inr (omega arith)) ∙ seen-in SECOND w₃ n k' young (omega (arith, l₃))
      ∙ ap (put n k') (seen-out SECOND w₂ (FIRST.at + n) k (inl (omega arith)) ∙ seen-within SECOND linked (inr (omega arith)))

  stored-when : when_of stored ≡ put n m (when_of w)
  stored-when = seen-in WHEN w₄ n m young (omega (arith, l₄))
      ∙ ap (put n m) (seen-out WHEN w₃ (SECOND.at + n) k' (inl (omega arith)) ∙ seen-out WHEN w₂ (FIRST.at + n) k (inl (omega arith)) ∙ seen-within WHEN linked (inr (omega arith)))

  -- The log has one more join.
  stored-join : join_at stored ≡ put n (join_by w k k') (join_at w)
  stored-join = fun_ext (λ a. rw (stored-first, stored-second, lefts wide, rights wide, results wide) (go a (ℕ_discrete a n)))
    where
      wide : Within before_marks w stored
      wide = within_wider before_marks (omega arith) (omega arith) stored-frame

      go : (a : ℕ) → Dec (a ≡ n) → join_by w (put n k (first_of w) a) (put n k' (second_of w) a) ≡ put n (join_by w k k') (join_at w) a
      go a (yes q) = rw (q, put-hit n k (first_of w), put-hit n k' (second_of w), put-hit n (join_by w k k') (join_at w))
      go a (no q) = rw (put-miss n k (first_of w) a q, put-miss n k' (second_of w) a q, put-miss n (join_by w k k') (join_at w) a q)

-- What the joins kept show after one more, and after the two stores for the tag that leads its class from then on.
pub record Log (w w' : List ℕ) (lo hi n k k' m t u : ℕ) : Type 0 where
  pub parent : parent_of w' ≡ put lo t (put hi lo (parent_of w))
  pub age : age_of w' ≡ put lo u (put hi n (age_of w))
  pub join : join_at w' ≡ put n (join_by w k k') (join_at w)
  pub when : when_of w' ≡ put n m (when_of w)

module _ (w : List ℕ) (long : Large w) (lo hi n k k' m t u : ℕ) (low : lo < most_tags) (high : hi < most_tags) (young : n < most_tags) where
  abbrev w₀ : List ℕ
  w₀ = noted w lo hi n k k' m

  abbrev v₁ : List ℕ
  v₁ = set w₀ (PARENT.at + lo) t

  abbrev v₂ : List ℕ
  v₂ = set v₁ (AGE.at + lo) u

  first_frame : Within joins_part w w₀
  first_frame = stored-frame w long lo hi n k k' m high young

  long₀ : Large w₀
  long₀ = omega (arith, long, first_frame.size)

  long₁ : length v₁ ≡ length w₀
  long₁ = length-set w₀ (PARENT.at + lo) t

  leading : Within forest_part w₀ v₂
  leading = within-trans (within-set forest_part w₀ (PARENT.at + lo) t (omega arith) (omega arith)) (within-set forest_part v₁ (AGE.at + lo) u (omega arith) (omega arith))

  wide : Within before_marks w₀ v₂
  wide = within_wider before_marks (omega arith) (omega arith) leading

  both-frame : Within joins_part w v₂
  both-frame = within-trans first_frame (within_wider joins_part (omega arith) (omega arith) leading)

  both-log : Log w v₂ lo hi n k k' m t u
  both-log = record {
    parent = seen-out PARENT v₁ (AGE.at + lo) u (inr (omega arith)) ∙ seen-in PARENT w₀ lo t low (omega (arith, long₀)) ∙ ap (put lo t) (stored-parent w long lo hi n k k' m high young);
    age = seen-in AGE v₁ lo u low (omega (arith, long₀, long₁)) ∙ ap (put lo u) (seen-out AGE w₀ (PARENT.at + lo) t (inl (omega arith)) ∙ stored-age w long lo hi n k k' m high young);
    join = fun_ext (λ a. rw (seen-within FIRST leading (inr (omega arith)), seen-within SECOND leading (inr (omega arith)), lefts wide, rights wide, results wide)) ∙ stored-join w long lo hi n k k' m high young;
    when = seen-within WHEN leading (inr (omega arith)) ∙ stored-when w long lo hi n k k' m high young;
  }

  pub kept_frame : (w' : List ℕ) → w' ≡ v₂ → Within joins_part w w'
  kept_frame w' e = rw e both-frame

  pub kept-log : (w' : List ℕ) → w' ≡ v₂ → Log w w' lo hi n k k' m t u
  kept-log w' e = rw e both-log
