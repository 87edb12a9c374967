-- What the regions show after a pass wrote in its parts of the table. Assumes nothing.
use Prim.Native.Nat.{ℕ, suc, ◌+◌, ◌-◌, ◌≤◌, ◌<◌}
use native.Mathlib.Omega.{arith}
use native.Mathlib.Numerals.{add-one}
use native.Mathlib.Decide.{dec_lt}
use mathlib.Core.Path.{◌≡◌, sym, ap, ◌∙◌, fun_ext}
use mathlib.Core.Logic.{inl, inr}
use mathlib.Core.List.{List, ◌++◌, map}
use lib.ListN.{length, take, drop, get_or, set, length-drop, length-map, length-set, get_or-map}
use lib.Seq.{get_or-take, get_or-drop, length-take-le}
use Rattle.meaning.specs.Labels.{into}
use Rattle.meaning.specs.Joins.{put}
use Rattle.meaning.proofs.Relabel.{into-miss, get_d_any}
use Rattle.meaning.specs.Limits.{most_records, most_tags}
use Rattle.std.specs.List.{CopiedTo, SameBelow, SameFrom}
use Rattle.table.specs.Map.{seen, saved_of, next_of, head_of, Within}
use Rattle.table.proofs.Frame.{seen_at, seen-past, seen-in, seen-out, within-trans, within_wider, within-set}
use Rattle.table.specs.Places.{HEADS, Region, Large, NEXT, SAVED, all_of, chain_part, from_to, head_count}
use Rattle.table_labels.specs.Parts.{Own, Fills}
use Rattle.table_labels.proofs.Views.{part_at, part-within, lent-within, lent_at, seen-zero}
use Rattle.slow_chain.specs.Parts.{Cleared, NewLabelled}

-- Relabelling the part of the first N labels to come is relabelling all: the others are no tag's.
pub new-labelled : (N : ℕ) (w w' v : List ℕ) (lo hi : ℕ) → Large w → N ≤ most_tags → hi < N → Own N (saved_of w) → w' ≡ take SAVED.at w ++ (v ++ drop N (drop SAVED.at w)) → v ≡ map (into lo hi) (take N (drop SAVED.at w))
    → NewLabelled w w' lo hi
new-labelled N w w' v lo hi long few h own e q = record { frame = within_wider (all_of SAVED) (omega arith) (omega arith) frame; labels = fun_ext (λ x. go x (dec_lt x N)) }
  where
    size : length v ≡ N
    size = rw q (length-map (take N (drop SAVED.at w)) (into lo hi) ∙ length-take-le N (drop SAVED.at w) (rw length-drop (omega arith)))

    frame : Within (from_to SAVED.at (SAVED.at + N)) w w'
    frame = rw e (part-within SAVED.at N w v (omega arith) size)

    old : (x : ℕ) → x < N → get_or (take N (drop SAVED.at w)) x 0 ≡ get_or w (SAVED.at + x) 0
    old x l = get_or-take N (drop SAVED.at w) x 0 l ∙ get_or-drop SAVED.at w x 0

    beyond : (x : ℕ) → N ≤ x → Dec (x < most_tags) → saved_of w' x ≡ saved_of w x
    beyond x l (yes k) = rw (seen_at SAVED w' x k, seen_at SAVED w x k) (frame.same (SAVED.at + x) (inr (omega arith)))
    beyond x l (no k) = rw (seen-past SAVED w' x (omega arith), seen-past SAVED w x (omega arith))

    go : (x : ℕ) → Dec (x < N) → saved_of w' x ≡ into lo hi (saved_of w x)
    go x (yes l) =
        rw (seen_at SAVED w' x (omega arith), seen_at SAVED w x (omega arith), e) (part_at SAVED.at N w v (omega arith) size x l
        ∙ get_d_any v x 0 (into lo hi 0) (omega (arith, size)) ∙ ap (λ (u : List ℕ). get_or u x (into lo hi 0)) q ∙ get_or-map (into lo hi) (take N (drop SAVED.at w)) x 0 ∙ ap (into lo hi) (old x l))
    go x (no l) = beyond x (omega arith) (dec_lt x most_tags) ∙ own x (omega arith) ∙ sym (into-miss lo hi x (omega arith)) ∙ ap (into lo hi) (sym (own x (omega arith)))

-- No chains.
module _ (w w' v : List ℕ) (long : Large w) where
  pub cleared : length v ≡ length (take (most_records + head_count) (drop NEXT.at w)) → w' ≡ take NEXT.at w ++ (v ++ drop (most_records + head_count) (drop NEXT.at w)) → Fills v 0 → Cleared w w'
  cleared s e h = record { frame = lent-within NEXT.at (most_records + head_count) w w' v (omega arith) s e; heads = λ b. seen-zero HEADS.at head_count w' b (λ x l. head x l); nexts = λ r. seen-zero NEXT.at most_records w' r (λ x l. zero-at x (omega arith)) }
    where
      zero-at : (x : ℕ) → x < most_records + head_count → get_or w' (NEXT.at + x) 0 ≡ 0
      zero-at = lent_at NEXT.at (most_records + head_count) w w' v (omega arith) s e (λ i. 0) h

      head : (b : ℕ) → b < head_count → get_or w' (HEADS.at + b) 0 ≡ 0
      head b l = let q : HEADS.at + b ≡ NEXT.at + (most_records + b) = omega arith in rw q (zero-at (most_records + b) (omega arith))

-- A region is copied to another of as many tags, with the same rule past the end: the other shows then what the one did.
module _ (w w' : List ℕ) (from to : Region) (size : from.size ≡ to.size) (past : from.past ≡ to.past) (still : length w' ≡ length w) (copied : CopiedTo w w' from.at to.at to.size) (low : SameBelow w w' to.at) (high : SameFrom w w' (to.at + to.size)) where
  pub copied-frame : Within (all_of to) w w'
  copied-frame = record { size = still; same = λ i h. elim h [ inl l ↦ low i 0 l | inr l ↦ high i 0 l ] }

  pub copied-seen : seen to w' ≡ seen from w
  copied-seen = fun_ext (λ x. go x (dec_lt x to.size))
    where
      go : (x : ℕ) → Dec (x < to.size) → seen to w' x ≡ seen from w x
      go x (yes l) =
          let e : to.at + x - to.at ≡ x = omega arith in
          seen_at to w' x l ∙ copied (to.at + x) 0 (omega arith) (omega arith) ∙ rw e (sym (seen_at from w x (rw size l)))
      go x (no l) = seen-past to w' x (omega arith) ∙ ap (λ (f : ℕ → ℕ). f x) (sym past) ∙ sym (seen-past from w x (rw size (omega arith)))

-- Place i was put at the head of a bucket's chain.
module _ (w w' : List ℕ) (i b : ℕ) (long : Large w) (room : i < most_records) (low : b < head_count) (e : w' ≡ set (set w (NEXT.at + i) (head_of w b)) (HEADS.at + b) (i + 1)) where
  abbrev w₁ : List ℕ
  w₁ = set w (NEXT.at + i) (head_of w b)

  still-long : length w₁ ≡ length w
  still-long = length-set w (NEXT.at + i) (head_of w b)

  pub put-frame : Within chain_part w w'
  put-frame = rw e (within-trans (within-set chain_part w (NEXT.at + i) (head_of w b) (omega arith) (omega arith)) (within-set chain_part w₁ (HEADS.at + b) (i + 1) (omega arith) (omega arith)))

  pub put-heads : head_of w' ≡ put b (suc i) (head_of w)
  put-heads = rw (e, add-one) (seen-in HEADS w₁ b (suc i) low (omega (arith, still-long, long))
      ∙ ap (put b (suc i)) (seen-out HEADS w (NEXT.at + i) (head_of w b) (inl (omega arith))))

  pub put-nexts : next_of w' ≡ put i (head_of w b) (next_of w)
  put-nexts = rw e (seen-out NEXT w₁ (HEADS.at + b) (i + 1) (inr (omega arith)) ∙ seen-in NEXT w i (head_of w b) room (omega (arith, long)))
