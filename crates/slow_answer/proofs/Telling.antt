-- The labels that the closure leaves are the smallest tags of their classes, so the seat of a tag's label is its leader. Assumes nothing.
use Prim.Native.Nat.{ℕ, suc, min, ◌-◌, ◌≤◌, ◌<◌}
use native.Mathlib.Omega.{arith}
use mathlib.Core.Path.{◌≡◌, refl, sym, ◌∙◌}
use mathlib.Core.Logic.{inl}
use mathlib.Core.Bool.{Bool, true, false}
use mathlib.Core.List.{List, [], ◌++◌}
use lib.ListN.{length, take, drop, get_or}
use Rattle.meaning.specs.Following.{eq}
use Rattle.meaning.specs.Limits.{most_tags}
use Rattle.meaning.specs.Looks.{under}
use Rattle.meaning.proofs.Laws.{follows-small, small-those}
use Rattle.meaning.proofs.Reference.{Small}
use Rattle.table.specs.Map.{label_of, saved_of, rec_at, records_in, gather, Loaded, Within}
use Rattle.table.specs.Places.{LABEL, SAVED, all_of}
use Rattle.table.proofs.Frame.{seen_at, seen-within, within-trans, within_wider, length-gather, get_or-gather}
use Rattle.table_labels.specs.Parts.{CountsUp}
use Rattle.table_labels.proofs.Views.{lent-within, lent_at}
use Rattle.leading.specs.Leading.{leader_in, Seatable, Seated}
use Rattle.report.specs.Report.{numbers, laid}
use Rattle.report.proofs.Laid.{laid_none}
use Rattle.answer_why.specs.Why.{Labelled}
use Rattle.slow_passes.specs.Passes.{After, Passes, finished, spent, Heads, Told, limited, watched}
use Rattle.slow_passes.proofs.Passes.{after-follows, passes-most, passes-follow, heads-leader, found-heads}
use Rattle.slow_close.specs.Closing.{slow_part, All, Advanced}
use Rattle.slow_answer.specs.Telling.{Seating, most_of, Answered}

none-laid : (room : List ℕ) → room ≡ laid 0 (numbers []) room
unfolding numbers
none-laid room = sym (laid_none 0 room)

-- Each tag on its own seat.
module _ {w w' : List ℕ} (v : List ℕ) {N U : ℕ} (h : Seating w N U) (size : length v ≡ length (take most_tags (drop SAVED.at w))) (e : w' ≡ take SAVED.at w ++ (v ++ drop most_tags (drop SAVED.at w))) (c : CountsUp v) where
  pub own-frame : Within (all_of SAVED) w w'
  own-frame = lent-within SAVED.at most_tags w w' v (omega (arith, h.long)) size e

  own-seats : (x : ℕ) → x < most_tags → saved_of w' x ≡ x
  own-seats x l = seen_at SAVED w' x l ∙ lent_at SAVED.at most_tags w w' v (omega (arith, h.long)) size e (λ i. i) c x l

  labels : label_of w' ≡ label_of w
  labels = seen-within LABEL own-frame (inl (omega arith))

  pub own-seatable : Seatable w' N U
  own-seatable = record {
    long = omega (arith, h.long, own-frame.size);
    few = h.few;
    units = h.units;
    low = λ x l. rw labels (h.low x l);
    own = λ x l. own-seats x (omega (arith, h.few));
  }

  pub seated-from : {w'' : List ℕ} → Seated w' w'' N U → Seated w w'' N U
  seated-from s = record { frame = within-trans own-frame s.frame; seats = λ l k. rw (← labels) (s.seats l k) }

small-in : {N len : ℕ} {w : List ℕ} → Loaded N len w → (i : ℕ) → i < length (records_in len w) → Small N (get_or (records_in len w) i (eq 0 0))
small-in {N} {len} {w} h i l =
    let m : i < len = rw (length-gather (λ k. rec_at w (suc k)) len) at l in
    rw (get_or-gather (λ k. rec_at w (suc k)) len i (eq 0 0) m) (h.small i m)

-- The passes that were asked for, with the labels they leave seated.
module _ {N U len most c : ℕ} {w w₁ : List ℕ} (h : Loaded N len w) (u : U ≤ N) (d : Advanced N len most w w₁ c) where
  pub seating-of : Seating w₁ N U
  seating-of = record { long = omega (arith, h.long, d.kept.size); few = h.few; units = u; low = λ x l. omega (arith, d.labels.low x) }

  -- The count is above the limit.
  pub told-spent : (limit : ℕ) (watch : Bool) → most ≡ most_of N limit watch → {room : List ℕ} → limit < c → Answered N U len limit watch w room w₁ room 19 0 0
  told-spent limit watch e₀ {room} l = record { kept = d.kept; place = refl; leaders = []; told = go watch (rw e₀ at d.made); front = none-laid room }
    where
      go : (b : Bool) → c ≡ min (most_of N limit b) d.count → Told N U (records_in len w) limit b 19 0 []
      go true e = absurd (omega (arith, e))
      go false e = limited (spent d.passes (omega (arith, e)))

  module _ {w₂ : List ℕ} (s : Seated w₁ w₂ N U) where
    same : label_of w₂ ≡ label_of w₁
    same = seen-within LABEL s.frame (inl (omega arith))

    full : length (gather (leader_in w₂) N) ≡ N
    full = length-gather (leader_in w₂) N

    -- Only tags are in the class of a tag.
    tags : (x y : ℕ) → x < N → After (All len w) c x y → y < N
    tags x y l r = (follows-small N (small-those N (small-in h)) (after-follows c r)).0 l

    heads : (x : ℕ) → x < N → Heads U (After (All len w) c) x (under (gather (leader_in w₂) N) x)
    heads x l = rw (get_or-gather (leader_in w₂) N x 0 l, same) (found-heads d.labels d.exact (λ y r. tags x y l r) (s.seats (label_of w₁ x) (omega (arith, d.labels.low x))))

    few : d.count ≤ N - 1
    few = passes-most N (records_in len w) (small-in h) h.some d.passes

    pub told-done : (limit : ℕ) (watch : Bool) → most ≡ most_of N limit watch → {room room' : List ℕ} → c ≤ limit → room' ≡ laid 0 (numbers (gather (leader_in w₂) N)) room → Answered N U len limit watch w room w₂ room' 0 0 c
    told-done limit watch e₀ l e = record { kept = within-trans d.kept (within_wider slow_part (omega arith) (omega arith) s.frame); place = refl; leaders = gather (leader_in w₂) N; told = go watch (rw e₀ at d.made); front = e }
      where
        go : (b : Bool) → c ≡ min (most_of N limit b) d.count → Told N U (records_in len w) limit b 0 c (gather (leader_in w₂) N)
        go true m = watched (record { count = d.count; passes = d.passes; made = m; full = full; each = heads })
        go false m =
            let k : c ≡ d.count = omega (arith, m, few, h.some) in
            let p : Passes (All len w) c = rw k d.passes in
            limited (finished p l (record { full = full; each = λ x n. heads-leader (λ y. passes-follow N (records_in len w) (small-in h) p x y) (heads x n) }))

-- What laying the leaders asks, once they are seated.
pub labelled-of : {w w₂ : List ℕ} {N U : ℕ} → Seating w N U → Seated w w₂ N U → Labelled w₂ N
labelled-of {w} {w₂} h s =
    let same : label_of w₂ ≡ label_of w = seen-within LABEL s.frame (inl (omega arith)) in
    record { long = omega (arith, h.long, s.frame.size); few = h.few; low = λ x l. rw same (omega (arith, h.low x l, h.few)) }
