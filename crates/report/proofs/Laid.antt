-- What laying bytes into the room leaves: the bytes before and behind are as they were, the length is kept, and two pieces laid one
-- behind the other are one.
-- Assumes nothing.
use Prim.Native.Nat.{ℕ, ◌+◌, ◌-◌, ◌≤◌}
use native.Mathlib.Omega.{arith}
use mathlib.Core.Path.{◌≡◌, sym, ◌∙◌, ap}
use mathlib.Core.List.{List, [], ◌++◌, append_assoc}
use lib.ListN.{length, take, drop, length-append, length-take, length-drop, take-append-drop}
use lib.Seq.{sets, sets-eq, length-take-le, take_at, drop_at, take-append-le, take-take, drop-drop, drop-append-add, take-append_seam}
use Rattle.report.specs.Report.{laid}

-- A run of stores lays its bytes.
pub laid-sets : (at : ℕ) (bs room : List ℕ) → at + length bs ≤ length room → sets room at bs ≡ laid at bs room
unfolding laid
laid-sets at bs room l = sets-eq bs room at l ∙ append_assoc (take at room) bs (drop (at + length bs) room)

-- What is laid at the front of the room stands before all that lies behind it.
pub laid-front : (bs room : List ℕ) → laid 0 bs room ≡ bs ++ drop (length bs) room
unfolding laid
laid-front bs room = let e : 0 + length bs ≡ length bs = omega arith in rw e

pub laid_none : (at : ℕ) (room : List ℕ) → laid at [] room ≡ room
unfolding laid
laid_none at room = let e : at + 0 ≡ at = omega arith in rw e (take-append-drop at room)

module _ (at : ℕ) (bs room : List ℕ) (fits : at + length bs ≤ length room) where
  pub length-laid : length (laid at bs room) ≡ length room
  unfolding laid
  length-laid = simp (length-append, length-take, length-drop) (omega arith)

  -- The front that ends with what is laid.
  length-head : length (take at room ++ bs) ≡ at + length bs
  length-head = length-append (take at room) bs ∙ ap (λ (n : ℕ). n + length bs) (length-take-le at room (omega arith))

  laid-split : laid at bs room ≡ (take at room ++ bs) ++ drop (at + length bs) room
  unfolding laid
  laid-split = sym (append_assoc (take at room) bs (drop (at + length bs) room))

  laid-head : take (at + length bs) (laid at bs room) ≡ take at room ++ bs
  laid-head = ap (λ (l : List ℕ). take (at + length bs) l) laid-split ∙ take_at (take at room ++ bs) (drop (at + length bs) room) (at + length bs) length-head

  -- The bytes before the place.
  pub laid-before : (n : ℕ) → n ≤ at → take n (laid at bs room) ≡ take n room
  unfolding laid
  laid-before n l =
      let e : length (take at room) ≡ at = length-take-le at room (omega arith) in
      take-append-le n (take at room) (bs ++ drop (at + length bs) room) (omega arith) ∙ take-take n at room l

  -- The bytes laid.
  pub laid-here : take (length bs) (drop at (laid at bs room)) ≡ bs
  unfolding laid
  laid-here =
      ap (λ (l : List ℕ). take (length bs) l) (drop_at (take at room) (bs ++ drop (at + length bs) room) at (length-take-le at room (omega arith)))
      ∙ take-append_seam bs (drop (at + length bs) room)

  -- The bytes behind what is laid.
  pub laid-behind : (n : ℕ) → at + length bs ≤ n → drop n (laid at bs room) ≡ drop n room
  laid-behind n l =
      let p = take at room ++ bs in
      let d = drop (at + length bs) room in
      let m = n - (at + length bs) in
      let e : n ≡ at + length bs + m = omega arith in
      let e' : n ≡ length p + m = omega (arith, length-head) in
      ap (λ (r : List ℕ). drop n r) laid-split
      ∙ ap (λ (k : ℕ). drop k (p ++ d)) e'
      ∙ drop-append-add p d m
      ∙ drop-drop m (at + length bs) room
      ∙ ap (λ (k : ℕ). drop k room) (sym e)

  -- The next piece goes behind it, and the two are one.
  pub laid_on : (cs : List ℕ) → laid (at + length bs) cs (laid at bs room) ≡ laid at (bs ++ cs) room
  unfolding laid
  laid_on cs =
      let e : at + length bs + length cs ≡ at + length (bs ++ cs) = omega (arith, length-append bs cs) in
      ap (λ (r : List ℕ). r ++ (cs ++ drop (at + length bs + length cs) (laid at bs room))) laid-head
      ∙ ap (λ (r : List ℕ). (take at room ++ bs) ++ (cs ++ r)) (laid-behind (at + length bs + length cs) (omega arith))
      ∙ ap (λ (k : ℕ). (take at room ++ bs) ++ (cs ++ drop k room)) e
      ∙ append_assoc (take at room) bs (cs ++ drop (at + length (bs ++ cs)) room)
      ∙ ap (λ (r : List ℕ). take at room ++ r) (sym (append_assoc bs cs (drop (at + length (bs ++ cs)) room)))

-- The same where a step of the code has left the room as w and goes on at n.
pub laid_then : (at n : ℕ) (bs cs room w : List ℕ) → at + length bs ≤ length room → n ≡ at + length bs → w ≡ laid at bs room → laid n cs w ≡ laid at (bs ++ cs) room
laid_then at n bs cs room w fits e h = rw (e, h) (laid_on at bs room fits cs)
