-- What the regions show after a part of the table was written: a frame keeps each region outside it, and so the records that are read off the columns.
-- Assumes nothing.
use Prim.Native.Nat.{ℕ, ◌+◌, ◌-◌, ◌≤◌, ◌<◌}
use native.Mathlib.Omega.{arith}
use native.Mathlib.Decide.{dec_lt}
use mathlib.Core.Path.{◌≡◌, sym, ap, ◌∙◌}
use mathlib.Core.Logic.{◌⊎◌, inl, inr}
use mathlib.Core.List.{List, ◌++◌, append_assoc}
use lib.ListN.{length, take, drop, get_or, length-append, length-drop, get_or-append}
use lib.Seq.{get_or-take, get_or-drop, length-take-le, drop_at, drop-drop}
use Rattle.meaning.specs.Labels.{classes}
use Rattle.meaning.proofs.Relabel.{start-classes}
use Rattle.meaning.specs.Limits.{most_tags}
use Rattle.table.specs.Map.{label_of, seen, Within}
use Rattle.table.proofs.Frame.{seen_at, seen-past}
use Rattle.table.specs.Places.{LABEL, Large, from_to, plain}
use Rattle.table_labels.specs.Parts.{CountsUp, Fresh}

-- A part that was lent comes back as the list v.
module _ (at n : ℕ) (w v : List ℕ) (fits : at + n ≤ length w) (size : length v ≡ n) where
  front : length (take at w) ≡ at
  front = length-take-le at w (omega arith)

  part-size : length (take at w ++ (v ++ drop n (drop at w))) ≡ length w
  part-size = simp (length-append, front, length-drop) (omega arith)

  pub part_at : (x : ℕ) → x < n → get_or (take at w ++ (v ++ drop n (drop at w))) (at + x) 0 ≡ get_or v x 0
  part_at x l =
      sym (get_or-drop at (take at w ++ (v ++ drop n (drop at w))) x 0) ∙ ap (λ (u : List ℕ). get_or u x 0) (drop_at (take at w) (v ++ drop n (drop at w)) at front)
      ∙ get_or-append v (drop n (drop at w)) 0 x (omega arith)

  pub part-within : Within (from_to at (at + n)) w (take at w ++ (v ++ drop n (drop at w)))
  part-within = record { size = part-size; same = λ i. same i }
    where
      tail : drop (at + n) (take at w ++ (v ++ drop n (drop at w))) ≡ drop (at + n) w
      tail =
          ap (drop (at + n)) (sym (append_assoc (take at w) v (drop n (drop at w))))
          ∙ drop_at (take at w ++ v) (drop n (drop at w)) (at + n) (length-append (take at w) v ∙ simp front (omega arith))
          ∙ drop-drop n at w

      same : (i : ℕ) → (i < at) ⊎ (at + n ≤ i) → get_or (take at w ++ (v ++ drop n (drop at w))) i 0 ≡ get_or w i 0
      same i (inl l) = get_or-append (take at w) (v ++ drop n (drop at w)) 0 i (omega (arith, front)) ∙ get_or-take at w i 0 l
      same i (inr l) =
          let e : (at + n) + (i - (at + n)) ≡ i = omega arith in
          rw (← e) (sym (get_or-drop (at + n) _ (i - (at + n)) 0) ∙ ap (λ (u : List ℕ). get_or u (i - (at + n)) 0) tail ∙ get_or-drop (at + n) w (i - (at + n)) 0)

-- A part that was filled, or that counts up.
module _ (at n : ℕ) (w w' v : List ℕ) (fits : at + n ≤ length w) (size : length v ≡ length (take n (drop at w))) (e : w' ≡ take at w ++ (v ++ drop n (drop at w))) where
  part_length : length v ≡ n
  part_length = size ∙ length-take-le n (drop at w) (rw length-drop (omega arith))

  pub lent-within : Within (from_to at (at + n)) w w'
  lent-within = rw e (part-within at n w v fits part_length)

  pub lent_at : (f : ℕ → ℕ) → ((i : ℕ) → i < length v → get_or v i 0 ≡ f i) → (x : ℕ) → x < n → get_or w' (at + x) 0 ≡ f x
  lent_at f h x l = rw e (part_at at n w v fits part_length x l ∙ h x (omega (arith, part_length)))

-- A region of noughts.
pub seen-zero : (at n : ℕ) (w : List ℕ) (x : ℕ) → ((x : ℕ) → x < n → get_or w (at + x) 0 ≡ 0) → seen (plain at n) w x ≡ 0
seen-zero at n w x h = elim (dec_lt x n) [ yes l ↦ seen_at (plain at n) w x l ∙ h x l | no l ↦ seen-past (plain at n) w x (omega arith) ]

module _ (w w' v : List ℕ) (long : Large w) where
  pub freshened : length v ≡ length (take most_tags (drop LABEL.at w)) → w' ≡ take LABEL.at w ++ (v ++ drop most_tags (drop LABEL.at w)) → CountsUp v → Fresh w w'
  freshened s e h = record { frame = lent-within LABEL.at most_tags w w' v (omega arith) s e; labels = λ x. go x (dec_lt x most_tags) }
    where
      go : (x : ℕ) → Dec (x < most_tags) → label_of w' x ≡ x
      go x (yes l) = seen_at LABEL w' x l ∙ lent_at LABEL.at most_tags w w' v (omega arith) s e (λ i. i) h x l
      go x (no l) = seen-past LABEL w' x (omega arith)

-- Each tag its own label: no class is joined.
pub fresh-total : {f : ℕ → ℕ} (N : ℕ) → f ≡ (λ x. x) → 0 + classes f N ≡ N
fresh-total N e = rw e (omega (arith, start-classes N))
