-- The largest tag of each class stands where its leader's link will, and how many it has where the age will. No link is read there before, so the log does not change by it; and only the tags from the leader up to there need to be relabelled.
-- Assumes nothing.
use Prim.Native.Nat.{ℕ, zero, suc, ◌+◌, ◌-◌, ◌≤◌, ◌<◌}
use native.Mathlib.Omega.{arith}
use native.Mathlib.Decide.{ℕ_discrete, dec_lt}
use mathlib.Core.Path.{◌≡◌, refl, sym, ap, ◌∙◌, fun_ext}
use mathlib.Core.Logic.{◌≢◌, ◌⊎◌, inl, inr}
use mathlib.Core.List.{List, ◌++◌, map}
use lib.Dec.{leb}
use lib.ListN.{length, take, drop, get_or, length-drop, length-map, get_or-map}
use lib.Seq.{get_or-take, get_or-drop, length-take-le}
use borrow.Author.Tests.{le-ltb}
use Rattle.meaning.specs.Following.{Rec}
use Rattle.meaning.specs.Joins.{Join, put, count}
use Rattle.meaning.specs.Labels.{into}
use Rattle.meaning.specs.Forest.{root_in, root}
use Rattle.meaning.proofs.Count.{count_low}
use Rattle.meaning.proofs.Log.{put-hit, put-miss}
use Rattle.meaning.proofs.Relabel.{into-hit, into-miss, get_d_any}
use Rattle.meaning.specs.Limits.{most_tags}
use Rattle.table.specs.Map.{label_of, Within}
use Rattle.table.proofs.Frame.{seen_at, seen-past, within_wider}
use Rattle.table.specs.Places.{LABEL, Large, all_of, from_to}
use Rattle.table_labels.specs.Parts.{Relabelled}
use Rattle.table_labels.proofs.Views.{part-within, part_at}
use Rattle.all_join.specs.State.{Logged, Topped}
use Rattle.all_join.proofs.Joining.{leads}

-- What stands for a tag that leads changes no leader, as long as its age is none.
module _ (p g : ℕ → ℕ) (x v u a : ℕ) (old : most_tags ≤ g x) (new : most_tags ≤ u) (low : a ≤ most_tags) where
  kept_in : (n y : ℕ) → root_in (put x v p) (put x u g) a n y ≡ root_in p g a n y
  kept_in zero y = refl
  kept_in (suc n) y = elim (ℕ_discrete y x) [
    | yes e ↦ rw (e, put-hit x u g, le-ltb (g x) a (omega arith), le-ltb u a (omega arith))
    | no d ↦ rw (put-miss x v p y d, put-miss x u g y d, kept_in n (p y))
  ]

  root_kept : root (put x v p) (put x u g) a ≡ root p g a
  root_kept = fun_ext (λ y. kept_in y y)

module _ {rs : List Rec} {L : List ℕ} {places : ℕ} {p g : ℕ → ℕ} {e : ℕ → Join} {wh : ℕ → ℕ} {n : ℕ} (G : Logged rs L places p g e wh n) (x v u : ℕ) (own : root p g n x ≡ x) (heavy : most_tags ≤ u) where
  high : most_tags ≤ g x
  high = leads G x own

  kept : (a : ℕ) → a ≤ n → root (put x v p) (put x u g) a ≡ root p g a
  kept a l = root_kept p g x v u a high heavy (omega (arith, G.history.room))

  pub lead-top : root (put x v p) (put x u g) n ≡ root p g n
  lead-top = kept n (omega arith)

  -- One with a link is another.
  elsewhere : (y : ℕ) → put x u g y < n → y ≢ x
  elsewhere y l q = let z : put x u g y ≡ u = rw q (put-hit x u g) in omega (arith, G.history.room)

  age : (y : ℕ) → y ≢ x → put x u g y ≡ g y
  age = put-miss x u g

  older : (y : ℕ) → put x u g y < n → g y < n
  older y l = let z = age y (elsewhere y l) in omega arith

  rise : (y : ℕ) → g y < n → Dec (p y ≡ x) → g y < put x u g (p y)
  rise y l (yes q) = rw (q, put-hit x u g) (omega (arith, G.history.room))
  rise y l (no q) = rw (put-miss x u g (p y) q) (G.history.links.rise y l)

  once : (y z : ℕ) → put x u g y < n → put x u g y ≡ put x u g z → y ≡ z
  once y z l q =
      let a = age y (elsewhere y l) in
      let b = age z (elsewhere z (omega arith)) in
      G.history.links.once y z (older y l) (omega arith)

  ages : (y : ℕ) → Dec (y ≡ x) → (put x u g y < n) ⊎ (most_tags ≤ put x u g y)
  ages y (yes q) = rw (q, put-hit x u g) (inr heavy)
  ages y (no q) = rw (put-miss x u g y q) (G.history.links.age y)

  pub logged-top : Logged rs L places (put x v p) (put x u g) e wh n
  logged-top = record {
    history = record {
      links = record {
        down = λ y l. rw (put-miss x v p y (elsewhere y l)) (G.history.links.down y (older y l));
        rise = λ y l. rw (put-miss x v p y (elsewhere y l), age y (elsewhere y l)) (rise y (older y l) (ℕ_discrete (p y) x));
        once = once;
        age = λ y. ages y (ℕ_discrete y x);
      };
      room = G.history.room;
      then = λ a l. rw (kept a l) (G.history.then a l);
    };
    justified = G.justified;
    within = G.within;
    made = G.made;
    order = G.order;
    moments = λ k l. rw (kept (count (λ a. leb (wh a) k) n) (count_low (λ a. leb (wh a) k) n)) (G.moments k l);
  }

-- The tops after a join.
pub tops-join : {N : ℕ} {f p : ℕ → ℕ} (lo hi m : ℕ) → Topped N f p → lo < hi → hi < N → f lo ≡ lo → f hi ≡ hi
    → p lo ≤ m → p hi ≤ m → (m ≡ p lo) ⊎ (m ≡ p hi) → Topped N (λ x. into lo hi (f x)) (put lo m (put hi lo p))
tops-join {N} {f} {p} lo hi m t less high of-lo of-hi a b c = record { above = λ x l. above x l (ℕ_discrete (f x) hi) (ℕ_discrete (f x) lo); below = λ x l e. below x l e (ℕ_discrete x hi) (ℕ_discrete x lo) }
  where
    at-lo : put lo m (put hi lo p) lo ≡ m
    at-lo = put-hit lo m (put hi lo p)

    at-else : (y : ℕ) → y ≢ lo → y ≢ hi → put lo m (put hi lo p) y ≡ p y
    at-else y d e = put-miss lo m (put hi lo p) y d ∙ put-miss hi lo p y e

    above : (x : ℕ) → x < N → Dec (f x ≡ hi) → Dec (f x ≡ lo) → x ≤ put lo m (put hi lo p) (into lo hi (f x))
    above x l (yes e) d = let z : x ≤ p hi = rw e at (t.above x l) in rw (e, into-hit lo hi, at-lo) (omega arith)
    above x l (no e) (yes d) = let z : x ≤ p lo = rw d at (t.above x l) in rw (into-miss lo hi (f x) e, d, at-lo) (omega arith)
    above x l (no e) (no d) = rw (into-miss lo hi (f x) e, at-else (f x) d e) (t.above x l)

    few : (m ≡ p lo) ⊎ (m ≡ p hi) → m < N
    few (inl q) = rw q (t.below lo (omega arith) of-lo)
    few (inr q) = rw q (t.below hi high of-hi)

    same : (x : ℕ) → into lo hi (f x) ≡ x → x ≢ lo → f x ≡ x
    same x q d = elim (ℕ_discrete (f x) hi) [
      | yes z ↦ absurd (d (sym (rw (z, into-hit lo hi) at q)))
      | no z ↦ rw (into-miss lo hi (f x) z) at q
    ]

    below : (x : ℕ) → x < N → into lo hi (f x) ≡ x → Dec (x ≡ hi) → Dec (x ≡ lo) → put lo m (put hi lo p) x < N
    below x l q d (yes e) = rw (e, at-lo) (few c)
    below x l q (yes d) (no e) = absurd (omega (arith, clash))
      where
        clash : lo ≡ hi
        clash = sym (into-hit lo hi) ∙ ap (into lo hi) (sym of-hi) ∙ (rw d at q)
    below x l q (no d) (no e) = rw (at-else x e d) (t.below x l (same x q e))

-- Relabelling the part that has all tags of a label is relabelling all labels.
module _ (w w' v : List ℕ) (lo hi from top at n : ℕ) (long : Large w) (low : from ≤ top) (few : top < most_tags) (ea : at ≡ LABEL.at + from) (en : at + n ≡ LABEL.at + top + 1)
    (between : (x : ℕ) → label_of w x ≡ hi → (from ≤ x) × (x ≤ top)) (e : w' ≡ take at w ++ (v ++ drop n (drop at w))) (q : v ≡ map (into lo hi) (take n (drop at w))) where
  size : length v ≡ n
  size = rw q (length-map (take n (drop at w)) (into lo hi) ∙ length-take-le n (drop at w) (rw length-drop (omega arith)))

  frame : Within (from_to at (at + n)) w w'
  frame = rw e (part-within at n w v (omega arith) size)

  old : (y : ℕ) → y < n → get_or (take n (drop at w)) y 0 ≡ get_or w (at + y) 0
  old y l = get_or-take n (drop at w) y 0 l ∙ get_or-drop at w y 0

  inside : (x : ℕ) → from ≤ x → x ≤ top → label_of w' x ≡ into lo hi (label_of w x)
  inside x a b =
      let z : LABEL.at + x ≡ at + (x - from) = omega arith in
      let l : x - from < n = omega arith in
      rw (seen_at LABEL w' x (omega arith), seen_at LABEL w x (omega arith), z, e) (part_at at n w v (omega arith) size (x - from) l
      ∙ get_d_any v (x - from) 0 (into lo hi 0) (omega (arith, size)) ∙ ap (λ (u : List ℕ). get_or u (x - from) (into lo hi 0)) q ∙ get_or-map (into lo hi) (take n (drop at w)) (x - from) 0 ∙ ap (into lo hi) (old (x - from) l))

  -- Other tags have another label.
  other : (x : ℕ) → label_of w' x ≡ label_of w x → (label_of w x ≢ hi) → label_of w' x ≡ into lo hi (label_of w x)
  other x h d = h ∙ sym (into-miss lo hi (label_of w x) d)

  outside : (x : ℕ) → (x < from) ⊎ (top < x) → Dec (x < most_tags) → label_of w' x ≡ label_of w x
  outside x (inl h) (yes l) = rw (seen_at LABEL w' x l, seen_at LABEL w x l) (frame.same (LABEL.at + x) (inl (omega arith)))
  outside x (inr h) (yes l) = rw (seen_at LABEL w' x l, seen_at LABEL w x l) (frame.same (LABEL.at + x) (inr (omega arith)))
  outside x h (no l) = rw (seen-past LABEL w' x (omega arith), seen-past LABEL w x (omega arith))

  go : (x : ℕ) → Dec (x < from) → Dec (top < x) → label_of w' x ≡ into lo hi (label_of w x)
  go x (yes h) d = other x (outside x (inl h) (dec_lt x most_tags)) (λ z. omega (arith, between x z))
  go x (no h) (yes d) = other x (outside x (inr d) (dec_lt x most_tags)) (λ z. omega (arith, between x z))
  go x (no h) (no d) = inside x (omega arith) (omega arith)

  pub renamed-part : Relabelled w w' lo hi
  renamed-part = record { frame = within_wider (all_of LABEL) (omega arith) (omega arith) frame; labels = fun_ext (λ x. go x (dec_lt x from) (dec_lt top x)) }
